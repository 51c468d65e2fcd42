mod Counted
mod Sizes
mod Chains
mod Rises
mod Climbs
mod Numbering
