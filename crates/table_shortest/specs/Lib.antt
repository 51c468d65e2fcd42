pub mod ArcChecks
pub mod NodeChecks
pub mod WalkChecks
pub mod Stamps
