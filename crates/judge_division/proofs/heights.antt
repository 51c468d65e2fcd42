mod Held
mod Childless
