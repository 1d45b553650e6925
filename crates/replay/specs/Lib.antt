-- What the contracts of this crate cite besides the rules.
pub mod Line
pub mod Short
pub mod Steps
pub mod Tally
