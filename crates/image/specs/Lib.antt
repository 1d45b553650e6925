-- What the contracts of this crate cite besides the rules.
pub mod Stands
pub mod Views
pub mod Filled
