-- What the contracts of this crate cite besides the rules and the image.
pub mod Admitted
pub mod Answers
pub mod Operands
pub mod Rows
