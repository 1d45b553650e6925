-- What is proved beside the functions, for several of them.
pub mod Sections
pub mod Passed
pub mod Operands
pub mod Dispatch
pub mod Undamaged
