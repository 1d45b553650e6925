-- What is proved beside the functions, for several of them.
pub mod Loops
pub mod Sections
pub mod Columns
pub mod Lists
pub mod Stands
pub mod Runs
pub mod Verdicts
pub mod Threads
