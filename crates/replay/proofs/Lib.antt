-- What is proved beside the functions, for several of them.
pub mod Numbers
pub mod Runs
