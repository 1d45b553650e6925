-- The rules of document 01, in its terms and its order: what a reader has to believe. Definitions and statements only.
pub mod Tests
pub mod Settings
pub mod State
pub mod Image
pub mod Phases
pub mod Damaged
pub mod SetUp
pub mod Operations
pub mod Advance
pub mod Replies
pub mod Step
pub mod ListQuestion
pub mod Schedules
pub mod Demand3
pub mod Program
pub mod Cases
