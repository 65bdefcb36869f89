pub mod CallLaws
pub mod Contracts
pub mod Done
pub mod Newer
pub mod Once
pub mod ReadBack
pub mod Rewritten
pub mod Runs
