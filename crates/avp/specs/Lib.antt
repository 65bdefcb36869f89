pub mod Step
pub mod Walk
pub mod Found
pub mod Written
