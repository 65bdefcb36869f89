pub mod Parts
pub mod Ask
