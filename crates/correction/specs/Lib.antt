pub mod Judged
pub mod Kind
pub mod Refusal
