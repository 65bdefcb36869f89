pub mod Copied
pub mod Packed
