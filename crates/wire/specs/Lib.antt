pub mod Number
pub mod Put
pub mod Stretch
pub mod Table
