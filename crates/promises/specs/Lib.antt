pub mod Calls
pub mod Promises
pub mod Rewritten
pub mod Width
