pub mod Desk
pub mod Entry
pub mod Serve
