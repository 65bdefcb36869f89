pub mod Accepted
pub mod Held
pub mod Place
pub mod Profile
pub mod Test
