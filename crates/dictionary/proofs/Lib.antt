pub mod Order
pub mod Numbers
mod Cases
