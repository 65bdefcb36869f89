pub mod Header
pub mod Visit
pub mod Message
