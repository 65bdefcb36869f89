pub mod CountLaws
pub mod DecimalLaws
pub mod DeskLaws
pub mod ExtraLaws
pub mod FieldLaws
pub mod ReplyLaws
pub mod ServeLaws
