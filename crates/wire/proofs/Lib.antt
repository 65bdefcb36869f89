pub mod ListLaws
pub mod TableLaws
pub mod NumberLaws
pub mod PutLaws
pub mod StretchLaws
mod Examples
