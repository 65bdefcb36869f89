pub mod FieldLaws
pub mod StepLaws
pub mod MovedLaws
pub mod WalkLaws
pub mod FindLaws
pub mod SecondLaws
pub mod NotedLaws
pub mod WriteLaws
