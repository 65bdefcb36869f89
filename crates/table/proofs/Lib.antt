pub mod BitLaws
pub mod BoundLaws
pub mod KeyLaws
pub mod PartLaws
pub mod RecordLaws
pub mod WriteLaws
