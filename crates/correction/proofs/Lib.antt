pub mod KindLaws
pub mod JudgeLaws
pub mod StoreLaws
