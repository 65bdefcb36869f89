pub mod NodeLaws
pub mod ListLaws
pub mod AskedLaws
pub mod VerdictLaws
