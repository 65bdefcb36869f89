pub mod PartLaws
pub mod EchoLaws
pub mod FailedLaws
pub mod AnswerLaws
pub mod AskLaws
