-- What the proofs of several functions use, and what is told of the visit's answer.
pub mod HeaderLaws
pub mod VisitLaws
pub mod MessageLaws
pub mod SeenLaws
