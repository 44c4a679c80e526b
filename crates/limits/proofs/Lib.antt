pub mod AnswerLaws
pub mod CutLaws
pub mod WideLaws
