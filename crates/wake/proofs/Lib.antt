pub mod FitLaws
pub mod LineLaws
pub mod AnswerLaws
pub mod MostLaws
pub mod ReadLaws
pub mod Wrong
