pub mod WritingLaws
pub mod AppendedLaws
pub mod ReadingLaws
