pub mod BigEndianLaws
pub mod BufferLaws
pub mod CopyLaws
pub mod EqualLaws
pub mod JoinedLaws
pub mod NumberLaws
