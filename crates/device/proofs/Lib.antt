pub mod AcceptLaws
pub mod KindLaws
pub mod JudgeLaws
pub mod ConditionLaws
pub mod UpdateJudgeLaws
