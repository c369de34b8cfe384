pub mod Constants
pub mod ContextLaws
pub mod DigestLaws
pub mod HashLaws
pub mod PaddingLaws
pub mod RoundLaws
pub mod ScheduleLaws
pub mod WordLaws
