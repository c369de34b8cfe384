pub mod BlockLaws
pub mod JobLaws
pub mod SendLaws
pub mod Cases
