pub mod State
pub mod Call
pub mod Status
pub mod Run
pub mod Claims
pub mod FromC
pub mod Report
pub mod Progress
