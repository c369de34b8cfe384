pub mod Job
pub mod Send
pub mod Claims
pub mod Cases
pub mod Given
