pub mod Text
pub mod Parts
pub mod Load
pub mod Bundle
pub mod Claims
pub mod Steps
