pub mod Refusal
pub mod Size
pub mod Manifest
pub mod Geometry
pub mod Message
pub mod Cost
pub mod Claims
