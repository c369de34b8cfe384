pub mod Answer
pub mod Device
pub mod Flash
pub mod Refusals
pub mod Step
pub mod Readers
pub mod BootCheck
pub mod Claims
