pub mod Octets
pub mod Claims
