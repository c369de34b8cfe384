pub mod Sha256
pub mod Claims
pub mod Context
