pub mod Line
pub mod Text
pub mod Read
pub mod Write
pub mod Claims
pub mod Code
