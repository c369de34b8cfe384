pub mod Wake
pub mod Claims
