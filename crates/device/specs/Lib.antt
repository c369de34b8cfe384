pub mod Fields
pub mod Inner
pub mod Judged
