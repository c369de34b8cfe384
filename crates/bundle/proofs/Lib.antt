pub mod TextLaws
pub mod PartLaws
pub mod RunLaws
pub mod MessageLaws
pub mod LoadLaws
pub mod WholeLaws
pub mod Sample
pub mod PackLaws
