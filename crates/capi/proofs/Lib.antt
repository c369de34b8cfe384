pub mod StateLaws
pub mod CallLaws
pub mod StatusLaws
pub mod RunLaws
pub mod FromCLaws
pub mod BootLaws
