pub mod GeometryLaws
pub mod ManifestLaws
pub mod MessageLaws
pub mod CostLaws
pub mod PutLaws
pub mod SizeLaws
pub mod RefusalLaws
