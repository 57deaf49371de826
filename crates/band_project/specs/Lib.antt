pub mod PartLaws
pub mod Then
