mod CodeLaws
pub mod PutLaws
pub mod WriterLaws
pub mod RunLaws
