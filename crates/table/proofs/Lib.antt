pub mod TableLaws
pub mod LentLaws
pub mod UsableLaws
