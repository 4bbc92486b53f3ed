pub mod MarkLaws
pub mod ConeLaws
