pub mod FieldLaws
pub mod FaceLaws
pub mod BuiltLaws
pub mod ListingLaws
pub mod PaperListing
pub mod InputLaws
