-- Laws that belong to no one function.
pub mod StreamLaws
pub mod HeadingLaws
pub mod OpenLaws
pub mod OpenHeadings
