pub mod Lines
pub mod Listing
pub mod Shows
pub mod Texts
