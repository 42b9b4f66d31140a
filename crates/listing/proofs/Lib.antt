pub mod Lengths
pub mod Listed
pub mod Texts
pub mod Shown
pub mod Refused
