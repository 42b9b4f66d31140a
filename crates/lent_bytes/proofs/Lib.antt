pub mod Placing
pub mod Growing
