pub mod Lengths
mod Spelling
