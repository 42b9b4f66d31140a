pub mod Entries
pub mod Gathers
pub mod Groups
pub mod Meanings
pub mod Refusals
pub mod Rings
pub mod RingsLemmas
