pub mod Elements
pub mod Faults
pub mod Kinds
