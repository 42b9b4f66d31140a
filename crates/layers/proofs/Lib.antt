pub mod Coarsening
pub mod Factors
pub mod Limiting
