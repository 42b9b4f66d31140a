pub mod Coarser
pub mod Limited
