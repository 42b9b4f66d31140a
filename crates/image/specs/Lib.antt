pub mod Faults
pub mod Headers
pub mod Images
pub mod Numbers
pub mod Opened
pub mod RingImages
pub mod Rings
pub mod Rows
