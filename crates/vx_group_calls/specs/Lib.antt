pub mod Serving
pub mod Causes
pub mod Ending
pub mod Laws
