pub mod Unbroken
pub mod Refusing
pub mod Keeping
