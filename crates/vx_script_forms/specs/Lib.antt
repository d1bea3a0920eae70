pub mod FormOf
pub mod Table
pub mod Values
pub mod ValuesOf
