pub mod Content
pub mod Grammar
pub mod Reading
pub mod Table
pub mod Words
