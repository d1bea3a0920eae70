pub mod HeaderLemmas
pub mod SizeLemmas
