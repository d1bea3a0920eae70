pub mod ColumnLemmas
pub mod EndLemmas
pub mod InverseLemmas
pub mod NumberLemmas
pub mod PlaceLemmas
pub mod RunLemmas
pub mod ValidLemmas
