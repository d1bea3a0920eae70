pub mod MarkLemmas
pub mod MaskLemmas
pub mod Sets
pub mod Tests
