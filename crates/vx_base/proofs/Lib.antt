pub mod BlockLemmas
pub mod CountLemmas
pub mod NamedLemmas
