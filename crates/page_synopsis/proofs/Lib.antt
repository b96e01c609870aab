pub mod BitSetLemmas
pub mod RunLemmas
pub mod SetLemmas
