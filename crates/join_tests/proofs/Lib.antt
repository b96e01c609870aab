pub mod OwnKeyLemmas
pub mod PartLemmas
