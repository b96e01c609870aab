pub mod BitLemmas
pub mod PageLemmas
pub mod WordLemmas
