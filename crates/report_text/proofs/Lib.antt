pub mod SeparatorLemmas
