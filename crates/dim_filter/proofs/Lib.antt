pub mod CellRowLemmas
pub mod PageLemmas
pub mod SelectionLemmas
