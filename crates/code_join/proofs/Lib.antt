pub mod DistinctKeyLemmas
pub mod EntryLemmas
pub mod KeyCodeLemmas
pub mod KeyLemmas
