pub mod CountLemmas
pub mod EntryLemmas
pub mod NumberedColumnLemmas
pub mod RankLemmas
