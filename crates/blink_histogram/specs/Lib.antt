pub mod Examples
pub mod InternerRepr
pub mod NumberedColumn
pub mod RankEntry
pub mod Ranks
pub mod Recent
