pub mod Candidate
pub mod ColumnChoice
pub mod Division
pub mod Examples
pub mod PrefixSums
pub mod Search
pub mod TopThree
