pub mod Batch
pub mod Examples
pub mod RangeCount
pub mod Records
pub mod RecordsLeft
