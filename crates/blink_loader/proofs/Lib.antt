pub mod BatchLemmas
pub mod RangeCountLemmas
pub mod RecordLemmas
pub mod RecordsLeftLemmas
