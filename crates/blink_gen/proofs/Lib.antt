pub mod FileLemmas
pub mod GeneratorLemmas
pub mod RecordLemmas
