pub mod InsertedRowsLemmas
pub mod QueryLemmas
pub mod RefusalLemmas
pub mod SchemaLemmas
pub mod SoundnessLemmas
pub mod StepLemmas
pub mod TableLayoutLemmas
pub mod TableListLemmas
