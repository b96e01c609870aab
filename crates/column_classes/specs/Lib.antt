pub mod CodedColumn
pub mod ColumnClasses
pub mod ColumnStats
