pub mod TableLemmas
pub mod ReservedLemmas
