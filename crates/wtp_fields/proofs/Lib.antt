pub mod FieldListLaws
pub mod FieldListLemmas
pub mod FieldListWriting
pub mod HeaderLemmas
pub mod Payloads
pub mod PlaceLemmas
pub mod RequestLemmas
pub mod ResponseLemmas
