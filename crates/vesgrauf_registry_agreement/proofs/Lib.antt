pub mod FrameLemmas
pub mod TableLemmas
pub mod ConnectionLemmas
