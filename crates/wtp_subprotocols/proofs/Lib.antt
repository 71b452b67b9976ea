pub mod GrammarLemmas
pub mod ParameterLemmas
pub mod ReadLemmas
pub mod StringLemmas
