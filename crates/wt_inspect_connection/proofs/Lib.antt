pub mod ListLemmas
pub mod PieceLemmas
pub mod OrderLemmas
