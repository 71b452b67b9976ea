pub mod AgainLemmas
pub mod LineLemmas
pub mod OpenLemmas
pub mod StaticLines
pub mod StaticSections
