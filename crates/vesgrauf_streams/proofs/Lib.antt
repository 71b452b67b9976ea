pub mod CallerLemmas
pub mod IndexLemmas
pub mod LendLemmas
pub mod NextLemmas
pub mod PlaceLemmas
pub mod RunLemmas
