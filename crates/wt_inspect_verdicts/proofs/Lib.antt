pub mod FindingLemmas
pub mod NeedLemmas
