pub mod ControlLemmas
pub mod Faults
pub mod Known
pub mod ListingLemmas
pub mod RequestLemmas
pub mod ProgramLemmas
pub mod RunEnds
pub mod SteppedLemmas
