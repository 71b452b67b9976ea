pub mod InputLemmas
pub mod HexLemmas
pub mod SheetLemmas
pub mod ConnectionLemmas
pub mod ViewLemmas
pub mod SummaryLemmas
