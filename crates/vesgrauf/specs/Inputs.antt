-- What QUIC reports.
use Rattle.std.specs.Prelude.{◌≡◌, ◌⊎◌, ℕ, Bool, false, List, length}
use Rattle.vesgrauf.specs.declared.input.Input.{Input}
use Rattle.vesgrauf.specs.declared.input.Report.{Report}
use Rattle.vesgrauf.specs.declared.input.Report.TheVariants as report

-- this is reported, with these bytes and this end, and nothing of it was taken in
pub record Brings (said : Report) (came : List ℕ) (ends : Bool) (i : Input) : Type 0 where
  pub report : i.report ≡ said
  pub bytes : i.chunk.bytes.now ≡ came
  pub fin : i.chunk.fin ≡ ends
  pub credit : i.credit ≡ 0

-- nothing is left of its bytes, and its stream does not end after them
pub record IsTaken (i j : Input) : Type 0 where
  pub bytes : length i.chunk.bytes.now ≡ 0
  pub fin : i.chunk.fin ≡ false
  pub report : j.report ≡ report.Nothing

-- it is the same, or nothing is left of it
abbrev pub IsSameOrRead : Input → Input → Type 0
IsSameOrRead i j = (j ≡ i) ⊎ IsTaken i j
