-- A frame that a cursor accepts is accepted by its reader, and the number of bytes left to skip
-- stays in range.
use Rattle.std.proofs.Common.{◌≡◌, ℕ, ◌-◌, ◌<◌, ◌^◌, false, inl, inr, List, Option, Some, None, length, get_or, refl, ap, ◌∙◌, arith}
use Rattle.std.proofs.lemmas.Bool.{cases_lt, lt-ltb, le-ltb}
use Rattle.wtp_core.specs.Varint.{width_of, value_of, number_at}
use Rattle.wtp_core.proofs.EncodingLemmas.{number_at-encodes}
use Rattle.wtp_wire.specs.declared.frame.kind.FrameKind.{FrameKind}
use Rattle.wtp_wire.specs.Kind.{kind_of}
use Rattle.wtransport_proto.specs.CutFrame.{due_in, due_first, due_second}
use Rattle.wtransport_proto.specs.FrameCursor.{StepIs, RunGoesOn, due_after, known_from}
use Rattle.wtransport_proto.specs.declared.stream.cursor.FrameCursor.{FrameCursor}
use Rattle.wtransport_proto.specs.declared.stream.cursor.FrameSpan.{FrameSpan}
use Rattle.wtransport_proto.specs.declared.stream.cursor.CursorStep.TheVariants.{Frame, More}
use Rattle.wt_c.specs.Reader.{IsReader, cursor_of, Stepped}
use Rattle.wt_c.specs.declared.reader.WtReader.{WtReader}

pub frame_step : (p : FrameSpan) (r : WtReader) (old new : FrameCursor) (bytes : List ℕ) → old ≡ cursor_of r → StepIs (Frame p) old bytes new → RunGoesOn (Frame p) old bytes new
    → Stepped (Frame p) r bytes (record r { first = 0; skip_remaining = 0 })
frame_step p r old new bytes e s g =
    let same : new ≡ cursor_of (record r { first = 0; skip_remaining = 0 }) = s.cursor ∙ ap (λ (c : FrameCursor). record c { first = false; skip_remaining = 0 }) e in
    record { step_is = rw (e, same) at s; goes_on = rw (e, same) at g }

-- ---- bytes left to skip

value_low : (first : ℕ) (s : List ℕ) → value_of (width_of first) s < 2 ^ 62
unfolding value_of
value_low first s = elim (cases_lt first 64) [
  | inl h ↦ rw (lt-ltb first 64 h) (omega arith)
  | inr l6 ↦ elim (cases_lt first 128) [
    | inl h ↦ rw (le-ltb first 64 l6, lt-ltb first 128 h) (omega arith)
    | inr l7 ↦ elim (cases_lt first 192) [
      | inl h ↦ rw (le-ltb first 64 l6, le-ltb first 128 l7, lt-ltb first 192 h) (omega arith)
      | inr l ↦ rw (le-ltb first 64 l6, le-ltb first 128 l7, le-ltb first 192 l) (omega arith)
    ]
  ]
]

number_low : (bytes rest : List ℕ) (v : ℕ) → number_at bytes ≡ Some (v, rest) → v < 2 ^ 62
number_low bytes rest v e =
    let (s, encodes, parts) = number_at-encodes v bytes rest e in
    let value : v ≡ value_of (width_of (get_or s 0 0)) s = encodes.value in
    rw value (value_low (get_or s 0 0) s)

due_low : (bytes : List ℕ) → due_in bytes < 2 ^ 62
unfolding due_in
due_low bytes = first (number_at bytes)
  where
    second : (mid : List ℕ) (k : Option FrameKind) (o : Option (ℕ × List ℕ)) → number_at mid ≡ o → due_second k o < 2 ^ 62
    second mid k None e = omega arith
    second mid (Some kind) (Some size) e = omega arith
    second mid None (Some size) e = let low = number_low mid size.1 size.0 e in omega (arith, low)

    first : (o : Option (ℕ × List ℕ)) → due_first o < 2 ^ 62
    first None = omega arith
    first (Some id) = second id.1 (kind_of id.0) (number_at id.1) refl

after_low : (skip_remaining : ℕ) (c : FrameCursor) (bytes : List ℕ) → c.skip_remaining < 2 ^ 62 → skip_remaining ≡ due_after c bytes → skip_remaining < 2 ^ 62
after_low skip_remaining c bytes low e = elim (cases_lt (length bytes) c.skip_remaining) [
  | inl h ↦ let d : skip_remaining ≡ c.skip_remaining - length bytes = rw (lt-ltb (length bytes) c.skip_remaining h) at e in omega (arith, d, low)
  | inr l ↦ let d : skip_remaining ≡ due_in (known_from c bytes) = rw (le-ltb (length bytes) c.skip_remaining l) at e in rw d (due_low (known_from c bytes))
]

pub more_reader : (n : ℕ) (r : WtReader) (old new : FrameCursor) (bytes : List ℕ) → old ≡ cursor_of r → StepIs (More n) old bytes new → IsReader r → IsReader (record r { skip_remaining = new.skip_remaining })
more_reader n r old new bytes e s is = record {
  kind = is.kind;
  first = is.first;
  skip_remaining = after_low new.skip_remaining old bytes (rw e is.skip_remaining) (ap (λ (c : FrameCursor). c.skip_remaining) s.cursor);
}
