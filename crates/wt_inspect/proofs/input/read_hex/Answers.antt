use Rattle.std.proofs.Common.{arith, ◌≡◌, ◌+◌, get_or, take, drop, suc, sym, ap, subst, ◌∙◌, List, ℕ, Option}
use Rattle.std.proofs.lemmas.List.{take-append-drop, take_all}
use Rattle.wt_inspect.specs.declared.failure.Failure.{Failure}
use Rattle.wt_inspect.specs.declared.failure.Failure.TheVariants.{Memory, NotHex}
use Rattle.wt_inspect.specs.HexReading.{FailsAt, IsRead}
use Rattle.wt_inspect.specs.HexText.{pairs_bytes, unless_blank, without_blanks}
use Rattle.wt_inspect.proofs.HexLemmas.{half_left, kept_more, kept_split}
use Rattle.wt_inspect.proofs.input.read_hex.Goals as goal

pub returns-in-Err-clause-not_hex : goal.returns-in-Err-clause-not_hex
returns-in-Err-clause-not_hex c e =
    let same : c.in-Err.failure ≡ NotHex = cc in
    let text = c.args.text.now in
    let i = c.loop-byte.byte-index in
    let none = subst (λ (f : Failure). FailsAt f c.loop-byte.bytes.items c.loop-byte.half (unless_blank (get_or text i 0))) same c.in-Err.ensures.failures in
    ap pairs_bytes (kept_split text i (omega arith)) ∙ none (without_blanks (take i text)) (without_blanks (drop (suc i) text)) c.loop-byte.invariant.read

pub returns-in-Err-clause-memory : goal.returns-in-Err-clause-memory
returns-in-Err-clause-memory c e =
    let same : c.in-Err.failure ≡ Memory = cc in
    let text = c.args.text.now in
    let i = c.loop-byte.byte-index in
    let some = subst (λ (f : Failure). FailsAt f c.loop-byte.bytes.items c.loop-byte.half (unless_blank (get_or text i 0))) same c.in-Err.ensures.failures in
    let found = some (without_blanks (take i text)) c.loop-byte.invariant.read in
    (take (i + 1) text, drop (i + 1) text, found.0, sym (take-append-drop (i + 1) text), ap pairs_bytes (kept_more text i (omega arith)) ∙ found.1, found.2)

pub loop-byte-preserved : goal.loop-byte-preserved
loop-byte-preserved c = record {
  digit = c.in-Ok.ensures.digit;
  read = subst (λ (t : List ℕ). IsRead t c.take_byte.new.bytes.items c.in-Ok.next) (sym (kept_more c.args.text.now c.loop-byte.byte-index (omega arith))) (c.in-Ok.ensures.read (without_blanks (take c.loop-byte.byte-index c.args.text.now)) c.loop-byte.invariant.read);
}

pub returns-in-Some-clause-not_hex : goal.returns-in-Some-clause-not_hex
returns-in-Some-clause-not_hex c e =
    let whole : take c.loop-byte.byte-index c.args.text.now ≡ c.args.text.now = take_all c.loop-byte.byte-index c.args.text.now (omega arith) in
    let read = subst (λ (t : List ℕ). IsRead (without_blanks t) c.loop-byte.bytes.items c.loop-byte.half) whole c.loop-byte.invariant.read in
    half_left (without_blanks c.args.text.now) c.loop-byte.bytes.items c.in-Some.field-0 (subst (λ (h : Option ℕ). IsRead (without_blanks c.args.text.now) c.loop-byte.bytes.items h) c.in-Some.is read)
