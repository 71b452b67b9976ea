-- The first instruction of the decoder stream when more bytes follow, and where it ends.
use Rattle.std.proofs.Common.{◌≡◌, ℕ, suc, ◌+◌, ◌-◌, ◌<◌, ◌≤◌, inl, inr, Bool, true, false, List, [], ◌∷◌, ◌++◌, length, take, drop, refl, sym, ◌∙◌, ap, arith, append_assoc, append-nil, Result, Ok, Err}
use Rattle.std.proofs.lemmas.Bool.{cases_lt, le-leb, lt-leb}
use Rattle.std.proofs.lemmas.List.{length-append, take_all, drop_all, take-append-le, drop-append-le, take-append-drop, drop_at}
use Rattle.std.proofs.Math.Seq.{drop-append-add}
use Rattle.wtp_qpack.specs.declared.qpack.DecodingError.{DecodingError}
use Rattle.wtp_qpack.specs.declared.qpack.DecodingError.TheVariants.{UnexpectedFin}
use Rattle.wtp_qpack.specs.Integer.{integer_at}
use Rattle.wtp_qpack.specs.FieldLine.{bit}
use Rattle.wtp_qpack.proofs.Chosen.{bind_ok, same_rest}
use Rattle.wtp_qpack.proofs.IntegerLaws.{int_found}
use Rattle.wtp_qpack.proofs.StringReading.{int_shorter}
use Rattle.wtp_dynamic.specs.declared.acknowledgment.Acknowledgment.{Acknowledgment}
use Rattle.wtp_dynamic.specs.declared.acknowledgment.Acknowledgment.TheVariants.{Section, Cancellation, Increment}
use Rattle.wtp_dynamic.specs.DecoderStream.{Acknowledgments, section_at, cancellation_at, increment_at, acknowledgment_by, acknowledgment_at}
use Rattle.wtp_dynamic.proofs.Cuts.{Goes, GoesOn, integer_goes, bind_goes}
use Rattle.wtp_dynamic_encoder.specs.Acknowledging.{First, Whole, Cut, Overflow, most_bytes, first_by, first_of}

-- ---- more bytes

section_goes : GoesOn section_at
unfolding section_at
section_goes bytes more = bind_goes more (integer_at 7 bytes) (integer_at 7 (bytes ++ more)) _ _ (integer_goes 7 bytes more) (λ stream rest e. refl)

cancellation_goes : GoesOn cancellation_at
unfolding cancellation_at
cancellation_goes bytes more = bind_goes more (integer_at 6 bytes) (integer_at 6 (bytes ++ more)) _ _ (integer_goes 6 bytes more) (λ stream rest e. refl)

increment_goes : GoesOn increment_at
unfolding increment_at
increment_goes bytes more = bind_goes more (integer_at 6 bytes) (integer_at 6 (bytes ++ more)) _ _ (integer_goes 6 bytes more) (λ count rest e. refl)

by_goes : (a b : Bool) → GoesOn (acknowledgment_by a b)
by_goes true b bytes more = section_goes bytes more
by_goes false true bytes more = cancellation_goes bytes more
by_goes false false bytes more = increment_goes bytes more

acknowledgment_goes : GoesOn acknowledgment_at
unfolding acknowledgment_at
acknowledgment_goes [] more = tt
acknowledgment_goes (b ∷ bs) more = by_goes (bit 7 b) (bit 6 b) (b ∷ bs) more

-- the first instruction when more bytes follow: the same, with these after the rest, unless the
-- bytes were cut
abbrev FirstGoes : List ℕ → First → First → Type 0
FirstGoes more (Whole i rest) longer = longer ≡ Whole i (rest ++ more)
FirstGoes more Cut longer = Unit {0}
FirstGoes more Overflow longer = longer ≡ Overflow

long_goes : (bytes more : List ℕ) (r : Result (Acknowledgment × List ℕ) DecodingError) → most_bytes ≤ length bytes → FirstGoes more (first_by bytes r) (first_by (bytes ++ more) r)
long_goes bytes more (Ok x) long = ap (λ z. Whole x.0 (x.1 ++ z)) (drop-append-le most_bytes bytes more long) ∙ ap (Whole x.0) (sym (append_assoc x.1 (drop most_bytes bytes) more))
long_goes bytes more (Err UnexpectedFin) long =
    let longer : most_bytes ≤ length (bytes ++ more) = omega (arith, length-append bytes more) in
    rw (le-leb most_bytes (length bytes) long, le-leb most_bytes (length (bytes ++ more)) longer) refl
long_goes bytes more (Err e) long = refl

-- the first bytes of bytes and more
take_past : (bytes more : List ℕ) (k : ℕ) → take (length bytes + k) (bytes ++ more) ≡ bytes ++ take k more
take_past [] more k = ap (λ n. take n more) (omega arith)
take_past (b ∷ bs) more k =
    let up : length (b ∷ bs) + k ≡ suc (length bs + k) = omega arith in
    ap (λ n. take n (b ∷ (bs ++ more))) up ∙ ap (λ z. b ∷ z) (take_past bs more k)

short_goes : (k : ℕ) (bytes more : List ℕ) (r s : Result (Acknowledgment × List ℕ) DecodingError) → most_bytes ≡ length bytes + k → 0 < k → Goes (take k more) r s → FirstGoes more (first_by bytes r) (first_by (bytes ++ more) s)
short_goes k bytes more (Ok x) s size some go =
    let none : drop most_bytes bytes ≡ [] = drop_all most_bytes bytes (omega arith) in
    let left : drop most_bytes (bytes ++ more) ≡ drop k more = ap (λ n. drop n (bytes ++ more)) size ∙ drop-append-add bytes more k in
    let joined : (x.1 ++ take k more) ++ drop k more ≡ x.1 ++ more = append_assoc x.1 (take k more) (drop k more) ∙ ap (λ z. x.1 ++ z) (take-append-drop k more) in
    ap (first_by (bytes ++ more)) go ∙ ap (λ z. Whole x.0 ((x.1 ++ take k more) ++ z)) left ∙ ap (Whole x.0) joined ∙ ap (λ z. Whole x.0 (z ++ more)) (sym (append-nil x.1) ∙ ap (λ z. x.1 ++ z) (sym none))
short_goes k bytes more (Err UnexpectedFin) s size some go = rw (lt-leb most_bytes (length bytes) (omega arith)) tt
short_goes k bytes more (Err e) s size some go = rw go refl

pub first_goes : (bytes more : List ℕ) → FirstGoes more (first_of bytes) (first_of (bytes ++ more))
unfolding first_of
first_goes bytes more = elim (cases_lt (length bytes) most_bytes) [
  | inl short ↦
      let k : ℕ = most_bytes - length bytes in
      let size : most_bytes ≡ length bytes + k = omega arith in
      let whole : take most_bytes bytes ≡ bytes = take_all most_bytes bytes (omega arith) in
      let longer : take most_bytes (bytes ++ more) ≡ bytes ++ take k more = ap (λ n. take n (bytes ++ more)) size ∙ take_past bytes more k in
      rw (whole, longer) (short_goes k bytes more (acknowledgment_at bytes) (acknowledgment_at (bytes ++ take k more)) size (omega arith) (acknowledgment_goes bytes (take k more)))
  | inr long ↦ rw (take-append-le most_bytes bytes more long) (long_goes bytes more (acknowledgment_at (take most_bytes bytes)) long)
]

pub whole_goes : (bytes more behind : List ℕ) (i : Acknowledgment) → first_of bytes ≡ Whole i behind → first_of (bytes ++ more) ≡ Whole i (behind ++ more)
whole_goes bytes more behind i e = rw e at (first_goes bytes more)

pub over_stays : (bytes more : List ℕ) → first_of bytes ≡ Overflow → first_of (bytes ++ more) ≡ Overflow
over_stays bytes more e = rw e at (first_goes bytes more)

-- ---- where it ends

-- what is read ends before the rest, which is shorter
record Ends (bytes rest : List ℕ) : Type 0 where
  front : List ℕ
  is : bytes ≡ front ++ rest
  less : length rest < length bytes

abbrev Ending : Acknowledgments → Type 0
Ending reading = (bytes : List ℕ) (i : Acknowledgment) (rest : List ℕ) → reading bytes ≡ Ok (i, rest) → Ends bytes rest

int_ends : (n : ℕ) (bytes : List ℕ) (v : ℕ) (rest other : List ℕ) → n ≤ 8 → rest ≡ other → integer_at n bytes ≡ Ok (v, rest) → Ends bytes other
int_ends n bytes v rest other few same e =
    let found = int_found n v bytes rest few e in
    record {
      front = found.0;
      is = found.2 ∙ ap (λ z. found.0 ++ z) same;
      less = omega (arith, ap length same, int_shorter n bytes v rest e);
    }

section_ends : Ending section_at
unfolding section_at
section_ends bytes i rest e =
    let k = bind_ok (integer_at 7 bytes) (λ (k : ℕ × List ℕ). Ok (Section k.0, k.1)) (i, rest) e in
    int_ends 7 bytes k.0.0 k.0.1 rest (omega arith) (same_rest (Section k.0.0) i k.0.1 rest k.2) k.1

cancellation_ends : Ending cancellation_at
unfolding cancellation_at
cancellation_ends bytes i rest e =
    let k = bind_ok (integer_at 6 bytes) (λ (k : ℕ × List ℕ). Ok (Cancellation k.0, k.1)) (i, rest) e in
    int_ends 6 bytes k.0.0 k.0.1 rest (omega arith) (same_rest (Cancellation k.0.0) i k.0.1 rest k.2) k.1

increment_ends : Ending increment_at
unfolding increment_at
increment_ends bytes i rest e =
    let k = bind_ok (integer_at 6 bytes) (λ (k : ℕ × List ℕ). Ok (Increment k.0, k.1)) (i, rest) e in
    int_ends 6 bytes k.0.0 k.0.1 rest (omega arith) (same_rest (Increment k.0.0) i k.0.1 rest k.2) k.1

by_ends : (a b : Bool) → Ending (acknowledgment_by a b)
by_ends true b bytes i rest e = section_ends bytes i rest e
by_ends false true bytes i rest e = cancellation_ends bytes i rest e
by_ends false false bytes i rest e = increment_ends bytes i rest e

acknowledgment_ends : Ending acknowledgment_at
unfolding acknowledgment_at
acknowledgment_ends [] i rest e = cc e
acknowledgment_ends (b ∷ bs) i rest e = by_ends (bit 7 b) (bit 6 b) (b ∷ bs) i rest e

pub read_shorter : (bytes : List ℕ) (i : Acknowledgment) (rest : List ℕ) → acknowledgment_at bytes ≡ Ok (i, rest) → length rest < length bytes
read_shorter bytes i rest e = (acknowledgment_ends bytes i rest e).less

-- the bytes after an instruction within the first bytes
rest_is : (bytes rest : List ℕ) (i : Acknowledgment) → acknowledgment_at (take most_bytes bytes) ≡ Ok (i, rest) → drop (length (take most_bytes bytes) - length rest) bytes ≡ rest ++ drop most_bytes bytes
rest_is bytes rest i e =
    let end = acknowledgment_ends (take most_bytes bytes) i rest e in
    let whole : bytes ≡ end.front ++ (rest ++ drop most_bytes bytes) = sym (take-append-drop most_bytes bytes) ∙ ap (λ z. z ++ drop most_bytes bytes) end.is ∙ append_assoc end.front rest (drop most_bytes bytes) in
    let size : length end.front ≡ length (take most_bytes bytes) - length rest = omega (arith, ap length end.is, length-append end.front rest) in
    ap (drop (length (take most_bytes bytes) - length rest)) whole ∙ drop_at end.front (rest ++ drop most_bytes bytes) (length (take most_bytes bytes) - length rest) size

pub first_whole : (bytes head rest back : List ℕ) (i : Acknowledgment) → head ≡ take most_bytes bytes → acknowledgment_at head ≡ Ok (i, rest) → back ≡ drop (length head - length rest) bytes → first_of bytes ≡ Whole i back
unfolding first_of
first_whole bytes head rest back i same read left =
    let here : acknowledgment_at (take most_bytes bytes) ≡ Ok (i, rest) = ap acknowledgment_at (sym same) ∙ read in
    let at : back ≡ rest ++ drop most_bytes bytes = left ∙ ap (λ (z : List ℕ). drop (length z - length rest) bytes) same ∙ rest_is bytes rest i here in
    ap (first_by bytes) here ∙ ap (Whole i) (sym at)

-- ---- what is found and what is cut

pub cut_nothing : first_of [] ≡ Cut
unfolding first_of acknowledgment_at
cut_nothing = refl

cut_by : (bytes : List ℕ) (r : Result (Acknowledgment × List ℕ) DecodingError) → first_by bytes r ≡ Cut → length bytes < most_bytes
cut_by bytes (Ok x) e = cc e
cut_by bytes (Err UnexpectedFin) e = elim (cases_lt (length bytes) most_bytes) [
  | inl short ↦ short
  | inr long ↦ cc (rw (le-leb most_bytes (length bytes) long) at e)
]
cut_by bytes (Err f) e = cc e

pub cut_short : (bytes : List ℕ) → first_of bytes ≡ Cut → length bytes < most_bytes
unfolding first_of
cut_short bytes e = cut_by bytes (acknowledgment_at (take most_bytes bytes)) e

whole_by : (bytes behind : List ℕ) (i : Acknowledgment) (r : Result (Acknowledgment × List ℕ) DecodingError) → acknowledgment_at (take most_bytes bytes) ≡ r → first_by bytes r ≡ Whole i behind → length behind < length bytes
whole_by bytes behind i (Ok x) read e =
    let same : x.1 ++ drop most_bytes bytes ≡ behind = rest_of x.0 i (x.1 ++ drop most_bytes bytes) behind e in
    omega (arith, ap length same, length-append x.1 (drop most_bytes bytes), read_shorter (take most_bytes bytes) x.0 x.1 read, ap length (take-append-drop most_bytes bytes), length-append (take most_bytes bytes) (drop most_bytes bytes))
  where
    rest_of : (i j : Acknowledgment) (a b : List ℕ) → Whole i a ≡ Whole j b → a ≡ b
    rest_of i j a b e = cc e
whole_by bytes behind i (Err UnexpectedFin) read e = elim (cases_lt (length bytes) most_bytes) [
  | inl short ↦ cc (rw (lt-leb most_bytes (length bytes) short) at e)
  | inr long ↦ cc (rw (le-leb most_bytes (length bytes) long) at e)
]
whole_by bytes behind i (Err f) read e = cc e

pub whole_shorter : (bytes behind : List ℕ) (i : Acknowledgment) → first_of bytes ≡ Whole i behind → length behind < length bytes
unfolding first_of
whole_shorter bytes behind i e = whole_by bytes behind i (acknowledgment_at (take most_bytes bytes)) refl e
