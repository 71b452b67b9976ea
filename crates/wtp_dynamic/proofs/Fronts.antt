-- The first instruction when more bytes follow, and where it ends.
use Rattle.std.proofs.Common.{◌≡◌, ℕ, zero, suc, ◌+◌, ◌-◌, ◌<◌, ◌≤◌, nat_lt, inl, inr, Bool, true, false, cond, List, [], ◌∷◌, ◌++◌, length, take, drop, refl, sym, ◌∙◌, ap, arith, append_assoc, append-nil, Result, Ok, Err}
use Rattle.std.proofs.lemmas.Bool.{cases_lt, le-leb, lt-leb}
use Rattle.std.proofs.lemmas.List.{length-append, take_all, drop_all, take-append-le, drop-append-le, take-append-drop, drop_at}
use Rattle.std.proofs.Math.Seq.{drop-append-add}
use Rattle.wtp_huffman.proofs.Chosen.{chosen}
use Rattle.wtp_qpack.specs.declared.qpack.DecodingError.{DecodingError}
use Rattle.wtp_qpack.specs.declared.qpack.DecodingError.TheVariants.{UnexpectedFin}
use Rattle.wtp_qpack.specs.Qpack.{◌>>=◌}
use Rattle.wtp_qpack.specs.Integer.{integer_at}
use Rattle.wtp_qpack.specs.StringLiteral.{flag_above}
use Rattle.wtp_qpack.specs.FieldLine.{bit}
use Rattle.wtp_qpack.proofs.Chosen.{bind_ok, same_rest}
use Rattle.wtp_qpack.proofs.IntegerLaws.{int_found}
use Rattle.wtp_dynamic.specs.Instruction.{Coded, Instruction, SetCapacity, InsertNamed, InsertLiteral, Duplicate, coded_at, Instructions, capacity_at, named_at, literal_at, duplicate_at, instruction_by, instruction_at}
use Rattle.wtp_dynamic.specs.Front.{Whole, Cut, TooLong, Faulty, front_of, front_at, FrontGoes}
use Rattle.wtp_dynamic.proofs.Cuts.{Goes, instruction_goes, instruction_shorter}

-- ---- more bytes

long_goes : (most : ℕ) (bytes more : List ℕ) (r : Result (Instruction × List ℕ) DecodingError) → most ≤ length bytes → FrontGoes more (front_of most bytes r) (front_of most (bytes ++ more) r)
long_goes most bytes more (Ok x) long = ap (λ z. Whole x.0 (x.1 ++ z)) (drop-append-le most bytes more long) ∙ ap (Whole x.0) (sym (append_assoc x.1 (drop most bytes) more))
long_goes most bytes more (Err UnexpectedFin) long =
    let longer : most ≤ length (bytes ++ more) = omega (arith, length-append bytes more) in
    rw (le-leb most (length bytes) long, le-leb most (length (bytes ++ more)) longer) refl
long_goes most bytes more (Err e) long = refl

-- the first bytes of bytes and more
take_past : (bytes more : List ℕ) (k : ℕ) → take (length bytes + k) (bytes ++ more) ≡ bytes ++ take k more
take_past [] more k = ap (λ n. take n more) (omega arith)
take_past (b ∷ bs) more k =
    let up : length (b ∷ bs) + k ≡ suc (length bs + k) = omega arith in
    ap (λ n. take n (b ∷ (bs ++ more))) up ∙ ap (λ z. b ∷ z) (take_past bs more k)

short_goes : (most k : ℕ) (bytes more : List ℕ) (r s : Result (Instruction × List ℕ) DecodingError) → most ≡ length bytes + k → 0 < k → Goes (take k more) r s → FrontGoes more (front_of most bytes r) (front_of most (bytes ++ more) s)
short_goes most k bytes more (Ok x) s size some go =
    let none : drop most bytes ≡ [] = drop_all most bytes (omega arith) in
    let left : drop most (bytes ++ more) ≡ drop k more = ap (λ n. drop n (bytes ++ more)) size ∙ drop-append-add bytes more k in
    let joined : (x.1 ++ take k more) ++ drop k more ≡ x.1 ++ more = append_assoc x.1 (take k more) (drop k more) ∙ ap (λ z. x.1 ++ z) (take-append-drop k more) in
    ap (front_of most (bytes ++ more)) go ∙ ap (λ z. Whole x.0 ((x.1 ++ take k more) ++ z)) left ∙ ap (Whole x.0) joined ∙ ap (λ z. Whole x.0 (z ++ more)) (sym (append-nil x.1) ∙ ap (λ z. x.1 ++ z) (sym none))
short_goes most k bytes more (Err UnexpectedFin) s size some go = rw (lt-leb most (length bytes) (omega arith)) tt
short_goes most k bytes more (Err e) s size some go = rw go refl

pub front_goes : (most : ℕ) (bytes more : List ℕ) → FrontGoes more (front_at most bytes) (front_at most (bytes ++ more))
unfolding front_at
front_goes most bytes more = elim (cases_lt (length bytes) most) [
  | inl short ↦
      let k : ℕ = most - length bytes in
      let size : most ≡ length bytes + k = omega arith in
      let whole : take most bytes ≡ bytes = take_all most bytes (omega arith) in
      let longer : take most (bytes ++ more) ≡ bytes ++ take k more = ap (λ n. take n (bytes ++ more)) size ∙ take_past bytes more k in
      rw (whole, longer) (short_goes most k bytes more (instruction_at bytes) (instruction_at (bytes ++ take k more)) size (omega arith) (instruction_goes bytes (take k more)))
  | inr long ↦ rw (take-append-le most bytes more long) (long_goes most bytes more (instruction_at (take most bytes)) long)
]

-- ---- where it ends

-- the bytes end with the rest
abbrev IsEnd : List ℕ → List ℕ → Type 0
IsEnd rest bytes = (front : List ℕ) × (bytes ≡ front ++ rest)

end_then : (a b c : List ℕ) → IsEnd c b → IsEnd b a → IsEnd c a
end_then a b c one two = (two.0 ++ one.0, two.1 ∙ ap (λ z. two.0 ++ z) one.1 ∙ sym (append_assoc two.0 one.0 c))

end_same : (rest other bytes : List ℕ) → rest ≡ other → IsEnd rest bytes → IsEnd other bytes
end_same rest other bytes e end = (end.0, end.1 ∙ ap (λ z. end.0 ++ z) e)

int_end : (n : ℕ) (bytes : List ℕ) (v : ℕ) (rest : List ℕ) → n ≤ 8 → integer_at n bytes ≡ Ok (v, rest) → IsEnd rest bytes
int_end n bytes v rest few e = let found = int_found n v bytes rest few e in (found.0, found.2)

coded_end : (n : ℕ) (bytes : List ℕ) (s : Coded) (rest : List ℕ) → n ≤ 8 → coded_at n bytes ≡ Ok (s, rest) → IsEnd rest bytes
unfolding coded_at
coded_end n bytes s rest few e =
    let size = bind_ok (integer_at n bytes) (λ (m : ℕ × List ℕ). cond (nat_lt (length m.1) m.0) (Err UnexpectedFin) (Ok ((flag_above n bytes, take m.0 m.1), drop m.0 m.1))) (s, rest) e in
    let m : ℕ × List ℕ = size.0 in
    elim (chosen (nat_lt (length m.1) m.0) (Err UnexpectedFin) (Ok ((flag_above n bytes, take m.0 m.1), drop m.0 m.1)) (Ok (s, rest)) size.2) [
      | inl short ↦ cc short.1
      | inr enough ↦
          let behind : drop m.0 m.1 ≡ rest = same_rest (flag_above n bytes, take m.0 m.1) s (drop m.0 m.1) rest enough.1 in
          end_then bytes m.1 rest (take m.0 m.1, sym (take-append-drop m.0 m.1) ∙ ap (λ z. take m.0 m.1 ++ z) behind) (int_end n bytes m.0 m.1 few size.1)
    ]

abbrev Ends : Instructions → Type 0
Ends reading = (bytes : List ℕ) (i : Instruction) (rest : List ℕ) → reading bytes ≡ Ok (i, rest) → IsEnd rest bytes

capacity_end : Ends capacity_at
unfolding capacity_at
capacity_end bytes i rest e =
    let k = bind_ok (integer_at 5 bytes) (λ (k : ℕ × List ℕ). Ok (SetCapacity k.0, k.1)) (i, rest) e in
    end_same k.0.1 rest bytes (same_rest (SetCapacity k.0.0) i k.0.1 rest k.2) (int_end 5 bytes k.0.0 k.0.1 (omega arith) k.1)

duplicate_end : Ends duplicate_at
unfolding duplicate_at
duplicate_end bytes i rest e =
    let k = bind_ok (integer_at 5 bytes) (λ (k : ℕ × List ℕ). Ok (Duplicate k.0, k.1)) (i, rest) e in
    end_same k.0.1 rest bytes (same_rest (Duplicate k.0.0) i k.0.1 rest k.2) (int_end 5 bytes k.0.0 k.0.1 (omega arith) k.1)

named_end : (is_static : Bool) → Ends (named_at is_static)
unfolding named_at
named_end is_static bytes i rest e =
    let k = bind_ok (integer_at 6 bytes) (λ (k : ℕ × List ℕ). coded_at 7 k.1 >>= λ v. Ok (InsertNamed is_static k.0 v.0, v.1)) (i, rest) e in
    let v = bind_ok (coded_at 7 k.0.1) (λ v. Ok (InsertNamed is_static k.0.0 v.0, v.1)) (i, rest) k.2 in
    end_same v.0.1 rest bytes (same_rest (InsertNamed is_static k.0.0 v.0.0) i v.0.1 rest v.2) (end_then bytes k.0.1 v.0.1 (coded_end 7 k.0.1 v.0.0 v.0.1 (omega arith) v.1) (int_end 6 bytes k.0.0 k.0.1 (omega arith) k.1))

literal_end : Ends literal_at
unfolding literal_at
literal_end bytes i rest e =
    let k = bind_ok (coded_at 5 bytes) (λ (k : Coded × List ℕ). coded_at 7 k.1 >>= λ v. Ok (InsertLiteral k.0 v.0, v.1)) (i, rest) e in
    let v = bind_ok (coded_at 7 k.0.1) (λ v. Ok (InsertLiteral k.0.0 v.0, v.1)) (i, rest) k.2 in
    end_same v.0.1 rest bytes (same_rest (InsertLiteral k.0.0 v.0.0) i v.0.1 rest v.2) (end_then bytes k.0.1 v.0.1 (coded_end 7 k.0.1 v.0.0 v.0.1 (omega arith) v.1) (coded_end 5 bytes k.0.0 k.0.1 (omega arith) k.1))

by_end : (a b c : Bool) → Ends (instruction_by a b c)
by_end true b c bytes i rest e = named_end b bytes i rest e
by_end false true c bytes i rest e = literal_end bytes i rest e
by_end false false true bytes i rest e = capacity_end bytes i rest e
by_end false false false bytes i rest e = duplicate_end bytes i rest e

pub instruction_end : Ends instruction_at
unfolding instruction_at
instruction_end [] i rest e = cc e
instruction_end (b ∷ bs) i rest e = by_end (bit 7 b) (bit 6 b) (bit 5 b) (b ∷ bs) i rest e

-- the bytes after an instruction within the first bytes
pub rest_is : (most : ℕ) (bytes rest : List ℕ) (i : Instruction) → instruction_at (take most bytes) ≡ Ok (i, rest) → drop (length (take most bytes) - length rest) bytes ≡ rest ++ drop most bytes
rest_is most bytes rest i e =
    let end = instruction_end (take most bytes) i rest e in
    let whole : bytes ≡ end.0 ++ (rest ++ drop most bytes) = sym (take-append-drop most bytes) ∙ ap (λ z. z ++ drop most bytes) end.1 ∙ append_assoc end.0 rest (drop most bytes) in
    let size : length end.0 ≡ length (take most bytes) - length rest = omega (arith, ap length end.1, length-append end.0 rest) in
    ap (drop (length (take most bytes) - length rest)) whole ∙ drop_at end.0 (rest ++ drop most bytes) (length (take most bytes) - length rest) size

pub front_whole : (most : ℕ) (bytes head rest back : List ℕ) (i : Instruction) → head ≡ take most bytes → instruction_at head ≡ Ok (i, rest) → back ≡ drop (length head - length rest) bytes → Whole i back ≡ front_at most bytes
unfolding front_at
front_whole most bytes head rest back i same read left =
    let here : instruction_at (take most bytes) ≡ Ok (i, rest) = ap instruction_at (sym same) ∙ read in
    let at : back ≡ rest ++ drop most bytes = left ∙ ap (λ (z : List ℕ). drop (length z - length rest) bytes) same ∙ rest_is most bytes rest i here in
    ap (Whole i) at ∙ sym (ap (front_of most bytes) here)

-- ---- what is found and what is cut

pub whole_goes : (most : ℕ) (bytes more behind : List ℕ) (i : Instruction) → front_at most bytes ≡ Whole i behind → front_at most (bytes ++ more) ≡ Whole i (behind ++ more)
whole_goes most bytes more behind i e = rw e at (front_goes most bytes more)

pub long_stays : (most : ℕ) (bytes more : List ℕ) → front_at most bytes ≡ TooLong → front_at most (bytes ++ more) ≡ TooLong
long_stays most bytes more e = rw e at (front_goes most bytes more)

pub faulty_stays : (most : ℕ) (bytes more : List ℕ) (f : DecodingError) → front_at most bytes ≡ Faulty f → front_at most (bytes ++ more) ≡ Faulty f
faulty_stays most bytes more f e = rw e at (front_goes most bytes more)

pub cut_nothing : (most : ℕ) → 0 < most → front_at most [] ≡ Cut
unfolding front_at instruction_at
cut_nothing zero some = absurd (omega arith)
cut_nothing (suc n) some = rw (lt-leb (suc n) 0 some) refl

cut_by : (most : ℕ) (bytes : List ℕ) (r : Result (Instruction × List ℕ) DecodingError) → front_of most bytes r ≡ Cut → length bytes < most
cut_by most bytes (Ok x) e = cc e
cut_by most bytes (Err UnexpectedFin) e = elim (cases_lt (length bytes) most) [
  | inl short ↦ short
  | inr long ↦ cc (rw (le-leb most (length bytes) long) at e)
]
cut_by most bytes (Err f) e = cc e

pub cut_short : (most : ℕ) (bytes : List ℕ) → front_at most bytes ≡ Cut → length bytes < most
unfolding front_at
cut_short most bytes e = cut_by most bytes (instruction_at (take most bytes)) e

whole_by : (most : ℕ) (bytes behind : List ℕ) (i : Instruction) (r : Result (Instruction × List ℕ) DecodingError) → instruction_at (take most bytes) ≡ r → front_of most bytes r ≡ Whole i behind → length behind < length bytes
whole_by most bytes behind i (Ok x) read e =
    let same : x.1 ++ drop most bytes ≡ behind = rest_of x.0 i (x.1 ++ drop most bytes) behind e in
    omega (arith, ap length same, length-append x.1 (drop most bytes), instruction_shorter (take most bytes) x.0 x.1 read, ap length (take-append-drop most bytes), length-append (take most bytes) (drop most bytes))
  where
    rest_of : (i j : Instruction) (a b : List ℕ) → Whole i a ≡ Whole j b → a ≡ b
    rest_of i j a b e = cc e
whole_by most bytes behind i (Err UnexpectedFin) read e = elim (cases_lt (length bytes) most) [
  | inl short ↦ cc (rw (lt-leb most (length bytes) short) at e)
  | inr long ↦ cc (rw (le-leb most (length bytes) long) at e)
]
whole_by most bytes behind i (Err f) read e = cc e

pub whole_shorter : (most : ℕ) (bytes behind : List ℕ) (i : Instruction) → front_at most bytes ≡ Whole i behind → length behind < length bytes
unfolding front_at
whole_shorter most bytes behind i e = whole_by most bytes behind i (instruction_at (take most bytes)) refl e
