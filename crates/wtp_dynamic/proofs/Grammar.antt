-- Reading an instruction agrees with the relation of the standard.
use Rattle.std.proofs.Common.{◌≡◌, ℕ, ◌/◌, ◌%◌, ◌^◌, ◌≤◌, nat_lt, inl, inr, Bool, true, false, cond, List, [], ◌∷◌, ◌++◌, length, take, drop, slice_index, refl, sym, ◌∙◌, ap, subst, arith, append_assoc, Ok, Err, eq-eqb, ne_eqb}
use Rattle.std.proofs.lemmas.Bool.{le-ltb}
use Rattle.std.proofs.lemmas.List.{length-append, length-take-le, take-append-drop}
use Rattle.std.proofs.Math.Seq.{drop-append_seam, take-append_seam}
use borrow.Author.Tests.{ltb-false, eqb-true, eqb-false}
use Rattle.wtp_huffman.proofs.Chosen.{chosen}
use Rattle.wtp_qpack.specs.declared.qpack.DecodingError.TheVariants.{UnexpectedFin}
use Rattle.wtp_qpack.specs.Qpack.{◌>>=◌}
use Rattle.wtp_qpack.specs.Integer.{IsInt, integer_at}
use Rattle.wtp_qpack.specs.StringLiteral.{flag_above}
use Rattle.wtp_qpack.specs.FieldLine.{bit}
use Rattle.wtp_qpack.proofs.Chosen.{bind_ok, same_rest, same_value}
use Rattle.wtp_qpack.proofs.IntegerLaws.{int_read, int_found}
use Rattle.wtp_dynamic.specs.Instruction.{Coded, Instruction, SetCapacity, InsertNamed, InsertLiteral, Duplicate, IsCoded, high_bits, IsInstruction, coded_at, capacity_at, named_at, literal_at, duplicate_at, instruction_by, instruction_at}

-- ---- what is in the grammar is read

flag_front : (n v : ℕ) (size more : List ℕ) → IsInt n v size → flag_above n (size ++ more) ≡ flag_above n size
unfolding flag_above
flag_front n v [] more h = absurd h
flag_front n v (b ∷ bs) more h = refl

pub coded_read : (n : ℕ) (string : Coded) (s rest : List ℕ) → IsCoded n string s → coded_at n (s ++ rest) ≡ Ok (string, rest)
unfolding coded_at
coded_read n string s rest is =
    let body : List ℕ = string.1 in
    let grouped : s ++ rest ≡ is.size ++ (body ++ rest) = ap (λ z. z ++ rest) is.parts ∙ append_assoc is.size body rest in
    let read : integer_at n (is.size ++ (body ++ rest)) ≡ Ok (length body, body ++ rest) = int_read n (length body) is.size (body ++ rest) is.is_size in
    let enough : nat_lt (length (body ++ rest)) (length body) ≡ false = le-ltb (length (body ++ rest)) (length body) (omega (arith, length-append body rest)) in
    rw (grouped, read, enough, flag_front n (length body) is.size (body ++ rest) is.is_size, is.flag, take-append_seam body rest, drop-append_seam body rest) refl

by_first : (b : ℕ) (bs rest : List ℕ) (x y z : Bool) → bit 7 b ≡ x → bit 6 b ≡ y → bit 5 b ≡ z → instruction_at ((b ∷ bs) ++ rest) ≡ instruction_by x y z ((b ∷ bs) ++ rest)
unfolding instruction_at
by_first b bs rest x y z first second third = rw (first, second, third) refl

capacity_read : (capacity : ℕ) (s rest : List ℕ) → IsInstruction (SetCapacity capacity) s → instruction_at (s ++ rest) ≡ Ok (SetCapacity capacity, rest)
unfolding capacity_at
capacity_read capacity [] rest (bits, is) = absurd is
capacity_read capacity (b ∷ bs) rest (bits, is) =
    by_first b bs rest false false true (ne_eqb (b / 2 ^ 7 % 2) 1 (omega arith)) (ne_eqb (b / 2 ^ 6 % 2) 1 (omega arith)) (eq-eqb (b / 2 ^ 5 % 2) 1 (omega arith))
    ∙ rw (int_read 5 capacity (b ∷ bs) rest is) refl

duplicate_read : (index : ℕ) (s rest : List ℕ) → IsInstruction (Duplicate index) s → instruction_at (s ++ rest) ≡ Ok (Duplicate index, rest)
unfolding duplicate_at
duplicate_read index [] rest (bits, is) = absurd is
duplicate_read index (b ∷ bs) rest (bits, is) =
    by_first b bs rest false false false (ne_eqb (b / 2 ^ 7 % 2) 1 (omega arith)) (ne_eqb (b / 2 ^ 6 % 2) 1 (omega arith)) (ne_eqb (b / 2 ^ 5 % 2) 1 (omega arith))
    ∙ rw (int_read 5 index (b ∷ bs) rest is) refl

named_read : (is_static : Bool) (index : ℕ) (value : Coded) (name text rest : List ℕ) → bit 7 (slice_index (name ++ text) 0) ≡ true → bit 6 (slice_index (name ++ text) 0) ≡ is_static → IsInt 6 index name → IsCoded 7 value text
    → instruction_at ((name ++ text) ++ rest) ≡ Ok (InsertNamed is_static index value, rest)
unfolding named_at
named_read is_static index value [] text rest first second is coded = absurd is
named_read is_static index value (b ∷ bs) text rest first second is coded =
    let grouped : ((b ∷ bs) ++ text) ++ rest ≡ (b ∷ bs) ++ (text ++ rest) = append_assoc (b ∷ bs) text rest in
    ap instruction_at grouped ∙ by_first b bs (text ++ rest) true is_static (bit 5 b) first second refl
    ∙ rw (int_read 6 index (b ∷ bs) (text ++ rest) is, coded_read 7 value text rest coded) refl

literal_read : (name value : Coded) (first text rest : List ℕ) → high_bits 6 (first ++ text) % 4 ≡ 1 → IsCoded 5 name first → IsCoded 7 value text → instruction_at ((first ++ text) ++ rest) ≡ Ok (InsertLiteral name value, rest)
unfolding literal_at
literal_read name value first text rest bits is coded = by_size is.size first is.is_size is.parts bits is
  where
    by_size : (size first : List ℕ) → IsInt 5 (length name.1) size → first ≡ size ++ name.1 → high_bits 6 (first ++ text) % 4 ≡ 1 → IsCoded 5 name first → instruction_at ((first ++ text) ++ rest) ≡ Ok (InsertLiteral name value, rest)
    by_size [] first int parts bits is = absurd int
    by_size (b ∷ bs) [] int parts bits is = cc parts
    by_size (b ∷ bs) (f ∷ fs) int parts bits is =
        let grouped : ((f ∷ fs) ++ text) ++ rest ≡ (f ∷ fs) ++ (text ++ rest) = append_assoc (f ∷ fs) text rest in
        ap instruction_at grouped
        ∙ by_first f fs (text ++ rest) false true (bit 5 f) (ne_eqb (f / 2 ^ 7 % 2) 1 (omega arith)) (eq-eqb (f / 2 ^ 6 % 2) 1 (omega arith)) refl
        ∙ rw (coded_read 5 name (f ∷ fs) (text ++ rest) is, coded_read 7 value text rest coded) refl

pub instruction_read : (i : Instruction) (s rest : List ℕ) → IsInstruction i s → instruction_at (s ++ rest) ≡ Ok (i, rest)
instruction_read (SetCapacity capacity) s rest is = capacity_read capacity s rest is
instruction_read (InsertNamed is_static index value) s rest (name, text, parts, first, second, is, coded) =
    let P : List ℕ → Type 0 = λ z. instruction_at (z ++ rest) ≡ Ok (InsertNamed is_static index value, rest) in
    subst P (sym parts) (named_read is_static index value name text rest (ap (λ z. bit 7 (slice_index z 0)) (sym parts) ∙ first) (ap (λ z. bit 6 (slice_index z 0)) (sym parts) ∙ second) is coded)
instruction_read (InsertLiteral name value) s rest (first, text, parts, bits, is, coded) =
    let P : List ℕ → Type 0 = λ z. instruction_at (z ++ rest) ≡ Ok (InsertLiteral name value, rest) in
    subst P (sym parts) (literal_read name value first text rest (ap (λ z. high_bits 6 z % 4) (sym parts) ∙ bits) is coded)
instruction_read (Duplicate index) s rest is = duplicate_read index s rest is

-- ---- what is read is in the grammar

coded_found : (n : ℕ) (bytes : List ℕ) (string : Coded) (rest : List ℕ) → n ≤ 8 → coded_at n bytes ≡ Ok (string, rest) → (s : List ℕ) × IsCoded n string s × (bytes ≡ s ++ rest)
unfolding coded_at
coded_found n bytes string rest few e =
    let size = bind_ok (integer_at n bytes) (λ (m : ℕ × List ℕ). cond (nat_lt (length m.1) m.0) (Err UnexpectedFin) (Ok ((flag_above n bytes, take m.0 m.1), drop m.0 m.1))) (string, rest) e in
    let m : ℕ × List ℕ = size.0 in
    elim (chosen (nat_lt (length m.1) m.0) (Err UnexpectedFin) (Ok ((flag_above n bytes, take m.0 m.1), drop m.0 m.1)) (Ok (string, rest)) size.2) [
      | inl short ↦ cc short.1
      | inr enough ↦
          let found = int_found n m.0 bytes m.1 few size.1 in
          let body : List ℕ = take m.0 m.1 in
          let long : length body ≡ m.0 = length-take-le m.0 m.1 (ltb-false (length m.1) m.0 enough.0) in
          let behind : drop m.0 m.1 ≡ rest = same_rest (flag_above n bytes, body) string (drop m.0 m.1) rest enough.1 in
          let same : (flag_above n bytes, body) ≡ string = same_value (flag_above n bytes, body) string (drop m.0 m.1) rest enough.1 in
          let flag : flag_above n found.0 ≡ flag_above n bytes = sym (ap (flag_above n) found.2 ∙ flag_front n m.0 found.0 m.1 found.1) in
          let made : IsCoded n (flag_above n bytes, body) (found.0 ++ body) = record { size = found.0; parts = refl; is_size = subst (λ k. IsInt n k found.0) (sym long) found.1; flag = flag } in
          let P : Coded → Type 0 = λ z. IsCoded n z (found.0 ++ body) in
          (found.0 ++ body, subst P same made, found.2 ∙ ap (λ z. found.0 ++ z) (sym (take-append-drop m.0 m.1) ∙ ap (λ z. body ++ z) behind) ∙ sym (append_assoc found.0 body rest))
    ]

-- the first byte of what was read
front_byte : (s rest bytes : List ℕ) (b : ℕ) (bs : List ℕ) → b ∷ bs ≡ s ++ rest → (s ≡ [] → ⊥) → slice_index s 0 ≡ b
front_byte [] rest bytes b bs e some = absurd (some refl)
front_byte (x ∷ xs) rest bytes b bs e some = sym (cc e)

int_some : (n v : ℕ) (s : List ℕ) → IsInt n v s → s ≡ [] → ⊥
int_some n v [] is e = is
int_some n v (b ∷ bs) is e = cc e

pub record Found (i : Instruction) (bytes rest : List ℕ) : Type 0 where
  pub spelled : List ℕ
  pub is : IsInstruction i spelled
  pub parts : bytes ≡ spelled ++ rest

found_as : (i j : Instruction) (bytes rest : List ℕ) → i ≡ j → Found i bytes rest → Found j bytes rest
found_as i j bytes rest e found = let P : Instruction → Type 0 = λ z. Found z bytes rest in subst P e found

capacity_found : (b : ℕ) (bs : List ℕ) (i : Instruction) (rest : List ℕ) → b / 2 ^ 5 % 8 ≡ 1 → capacity_at (b ∷ bs) ≡ Ok (i, rest) → Found i (b ∷ bs) rest
unfolding capacity_at
capacity_found b bs i rest bits e =
    let k = bind_ok (integer_at 5 (b ∷ bs)) (λ (k : ℕ × List ℕ). Ok (SetCapacity k.0, k.1)) (i, rest) e in
    let found = int_found 5 k.0.0 (b ∷ bs) k.0.1 (omega arith) k.1 in
    let behind : k.0.1 ≡ rest = same_rest (SetCapacity k.0.0) i k.0.1 rest k.2 in
    let byte : slice_index found.0 0 ≡ b = front_byte found.0 k.0.1 (b ∷ bs) b bs found.2 (int_some 5 k.0.0 found.0 found.1) in
    found_as (SetCapacity k.0.0) i (b ∷ bs) rest (same_value (SetCapacity k.0.0) i k.0.1 rest k.2)
    (record { spelled = found.0; is = (ap (λ z. z / 2 ^ 5 % 8) byte ∙ bits, found.1); parts = found.2 ∙ ap (λ z. found.0 ++ z) behind })

duplicate_found : (b : ℕ) (bs : List ℕ) (i : Instruction) (rest : List ℕ) → b / 2 ^ 5 % 8 ≡ 0 → duplicate_at (b ∷ bs) ≡ Ok (i, rest) → Found i (b ∷ bs) rest
unfolding duplicate_at
duplicate_found b bs i rest bits e =
    let k = bind_ok (integer_at 5 (b ∷ bs)) (λ (k : ℕ × List ℕ). Ok (Duplicate k.0, k.1)) (i, rest) e in
    let found = int_found 5 k.0.0 (b ∷ bs) k.0.1 (omega arith) k.1 in
    let behind : k.0.1 ≡ rest = same_rest (Duplicate k.0.0) i k.0.1 rest k.2 in
    let byte : slice_index found.0 0 ≡ b = front_byte found.0 k.0.1 (b ∷ bs) b bs found.2 (int_some 5 k.0.0 found.0 found.1) in
    found_as (Duplicate k.0.0) i (b ∷ bs) rest (same_value (Duplicate k.0.0) i k.0.1 rest k.2)
    (record { spelled = found.0; is = (ap (λ z. z / 2 ^ 5 % 8) byte ∙ bits, found.1); parts = found.2 ∙ ap (λ z. found.0 ++ z) behind })

joined_parts : (bytes front middle text rest other : List ℕ) → bytes ≡ front ++ middle → middle ≡ text ++ rest → rest ≡ other → bytes ≡ (front ++ text) ++ other
joined_parts bytes front middle text rest other e f g = e ∙ ap (λ z. front ++ z) (f ∙ ap (λ z. text ++ z) g) ∙ sym (append_assoc front text other)

named_found : (b : ℕ) (bs : List ℕ) (is_static : Bool) (i : Instruction) (rest : List ℕ) → bit 7 b ≡ true → bit 6 b ≡ is_static → named_at is_static (b ∷ bs) ≡ Ok (i, rest) → Found i (b ∷ bs) rest
unfolding named_at
named_found b bs is_static i rest first second e =
    let k = bind_ok (integer_at 6 (b ∷ bs)) (λ (k : ℕ × List ℕ). coded_at 7 k.1 >>= λ v. Ok (InsertNamed is_static k.0 v.0, v.1)) (i, rest) e in
    let v = bind_ok (coded_at 7 k.0.1) (λ v. Ok (InsertNamed is_static k.0.0 v.0, v.1)) (i, rest) k.2 in
    let found = int_found 6 k.0.0 (b ∷ bs) k.0.1 (omega arith) k.1 in
    let text = coded_found 7 k.0.1 v.0.0 v.0.1 (omega arith) v.1 in
    let parts : b ∷ bs ≡ (found.0 ++ text.0) ++ rest = joined_parts (b ∷ bs) found.0 k.0.1 text.0 v.0.1 rest found.2 text.2 (same_rest (InsertNamed is_static k.0.0 v.0.0) i v.0.1 rest v.2) in
    let byte : slice_index (found.0 ++ text.0) 0 ≡ b = front_byte (found.0 ++ text.0) rest (b ∷ bs) b bs parts (some_front found.0 text.0 (int_some 6 k.0.0 found.0 found.1)) in
    found_as (InsertNamed is_static k.0.0 v.0.0) i (b ∷ bs) rest (same_value (InsertNamed is_static k.0.0 v.0.0) i v.0.1 rest v.2)
    (record { spelled = found.0 ++ text.0; is = (found.0, text.0, refl, ap (bit 7) byte ∙ first, ap (bit 6) byte ∙ second, found.1, text.1); parts = parts })
  where
    some_front : (xs ys : List ℕ) → (xs ≡ [] → ⊥) → xs ++ ys ≡ [] → ⊥
    some_front [] ys some e = some refl
    some_front (x ∷ xs) ys some e = cc e

literal_found : (b : ℕ) (bs : List ℕ) (i : Instruction) (rest : List ℕ) → b / 2 ^ 6 % 4 ≡ 1 → literal_at (b ∷ bs) ≡ Ok (i, rest) → Found i (b ∷ bs) rest
unfolding literal_at
literal_found b bs i rest bits e =
    let k = bind_ok (coded_at 5 (b ∷ bs)) (λ (k : Coded × List ℕ). coded_at 7 k.1 >>= λ v. Ok (InsertLiteral k.0 v.0, v.1)) (i, rest) e in
    let v = bind_ok (coded_at 7 k.0.1) (λ v. Ok (InsertLiteral k.0.0 v.0, v.1)) (i, rest) k.2 in
    let first = coded_found 5 (b ∷ bs) k.0.0 k.0.1 (omega arith) k.1 in
    let text = coded_found 7 k.0.1 v.0.0 v.0.1 (omega arith) v.1 in
    let parts : b ∷ bs ≡ (first.0 ++ text.0) ++ rest = joined_parts (b ∷ bs) first.0 k.0.1 text.0 v.0.1 rest first.2 text.2 (same_rest (InsertLiteral k.0.0 v.0.0) i v.0.1 rest v.2) in
    let byte : slice_index (first.0 ++ text.0) 0 ≡ b = front_byte (first.0 ++ text.0) rest (b ∷ bs) b bs parts (coded_some first.0 text.0 first.1) in
    found_as (InsertLiteral k.0.0 v.0.0) i (b ∷ bs) rest (same_value (InsertLiteral k.0.0 v.0.0) i v.0.1 rest v.2)
    (record { spelled = first.0 ++ text.0; is = (first.0, text.0, refl, ap (λ z. z / 2 ^ 6 % 4) byte ∙ bits, first.1, text.1); parts = parts })
  where
    size_some : (size body text : List ℕ) (v : ℕ) → IsInt 5 v size → (size ++ body) ++ text ≡ [] → ⊥
    size_some [] body text v is e = is
    size_some (x ∷ xs) body text v is e = cc e

    coded_some : (s text : List ℕ) {string : Coded} → IsCoded 5 string s → s ++ text ≡ [] → ⊥
    coded_some s text {string} is e = size_some is.size string.1 text (length string.1) is.is_size (ap (λ z. z ++ text) (sym is.parts) ∙ e)

two_bits : (b : ℕ) → (b / 2 ^ 7 % 2 ≡ 1 → ⊥) → b / 2 ^ 6 % 2 ≡ 1 → b / 2 ^ 6 % 4 ≡ 1
two_bits b p q = omega arith

three_bits : (b : ℕ) → (b / 2 ^ 7 % 2 ≡ 1 → ⊥) → (b / 2 ^ 6 % 2 ≡ 1 → ⊥) → b / 2 ^ 5 % 2 ≡ 1 → b / 2 ^ 5 % 8 ≡ 1
three_bits b p q r = omega arith

zero_bits : (b : ℕ) → (b / 2 ^ 7 % 2 ≡ 1 → ⊥) → (b / 2 ^ 6 % 2 ≡ 1 → ⊥) → (b / 2 ^ 5 % 2 ≡ 1 → ⊥) → b / 2 ^ 5 % 8 ≡ 0
zero_bits b p q r = omega arith

by_found : (x y z : Bool) (b : ℕ) (bs : List ℕ) (i : Instruction) (rest : List ℕ) → bit 7 b ≡ x → bit 6 b ≡ y → bit 5 b ≡ z → instruction_by x y z (b ∷ bs) ≡ Ok (i, rest) → Found i (b ∷ bs) rest
by_found true y z b bs i rest first second third e = named_found b bs y i rest first second e
by_found false true z b bs i rest first second third e =
    literal_found b bs i rest (two_bits b (eqb-false (b / 2 ^ 7 % 2) 1 first) (eqb-true (b / 2 ^ 6 % 2) 1 second)) e
by_found false false true b bs i rest first second third e =
    capacity_found b bs i rest (three_bits b (eqb-false (b / 2 ^ 7 % 2) 1 first) (eqb-false (b / 2 ^ 6 % 2) 1 second) (eqb-true (b / 2 ^ 5 % 2) 1 third)) e
by_found false false false b bs i rest first second third e =
    duplicate_found b bs i rest (zero_bits b (eqb-false (b / 2 ^ 7 % 2) 1 first) (eqb-false (b / 2 ^ 6 % 2) 1 second) (eqb-false (b / 2 ^ 5 % 2) 1 third)) e

pub instruction_found : (i : Instruction) (bytes rest : List ℕ) → instruction_at bytes ≡ Ok (i, rest) → (s : List ℕ) × IsInstruction i s × (bytes ≡ s ++ rest)
unfolding instruction_at
instruction_found i [] rest e = cc e
instruction_found i (b ∷ bs) rest e =
    let found = by_found (bit 7 b) (bit 6 b) (bit 5 b) b bs i rest refl refl refl e in
    (found.spelled, found.is, found.parts)
