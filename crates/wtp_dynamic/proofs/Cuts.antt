-- More bytes after those that were read change nothing of what was read.
use Rattle.std.proofs.Common.{◌≡◌, ℕ, suc, ◌+◌, ◌-◌, ◌*◌, ◌%◌, ◌^◌, ◌<◌, ◌≤◌, ◌==◌, nat_lt, nat_le, inl, inr, Bool, true, false, cond, List, [], ◌∷◌, ◌++◌, length, take, drop, refl, ap, arith, Result, Ok, Err}
use Rattle.std.proofs.lemmas.Bool.{cases_lt, lt-ltb, le-ltb}
use Rattle.std.proofs.lemmas.List.{length-append, length-drop, take-append-le, drop-append-le}
use Rattle.wtp_huffman.proofs.Chosen.{chosen}
use Rattle.wtp_qpack.proofs.Chosen.{bind_ok, same_rest}
use Rattle.wtp_qpack.proofs.StringReading.{int_shorter}
use Rattle.wtp_qpack.specs.declared.qpack.DecodingError.{DecodingError}
use Rattle.wtp_qpack.specs.declared.qpack.DecodingError.TheVariants.{UnexpectedFin, IntegerOverflow}
use Rattle.wtp_qpack.specs.Qpack.{◌>>=◌}
use Rattle.wtp_qpack.specs.Integer.{groups_at, integer_at}
use Rattle.wtp_qpack.specs.StringLiteral.{flag_above}
use Rattle.wtp_qpack.specs.FieldLine.{bit}
use Rattle.wtp_dynamic.specs.Instruction.{Coded, Instruction, SetCapacity, InsertNamed, InsertLiteral, Duplicate, coded_at, Instructions, capacity_at, named_at, literal_at, duplicate_at, instruction_by, instruction_at}

-- the answer of a reading when more bytes follow: the same, with these after the rest, unless the
-- bytes were cut
abbrev pub Goes : {X : Type 0} → List ℕ → Result (X × List ℕ) DecodingError → Result (X × List ℕ) DecodingError → Type 0
Goes more (Ok x) longer = longer ≡ Ok (x.0, x.1 ++ more)
Goes more (Err UnexpectedFin) longer = Unit {0}
Goes more (Err fault) longer = longer ≡ Err fault

-- a reading that goes on so
abbrev pub GoesOn : {X : Type 0} → (List ℕ → Result (X × List ℕ) DecodingError) → Type 0
GoesOn reading = (bytes more : List ℕ) → Goes more (reading bytes) (reading (bytes ++ more))

groups_go : (sum k : ℕ) (bytes more : List ℕ) → Goes more (groups_at sum k bytes) (groups_at sum k (bytes ++ more))
unfolding groups_at
groups_go sum k [] more = tt
groups_go sum k (g ∷ gs) more =
    by_over (nat_le (2 ^ 64) (sum + g % 128 * 2 ^ (7 * k))) (nat_lt g 128) (sum + g % 128 * 2 ^ (7 * k)) gs more _ _ (groups_go (sum + g % 128 * 2 ^ (7 * k)) (suc k) gs more)
  where
    by_over : (over last : Bool) (v : ℕ) (gs more : List ℕ) (a b : Result (ℕ × List ℕ) DecodingError) → Goes more a b
        → Goes more (cond over (Err IntegerOverflow) (cond last (Ok (v, gs)) a)) (cond over (Err IntegerOverflow) (cond last (Ok (v, gs ++ more)) b))
    by_over true last v gs more a b go = refl
    by_over false true v gs more a b go = refl
    by_over false false v gs more a b go = go

pub integer_goes : (n : ℕ) → GoesOn (integer_at n)
unfolding integer_at
integer_goes n [] more = tt
integer_goes n (b ∷ bs) more = by_ones (b % 2 ^ n == 2 ^ n - 1) _ _ (groups_go (2 ^ n - 1) 0 bs more)
  where
    by_ones : (ones : Bool) (a c : Result (ℕ × List ℕ) DecodingError) → Goes more a c
        → Goes more (cond ones a (Ok (b % 2 ^ n, bs))) (cond ones c (Ok (b % 2 ^ n, bs ++ more)))
    by_ones true a c go = go
    by_ones false a c go = refl

-- one reading after another
pub bind_goes : {X Y : Type 0} (more : List ℕ) (a b : Result (X × List ℕ) DecodingError) (f g : X × List ℕ → Result (Y × List ℕ) DecodingError)
    → Goes more a b → ((x : X) (rest : List ℕ) → a ≡ Ok (x, rest) → Goes more (f (x, rest)) (g (x, rest ++ more))) → Goes more (a >>= f) (b >>= g)
bind_goes more (Ok x) b f g go then = rw go (then x.0 x.1 refl)
bind_goes more (Err UnexpectedFin) b f g go then = tt
bind_goes more (Err e) b f g go then = rw go refl

string_goes : (n size : ℕ) (flag : Bool) (rest more : List ℕ)
    → Goes {X = Coded} more (cond (nat_lt (length rest) size) (Err UnexpectedFin) (Ok ((flag, take size rest), drop size rest)))
    (cond (nat_lt (length (rest ++ more)) size) (Err UnexpectedFin) (Ok ((flag, take size (rest ++ more)), drop size (rest ++ more))))
string_goes n size flag rest more = elim (cases_lt (length rest) size) [
  | inl few ↦ rw (lt-ltb (length rest) size few) tt
  | inr enough ↦
      let longer : size ≤ length (rest ++ more) = omega (arith, length-append rest more) in
      rw (le-ltb (length rest) size enough, le-ltb (length (rest ++ more)) size longer, take-append-le size rest more enough, drop-append-le size rest more enough) refl
]

pub coded_goes : (n : ℕ) → GoesOn (coded_at n)
unfolding coded_at flag_above integer_at
coded_goes n [] more = tt
coded_goes n (b ∷ bs) more =
    bind_goes more (integer_at n (b ∷ bs)) (integer_at n (b ∷ bs ++ more)) _ _ (integer_goes n (b ∷ bs) more)
    (λ size rest e. string_goes n size (flag_above n (b ∷ bs)) rest more)

named_goes : (is_static : Bool) → GoesOn (named_at is_static)
unfolding named_at
named_goes is_static bytes more =
    bind_goes more (integer_at 6 bytes) (integer_at 6 (bytes ++ more)) _ _ (integer_goes 6 bytes more)
    (λ index rest e. bind_goes more (coded_at 7 rest) (coded_at 7 (rest ++ more)) _ _ (coded_goes 7 rest more) (λ value behind e. refl))

literal_goes : GoesOn literal_at
unfolding literal_at
literal_goes bytes more =
    bind_goes more (coded_at 5 bytes) (coded_at 5 (bytes ++ more)) _ _ (coded_goes 5 bytes more)
    (λ name rest e. bind_goes more (coded_at 7 rest) (coded_at 7 (rest ++ more)) _ _ (coded_goes 7 rest more) (λ value behind e. refl))

capacity_goes : GoesOn capacity_at
unfolding capacity_at
capacity_goes bytes more = bind_goes more (integer_at 5 bytes) (integer_at 5 (bytes ++ more)) _ _ (integer_goes 5 bytes more) (λ capacity rest e. refl)

duplicate_goes : GoesOn duplicate_at
unfolding duplicate_at
duplicate_goes bytes more = bind_goes more (integer_at 5 bytes) (integer_at 5 (bytes ++ more)) _ _ (integer_goes 5 bytes more) (λ index rest e. refl)

by_goes : (a b c : Bool) → GoesOn (instruction_by a b c)
by_goes true b c bytes more = named_goes b bytes more
by_goes false true c bytes more = literal_goes bytes more
by_goes false false true bytes more = capacity_goes bytes more
by_goes false false false bytes more = duplicate_goes bytes more

pub instruction_goes : GoesOn instruction_at
unfolding instruction_at
instruction_goes [] more = tt
instruction_goes (b ∷ bs) more = by_goes (bit 7 b) (bit 6 b) (bit 5 b) (b ∷ bs) more

-- ---- what is read is shorter

coded_shorter : (n : ℕ) (bytes : List ℕ) (s : Coded) (rest : List ℕ) → coded_at n bytes ≡ Ok (s, rest) → length rest < length bytes
unfolding coded_at
coded_shorter n bytes s rest e =
    let size = bind_ok (integer_at n bytes) (λ (m : ℕ × List ℕ). cond (nat_lt (length m.1) m.0) (Err UnexpectedFin) (Ok ((flag_above n bytes, take m.0 m.1), drop m.0 m.1))) (s, rest) e in
    let m : ℕ × List ℕ = size.0 in
    let less : length m.1 < length bytes = int_shorter n bytes m.0 m.1 size.1 in
    elim (chosen (nat_lt (length m.1) m.0) (Err UnexpectedFin) (Ok ((flag_above n bytes, take m.0 m.1), drop m.0 m.1)) (Ok (s, rest)) size.2) [
      | inl few ↦ cc few.1
      | inr enough ↦
          let behind : drop m.0 m.1 ≡ rest = same_rest (flag_above n bytes, take m.0 m.1) s (drop m.0 m.1) rest enough.1 in
          omega (arith, ap length behind, length-drop m.0 m.1)
    ]

abbrev Shortens : Instructions → Type 0
Shortens reading = (bytes : List ℕ) (i : Instruction) (rest : List ℕ) → reading bytes ≡ Ok (i, rest) → length rest < length bytes

capacity_shorter : Shortens capacity_at
unfolding capacity_at
capacity_shorter bytes i rest e =
    let k = bind_ok (integer_at 5 bytes) (λ (k : ℕ × List ℕ). Ok (SetCapacity k.0, k.1)) (i, rest) e in
    omega (arith, ap length (same_rest (SetCapacity k.0.0) i k.0.1 rest k.2), int_shorter 5 bytes k.0.0 k.0.1 k.1)

duplicate_shorter : Shortens duplicate_at
unfolding duplicate_at
duplicate_shorter bytes i rest e =
    let k = bind_ok (integer_at 5 bytes) (λ (k : ℕ × List ℕ). Ok (Duplicate k.0, k.1)) (i, rest) e in
    omega (arith, ap length (same_rest (Duplicate k.0.0) i k.0.1 rest k.2), int_shorter 5 bytes k.0.0 k.0.1 k.1)

named_shorter : (is_static : Bool) → Shortens (named_at is_static)
unfolding named_at
named_shorter is_static bytes i rest e =
    let k = bind_ok (integer_at 6 bytes) (λ (k : ℕ × List ℕ). coded_at 7 k.1 >>= λ v. Ok (InsertNamed is_static k.0 v.0, v.1)) (i, rest) e in
    let v = bind_ok (coded_at 7 k.0.1) (λ v. Ok (InsertNamed is_static k.0.0 v.0, v.1)) (i, rest) k.2 in
    omega (arith, ap length (same_rest (InsertNamed is_static k.0.0 v.0.0) i v.0.1 rest v.2), int_shorter 6 bytes k.0.0 k.0.1 k.1, coded_shorter 7 k.0.1 v.0.0 v.0.1 v.1)

literal_shorter : Shortens literal_at
unfolding literal_at
literal_shorter bytes i rest e =
    let k = bind_ok (coded_at 5 bytes) (λ (k : Coded × List ℕ). coded_at 7 k.1 >>= λ v. Ok (InsertLiteral k.0 v.0, v.1)) (i, rest) e in
    let v = bind_ok (coded_at 7 k.0.1) (λ v. Ok (InsertLiteral k.0.0 v.0, v.1)) (i, rest) k.2 in
    omega (arith, ap length (same_rest (InsertLiteral k.0.0 v.0.0) i v.0.1 rest v.2), coded_shorter 5 bytes k.0.0 k.0.1 k.1, coded_shorter 7 k.0.1 v.0.0 v.0.1 v.1)

by_shorter : (a b c : Bool) → Shortens (instruction_by a b c)
by_shorter true b c bytes i rest e = named_shorter b bytes i rest e
by_shorter false true c bytes i rest e = literal_shorter bytes i rest e
by_shorter false false true bytes i rest e = capacity_shorter bytes i rest e
by_shorter false false false bytes i rest e = duplicate_shorter bytes i rest e

pub instruction_shorter : Shortens instruction_at
unfolding instruction_at
instruction_shorter [] i rest e = cc e
instruction_shorter (b ∷ bs) i rest e = by_shorter (bit 7 b) (bit 6 b) (bit 5 b) (b ∷ bs) i rest e
