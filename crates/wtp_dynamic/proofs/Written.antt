-- Instructions that were written are read again.
use Rattle.std.proofs.Common.{◌≡◌, ℕ, ◌+◌, ◌*◌, ◌/◌, ◌%◌, ◌^◌, ◌==◌, ◌<◌, ◌≤◌, inl, inr, Bool, true, false, nat_lt, List, [], ◌∷◌, ◌++◌, length, take, drop, refl, sym, ◌∙◌, ap, arith, append_assoc, append-nil, Result, Ok, Err, eq-eqb, ne_eqb}
use Rattle.std.specs.List.{flat_map}
use Rattle.std.proofs.lemmas.Bool.{cases_lt, lt-ltb, le-ltb}
use Rattle.std.proofs.lemmas.List.{length-append, take_all, drop_all}
use Rattle.std.proofs.Math.Seq.{drop-append_seam, take-append_seam}
use Rattle.wtp_qpack.specs.Field.{IsOctets}
use Rattle.wtp_qpack.specs.Integer.{integer_at, shortest_int}
use Rattle.wtp_qpack.specs.StringLiteral.{huffman_bytes, encoded_string}
use Rattle.wtp_qpack.specs.FieldLine.{bit}
use Rattle.wtp_qpack.proofs.IntegerLaws.{int_read, short_int}
use Rattle.wtp_qpack.proofs.RoundTrip.{short_head, flag_of, text_head}
use Rattle.wtp_qpack.proofs.StringBits.{huffman_only}
use Rattle.wtp_qpack.proofs.StringWriting.{huffman_is}
use Rattle.wtp_dynamic.specs.declared.error.EncoderStreamError.{EncoderStreamError}
use Rattle.wtp_dynamic.specs.Table.{Table}
use Rattle.wtp_dynamic.specs.Instruction.{Coded, Instruction, SetCapacity, InsertNamed, InsertLiteral, Duplicate, coded_at, capacity_at, named_at, literal_at, duplicate_at, instruction_by, instruction_at}
use Rattle.wtp_dynamic.specs.Chain.{◌>>=◌}
use Rattle.wtp_dynamic.specs.Steps.{text_of, step, insert_step, referred}
use Rattle.wtp_dynamic.specs.Stream.{Leads}
use Rattle.wtp_dynamic.specs.Front.{Whole, front_of, front_at, most_bytes}
use Rattle.wtp_dynamic.proofs.Fronts.{whole_goes}
use Rattle.wtp_dynamic.specs.Writing.{Order, Sets, InsertsNamed, InsertsLiteral, Duplicates, order_step, written, CanBeWritten, Carries}

-- ---- strings

pub int_again : (n flags v : ℕ) (rest : List ℕ) → v < 2 ^ 64 → integer_at n (shortest_int n flags v ++ rest) ≡ Ok (v, rest)
int_again n flags v rest small = int_read n v (shortest_int n flags v) rest (short_int n flags v small)

-- a string of bytes behind its length
body_again : (n f h : ℕ) (body rest : List ℕ) → h < 2 → length body < 2 ^ 64 → coded_at n ((shortest_int n (f * 2 + h) (length body) ++ body) ++ rest) ≡ Ok ((h == 1, body), rest)
unfolding coded_at
body_again n f h body rest small fits =
    let s : List ℕ = shortest_int n (f * 2 + h) (length body) in
    let grouped : (s ++ body) ++ rest ≡ s ++ (body ++ rest) = append_assoc s body rest in
    let size : integer_at n (s ++ (body ++ rest)) ≡ Ok (length body, body ++ rest) = int_again n (f * 2 + h) (length body) (body ++ rest) fits in
    let enough : nat_lt (length (body ++ rest)) (length body) ≡ false = le-ltb (length (body ++ rest)) (length body) (omega (arith, length-append body rest)) in
    rw (grouped, size, enough, flag_of n f h (length body) (body ++ rest) small, take-append_seam body rest, drop-append_seam body rest) refl

-- a text is read again as a string with this text
pub record Again (n f : ℕ) (t rest : List ℕ) : Type 0 where
  pub string : Coded
  pub read : coded_at n (encoded_string n f t ++ rest) ≡ Ok (string, rest)
  pub text : text_of string ≡ Ok t

pub coded_again : (n f : ℕ) (t rest : List ℕ) → IsOctets t → Again n f t rest
unfolding encoded_string
coded_again n f t rest good = elim (cases_lt (length (huffman_bytes t)) (length t)) [
  | inl less ↦ record {
    string = (true, huffman_bytes t);
    read = rw (lt-ltb (length (huffman_bytes t)) (length t) less) (body_again n f 1 (huffman_bytes t) rest (omega arith) (omega (arith, good.few)));
    text = rw (huffman_only t (huffman_bytes t) (huffman_is t good.bytes)) refl;
  }
  | inr more ↦
      let zeros : f * 2 ≡ f * 2 + 0 = omega arith in
      record {
        string = (false, t);
        read = rw (le-ltb (length (huffman_bytes t)) (length t) more, zeros) (body_again n f 0 t rest (omega arith) good.few);
        text = refl;
      }
]

-- ---- instructions

-- by the first byte
instruction_as : (text rest : List ℕ) (b : ℕ) (x y z : Bool) → text ≡ b ∷ rest → bit 7 b ≡ x → bit 6 b ≡ y → bit 5 b ≡ z → instruction_at text ≡ instruction_by x y z text
unfolding instruction_at
instruction_as text rest b x y z e first second third =
    ap instruction_at e ∙ rw (first, second, third) refl ∙ ap (instruction_by x y z) (sym e)

-- an instruction that means an order
pub record Read (order : Order) (rest : List ℕ) : Type 0 where
  pub instruction : Instruction
  pub read : instruction_at (written order ++ rest) ≡ Ok (instruction, rest)
  pub means : (table : Table) → step instruction table ≡ order_step order table

set_again : (capacity : ℕ) (rest : List ℕ) → capacity < 2 ^ 64 → Read (Sets capacity) rest
unfolding capacity_at
set_again capacity rest small =
    let head = short_head 5 1 capacity rest in
    let b : ℕ = 1 * 2 ^ 5 + head.0 in
    record {
      instruction = SetCapacity capacity;
      read = instruction_as (shortest_int 5 1 capacity ++ rest) head.2 b false false true head.3
          (ne_eqb (b / 2 ^ 7 % 2) 1 (omega (arith, head.1))) (ne_eqb (b / 2 ^ 6 % 2) 1 (omega (arith, head.1))) (eq-eqb (b / 2 ^ 5 % 2) 1 (omega (arith, head.1)))
          ∙ rw (int_again 5 1 capacity rest small) refl;
      means = λ table. refl;
    }

duplicate_again : (index : ℕ) (rest : List ℕ) → index < 2 ^ 64 → Read (Duplicates index) rest
unfolding duplicate_at
duplicate_again index rest small =
    let head = short_head 5 0 index rest in
    let b : ℕ = 0 * 2 ^ 5 + head.0 in
    record {
      instruction = Duplicate index;
      read = instruction_as (shortest_int 5 0 index ++ rest) head.2 b false false false head.3
          (ne_eqb (b / 2 ^ 7 % 2) 1 (omega (arith, head.1))) (ne_eqb (b / 2 ^ 6 % 2) 1 (omega (arith, head.1))) (ne_eqb (b / 2 ^ 5 % 2) 1 (omega (arith, head.1)))
          ∙ rw (int_again 5 0 index rest small) refl;
      means = λ table. refl;
    }

named_by : (is_static : Bool) (flags index : ℕ) (value rest : List ℕ) → bit 6 (flags * 2 ^ 6) ≡ is_static → flags ≡ 2 + flags % 2 → flags < 4 → index < 2 ^ 64 → IsOctets value
    → (i : Instruction) × (instruction_at ((shortest_int 6 flags index ++ encoded_string 7 0 value) ++ rest) ≡ Ok (i, rest))
    × ((table : Table) → step i table ≡ (referred is_static index table >>= λ named. insert_step (named.0, value) table))
unfolding named_at
named_by is_static flags index value rest second top low small good =
    let behind : List ℕ = encoded_string 7 0 value ++ rest in
    let head = short_head 6 flags index behind in
    let b : ℕ = flags * 2 ^ 6 + head.0 in
    let again = coded_again 7 0 value rest good in
    let same : b / 2 ^ 6 % 2 ≡ flags * 2 ^ 6 / 2 ^ 6 % 2 = omega (arith, head.1) in (
      InsertNamed is_static index again.string,
      ap instruction_at (append_assoc (shortest_int 6 flags index) (encoded_string 7 0 value) rest)
          ∙ instruction_as (shortest_int 6 flags index ++ behind) head.2 b true is_static (bit 5 b) head.3
          (eq-eqb (b / 2 ^ 7 % 2) 1 (omega (arith, head.1))) (ap (λ n. n == 1) same ∙ second) refl
          ∙ rw (int_again 6 flags index behind small, again.read) refl,
      λ table. by_name (referred is_static index table) again.string again.text table,
    )
  where
    by_name : (r : Result (List ℕ × List ℕ) EncoderStreamError) (string : Coded) → text_of string ≡ Ok value → (table : Table)
        → ((r >>= λ named. (text_of string >>= λ text. Ok (named.0, text))) >>= λ entry. insert_step entry table) ≡ (r >>= λ named. insert_step (named.0, value) table)
    by_name (Ok named) string text table = rw text refl
    by_name (Err e) string text table = refl

named_again : (is_static : Bool) (index : ℕ) (value rest : List ℕ) → index < 2 ^ 64 → IsOctets value → Read (InsertsNamed is_static index value) rest
named_again true index value rest small good =
    let made = named_by true 3 index value rest refl (omega arith) (omega arith) small good in
    record { instruction = made.0; read = made.1; means = made.2 }
named_again false index value rest small good =
    let made = named_by false 2 index value rest refl (omega arith) (omega arith) small good in
    record { instruction = made.0; read = made.1; means = made.2 }

literal_again : (name value rest : List ℕ) → IsOctets name → IsOctets value → Read (InsertsLiteral name value) rest
unfolding literal_at
literal_again name value rest good_name good_value =
    let behind : List ℕ = encoded_string 7 0 value ++ rest in
    let head = text_head 5 1 name behind in
    let b : ℕ = (1 * 2 + head.0) * 2 ^ 5 + head.2 in
    let first = coded_again 5 1 name behind good_name in
    let second = coded_again 7 0 value rest good_value in
    record {
      instruction = InsertLiteral first.string second.string;
      read =
          ap instruction_at (append_assoc (encoded_string 5 1 name) (encoded_string 7 0 value) rest)
          ∙ instruction_as (encoded_string 5 1 name ++ behind) head.4 b false true (bit 5 b) head.5
          (ne_eqb (b / 2 ^ 7 % 2) 1 (omega (arith, head.1, head.3))) (eq-eqb (b / 2 ^ 6 % 2) 1 (omega (arith, head.1, head.3))) refl
          ∙ rw (first.read, second.read) refl;
      means = λ table. rw (first.text, second.text) refl;
    }

pub order_again : (order : Order) (rest : List ℕ) → CanBeWritten order → Read order rest
order_again (Sets capacity) rest small = set_again capacity rest small
order_again (InsertsNamed is_static index value) rest (small, good) = named_again is_static index value rest small good
order_again (InsertsLiteral name value) rest (first, second) = literal_again name value rest first second
order_again (Duplicates index) rest small = duplicate_again index rest small

-- ---- a stream

-- an order that is not too long is the front
front_again : (most : ℕ) (order : Order) (more : List ℕ) → CanBeWritten order → length (written order) ≤ most → (i : Instruction) × (front_at most (written order ++ more) ≡ Whole i more) × ((table : Table) → step i table ≡ order_step order table)
unfolding front_at
front_again most order more can short =
    let one = order_again order [] can in
    let whole : take most (written order) ≡ written order = take_all most (written order) short in
    let read : instruction_at (take most (written order)) ≡ Ok (one.instruction, []) = ap instruction_at (whole ∙ sym (append-nil (written order))) ∙ one.read in
    let none : drop most (written order) ≡ [] = drop_all most (written order) short in
    let alone : front_at most (written order) ≡ Whole one.instruction [] = ap (front_of most (written order)) read ∙ ap (Whole one.instruction) none in
    (one.instruction, whole_goes most (written order) more [] one.instruction alone, one.means)

pub orders_again : (orders : List Order) (t u : Table) (rest : List ℕ) → Carries orders t u → (is : List Instruction) × Leads is t (flat_map written orders ++ rest) u rest
orders_again [] t u rest same = ([], (same, refl))
orders_again (order ∷ orders) t u rest (can, short, next, did, carries) =
    let more : List ℕ = flat_map written orders ++ rest in
    let one = front_again (most_bytes t.limit) order more can short in
    let others = orders_again orders next u rest carries in
    let grouped : (written order ++ flat_map written orders) ++ rest ≡ written order ++ more = append_assoc (written order) (flat_map written orders) rest in
    (one.0 ∷ others.0, (next, more, ap (front_at (most_bytes t.limit)) grouped ∙ one.1, one.2 t ∙ did, others.1))
