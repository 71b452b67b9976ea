-- The computed first capsule is the first capsule of the grammar.
use Rattle.std.proofs.Common.{◌≡◌, ◌≢◌, ℕ, ◌<◌, ◌⊎◌, List, [], ◌∷◌, ◌++◌, length, Option, Some, None, refl, sym, ap, subst, ◌∙◌, append_assoc, arith, inl, inr, length-append}
use Rattle.std.proofs.lemmas.Bool.{cases_lt, lt-ltb, le-ltb}
use Rattle.wtp_core.specs.Varint.{number_at, bytes_at}
use Rattle.wtp_core.proofs.EncodingLemmas.{number_at-encoding, number_at-encodes, encoding_not_empty, bytes_at-parts, bytes_at-append}
use Rattle.wtp_wire.specs.declared.capsule.CapsuleKind.{CapsuleKind}
use Rattle.wtp_wire.specs.Capsule.{capsule_number_of, capsule_kind_of}
use Rattle.wtp_wire.specs.CapsuleFront.{CapsuleFront, Found, Unknown, TooLong, Cut, End, max_value_len, StartsWith, value_front, some_front, capsule_front}
use Rattle.wtp_wire.specs.Front.{EncodesPair}
use Rattle.wtp_wire.proofs.CapsuleLemmas.{capsule_kind_of-number, number-capsule_kind_of, no_kind_none}
use Rattle.wtp_wire.proofs.FrontLemmas.{found}

-- ---- by the type and the length

front_some : (bytes : List ℕ) → 0 < length bytes → capsule_front bytes ≡ some_front bytes
unfolding capsule_front
front_some [] l = absurd (omega arith)
front_some (b ∷ bytes) l = refl

pub front_end : capsule_front [] ≡ End
unfolding capsule_front
front_end = refl

some_none : (bytes : List ℕ) → number_at bytes ≡ None → some_front bytes ≡ Cut
unfolding some_front
some_none bytes e = rw e refl

pub front_none : (bytes : List ℕ) → 0 < length bytes → number_at bytes ≡ None → capsule_front bytes ≡ Cut
front_none bytes l e = front_some bytes l ∙ some_none bytes e

some_one : (bytes r : List ℕ) (id : ℕ) → number_at bytes ≡ Some (id, r) → number_at r ≡ None → some_front bytes ≡ Cut
unfolding some_front
some_one bytes r id e f = rw (e, f) refl

some_two : (bytes r rest : List ℕ) (id n : ℕ) → number_at bytes ≡ Some (id, r) → number_at r ≡ Some (n, rest) → some_front bytes ≡ value_front (capsule_kind_of id) n rest
unfolding some_front
some_two bytes r rest id n e f = rw (e, f) refl

-- a number has at least one byte
pub number_shorter : (bytes rest : List ℕ) (v : ℕ) → number_at bytes ≡ Some (v, rest) → length rest < length bytes
number_shorter bytes rest v e =
    let (s, encoded, parts) = number_at-encodes v bytes rest e in
    let some : 0 < length s = encoding_not_empty v s encoded in
    omega (arith, ap length parts, length-append s rest)

pub front_one : (bytes r : List ℕ) (id : ℕ) → number_at bytes ≡ Some (id, r) → number_at r ≡ None → capsule_front bytes ≡ Cut
front_one bytes r id e f = front_some bytes (omega (arith, number_shorter bytes r id e)) ∙ some_one bytes r id e f

pub front_two : (bytes r rest : List ℕ) (id n : ℕ) → number_at bytes ≡ Some (id, r) → number_at r ≡ Some (n, rest) → capsule_front bytes ≡ value_front (capsule_kind_of id) n rest
front_two bytes r rest id n e f = front_some bytes (omega (arith, number_shorter bytes r id e)) ∙ some_two bytes r rest id n e f

pub front_encoded : (id n : ℕ) (head rest bytes : List ℕ) (s : EncodesPair id n head) → bytes ≡ head ++ rest → capsule_front bytes ≡ value_front (capsule_kind_of id) n rest
front_encoded id n head rest bytes s e =
    let behind : List ℕ = s.second ++ rest in
    let all : bytes ≡ s.first ++ behind = e ∙ ap (λ (x : List ℕ). x ++ rest) s.parts ∙ append_assoc s.first s.second rest in
    front_two bytes behind rest id n (ap number_at all ∙ number_at-encoding id s.first behind s.type_number) (number_at-encoding n s.second rest s.number)

-- ---- what starts with a case is computed as that case

with_rest : (bytes s head value rest : List ℕ) → bytes ≡ s ++ rest → s ≡ head ++ value → bytes ≡ head ++ (value ++ rest)
with_rest bytes s head value rest e p = e ∙ ap (λ (x : List ℕ). x ++ rest) p ∙ append_assoc head value rest

pub starts-front : (bytes : List ℕ) (c : CapsuleFront) → StartsWith bytes c → capsule_front bytes ≡ c
starts-front bytes (Found kind value rest) (s, is, e) =
    front_encoded (capsule_number_of kind) (length value) is.head (value ++ rest) bytes is.encoded (with_rest bytes s is.head value rest e is.parts)
    ∙ rw (capsule_kind_of-number kind, le-ltb (max_value_len kind) (length value) is.small, bytes_at-append value rest) refl
starts-front bytes (Unknown rest) (s, is, e) =
    front_encoded is.id (length is.value) is.head (is.value ++ rest) bytes is.encoded (with_rest bytes s is.head is.value rest e is.parts)
    ∙ rw (no_kind_none is.id is.no_kind, bytes_at-append is.value rest) refl
starts-front bytes (TooLong rest) (s, is, e) =
    front_encoded (capsule_number_of is.kind) is.len s rest bytes is.encoded e
    ∙ rw (capsule_kind_of-number is.kind, lt-ltb (max_value_len is.kind) is.len is.over) refl
starts-front bytes Cut h = absurd h
starts-front bytes End e = ap capsule_front e ∙ front_end

-- ---- and the converse

-- an encoding of two numbers at the start
pub record TwoNumbers (id n : ℕ) (bytes rest : List ℕ) : Type 0 where
  pub head : List ℕ
  pub encoded : EncodesPair id n head
  pub parts : bytes ≡ head ++ rest

pub two_numbers : (bytes r rest : List ℕ) (id n : ℕ) → number_at bytes ≡ Some (id, r) → number_at r ≡ Some (n, rest) → TwoNumbers id n bytes rest
two_numbers bytes r rest id n e f =
    let (first, typed, parts) = number_at-encodes id bytes r e in
    let (second, number, behind) = number_at-encodes n r rest f in
    record {
      head = first ++ second;
      encoded = record { first = first; second = second; parts = refl; type_number = typed; number = number };
      parts = parts ∙ ap (λ (x : List ℕ). first ++ x) behind ∙ sym (append_assoc first second rest);
    }

pub none_number : (id : ℕ) → capsule_kind_of id ≡ None → (kind : CapsuleKind) → id ≢ capsule_number_of kind
none_number id e kind is = let some : capsule_kind_of id ≡ Some kind = ap capsule_kind_of is ∙ capsule_kind_of-number kind in let bad : None ≡ Some kind = sym e ∙ some in absurd (cc)

pub same_number : (id n : ℕ) (kind : CapsuleKind) (head : List ℕ) → capsule_kind_of id ≡ Some kind → EncodesPair id n head → EncodesPair (capsule_number_of kind) n head
same_number id n kind head k s = subst (λ (i : ℕ). EncodesPair i n head) (number-capsule_kind_of id kind k) s

-- the bytes end within a capsule, or start with what is computed

starts_as : (bytes : List ℕ) (c : CapsuleFront) → capsule_front bytes ≡ c → StartsWith bytes c → (capsule_front bytes ≡ Cut) ⊎ StartsWith bytes (capsule_front bytes)
starts_as bytes c e s = inr (subst (λ (x : CapsuleFront). StartsWith bytes x) (sym e) s)

of_unknown : (bytes rest : List ℕ) (id n : ℕ) → capsule_kind_of id ≡ None → capsule_front bytes ≡ value_front None n rest → TwoNumbers id n bytes rest → (capsule_front bytes ≡ Cut) ⊎ StartsWith bytes (capsule_front bytes)
of_unknown bytes rest id n k is two = elim (found (bytes_at n rest)) [
  | inl cut ↦ inl (is ∙ rw cut refl)
  | inr ((value, left), got) ↦
      let (len, pieces) = bytes_at-parts n rest value left got in
      starts_as bytes (Unknown left) (is ∙ rw got refl) (
        two.head ++ value,
        record { id = id; head = two.head; value = value; no_kind = none_number id k; encoded = subst (λ (m : ℕ). EncodesPair id m two.head) (sym len) two.encoded; parts = refl },
        two.parts ∙ ap (λ (x : List ℕ). two.head ++ x) pieces ∙ sym (append_assoc two.head value left),
      )
]

of_known : (bytes rest : List ℕ) (id n : ℕ) (kind : CapsuleKind) → capsule_kind_of id ≡ Some kind → capsule_front bytes ≡ value_front (Some kind) n rest → TwoNumbers id n bytes rest → (capsule_front bytes ≡ Cut) ⊎ StartsWith bytes (capsule_front bytes)
of_known bytes rest id n kind k is two = elim (cases_lt (max_value_len kind) n) [
  | inl over ↦ starts_as bytes (TooLong rest) (is ∙ rw (lt-ltb (max_value_len kind) n over) refl) (two.head, record { kind = kind; len = n; over = over; encoded = same_number id n kind two.head k two.encoded }, two.parts)
  | inr fits ↦ elim (found (bytes_at n rest)) [
    | inl cut ↦ inl (is ∙ rw (le-ltb (max_value_len kind) n fits, cut) refl)
    | inr ((value, left), got) ↦
        let (len, pieces) = bytes_at-parts n rest value left got in
        starts_as bytes (Found kind value left) (is ∙ rw (le-ltb (max_value_len kind) n fits, got) refl) (
          two.head ++ value,
          record { head = two.head; encoded = subst (λ (m : ℕ). EncodesPair (capsule_number_of kind) m two.head) (sym len) (same_number id n kind two.head k two.encoded); small = omega (arith, len, fits); parts = refl },
          two.parts ∙ ap (λ (x : List ℕ). two.head ++ x) pieces ∙ sym (append_assoc two.head value left),
        )
  ]
]

pub front-starts : (bytes : List ℕ) → (capsule_front bytes ≡ Cut) ⊎ StartsWith bytes (capsule_front bytes)
front-starts [] = starts_as [] End front_end refl
front-starts (b ∷ more) = elim (found (number_at (b ∷ more))) [
  | inl none ↦ inl (front_none (b ∷ more) (omega arith) none)
  | inr ((id, r), typed) ↦ elim (found (number_at r)) [
    | inl none ↦ inl (front_one (b ∷ more) r id typed none)
    | inr ((n, rest), sized) ↦
        let two = two_numbers (b ∷ more) r rest id n typed sized in
        let is = front_two (b ∷ more) r rest id n typed sized in
        elim (found (capsule_kind_of id)) [
          | inl none ↦ of_unknown (b ∷ more) rest id n none (is ∙ ap (λ (k : Option CapsuleKind). value_front k n rest) none) two
          | inr (kind, known) ↦ of_known (b ∷ more) rest id n kind known (is ∙ ap (λ (k : Option CapsuleKind). value_front k n rest) known) two
        ]
  ]
]

-- ---- an unknown capsule has at least two bytes

head_some : (id n : ℕ) (head : List ℕ) → EncodesPair id n head → 0 < length head
head_some id n head s = let some : 0 < length s.first = encoding_not_empty id s.first s.type_number in omega (arith, ap length s.parts, length-append s.first s.second)

unknown_some : (bytes rest : List ℕ) → StartsWith bytes (Unknown rest) → length rest < length bytes
unknown_some bytes rest (s, is, e) =
    let some : 0 < length is.head = head_some is.id (length is.value) is.head is.encoded in
    omega (arith, ap length e, length-append s rest, ap length is.parts, length-append is.head is.value)

pub unknown-shorter : (bytes rest : List ℕ) → capsule_front bytes ≡ Unknown rest → length rest < length bytes
unknown-shorter bytes rest e = elim (front-starts bytes) [
  | inl cut ↦ let bad : Cut ≡ Unknown rest = sym cut ∙ e in absurd (cc)
  | inr s ↦ unknown_some bytes rest (subst (λ (c : CapsuleFront). StartsWith bytes c) e s)
]

found_some : (bytes value rest : List ℕ) (kind : CapsuleKind) → StartsWith bytes (Found kind value rest) → length rest < length bytes
found_some bytes value rest kind (s, is, e) =
    let some : 0 < length is.head = head_some (capsule_number_of kind) (length value) is.head is.encoded in
    omega (arith, ap length e, length-append s rest, ap length is.parts, length-append is.head value)

pub found-shorter : (bytes value rest : List ℕ) (kind : CapsuleKind) → capsule_front bytes ≡ Found kind value rest → length rest < length bytes
found-shorter bytes value rest kind e = elim (front-starts bytes) [
  | inl cut ↦ let bad : Cut ≡ Found kind value rest = sym cut ∙ e in absurd (cc)
  | inr s ↦ found_some bytes value rest kind (subst (λ (c : CapsuleFront). StartsWith bytes c) e s)
]

pub front_is_unique : (bytes : List ℕ) → StartsWith bytes (capsule_front bytes) ⊎ ((capsule_front bytes ≡ Cut) × ((c : CapsuleFront) → StartsWith bytes c → ⊥))
front_is_unique bytes = elim (front-starts bytes) [
  | inl cut ↦ inr (cut, λ c s. let e : c ≡ Cut = sym (starts-front bytes c s) ∙ cut in let bad : StartsWith bytes Cut = subst (λ (x : CapsuleFront). StartsWith bytes x) e s in bad)
  | inr s ↦ inl s
]
