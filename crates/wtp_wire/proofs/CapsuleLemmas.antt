-- The computed capsule is the capsule at the start.
use Rattle.std.proofs.Common.{◌≡◌, ◌≢◌, ℕ, eqb, List, [], ◌∷◌, ◌++◌, length, Option, Some, None, refl, sym, ap, subst, ◌∙◌, append_assoc, inl, inr}
use Rattle.std.proofs.lemmas.Bool.{eqb-true}
use Rattle.wtp_core.specs.Varint.{number_at, bytes_at, Encodes}
use Rattle.wtp_core.proofs.EncodingLemmas.{number_at-encoding, number_at-encodes, bytes_at-append, bytes_at-parts}
use Rattle.wtp_wire.specs.declared.capsule.CapsuleKind.{CapsuleKind}
use Rattle.wtp_wire.specs.declared.capsule.CapsuleKind.TheVariants.{CloseWebTransportSession}
use Rattle.wtp_wire.specs.Capsule.{capsule_number_of, BeginsWithCapsule, capsule_kinds, capsule_kind_among, capsule_kind_of, payload_after, capsule_in}
use Rattle.wtp_wire.proofs.FrontLemmas.{found}
use Rattle.wtp_wire.proofs.KindLemmas.{which}

pub capsule_kind_of-number : (kind : CapsuleKind) → capsule_kind_of (capsule_number_of kind) ≡ Some kind
capsule_kind_of-number CloseWebTransportSession = refl

capsule_in-kind : (bytes rest : List ℕ) (id : ℕ) (kind : CapsuleKind) → number_at bytes ≡ Some (id, rest) → capsule_kind_of id ≡ Some kind → capsule_in bytes ≡ payload_after kind rest
unfolding capsule_in
capsule_in-kind bytes rest id kind e k = rw (e, k) refl

payload_after-some : (kind : CapsuleKind) (bytes rest payload more : List ℕ) (n : ℕ) → number_at bytes ≡ Some (n, rest) → bytes_at n rest ≡ Some (payload, more) → payload_after kind bytes ≡ Some (kind, payload)
unfolding payload_after
payload_after-some kind bytes rest payload more n e p = rw (e, p) refl

pub capsule_in-begins : (bytes : List ℕ) (kind : CapsuleKind) (payload : List ℕ) (h : BeginsWithCapsule bytes kind payload) → capsule_in bytes ≡ Some (kind, payload)
capsule_in-begins bytes kind payload h =
    let behind : List ℕ = h.encoded.second ++ (payload ++ h.rest) in
    let all : bytes ≡ h.encoded.first ++ behind = h.parts ∙ ap (λ (x : List ℕ). x ++ (payload ++ h.rest)) h.encoded.parts ∙ append_assoc h.encoded.first h.encoded.second (payload ++ h.rest) in
    let typed : number_at bytes ≡ Some (capsule_number_of kind, behind) = ap number_at all ∙ number_at-encoding (capsule_number_of kind) h.encoded.first behind h.encoded.type_number in
    capsule_in-kind bytes behind (capsule_number_of kind) kind typed (capsule_kind_of-number kind) ∙ payload_after-some kind behind (payload ++ h.rest) payload h.rest (length payload) (number_at-encoding (length payload) h.encoded.second (payload ++ h.rest) h.encoded.number) (bytes_at-append payload h.rest)

-- ---- and the converse

capsule_in-no_number : (bytes : List ℕ) → number_at bytes ≡ None → capsule_in bytes ≡ None
unfolding capsule_in
capsule_in-no_number bytes e = rw e refl

capsule_in-no_kind : (bytes rest : List ℕ) (id : ℕ) → number_at bytes ≡ Some (id, rest) → capsule_kind_of id ≡ None → capsule_in bytes ≡ None
unfolding capsule_in
capsule_in-no_kind bytes rest id e k = rw (e, k) refl

payload_after-no_number : (kind : CapsuleKind) (bytes : List ℕ) → number_at bytes ≡ None → payload_after kind bytes ≡ None
unfolding payload_after
payload_after-no_number kind bytes e = rw e refl

payload_after-cut : (kind : CapsuleKind) (bytes rest : List ℕ) (n : ℕ) → number_at bytes ≡ Some (n, rest) → bytes_at n rest ≡ None → payload_after kind bytes ≡ None
unfolding payload_after
payload_after-cut kind bytes rest n e p = rw (e, p) refl

none_some : (x : CapsuleKind × List ℕ) (o : Option (CapsuleKind × List ℕ)) → o ≡ None → o ≡ Some x → ⊥
none_some x o d e = cc

some_is : (x y : CapsuleKind × List ℕ) → Some x ≡ Some y → x ≡ y
some_is x y e = cc

among-number : (kinds : List CapsuleKind) (id : ℕ) (kind : CapsuleKind) → capsule_kind_among kinds id ≡ Some kind → id ≡ capsule_number_of kind
among-number [] id kind e = absurd cc
among-number (k ∷ kinds) id kind e = elim (which (eqb id (capsule_number_of k)) (Some k) (capsule_kind_among kinds id) (Some kind) e) [
  | inl p ↦ eqb-true id (capsule_number_of k) p.0 ∙ ap capsule_number_of (same_kind p.1)
  | inr p ↦ among-number kinds id kind p.1
]
  where
    same_kind : Some k ≡ Some kind → k ≡ kind
    same_kind s = cc

pub number-capsule_kind_of : (id : ℕ) (kind : CapsuleKind) → capsule_kind_of id ≡ Some kind → id ≡ capsule_number_of kind
number-capsule_kind_of id kind e = among-number capsule_kinds id kind e

pub capsule_kind_of-is : (kind : CapsuleKind) (id : ℕ) → id ≡ capsule_number_of kind → capsule_kind_of id ≡ Some kind
capsule_kind_of-is kind id e = ap capsule_kind_of e ∙ capsule_kind_of-number kind

pub no_kind_none : (id : ℕ) → ((kind : CapsuleKind) → id ≢ capsule_number_of kind) → capsule_kind_of id ≡ None
no_kind_none id h = elim (found (capsule_kind_of id)) [ inl none ↦ none | inr (kind, is) ↦ absurd (h kind (number-capsule_kind_of id kind is)) ]

pub begins-capsule_in : (bytes : List ℕ) (kind : CapsuleKind) (payload : List ℕ) → capsule_in bytes ≡ Some (kind, payload) → BeginsWithCapsule bytes kind payload
begins-capsule_in bytes kind payload e = elim (found (number_at bytes)) [
  | inl none ↦ absurd (none_some (kind, payload) (capsule_in bytes) (capsule_in-no_number bytes none) e)
  | inr ((id, rest), typed) ↦ elim (found (capsule_kind_of id)) [
    | inl none ↦ absurd (none_some (kind, payload) (capsule_in bytes) (capsule_in-no_kind bytes rest id typed none) e)
    | inr (k, is) ↦ after_type id rest k typed is (sym (capsule_in-kind bytes rest id k typed is) ∙ e)
  ]
]
  where
    after_type : (id : ℕ) (rest : List ℕ) (k : CapsuleKind) → number_at bytes ≡ Some (id, rest) → capsule_kind_of id ≡ Some k → payload_after k rest ≡ Some (kind, payload) → BeginsWithCapsule bytes kind payload
    after_type id rest k typed is found_after = elim (found (number_at rest)) [
      | inl none ↦ absurd (none_some (kind, payload) (payload_after k rest) (payload_after-no_number k rest none) found_after)
      | inr ((n, more), sized) ↦ elim (found (bytes_at n more)) [
        | inl cut ↦ absurd (none_some (kind, payload) (payload_after k rest) (payload_after-cut k rest more n sized cut) found_after)
        | inr ((p, left), got) ↦
            let same = some_is (k, p) (kind, payload) (sym (payload_after-some k rest more p left n sized got) ∙ found_after) in
            let (first, encoded, parts) = number_at-encodes id bytes rest typed in
            let (second, number, behind) = number_at-encodes n rest more sized in
            let (len, pieces) = bytes_at-parts n more p left got in
            let one : BeginsWithCapsule bytes k p = record {
              head = first ++ second;
              rest = left;
              encoded = record { first = first; second = second; parts = refl; type_number = subst (λ (i : ℕ). Encodes i first) (number-capsule_kind_of id k is) encoded; number = subst (λ (i : ℕ). Encodes i second) (sym len) number };
              parts = parts ∙ ap (λ (x : List ℕ). first ++ x) (behind ∙ ap (λ (x : List ℕ). second ++ x) pieces) ∙ sym (append_assoc first second (p ++ left));
            } in
            rw (← ap (λ (x : CapsuleKind × List ℕ). x.0) same, ← ap (λ (x : CapsuleKind × List ℕ). x.1) same) one
      ]
    ]
