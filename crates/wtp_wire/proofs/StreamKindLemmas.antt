-- The computed kind of a stream agrees with the definition.
use Rattle.std.proofs.Common.{◌≡◌, ℕ, Bool, true, false, Option, Some, None, refl}
use Rattle.wtp_wire.specs.declared.stream_header.StreamKind.{StreamKind}
use Rattle.wtp_wire.specs.declared.stream_header.StreamKind.TheVariants.{Exercise}
use Rattle.wtp_wire.specs.StreamKind.{IsStreamKind, named_kinds, stream_number_of, stream_kind_of}
use Rattle.wtp_wire.proofs.KindLemmas.{exercise_test, test_exercise}
use Rattle.wtp_wire.proofs.NamedLemmas.{kind_by-exercise, is-kind_by}

pub stream_kind_of-is : (kind : StreamKind) (id : ℕ) → IsStreamKind kind id → stream_kind_of id ≡ Some kind
unfolding stream_kind_of
stream_kind_of-is (Exercise number) id h =
    let e : number ≡ id = h.0 in
    rw e (kind_by-exercise stream_number_of (λ n. Exercise n) named_kinds id refl (exercise_test id h.1))
stream_kind_of-is kind id h = rw h refl

is_named : StreamKind → Bool
is_named (Exercise number) = false
is_named kind = true

named_is : (kind : StreamKind) (id : ℕ) → is_named kind ≡ true → id ≡ stream_number_of kind → IsStreamKind kind id
unfolding is_named
named_is (Exercise number) id t e = absurd cc
named_is kind id t e = e

pub is-stream_kind_of : (kind : StreamKind) (id : ℕ) → stream_kind_of id ≡ Some kind → IsStreamKind kind id
unfolding stream_kind_of is_named
is-stream_kind_of kind id e = is-kind_by stream_number_of (λ n. Exercise n) IsStreamKind is_named named_is (λ n t. (refl, test_exercise n t)) named_kinds refl kind id e

pub stream_kind_of-none : (id : ℕ) → ((kind : StreamKind) → IsStreamKind kind id → ⊥) → stream_kind_of id ≡ None
stream_kind_of-none id h = none_of (stream_kind_of id) refl
  where
    none_of : (o : Option StreamKind) → stream_kind_of id ≡ o → stream_kind_of id ≡ None
    none_of None e = e
    none_of (Some kind) e = absurd (h kind (is-stream_kind_of kind id e))
