-- How far a cursor goes, whatever follows the bytes, and the capsules of all that came.
use Rattle.std.proofs.Common.{◌≡◌, ℕ, ◌<◌, ◌≤◌, List, [], ◌∷◌, ◌++◌, length, drop, Option, Some, None, Ok, refl, sym, ap, subst, ◌∙◌, arith, inl, inr, append_assoc, append-nil, length-append, get_or, lit≤}
use Rattle.std.proofs.lemmas.Bool.{cases_lt, le-ltb}
use Rattle.wtp_core.specs.Varint.{Encodes, bytes_at}
use Rattle.wtp_core.specs.VarintLenNeeded.{byte_len_range}
use Rattle.wtp_core.proofs.EncodingLemmas.{bytes_at-append}
use Rattle.wtp_wire.specs.declared.capsule.CapsuleKind.{CapsuleKind}
use Rattle.wtp_wire.specs.declared.capsule.CapsuleKind.TheVariants.{CloseWebTransportSession}
use Rattle.wtp_wire.specs.declared.capsule.cursor.CapsuleCursor.{CapsuleCursor}
use Rattle.wtp_wire.specs.declared.capsule.cursor.CapsuleStep.{CapsuleStep}
use Rattle.wtp_wire.specs.declared.capsule.cursor.CapsuleStep.TheVariants as step-is
use Rattle.wtp_wire.specs.Capsule.{capsule_number_of}
use Rattle.wtp_wire.specs.CapsuleCursor.{held_by, capsules_from, capsule_value, IsCapsulePart, IsLeftOver, StepIs, CapsulesGoOn, CursorEvent, Came, Stepped, LeadsTo, data_in, add_found, found_in, left_after}
use Rattle.wtp_wire.specs.CapsuleFront.{CapsuleFront, Unknown, TooLong, Cut, End, IsCapsule, max_value_len, or_cut, capsule_front}
use Rattle.wtp_wire.specs.CapsuleStream.{Capsules, CapsuleEnding, Between, Within, AtTooLong, Joins, MissesValue, skip_unknown, next_capsule, next_held, ends, by_front, capsules, capsules_held}
use Rattle.wtp_wire.specs.FrameNeed.{frame_need_most}
use Rattle.wtp_wire.specs.Held.{Held}
use Rattle.wtp_wire.proofs.CapsuleLemmas.{capsule_kind_of-number}
use Rattle.wtp_wire.proofs.CapsuleFrontLemmas.{front_end, front_encoded}
use Rattle.wtp_wire.proofs.CapsuleReadingLemmas.{hold, held_none, held_due, head_cut, no_more, short_due}
use Rattle.wtp_wire.proofs.CapsuleStreamLemmas.{next-by, held-next, held-new, joined, preceded, preceded-ends}

-- ---- a value to be skipped

pub over : (o : Option (List ℕ × List ℕ)) → skip_unknown (λ r. next_capsule r) (or_cut o (λ value. Unknown value.1)) ≡ or_cut o (λ value. next_capsule value.1)
over None = refl
over (Some x) = refl

pub held_value : (n : ℕ) (xs : List ℕ) → next_held (hold [] n) xs ≡ or_cut (bytes_at n xs) (λ value. next_capsule value.1)
held_value n xs = elim (cases_lt 0 n) [
  | inl some ↦ held_due [] n xs some
  | inr zero ↦
      let none : n ≡ 0 = omega arith in
      held_none [] n xs none
      ∙ sym (ap (λ (m : ℕ). or_cut (bytes_at m xs) (λ value. next_capsule value.1)) none ∙ rw (bytes_at-append [] xs) refl)
]

-- ---- the start of a capsule

-- it is short
encoding_most : (v : ℕ) (s : List ℕ) → Encodes v s → length s ≤ 8
encoding_most v s h = omega (arith, h.size, (byte_len_range (get_or s 0 0)).1)

longest_most : (kind : CapsuleKind) → max_value_len kind ≤ 1028
longest_most CloseWebTransportSession = lit≤ tt

pub part_few : (s : List ℕ) → IsCapsulePart s → length s ≤ 1043
part_few s p = elim p [
  | inl l ↦ omega (arith, frame_need_most s)
  | inr m ↦
      let first : length m.encoded.first ≤ 8 = encoding_most _ m.encoded.first m.encoded.type_number in
      let second : length m.encoded.second ≤ 8 = encoding_most _ m.encoded.second m.encoded.number in
      omega (arith, ap length m.parts, length-append m.head m.part, ap length m.encoded.parts, length-append m.encoded.first m.encoded.second, longest_most m.kind, m.small, m.less)
]

pub capsule_few : (kind : CapsuleKind) (value s : List ℕ) → IsCapsule kind value s → length s ≤ 1044
capsule_few kind value s k =
    let first : length k.encoded.first ≤ 8 = encoding_most _ k.encoded.first k.encoded.type_number in
    let second : length k.encoded.second ≤ 8 = encoding_most _ k.encoded.second k.encoded.number in
    omega (arith, ap length k.parts, length-append k.head value, ap length k.encoded.parts, length-append k.encoded.first k.encoded.second, longest_most kind, k.small)

-- ---- where the bytes are split

pub joins_at : (old i j : Held) (bytes b c : List ℕ) → Joins old bytes i b → i ≡ j → b ≡ c → Joins old bytes j c
joins_at old i j bytes b c h e f = subst (λ (x : List ℕ). Joins old bytes j x) f (subst (λ (y : Held). Joins old bytes y b) e h)

-- ---- how far a call goes

-- the bytes were skipped up to this offset, and so many after it are to be skipped
pub record HasSkipped (old : Held) (bytes : List ℕ) (skip_remaining at : ℕ) : Type 0 where
  pub within : at ≤ length bytes
  pub joins : Joins old bytes (hold [] skip_remaining) (drop at bytes)

pub skipped_none : (old : CapsuleCursor) (bytes : List ℕ) → HasSkipped (held_by old) bytes old.skip_remaining 0
skipped_none old bytes = record { within = omega arith; joins = λ more. refl }

-- ---- all capsules

pub capsules_by : (h : Held) (bytes : List ℕ) (c : CapsuleFront) → next_held h bytes ≡ c → capsules_held h bytes ≡ by_front (λ rest. capsules rest) c
capsules_by h bytes c e = held-next h bytes ∙ ap (λ (x : CapsuleFront). by_front (λ rest. capsules rest) x) e

pub goes_on : (step : CapsuleStep) (old : CapsuleCursor) (bytes : List ℕ) (new : CapsuleCursor) → StepIs step old bytes new → CapsulesGoOn step old bytes new
goes_on (step-is.Capsule p) old bytes new h more = joined (Ok (Some (p.kind, capsule_value p bytes))) (held_by old) (held_by new) bytes (drop p.end bytes) more h.taken
goes_on (step-is.More n) old bytes new h more =
    capsules_by (held_by old) (bytes ++ more) (next_held (held_by new) (drop n bytes ++ more)) (h.joins more)
    ∙ sym (held-next (held_by new) (drop n bytes ++ more))
goes_on step-is.TooLong old bytes new h more = capsules_by (held_by old) (bytes ++ more) (TooLong (h.rest ++ more)) (h.found more)

-- ---- data that arrives piece by piece

joins_step : (step : CapsuleStep) (old new : CapsuleCursor) (bytes more : List ℕ) → StepIs step old bytes new → capsules_from old (bytes ++ more) ≡ preceded (add_found step bytes []) (capsules_from new (left_after step bytes ++ more))
joins_step (step-is.Capsule p) old new bytes more h = goes_on (step-is.Capsule p) old bytes new h more
joins_step (step-is.More n) old new bytes more h = goes_on (step-is.More n) old bytes new h more
joins_step step-is.TooLong old new bytes more h = ap (λ (c : CapsuleCursor). capsules_from c (bytes ++ more)) (sym h.same)

preceded-found : (step : CapsuleStep) (bytes : List ℕ) (cs : List (CapsuleKind × List ℕ)) (all : Capsules) → preceded (add_found step bytes []) (preceded cs all) ≡ preceded (add_found step bytes cs) all
preceded-found (step-is.Capsule p) bytes cs all = refl
preceded-found (step-is.More n) bytes cs all = refl
preceded-found step-is.TooLong bytes cs all = refl

led_from : (events : List CursorEvent) (old new : CapsuleCursor) (bytes rest more : List ℕ) → LeadsTo events old bytes new rest → capsules_from old (bytes ++ (data_in events ++ more)) ≡ preceded (found_in events bytes) (capsules_from new (rest ++ more))
led_from [] old new bytes rest more (same, left) = rw (same, left) refl
led_from (Came piece ∷ events) old new bytes rest more l =
    ap (λ (x : List ℕ). capsules_from old x) (ap (λ (x : List ℕ). bytes ++ x) (append_assoc piece (data_in events) more) ∙ sym (append_assoc bytes piece (data_in events ++ more)))
    ∙ led_from events old new (bytes ++ piece) rest more l
led_from (Stepped step ∷ events) old new bytes rest more (next, is, l) =
    joins_step step old next bytes (data_in events ++ more) is
    ∙ ap (λ (all : Capsules). preceded (add_found step bytes []) all) (led_from events next new (left_after step bytes) rest more l)
    ∙ preceded-found step bytes (found_in events (left_after step bytes)) (capsules_from new (rest ++ more))

led_on : (events : List CursorEvent) (new : CapsuleCursor) (rest more : List ℕ) (e : CapsuleEnding) → LeadsTo events (record { skip_remaining = 0 }) [] new rest → capsules_from new (rest ++ more) ≡ ends e → capsules (data_in events ++ more) ≡ record { found = found_in events []; ending = e }
led_on events new rest more e l is =
    sym (held-new (data_in events ++ more)) ∙ led_from events (record { skip_remaining = 0 }) new [] rest more l
    ∙ ap (λ (all : Capsules). preceded (found_in events []) all) is
    ∙ preceded-ends (found_in events []) e

pub led_end : (events : List CursorEvent) (new : CapsuleCursor) (rest : List ℕ) (e : CapsuleEnding) → LeadsTo events (record { skip_remaining = 0 }) [] new rest → capsules_from new rest ≡ ends e → capsules (data_in events) ≡ record { found = found_in events []; ending = e }
led_end events new rest e l is =
    ap (λ (x : List ℕ). capsules x) (sym (append-nil (data_in events)))
    ∙ led_on events new rest [] e l (ap (λ (x : List ℕ). capsules_from new x) (append-nil rest) ∙ is)

pub led_long : (events : List CursorEvent) (old new : CapsuleCursor) (rest more : List ℕ) → LeadsTo events (record { skip_remaining = 0 }) [] old rest → StepIs step-is.TooLong old rest new → capsules (data_in events ++ more) ≡ record { found = found_in events []; ending = AtTooLong }
led_long events old new rest more l h = led_on events old rest more AtTooLong l (goes_on step-is.TooLong old rest new h more)

-- ---- the end of the data

misses_cut : (s : List ℕ) → MissesValue s → capsule_front s ≡ Cut
misses_cut s m =
    front_encoded (capsule_number_of m.kind) m.len m.head m.part s m.encoded m.parts
    ∙ rw (capsule_kind_of-number m.kind, le-ltb (max_value_len m.kind) m.len m.small, no_more m.len m.part m.less) refl

pub part_cut : (s : List ℕ) → 0 < length s → IsCapsulePart s → capsule_front s ≡ Cut
part_cut s some p = elim p [ inl l ↦ head_cut s some l | inr m ↦ misses_cut s m ]

pub end_due : (c : CapsuleCursor) (rest : List ℕ) → 0 < c.skip_remaining → IsLeftOver c rest → capsules_from c rest ≡ ends Within
end_due c rest some l =
    ap (λ (x : List ℕ). capsules_from c x) (l.none some) ∙ capsules_by (held_by c) [] Cut (short_due [] c.skip_remaining some)

pub end_part : (c : CapsuleCursor) (rest : List ℕ) → c.skip_remaining ≤ 0 → 0 < length rest → IsLeftOver c rest → capsules_from c rest ≡ ends Within
end_part c rest zero some l =
    capsules_by (held_by c) rest Cut (held_none [] c.skip_remaining rest (omega arith) ∙ next-by rest Cut (part_cut rest some l.part))

no_bytes : (s : List ℕ) → length s ≤ 0 → s ≡ []
no_bytes [] l = refl
no_bytes (b ∷ s) l = absurd (omega arith)

pub end_clean : (c : CapsuleCursor) (rest : List ℕ) → c.skip_remaining ≤ 0 → length rest ≤ 0 → capsules_from c rest ≡ ends Between
end_clean c rest zero none =
    ap (λ (x : List ℕ). capsules_from c x) (no_bytes rest none)
    ∙ capsules_by (held_by c) [] End (held_none [] c.skip_remaining [] (omega arith) ∙ next-by [] End front_end)

pub ruleset endings = (end_due, end_part, end_clean)
