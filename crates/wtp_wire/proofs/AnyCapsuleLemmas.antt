-- The next capsule of any type: what bytes start with, and what that says of the capsules of known
-- kinds.
use Rattle.std.proofs.Common.{◌≡◌, ℕ, nat_lt, ◌+◌, ◌-◌, ◌<◌, ◌≤◌, ◌⊎◌, List, [], ◌++◌, length, take, drop, Option, Some, None, true, false, refl, sym, ap, subst, ◌∙◌, arith, inl, inr, append_assoc, length-append, length-drop, length-take, take-add}
use Rattle.std.proofs.lemmas.Bool.{cases_lt, ltb-true, ltb-false, ne_eqb}
use Rattle.std.proofs.lemmas.List.{take-append-drop, take-append-le, take_all, drop-drop}
use Rattle.wtp_core.specs.Varint.{bytes_at, number_at}
use Rattle.wtp_core.specs.VarintLenNeeded.{varint_len_needed}
use Rattle.wtp_core.proofs.NeedLemmas.{drop_all, number_at-cut, number_at-full}
use Rattle.wtp_wire.specs.declared.capsule.CapsuleKind.{CapsuleKind}
use Rattle.wtp_wire.specs.declared.capsule.cursor.AnyCapsule.{AnyCapsule}
use Rattle.wtp_wire.specs.declared.capsule.cursor.AnyCapsule.TheVariants as any-is
use Rattle.wtp_wire.specs.declared.capsule.cursor.CapsuleCursor.{CapsuleCursor}
use Rattle.wtp_wire.specs.declared.capsule.cursor.CapsuleSpan.{CapsuleSpan}
use Rattle.wtp_wire.specs.declared.capsule.cursor.CapsuleStep.TheVariants as step-is
use Rattle.wtp_wire.specs.declared.capsule.cursor.UnknownCapsule.{UnknownCapsule}
use Rattle.wtp_wire.specs.AnyCapsule.{AnyIs, CapsulesOfAny, FindsKnown, FindsLongHead, FindsUnknown, IsLongStart, IsUnknownStart, IsUnknownHead, IsKnownStart, LeavesPart, between, missing_from, missing_of}
use Rattle.wtp_wire.specs.Capsule.{capsule_number_of, capsule_kind_of}
use Rattle.wtp_wire.specs.CapsuleCursor.{FindsLong, IsCapsulePart, IsLeftOver, TakesPlace, WantsMore, capsule_value, held_by}
use Rattle.wtp_wire.specs.CapsuleFront.{CapsuleFront, Found, IsCapsule, TooLong, max_value_len, value_front, capsule_front}
use Rattle.wtp_wire.specs.CapsuleStream.{Joins, MissesValue, skip_unknown, next_capsule, next_held}
use Rattle.wtp_wire.specs.FrameNeed.{frame_need, frame_need_grows, frame_need_is, frame_need_some}
use Rattle.wtp_wire.specs.Front.{EncodesPair}
use Rattle.wtp_wire.specs.Held.{Held, new_held}
use Rattle.wtp_wire.specs.Settings.{pair_at}
use Rattle.wtp_wire.proofs.CapsuleCursorLemmas.{HasSkipped, capsules_by, goes_on, held_value, joins_at, over, part_few}
use Rattle.wtp_wire.proofs.CapsuleFrontLemmas.{front_encoded, none_number, same_number, starts-front}
use Rattle.wtp_wire.proofs.CapsuleLemmas.{no_kind_none}
use Rattle.wtp_wire.proofs.CapsuleReadingLemmas.{hold, held_none, joins_due, joins_then}
use Rattle.wtp_wire.proofs.CapsuleStreamLemmas.{next-by, held-next}
use Rattle.wtp_wire.proofs.FrontLemmas.{head_not_empty}
use Rattle.wtp_wire.proofs.HeadPairLemmas.{pair_at-full, pair_at-part, two_at}
use Rattle.wtp_wire.proofs.PairLemmas.{pair_at-begins, pair_at-encoded, pair_at-more}

-- ---- what bytes start with, by their first two numbers

-- the encoding of both
pub pair_head : (bytes : List ℕ) (size n v : ℕ) → pair_at bytes ≡ Some ((n, v), drop size bytes) → size ≤ length bytes → EncodesPair n v (take size bytes)
pair_head bytes size n v e l =
    let h = pair_at-begins bytes (drop size bytes) n v e in
    let len : length h.s ≡ size = omega (arith, ap length h.parts, length-append h.s (drop size bytes), length-drop size bytes) in
    let same : take size bytes ≡ h.s = ap (take size) h.parts ∙ take-append-le size h.s (drop size bytes) (omega (arith, len)) ∙ take_all size h.s (omega (arith, len)) in
    subst (λ (x : List ℕ). EncodesPair n v x) (sym same) h.encoded

pub start_few : (bytes : List ℕ) → pair_at bytes ≡ None → IsCapsulePart bytes
start_few bytes none = elim (cases_lt (length bytes) (frame_need bytes)) [
  | inl few ↦ inl few
  | inr full ↦ absurd (pair_at-full bytes full none)
]

pub start_unknown : (bytes : List ℕ) (size n v : ℕ) → pair_at bytes ≡ Some ((n, v), drop size bytes) → size ≤ length bytes → 0 < size → capsule_kind_of n ≡ None → IsUnknownStart n v size bytes
start_unknown bytes size n v e l some none = record {
  some = some;
  within = l;
  head = record { no_kind = none_number n none; encoded = pair_head bytes size n v e l };
}

pub start_long : (bytes : List ℕ) (size n v : ℕ) (kind : CapsuleKind) → pair_at bytes ≡ Some ((n, v), drop size bytes) → size ≤ length bytes → capsule_kind_of n ≡ Some kind → nat_lt (max_value_len kind) v ≡ true → IsLongStart bytes
start_long bytes size n v kind e l known long = record {
  end = size;
  within = l;
  head = record {
    kind = kind;
    len = v;
    over = ltb-true (max_value_len kind) v long;
    encoded = same_number n v kind (take size bytes) known (pair_head bytes size n v e l);
  };
}

pub start_part : (bytes : List ℕ) (size n v : ℕ) (kind : CapsuleKind) → pair_at bytes ≡ Some ((n, v), drop size bytes) → size ≤ length bytes → capsule_kind_of n ≡ Some kind → nat_lt (max_value_len kind) v ≡ false → length bytes - size < v → IsCapsulePart bytes
start_part bytes size n v kind e l known short less = inr (record {
  kind = kind;
  len = v;
  head = take size bytes;
  part = drop size bytes;
  encoded = same_number n v kind (take size bytes) known (pair_head bytes size n v e l);
  small = ltb-false (max_value_len kind) v short;
  less = omega (arith, length-drop size bytes, less);
  parts = sym (take-append-drop size bytes);
})

pub start_known : (bytes : List ℕ) (size n v : ℕ) (kind : CapsuleKind) → pair_at bytes ≡ Some ((n, v), drop size bytes) → size ≤ length bytes → capsule_kind_of n ≡ Some kind → nat_lt (max_value_len kind) v ≡ false → v ≤ length bytes - size → IsKnownStart kind size (size + v) bytes
start_known bytes size n v kind e l known short full =
    let value : between size (size + v) bytes ≡ take v (drop size bytes) = ap (λ (k : ℕ). take k (drop size bytes)) (omega arith) in
    let len : length (between size (size + v) bytes) ≡ v = ap length value ∙ omega (arith, length-take v (drop size bytes), length-drop size bytes, full) in
    record {
      ordered = omega arith;
      within = omega (arith, l, full);
      capsule = record {
        head = take size bytes;
        encoded = subst (λ (k : ℕ). EncodesPair (capsule_number_of kind) k (take size bytes)) (sym len) (same_number n v kind (take size bytes) known (pair_head bytes size n v e l));
        small = omega (arith, len, ltb-false (max_value_len kind) v short);
        parts = take-add size v bytes ∙ ap (λ (x : List ℕ). take size bytes ++ x) (sym value);
      };
    }

-- ---- after the bytes to be skipped

after_is : (skip_remaining a b end : ℕ) (bytes : List ℕ) → end ≡ skip_remaining + b → between (skip_remaining + a) end bytes ≡ between a b (drop skip_remaining bytes)
after_is skip_remaining a b end bytes e = rw (e, drop-drop a skip_remaining bytes) (ap (λ (k : ℕ). take k (drop (skip_remaining + a) bytes)) (omega arith))

from_start : (skip_remaining b end : ℕ) (bytes : List ℕ) → end ≡ skip_remaining + b → between skip_remaining end bytes ≡ take b (drop skip_remaining bytes)
from_start skip_remaining b end bytes e = ap (λ (k : ℕ). take k (drop skip_remaining bytes)) (omega (arith, e))

pub finds_known : (p : CapsuleSpan) (old new : CapsuleCursor) (bytes : List ℕ) (kind : CapsuleKind) (a b : ℕ) → old.skip_remaining ≤ length bytes → IsKnownStart kind a b (drop old.skip_remaining bytes) → p.kind ≡ kind → p.start ≡ old.skip_remaining + a → p.end ≡ old.skip_remaining + b → new.skip_remaining ≡ 0 → FindsKnown p old bytes new
finds_known p old new bytes kind a b l s k e f none =
    let value : capsule_value p bytes ≡ between a b (drop old.skip_remaining bytes) = rw e (after_is old.skip_remaining a b p.end bytes f) in
    record {
      after = omega (arith, e);
      within = omega (arith, f, l, s.within, length-drop old.skip_remaining bytes);
      capsule = rw (k, value, from_start old.skip_remaining b p.end bytes f) s.capsule;
      skip_remaining = none;
    }

pub finds_unknown : (u : UnknownCapsule) (old new : CapsuleCursor) (bytes : List ℕ) (number len h : ℕ) → old.skip_remaining ≤ length bytes → IsUnknownStart number len h (drop old.skip_remaining bytes) → u.number ≡ number → u.announced ≡ len → u.start ≡ old.skip_remaining + h → new.skip_remaining ≡ len → FindsUnknown u old bytes new
finds_unknown u old new bytes number len h l s n a e skip_remaining = record {
  after = omega (arith, e);
  within = omega (arith, e, l, s.within, length-drop old.skip_remaining bytes);
  head = rw (n, a, from_start old.skip_remaining h u.start bytes e) s.head;
  skip_remaining = skip_remaining ∙ sym a;
}

pub finds_long : (old : CapsuleCursor) (bytes : List ℕ) → old.skip_remaining ≤ length bytes → IsLongStart (drop old.skip_remaining bytes) → FindsLongHead old bytes old
finds_long old bytes l s = record {
  end = old.skip_remaining + s.end;
  after = omega arith;
  within = omega (arith, l, s.within, length-drop old.skip_remaining bytes);
  head = rw (from_start old.skip_remaining s.end (old.skip_remaining + s.end) bytes refl) s.head;
  same = refl;
}

pub leaves_part : (old new : CapsuleCursor) (bytes : List ℕ) → old.skip_remaining ≤ length bytes → IsCapsulePart (drop old.skip_remaining bytes) → new.skip_remaining ≡ 0 → LeavesPart old.skip_remaining old bytes new
leaves_part old new bytes l part none = record {
  within = l;
  skip_remaining = omega (arith, none);
  all = λ some. absurd (omega (arith, none, some));
  part = part;
  few = part_few (drop old.skip_remaining bytes) part;
}

pub leaves_none : (old new : CapsuleCursor) (bytes : List ℕ) → length bytes < old.skip_remaining → new.skip_remaining ≡ old.skip_remaining - length bytes → LeavesPart (length bytes) old bytes new
leaves_none old new bytes less skip_remaining =
    let none : drop (length bytes) bytes ≡ [] = drop_all (length bytes) bytes (omega arith) in
    record {
      within = omega arith;
      skip_remaining = omega (arith, less, skip_remaining);
      all = λ some. refl;
      part = inl (omega (arith, ap length none, frame_need_some (drop (length bytes) bytes)));
      few = omega (arith, ap length none);
    }

-- ---- the next capsule of a known kind

-- all bytes that were to be skipped came
skipped : (old : CapsuleCursor) (bytes : List ℕ) → old.skip_remaining ≤ length bytes → Joins (held_by old) bytes new_held (drop old.skip_remaining bytes)
skipped old bytes l = joins_at (held_by old) (hold [] (old.skip_remaining - length bytes)) new_held bytes (drop old.skip_remaining bytes) (drop old.skip_remaining bytes) (joins_due [] old.skip_remaining bytes (λ some. refl)) (ap (λ (n : ℕ). hold [] n) (omega (arith, l))) refl

-- the bytes after them, up to an offset and from there on
parts_at : (skip_remaining end : ℕ) (bytes more : List ℕ) → skip_remaining ≤ end → drop skip_remaining bytes ++ more ≡ between skip_remaining end bytes ++ (drop end bytes ++ more)
parts_at skip_remaining end bytes more l =
    let all : drop skip_remaining bytes ≡ between skip_remaining end bytes ++ drop end bytes =
    sym (take-append-drop (end - skip_remaining) (drop skip_remaining bytes)) ∙ ap (λ (x : List ℕ). between skip_remaining end bytes ++ x) (drop-drop (end - skip_remaining) skip_remaining bytes ∙ ap (λ (k : ℕ). drop k bytes) (omega (arith, l))) in
    ap (λ (x : List ℕ). x ++ more) all ∙ append_assoc (between skip_remaining end bytes) (drop end bytes) more

next_front : (bytes : List ℕ) (c : CapsuleFront) → capsule_front bytes ≡ c → next_held new_held bytes ≡ skip_unknown (λ r. next_capsule r) c
next_front bytes c e = held_none [] 0 bytes refl ∙ next-by bytes c e

pub known_taken : (p : CapsuleSpan) (old new : CapsuleCursor) (bytes : List ℕ) → FindsKnown p old bytes new → TakesPlace p old bytes new
known_taken p old new bytes f =
    let order : p.start ≤ p.end = p.ordered in
    let value = capsule_value p bytes in
    record {
      within = f.within;
      small = omega (arith, f.capsule.small, length-take (p.end - p.start) (drop p.start bytes), length-drop p.start bytes, f.within);
      taken = record {
        found = λ more.
            skipped old bytes (omega (arith, f.after, order, f.within)) more
            ∙ next_front (drop old.skip_remaining bytes ++ more) (Found p.kind value (drop p.end bytes ++ more)) (starts-front (drop old.skip_remaining bytes ++ more) (Found p.kind value (drop p.end bytes ++ more)) (between old.skip_remaining p.end bytes, f.capsule, parts_at old.skip_remaining p.end bytes more (omega (arith, f.after, order))));
        empty = ap (λ (n : ℕ). hold [] n) f.skip_remaining;
      };
    }

pub unknown_joins : (u : UnknownCapsule) (old new : CapsuleCursor) (bytes : List ℕ) → FindsUnknown u old bytes new → Joins (held_by old) bytes (held_by new) (drop u.start bytes)
unknown_joins u old new bytes f more =
    let rest = drop u.start bytes ++ more in
    let front : capsule_front (drop old.skip_remaining bytes ++ more) ≡ value_front None u.announced rest =
    front_encoded u.number u.announced (between old.skip_remaining u.start bytes) rest (drop old.skip_remaining bytes ++ more) f.head.encoded (parts_at old.skip_remaining u.start bytes more f.after)
    ∙ ap (λ (o : Option CapsuleKind). value_front o u.announced rest) (no_kind_none u.number f.head.no_kind) in
    skipped old bytes (omega (arith, f.after, f.within)) more
    ∙ next_front (drop old.skip_remaining bytes ++ more) (value_front None u.announced rest) front
    ∙ over (bytes_at u.announced rest)
    ∙ sym (held_value u.announced rest)
    ∙ ap (λ (n : ℕ). next_held (hold [] n) rest) (sym f.skip_remaining)

pub part_wanted : (n : ℕ) (old new : CapsuleCursor) (bytes : List ℕ) → LeavesPart n old bytes new → WantsMore n old bytes new
part_wanted n old new bytes f =
    let none : 0 < new.skip_remaining → drop n bytes ≡ [] = λ some. drop_all n bytes (omega (arith, f.all some)) in
    let skip_remaining : old.skip_remaining - length bytes ≡ new.skip_remaining = elim (cases_lt 0 new.skip_remaining) [
      | inl some ↦ omega (arith, f.all some, f.skip_remaining)
      | inr zero ↦ omega (arith, zero, f.skip_remaining, f.within)
    ] in
    let left : drop old.skip_remaining bytes ≡ drop n bytes = elim (cases_lt 0 new.skip_remaining) [
      | inl some ↦ drop_all old.skip_remaining bytes (omega (arith, f.all some, f.skip_remaining)) ∙ sym (none some)
      | inr zero ↦ ap (λ (k : ℕ). drop k bytes) (omega (arith, zero, f.skip_remaining))
    ] in
    record {
      within = f.within;
      left = record { part = f.part; none = none };
      few = f.few;
      joins = joins_at (held_by old) (hold [] (old.skip_remaining - length bytes)) (held_by new) bytes (drop old.skip_remaining bytes) (drop n bytes) (joins_due [] old.skip_remaining bytes (λ some. refl)) (ap (λ (k : ℕ). hold [] k) skip_remaining) left;
    }

pub long_found : (old new : CapsuleCursor) (bytes : List ℕ) → FindsLongHead old bytes new → FindsLong old bytes new
long_found old new bytes f = record {
  rest = drop f.end bytes;
  found = λ more.
      skipped old bytes (omega (arith, f.after, f.within)) more
      ∙ next_front (drop old.skip_remaining bytes ++ more) (TooLong (drop f.end bytes ++ more)) (starts-front (drop old.skip_remaining bytes ++ more) (TooLong (drop f.end bytes ++ more)) (between old.skip_remaining f.end bytes, f.head, parts_at old.skip_remaining f.end bytes more f.after));
  same = f.same;
}

-- ---- all capsules of known kinds

pub any_goes_on : (found : AnyCapsule) (old new : CapsuleCursor) (bytes : List ℕ) → AnyIs found old bytes new → CapsulesOfAny found old bytes new
any_goes_on (any-is.Known p) old new bytes f more = goes_on (step-is.Capsule p) old bytes new (known_taken p old new bytes f) more
any_goes_on (any-is.Unknown u) old new bytes f more =
    capsules_by (held_by old) (bytes ++ more) (next_held (held_by new) (drop u.start bytes ++ more)) (unknown_joins u old new bytes f more)
    ∙ sym (held-next (held_by new) (drop u.start bytes ++ more))
any_goes_on (any-is.More n) old new bytes f more = goes_on (step-is.More n) old bytes new (part_wanted n old new bytes f) more
any_goes_on any-is.TooLong old new bytes f more = goes_on step-is.TooLong old bytes new (long_found old new bytes f) more

-- ---- from an offset on

pub skipped_unknown : (old : Held) (self new : CapsuleCursor) (bytes : List ℕ) (at : ℕ) (u : UnknownCapsule) → HasSkipped old bytes self.skip_remaining at → FindsUnknown u self (drop at bytes) new → HasSkipped old bytes new.skip_remaining (at + u.start)
skipped_unknown old self new bytes at u p f = record {
  within = omega (arith, p.within, f.within, length-drop at bytes);
  joins = joins_at old (held_by new) (held_by new) bytes (drop u.start (drop at bytes)) (drop (at + u.start) bytes) (joins_then old (held_by self) (held_by new) bytes (drop at bytes) (drop u.start (drop at bytes)) p.joins (unknown_joins u self new (drop at bytes) f)) refl (drop-drop u.start at bytes);
}

pub place_taken : (place p : CapsuleSpan) (old self new : CapsuleCursor) (bytes : List ℕ) (at : ℕ) → HasSkipped (held_by old) bytes self.skip_remaining at → FindsKnown p self (drop at bytes) new → place.kind ≡ p.kind → place.start ≡ at + p.start → place.end ≡ at + p.end → TakesPlace place old bytes new
place_taken place p old self new bytes at h f k e g =
    let t = known_taken p self new (drop at bytes) f in
    let size : place.end - place.start ≡ p.end - p.start = omega (arith, p.ordered) in
    let value : capsule_value place bytes ≡ capsule_value p (drop at bytes) = rw (size, e, drop-drop p.start at bytes) refl in
    let rest : drop place.end bytes ≡ drop p.end (drop at bytes) = ap (λ (n : ℕ). drop n bytes) g ∙ sym (drop-drop p.end at bytes) in
    record {
      within = omega (arith, h.within, t.within, length-drop at bytes);
      small = rw (size, k) t.small;
      taken = record {
        found = λ more. h.joins more ∙ t.taken.found more ∙ rw (k, value, rest) refl;
        empty = t.taken.empty;
      };
    }

pub more_wanted : (n : ℕ) (old self new : CapsuleCursor) (bytes : List ℕ) (at : ℕ) → HasSkipped (held_by old) bytes self.skip_remaining at → LeavesPart n self (drop at bytes) new → WantsMore (at + n) old bytes new
more_wanted n old self new bytes at h f =
    let w = part_wanted n self new (drop at bytes) f in
    let rest : drop n (drop at bytes) ≡ drop (at + n) bytes = drop-drop n at bytes in
    record {
      within = omega (arith, h.within, w.within, length-drop at bytes);
      left = subst (λ (x : List ℕ). IsLeftOver new x) rest w.left;
      few = omega (arith, ap length rest, w.few);
      joins = joins_at (held_by old) (held_by new) (held_by new) bytes (drop n (drop at bytes)) (drop (at + n) bytes) (joins_then (held_by old) (held_by self) (held_by new) bytes (drop at bytes) (drop n (drop at bytes)) h.joins w.joins) refl rest;
    }

pub long_at : (old self new : CapsuleCursor) (bytes : List ℕ) (at : ℕ) → HasSkipped (held_by old) bytes self.skip_remaining at → FindsLongHead self (drop at bytes) new → FindsLong old bytes old
long_at old self new bytes at h f =
    let l = long_found self new (drop at bytes) f in
    record { rest = l.rest; found = λ more. h.joins more ∙ l.found more; same = refl }

-- a type and a length have at least one byte
pub unknown_some : (u : UnknownCapsule) (old new : CapsuleCursor) (bytes : List ℕ) → FindsUnknown u old bytes new → 0 < u.start
unknown_some u old new bytes f =
    let some : 0 < length (between old.skip_remaining u.start bytes) = head_not_empty u.number u.announced (between old.skip_remaining u.start bytes) f.head.encoded in
    omega (arith, some, length-take (u.start - old.skip_remaining) (drop old.skip_remaining bytes))

-- ---- bytes that are skipped

capsule_some : (kind : CapsuleKind) (value s : List ℕ) → IsCapsule kind value s → 0 < length s
capsule_some kind value s k = omega (arith, ap length k.parts, length-append k.head value, head_not_empty (capsule_number_of kind) (length value) k.head k.encoded)

between_few : (a b : ℕ) (bytes : List ℕ) → b ≤ a → length (between a b bytes) ≡ 0
between_few a b bytes l = omega (arith, l, length-take (b - a) (drop a bytes))

-- no more bytes than are to be skipped are skipped
pub skips_all : (found : AnyCapsule) (old new : CapsuleCursor) (bytes : List ℕ) → length bytes ≤ old.skip_remaining → AnyIs found old bytes new → new.skip_remaining ≡ old.skip_remaining - length bytes
skips_all (any-is.Known p) old new bytes l f = absurd (omega (arith, l, f.within, capsule_some p.kind (capsule_value p bytes) (between old.skip_remaining p.end bytes) f.capsule, between_few old.skip_remaining p.end bytes (omega (arith, l, f.within))))
skips_all (any-is.Unknown u) old new bytes l f = absurd (omega (arith, l, f.within, head_not_empty u.number u.announced (between old.skip_remaining u.start bytes) f.head.encoded, between_few old.skip_remaining u.start bytes (omega (arith, l, f.within))))
skips_all (any-is.More n) old new bytes l f = elim (cases_lt 0 new.skip_remaining) [
  | inl some ↦ omega (arith, f.all some, f.skip_remaining)
  | inr zero ↦ omega (arith, zero, f.skip_remaining, f.within, l)
]
skips_all any-is.TooLong old new bytes l f = absurd (omega (arith, l, f.within, head_not_empty (capsule_number_of f.head.kind) f.head.len (between old.skip_remaining f.end bytes) f.head.encoded, between_few old.skip_remaining f.end bytes (omega (arith, l, f.within))))

-- ---- bytes that are left over, and no more than are missing

some_is : {A : Type 0} (x y : A) → Some x ≡ Some y → x ≡ y
some_is x y e = cc

number_rest : (bytes rest : List ℕ) (v : ℕ) → number_at bytes ≡ Some (v, rest) → (varint_len_needed bytes ≤ length bytes) × (rest ≡ drop (varint_len_needed bytes) bytes)
number_rest bytes rest v e = elim (cases_lt (length bytes) (varint_len_needed bytes)) [
  | inl cut ↦ absurd (cc (number_at-cut bytes cut, e))
  | inr full ↦
      let (w, is) = number_at-full bytes full in
      (full, ap (λ (t : ℕ × List ℕ). t.1) (some_is {A = ℕ × List ℕ} (v, rest) (w, drop (varint_len_needed bytes) bytes) (sym e ∙ is)))
]

-- the bytes are both numbers and those after them
pair_size : (bytes rest : List ℕ) (n v : ℕ) → pair_at bytes ≡ Some ((n, v), rest) → length bytes ≡ frame_need bytes + length rest
pair_size bytes rest n v e =
    let t = two_at bytes rest n v e in
    let (one, mid) = number_rest bytes t.mid n t.first in
    let (two, last) = number_rest t.mid rest v t.second in
    let sum : frame_need bytes ≡ varint_len_needed bytes + varint_len_needed t.mid = frame_need_is bytes ∙ ap (λ (x : List ℕ). varint_len_needed bytes + varint_len_needed x) (sym mid) in
    omega (arith, sum, one, two, ap length mid, ap length last, length-drop (varint_len_needed bytes) bytes, length-drop (varint_len_needed t.mid) t.mid)

one_pair : (bytes : List ℕ) (p q : (ℕ × ℕ) × List ℕ) → pair_at bytes ≡ Some p → pair_at bytes ≡ Some q → p ≡ q
one_pair bytes p q e f = some_is {A = (ℕ × ℕ) × List ℕ} p q (sym e ∙ f)

missing_left : (c : CapsuleCursor) (rest : List ℕ) → c.skip_remaining ≡ 0 → missing_from c rest ≡ missing_of (pair_at rest) rest
missing_left c rest none = rw none refl

pub missing_due : (c : CapsuleCursor) (rest : List ℕ) → 0 < c.skip_remaining → missing_from c rest ≡ c.skip_remaining
missing_due c rest some = rw (ne_eqb c.skip_remaining 0 (λ z. omega (arith, z, some))) refl

missing_head : (c : CapsuleCursor) (s : List ℕ) → c.skip_remaining ≡ 0 → length s < frame_need s → missing_from c s ≡ frame_need s - length s
missing_head c s none few = missing_left c s none ∙ rw (pair_at-part s few) refl

misses_pair : (s : List ℕ) (m : MissesValue s) → pair_at s ≡ Some ((capsule_number_of m.kind, m.len), m.part)
misses_pair s m = ap pair_at m.parts ∙ pair_at-encoded (capsule_number_of m.kind) m.len m.head m.part m.encoded

missing_value : (c : CapsuleCursor) (s : List ℕ) (m : MissesValue s) → c.skip_remaining ≡ 0 → missing_from c s ≡ m.len - length m.part
missing_value c s m none = missing_left c s none ∙ rw (misses_pair s m) refl

-- some are
pub part_missing : (c : CapsuleCursor) (s : List ℕ) → c.skip_remaining ≡ 0 → IsCapsulePart s → 0 < missing_from c s
part_missing c s none p = elim p [
  | inl few ↦ omega (arith, missing_head c s none few, few)
  | inr m ↦ omega (arith, missing_value c s m none, m.less)
]

-- with no more bytes than are missing, of a type and a length or of a value
abbrev JoinsPart : List ℕ → List ℕ → Type 0
JoinsPart s front = (length (s ++ front) ≤ frame_need (s ++ front)) ⊎ ((m : MissesValue s) × (length m.part + length front ≤ m.len))

joins_part : (c : CapsuleCursor) (s front : List ℕ) → c.skip_remaining ≡ 0 → IsCapsulePart s → length front ≤ missing_from c s → JoinsPart s front
joins_part c s front none p l = elim p [
  | inl few ↦ inl (omega (arith, missing_head c s none few, few, l, length-append s front, frame_need_grows s front))
  | inr m ↦ inr (m, omega (arith, missing_value c s m none, m.less, l))
]

joined_pair : (s front : List ℕ) (m : MissesValue s) → pair_at (s ++ front) ≡ Some ((capsule_number_of m.kind, m.len), m.part ++ front)
joined_pair s front m = pair_at-more s m.part front (capsule_number_of m.kind) m.len (misses_pair s m)

-- a capsule of a known kind ends where they do
pub ends_known : (c : CapsuleCursor) (s front value : List ℕ) (kind : CapsuleKind) (end : ℕ) → c.skip_remaining ≡ 0 → IsCapsulePart s → length front ≤ missing_from c s → end ≤ length (s ++ front) → IsCapsule kind value (take end (s ++ front)) → end ≡ length (s ++ front)
ends_known c s front value kind end none p l within k =
    let bytes = s ++ front in
    let all : bytes ≡ k.head ++ (value ++ drop end bytes) = sym (take-append-drop end bytes) ∙ ap (λ (x : List ℕ). x ++ drop end bytes) k.parts ∙ append_assoc k.head value (drop end bytes) in
    let pair : pair_at bytes ≡ Some ((capsule_number_of kind, length value), value ++ drop end bytes) = ap pair_at all ∙ pair_at-encoded (capsule_number_of kind) (length value) k.head (value ++ drop end bytes) k.encoded in
    let size = length-append value (drop end bytes) in
    let left = length-drop end bytes in
    elim (joins_part c s front none p l) [
      | inl few ↦ omega (arith, few, within, pair_size bytes (value ++ drop end bytes) (capsule_number_of kind) (length value) pair, size, left)
      | inr (m, most) ↦
          let same = one_pair bytes ((capsule_number_of kind, length value), value ++ drop end bytes) ((capsule_number_of m.kind, m.len), m.part ++ front) pair (joined_pair s front m) in
          omega (arith, most, within, ap (λ (x : (ℕ × ℕ) × List ℕ). x.0.1) same, ap (λ (x : (ℕ × ℕ) × List ℕ). length x.1) same, size, left, length-append m.part front)
    ]

-- so do the type and the length of an unknown one
pub ends_unknown : (c : CapsuleCursor) (s front : List ℕ) (number len end : ℕ) → c.skip_remaining ≡ 0 → IsCapsulePart s → length front ≤ missing_from c s → end ≤ length (s ++ front) → IsUnknownHead number len (take end (s ++ front)) → pair_at (s ++ front) ≡ Some ((number, len), [])
ends_unknown c s front number len end none p l within h =
    let bytes = s ++ front in
    let pair : pair_at bytes ≡ Some ((number, len), drop end bytes) = ap pair_at (sym (take-append-drop end bytes)) ∙ pair_at-encoded number len (take end bytes) (drop end bytes) h.encoded in
    elim (joins_part c s front none p l) [
      | inl few ↦ pair ∙ ap (λ (x : List ℕ). Some ((number, len), x)) (drop_all end bytes (omega (arith, few, within, pair_size bytes (drop end bytes) number len pair, length-drop end bytes)))
      | inr (m, most) ↦
          let same = one_pair bytes ((number, len), drop end bytes) ((capsule_number_of m.kind, m.len), m.part ++ front) pair (joined_pair s front m) in
          absurd (h.no_kind m.kind (ap (λ (x : (ℕ × ℕ) × List ℕ). x.0.0) same))
    ]
