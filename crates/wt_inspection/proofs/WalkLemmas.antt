-- Capsules of data that is cut anywhere, step by step.
use Rattle.std.proofs.Common.{◌≡◌, ◌≢◌, ℕ, ◌+◌, ◌-◌, ◌<◌, ◌≤◌, ◌^◌, true, false, List, [], ◌∷◌, ◌++◌, length, take, drop, Option, Some, None, Result, Ok, Err, refl, sym, ap, subst, ◌∙◌, append_assoc, append-nil, arith, inl, inr, length-append}
use Rattle.std.specs.Prelude.{IsSome, IfOk, codes, Bool, ◌||◌, if◌then◌else◌}
use Rattle.std.proofs.lemmas.Bool.{cases_Bool, le-ltb, lt-ltb}
use Rattle.std.proofs.lemmas.List.{take_all, take-append-drop}
use Rattle.std.proofs.Math.Seq.{take-append_seam}
use Rattle.wtp_core.specs.declared.error.ErrorCode.{ErrorCode}
use Rattle.wtp_core.specs.declared.error.ErrorCode.TheVariants.{Datagram}
use Rattle.wtp_core.specs.Varint.{number_at}
use Rattle.wtp_core.proofs.EncodingLemmas.{bytes_at-append}
use Rattle.vesgrauf_registry.specs.Capsules.{capsules, capsule_of}
use Rattle.wtp_wire.specs.declared.capsule.CapsuleKind.{CapsuleKind}
use Rattle.wtp_wire.specs.declared.capsule.CapsuleKind.TheVariants.{CloseWebTransportSession}
use Rattle.wtp_wire.specs.declared.capsule.cursor.AnyCapsule.{AnyCapsule}
use Rattle.wtp_wire.specs.declared.capsule.cursor.CapsuleCursor.{CapsuleCursor}
use Rattle.wtp_wire.specs.declared.capsule.cursor.CapsuleSpan.{CapsuleSpan}
use Rattle.wtp_wire.specs.declared.capsule.cursor.UnknownCapsule.{UnknownCapsule}
use Rattle.wtp_wire.specs.AnyCapsule.{AnyIs, FindsKnown, FindsLongHead, FindsUnknown, IsUnknownHead, LeavesPart, between, missing_from, missing_of}
use Rattle.wtp_wire.specs.Capsule.{capsule_in, capsule_kind_of, capsule_number_of}
use Rattle.wtp_wire.specs.CapsuleCursor.{IsCapsulePart, capsule_value}
use Rattle.wtp_wire.specs.CapsuleFront.{Found, IsCapsule, IsLongHead, TooLong, Unknown, capsule_front, value_front}
use Rattle.wtp_wire.specs.FrameNeed.{frame_need_some}
use Rattle.wtp_wire.specs.Settings.{pair_at}
use Rattle.wtp_wire.proofs.AnyCapsuleLemmas.{ends_known, ends_unknown, missing_due, part_missing, skips_all}
use Rattle.wtp_wire.proofs.CapsuleCursorLemmas.{capsule_few, part_cut}
use Rattle.wtp_wire.proofs.CapsuleFrontLemmas.{front_end, front_two, starts-front}
use Rattle.wtp_wire.proofs.CapsuleLemmas.{capsule_in-begins, no_kind_none}
use Rattle.wtp_wire.proofs.CapsuleReadingLemmas.{no_more}
use Rattle.wtp_wire.proofs.HeadPairLemmas.{two_at}
use Rattle.wtp_wire.proofs.PairLemmas.{pair_at-encoded, pair_at-more}
use Rattle.wt_inspection_model.specs.declared.item.capsule.CapsuleItem.{CapsuleItem}
use Rattle.wt_inspection_model.specs.declared.item.capsule.CloseReason.{CloseReason}
use Rattle.wt_inspection_model.specs.declared.item.ending.Fault.{Fault}
use Rattle.wt_inspection_model.specs.declared.item.ending.FaultCode.{FaultCode}
use Rattle.wt_inspection_model.specs.declared.item.ending.FaultCode.TheVariants.{Library}
use Rattle.wt_inspection_model.specs.declared.item.ending.Cut.{Cut}
use Rattle.wt_inspection_model.specs.declared.item.ending.End.TheVariants as end-is
use Rattle.wt_inspection.specs.declared.reading.Phase.{Phase}
use Rattle.wt_inspection.specs.declared.reading.Phase.TheVariants as phase-is
use Rattle.wt_inspection.specs.declared.capsules.CapsuleBatch.{CapsuleBatch}
use Rattle.wt_inspection.specs.declared.capsules.CloseOutcome.{CloseOutcome}
use Rattle.wt_inspection.specs.declared.capsules.CloseOutcome.TheVariants as closing-is
use Rattle.wt_inspection.specs.declared.capsules.CapsuleWalk.{CapsuleWalk}
use Rattle.wt_inspection.specs.DataCapsules.{Stage, Opening, Plain, Session, IsFaulty, SaysBy, StartsCapsule, StartsCapsules, EndsWith, place_of}
use Rattle.wt_inspection.specs.Recording.{Then, EndsStage, TakesData}
use Rattle.wt_inspection.specs.CapsuleNames.{capsule_name}
use Rattle.wt_inspection_model.specs.declared.item.capsule.FlowLimit.{FlowLimit}
use Rattle.wt_inspection.specs.FlowLimits.{has_limit, is_limit, is_stream_limit, limit_of, only_limit, only_stream_limit}
use Rattle.wt_inspection.specs.Walks.{Fits, Holds, HoldsAt, HoldsOf, IsBad, IsFaultOf, IsStage, IsStageAt, IsWhole, Judges, JudgesBy, LacksOf, TakesPiece, begins_at}

-- ---- a capsule of an unknown type

front_of_pair : (bytes rest : List ℕ) (n len : ℕ) → pair_at bytes ≡ Some ((n, len), rest) → capsule_front bytes ≡ value_front (capsule_kind_of n) len rest
front_of_pair bytes rest n len e = let t = two_at bytes rest n len e in front_two bytes t.mid rest n len t.first t.second

unknown_front : (came value more : List ℕ) (n len : ℕ) → capsule_kind_of n ≡ None → pair_at came ≡ Some ((n, len), value) → length value ≡ len → capsule_front (came ++ more) ≡ Unknown more
unknown_front came value more n len k e size =
    front_of_pair (came ++ more) (value ++ more) n len (pair_at-more came value more n len e)
    ∙ rw (k, ← size, bytes_at-append value more) refl

unknown_ends : (came value : List ℕ) (n len : ℕ) → capsule_kind_of n ≡ None → pair_at came ≡ Some ((n, len), value) → length value < len → EndsWith (capsule_front came) None
unknown_ends came value n len k e less = rw (front_of_pair came value n len e, k, no_more len value less) refl

lacks_ends : (u : UnknownCapsule) (kept : List ℕ) (n : ℕ) (came : List ℕ) → 0 < n → LacksOf u kept n came → EndsWith (capsule_front came) None
lacks_ends u kept n came some (none, (value, e, sum, same)) = unknown_ends came value u.number u.announced none e (omega (arith, some, sum))

lacks_more : (u : UnknownCapsule) (kept now : List ℕ) (n m : ℕ) (came front : List ℕ) → LacksOf u kept n came → length front ≤ n → m ≡ n - length front → (has_limit u.number ≡ true → now ≡ kept ++ front) → LacksOf u now m (came ++ front)
lacks_more u kept now n m came front (none, (value, e, sum, same)) fits is keeps = (none, (value ++ front, pair_at-more came value front u.number u.announced e, omega (arith, length-append value front, sum, fits, is), λ has. keeps has ∙ ap (λ (x : List ℕ). x ++ front) (same has)))

-- types without a limit
no_limit_by : (a b : Bool) (x y : Option FlowLimit) → (a || b) ≡ false → (if a then x else (if b then y else None)) ≡ None
no_limit_by false false x y e = refl
no_limit_by false true x y e = absurd (cc e)
no_limit_by true b x y e = absurd (cc e)

no_limit : (n : ℕ) (value : List ℕ) → has_limit n ≡ false → limit_of n value ≡ None
unfolding limit_of
no_limit n value none = no_limit_by (is_limit n) (is_stream_limit n) (only_limit (number_at value)) (only_stream_limit (pair_at value)) none

-- the limit of a value that is kept, if its type has one
limit_kept : (n : ℕ) (kept value : List ℕ) → (has_limit n ≡ true → kept ≡ value) → limit_of n kept ≡ limit_of n value
limit_kept n kept value same = elim (cases_Bool (has_limit n)) [
  | inl has ↦ ap (limit_of n) (same has)
  | inr none ↦ no_limit n kept none ∙ sym (no_limit n value none)
]

lacks_whole : (u : UnknownCapsule) (kept : List ℕ) (n : ℕ) (came : List ℕ) (item : CapsuleItem) → n ≡ 0 → item.number ≡ u.number → item.name.now ≡ capsule_name u.number → item.announced ≡ u.announced → item.close ≡ None → item.limit ≡ limit_of u.number kept → LacksOf u kept n came → IsWhole came item
lacks_whole u kept n came item zero number name announced close limit (none, (value, e, sum, same)) = λ more. let size : item.announced ≡ length value = omega (arith, announced, sum, zero) in record {
  value = value ++ more;
  numbers = rw (number, announced) (pair_at-more came value more u.number u.announced e);
  name = name ∙ ap capsule_name (sym number);
  first = rw (unknown_front came value more u.number u.announced none e (omega (arith, sum, zero))) (close, refl);
  limit = limit ∙ limit_kept u.number kept value same ∙ ap (limit_of u.number) (sym (ap (λ (k : ℕ). take k (value ++ more)) size ∙ take-append_seam value more)) ∙ ap (λ (k : ℕ). limit_of k (take item.announced (value ++ more))) (sym number);
}

-- ---- a capsule of a known kind

known_front : (kind : CapsuleKind) (value held more : List ℕ) → IsCapsule kind value held → capsule_front (held ++ more) ≡ Found kind value more
known_front kind value held more k = starts-front (held ++ more) (Found kind value more) (held, k, refl)

known_in : (kind : CapsuleKind) (value held : List ℕ) → IsCapsule kind value held → capsule_in held ≡ Some (kind, value)
known_in kind value held k = capsule_in-begins held kind value (record {
  head = k.head;
  rest = [];
  encoded = k.encoded;
  parts = k.parts ∙ ap (λ (x : List ℕ). k.head ++ x) (sym (append-nil value));
})

known_judged : (kind : CapsuleKind) (value held : List ℕ) (closing : CloseOutcome) → IsCapsule kind value held → (length held < 2 ^ 62 → Judges (capsule_in held) closing) → JudgesBy kind value closing
known_judged kind value held closing k judges =
    let few : length held < 2 ^ 62 = omega (arith, capsule_few kind value held k) in
    rw (known_in kind value held k) at judges few

says : (kind : CapsuleKind) (value : List ℕ) (reason : CloseReason) → JudgesBy kind value (closing-is.Close reason) → SaysBy kind value (Some reason)
says CloseWebTransportSession value reason j = j

faulty : (kind : CapsuleKind) (value : List ℕ) (code : ErrorCode) → JudgesBy kind value (closing-is.Bad code) → IsFaulty kind value × (code ≡ Datagram)
faulty CloseWebTransportSession value code j = j

not_other : (kind : CapsuleKind) (value : List ℕ) → JudgesBy kind value closing-is.Other → ⊥
not_other CloseWebTransportSession value j = j

pub other_known : (kind : CapsuleKind) (value held : List ℕ) → IsCapsule kind value held → (length held < 2 ^ 62 → Judges (capsule_in held) closing-is.Other) → ⊥
other_known kind value held k judges = not_other kind value (known_judged kind value held closing-is.Other k judges)

kind_no_limit : (kind : CapsuleKind) (value : List ℕ) → limit_of (capsule_number_of kind) value ≡ None
unfolding capsule_of capsules
kind_no_limit CloseWebTransportSession value = no_limit (capsule_number_of CloseWebTransportSession) value refl

pub close_known : (kind : CapsuleKind) (value held : List ℕ) (reason : CloseReason) (item : CapsuleItem) → item.number ≡ capsule_number_of kind → item.name.now ≡ capsule_name (capsule_number_of kind) → item.announced ≡ length value → item.close ≡ Some reason → item.limit ≡ None → IsCapsule kind value held → (length held < 2 ^ 62 → Judges (capsule_in held) (closing-is.Close reason)) → IsWhole held item
close_known kind value held reason item number name announced close limit k judges = λ more. record {
  value = value ++ more;
  numbers = rw (number, announced) (ap (λ (x : List ℕ). pair_at (x ++ more)) k.parts ∙ ap pair_at (append_assoc k.head value more) ∙ pair_at-encoded (capsule_number_of kind) (length value) k.head (value ++ more) k.encoded);
  name = name ∙ ap capsule_name (sym number);
  first = rw (known_front kind value held more k, close) (says kind value reason (known_judged kind value held (closing-is.Close reason) k judges), refl);
  limit = limit ∙ sym (ap (λ (n : ℕ). limit_of n (take item.announced (value ++ more))) number ∙ kind_no_limit kind (take item.announced (value ++ more)));
}

pub bad_known : (kind : CapsuleKind) (value held : List ℕ) (code : ErrorCode) (fault : Fault) → fault.code ≡ Library code → IsCapsule kind value held → (length held < 2 ^ 62 → Judges (capsule_in held) (closing-is.Bad code)) → IsBad held fault
bad_known kind value held code fault same k judges = λ more.
    let (bad, datagram) = faulty kind value code (known_judged kind value held (closing-is.Bad code) k judges) in
    rw (known_front kind value held more k) (bad, ap (λ (c : FaultCode). Some c) (same ∙ ap (λ (c : ErrorCode). Library c) datagram))

long_bad : (bytes : List ℕ) (end : ℕ) (fault : Fault) → IsLongHead (take end bytes) → fault.code ≡ Library Datagram → IsBad bytes fault
long_bad bytes end fault h same = λ more.
    let parts : bytes ++ more ≡ take end bytes ++ (drop end bytes ++ more) = ap (λ (x : List ℕ). x ++ more) (sym (take-append-drop end bytes)) ∙ append_assoc (take end bytes) (drop end bytes) more in
    rw (starts-front (bytes ++ more) (TooLong (drop end bytes ++ more)) (take end bytes, h, parts)) (ap (λ (c : FaultCode). Some c) same)

-- ---- what is held

holds_part : (unknown : Option UnknownCapsule) (kept : List ℕ) (skip_remaining : ℕ) (held came : List ℕ) → unknown ≡ None → HoldsOf unknown kept skip_remaining held came → (skip_remaining ≡ 0) × (held ≡ came) × IsCapsulePart came
holds_part None kept skip_remaining held came none h = h
holds_part (Some u) kept skip_remaining held came none h = absurd (cc none)

holds_lacks : (unknown : Option UnknownCapsule) (u : UnknownCapsule) (kept : List ℕ) (skip_remaining : ℕ) (held came : List ℕ) → unknown ≡ Some u → HoldsOf unknown kept skip_remaining held came → (0 < skip_remaining) × (held ≡ []) × LacksOf u kept skip_remaining came
holds_lacks unknown u kept skip_remaining held came is h = rw is at h

part_ends : (came : List ℕ) → IsCapsulePart came → EndsWith (capsule_front came) None
part_ends [] part = rw front_end refl
part_ends (b ∷ came) part = rw (part_cut (b ∷ came) (omega arith) part) refl

of_ends : (unknown : Option UnknownCapsule) (kept : List ℕ) (skip_remaining : ℕ) (held came : List ℕ) → HoldsOf unknown kept skip_remaining held came → EndsWith (capsule_front came) None
of_ends None kept skip_remaining held came (none, same, part) = part_ends came part
of_ends (Some u) kept skip_remaining held came (some, none, lacks) = lacks_ends u kept skip_remaining came some lacks

-- it has no complete capsule
pub holds_ends : (walk : CapsuleWalk) (came : List ℕ) → Holds walk came → EndsWith (capsule_front came) None
holds_ends walk came h = of_ends walk.unknown walk.value.items walk.cursor.skip_remaining walk.held.items came h.0

-- nothing
pub holds_none : (unknown : Option UnknownCapsule) (kept : List ℕ) (skip_remaining : ℕ) (held : List ℕ) → unknown ≡ None → skip_remaining ≡ 0 → held ≡ [] → HoldsOf unknown kept skip_remaining held [] × (length held ≤ 1043)
holds_none unknown kept skip_remaining held none zero empty = (rw none (zero, empty, inl (frame_need_some [])), omega (arith, ap length empty))

no_pair : pair_at [] ≡ None
unfolding pair_at number_at
no_pair = refl

some_came : (came : List ℕ) (p : (ℕ × ℕ) × List ℕ) → pair_at came ≡ Some p → came ≢ []
some_came came p e empty = cc (rw empty at e, no_pair)

pub pending_none : (walk : CapsuleWalk) (came : List ℕ) → walk.held.items ≡ [] → walk.unknown ≡ None → Holds walk came → came ≡ []
pending_none walk came empty none h =
    let (skip_remaining, same, part) = holds_part walk.unknown walk.value.items walk.cursor.skip_remaining walk.held.items came none h.0 in
    sym same ∙ empty

pub pending_held : (walk : CapsuleWalk) (came : List ℕ) → walk.held.items ≢ [] → Holds walk came → came ≢ []
pending_held walk came some h = by walk.unknown walk.value.items walk.cursor.skip_remaining walk.held.items some h.0
  where
    by : (unknown : Option UnknownCapsule) (kept : List ℕ) (skip_remaining : ℕ) (held : List ℕ) → held ≢ [] → HoldsOf unknown kept skip_remaining held came → came ≢ []
    by None kept skip_remaining held some (none, same, part) = λ empty. some (same ∙ empty)
    by (Some u) kept skip_remaining held some (more, none, lacks) = absurd (some none)

pub pending_unknown : (walk : CapsuleWalk) (came : List ℕ) → IsSome walk.unknown → Holds walk came → came ≢ []
pending_unknown walk came some h = by walk.unknown walk.value.items walk.cursor.skip_remaining walk.held.items some h.0
  where
    by : (unknown : Option UnknownCapsule) (kept : List ℕ) (skip_remaining : ℕ) (held : List ℕ) → IsSome unknown → HoldsOf unknown kept skip_remaining held came → came ≢ []
    by None kept skip_remaining held some h = absurd (cc some)
    by (Some u) kept skip_remaining held some (more, none, (kind, (value, e, sum, same))) = some_came came ((u.number, u.announced), value) e

pub pending_is : (walk : CapsuleWalk) (u : UnknownCapsule) (came : List ℕ) → walk.unknown ≡ Some u → Holds walk came → came ≢ []
pending_is walk u came is h = pending_unknown walk came (rw is refl) h

-- ---- an unknown capsule goes on

pub still_lacks : (u : UnknownCapsule) (kept : List ℕ) (skip_remaining : ℕ) (held came : List ℕ) → 0 < skip_remaining → held ≡ [] → LacksOf u kept skip_remaining came → HoldsOf (Some u) kept skip_remaining held came × (length held ≤ 1043)
still_lacks u kept skip_remaining held came some none lacks = ((some, none, lacks), omega (arith, ap length none))

pub lacks_none : (u : UnknownCapsule) (kept : List ℕ) (skip_remaining : ℕ) (held came : List ℕ) (item : CapsuleItem) → skip_remaining ≤ 0 → held ≡ [] → item.number ≡ u.number → item.name.now ≡ capsule_name u.number → item.announced ≡ u.announced → item.close ≡ None → item.limit ≡ limit_of u.number kept → LacksOf u kept skip_remaining came → IsWhole came item × (HoldsOf None kept skip_remaining held [] × (length held ≤ 1043))
lacks_none u kept skip_remaining held came item zero none number name announced close limit lacks =
    let none_due : skip_remaining ≡ 0 = omega (arith, zero) in
    (lacks_whole u kept skip_remaining came item none_due number name announced close limit lacks, holds_none None kept skip_remaining held refl none_due none)

-- ---- a step

-- bytes of a value are skipped
pub skips : (old : CapsuleWalk) (u : UnknownCapsule) (now : List ℕ) (cursor : CapsuleCursor) (found : AnyCapsule) (came front : List ℕ) → old.unknown ≡ Some u → Fits old (length front) → AnyIs found old.cursor front cursor → (has_limit u.number ≡ true → now ≡ old.value.items ++ front) → Holds old came → (old.held.items ≡ []) × LacksOf u now cursor.skip_remaining (came ++ front)
skips old u now cursor found came front is fits any keeps h =
    let (some, none, lacks) = holds_lacks old.unknown u old.value.items old.cursor.skip_remaining old.held.items came is h.0 in
    let missing = missing_due old.cursor old.held.items some in
    let most : length front ≤ old.cursor.skip_remaining = omega (arith, missing, some, fits (omega (arith, missing, some))) in
    (none, lacks_more u old.value.items now old.cursor.skip_remaining cursor.skip_remaining came front lacks most (skips_all found old.cursor cursor front most any) keeps)

pub begins_before : (came : List ℕ) (start place : ℕ) → came ≢ [] → begins_at came start place ≡ start
begins_before [] start place some = absurd (some refl)
begins_before (b ∷ came) start place some = refl

pub begins_held : (old : CapsuleWalk) (came : List ℕ) (place : ℕ) → old.unknown ≡ None → Holds old came → begins_at old.held.items old.at place ≡ begins_at came old.at place
begins_held old came place none h = let (skip_remaining, same, part) = holds_part old.unknown old.value.items old.cursor.skip_remaining old.held.items came none h.0 in ap (λ (x : List ℕ). begins_at x old.at place) same

-- the start of a capsule is held, and no more comes than is missing
record HoldsPart (old : CapsuleWalk) (came front : List ℕ) : Type 0 where
  skip_remaining : old.cursor.skip_remaining ≡ 0
  same : old.held.items ≡ came
  part : IsCapsulePart came
  most : length front ≤ missing_from old.cursor came

holds_front : (old : CapsuleWalk) (came front : List ℕ) → old.unknown ≡ None → Fits old (length front) → Holds old came → HoldsPart old came front
holds_front old came front none fits h =
    let (skip_remaining, same, part) = holds_part old.unknown old.value.items old.cursor.skip_remaining old.held.items came none h.0 in
    record {
      skip_remaining = skip_remaining;
      same = same;
      part = part;
      most = subst (λ (x : List ℕ). 0 < missing_from old.cursor x → length front ≤ missing_from old.cursor x) same fits (part_missing old.cursor came skip_remaining part);
    }

from_none : (skip_remaining end : ℕ) (bytes : List ℕ) → skip_remaining ≡ 0 → between skip_remaining end bytes ≡ take end bytes
from_none skip_remaining end bytes zero = let size : end - 0 ≡ end = omega arith in rw zero (ap (λ (k : ℕ). take k bytes) size)

pub holds_more : (old : CapsuleWalk) (unknown : Option UnknownCapsule) (kept : List ℕ) (cursor : CapsuleCursor) (held came front : List ℕ) (n : ℕ) → old.unknown ≡ None → Fits old (length front) → unknown ≡ None → held ≡ old.held.items ++ front → LeavesPart n old.cursor (old.held.items ++ front) cursor → Holds old came → HoldsOf unknown kept cursor.skip_remaining held (came ++ front) × (length held ≤ 1043)
holds_more old unknown kept cursor held came front n none fits still is f h =
    let p = holds_front old came front none fits h in
    let zero : n ≡ 0 = omega (arith, p.skip_remaining, f.skip_remaining) in
    let all : old.held.items ++ front ≡ came ++ front = ap (λ (x : List ℕ). x ++ front) p.same in
    let part : IsCapsulePart (came ++ front) = rw (← all) (rw zero at f.part) in
    let few : length (old.held.items ++ front) ≤ 1043 = rw zero at f.few in
    (rw still (omega (arith, p.skip_remaining, f.skip_remaining), is ∙ all, part), omega (arith, ap length is, few))

pub holds_long : (old : CapsuleWalk) (cursor : CapsuleCursor) (came front : List ℕ) (fault : Fault) → old.unknown ≡ None → Fits old (length front) → fault.code ≡ Library Datagram → FindsLongHead old.cursor (old.held.items ++ front) cursor → Holds old came → IsBad (came ++ front) fault
holds_long old cursor came front fault none fits same f h =
    let p = holds_front old came front none fits h in
    let all : old.held.items ++ front ≡ came ++ front = ap (λ (x : List ℕ). x ++ front) p.same in
    rw (← all) (long_bad (old.held.items ++ front) f.end fault (rw (from_none old.cursor.skip_remaining f.end (old.held.items ++ front) p.skip_remaining) at f.head) same)

pub holds_unknown : (old : CapsuleWalk) (kept : List ℕ) (cursor : CapsuleCursor) (came front : List ℕ) (u : UnknownCapsule) → kept ≡ [] → old.unknown ≡ None → Fits old (length front) → FindsUnknown u old.cursor (old.held.items ++ front) cursor → Holds old came → LacksOf u kept cursor.skip_remaining (came ++ front)
holds_unknown old kept cursor came front u empty none fits f h =
    let p = holds_front old came front none fits h in
    let all : old.held.items ++ front ≡ came ++ front = ap (λ (x : List ℕ). x ++ front) p.same in
    let head : IsUnknownHead u.number u.announced (take u.start (came ++ front)) = rw all at (rw (from_none old.cursor.skip_remaining u.start (old.held.items ++ front) p.skip_remaining) at f.head) in
    let pair : pair_at (came ++ front) ≡ Some ((u.number, u.announced), []) = ends_unknown old.cursor came front u.number u.announced u.start p.skip_remaining p.part p.most (rw all at f.within) head in
    (no_kind_none u.number f.head.no_kind, ([], pair, omega (arith, f.skip_remaining), λ has. empty))

pub holds_known : (old : CapsuleWalk) (cursor : CapsuleCursor) (came front : List ℕ) (place : CapsuleSpan) → old.unknown ≡ None → Fits old (length front) → FindsKnown place old.cursor (old.held.items ++ front) cursor → Holds old came → (old.held.items ++ front ≡ came ++ front) × (cursor.skip_remaining ≡ 0) × IsCapsule place.kind (capsule_value place (old.held.items ++ front)) (old.held.items ++ front)
holds_known old cursor came front place none fits f h =
    let p = holds_front old came front none fits h in
    let bytes = old.held.items ++ front in
    let all : bytes ≡ came ++ front = ap (λ (x : List ℕ). x ++ front) p.same in
    let k : IsCapsule place.kind (capsule_value place bytes) (take place.end bytes) = rw (from_none old.cursor.skip_remaining place.end bytes p.skip_remaining) at f.capsule in
    let end : place.end ≡ length (came ++ front) = ends_known old.cursor came front (capsule_value place bytes) place.kind place.end p.skip_remaining p.part p.most (rw all at f.within) (subst (λ (x : List ℕ). IsCapsule place.kind (capsule_value place bytes) (take place.end x)) all k) in
    (all, f.skip_remaining, subst (λ (x : List ℕ). IsCapsule place.kind (capsule_value place bytes) x) (take_all place.end bytes (omega (arith, end, ap length all))) k)

-- a fact of what a call returned gives another
pub ok_map : {T E : Type 0} (P Q : T → Type 0) (r : Result T E) → ((x : T) → P x → Q x) → IfOk r P → IfOk r Q
ok_map P Q (Ok x) f h = f x h
ok_map P Q (Err e) f h = h

-- ---- a piece of data

starts_more : (items : List CapsuleItem) (all bytes behind : List ℕ) (item : CapsuleItem) (place : ℕ → ℕ) → StartsCapsules place all items bytes → StartsCapsule bytes item behind → item.at ≡ place (length bytes) → StartsCapsules place all (items ++ item ∷ []) behind
starts_more [] all bytes behind item place same one at = (behind, rw same one, rw same at, refl)
starts_more (first ∷ items) all bytes behind item place (next, is, where_is, are) one at = (next, is, where_is, starts_more items next bytes behind item place are one at)

-- ---- the message

-- a session goes on, if no capsule of the payload has a fault
pub good_ends : (at : ℕ) (walk new : CapsuleWalk) (phase : Phase) (payload : List ℕ) (taken : CapsuleBatch) (on : Then) (stage : Stage) → ((came : List ℕ) (start : ℕ) → HoldsAt walk came start → TakesPiece (place_of start at (length payload)) new (came ++ payload) taken) → taken.fault ≡ None → phase ≡ phase-is.Session new → IsStage (phase-is.Session walk) stage → (next : Stage) × TakesData stage at payload taken.items.items on on next × IsStageAt on phase next
good_ends at walk new phase payload taken on (Session held start) adds none is h =
    let place = place_of start at (length payload) in
    let (rest, starts, rests) = adds held start h in
    let still : HoldsAt new rest (place (length rest)) = rw none at rests in
    (Session rest (place (length rest)), (rest, None, starts, holds_ends new rest still.0, refl, refl), rw is (stage_at on new rest (place (length rest)) still))
  where
    stage_at : (on : Then) (walk : CapsuleWalk) (rest : List ℕ) (start : ℕ) → HoldsAt walk rest start → IsStageAt on (phase-is.Session walk) (Session rest start)
    stage_at (Ok next) walk rest start h = h
    stage_at (Err end) walk rest start h = tt
good_ends at walk new phase payload taken on Opening adds none is h = absurd h
good_ends at walk new phase payload taken on Plain adds none is h = absurd h

pub bad_ends : (at : ℕ) (walk new : CapsuleWalk) (phase : Phase) (payload : List ℕ) (taken : CapsuleBatch) (fault : Fault) (on : Then) (stage : Stage) → ((came : List ℕ) (start : ℕ) → HoldsAt walk came start → TakesPiece (place_of start at (length payload)) new (came ++ payload) taken) → taken.fault ≡ Some fault → IsStage (phase-is.Session walk) stage → (next : Stage) × TakesData stage at payload taken.items.items on (Err (end-is.Fault fault)) next × IsStageAt (Err (end-is.Fault fault)) phase next
bad_ends at walk new phase payload taken fault on (Session held start) adds some h =
    let place = place_of start at (length payload) in
    let (rest, starts, rests) = adds held start h in
    let (ends, is) : EndsWith (capsule_front rest) (Some fault.code) × IsFaultOf (place (length rest)) fault = rw some at rests in
    (Session rest (place (length rest)), (rest, Some fault.code, starts, ends, (is.0, refl, is.1), refl), tt)
bad_ends at walk new phase payload taken fault on Opening adds some h = absurd h
bad_ends at walk new phase payload taken fault on Plain adds some h = absurd h

-- ---- the end

none_missing : (c : CapsuleCursor) (held came : List ℕ) → c.skip_remaining ≡ 0 → held ≡ came → missing_from c held ≡ missing_of (pair_at came) came
none_missing c held came zero same = rw (zero, same) refl

lacks_missing : (u : UnknownCapsule) (kept : List ℕ) (n : ℕ) (came : List ℕ) → LacksOf u kept n came → n ≡ missing_of (pair_at came) came
lacks_missing u kept n came (kind, (value, e, sum, same)) = rw e (omega (arith, sum))

-- what the cursor lacks of a capsule is what its bytes lack
missing_is : (walk : CapsuleWalk) (came : List ℕ) → Holds walk came → missing_from walk.cursor walk.held.items ≡ missing_of (pair_at came) came
missing_is walk came h = by walk.unknown walk.value.items walk.held.items h.0
  where
    by : (unknown : Option UnknownCapsule) (kept held : List ℕ) → HoldsOf unknown kept walk.cursor.skip_remaining held came → missing_from walk.cursor held ≡ missing_of (pair_at came) came
    by None kept held (zero, same, part) = none_missing walk.cursor held came zero same
    by (Some u) kept held (some, none, lacks) = missing_due walk.cursor held some ∙ lacks_missing u kept walk.cursor.skip_remaining came lacks

pub ends_whole : (walk : CapsuleWalk) (stage : Stage) → IsStage (phase-is.Session walk) stage → ((came : List ℕ) → Holds walk came → came ≡ []) → EndsStage stage end-is.Complete
ends_whole walk (Session held start) h none = rw (none held h.0) refl
ends_whole walk Opening h none = absurd h
ends_whole walk Plain h none = absurd h

pub ends_cut : (walk : CapsuleWalk) (stage : Stage) (cut : Cut) → IsStage (phase-is.Session walk) stage → ((came : List ℕ) → Holds walk came → came ≢ []) → cut.at ≡ walk.at → cut.item.now ≡ codes "capsule" → cut.missing ≡ missing_from walk.cursor walk.held.items → EndsStage stage (end-is.Cut cut)
ends_cut walk (Session [] start) cut h some place item missing = absurd (some [] h.0 refl)
ends_cut walk (Session (b ∷ held) start) cut (h, begins) some place item missing = (place ∙ begins (λ e. cc e), item, missing ∙ missing_is walk (b ∷ held) h)
ends_cut walk Opening cut h some place item missing = absurd h
ends_cut walk Plain cut h some place item missing = absurd h

-- ---- all steps

-- where a capsule began that is held before the bytes that are left
begins_is : (came left : List ℕ) (start at size walk_at place : ℕ) → length left ≤ size → place ≡ at + (size - length left) → (came ≢ [] → walk_at ≡ place_of start at size (length (came ++ left))) → begins_at came walk_at place ≡ place_of start at size (length (came ++ left))
begins_is [] left start at size walk_at place l e some = rw (le-ltb size (length left) l) e
begins_is (b ∷ came) left start at size walk_at place l e some = some (λ empty. cc empty)

-- the capsules so far, and what is held before the bytes that are left
abbrev pub SoFar : CapsuleWalk → ℕ → CapsuleWalk → List ℕ → List CapsuleItem → List ℕ → Type 0
SoFar old at walk piece items left =
    (held : List ℕ) (start : ℕ) → HoldsAt old held start → (came : List ℕ) × Holds walk came
    × StartsCapsules (place_of start at (length piece)) (held ++ piece) items (came ++ left)
    × (came ≢ [] → walk.at ≡ place_of start at (length piece) (length (came ++ left)))

pub so_far_none : (walk : CapsuleWalk) (at : ℕ) (piece : List ℕ) → SoFar walk at walk piece [] piece
so_far_none walk at piece = λ held start h. (held, h.0, refl, λ some. before held start some (h.1 some))
  where
    before : (held : List ℕ) (start : ℕ) → held ≢ [] → walk.at ≡ start → walk.at ≡ place_of start at (length piece) (length (held ++ piece))
    before [] start some is = absurd (some refl)
    before (b ∷ held) start some is = rw (lt-ltb (length piece) (length (b ∷ held ++ piece)) (omega (arith, length-append held piece))) is

pub so_far_more : (old : CapsuleWalk) (at place : ℕ) (walk new : CapsuleWalk) (piece left front behind : List ℕ) (items : List CapsuleItem) → SoFar old at walk piece items left → length left ≤ length piece → place ≡ at + (length piece - length left) → left ≡ front ++ behind → ((came : List ℕ) → Holds walk came → Holds new (came ++ front) × (new.at ≡ begins_at came walk.at place)) → SoFar old at new piece items behind
so_far_more old at place walk new piece left front behind items so fits is parts steps = λ held start h.
    let (came, holds, starts, begun) = so held start h in
    let (still, begins) = steps came holds in
    let all : came ++ left ≡ (came ++ front) ++ behind = ap (λ (x : List ℕ). came ++ x) parts ∙ sym (append_assoc came front behind) in
    let at_is = begins ∙ begins_is came left start at (length piece) walk.at place fits is begun in
    (came ++ front, still, subst (λ (x : List ℕ). StartsCapsules (place_of start at (length piece)) (held ++ piece) items x) all starts, λ some. at_is ∙ ap (λ (x : List ℕ). place_of start at (length piece) (length x)) all)

pub so_far_done : (old : CapsuleWalk) (at place : ℕ) (walk new : CapsuleWalk) (piece left front behind : List ℕ) (items more : List CapsuleItem) (item : CapsuleItem) → SoFar old at walk piece items left → length left ≤ length piece → place ≡ at + (length piece - length left) → left ≡ front ++ behind → ((came : List ℕ) → Holds walk came → IsWhole (came ++ front) item × Holds new [] × (item.at ≡ begins_at came walk.at place)) → more ≡ items ++ item ∷ [] → SoFar old at new piece more behind
so_far_done old at place walk new piece left front behind items more item so fits is parts steps same = λ held start h.
    let (came, holds, starts, begun) = so held start h in
    let (whole, none, begins) = steps came holds in
    let P = place_of start at (length piece) in
    let all : came ++ left ≡ (came ++ front) ++ behind = ap (λ (x : List ℕ). came ++ x) parts ∙ sym (append_assoc came front behind) in
    let at_is : item.at ≡ P (length (came ++ left)) = begins ∙ begins_is came left start at (length piece) walk.at place fits is begun in
    let one : StartsCapsule (came ++ left) item behind = subst (λ (x : List ℕ). StartsCapsule x item behind) (sym all) (whole behind) in
    ([], none, subst (λ (x : List CapsuleItem). StartsCapsules P (held ++ piece) x behind) (sym same) (starts_more items (held ++ piece) (came ++ left) behind item P starts one at_is), λ some. absurd (some refl))

empty : (s : List ℕ) → length s ≡ 0 → s ≡ []
empty [] e = refl
empty (b ∷ s) e = absurd (omega (arith, e))

pub so_far_end : (old : CapsuleWalk) (at : ℕ) (walk : CapsuleWalk) (piece left : List ℕ) (taken : CapsuleBatch) → SoFar old at walk piece taken.items.items left → length left ≡ 0 → taken.fault ≡ None → (held : List ℕ) (start : ℕ) → HoldsAt old held start → TakesPiece (place_of start at (length piece)) walk (held ++ piece) taken
so_far_end old at walk piece left taken so none good held start h =
    let (came, holds, starts, begun) = so held start h in
    let all : came ++ left ≡ came = ap (λ (x : List ℕ). came ++ x) (empty left none) ∙ append-nil came in
    let P = place_of start at (length piece) in
    (came, subst (λ (x : List ℕ). StartsCapsules P (held ++ piece) taken.items.items x) all starts, rw good (holds, λ some. begun some ∙ ap (λ (x : List ℕ). P (length x)) all))

pub so_far_bad : (old : CapsuleWalk) (at place : ℕ) (walk new : CapsuleWalk) (piece left front behind : List ℕ) (taken : CapsuleBatch) (fault : Fault) → SoFar old at walk piece taken.items.items left → length left ≤ length piece → place ≡ at + (length piece - length left) → left ≡ front ++ behind → ((came : List ℕ) → Holds walk came → IsBad (came ++ front) fault × IsFaultOf (begins_at came walk.at place) fault) → taken.fault ≡ Some fault → (held : List ℕ) (start : ℕ) → HoldsAt old held start → TakesPiece (place_of start at (length piece)) new (held ++ piece) taken
so_far_bad old at place walk new piece left front behind taken fault so fits is parts steps some held start h =
    let (came, holds, starts, begun) = so held start h in
    let (bad, of) = steps came holds in
    let all : came ++ left ≡ (came ++ front) ++ behind = ap (λ (x : List ℕ). came ++ x) parts ∙ sym (append_assoc came front behind) in
    let ends : EndsWith (capsule_front (came ++ left)) (Some fault.code) = subst (λ (x : List ℕ). EndsWith (capsule_front x) (Some fault.code)) (sym all) (bad behind) in
    (came ++ left, starts, rw some (ends, (of.0 ∙ begins_is came left start at (length piece) walk.at place fits is begun, of.1)))
