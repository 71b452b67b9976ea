-- One call of a reading of capsules: what is held before and after, and the bytes.
use Rattle.std.proofs.Common.{◌≡◌, ℕ, ◌+◌, ◌-◌, ◌<◌, ◌≤◌, ◌⊎◌, nat_lt, List, [], ◌∷◌, ◌++◌, length, take, drop, Option, Some, None, Result, Ok, Err, refl, sym, ap, subst, ◌∙◌, arith, inl, inr, append_assoc, append-nil, length-append, length-drop, length-take}
use Rattle.std.proofs.lemmas.Bool.{cases_Bool, cases_lt, lt-ltb, le-ltb, ltb-false, ne_eqb}
use Rattle.std.proofs.lemmas.List.{append_cancel_left, take-append-drop}
use Rattle.std.proofs.Math.Seq.{drop-append-add}
use Rattle.wtp_core.specs.Varint.{number_at, bytes_at}
use Rattle.wtp_core.specs.VarintLenNeeded.{varint_len_needed}
use Rattle.wtp_core.proofs.NeedLemmas.{number_at-cut, number_at-full, drop_all}
use Rattle.wtp_core.proofs.EncodingLemmas.{number_at-more, bytes_at-append}
use Rattle.wtp_wire.specs.declared.capsule.CapsuleKind.{CapsuleKind}
use Rattle.wtp_wire.specs.declared.capsule.reading.CapsuleAnnouncement.{CapsuleAnnouncement}
use Rattle.wtp_wire.specs.declared.capsule.reading.CapsuleAnnouncement.TheVariants as head-is
use Rattle.wtp_wire.specs.declared.capsule.reading.Reached.TheVariants as reached-is
use Rattle.wtp_wire.specs.Capsule.{capsule_number_of, capsule_kind_of}
use Rattle.wtp_wire.specs.CapsuleFront.{Found, Unknown, TooLong, Cut, End, max_value_len, or_cut, value_front, capsule_front}
use Rattle.wtp_wire.specs.CapsuleStream.{next_capsule, next_held, skip_unknown, Joins, MissesValue, NextGiven}
use Rattle.wtp_wire.specs.declared.capsule.CapsuleError.{CapsuleError}
use Rattle.wtp_wire.specs.declared.capsule.CapsuleError.TheVariants as error-is
use Rattle.wtp_wire.specs.CapsuleSteps.{HasRoom, length_says, head_says, front_after, FitsHead, IsPart, holding, Advanced}
use Rattle.wtp_wire.specs.Front.{EncodesPair}
use Rattle.wtp_wire.specs.FrameNeed.{frame_need, frame_need_is, frame_need_some}
use Rattle.wtp_wire.specs.Held.{Held}
use Rattle.wtp_wire.proofs.FramePrefixLemmas.{parts_of}
use Rattle.wtp_wire.proofs.CapsuleFrontLemmas.{front_end, front_none, front_one, front_two, TwoNumbers, two_numbers, same_number}
use Rattle.wtp_wire.proofs.CapsuleStreamLemmas.{next-by}

-- ---- what a type and a length say

none_unfinished : (bytes : List ℕ) → number_at bytes ≡ None → head_says bytes ≡ head-is.Unfinished
unfolding head_says
none_unfinished bytes e = rw e refl

one_unfinished : (bytes r : List ℕ) (id : ℕ) → number_at bytes ≡ Some (id, r) → number_at r ≡ None → head_says bytes ≡ head-is.Unfinished
unfolding head_says
one_unfinished bytes r id e f = rw (e, f) refl

pub two_say : (bytes r rest : List ℕ) (id n : ℕ) → number_at bytes ≡ Some (id, r) → number_at r ≡ Some (n, rest) → head_says bytes ≡ length_says (capsule_kind_of id) n
unfolding head_says
two_say bytes r rest id n e f = rw (e, f) refl

value_after : (k : Option CapsuleKind) (n : ℕ) (xs : List ℕ) → value_front k n xs ≡ front_after (length_says k n) xs
value_after None n xs = refl
value_after (Some kind) n xs = elim (cases_Bool (nat_lt (max_value_len kind) n)) [ inl t ↦ rw t refl | inr t ↦ rw t refl ]

pub front_says : (h xs : List ℕ) → frame_need h ≡ length h → capsule_front (h ++ xs) ≡ front_after (head_says h) xs
front_says h xs w =
    let p = parts_of h w in
    front_two (h ++ xs) (p.behind ++ xs) xs p.id p.n (number_at-more p.id h p.behind xs p.first) (number_at-more p.n p.behind [] xs p.second)
    ∙ value_after (capsule_kind_of p.id) p.n xs
    ∙ ap (λ (s : CapsuleAnnouncement). front_after s xs) (sym (two_say h p.behind [] p.id p.n p.first p.second))

-- a head that is not complete
record Unready (h : List ℕ) : Type 0 where
  says : head_says h ≡ head-is.Unfinished
  cut : 0 < length h → capsule_front h ≡ Cut

unready : (h : List ℕ) → length h < frame_need h → Unready h
unready h f = elim (cases_lt (length h) (varint_len_needed h)) [
  | inl l ↦ let none = number_at-cut h l in record { says = none_unfinished h none; cut = λ some. front_none h some none }
  | inr l ↦
      let r = drop (varint_len_needed h) h in
      let one = number_at-full h l in
      let part : length r < varint_len_needed r = omega (arith, frame_need_is h, length-drop (varint_len_needed h) h) in
      let none = number_at-cut r part in
      record { says = one_unfinished h r one.0 one.1 none; cut = λ some. front_one h r one.0 one.1 none }
]

pub head_cut : (h : List ℕ) → 0 < length h → length h < frame_need h → capsule_front h ≡ Cut
head_cut h some l = (unready h l).cut some

pub says_unfinished : (h : List ℕ) → length h < frame_need h → head_says h ≡ head-is.Unfinished
says_unfinished h l = (unready h l).says

-- a complete head says something
pub says_something : (k : Option CapsuleKind) (n : ℕ) → length_says k n ≡ head-is.Unfinished → ⊥
says_something None n e = cc
says_something (Some kind) n e = elim (cases_Bool (nat_lt (max_value_len kind) n)) [ inl t ↦ cc (rw t at e) | inr t ↦ cc (rw t at e) ]

pub says_whole : (h : List ℕ) → frame_need h ≡ length h → head_says h ≡ head-is.Unfinished → ⊥
says_whole h w e = let p = parts_of h w in says_something (capsule_kind_of p.id) p.n (sym (two_say h p.behind [] p.id p.n p.first p.second) ∙ e)

-- the head of a capsule of a known kind
pub record KeepIs (o : Option CapsuleKind) (k : CapsuleKind) (n m : ℕ) : Type 0 where
  pub size : n ≡ m
  pub kind : o ≡ Some k
  pub small : m ≤ max_value_len k

pub keep_is : (o : Option CapsuleKind) (k : CapsuleKind) (n m : ℕ) → length_says o n ≡ head-is.Keep k m → KeepIs o k n m
keep_is None k n m e = absurd (cc)
keep_is (Some kind) k n m e = elim (cases_Bool (nat_lt (max_value_len kind) n)) [
  | inl t ↦ absurd (cc (rw t at e))
  | inr t ↦
      let is : head-is.Keep kind n ≡ head-is.Keep k m = rw t at e in
      let same : kind ≡ k = cc in
      let size : n ≡ m = cc in
      let fits : n ≤ max_value_len kind = ltb-false (max_value_len kind) n t in
      record { size = size; kind = ap (λ (x : CapsuleKind). Some x) same; small = rw (← same, ← size) fits }
]

pub misses_value : (h v : List ℕ) (k : CapsuleKind) (m : ℕ) → frame_need h ≡ length h → head_says h ≡ head-is.Keep k m → length v < m → MissesValue (h ++ v)
misses_value h v k m w e l =
    let p = parts_of h w in
    let s = keep_is (capsule_kind_of p.id) k p.n m (sym (two_say h p.behind [] p.id p.n p.first p.second) ∙ e) in
    let two : TwoNumbers p.id p.n h [] = two_numbers h p.behind [] p.id p.n p.first p.second in
    record {
      kind = k;
      len = m;
      head = two.head;
      part = v;
      encoded = subst (λ (n : ℕ). EncodesPair (capsule_number_of k) n two.head) s.size (same_number p.id p.n k two.head s.kind two.encoded);
      small = s.small;
      less = l;
      parts = ap (λ (x : List ℕ). x ++ v) (two.parts ∙ append-nil two.head);
    }

none_missed : (h v : List ℕ) (k : CapsuleKind) (m : ℕ) (w : frame_need h ≡ length h) (e : head_says h ≡ head-is.Keep k m) (l : length v < m) → v ≡ [] → (misses_value h v k m w e l).part ≡ []
unfolding misses_value
none_missed h v k m w e l none = none

-- ---- what is held and the bytes

abbrev pub hold : List ℕ → ℕ → Held
hold t skip_remaining = record { taken = t; skip_remaining = skip_remaining }

pub held_none : (t : List ℕ) (d : ℕ) (xs : List ℕ) → d ≡ 0 → next_held (hold t d) xs ≡ next_capsule (t ++ xs)
unfolding next_held
held_none t d xs e = rw e refl

pub held_due : (t : List ℕ) (d : ℕ) (xs : List ℕ) → 0 < d → next_held (hold t d) xs ≡ or_cut (bytes_at d xs) (λ value. next_capsule value.1)
unfolding next_held
held_due t d xs l = rw (ne_eqb d 0 (λ z. omega arith)) refl

skipped : (t s xs : List ℕ) (d : ℕ) → length s ≡ d → 0 < d → next_held (hold t d) (s ++ xs) ≡ next_capsule xs
skipped t s xs d e l = held_due t d (s ++ xs) l ∙ ap (λ (n : ℕ). or_cut (bytes_at n (s ++ xs)) (λ value. next_capsule value.1)) (sym e) ∙ rw (bytes_at-append s xs) refl

-- the bytes after the first n
pub record Split (n : ℕ) (xs : List ℕ) : Type 0 where
  pub front : List ℕ
  pub size : length front ≡ n
  pub parts : xs ≡ front ++ drop n xs

pub split : (n : ℕ) (xs : List ℕ) → n ≤ length xs → Split n xs
split n xs l = record { front = take n xs; size = omega (arith, length-take n xs); parts = sym (take-append-drop n xs) }

-- a number of bytes is skipped, in part or in whole
less_due : (d : ℕ) (a more : List ℕ) → length a < d → or_cut (bytes_at d (a ++ more)) (λ value. next_capsule value.1) ≡ or_cut (bytes_at (d - length a) more) (λ value. next_capsule value.1)
unfolding bytes_at
less_due d a more l = elim (cases_lt (length more) (d - length a)) [
  | inl cut ↦ rw (lt-ltb (length (a ++ more)) d (omega (arith, length-append a more)), lt-ltb (length more) (d - length a) cut) refl
  | inr full ↦ rw (le-ltb (length (a ++ more)) d (omega (arith, length-append a more)), le-ltb (length more) (d - length a) full, drop_past d a more (omega arith)) refl
]
  where
    size : (n m : ℕ) → m ≤ n → n ≡ m + (n - m)
    size n m h = omega arith

    drop_past : (n : ℕ) (s t : List ℕ) → length s ≤ n → drop n (s ++ t) ≡ drop (n - length s) t
    drop_past n s t h = ap (λ (m : ℕ). drop m (s ++ t)) (size n (length s) h) ∙ drop-append-add s t (n - length s)

pub joins_due : (t : List ℕ) (d : ℕ) (a : List ℕ) → (0 < d → t ≡ []) → Joins (hold t d) a (hold t (d - length a)) (drop d a)
joins_due t d a none more = elim (cases_lt 0 d) [
  | inr zero ↦ let z : d ≡ 0 = omega arith in let left : d - length a ≡ 0 = omega arith in rw (left, z) refl
  | inl some ↦ elim (cases_lt (length a) d) [
    | inl part ↦
        held_due t d (a ++ more) some ∙ less_due d a more part
        ∙ sym (held_due t (d - length a) more (omega arith))
        ∙ ap (λ (x : List ℕ). next_held (hold t (d - length a)) (x ++ more)) (sym (drop_all d a (omega arith)))
    | inr full ↦
        let s = split d a full in
        ap (λ (x : List ℕ). next_held (hold t d) x) (ap (λ (x : List ℕ). x ++ more) s.parts ∙ append_assoc s.front (drop d a) more)
        ∙ skipped t s.front (drop d a ++ more) d s.size some
        ∙ sym (held_none t (d - length a) (drop d a ++ more) (omega arith) ∙ ap (λ (x : List ℕ). next_capsule (x ++ (drop d a ++ more))) (none some))
  ]
]

pub joins_bytes : (t t' a b : List ℕ) (d d' : ℕ) → d ≡ 0 → d' ≡ 0 → t ++ a ≡ t' ++ b → Joins (hold t d) a (hold t' d') b
joins_bytes t t' a b d d' z z' e more =
    held_none t d (a ++ more) z
    ∙ ap next_capsule (sym (append_assoc t a more) ∙ ap (λ (x : List ℕ). x ++ more) e ∙ append_assoc t' b more)
    ∙ sym (held_none t' d' (b ++ more) z')

pub joins_then : (h i j : Held) (a b c : List ℕ) → Joins h a i b → Joins i b j c → Joins h a j c
joins_then h i j a b c p q more = p more ∙ q more

-- after a complete head
held_says : (h v xs : List ℕ) (d : ℕ) → d ≡ 0 → frame_need h ≡ length h → next_held (hold (h ++ v) d) xs ≡ skip_unknown (λ rest. next_capsule rest) (front_after (head_says h) (v ++ xs))
held_says h v xs d z w = held_none (h ++ v) d xs z ∙ ap next_capsule (append_assoc h v xs) ∙ next-by (h ++ (v ++ xs)) (front_after (head_says h) (v ++ xs)) (front_says h (v ++ xs) w)

pub joins_skip : (h b : List ℕ) (n d d' : ℕ) → d ≡ 0 → d' ≡ n → frame_need h ≡ length h → head_says h ≡ head-is.Skip n → Joins (hold h d) b (hold [] d') b
joins_skip h b n d d' z is w e more = elim (cases_lt 0 n) [
  | inl some ↦ start ∙ over (bytes_at n (b ++ more)) ∙ sym (ap (λ (m : ℕ). next_held (hold [] m) (b ++ more)) is ∙ held_due [] n (b ++ more) some)
  | inr zero ↦ let none : n ≡ 0 = omega arith in start ∙ ap (λ (m : ℕ). skip_unknown (λ rest. next_capsule rest) (or_cut (bytes_at m (b ++ more)) (λ value. Unknown value.1))) none ∙ rw (bytes_at-append [] (b ++ more)) refl ∙ sym (held_none [] d' (b ++ more) (is ∙ none))
]
  where
    start : next_held (hold h d) (b ++ more) ≡ skip_unknown (λ rest. next_capsule rest) (or_cut (bytes_at n (b ++ more)) (λ value. Unknown value.1))
    start = held_none h d (b ++ more) z ∙ next-by (h ++ (b ++ more)) (front_after (head_says h) (b ++ more)) (front_says h (b ++ more) w) ∙ ap (λ (s : CapsuleAnnouncement). skip_unknown (λ rest. next_capsule rest) (front_after s (b ++ more))) e

    over : (o : Option (List ℕ × List ℕ)) → skip_unknown (λ rest. next_capsule rest) (or_cut o (λ value. Unknown value.1)) ≡ or_cut o (λ value. next_capsule value.1)
    over None = refl
    over (Some x) = refl

pub held_long : (h v : List ℕ) (d : ℕ) → d ≡ 0 → v ≡ [] → frame_need h ≡ length h → head_says h ≡ head-is.TooLong → (more : List ℕ) → next_held (hold (h ++ v) d) more ≡ TooLong more
held_long h v d z none w e more = held_says h v more d z w ∙ ap (λ (s : CapsuleAnnouncement). skip_unknown (λ rest. next_capsule rest) (front_after s (v ++ more))) e ∙ ap (λ (x : List ℕ). TooLong (x ++ more)) none

pub held_found : (h v : List ℕ) (k : CapsuleKind) (n d : ℕ) → d ≡ 0 → length v ≡ n → frame_need h ≡ length h → head_says h ≡ head-is.Keep k n → (more : List ℕ) → next_held (hold (h ++ v) d) more ≡ Found k v more
held_found h v k n d z size w e more =
    held_says h v more d z w ∙ ap (λ (s : CapsuleAnnouncement). skip_unknown (λ rest. next_capsule rest) (front_after s (v ++ more))) (e ∙ ap (λ (m : ℕ). head-is.Keep k m) (sym size))
    ∙ rw (bytes_at-append v more) refl

-- too few bytes
pub no_more : (n : ℕ) (s : List ℕ) → length s < n → bytes_at n s ≡ None
unfolding bytes_at
no_more n s l = rw (lt-ltb (length s) n l) refl

pub short_value : (h v : List ℕ) (k : CapsuleKind) (n d : ℕ) → d ≡ 0 → length v < n → frame_need h ≡ length h → head_says h ≡ head-is.Keep k n → next_held (hold (h ++ v) d) [] ≡ Cut
short_value h v k n d z l w e =
    held_says h v [] d z w ∙ ap (λ (s : CapsuleAnnouncement). skip_unknown (λ rest. next_capsule rest) (front_after s (v ++ []))) e
    ∙ rw (no_more n (v ++ []) (omega (arith, length-append v []))) refl

pub short_due : (t : List ℕ) (d : ℕ) → 0 < d → next_held (hold t d) [] ≡ Cut
short_due t d l = held_due t d [] l ∙ rw (no_more d [] l) refl

no_bytes_end : (h : List ℕ) → length h ≡ 0 → capsule_front h ≡ End
no_bytes_end [] e = front_end
no_bytes_end (b ∷ h) e = absurd (omega arith)

held_head : (h v : List ℕ) (d : ℕ) → d ≡ 0 → v ≡ [] → next_held (hold (h ++ v) d) [] ≡ next_capsule h
held_head h v d z none = held_none (h ++ v) d [] z ∙ ap next_capsule (append-nil (h ++ v) ∙ ap (λ (x : List ℕ). h ++ x) none ∙ append-nil h)

pub short_head : (h v : List ℕ) (d : ℕ) → d ≡ 0 → v ≡ [] → length h < frame_need h → (next_held (hold (h ++ v) d) [] ≡ Cut) ⊎ (next_held (hold (h ++ v) d) [] ≡ End)
short_head h v d z none l = elim (cases_lt 0 (length h)) [
  | inl some ↦ inl (held_head h v d z none ∙ next-by h Cut ((unready h l).cut some))
  | inr empty ↦ inr (held_head h v d z none ∙ next-by h End (no_bytes_end h (omega arith)))
]

-- ---- what is held between calls

pub part_new : (h v : List ℕ) (d : ℕ) → h ≡ [] → v ≡ [] → IsPart h v d
part_new h v d none empty =
    let some = frame_need_some [] in
    rw (none, empty) (record { within = omega arith; fits = rw (says_unfinished [] some) refl; alone = λ l. refl })

no_value : (h v : List ℕ) (d : ℕ) → IsPart h v d → length h < frame_need h → v ≡ []
no_value h v d p l = let f : FitsHead (head_says h) v = p.fits in rw (says_unfinished h l) at f

-- if bytes are still to be skipped, none is held
none_held : (h v : List ℕ) (d : ℕ) → IsPart h v d → 0 < d → (h ≡ []) × (v ≡ [])
none_held h v d p l =
    let e : h ≡ [] = p.alone l in
    let some = frame_need_some h in
    (e, no_value h v d p (omega (arith, ap length e)))

pub ends_clean : (h v : List ℕ) (d : ℕ) → IsPart h v d → length h ≡ 0 → d ≡ 0 → next_held (hold (h ++ v) d) [] ≡ End
ends_clean h v d p none z =
    let some = frame_need_some h in
    held_head h v d z (no_value h v d p (omega arith)) ∙ next-by h End (no_bytes_end h none)

pub ends_cut : (h v : List ℕ) (d : ℕ) → IsPart h v d → (0 < length h) ⊎ (0 < d) → next_held (hold (h ++ v) d) [] ≡ End → ⊥
ends_cut h v d p some e = elim (cases_lt 0 d) [
  | inl skip_remaining ↦ let bad : Cut ≡ End = sym (short_due (h ++ v) d skip_remaining) ∙ e in cc
  | inr zero ↦
      let z : d ≡ 0 = omega arith in
      let begun : 0 < length h = elim some [ inl l ↦ l | inr l ↦ absurd (omega arith) ] in
      elim (cases_lt (length h) (frame_need h)) [
        | inl part ↦ let bad : Cut ≡ End = sym (held_head h v d z (no_value h v d p part) ∙ next-by h Cut ((unready h part).cut begun)) ∙ e in cc
        | inr full ↦ let most = p.within in by z (omega arith) (head_says h) refl p.fits
      ]
]
  where
    by : d ≡ 0 → frame_need h ≡ length h → (s : CapsuleAnnouncement) → head_says h ≡ s → FitsHead s v → ⊥
    by z w head-is.Unfinished is f = says_whole h w is
    by z w (head-is.Keep k n) is f = let bad : Cut ≡ End = sym (short_value h v k n d z f w is) ∙ e in cc
    by z w (head-is.Skip n) is f = f
    by z w head-is.TooLong is f = let bad : TooLong [] ≡ End = sym (held_long h v d z f w is []) ∙ e in cc

-- ---- one capsule

-- bytes were taken for a type and a length
pub record TakesHead (h b h' c : List ℕ) : Type 0 where
  pub joins : h ++ b ≡ h' ++ c
  pub stays : frame_need h ≡ length h → h' ≡ h
  pub forward : length h ≤ length h'
  pub same : length h' ≡ length h → h' ≡ h

pub takes_head : (head head' b c : List ℕ) (len len' : ℕ) → len ≤ length head → len' ≤ length head' → len ≤ len' → take len head' ≡ take len head → (frame_need (take len head) ≡ len → (len' ≡ len) × (head' ≡ head)) → take len head ++ b ≡ take len' head' ++ c → TakesHead (take len head) b (take len' head') c
takes_head head head' b c len len' room room' forward front stays joins =
    let size : length (take len head) ≡ len = omega (arith, length-take len head) in
    let size' : length (take len' head') ≡ len' = omega (arith, length-take len' head') in
    record {
      joins = joins;
      stays = λ w. let s = stays (w ∙ size) in ap (λ (n : ℕ). take n head') s.0 ∙ front;
      forward = omega arith;
      same = λ e. let n : len' ≡ len = omega arith in ap (λ (m : ℕ). take m head') n ∙ front;
    }

-- the head was complete before, or nothing of a value is held
before : (h v h' b c : List ℕ) (d : ℕ) → IsPart h v d → TakesHead h b h' c → (h' ≡ h) ⊎ (v ≡ [])
before h v h' b c d p t = elim (cases_lt (length h) (frame_need h)) [
  | inl l ↦ inr (no_value h v d p l)
  | inr l ↦ let most = p.within in inl (t.stays (omega arith))
]

with_value : (h v h' b c : List ℕ) → (h' ≡ h) ⊎ (v ≡ []) → TakesHead h b h' c → (h ++ v) ++ b ≡ (h' ++ v) ++ c
with_value h v h' b c w t = elim w [
  | inl same ↦
      let rest : b ≡ c = append_cancel_left h b c (t.joins ∙ ap (λ (x : List ℕ). x ++ c) same) in
      rw (same, rest) refl
  | inr none ↦ rw (none, append-nil h, append-nil h') t.joins
]

-- after the bytes still to be skipped, and those of a type and a length
pub record Headed (h v : List ℕ) (d : ℕ) (a h' : List ℕ) (c : List ℕ) : Type 0 where
  pub zero : d - length a ≡ 0
  pub part : IsPart h v d
  pub head : TakesHead h (drop d a) h' c

joins_head : (h v : List ℕ) (d : ℕ) (a h' c : List ℕ) → Headed h v d a h' c → Joins (hold (h ++ v) d) a (hold (h' ++ v) (d - length a)) c
joins_head h v d a h' c t =
    joins_then (hold (h ++ v) d) (hold (h ++ v) (d - length a)) (hold (h' ++ v) (d - length a)) a (drop d a) c
    (joins_due (h ++ v) d a (λ l. let e = none_held h v d t.part l in rw (e.0, e.1) refl))
    (joins_bytes (h ++ v) (h' ++ v) (drop d a) c (d - length a) (d - length a) t.zero t.zero (with_value h v h' (drop d a) c (before h v h' (drop d a) c d t.part t.head) t.head))

fits_after : (h v h' b c : List ℕ) (d : ℕ) (s : CapsuleAnnouncement) → IsPart h v d → TakesHead h b h' c → head_says h' ≡ s → FitsHead s v ⊎ (v ≡ [])
fits_after h v h' b c d s p t is = elim (before h v h' b c d p t) [
  | inl same ↦ let says : head_says h ≡ s = ap head_says (sym same) ∙ is in inl (rw says at p.fits)
  | inr none ↦ inr none
]

pub advanced_due : (h v a : List ℕ) (d : ℕ) → IsPart h v d → 0 < d - length a → Advanced reached-is.More (holding h v d) a h v (d - length a) (drop d a)
advanced_due h v a d p l =
    let e = none_held h v d p (omega arith) in (
      part_new h v (d - length a) e.0 e.1,
      record {
        none_left = drop_all d a (omega arith);
        short = inl (short_due (h ++ v) (d - length a) l);
        joins = joins_due (h ++ v) d a (λ m. rw (e.0, e.1) refl);
      },
    )

pub advanced_head : (h v : List ℕ) (d : ℕ) (a h' c : List ℕ) → Headed h v d a h' c → length h' < frame_need h' → c ≡ [] → Advanced reached-is.More (holding h v d) a h' v (d - length a) c
advanced_head h v d a h' c t l none =
    let empty : v ≡ [] = elim (fits_after h v h' (drop d a) c d head-is.Unfinished t.part t.head (says_unfinished h' l)) [ inl f ↦ f | inr e ↦ e ] in (
      record { within = omega arith; fits = rw (says_unfinished h' l) empty; alone = λ m. absurd (omega (arith, t.zero)) },
      record { none_left = none; short = short_head h' v (d - length a) t.zero empty l; joins = joins_head h v d a h' c t },
    )

pub advanced_long : (h v : List ℕ) (d : ℕ) (a h' c : List ℕ) → Headed h v d a h' c → frame_need h' ≡ length h' → head_says h' ≡ head-is.TooLong → Advanced reached-is.TooLong (holding h v d) a h' v (d - length a) c
advanced_long h v d a h' c t w is =
    let empty : v ≡ [] = elim (fits_after h v h' (drop d a) c d head-is.TooLong t.part t.head is) [ inl f ↦ f | inr e ↦ e ] in
    let long = held_long h' v (d - length a) t.zero empty w is in (
      record { within = omega arith; fits = rw is empty; alone = λ m. absurd (omega (arith, t.zero)) },
      record { found = λ more. joins_head h v d a h' c t more ∙ long (c ++ more); stays = long },
    )

skip_advanced : (h v : List ℕ) (d : ℕ) (a h' c : List ℕ) (n : ℕ) → Headed h v d a h' c → frame_need h' ≡ length h' → head_says h' ≡ head-is.Skip n → Advanced reached-is.Skipping (holding h v d) a [] v n c
skip_advanced h v d a h' c n t w is =
    let empty : v ≡ [] = elim (fits_after h v h' (drop d a) c d (head-is.Skip n) t.part t.head is) [ inl f ↦ absurd f | inr e ↦ e ] in
    let more_head : length h' ≡ length h → ⊥ = λ e. let says : head_says h ≡ head-is.Skip n = ap head_says (sym (t.head.same e)) ∙ is in let f : ⊥ = rw says at t.part.fits in f in
    let forward = t.head.forward in
    let grew : length h < length h' = elim (cases_lt (length h) (length h')) [ inl l ↦ l | inr l ↦ absurd (more_head (omega arith)) ] in
    record {
      no_head = refl;
      no_value = empty;
      joins = joins_then (hold (h ++ v) d) (hold (h' ++ v) (d - length a)) (hold ([] ++ v) n) a c c (joins_head h v d a h' c t) (λ more. rw (empty, append-nil h') (joins_skip h' c n (d - length a) n t.zero refl w is more));
      shorter = omega (arith, ap length t.head.joins, length-append h (drop d a), length-append h' c, length-drop d a);
    }

-- as many bytes are to be skipped as the length says
pub advanced_skip : (h v : List ℕ) (d : ℕ) (a h' c : List ℕ) (n m : ℕ) → m ≡ n → Headed h v d a h' c → frame_need h' ≡ length h' → head_says h' ≡ head-is.Skip n → Advanced reached-is.Skipping (holding h v d) a [] v m c
advanced_skip h v d a h' c n m e t w is = rw e (skip_advanced h v d a h' c n t w is)

-- ---- its value

-- the room of a value is enough
pub value_fits : (h v : List ℕ) (d : ℕ) (a h' c : List ℕ) (k : CapsuleKind) (n : ℕ) → Headed h v d a h' c → head_says h' ≡ head-is.Keep k n → length v ≤ n
value_fits h v d a h' c k n t is = elim (fits_after h v h' (drop d a) c d (head-is.Keep k n) t.part t.head is) [ inl f ↦ omega arith | inr e ↦ omega (arith, ap length e) ]

joins_value : (h v : List ℕ) (d : ℕ) (a h' c v' e : List ℕ) → Headed h v d a h' c → v ++ c ≡ v' ++ e → Joins (hold (h ++ v) d) a (hold (h' ++ v') (d - length a)) e
joins_value h v d a h' c v' e t joins =
    joins_then (hold (h ++ v) d) (hold (h' ++ v) (d - length a)) (hold (h' ++ v') (d - length a)) a c e
    (joins_head h v d a h' c t)
    (joins_bytes (h' ++ v) (h' ++ v') c e (d - length a) (d - length a) t.zero t.zero (append_assoc h' v c ∙ ap (λ (x : List ℕ). h' ++ x) joins ∙ sym (append_assoc h' v' e)))

part_value : (h' v' : List ℕ) (d : ℕ) (k : CapsuleKind) (n : ℕ) → d ≡ 0 → frame_need h' ≡ length h' → head_says h' ≡ head-is.Keep k n → length v' < n → IsPart h' v' d
part_value h' v' d k n z w is l = record { within = omega arith; fits = rw is l; alone = λ m. absurd (omega arith) }

pub advanced_found : (h v : List ℕ) (d : ℕ) (a h' c v' e : List ℕ) (k : CapsuleKind) (n : ℕ) → Headed h v d a h' c → frame_need h' ≡ length h' → head_says h' ≡ head-is.Keep k n → v ++ c ≡ v' ++ e → length v' ≡ n → Advanced (reached-is.Complete k) (holding h v d) a h' v' (d - length a) e
advanced_found h v d a h' c v' e k n t w is joins size = record {
  found = λ more. joins_value h v d a h' c v' e t joins more ∙ held_found h' v' k n (d - length a) t.zero size w is (e ++ more);
  none_due = t.zero;
}

pub advanced_value : (h v : List ℕ) (d : ℕ) (a h' c v' e : List ℕ) (k : CapsuleKind) (n : ℕ) → Headed h v d a h' c → frame_need h' ≡ length h' → head_says h' ≡ head-is.Keep k n → v ++ c ≡ v' ++ e → length v' < n → e ≡ [] → Advanced reached-is.More (holding h v d) a h' v' (d - length a) e
advanced_value h v d a h' c v' e k n t w is joins less none = (
  part_value h' v' (d - length a) k n t.zero w is less,
  record { none_left = none; short = inl (short_value h' v' k n (d - length a) t.zero less w is); joins = joins_value h v d a h' c v' e t joins },
)

pub advanced_memory : (h v : List ℕ) (d : ℕ) (a h' c v' e : List ℕ) (k : CapsuleKind) (n : ℕ) → Headed h v d a h' c → frame_need h' ≡ length h' → head_says h' ≡ head-is.Keep k n → v ++ c ≡ v' ++ e → length v' < n → v' ≡ [] → Advanced reached-is.Memory (holding h v d) a h' v' (d - length a) e
advanced_memory h v d a h' c v' e k n t w is joins less none = (
  part_value h' v' (d - length a) k n t.zero w is less,
  record { none_due = t.zero; misses = misses_value h' v' k n w is less; none_held = none_missed h' v' k n w is less none; joins = joins_value h v d a h' c v' e t joins },
)

-- ---- from the parts of a call

pub headed : (head head' v a b c : List ℕ) (d len len' skip_remaining : ℕ) → length head ≡ 16 → length head' ≡ 16 → len ≤ 16 → len' ≤ 16 → len ≤ len' → IsPart (take len head) v d → skip_remaining ≡ d - length a → b ≡ drop d a → skip_remaining ≤ 0 → take len head' ≡ take len head → (frame_need (take len head) ≡ len → (len' ≡ len) × (head' ≡ head)) → take len head ++ b ≡ take len' head' ++ c → Headed (take len head) v d a (take len' head') c
headed head head' v a b c d len len' skip_remaining room room' fits fits' forward part is rest zero front stays joins = record {
  zero = omega arith;
  part = part;
  head = takes_head head head' (drop d a) c len len' (omega arith) (omega arith) forward front stays (rw rest at joins);
}

pub size_of : (head : List ℕ) (len : ℕ) → length head ≡ 16 → len ≤ 16 → length (take len head) ≡ len
size_of head len room fits = omega (arith, length-take len head)

-- ---- the room for a value

pub no_room : (s : CapsuleAnnouncement) (n room : ℕ) → n ≡ 0 → HasRoom s n room
no_room head-is.Unfinished n room e = tt
no_room (head-is.Keep k len) n room e = λ l. absurd (omega arith)
no_room (head-is.Skip len) n room e = tt
no_room head-is.TooLong n room e = tt

-- nothing is held of a type
pub room_new : (h : List ℕ) (n room : ℕ) → h ≡ [] → HasRoom (head_says h) n room
room_new h n room e = let some = frame_need_some [] in rw (e, says_unfinished [] some) tt

-- the room stays while a type and a length are taken
pub room_head : (h v : List ℕ) (d : ℕ) (a h' c : List ℕ) (n room : ℕ) → Headed h v d a h' c → n ≡ length v → HasRoom (head_says h) n room → HasRoom (head_says h') n room
room_head h v d a h' c n room t size r = elim (before h v h' (drop d a) c d t.part t.head) [
  | inl same ↦ rw same r
  | inr none ↦ no_room (head_says h') n room (size ∙ ap length none)
]

-- ---- from call to call

-- the result of a call from a later point is that from an earlier one, whatever was skipped between
pub given_later : (r : Result (Option (CapsuleKind × List ℕ)) CapsuleError) (old mid new : Held) (a b c : List ℕ) → Joins old a mid b → NextGiven r mid b new c → NextGiven r old a new c
given_later (Ok (Some x)) old mid new a b c j g = record { found = λ more. j more ∙ g.found more; empty = g.empty }
given_later (Ok None) old mid new a b c j g = record { none_left = g.none_left; short = g.short; joins = λ more. j more ∙ g.joins more }
given_later (Err error-is.TooLong) old mid new a b c j g = record { found = λ more. j more ∙ g.found more; stays = g.stays }
given_later (Err error-is.Memory) old mid new a b c j g = record { none_due = g.none_due; misses = g.misses; none_held = g.none_held; joins = λ more. j more ∙ g.joins more }
