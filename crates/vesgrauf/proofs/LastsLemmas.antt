-- What steps leave of what the program may count on of the halves of its streams.
use Rattle.std.proofs.Common.{◌≡◌, ◌⊎◌, ◌==◌, ◌++◌, ◌||◌, ℕ, List, [], ◌∷◌, Option, Some, None, Bool, true, false, cond, refl, inl, inr, sym, ap, subst, ◌∙◌}
use Rattle.std.specs.Ordering.{nat_cmp}
use Rattle.std.specs.Map.{set_value}
use Rattle.std.specs.BTreeMap.{is_at}
use Rattle.vesgrauf.specs.declared.entry.Entry.{Entry}
use Rattle.vesgrauf.specs.declared.entry.Told.{Told}
use Rattle.vesgrauf.specs.declared.entry.Told.TheVariants as told
use Rattle.vesgrauf.specs.declared.event.Event.{Event}
use Rattle.vesgrauf.specs.declared.event.EventKind.{EventKind}
use Rattle.vesgrauf.specs.Halves.{Halves, NotKnown, Has, is_sending, reads_by, reads_in, halves_if, halves_in, halves_at, Ending, OfOwn, OfPeer, OfBoth, ending_queued, ending_told, after, after_if, after_told, after_queued, Holds, alone, but_for, Lasts, Turn, Turns, said_by, ends_on, told_by_all, is_on, may_end}
use Rattle.vesgrauf.specs.Own.{own_in, own_at, entry_at}
use Rattle.vesgrauf.specs.State.{knows_of}
use Rattle.vesgrauf.specs.Own.{Own}
use Rattle.vesgrauf.specs.Theirs.{Gone, Unread, theirs_by, theirs_in}
use Rattle.vesgrauf.specs.declared.entry.Peer.{Peer}
use Rattle.vesgrauf.specs.declared.entry.Peer.TheVariants as peer
use Rattle.vesgrauf_stream.specs.declared.reading.Reading.{Reading}
use Rattle.vesgrauf_stream.specs.Reading.{kept_of}
use Rattle.vesgrauf.specs.Streams.{is_known, becomes_known}
use Rattle.std.specs.Prelude.{is_some, if◌then◌else◌}
use Rattle.vesgrauf.specs.declared.connection.Connection.{Connection}
use Rattle.vesgrauf.specs.declared.connection.ids.Ids.{Ids}
use Rattle.vesgrauf.specs.Ids.{was}
use Rattle.vesgrauf.specs.Told.{Sets, Sound, status_in}
use Rattle.vesgrauf.proofs.GoesLemmas.{same_at, set_sets, at_test}
use Rattle.vesgrauf.proofs.HalvesLemmas.{holds_refl, holds_trans, holds_none, never, if_less, if_both, queued_both, said_last, queued_more, told_queued_if, holds_eq, holds_is, alone_both, but_both, alone_twice, alone_if, but_told}

-- ---- steps

pub lasts_refl : (but : Option ℕ) (es : List (ℕ × Entry)) (q : List Event) → Lasts but [] es q es q
lasts_refl but es q = record { holds = λ id h p. p; over = λ id h p. p }

pub lasts_trans : (but : Option ℕ) (said : List Event) (es fs gs : List (ℕ × Entry)) (q r s : List Event)
    → Lasts but [] es q fs r → Lasts but said fs r gs s → Lasts but said es q gs s
lasts_trans but said es fs gs q r s g h = record {
  holds = λ id x p. h.holds id x (g.holds id x p);
  over = λ id x p. h.over id x (g.over id x p);
}

pub lasts_after : (but : Option ℕ) (said : List Event) (es fs gs : List (ℕ × Entry)) (q r s : List Event)
    → Lasts but said es q fs r → Lasts but [] fs r gs s → Lasts but said es q gs s
lasts_after but said es fs gs q r s g h = record {
  holds = λ id x p. after_at id (after_told id said (but_for but id x)) (but_told but id said x) (g.holds id x p);
  over = λ id x p. h.over id (after_told id said x) (g.over id x p);
}
  where
    after_at : (id : ℕ) (y : Halves) → but_for but id y ≡ y → Holds (after_queued id r y) (but_for but id (halves_at fs id))
        → Holds (after_queued id s y) (but_for but id (halves_at gs id))
    after_at id y same p = subst (λ z. Holds (after_queued id s z) (but_for but id (halves_at gs id))) same
        (h.holds id y (subst (λ z. Holds (after_queued id r z) (but_for but id (halves_at fs id))) (sym same) p))

-- no event is told or queued
pub lasts_still : (but : Option ℕ) (es fs : List (ℕ × Entry)) (q : List Event)
    → ((id : ℕ) → Holds (but_for but id (halves_at es id)) (but_for but id (halves_at fs id))) → Lasts but [] es q fs q
lasts_still but es fs q h = record {
  holds = λ id x p. holds_trans (after_queued id q (but_for but id x)) (but_for but id (halves_at es id))
      (but_for but id (halves_at fs id)) p (h id);
  over = λ id x p. p;
}

-- this event is queued
pub lasts_queued : (but : Option ℕ) (es fs : List (ℕ × Entry)) (q : List Event) (ev : Event)
    → ((id : ℕ) → Holds (after_if (ev.stream == id) (ending_queued ev.kind) (but_for but id (halves_at es id)))
    (but_for but id (halves_at fs id)))
    → Lasts but [] es q fs (q ++ (ev ∷ []))
lasts_queued but es fs q ev h = record {
  holds = λ id x p. holds_eq (after_queued id (q ++ (ev ∷ [])) (but_for but id x))
      (after_if (ev.stream == id) (ending_queued ev.kind) (after_queued id q (but_for but id x)))
      (but_for but id (halves_at fs id)) (queued_more id q (ev ∷ []) (but_for but id x))
      (holds_trans (after_if (ev.stream == id) (ending_queued ev.kind) (after_queued id q (but_for but id x)))
      (after_if (ev.stream == id) (ending_queued ev.kind) (but_for but id (halves_at es id)))
      (but_for but id (halves_at fs id))
      (if_both (ev.stream == id) (ending_queued ev.kind) (after_queued id q (but_for but id x))
      (but_for but id (halves_at es id)) p) (h id));
  over = λ id x p. queued_more id q (ev ∷ []) x ∙ (ap (λ y. after_if (ev.stream == id) (ending_queued ev.kind) y) p
      ∙ holds_none (after_if (ev.stream == id) (ending_queued ev.kind) NotKnown)
      (if_less (ev.stream == id) (ending_queued ev.kind) NotKnown));
}

-- this event is told
pub lasts_told : (but : Option ℕ) (es fs : List (ℕ × Entry)) (q : List Event) (ev : Event)
    → ((id : ℕ) → Holds (after_if (ev.stream == id) (ending_told ev.kind) (but_for but id (halves_at es id)))
    (but_for but id (halves_at fs id)))
    → Lasts but (ev ∷ []) es q fs q
lasts_told but es fs q ev h = record {
  holds = λ id x p. holds_eq (after_queued id q (after_if (ev.stream == id) (ending_told ev.kind) (but_for but id x)))
      (after_if (ev.stream == id) (ending_told ev.kind) (after_queued id q (but_for but id x)))
      (but_for but id (halves_at fs id)) (said_last id (ev.stream == id) (ending_told ev.kind) q (but_for but id x))
      (holds_trans (after_if (ev.stream == id) (ending_told ev.kind) (after_queued id q (but_for but id x)))
      (after_if (ev.stream == id) (ending_told ev.kind) (but_for but id (halves_at es id)))
      (but_for but id (halves_at fs id))
      (if_both (ev.stream == id) (ending_told ev.kind) (after_queued id q (but_for but id x))
      (but_for but id (halves_at es id)) p) (h id));
  over = λ id x p. said_last id (ev.stream == id) (ending_told ev.kind) q x
      ∙ (ap (λ y. after_if (ev.stream == id) (ending_told ev.kind) y) p
      ∙ holds_none (after_if (ev.stream == id) (ending_told ev.kind) NotKnown)
      (if_less (ev.stream == id) (ending_told ev.kind) NotKnown));
}

-- ---- events alone

-- what is told and queued says no less than what was queued
pub data Adds : (said q r : List Event) → Type 0 where
  Added : {said q r : List Event}
      → ((id : ℕ) (h : Halves) → Holds (after_queued id r (after_told id said h)) (after_queued id q h)) → Adds said q r

adds_same : (q : List Event) → Adds [] q q
adds_same q = Added (λ id h. holds_refl (after_queued id q h))

pub adds_none : (q r : List Event) → r ≡ q → Adds [] q r
adds_none q r same = subst (λ x. Adds [] q x) (sym same) (adds_same q)

adds_more : (q : List Event) (ev : Event) → Adds [] q (q ++ (ev ∷ []))
adds_more q ev = Added (λ id x. holds_eq (after_queued id (q ++ (ev ∷ [])) x)
    (after_if (ev.stream == id) (ending_queued ev.kind) (after_queued id q x)) (after_queued id q x)
    (queued_more id q (ev ∷ []) x) (if_less (ev.stream == id) (ending_queued ev.kind) (after_queued id q x)))

pub adds_queued : (q r : List Event) (ev : Event) → r ≡ q ++ (ev ∷ []) → Adds [] q r
adds_queued q r ev h = subst (λ x. Adds [] q x) (sym h) (adds_more q ev)

adds_said : (q : List Event) (ev : Event) → Adds (ev ∷ []) q q
adds_said q ev = Added (λ id h. queued_both id q (after_if (ev.stream == id) (ending_told ev.kind) h) h
    (if_less (ev.stream == id) (ending_told ev.kind) h))

pub adds_told : (q r : List Event) (ev : Event) → r ≡ q → Adds (ev ∷ []) q r
adds_told q r ev same = subst (λ x. Adds (ev ∷ []) q x) (sym same) (adds_said q ev)

adds_popped : (r : List Event) (ev said : Event) → said.stream ≡ ev.stream → said.kind ≡ ev.kind
    → Adds (said ∷ []) (ev ∷ r) r
adds_popped r ev said stream kind = Added (λ id x. queued_both id r
    (after_if (said.stream == id) (ending_told said.kind) x) (after_if (ev.stream == id) (ending_queued ev.kind) x)
    (popped_at id x said.stream ev.stream said.kind ev.kind stream kind))
  where
    popped_at : (id : ℕ) (x : Halves) (m n : ℕ) (j k : EventKind) → m ≡ n → j ≡ k
        → Holds (after_if (m == id) (ending_told j) x) (after_if (n == id) (ending_queued k) x)
    popped_at id x m n j k g h = rw (g, h) (told_queued_if (n == id) k x)

pub adds_first : (q r : List Event) (ev said : Event) → q ≡ ev ∷ r → said.stream ≡ ev.stream → said.kind ≡ ev.kind
    → Adds (said ∷ []) q r
adds_first q r ev said h stream kind = subst (λ x. Adds (said ∷ []) x r) (sym h) (adds_popped r ev said stream kind)

none_if : (b : Bool) (w : Option Ending) (h : Halves) → w ≡ None → Holds h (after_if b w h)
none_if true w h n = rw n (holds_refl h)
none_if false w h n = holds_refl h

-- an event of the queue that ends nothing is dropped
pub adds_dropped : (q r : List Event) (ev : Event) → q ≡ ev ∷ r → ending_queued ev.kind ≡ None → Adds [] q r
adds_dropped q r ev h n = subst (λ x. Adds [] x r) (sym h) (Added (λ id x. queued_both id r x
    (after_if (ev.stream == id) (ending_queued ev.kind) x) (none_if (ev.stream == id) (ending_queued ev.kind) x n)))

-- no stream changes
pub lasts_adds : (but : Option ℕ) {said q r : List Event} (es : List (ℕ × Entry)) → Adds said q r
    → Lasts but said es q es r
lasts_adds but {said} {q} {r} es (Added a) = record {
  holds = λ id x p. holds_trans (after_queued id r (after_told id said (but_for but id x)))
      (after_queued id q (but_for but id x)) (but_for but id (halves_at es id)) (a id (but_for but id x)) p;
  over = λ id x p. holds_none (after_queued id r (after_told id said x))
      (subst (λ z. Holds (after_queued id r (after_told id said x)) z) p (a id x));
}

-- ---- one stream changes

for_set : (b : Bool) (x y z : Halves) → (b ≡ true → x ≡ z) → Holds z y → Holds x (cond b y x)
for_set true x y z same h = holds_eq x z y (same refl) h
for_set false x y z same h = holds_refl x

halves_set : (es fs : List (ℕ × Entry)) (id k : ℕ) (w : Option Entry) → Sets id w es fs
    → halves_at fs k ≡ cond (is_at (nat_cmp id) k) (halves_in w) (halves_at es k)
halves_set es fs id k w sets = ap halves_in (sets k) ∙ of_cond (is_at (nat_cmp id) k) w (entry_at es k)
  where
    of_cond : (b : Bool) (x y : Option Entry) → halves_in (cond b x y) ≡ cond b (halves_in x) (halves_in y)
    of_cond true x y = refl
    of_cond false x y = refl

-- its halves are no less than they were
pub lasts_sets : (but : Option ℕ) (es fs : List (ℕ × Entry)) (q : List Event) (id : ℕ) (w : Option Entry) → Sets id w es fs
    → Holds (halves_at es id) (halves_in w) → Lasts but [] es q fs q
lasts_sets but es fs q id w sets h = lasts_still but es fs q
    (λ k. but_both but k (halves_at es k) (halves_at fs k) (holds_is (halves_at es k)
    (cond (is_at (nat_cmp id) k) (halves_in w) (halves_at es k)) (halves_at fs k) (halves_set es fs id k w sets)
    (for_set (is_at (nat_cmp id) k) (halves_at es k) (halves_in w) (halves_at es id)
    (λ at. ap (λ n. halves_at es n) (same_at id k at)) h)))

-- the program does not know of it, or its halves are what they were
abbrev pub IsLasting : Option Entry → Option Entry → Type 0
IsLasting x y = (knows_of x ≡ false) ⊎ ((own_in y ≡ own_in x) × (reads_in y ≡ reads_in x))

same_known : (o : Option Entry) (f : Entry) → status_in o ≡ Some f.told → knows_of (Some f) ≡ knows_of o
same_known None f h = absurd (let bad : None ≡ Some f.told = h in cc)
same_known (Some e) f h = ap is_known (let p : f.told ≡ e.told = cc in p)

has_entry : (o : Option Entry) (t : Told) → status_in o ≡ Some t → (e : Entry) × (o ≡ Some e)
has_entry None t h = absurd (let bad : None ≡ Some t = h in cc)
has_entry (Some e) t h = (e, refl)

unknown_is : (o : Option Entry) → knows_of o ≡ false → halves_in o ≡ NotKnown
unknown_is o n = ap (λ b. halves_if b (own_in o) (reads_in o)) n

-- of a stream that is not known nothing is counted on
pub holds_unknown : (o : Option Entry) (y : Halves) → knows_of o ≡ false → Holds (halves_in o) y
holds_unknown o y n = holds_eq (halves_in o) NotKnown y (unknown_is o n) tt

halves_same : (a b : Bool) (x y : Own) (r s : Bool) → b ≡ a → y ≡ x → s ≡ r
    → Holds (halves_if a x r) (halves_if b y s)
halves_same a b x y r s h g k = rw (h, g, k) (holds_refl (halves_if a x r))

holds_lasting : (x : Option Entry) (f : Entry) → status_in x ≡ Some f.told → IsLasting x (Some f)
    → Holds (halves_in x) (halves_in (Some f))
holds_lasting x f t (inl n) = holds_unknown x (halves_in (Some f)) n
holds_lasting x f t (inr s) = halves_same (knows_of x) (knows_of (Some f)) (own_in x) (own_in (Some f)) (reads_in x)
    (reads_in (Some f)) (same_known x f t) s.0 s.1

-- of one stream the program knows what it knew, and its halves are what they were
pub lasts_set : (but : Option ℕ) (es : List (ℕ × Entry)) (q : List Event) (id : ℕ) (f : Entry)
    → status_in (entry_at es id) ≡ Some f.told → IsLasting (entry_at es id) (Some f)
    → Lasts but [] es q (set_value (is_at (nat_cmp id)) es f) q
lasts_set but es q id f t l =
    let e = has_entry (entry_at es id) f.told t in
    lasts_sets but es (set_value (is_at (nat_cmp id)) es f) q id (Some f) (set_sets es id e.0 f e.1)
    (holds_lasting (entry_at es id) f t l)

-- ---- of one stream nothing is said of its halves

alone_same : (a b : Bool) (x y : Own) (r s : Bool) → b ≡ a → Holds (alone (halves_if a x r)) (alone (halves_if b y s))
alone_same true true x y r s h = (λ p. p, λ p. p)
alone_same false b x y r s h = tt
alone_same true false x y r s h = absurd (let bad : false ≡ true = h in cc)

for_alone : (b : Bool) (x y z : Halves) → (b ≡ true → x ≡ z) → Holds (alone z) (alone y)
    → Holds (cond b (alone x) x) (cond b (alone (cond b y x)) (cond b y x))
for_alone true x y z same h = holds_eq (alone x) (alone z) (alone y) (ap alone (same refl)) h
for_alone false x y z same h = holds_refl x

pub lasts_but_set : (es : List (ℕ × Entry)) (q : List Event) (id : ℕ) (f : Entry)
    → status_in (entry_at es id) ≡ Some f.told → Lasts (Some id) [] es q (set_value (is_at (nat_cmp id)) es f) q
lasts_but_set es q id f t =
    let e = has_entry (entry_at es id) f.told t in
    let fs : List (ℕ × Entry) = set_value (is_at (nat_cmp id)) es f in
    lasts_still (Some id) es fs q (λ k. subst (λ z. Holds (but_for (Some id) k (halves_at es k)) (but_for (Some id) k z))
    (sym (halves_set es fs id k (Some f) (set_sets es id e.0 f e.1)))
    (for_alone (is_at (nat_cmp id) k) (halves_at es k) (halves_in (Some f)) (halves_at es id)
    (λ at. ap (λ n. halves_at es n) (same_at id k at))
    (alone_same (knows_of (entry_at es id)) (knows_of (Some f)) (own_at es id) (own_in (Some f)) (reads_in (entry_at es id))
    (reads_in (Some f)) (same_known (entry_at es id) f t))))

alone_less : (h : Halves) → Holds (alone h) h
alone_less NotKnown = tt
alone_less (Has s r) = (never s, never r)

alone_queued : (id : ℕ) (q : List Event) (h : Halves) → alone h ≡ h → alone (after_queued id q h) ≡ after_queued id q h
alone_queued id [] h p = p
alone_queued id (e ∷ es) h p = alone_queued id es (after_if (e.stream == id) (ending_queued e.kind) h)
    (alone_if (e.stream == id) (ending_queued e.kind) h p)

weak_by : (b : Bool) (id : ℕ) (q r : List Event) (h x y : Halves)
    → ((g : Halves) → Holds (after_queued id q g) x → Holds (after_queued id r g) y)
    → Holds (after_queued id q (cond b (alone h) h)) (cond b (alone x) x)
    → Holds (after_queued id r (cond b (alone h) h)) (cond b (alone y) y)
weak_by true id q r h x y g p =
    let less : Holds (after_queued id r (alone h)) y =
    g (alone h) (holds_trans (after_queued id q (alone h)) (alone x) x p (alone_less x)) in
    let both : Holds (alone (after_queued id r (alone h))) (alone y) = alone_both (after_queued id r (alone h)) y less in
    subst (λ z. Holds z (alone y)) (alone_queued id r (alone h) (alone_twice h)) both
weak_by false id q r h x y g p = g h p

-- what lasts of all streams does of all but one
pub lasts_weak : (id : ℕ) (es fs : List (ℕ × Entry)) (q r : List Event) → Lasts None [] es q fs r
    → Lasts (Some id) [] es q fs r
lasts_weak id es fs q r g = record {
  holds = λ k h p. weak_by (is_at (nat_cmp id) k) k q r h (halves_at es k) (halves_at fs k) (λ x p. g.holds k x p) p;
  over = λ k h p. g.over k h p;
}

unknown_by : (b : Bool) (id : ℕ) (q r : List Event) (h x y : Halves) → (b ≡ true → x ≡ NotKnown)
    → (after_queued id q h ≡ NotKnown → after_queued id r h ≡ NotKnown)
    → (Holds (after_queued id q (cond b (alone h) h)) (cond b (alone x) x)
    → Holds (after_queued id r (cond b (alone h) h)) (cond b (alone y) y))
    → Holds (after_queued id q h) x → Holds (after_queued id r h) y
unknown_by true id q r h x y n o g p =
    let none : Holds (after_queued id q h) NotKnown = subst (λ z. Holds (after_queued id q h) z) (n refl) p in
    holds_eq (after_queued id r h) NotKnown y (o (holds_none (after_queued id q h) none)) tt
unknown_by false id q r h x y n o g p = g p

unknown_at : (es : List (ℕ × Entry)) (id k : ℕ) → knows_of (entry_at es id) ≡ false → is_at (nat_cmp id) k ≡ true
    → halves_at es k ≡ NotKnown
unknown_at es id k n at = ap (λ m. halves_at es m) (same_at id k at) ∙ unknown_is (entry_at es id) n

-- and of that one, too, if the program does not know of it
pub lasts_unknown : (id : ℕ) (es fs : List (ℕ × Entry)) (q r : List Event) → knows_of (entry_at es id) ≡ false
    → Lasts (Some id) [] es q fs r → Lasts None [] es q fs r
lasts_unknown id es fs q r n g = record {
  holds = λ k h p. unknown_by (is_at (nat_cmp id) k) k q r h (halves_at es k) (halves_at fs k)
      (λ at. unknown_at es id k n at) (λ o. g.over k h o) (λ x. g.holds k h x) p;
  over = λ k h p. g.over k h p;
}

-- ---- one stream becomes known

known_lasting : (p t : Told) (x y : Own) (r s : Bool) → t ≡ becomes_known p → y ≡ x → s ≡ r
    → Holds (halves_if (is_known p) x r) (halves_if (is_known t) y s)
known_lasting told.NotYet t x y r s h g k = tt
known_lasting told.Known t x y r s h g k = halves_same true (is_known t) x y r s (ap is_known h) g k
known_lasting told.Over t x y r s h g k = tt

pub lasts_known : (but : Option ℕ) (es : List (ℕ × Entry)) (q : List Event) (id : ℕ) (e f : Entry) → entry_at es id ≡ Some e
    → f.told ≡ becomes_known e.told → own_in (Some f) ≡ own_in (Some e) → reads_in (Some f) ≡ reads_in (Some e)
    → Lasts but [] es q (set_value (is_at (nat_cmp id)) es f) q
lasts_known but es q id e f h t o r =
    lasts_sets but es (set_value (is_at (nat_cmp id)) es f) q id (Some f) (set_sets es id e f h)
    (subst (λ v. Holds (halves_in v) (halves_in (Some f))) (sym h)
    (known_lasting e.told f.told (own_in (Some e)) (own_in (Some f)) (reads_in (Some e)) (reads_in (Some f)) t o r))

-- ---- an event of a stream that changes

for_event : (b c : Bool) (w : Option Ending) (x y z : Halves) → c ≡ b → (b ≡ true → x ≡ z) → Holds (after w z) y
    → Holds (after_if c w x) (cond b y x)
for_event true true w x y z at same h = holds_eq (after w x) (after w z) y (ap (λ v. after w v) (same refl)) h
for_event true false w x y z at same h = absurd (let bad : false ≡ true = at in cc)
for_event false true w x y z at same h = absurd (let bad : true ≡ false = at in cc)
for_event false false w x y z at same h = holds_refl x

event_sets : (es fs : List (ℕ × Entry)) (ev : Event) (w : Option Ending) (v : Option Entry) (k : ℕ) → Sets ev.stream v es fs
    → Holds (after w (halves_at es ev.stream)) (halves_in v)
    → Holds (after_if (ev.stream == k) w (halves_at es k)) (halves_at fs k)
event_sets es fs ev w v k sets h = holds_is (after_if (ev.stream == k) w (halves_at es k))
    (cond (is_at (nat_cmp ev.stream) k) (halves_in v) (halves_at es k)) (halves_at fs k)
    (halves_set es fs ev.stream k v sets)
    (for_event (is_at (nat_cmp ev.stream) k) (ev.stream == k) w (halves_at es k) (halves_in v) (halves_at es ev.stream)
    (at_test ev.stream k) (λ at. ap (λ n. halves_at es n) (same_at ev.stream k at)) h)

pub lasts_queued_set : (es : List (ℕ × Entry)) (q : List Event) (ev : Event) (e f : Entry) → entry_at es ev.stream ≡ Some e
    → Holds (after (ending_queued ev.kind) (halves_in (Some e))) (halves_in (Some f))
    → Lasts None [] es q (set_value (is_at (nat_cmp ev.stream)) es f) (q ++ (ev ∷ []))
lasts_queued_set es q ev e f h k = lasts_queued None es (set_value (is_at (nat_cmp ev.stream)) es f) q ev
    (λ n. event_sets es (set_value (is_at (nat_cmp ev.stream)) es f) ev (ending_queued ev.kind) (Some f) n
    (set_sets es ev.stream e f h) (subst (λ o. Holds (after (ending_queued ev.kind) (halves_in o)) (halves_in (Some f))) (sym h) k))

pub lasts_told_set : (es : List (ℕ × Entry)) (q : List Event) (ev : Event) (e f : Entry) → entry_at es ev.stream ≡ Some e
    → Holds (after (ending_told ev.kind) (halves_in (Some e))) (halves_in (Some f))
    → Lasts None (ev ∷ []) es q (set_value (is_at (nat_cmp ev.stream)) es f) q
lasts_told_set es q ev e f h k = lasts_told None es (set_value (is_at (nat_cmp ev.stream)) es f) q ev
    (λ n. event_sets es (set_value (is_at (nat_cmp ev.stream)) es f) ev (ending_told ev.kind) (Some f) n
    (set_sets es ev.stream e f h) (subst (λ o. Holds (after (ending_told ev.kind) (halves_in o)) (halves_in (Some f))) (sym h) k))

after_closed : (x y : Halves) → Holds (after (Some OfBoth) x) y
after_closed NotKnown y = tt
after_closed (Has s r) y = tt

-- after the last event of a stream nothing is said of it
pub holds_closed : (w : Option Ending) (x y : Halves) → w ≡ Some OfBoth → Holds (after w x) y
holds_closed w x y h = holds_eq (after w x) (after (Some OfBoth) x) y (ap (λ u. after u x) h) (after_closed x y)

own_by : (a b : Bool) (x y : Own) (r s : Bool) → b ≡ a → s ≡ r
    → Holds (after (Some OfOwn) (halves_if a x r)) (halves_if b y s)
own_by true true x y r s n h = (never (is_sending y), λ p. h ∙ p)
own_by true false x y r s n h = absurd (let bad : false ≡ true = n in cc)
own_by false b x y r s n h = tt

peer_by : (a b : Bool) (x y : Own) (r s : Bool) → b ≡ a → y ≡ x
    → Holds (after (Some OfPeer) (halves_if a x r)) (halves_if b y s)
peer_by true true x y r s n h = (λ p. ap is_sending h ∙ p, never s)
peer_by true false x y r s n h = absurd (let bad : false ≡ true = n in cc)
peer_by false b x y r s n h = tt

-- by what an event says
pub holds_by_word : (v w : Option Ending) (x y : Halves) → v ≡ w → Holds (after w x) y → Holds (after v x) y
holds_by_word v w x y e h = holds_eq (after v x) (after w x) y (ap (λ u. after u x) e) h

-- a stream is said to be stopped, and its own half ends
pub holds_stopped : (e f : Entry) → f.told ≡ e.told → reads_in (Some f) ≡ reads_in (Some e)
    → Holds (after (Some OfOwn) (halves_in (Some e))) (halves_in (Some f))
holds_stopped e f t r = own_by (is_known e.told) (is_known f.told) (own_in (Some e)) (own_in (Some f)) (reads_in (Some e))
    (reads_in (Some f)) (ap is_known t) r

-- the peer's half is said to end, and ends
pub holds_ended : (e f : Entry) → f.told ≡ e.told → own_in (Some f) ≡ own_in (Some e)
    → Holds (after (Some OfPeer) (halves_in (Some e))) (halves_in (Some f))
holds_ended e f t o = peer_by (is_known e.told) (is_known f.told) (own_in (Some e)) (own_in (Some f)) (reads_in (Some e))
    (reads_in (Some f)) (ap is_known t) o

-- ---- a half that is read

pub reads_gone : (o : Option Entry) → theirs_in o ≡ Gone → reads_in o ≡ false
reads_gone None h = refl
reads_gone (Some e) h = gone_by e.peer e.is_decoder e.reading h
  where
    gone_by : (p : Peer) (b : Bool) (r : Reading) → theirs_by p b r ≡ Gone → reads_by p b ≡ false
    gone_by peer.Reads true r h = refl
    gone_by peer.Reads false r h = absurd (let bad : Unread (kept_of r) r.ended r.stream ≡ Gone = h in cc)
    gone_by other b r h = refl

-- ---- a stream comes to be

others_sets : (es fs : List (ℕ × Entry)) (id : ℕ) (e : Entry) → entry_at fs id ≡ Some e
    → ((k : ℕ) → is_at (nat_cmp id) k ≡ false → entry_at fs k ≡ entry_at es k) → Sets id (Some e) es fs
others_sets es fs id e here there k = by_test (is_at (nat_cmp id) k) refl
  where
    by_test : (b : Bool) → is_at (nat_cmp id) k ≡ b → entry_at fs k ≡ cond b (Some e) (entry_at es k)
    by_test true t = ap (λ n. entry_at fs n) (same_at id k t) ∙ here
    by_test false t = there k t

none_there : (o : Option Entry) → (is_some o ≡ true → ⊥) → o ≡ None
none_there None h = refl
none_there (Some e) h = absurd (h refl)

-- there is none of which the ID was not seen
pub not_there : (es : List (ℕ × Entry)) (ids : Ids) (id : ℕ) → Sound es ids → was ids id ≡ false → entry_at es id ≡ None
not_there es ids id s n = none_there (entry_at es id)
    (λ have. let on : was ids id ≡ true = s.were id have in let bad : true ≡ false = sym on ∙ n in cc)

pub lasts_insert : (but : Option ℕ) (ids : Ids) (es fs : List (ℕ × Entry)) (q : List Event) (id : ℕ) (e : Entry)
    → was ids id ≡ false → entry_at fs id ≡ Some e
    → ((k : ℕ) → is_at (nat_cmp id) k ≡ false → entry_at fs k ≡ entry_at es k) → Sound es ids
    → Lasts but [] es q fs q
lasts_insert but ids es fs q id e n here there s = lasts_sets but es fs q id (Some e) (others_sets es fs id e here there)
    (subst (λ o. Holds (halves_in o) (halves_in (Some e))) (sym (not_there es ids id s n)) tt)

-- ---- runs

told_more : (id : ℕ) (said more : List Event) (h : Halves)
    → after_told id (said ++ more) h ≡ after_told id more (after_told id said h)
told_more id [] more h = refl
told_more id (e ∷ es) more h = told_more id es more (after_if (e.stream == id) (ending_told e.kind) h)

queued_less : (id : ℕ) (q : List Event) (h : Halves) → Holds (after_queued id q h) h
queued_less id [] h = holds_refl h
queued_less id (e ∷ es) h = holds_trans (after_queued id es (after_if (e.stream == id) (ending_queued e.kind) h))
    (after_if (e.stream == id) (ending_queued e.kind) h) h
    (queued_less id es (after_if (e.stream == id) (ending_queued e.kind) h))
    (if_less (e.stream == id) (ending_queued e.kind) h)

not_first : (a b : Bool) → (a || b) ≡ false → (a ≡ false) × (b ≡ false)
not_first true b h = absurd (let bad : true ≡ false = h in cc)
not_first false b h = (refl, h)

-- of a stream that the call is not on
all_of : (but : Option ℕ) (id : ℕ) (h : Halves) → is_on id but ≡ false → but_for but id h ≡ h
all_of None id h n = refl
all_of (Some k) id h n = ap (λ b. if b then alone h else h) n

lasts_at : (but : Option ℕ) (said : List Event) (es fs : List (ℕ × Entry)) (q r : List Event) (id : ℕ) (h : Halves)
    → is_on id but ≡ false → Lasts but said es q fs r → Holds (after_queued id q h) (halves_at es id)
    → Holds (after_queued id r (after_told id said h)) (halves_at fs id)
lasts_at but said es fs q r id h n l p =
    subst (λ x. Holds (after_queued id r (after_told id said h)) x) (all_of but id (halves_at fs id) n)
    (subst (λ x. Holds (after_queued id r (after_told id said x)) (but_for but id (halves_at fs id))) (all_of but id h n)
    (l.holds id h (subst (λ x. Holds (after_queued id q (but_for but id h)) x) (sym (all_of but id (halves_at es id) n))
    (subst (λ x. Holds (after_queued id q x) (halves_at es id)) (sym (all_of but id h n)) p))))

go_on : (turns : List Turn) (c d : Connection) → Sound c.streams.entries c.ids → Turns turns c d → (id : ℕ)
    → may_end id turns ≡ false → (h : Halves) → Holds (after_queued id c.events.items h) (halves_at c.streams.entries id)
    → Holds (after_queued id d.events.items (after_told id (told_by_all turns) h)) (halves_at d.streams.entries id)
go_on [] c d s r id n h p = subst (λ e. Holds (after_queued id e.events.items h) (halves_at e.streams.entries id)) (sym r) p
go_on (t ∷ turns) c d s r id n h p =
    let m : Connection = r.0 in
    let off = not_first (is_on id (ends_on t)) (may_end id turns) n in
    subst (λ x. Holds (after_queued id d.events.items x) (halves_at d.streams.entries id))
    (sym (told_more id (said_by t) (told_by_all turns) h))
    (go_on turns m d (r.1.goes.sound s) r.2 id off.1 (after_told id (said_by t) h)
    (lasts_at (ends_on t) (said_by t) c.streams.entries m.streams.entries c.events.items m.events.items id h off.0
    (r.1.lasts s) p))

pub halves_go_on : (turns : List Turn) (c d : Connection) → Sound c.streams.entries c.ids → Turns turns c d → (id : ℕ)
    → may_end id turns ≡ false
    → Holds (after_queued id d.events.items (after_told id (told_by_all turns) (halves_at c.streams.entries id)))
    (halves_at d.streams.entries id)
halves_go_on turns c d s r id n = go_on turns c d s r id n (halves_at c.streams.entries id)
    (queued_less id c.events.items (halves_at c.streams.entries id))
