-- What is told of the streams of a connection.
use Rattle.std.proofs.Common.{◌≡◌, ◌⊎◌, ◌==◌, ◌++◌, ℕ, List, [], ◌∷◌, Option, None, Some, Bool, true, false, cond, refl, arith, inl, inr, sym, ap, subst, ◌∙◌, append_assoc}
use Rattle.std.specs.Prelude.{is_some}
use Rattle.std.specs.Ordering.{nat_cmp}
use Rattle.std.specs.Map.{set_value}
use Rattle.std.specs.BTreeMap.{is_at}
use Rattle.std.proofs.lemmas.Map.{lookup-set_value}
use Rattle.std.proofs.lemmas.Cmp.{eq_by_cmp_equiv, nat_cmp_total}
use Rattle.vesgrauf.specs.declared.entry.Told.{Told}
use Rattle.vesgrauf.specs.declared.entry.Told.TheVariants as told
use Rattle.vesgrauf.specs.declared.entry.Entry.{Entry}
use Rattle.vesgrauf.specs.declared.event.EventKind.{EventKind}
use Rattle.vesgrauf.specs.declared.event.Event.{Event}
use Rattle.vesgrauf.specs.declared.connection.Connection.{Connection}
use Rattle.vesgrauf.specs.declared.connection.Step.TheVariants as step
use Rattle.vesgrauf.specs.declared.connection.ids.Ids.{Ids}
use Rattle.vesgrauf.specs.Ids.{was}
use Rattle.vesgrauf.specs.Members.{is_member, session_in}
use Rattle.vesgrauf.specs.Own.{entry_at}
use Rattle.vesgrauf.specs.State.{told_on, knows_of, IsStill}
use Rattle.vesgrauf.specs.Streams.{is_known, becomes_known, shown_session, is_told_over}
use Rattle.vesgrauf.specs.Told.{Sets, Word, Says, Fails, Closes, word_of, ends, on_by, on, after, Stays, Path, status_by, status_in, status_at, Sound, Goes, GoesOn, said_in}

-- ---- one stream

on_by_both : (w : Option Word) (b : Bool) (xs ys : List Word) → on_by w b (xs ++ ys) ≡ on_by w b xs ++ ys
on_by_both None b xs ys = refl
on_by_both (Some w) true xs ys = refl
on_by_both (Some w) false xs ys = refl

on_both : (id : ℕ) (xs ys : List Event) → on id (xs ++ ys) ≡ on id xs ++ on id ys
on_both id [] ys = refl
on_both id (e ∷ xs) ys = rw (on_both id xs ys) (on_by_both (word_of e.kind) (e.stream == id) (on id xs) (on id ys))

pub stays_refl : (p : Told) → Stays p p
stays_refl told.NotYet = tt
stays_refl told.Known = refl
stays_refl told.Over = refl

stays_trans : (p q r : Told) → Stays p q → Stays q r → Stays p r
stays_trans told.NotYet q r g h = tt
stays_trans told.Known q r g h = rw g at h
stays_trans told.Over q r g h = rw g at h

-- what leads on from anywhere leads on from where the program knows nothing of the stream
pub path_from : (ws : List Word) (p q : Told) → Path p ws q → Path told.NotYet ws q
path_from [] p q h = tt
path_from (Says ∷ ws) p q h = (refl, h.1)
path_from (Fails ∷ ws) p q h = (refl, path_from ws p q h.1)
path_from (Closes ∷ ws) p q h = (refl, h.1)

pub path_join : (p : Told) (xs : List Word) (r : Told) (ys : List Word) (q : Told)
    → Path p xs r → Path r ys q → Path p (xs ++ ys) q
path_join told.NotYet [] r ys q g h = path_from ys r q h
path_join told.Known [] r ys q g h = rw g at h
path_join told.Over [] r ys q g h = rw g at h
path_join p (w ∷ xs) r ys q g h = (g.0, path_join (after w p) xs r ys q g.1 h)

pub path_cut : (p : Told) (xs ys : List Word) (q : Told) → Path p (xs ++ ys) q → (r : Told) × Path p xs r × Path r ys q
path_cut p [] ys q h = (p, stays_refl p, h)
path_cut p (w ∷ xs) ys q h =
    let rest = path_cut (after w p) xs ys q h.1 in (rest.0, (h.0, rest.1), rest.2)

path_last : (p : Told) (ws : List Word) (q r : Told) → Path p ws q → Stays q r → Path p ws r
path_last p [] q r g h = stays_trans p q r g h
path_last p (w ∷ ws) q r g h = (g.0, path_last (after w p) ws q r g.1 h)

pub path_known : (ws : List Word) (p : Told) → Path p ws told.Known → Path told.Known ws told.Known
path_known [] p h = refl
path_known (Says ∷ ws) p h = (refl, h.1)
path_known (Fails ∷ ws) p h = (refl, path_known ws p h.1)
path_known (Closes ∷ ws) p h = (refl, h.1)

not_over : (p : Told) (ws : List Word) → Path p ws told.Known → is_told_over p ≡ false
not_over told.NotYet ws h = refl
not_over told.Known ws h = refl
not_over told.Over [] h = absurd (let bad : told.Known ≡ told.Over = h in cc)
not_over told.Over (w ∷ ws) h = absurd (let bad : true ≡ false = h.0 in cc)

-- a word that is not the last, of a stream that is known, may come before the others
path_first : (w : Word) (p : Told) (ws : List Word) → ends (Some w) ≡ false → Path p ws told.Known
    → Path p (w ∷ ws) told.Known
path_first Says p ws n h = (not_over p ws h, path_known ws p h)
path_first Fails p ws n h = (not_over p ws h, h)
path_first Closes p ws n h = absurd (let bad : true ≡ false = n in cc)

-- ---- steps

pub goes_refl : (es : List (ℕ × Entry)) (ids : Ids) (q : List Event) → Goes [] es ids q es ids q
goes_refl es ids q = record { seen = λ id h. h; sound = λ s. s; told = λ s id p h. h }

-- what is told first
pub goes_then : (said more : List Event) (es fs gs : List (ℕ × Entry)) (ids jds kds : Ids) (q r s : List Event)
    → Goes said es ids q fs jds r → Goes more fs jds r gs kds s → Goes (said ++ more) es ids q gs kds s
goes_then said more es fs gs ids jds kds q r s g h = record {
  seen = λ id w. h.seen id (g.seen id w);
  sound = λ x. h.sound (g.sound x);
  told = λ x id p a.
      let whole : Path p (on id said ++ on id r) (status_at fs jds id) = rw (sym (on_both id said r)) (g.told x id p a) in
      let cut = path_cut p (on id said) (on id r) (status_at fs jds id) whole in
      let rest : Path cut.0 (on id (more ++ s)) (status_at gs kds id) = h.told (g.sound x) id cut.0 cut.2 in
      let both : Path p (on id said ++ on id (more ++ s)) (status_at gs kds id) =
      path_join p (on id said) cut.0 (on id (more ++ s)) (status_at gs kds id) cut.1 rest in
      rw (append_assoc said more s, on_both id said (more ++ s)) both;
}

-- what is told first, and nothing after it
pub goes_after : (said : List Event) (es fs gs : List (ℕ × Entry)) (ids jds kds : Ids) (q r s : List Event)
    → Goes said es ids q fs jds r → Goes [] fs jds r gs kds s → Goes said es ids q gs kds s
goes_after said es fs gs ids jds kds q r s g h = record {
  seen = λ id w. h.seen id (g.seen id w);
  sound = λ x. h.sound (g.sound x);
  told = λ x id p a.
      let whole : Path p (on id said ++ on id r) (status_at fs jds id) = rw (sym (on_both id said r)) (g.told x id p a) in
      let cut = path_cut p (on id said) (on id r) (status_at fs jds id) whole in
      let rest : Path cut.0 (on id s) (status_at gs kds id) = h.told (g.sound x) id cut.0 cut.2 in
      let both : Path p (on id said ++ on id s) (status_at gs kds id) =
      path_join p (on id said) cut.0 (on id s) (status_at gs kds id) cut.1 rest in
      rw (on_both id said s) both;
}

-- nothing is told or queued
pub by_none : (es fs : List (ℕ × Entry)) (ids jds : Ids) (q : List Event)
    → ((id : ℕ) → was ids id ≡ true → was jds id ≡ true)
    → (Sound es ids → Sound fs jds) → (Sound es ids → (id : ℕ) → Stays (status_at es ids id) (status_at fs jds id))
    → Goes [] es ids q fs jds q
by_none es fs ids jds q seen s h = record {
  seen = seen;
  sound = s;
  told = λ x id p g. path_last p (on id q) (status_at es ids id) (status_at fs jds id) g (h x id);
}

-- these events are queued
by_some : (es fs : List (ℕ × Entry)) (ids jds : Ids) (q more : List Event)
    → ((id : ℕ) → was ids id ≡ true → was jds id ≡ true)
    → (Sound es ids → Sound fs jds)
    → (Sound es ids → (id : ℕ) → Path (status_at es ids id) (on id more) (status_at fs jds id))
    → Goes [] es ids q fs jds (q ++ more)
by_some es fs ids jds q more seen s h = record {
  seen = seen;
  sound = s;
  told = λ x id p g. rw (on_both id q more)
      (path_join p (on id q) (status_at es ids id) (on id more) (status_at fs jds id) g (h x id));
}

-- ---- one stream changes

pub same_at : (id k : ℕ) → is_at (nat_cmp id) k ≡ true → k ≡ id
same_at id k h = grind (arith, h)

other_at : (id k : ℕ) → is_at (nat_cmp id) k ≡ false → (id == k) ≡ false
other_at id k h = grind (arith, h)

itself : (id : ℕ) → (id == id) ≡ true
itself id = grind arith

pub set_sets : (es : List (ℕ × Entry)) (id : ℕ) (e f : Entry) → entry_at es id ≡ Some e
    → Sets id (Some f) es (set_value (is_at (nat_cmp id)) es f)
set_sets es id e f h k = lookup-set_value (eq_by_cmp_equiv nat_cmp_total) (is_at (nat_cmp id))
    (λ x y at. rw (same_at id x at) refl) k f es (rw h refl)

same_by : (b : Bool) (o : Option Entry) (w : Option Entry) → (b ≡ true → o ≡ w) → o ≡ cond b w o
same_by true o w h = h refl
same_by false o w h = refl

-- no entry changes
pub same_sets : (es : List (ℕ × Entry)) (id : ℕ) → Sets id (entry_at es id) es es
same_sets es id k = same_by (is_at (nat_cmp id) k) (entry_at es k) (entry_at es id) (λ at. rw (same_at id k at) refl)

stays_by : (b : Bool) (e w : Option Entry) (seen : Bool) → (b ≡ true → Stays (status_by e seen) (status_by w seen))
    → Stays (status_by e seen) (status_by (cond b w e) seen)
stays_by true e w seen h = h refl
stays_by false e w seen h = stays_refl (status_by e seen)

stays_at : (es : List (ℕ × Entry)) (ids : Ids) (id k : ℕ) (w : Option Entry)
    → Stays (status_at es ids id) (status_by w (was ids id)) → is_at (nat_cmp id) k ≡ true
    → Stays (status_at es ids k) (status_by w (was ids k))
stays_at es ids id k w h at = rw (same_at id k at) h

some_by : (b : Bool) (e : Option Entry) (w : Option Entry) (seen : Bool)
    → (b ≡ true → is_some w ≡ true → seen ≡ true) → (is_some e ≡ true → seen ≡ true)
    → is_some (cond b w e) ≡ true → seen ≡ true
some_by true e w seen g h s = g refl s
some_by false e w seen g h s = h s

some_at : (ids : Ids) (id k : ℕ) (w : Option Entry) → (is_some w ≡ true → was ids id ≡ true)
    → is_at (nat_cmp id) k ≡ true → is_some w ≡ true → was ids k ≡ true
some_at ids id k w h at s = rw (same_at id k at) (h s)

-- what the program knows of a stream, its session, and whether it may be cancelled
pub record Standing : Type 0 where
  pub told : Told
  pub session : Option ℕ
  pub may_cancel : Bool

abbrev pub standing_of : Entry → Standing
standing_of e = record { told = e.told; session = e.session; may_cancel = e.may_cancel }

abbrev pub standing_in : Option Entry → Option Standing
standing_in None = None
standing_in (Some e) = Some (standing_of e)

-- a stream has the session that another one had, or is noted as one of its own
abbrev pub IsLinked : Ids → ℕ → Entry → Option Entry → Type 0
IsLinked ids id e w = (s : ℕ) → session_in w ≡ Some s → (e.session ≡ Some s) ⊎ (is_member ids s id ≡ true)

linked_some : (es : List (ℕ × Entry)) (ids : Ids) (id s : ℕ) (e : Entry) → entry_at es id ≡ Some e → Sound es ids
    → (e.session ≡ Some s) ⊎ (is_member ids s id ≡ true) → is_member ids s id ≡ true
linked_some es ids id s e there g (inl h) = g.linked id s (ap session_in there ∙ h)
linked_some es ids id s e there g (inr h) = h

linked_by : (b : Bool) (es : List (ℕ × Entry)) (ids : Ids) (id k s : ℕ) (e : Entry) (w : Option Entry)
    → is_at (nat_cmp id) k ≡ b → entry_at es id ≡ Some e → Sound es ids → IsLinked ids id e w
    → session_in (cond b w (entry_at es k)) ≡ Some s → is_member ids s k ≡ true
linked_by true es ids id k s e w at there g links h =
    subst (λ n. is_member ids s n ≡ true) (sym (same_at id k at)) (linked_some es ids id s e there g (links s h))
linked_by false es ids id k s e w at there g links h = g.linked k s h

-- what was sound stays so
sound_at : (es fs : List (ℕ × Entry)) (ids : Ids) (id : ℕ) (e : Entry) (w : Option Entry) → Sets id w es fs
    → entry_at es id ≡ Some e → IsLinked ids id e w → Sound es ids → Sound fs ids
sound_at es fs ids id e w sets there links s = record {
  ids_are = s.ids_are;
  linked = λ k session h. linked_by (is_at (nat_cmp id) k) es ids id k session e w refl there s links
      (subst (λ o. session_in o ≡ Some session) (sets k) h);
  were = λ k have.
      let found : is_some (entry_at es id) ≡ true = ap is_some there in
      let h : is_some (entry_at fs k) ≡ true = have in
      let g : is_some (cond (is_at (nat_cmp id) k) w (entry_at es k)) ≡ true = rw (sets k) at h in
      some_by (is_at (nat_cmp id) k) (entry_at es k) w (was ids k) (some_at ids id k w (λ x. s.were id found)) (s.were k) g;
}

-- one entry becomes this, or is forgotten, and nothing is told
goes_at : (es fs : List (ℕ × Entry)) (ids : Ids) (q : List Event) (id : ℕ) (e : Entry) (w : Option Entry)
    → Sets id w es fs → entry_at es id ≡ Some e → IsLinked ids id e w
    → (was ids id ≡ true → Stays e.told (status_by w (was ids id)))
    → Goes [] es ids q fs ids q
goes_at es fs ids q id e w sets there links stays =
    let found : is_some (entry_at es id) ≡ true = ap is_some there in
    by_none es fs ids ids q (λ k w. w) (λ s. sound_at es fs ids id e w sets there links s)
    (λ s k. rw (sets k) (stays_by (is_at (nat_cmp id) k) (entry_at es k) w (was ids k)
    (stays_at es ids id k w (rw there (stays (s.were id found))))))

standing_same : (a b : Standing) → Some a ≡ Some b → a ≡ b
standing_same a b h = cc

pub standing_by : (e f : Entry) → f.told ≡ e.told → f.session ≡ e.session → f.may_cancel ≡ e.may_cancel
    → standing_of f ≡ standing_of e
standing_by e f h g m =
    ap (λ t. record { told = t; session = f.session; may_cancel = f.may_cancel }) h
    ∙ (ap (λ s. record { told = e.told; session = s; may_cancel = f.may_cancel }) g
    ∙ ap (λ b. record { told = e.told; session = e.session; may_cancel = b }) m)

told_same : (e f : Entry) → Some (standing_of e) ≡ Some (standing_of f) → e.told ≡ f.told
told_same e f h = ap (λ p. p.told) (standing_same (standing_of e) (standing_of f) h)

session_same : (e f : Entry) → Some (standing_of e) ≡ Some (standing_of f) → e.session ≡ f.session
session_same e f h = ap (λ p. p.session) (standing_same (standing_of e) (standing_of f) h)

pub may_same : (e f : Entry) → Some (standing_of e) ≡ Some (standing_of f) → e.may_cancel ≡ f.may_cancel
may_same e f h = ap (λ p. p.may_cancel) (standing_same (standing_of e) (standing_of f) h)

-- it has a status
pub status_of_standing : (o : Option Entry) (f : Entry) → standing_in o ≡ Some (standing_of f) → status_in o ≡ Some f.told
status_of_standing None f h = absurd (let bad : None ≡ Some (standing_of f) = h in cc)
status_of_standing (Some e) f h = ap Some (told_same e f h)

-- a stream changes of which the program knows what it knew, and of the same session
pub goes_as_known : (es : List (ℕ × Entry)) (ids : Ids) (q : List Event) (id : ℕ) (e f : Entry) → entry_at es id ≡ Some e
    → f.told ≡ e.told → f.session ≡ e.session → Goes [] es ids q (set_value (is_at (nat_cmp id)) es f) ids q
goes_as_known es ids q id e f h told session =
    goes_at es (set_value (is_at (nat_cmp id)) es f) ids q id e (Some f) (set_sets es id e f h) h
    (λ s n. inl (sym session ∙ n)) (λ w. rw told (stays_refl e.told))

set_by : (es : List (ℕ × Entry)) (ids : Ids) (q : List Event) (id : ℕ) (f : Entry) (o : Option Entry)
    → entry_at es id ≡ o → standing_in o ≡ Some (standing_of f)
    → Goes [] es ids q (set_value (is_at (nat_cmp id)) es f) ids q
set_by es ids q id f None h g = absurd (let bad : None ≡ Some (standing_of f) = g in cc)
set_by es ids q id f (Some e) h g = goes_as_known es ids q id e f h (sym (told_same e f g)) (sym (session_same e f g))

pub goes_set : (es : List (ℕ × Entry)) (ids : Ids) (q : List Event) (id : ℕ) (f : Entry)
    → standing_in (entry_at es id) ≡ Some (standing_of f) → Goes [] es ids q (set_value (is_at (nat_cmp id)) es f) ids q
goes_set es ids q id f h = set_by es ids q id f (entry_at es id) refl h

stays_known : (p : Told) → Stays p (becomes_known p)
stays_known told.NotYet = tt
stays_known told.Known = refl
stays_known told.Over = refl

-- one becomes known
pub goes_known : (es : List (ℕ × Entry)) (ids : Ids) (q : List Event) (id : ℕ) (e f : Entry) → entry_at es id ≡ Some e
    → f.told ≡ becomes_known e.told → IsLinked ids id e (Some f)
    → Goes [] es ids q (set_value (is_at (nat_cmp id)) es f) ids q
goes_known es ids q id e f h g links =
    goes_at es (set_value (is_at (nat_cmp id)) es f) ids q id e (Some f) (set_sets es id e f h) h links
    (λ w. rw g (stays_known e.told))

stays_over : (p : Told) → is_known p ≡ false → Stays p told.Over
stays_over told.NotYet n = tt
stays_over told.Known n = absurd (let bad : true ≡ false = n in cc)
stays_over told.Over n = refl

-- one that the program does not know of is over, or is forgotten
pub goes_over : (es : List (ℕ × Entry)) (ids : Ids) (q : List Event) (id : ℕ) (e f : Entry) → entry_at es id ≡ Some e
    → is_known e.told ≡ false → f.told ≡ told.Over → f.session ≡ e.session
    → Goes [] es ids q (set_value (is_at (nat_cmp id)) es f) ids q
goes_over es ids q id e f h n g same =
    goes_at es (set_value (is_at (nat_cmp id)) es f) ids q id e (Some f) (set_sets es id e f h) h
    (λ s o. inl (sym same ∙ o)) (λ w. rw g (stays_over e.told n))

removed_by : (es fs : List (ℕ × Entry)) (ids : Ids) (q : List Event) (id : ℕ) (o : Option Entry) → entry_at es id ≡ o
    → Sets id None es fs → is_some o ≡ true → knows_of o ≡ false → Goes [] es ids q fs ids q
removed_by es fs ids q id None h sets have n = absurd (let bad : false ≡ true = have in cc)
removed_by es fs ids q id (Some e) h sets have n = goes_at es fs ids q id e None sets h
    (λ s o. absurd (let bad : None ≡ Some s = o in cc)) (λ w. rw w (stays_over e.told n))

pub goes_removed : (es fs : List (ℕ × Entry)) (ids : Ids) (q : List Event) (id : ℕ) → Sets id None es fs
    → is_some (entry_at es id) ≡ true → knows_of (entry_at es id) ≡ false → Goes [] es ids q fs ids q
goes_removed es fs ids q id sets have n = removed_by es fs ids q id (entry_at es id) refl sets have n

-- ---- events that are queued

says_by : (b c : Bool) (w : Word) (o v : Option Entry) (seen : Bool) → c ≡ b
    → (b ≡ true → Path (status_by o seen) (w ∷ []) (status_by v seen))
    → Path (status_by o seen) (on_by (Some w) c []) (status_by (cond b v o) seen)
says_by true true w o v seen same h = h refl
says_by true false w o v seen same h = absurd (let bad : false ≡ true = same in cc)
says_by false true w o v seen same h = absurd (let bad : true ≡ false = same in cc)
says_by false false w o v seen same h = stays_refl (status_by o seen)

at_is : (b c : Bool) → (b ≡ true → c ≡ true) → (b ≡ false → c ≡ false) → c ≡ b
at_is true c g h = g refl
at_is false c g h = h refl

-- the test of an ID by a map is that of the words
pub at_test : (id k : ℕ) → (id == k) ≡ is_at (nat_cmp id) k
at_test id k = at_is (is_at (nat_cmp id) k) (id == k) (λ at. rw (same_at id k at) (itself id)) (other_at id k)

path_at : (es : List (ℕ × Entry)) (ids : Ids) (id k : ℕ) (w : Word) (v : Option Entry)
    → Path (status_at es ids id) (w ∷ []) (status_by v (was ids id)) → is_at (nat_cmp id) k ≡ true
    → Path (status_at es ids k) (w ∷ []) (status_by v (was ids k))
path_at es ids id k w v h at = rw (same_at id k at) h

-- an event is queued, and the entry of its stream becomes this
pub goes_queue : (es fs : List (ℕ × Entry)) (ids : Ids) (q : List Event) (id : ℕ) (e : Entry) (v : Option Entry)
    (ev : Event) (w : Word) → Sets id v es fs → entry_at es id ≡ Some e → IsLinked ids id e v
    → ev.stream ≡ id → word_of ev.kind ≡ Some w → (was ids id ≡ true → Path e.told (w ∷ []) (status_by v (was ids id)))
    → Goes [] es ids q fs ids (q ++ (ev ∷ []))
goes_queue es fs ids q id e v ev w sets there links at word h =
    let found : is_some (entry_at es id) ≡ true = ap is_some there in
    by_some es fs ids ids q (ev ∷ []) (λ k w. w) (λ s. sound_at es fs ids id e v sets there links s)
    (λ s k. rw (sets k, word, at) (says_by (is_at (nat_cmp id) k) (id == k) w (entry_at es k) v (was ids k) (at_test id k)
    (path_at es ids id k w v (rw there (h (s.were id found))))))

-- an event of the connection is queued
pub goes_general : (es : List (ℕ × Entry)) (ids : Ids) (q : List Event) (ev : Event) → word_of ev.kind ≡ None
    → Goes [] es ids q es ids (q ++ (ev ∷ []))
goes_general es ids q ev word = by_some es es ids ids q (ev ∷ []) (λ k w. w) (λ s. s)
    (λ s k. rw word (stays_refl (status_at es ids k)))

-- one is told
pub goes_aside : (es : List (ℕ × Entry)) (ids : Ids) (q : List Event) (ev : Event) → word_of ev.kind ≡ None
    → Goes (ev ∷ []) es ids q es ids q
goes_aside es ids q ev word = record { seen = λ k w. w; sound = λ s. s; told = λ s k p g. rw word g }

-- ---- events that are told

first_by : (b : Bool) (o : Option Word) (p t : Told) (ws : List Word) → ends o ≡ false → (b ≡ true → t ≡ told.Known)
    → Path p ws t → Path p (on_by o b ws) t
first_by b None p t ws n h g = g
first_by false (Some w) p t ws n h g = g
first_by true (Some w) p t ws n h g = rw (h refl) (path_first w p ws n (let x : Path p ws t = g in rw (h refl) at x))

eq_at : (id k : ℕ) → (id == k) ≡ true → k ≡ id
eq_at id k h = grind (arith, h)

known_at : (es : List (ℕ × Entry)) (ids : Ids) (id k : ℕ) (e : Entry) → entry_at es id ≡ Some e → e.told ≡ told.Known
    → (id == k) ≡ true → status_at es ids k ≡ told.Known
known_at es ids id k e h g at = rw (eq_at id k at, h) g

-- an event of a stream that is known is told before those that are queued
pub goes_told : (es : List (ℕ × Entry)) (ids : Ids) (q : List Event) (id : ℕ) (e : Entry) (ev : Event)
    → entry_at es id ≡ Some e → e.told ≡ told.Known → ev.stream ≡ id → ends (word_of ev.kind) ≡ false
    → Goes (ev ∷ []) es ids q es ids q
goes_told es ids q id e ev there known at n = record {
  seen = λ k w. w;
  sound = λ s. s;
  told = λ s k p g. rw at (first_by (id == k) (word_of ev.kind) p (status_at es ids k) (on k q) n
      (known_at es ids id k e there known) g);
}

is_known_known : (p : Told) → is_known p ≡ true → p ≡ told.Known
is_known_known told.NotYet h = absurd (let bad : false ≡ true = h in cc)
is_known_known told.Known h = refl
is_known_known told.Over h = absurd (let bad : false ≡ true = h in cc)

tells_known : (b : Bool) (es : List (ℕ × Entry)) (ids : Ids) (q : List Event) (id : ℕ) (e : Entry) (ev : Event)
    → entry_at es id ≡ Some e → is_known e.told ≡ b → ev.stream ≡ id → ends (word_of ev.kind) ≡ false
    → Goes (said_in (cond b (step.Told ev) step.More)) es ids q es ids q
tells_known true es ids q id e ev there known at n =
    goes_told es ids q id e ev there (is_known_known e.told known) at n
tells_known false es ids q id e ev there known at n = goes_refl es ids q

tells_on : (o : Option Entry) (es : List (ℕ × Entry)) (ids : Ids) (q : List Event) (ev : Event)
    → entry_at es ev.stream ≡ o → knows_of o ≡ true → ends (word_of ev.kind) ≡ false → Goes (ev ∷ []) es ids q es ids q
tells_on None es ids q ev there known n = absurd (let bad : false ≡ true = known in cc)
tells_on (Some e) es ids q ev there known n =
    goes_told es ids q ev.stream e ev there (is_known_known e.told known) refl n

-- an event of a stream that is known is told first
pub goes_tells : (es : List (ℕ × Entry)) (ids : Ids) (q : List Event) (ev : Event)
    → knows_of (entry_at es ev.stream) ≡ true → ends (word_of ev.kind) ≡ false → Goes (ev ∷ []) es ids q es ids q
goes_tells es ids q ev known n = tells_on (entry_at es ev.stream) es ids q ev refl known n

pub itself_linked : (es : List (ℕ × Entry)) (ids : Ids) (id : ℕ) (e : Entry) → entry_at es id ≡ Some e
    → IsLinked ids id e (entry_at es id)
itself_linked es ids id e there s h = inl (subst (λ o. session_in o ≡ Some s) there h)

word_at : (v : Word) (p : Told) → ends (Some v) ≡ false → p ≡ told.Known → Path p (v ∷ []) p
word_at Says p n known = rw known (refl, refl)
word_at Fails p n known = rw known (refl, refl)
word_at Closes p n known = absurd (let bad : true ≡ false = n in cc)

queued_by : (w : Option Word) (o : Option Entry) (es : List (ℕ × Entry)) (ids : Ids) (q : List Event) (ev : Event)
    → word_of ev.kind ≡ w → entry_at es ev.stream ≡ o → knows_of o ≡ true → ends w ≡ false
    → Goes [] es ids q es ids (q ++ (ev ∷ []))
queued_by None o es ids q ev word there known n = goes_general es ids q ev word
queued_by (Some w) None es ids q ev word there known n = absurd (let bad : false ≡ true = known in cc)
queued_by (Some w) (Some e) es ids q ev word there known n =
    goes_queue es es ids q ev.stream e (entry_at es ev.stream) ev w (same_sets es ev.stream) there
    (itself_linked es ids ev.stream e there) refl word
    (λ s. rw there (word_at w e.told n (is_known_known e.told known)))

-- an event of a stream that is known is queued
pub goes_queued : (es : List (ℕ × Entry)) (ids : Ids) (q : List Event) (ev : Event)
    → knows_of (entry_at es ev.stream) ≡ true → ends (word_of ev.kind) ≡ false
    → Goes [] es ids q es ids (q ++ (ev ∷ []))
goes_queued es ids q ev known n = queued_by (word_of ev.kind) (entry_at es ev.stream) es ids q ev refl refl known n

-- what a stream of which the program knows is told
said_on : (b : Bool) (o : Option Entry) (e : Entry) (id : ℕ) (k : EventKind) (ev : Event) → o ≡ Some e → is_known e.told ≡ b
    → cond b (step.Told (record { stream = id; session = shown_session id e; user = e.user; kind = k })) step.More
    ≡ step.Told ev → (knows_of o ≡ true) × (ev.stream ≡ id) × (ev.kind ≡ k)
said_on true o e id k ev there known h = rw there
    (known, (let p : ev.stream ≡ id = cc in p), (let p : ev.kind ≡ k = cc in p))
said_on false o e id k ev there known h = absurd (let bad : step.More ≡ step.Told ev = h in cc)

is_said : (o : Option Entry) (id : ℕ) (k : EventKind) (ev : Event) → told_on o id k ≡ step.Told ev
    → (knows_of o ≡ true) × (ev.stream ≡ id) × (ev.kind ≡ k)
is_said None id k ev h = absurd (let bad : step.More ≡ step.Told ev = h in cc)
is_said (Some e) id k ev h = said_on (is_known e.told) (Some e) e id k ev refl refl h

-- what a stream that is known says is queued
pub goes_said : (es : List (ℕ × Entry)) (ids : Ids) (q r : List Event) (id : ℕ) (k : EventKind) (ev : Event)
    → told_on (entry_at es id) id k ≡ step.Told ev → ends (word_of k) ≡ false → r ≡ q ++ (ev ∷ [])
    → Goes [] es ids q es ids r
goes_said es ids q r id k ev h n queued =
    let said = is_said (entry_at es id) id k ev h in
    rw queued (goes_queued es ids q ev (rw said.1 said.0) (rw said.2 n))

closed_by : (o : Option Entry) (es : List (ℕ × Entry)) (ids : Ids) (q : List Event) (ev : Event) (f : Entry)
    → word_of ev.kind ≡ Some Closes → entry_at es ev.stream ≡ o → knows_of o ≡ true → f.told ≡ told.Over
    → session_in o ≡ f.session
    → Goes [] es ids q (set_value (is_at (nat_cmp ev.stream)) es f) ids (q ++ (ev ∷ []))
closed_by None es ids q ev f word there known g same = absurd (let bad : false ≡ true = known in cc)
closed_by (Some e) es ids q ev f word there known g same =
    goes_queue es (set_value (is_at (nat_cmp ev.stream)) es f) ids q ev.stream e (Some f) ev Closes
    (set_sets es ev.stream e f there) there (λ s h. inl (same ∙ h)) refl word
    (λ s. rw (is_known_known e.told known, g) (refl, refl))

-- the last event of a stream that is known is queued
pub goes_closed : (es : List (ℕ × Entry)) (ids : Ids) (q : List Event) (ev : Event) (f : Entry)
    → knows_of (entry_at es ev.stream) ≡ true → word_of ev.kind ≡ Some Closes → f.told ≡ told.Over
    → session_in (entry_at es ev.stream) ≡ f.session
    → Goes [] es ids q (set_value (is_at (nat_cmp ev.stream)) es f) ids (q ++ (ev ∷ []))
goes_closed es ids q ev f known word g same = closed_by (entry_at es ev.stream) es ids q ev f word refl known g same

-- it is told at once, if nothing is queued
pub goes_last : (es : List (ℕ × Entry)) (ids : Ids) (q : List Event) (ev : Event) (f : Entry)
    → knows_of (entry_at es ev.stream) ≡ true → word_of ev.kind ≡ Some Closes → f.told ≡ told.Over
    → session_in (entry_at es ev.stream) ≡ f.session → q ≡ []
    → Goes (ev ∷ []) es ids q (set_value (is_at (nat_cmp ev.stream)) es f) ids q
goes_last es ids q ev f known word g same none =
    let h : Goes [] es ids [] (set_value (is_at (nat_cmp ev.stream)) es f) ids (ev ∷ []) =
    goes_closed es ids [] ev f known word g same in
    rw none (record { seen = h.seen; sound = h.sound; told = h.told })

-- nothing changes
pub goes_same : (es fs : List (ℕ × Entry)) (ids jds : Ids) (q r : List Event) → fs ≡ es → jds ≡ ids → r ≡ q
    → Goes [] es ids q fs jds r
goes_same es fs ids jds q r h i j = rw (h, i, j) (goes_refl es ids q)

pub goes_still : (c d : Connection) → IsStill c d → GoesOn [] c d
goes_still c d h = goes_same c.streams.entries d.streams.entries c.ids d.ids c.events.items d.events.items
    (ap (λ v. v.streams) h) (ap (λ v. v.ids) h) (ap (λ v. v.events) h)
