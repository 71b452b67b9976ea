-- What the program is told of a stream, over runs.
use Rattle.std.proofs.Common.{◌≡◌, ◌==◌, ◌++◌, ℕ, List, [], ◌∷◌, Option, None, Some, Bool, true, false, refl, arith, sym, ap, append_assoc, ◌∙◌}
use Rattle.std.specs.Prelude.{◌||◌}
use Rattle.vesgrauf.specs.declared.connection.Connection.{Connection}
use Rattle.vesgrauf.specs.declared.entry.Told.{Told}
use Rattle.vesgrauf.specs.declared.entry.Told.TheVariants as told
use Rattle.vesgrauf.specs.declared.entry.Entry.{Entry}
use Rattle.vesgrauf.specs.declared.event.Event.{Event}
use Rattle.vesgrauf.specs.Cuts.{Shut, ReadsOut, IsCut, is_over_in, is_read_out}
use Rattle.vesgrauf.specs.Own.{entry_at}
use Rattle.vesgrauf.specs.Ids.{was}
use Rattle.vesgrauf.specs.State.{knows_of}
use Rattle.vesgrauf.specs.Streams.{is_known, is_told_over}
use Rattle.vesgrauf.specs.Told.{Word, Says, Fails, Closes, word_of, on_by, on, Path, status_by, status_at, knows, Sound, GoesOn}
use Rattle.vesgrauf.specs.Calls.{Call, Tells, Opens, Leads, Starts, Run, told_in_all, opened_in, EndsOnce, says, closes}
use Rattle.vesgrauf.proofs.GoesLemmas.{goes_refl, goes_then, path_cut, path_known}

words_both : (w : Option Word) (b : Bool) (xs ys : List Word) → on_by w b (xs ++ ys) ≡ on_by w b xs ++ ys
words_both None b xs ys = refl
words_both (Some w) true xs ys = refl
words_both (Some w) false xs ys = refl

on_both : (id : ℕ) (xs ys : List Event) → on id (xs ++ ys) ≡ on id xs ++ on id ys
on_both id [] ys = refl
on_both id (e ∷ xs) ys = rw (on_both id xs ys) (words_both (word_of e.kind) (e.stream == id) (on id xs) (on id ys))

eq_at : (id k : ℕ) → (id == k) ≡ true → k ≡ id
eq_at id k h = grind (arith, h)

path_ends : (ws : List Word) (p q : Told) → Path p ws q → EndsOnce ws
path_ends [] p q h = tt
path_ends (Says ∷ ws) p q h = path_ends ws told.Known q h.1
path_ends (Fails ∷ ws) p q h = path_ends ws p q h.1
path_ends (Closes ∷ []) p q h = refl
path_ends (Closes ∷ (w ∷ ws)) p q h = absurd (let bad : true ≡ false = h.1.0 in cc)

known_stays : (ws : List Word) (q : Told) → closes ws ≡ false → Path told.Known ws q → q ≡ told.Known
known_stays [] q n h = h
known_stays (Says ∷ ws) q n h = known_stays ws q n h.1
known_stays (Fails ∷ ws) q n h = known_stays ws q n h.1
known_stays (Closes ∷ ws) q n h = absurd (let bad : true ≡ false = n in cc)

said_known : (ws : List Word) (p q : Told) → says ws ≡ true → closes ws ≡ false → Path p ws q → q ≡ told.Known
said_known [] p q s n h = absurd (let bad : false ≡ true = s in cc)
said_known (Says ∷ ws) p q s n h = known_stays ws q n h.1
said_known (Fails ∷ ws) p q s n h = said_known ws p q s n h.1
said_known (Closes ∷ ws) p q s n h = absurd (let bad : true ≡ false = n in cc)

not_known : (o : Option Entry) (seen : Bool) → knows_of o ≡ false → status_by o seen ≡ told.Known → ⊥
not_known None true n h = let bad : told.Over ≡ told.Known = h in cc
not_known None false n h = let bad : told.NotYet ≡ told.Known = h in cc
not_known (Some e) seen n h =
    let k : e.told ≡ told.Known = h in let b : is_known e.told ≡ true = ap is_known k in let f : is_known e.told ≡ false = n in cc

is_known_at : (o : Option Entry) (seen : Bool) → knows_of o ≡ true → status_by o seen ≡ told.Known
is_known_at None seen n = absurd (let bad : false ≡ true = n in cc)
is_known_at (Some e) seen n = known_of e.told n
  where
    known_of : (p : Told) → is_known p ≡ true → p ≡ told.Known
    known_of told.NotYet h = absurd (let bad : false ≡ true = h in cc)
    known_of told.Known h = refl
    known_of told.Over h = absurd (let bad : false ≡ true = h in cc)

one_of : (b : Bool) → (b ≡ false → ⊥) → b ≡ true
one_of true h = refl
one_of false h = absurd (h refl)

-- ---- runs

pub leads_goes : (calls : List Call) (c d : Connection) → Leads calls c d → GoesOn (told_in_all calls) c d
leads_goes [] c d h = rw h (goes_refl c.streams.entries c.ids c.events.items)
leads_goes (Tells said ∷ xs) c d h =
    goes_then said (told_in_all xs) c.streams.entries h.0.streams.entries d.streams.entries c.ids h.0.ids d.ids
    c.events.items h.0.events.items d.events.items h.1 (leads_goes xs h.0 d h.2)
leads_goes (Opens id ∷ xs) c d h =
    goes_then [] (told_in_all xs) c.streams.entries h.0.streams.entries d.streams.entries c.ids h.0.ids d.ids
    c.events.items h.0.events.items d.events.items h.1.0 (leads_goes xs h.0 d h.2)

-- what is queued of each stream leads on from somewhere
abbrev pub Held : Connection → Type 0
Held c = (id : ℕ) → (p : Told) × Path p (on id c.events.items) (status_at c.streams.entries c.ids id)

held_start : (c : Connection) → Starts c → Held c
held_start c s id = (told.NotYet, rw s.events tt)

held_on : (said : List Event) (c d : Connection) → GoesOn said c d → Sound c.streams.entries c.ids → Held c → Held d
held_on said c d g s held id =
    let here = held id in
    let whole : Path here.0 (on id said ++ on id d.events.items) (status_at d.streams.entries d.ids id) =
    rw (sym (on_both id said d.events.items)) (g.told s id here.0 here.1) in
    let cut = path_cut here.0 (on id said) (on id d.events.items) (status_at d.streams.entries d.ids id) whole in
    (cut.0, cut.2)

whole_path : (calls : List Call) (d : Connection) → Run calls d → (id : ℕ)
    → Path told.NotYet (on id (told_in_all calls ++ d.events.items)) (status_at d.streams.entries d.ids id)
whole_path calls d r id = (leads_goes calls r.0 d r.2).told r.1.sound id told.NotYet (rw r.1.events tt)

pub ends_once : (calls : List Call) (d : Connection) → Run calls d → (id : ℕ)
    → EndsOnce (on id (told_in_all calls ++ d.events.items))
ends_once calls d r id = path_ends (on id (told_in_all calls ++ d.events.items)) told.NotYet
    (status_at d.streams.entries d.ids id) (whole_path calls d r id)

pub said_closes : (calls : List Call) (d : Connection) → Run calls d → (id : ℕ)
    → says (on id (told_in_all calls ++ d.events.items)) ≡ true → knows d id ≡ false
    → closes (on id (told_in_all calls ++ d.events.items)) ≡ true
said_closes calls d r id s n = one_of (closes (on id (told_in_all calls ++ d.events.items)))
    (λ f. not_known (entry_at d.streams.entries id) (was d.ids id) n
    (said_known (on id (told_in_all calls ++ d.events.items)) told.NotYet (status_at d.streams.entries d.ids id) s f
    (whole_path calls d r id)))

closes_more : (xs ys : List Word) → closes ys ≡ true → closes (xs ++ ys) ≡ true
closes_more [] ys h = h
closes_more (Says ∷ xs) ys h = closes_more xs ys h
closes_more (Fails ∷ xs) ys h = closes_more xs ys h
closes_more (Closes ∷ xs) ys h = refl

-- a stream that is known and then is not was told to be over, or is yet to be
known_closes : (said : List Event) (c d : Connection) → GoesOn said c d → Sound c.streams.entries c.ids → Held c → (id : ℕ)
    → knows c id ≡ true → knows d id ≡ false → closes (on id (said ++ d.events.items)) ≡ true
known_closes said c d g s held id k n = one_of (closes (on id (said ++ d.events.items)))
    (λ f.
    let at : status_at c.streams.entries c.ids id ≡ told.Known = is_known_at (entry_at c.streams.entries id) (was c.ids id) k in
    let here = held id in
    let q : Path here.0 (on id c.events.items) told.Known = rw (sym at) here.1 in
    let p : Path told.Known (on id c.events.items) (status_at c.streams.entries c.ids id) =
    rw at (path_known (on id c.events.items) here.0 q) in
    not_known (entry_at d.streams.entries id) (was d.ids id) n
    (known_stays (on id (said ++ d.events.items)) (status_at d.streams.entries d.ids id) f (g.told s id told.Known p)))

here_or : (b o r : Bool) → (b ≡ true → r ≡ true) → (o ≡ true → r ≡ true) → b || o ≡ true → r ≡ true
here_or true o r g h s = g refl
here_or false o r g h s = h s

opens_closes : (calls : List Call) (c d : Connection) → Leads calls c d → Sound c.streams.entries c.ids → Held c → (id : ℕ)
    → opened_in id calls ≡ true → knows d id ≡ false → closes (on id (told_in_all calls ++ d.events.items)) ≡ true
opens_closes [] c d h s held id o n = absurd (let bad : false ≡ true = o in cc)
opens_closes (Tells said ∷ xs) c d h s held id o n =
    rw (append_assoc said (told_in_all xs) d.events.items, on_both id said (told_in_all xs ++ d.events.items))
    (closes_more (on id said) (on id (told_in_all xs ++ d.events.items))
    (opens_closes xs h.0 d h.2 (h.1.sound s) (held_on said c h.0 h.1 s held) id o n))
opens_closes (Opens j ∷ xs) c d h s held id o n =
    here_or (j == id) (opened_in id xs) (closes (on id (told_in_all xs ++ d.events.items)))
    (λ same. known_closes (told_in_all xs) h.0 d (leads_goes xs h.0 d h.2) (h.1.0.sound s) (held_on [] c h.0 h.1.0 s held) id
    (rw (eq_at j id same) h.1.1) n)
    (λ later. opens_closes xs h.0 d h.2 (h.1.0.sound s) (held_on [] c h.0 h.1.0 s held) id later n) o

pub opened_closes : (calls : List Call) (d : Connection) → Run calls d → (id : ℕ)
    → opened_in id calls ≡ true → knows d id ≡ false → closes (on id (told_in_all calls ++ d.events.items)) ≡ true
opened_closes calls d r id o n = opens_closes calls r.0 d r.2 r.1.sound (held_start r.0 r.1) id o n

-- ---- streams of sessions

pub run_sound : (calls : List Call) (d : Connection) → Run calls d → Sound d.streams.entries d.ids
run_sound calls d r = (leads_goes calls r.0 d r.2).sound r.1.sound

unknown_by : (o : Option Entry) → is_over_in o ≡ true → knows_of o ≡ false
unknown_by None h = refl
unknown_by (Some e) h = over_by e.told h
  where
    over_by : (p : Told) → is_told_over p ≡ true → is_known p ≡ false
    over_by told.NotYet h = refl
    over_by told.Known h = absurd (let bad : false ≡ true = h in cc)
    over_by told.Over h = refl

cut_unknown : (o : Option Entry) → IsCut o → is_read_out o ≡ false → knows_of o ≡ false
cut_unknown o (Shut own over gone) n = unknown_by o over
cut_unknown o (ReadsOut own read) n = absurd (let bad : true ≡ false = sym read ∙ n in cc)

pub cut_said : (calls : List Call) (d : Connection) → Run calls d → (id : ℕ) → IsCut (entry_at d.streams.entries id)
    → is_read_out (entry_at d.streams.entries id) ≡ false
    → says (on id (told_in_all calls ++ d.events.items)) ≡ true
    → closes (on id (told_in_all calls ++ d.events.items)) ≡ true
cut_said calls d r id cut n s = said_closes calls d r id s (cut_unknown (entry_at d.streams.entries id) cut n)

pub cut_opened : (calls : List Call) (d : Connection) → Run calls d → (id : ℕ) → IsCut (entry_at d.streams.entries id)
    → is_read_out (entry_at d.streams.entries id) ≡ false → opened_in id calls ≡ true
    → closes (on id (told_in_all calls ++ d.events.items)) ≡ true
cut_opened calls d r id cut n o = opened_closes calls d r id o (cut_unknown (entry_at d.streams.entries id) cut n)
