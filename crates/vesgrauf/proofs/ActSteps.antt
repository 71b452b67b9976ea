-- What calls of the program and of QUIC do for the own decoder stream.
use Rattle.std.proofs.Common.{◌≡◌, ℕ, List, [], ◌∷◌, ◌++◌, Option, Some, None, Bool, true, false, refl, sym, ap, subst, ◌∙◌, append_assoc}
use Rattle.std.specs.Prelude.{IfOk, IfErr, Result, Ok, Err}
use Rattle.std.specs.Ordering.{nat_cmp}
use Rattle.std.specs.Map.{set_value}
use Rattle.std.specs.BTreeMap.{is_at}
use Rattle.vesgrauf_queue.specs.State.{State, waiting}
use Rattle.vesgrauf_queue.specs.Steps.{Does, Puts, Acknowledges}
use Rattle.wtp_webtransport.specs.declared.connection.Connection.{Connection as Shared}
use Rattle.vesgrauf.specs.declared.connection.Connection.{Connection}
use Rattle.vesgrauf.specs.declared.connection.ids.Ids.{Ids}
use Rattle.vesgrauf.specs.declared.critical.Critical.{Critical}
use Rattle.vesgrauf.specs.declared.entry.Entry.{Entry}
use Rattle.vesgrauf.specs.declared.event.Event.{Event}
use Rattle.vesgrauf.specs.declared.refused.NotSent.{NotSent as Unsent}
use Rattle.vesgrauf.specs.declared.refused.Refused.{Refused}
use Rattle.vesgrauf.specs.declared.refused.Refused.TheVariants as refused
use Rattle.vesgrauf.specs.Ids.{next_own, was}
use Rattle.vesgrauf.specs.Instructions.{Table, table_by, table_of, Took}
use Rattle.vesgrauf.specs.Keeps.{Keeps}
use Rattle.vesgrauf.specs.Own.{entry_at}
use Rattle.vesgrauf.specs.State.{IsStill, OwnHalf, StaysOf, is_over}
use Rattle.vesgrauf.specs.declared.output.StreamKind.{StreamKind}
use Rattle.vesgrauf_stream.specs.declared.writing.Writing.{Writing}
use Rattle.vesgrauf_stream.specs.Writing.{Sends}
use Rattle.vesgrauf.specs.Told.{Goes, GoesOn, AreOthers}
use Rattle.vesgrauf.specs.Works.{Book, book_at, book_of, TakesOn, WorksUnless, Unless, WorksOn, IsCall, IsWork, IsTake}
use Rattle.vesgrauf.proofs.ActLemmas.{act_keeps, act_kept, act_refl}
use Rattle.vesgrauf.proofs.IdLemmas.{own_was}
use Rattle.vesgrauf.proofs.LastsLemmas.{not_there}
use Rattle.vesgrauf.proofs.WorksLemmas.{worked_seen, worked_new, worked_trans}

-- the table has another form
pub act_tabled : (es : List (ℕ × Entry)) (ids : Ids) (t u : Table) (x : Bool) → u ≡ t
    → WorksUnless x x (book_at es ids t) (book_at es ids u)
act_tabled es ids t u x h = subst (λ v. WorksUnless x x (book_at es ids t) (book_at es ids v)) (sym h)
    (act_refl x (book_at es ids t))

-- only IDs change
pub act_goes : (es : List (ℕ × Entry)) (ids jds : Ids) (t : Table) (x : Bool) (q r : List Event) → Goes [] es ids q es jds r
    → WorksUnless x x (book_at es ids t) (book_at es jds t)
act_goes es ids jds t x q r g = Unless (λ h. h) (λ n s. (g.sound s, worked_seen es ids jds t g.seen))

-- bytes of the own decoder stream are acknowledged
pub act_acked : (es : List (ℕ × Entry)) (ids : Ids) (c : Shared) (s t : State) (told : List ℕ) (n : ℕ) (x : Bool)
    → Does (Acknowledges n) s t
    → WorksUnless x x (book_at es ids (table_by c (waiting s ++ told))) (book_at es ids (table_by c (waiting t ++ told)))
act_acked es ids c s t told n x a = act_tabled es ids (table_by c (waiting s ++ told)) (table_by c (waiting t ++ told)) x
    (ap (λ (b : List ℕ). table_by c (b ++ told)) a.waits)

-- a call that lets QUIC take bytes of the own decoder stream
takes_bytes : (bytes told : List ℕ) (s t : State) (fin : Bool) → Does (Puts bytes fin) s t
    → waiting s ++ told ≡ bytes ++ (waiting t ++ told)
takes_bytes bytes told s t fin p = ap (λ (b : List ℕ). b ++ told) p.waits ∙ append_assoc bytes (waiting t) told

pub call_takes : (c d : Connection) (bytes : List ℕ) (fin : Bool) → Does (Puts bytes fin) c.decoder.queue d.decoder.queue
    → d.streams.entries ≡ c.streams.entries → d.ids ≡ c.ids → d.shared ≡ c.shared → d.told.items ≡ c.told.items
    → IsCall c d
call_takes c d bytes fin p streams ids shared told = IsTake bytes (record {
  took = record {
    from = takes_bytes bytes c.told.items c.decoder.queue d.decoder.queue fin p
        ∙ ap (λ (b : List ℕ). bytes ++ (waiting d.decoder.queue ++ b)) (sym told);
    others = ap (λ (o : Shared). table_by o (waiting d.decoder.queue ++ d.told.items)) shared;
  };
  streams = streams;
  ids = ids;
})

pub call_taken : (c m d : Connection) (bytes : List ℕ) (fin : Bool) → IsStill c m
    → Does (Puts bytes fin) m.decoder.queue d.decoder.queue → d.streams.entries ≡ m.streams.entries → d.ids ≡ m.ids
    → d.shared ≡ m.shared → d.told.items ≡ m.told.items → IsCall c d
call_taken c m d bytes fin still p streams ids shared told = call_takes c d bytes fin
    (subst (λ (q : Critical). Does (Puts bytes fin) q.queue d.decoder.queue) (ap (λ v. v.decoder) still) p)
    (streams ∙ ap (λ v. v.streams) still) (ids ∙ ap (λ v. v.ids) still) (shared ∙ ap (λ v. v.shared) still)
    (told ∙ ap (λ v. v.told) still)

pub call_works : (c d : Connection) → WorksOn c d → IsCall c d
call_works c d w = IsWork w

-- a stream begins, of which there was none with its ID
pub act_begins : (es fs : List (ℕ × Entry)) (ids jds : Ids) (t u : Table) (x y : Bool) (q : List Event) (id : ℕ)
    → was ids id ≡ false → entry_at es id ≡ None → AreOthers id es fs → Goes [] es ids q fs jds q → u ≡ t → y ≡ x
    → WorksUnless x y (book_at es ids t) (book_at fs jds u)
act_begins es fs ids jds t u x y q id unseen none others g table over = rw (table, over) (Unless (λ h. h) (λ n s. (
  g.sound s,
  worked_trans (book_at es ids t) (book_at fs ids t) (book_at fs jds t) (worked_new es fs ids t id unseen none others)
      (worked_seen fs ids jds t g.seen),
)))

-- a call that opens a stream
pub opening_works : (c d : Connection) (k : StreamKind) (id : ℕ) → id ≡ next_own c.ids k
    → AreOthers id c.streams.entries d.streams.entries → GoesOn [] c d → table_of d ≡ table_of c → is_over d ≡ is_over c
    → WorksOn c d
opening_works c d k id at others g table over = rw (table, over) (Unless (λ h. h) (λ n s.
    let unseen : was c.ids id ≡ false = rw at (own_was c.ids k s.ids_are) in (
      g.sound s,
      worked_trans (book_at c.streams.entries c.ids (table_of c)) (book_at d.streams.entries c.ids (table_of c))
          (book_at d.streams.entries d.ids (table_of c))
          (worked_new c.streams.entries d.streams.entries c.ids (table_of c) id unseen
          (not_there c.streams.entries c.ids id s unseen) others)
          (worked_seen d.streams.entries c.ids d.ids (table_of c) g.seen),
    )))

pub keeping_works : (said : List Event) (c d : Connection) → Keeps said c d → WorksOn c d
keeping_works said c d k = act_keeps k

-- ---- bytes are queued on a stream

pub act_written : (es : List (ℕ × Entry)) (ids : Ids) (t : Table) (x : Bool) (id : ℕ) (e f : Entry) (w : Writing)
    → entry_at es id ≡ Some e → f ≡ record e { writing = w }
    → WorksUnless x x (book_at es ids t) (book_at (set_value (is_at (nat_cmp id)) es f) ids t)
act_written es ids t x id e f w there h = subst
    (λ (g : Entry). WorksUnless x x (book_at es ids t) (book_at (set_value (is_at (nat_cmp id)) es g) ids t)) (sym h)
    (act_kept es ids t x id e (record e { writing = w }) there refl refl refl refl refl refl)

unsent_by : (x : Refused) (e f : Entry) → StaysOf x e f → (w : Writing) × (f ≡ record e { writing = w })
unsent_by refused.Full e f h = (h.0, h.2)
unsent_by x e f h = (e.writing, h)

pub sent_by : (r : Result Bool Refused) (bytes : List ℕ) (fin : Bool) (e f : Entry)
    → IfOk r (λ room. OwnHalf (Sends bytes fin room) e f) → IfErr r (λ x. StaysOf x e f)
    → (w : Writing) × (f ≡ record e { writing = w })
sent_by (Ok room) bytes fin e f h g = (h.0, h.2)
sent_by (Err x) bytes fin e f h g = unsent_by x e f g

pub sent_owned_by : (r : Result Bool Unsent) (bytes : List ℕ) (fin : Bool) (e f : Entry)
    → IfOk r (λ room. OwnHalf (Sends bytes fin room) e f) → IfErr r (λ x. StaysOf x.why e f)
    → (w : Writing) × (f ≡ record e { writing = w })
sent_owned_by (Ok room) bytes fin e f h g = (h.0, h.2)
sent_owned_by (Err x) bytes fin e f h g = unsent_by x.why e f g
