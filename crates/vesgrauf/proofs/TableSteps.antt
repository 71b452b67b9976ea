-- Steps in which the layer below is called and the own dynamic table stays what it was.
use Rattle.std.proofs.Common.{◌≡◌, ℕ, List, [], ◌∷◌, ◌++◌, Option, Some, None, refl, sym, ap, subst}
use Rattle.std.specs.Ordering.{nat_cmp}
use Rattle.std.specs.Map.{set_value}
use Rattle.std.specs.BTreeMap.{is_at}
use Rattle.wtp_connection.specs.declared.connection.Known.{Known}
use Rattle.wtp_connection.specs.declared.stream.Purpose.{Purpose}
use Rattle.wtp_webtransport.specs.declared.connection.Connection.{Connection as Shared}
use Rattle.wtp_webtransport.specs.declared.fault.Fault.{Fault}
use Rattle.wtp_webtransport.specs.Events.{Told as Say}
use Rattle.wtp_webtransport.specs.Joining.{joins, stops, after_datagram}
use Rattle.wtp_webtransport.specs.Tables.{too_many_blocked}
use Rattle.vesgrauf.specs.declared.config.Config.{Config}
use Rattle.vesgrauf.specs.declared.connection.Ended.{Ended}
use Rattle.vesgrauf.specs.declared.connection.ids.Ids.{Ids}
use Rattle.vesgrauf.specs.declared.entry.Entry.{Entry}
use Rattle.vesgrauf.specs.declared.event.Event.{Event}
use Rattle.vesgrauf.specs.Instructions.{Table, table_by}
use Rattle.vesgrauf.specs.Keeps.{KeepsAll}
use Rattle.vesgrauf.specs.Own.{own_in, entry_at}
use Rattle.vesgrauf_stream.specs.Moves.{Moves}
use Rattle.vesgrauf_stream.specs.Reading.{IsStill}
use Rattle.vesgrauf.proofs.GoesLemmas.{standing_of}
use Rattle.vesgrauf.proofs.KeepsLemmas.{keeps_tabled, keeps_then, keeps_turned}
use Rattle.vesgrauf.proofs.TableLemmas.{IsSameTable, same_table, told_table, joins_same, own_stopped_same, datagram_same, blocked_same}

pub keeps_same : (es : List (ℕ × Entry)) (ids : Ids) (c d : Shared) (bytes : List ℕ) (q : List Event) (a : Config)
    (x : Option Ended) → IsSameTable c d → KeepsAll None [] es ids (table_by c bytes) q a x es ids (table_by d bytes) q a x
keeps_same es ids c d bytes q a x h =
    keeps_tabled None es ids (table_by c bytes) (table_by d bytes) q a x (same_table c d bytes h)

pub keeps_blocked : (es : List (ℕ × Entry)) (ids : Ids) (c d : Shared) (bytes : List ℕ) (q : List Event) (a : Config)
    (x : Option Ended) (w : Say) → (w, d) ≡ too_many_blocked c
    → KeepsAll None [] es ids (table_by c bytes) q a x es ids (table_by d bytes) q a x
keeps_blocked es ids c d bytes q a x w h =
    keeps_same es ids c d bytes q a x (subst (λ (o : Shared). IsSameTable c o) (sym (ap (λ p. p.1) h)) (blocked_same c))

pub keeps_own_stopped : (es : List (ℕ × Entry)) (ids : Ids) (c d : Shared) (bytes : List ℕ) (q : List Event) (a : Config)
    (x : Option Ended) (own : Purpose) (w : Option Fault) → (d, w) ≡ stops c own
    → KeepsAll None [] es ids (table_by c bytes) q a x es ids (table_by d bytes) q a x
keeps_own_stopped es ids c d bytes q a x own w h =
    keeps_same es ids c d bytes q a x (subst (λ (o : Shared). IsSameTable c o) (sym (ap (λ p. p.0) h)) (own_stopped_same c own))

pub keeps_datagram : (es : List (ℕ × Entry)) (ids : Ids) (c d : Shared) (bytes : List ℕ) (q : List Event) (a : Config)
    (x : Option Ended) (datagram : List ℕ) → d ≡ after_datagram c datagram
    → KeepsAll None [] es ids (table_by c bytes) q a x es ids (table_by d bytes) q a x
keeps_datagram es ids c d bytes q a x datagram h =
    keeps_same es ids c d bytes q a x (subst (λ (o : Shared). IsSameTable c o) (sym h) (datagram_same c datagram))

-- a stream joins its session, or not
pub keeps_joining : (es : List (ℕ × Entry)) (ids : Ids) (c d : Shared) (bytes : List ℕ) (q : List Event) (a : Config)
    (x : Option Ended) (id : ℕ) (e f : Entry) (w : Say) (k : Known) → entry_at es id ≡ Some e
    → (w, d, f.reading.stream) ≡ joins c e.reading.stream k
    → Moves e.reading.stream f.reading.stream → IsStill e.reading f.reading
    → f.peer ≡ e.peer → f.is_decoder ≡ e.is_decoder → standing_of f ≡ standing_of e → own_in (Some f) ≡ own_in (Some e)
    → KeepsAll None [] es ids (table_by c bytes) q a x (set_value (is_at (nat_cmp id)) es f) ids (table_by d bytes) q a x
keeps_joining es ids c d bytes q a x id e f w k there told moves still peer decoder t o = keeps_then
    (keeps_turned es ids (table_by c bytes) q a x id e f there moves still peer decoder t o)
    (keeps_same (set_value (is_at (nat_cmp id)) es f) ids c d bytes q a x
    (told_table c d told (joins_same c e.reading.stream k)))

-- nothing else changes, and the table has another form
pub keeps_formed : (es fs : List (ℕ × Entry)) (ids jds : Ids) (t u : Table) (q r : List Event) (a b : Config)
    (x y : Option Ended) → fs ≡ es → jds ≡ ids → u ≡ t → r ≡ q → b ≡ a → y ≡ x → KeepsAll None [] es ids t q a x fs jds u r b y
keeps_formed es fs ids jds t u q r a b x y h i k l m n = rw (h, i, l, m, n) (keeps_tabled None es ids t u q a x k)
