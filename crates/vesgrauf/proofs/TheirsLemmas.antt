-- What the peer sends on the streams of a connection.
use Rattle.std.proofs.Common.{◌≡◌, ℕ, List, [], ◌∷◌, Option, Some, Bool, true, false, cond, refl, arith, inl, inr, ap, ◌∙◌}
use Rattle.std.specs.Ordering.{nat_cmp}
use Rattle.std.specs.Map.{lookup, set_value}
use Rattle.std.specs.BTreeMap.{is_at}
use Rattle.vesgrauf.specs.declared.entry.Entry.{Entry}
use Rattle.vesgrauf_stream.specs.Moves.{Moves}
use Rattle.vesgrauf_stream.specs.Reading.{kept_of, IsStill}
use Rattle.vesgrauf_stream.specs.declared.reading.Reading.{Reading}
use Rattle.vesgrauf.specs.declared.entry.Peer.{Peer}
use Rattle.vesgrauf.specs.declared.entry.Peer.TheVariants as peer
use Rattle.vesgrauf.specs.Own.{entry_at}
use Rattle.vesgrauf.specs.Theirs.{Unread, Still, Then, theirs_by, theirs_in, theirs_at, IsLeft, Left}

-- ---- one stream changes

-- by whether each of two IDs is that of the first entry
set_by : (a b : Bool) (e f : Entry) (x y z : Option Entry)
    → IsLeft (theirs_in (cond a (Some e) z)) (theirs_in (Some f))
    → (IsLeft (theirs_in z) (theirs_in (Some f)) → IsLeft (theirs_in x) (theirs_in y))
    → IsLeft (theirs_in (cond b (Some e) x)) (theirs_in (cond b (cond a (Some f) (Some e)) (cond a x y)))
set_by true true e f x y z q h = q
set_by true false e f x y z q h = inl refl
set_by false true e f x y z q h = inl refl
set_by false false e f x y z q h = h q

look_by : (a b : Bool) (key : ℕ) (e f : Entry) (es rest : List (ℕ × Entry)) (k : ℕ) → b ≡ is_at (nat_cmp k) key
    → lookup (is_at (nat_cmp k)) (cond a ((key, f) ∷ es) ((key, e) ∷ rest))
    ≡ cond b (cond a (Some f) (Some e)) (cond a (lookup (is_at (nat_cmp k)) es) (lookup (is_at (nat_cmp k)) rest))
look_by true true key e f es rest k h = grind (arith, h)
look_by true false key e f es rest k h = grind (arith, h)
look_by false true key e f es rest k h = grind (arith, h)
look_by false false key e f es rest k h = grind (arith, h)

set_at : (es : List (ℕ × Entry)) (id k : ℕ) (f : Entry) → IsLeft (theirs_at es id) (theirs_in (Some f))
    → IsLeft (theirs_at es k) (theirs_at (set_value (is_at (nat_cmp id)) es f) k)
set_at [] id k f q = inl refl
set_at ((key, e) ∷ es) id k f q =
    let step : IsLeft (theirs_in (cond (is_at (nat_cmp k) key) (Some e) (lookup (is_at (nat_cmp k)) es)))
    (theirs_in (cond (is_at (nat_cmp k) key) (cond (is_at (nat_cmp id) key) (Some f) (Some e))
    (cond (is_at (nat_cmp id) key) (lookup (is_at (nat_cmp k)) es)
    (lookup (is_at (nat_cmp k)) (set_value (is_at (nat_cmp id)) es f)))))
    = set_by (is_at (nat_cmp id) key) (is_at (nat_cmp k) key) e f (lookup (is_at (nat_cmp k)) es)
    (lookup (is_at (nat_cmp k)) (set_value (is_at (nat_cmp id)) es f)) (lookup (is_at (nat_cmp id)) es) q
    (λ h. set_at es id k f h)
    in rw (look_by (is_at (nat_cmp id) key) (is_at (nat_cmp k) key) key e f es
    (set_value (is_at (nat_cmp id)) es f) k refl) step

pub left_set : (es : List (ℕ × Entry)) (id : ℕ) (f : Entry) → IsLeft (theirs_at es id) (theirs_in (Some f))
    → Left es (set_value (is_at (nat_cmp id)) es f)
left_set es id f q = record { each = λ k. set_at es id k f q }

-- a call that reads nothing changes the state of a stream
turned_by : (p : Peer) (b : Bool) (r s : Reading) → Moves r.stream s.stream → IsStill r s
    → IsLeft (theirs_by p b r) (theirs_by p b s)
turned_by peer.Reads true r s m q = inl refl
turned_by peer.Reads false r s m q = inr (inr (
  s.stream,
  Then s.stream m (Still refl),
  ap (λ l. Unread l s.ended s.stream) q.kept ∙ ap (λ e. Unread (kept_of r) e s.stream) q.ended,
))
turned_by other b r s m q = inl refl

pub left_at : (es : List (ℕ × Entry)) (id : ℕ) (e f : Entry) → entry_at es id ≡ Some e
    → Moves e.reading.stream f.reading.stream → IsStill e.reading f.reading → f.peer ≡ e.peer → f.is_decoder ≡ e.is_decoder
    → IsLeft (theirs_at es id) (theirs_in (Some f))
left_at es id e f there m q p d = rw (there, p, d) (turned_by e.peer e.is_decoder e.reading f.reading m q)

pub left_turned : (es : List (ℕ × Entry)) (id : ℕ) (e f : Entry) → entry_at es id ≡ Some e
    → Moves e.reading.stream f.reading.stream → IsStill e.reading f.reading → f.peer ≡ e.peer → f.is_decoder ≡ e.is_decoder
    → Left es (set_value (is_at (nat_cmp id)) es f)
left_turned es id e f there m q p d = left_set es id f (left_at es id e f there m q p d)
