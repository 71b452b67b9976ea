-- What a look at the bytes of a stream reads, and what is kept.
use Rattle.std.proofs.Common.{◌++◌, ◌≡◌, ◌≤◌, ◌&&◌, ℕ, List, [], ◌∷◌, Some, Bool, true, false, cond, refl, arith, inl, inr, sym, ap, ◌∙◌, take, length, append-nil, length-take, subst}
use Rattle.std.specs.Prelude.{◌==◌, min}
use Rattle.std.specs.Ordering.{nat_cmp}
use Rattle.std.specs.Map.{lookup, set_value}
use Rattle.std.specs.BTreeMap.{is_at}
use Rattle.wtp_webtransport.specs.declared.connection.Connection.{Connection as Shared}
use Rattle.wtp_webtransport.specs.Events.{Told as Say}
use Rattle.wtp_webtransport.specs.Events as say
use Rattle.wtp_webtransport.proofs.PlaceLemmas.{called_within}
use Rattle.vesgrauf_stream.specs.Reading.{Hears, Keeps, Says, without_payload, kept_of, unread, is_ended}
use Rattle.vesgrauf_stream.specs.declared.bytes.Chunk.{Chunk}
use Rattle.vesgrauf_stream.specs.declared.reading.Reading.{Reading}
use Rattle.vesgrauf_stream.specs.declared.reading.Found.{Found}
use Rattle.vesgrauf_stream.specs.declared.reading.Found.TheVariants as found
use Rattle.vesgrauf.specs.declared.entry.Entry.{Entry}
use Rattle.vesgrauf.specs.declared.entry.Peer.{Peer}
use Rattle.vesgrauf.specs.declared.entry.Peer.TheVariants as peer
use Rattle.vesgrauf.specs.declared.input.Input.{Input}
use Rattle.vesgrauf.specs.declared.input.Report.TheVariants as report
use Rattle.vesgrauf.specs.Items.{Item, items_of, items_found}
use Rattle.vesgrauf.specs.Theirs.{Gone, Unread, Still, theirs_by, theirs_of, theirs_in, theirs_at, AreRead, IsRead, Same, ReadsOn, with_chunk, more_bytes, ends_in, is_of}
use Rattle.vesgrauf.proofs.ReadsLemmas.{none_left, same_key, set_here, set_there, read_left}

and_right : (a b : Bool) → (a && b) ≡ true → b ≡ true
and_right true b h = h
and_right false b h = absurd (cc h)

and_left : (a b : Bool) → (a && b) ≡ true → a ≡ true
and_left true b h = refl
and_left false b h = absurd (cc h)

-- no bytes come after the end
more_as : (ended : Bool) (kept bytes : List ℕ) → (ended ≡ true → length bytes ≤ 0) → more_bytes ended kept bytes ≡ kept ++ bytes
more_as true kept bytes h = sym (ap (λ l. kept ++ l) (none_left bytes (h refl)) ∙ append-nil kept)
more_as false kept bytes h = refl

rest_fresh : (a b : Bool) (m n : ℕ) → b ≡ a → n ≤ m → (a ≡ true → m ≤ 0) → b ≡ true → n ≤ 0
rest_fresh a b m n same short fresh h =
    let none : m ≤ 0 = fresh (sym same ∙ h) in
    omega (arith, none, short)

-- the payload of SETTINGS is no items
no_payload : (say : Say) → items_of (without_payload say) ≡ items_of say
no_payload (say.Settings settings payload) = refl
no_payload other = refl

heard_says : (f : Found) (say : Say) (reach all : ℕ) → Says f say reach all → items_of say ≡ items_found f
heard_says (found.Heard h) say reach all p = sym (no_payload say) ∙ ap items_of (sym p.0)
heard_says found.Again say reach all p = ap items_of p.0

theirs_same : (e f : Entry) → f.peer ≡ e.peer → f.is_decoder ≡ e.is_decoder
    → theirs_of f ≡ theirs_by e.peer e.is_decoder f.reading
theirs_same e f p q = ap (λ x. theirs_by x f.is_decoder f.reading) p ∙ ap (λ x. theirs_by e.peer x f.reading) q

call_reads : (consumed reach : ℕ) (bytes : List ℕ) → consumed ≤ length (take reach bytes)
    → length (take reach bytes) ≡ min reach (length bytes) → consumed ≤ reach
call_reads consumed reach bytes h e = omega (arith, h, e)

hears_read : (limit : ℕ) (c d : Shared) (r s : Reading) (i j : Chunk) (found : Found) → c.over ≡ false
    → (r.ended ≡ true → length i.bytes.now ≤ 0) → (s.ended ≡ true → length j.bytes.now ≤ 0)
    → Hears limit c r i found d s j
    → AreRead (with_chunk (Unread (kept_of r) r.ended r.stream) i) (items_found found)
    (with_chunk (Unread (kept_of s) s.ended s.stream) j)
hears_read limit c d r s i j found l fresh left h = record {
  bytes = unread r i;
  rest = unread s j;
  ended = is_ended r i;
  before = r.stream;
  after = s.stream;
  pieces = record { reach = h.reach; consumed = h.consumed; say = h.say } ∷ [];
  from = ap (λ l. Unread l (is_ended r i) r.stream) (more_as r.ended (kept_of r) i.bytes.now fresh);
  to = ap (λ l. Unread l (is_ended s j) s.stream) (more_as s.ended (kept_of s) j.bytes.now left)
      ∙ ap (λ e. Unread (unread s j) e s.stream) h.ends;
  calls = (
    r.stream,
    s.stream,
    Still refl,
    record {
      limit = limit;
      c = c;
      d = d;
      fin = h.reach == length (unread r i) && is_ended r i;
      lives = l;
      within = h.within;
      reads = call_reads h.consumed h.reach (unread r i) (called_within limit c r.stream (take h.reach (unread r i))
          (h.reach == length (unread r i) && is_ended r i) (h.consumed, h.say, d, s.stream) h.gives)
          (length-take h.reach (unread r i));
      ends = λ e. (
        and_right (h.reach == length (unread r i)) (is_ended r i) e,
        let all : (h.reach == length (unread r i)) ≡ true = and_left (h.reach == length (unread r i)) (is_ended r i) e in
            grind (arith, all),
      );
      gives = h.gives;
    },
    (h.left, Still refl),
  );
  says = append-nil (items_of h.say) ∙ heard_says found h.say h.reach (length (unread r i)) h.says;
}

-- a stream is read, and nothing is said of items if its bytes are instructions for the own encoder
reads_by_peer : (p : Peer) (b : Bool) (limit : ℕ) (c d : Shared) (r s : Reading) (i j : Chunk) (found told : Found)
    → p ≡ peer.Reads → (b ≡ false → told ≡ found) → (b ≡ true → items_found told ≡ [])
    → c.over ≡ false → (r.ended ≡ true → length i.bytes.now ≤ 0) → (s.ended ≡ true → length j.bytes.now ≤ 0)
    → Hears limit c r i found d s j
    → IsRead (with_chunk (theirs_by p b r) i) (items_found told) (with_chunk (theirs_by p b s) j)
reads_by_peer peer.Reads false limit c d r s i j found told g same none l fresh left h = (
  with_chunk (Unread (kept_of s) s.ended s.stream) j,
  inr (subst (λ f. AreRead (with_chunk (Unread (kept_of r) r.ended r.stream) i) (items_found f)
      (with_chunk (Unread (kept_of s) s.ended s.stream) j)) (sym (same refl))
      (hears_read limit c d r s i j found l fresh left h)),
  inl refl,
)
reads_by_peer peer.Reads true limit c d r s i j found told g same none l fresh left h =
    (Gone, inl (refl, none refl), inl refl)
reads_by_peer other b limit c d r s i j found told g same none l fresh left h = absurd (cc g)

-- what an entry finds
pub looked : (e f : Entry) (limit : ℕ) (c d : Shared) (i j : Chunk) (found told : Found)
    → e.peer ≡ peer.Reads → (e.is_decoder ≡ false → told ≡ found) → (e.is_decoder ≡ true → items_found told ≡ [])
    → f.peer ≡ e.peer → f.is_decoder ≡ e.is_decoder → c.over ≡ false
    → (e.reading.ended ≡ true → length i.bytes.now ≤ 0) → f.reading.ended ≡ e.reading.ended
    → length j.bytes.now ≤ length i.bytes.now → Hears limit c e.reading i found d f.reading j
    → IsRead (with_chunk (theirs_of e) i) (items_found told) (with_chunk (theirs_of f) j)
looked e f limit c d i j found told g same none p q l fresh ended short h =
    subst (λ y. IsRead (with_chunk (theirs_of e) i) (items_found told) (with_chunk y j)) (sym (theirs_same e f p q))
    (reads_by_peer e.peer e.is_decoder limit c d e.reading f.reading i j found told g same none l fresh
    (rest_fresh e.reading.ended f.reading.ended (length i.bytes.now) (length j.bytes.now) ended short fresh) h)

pub looked_plain : (e f : Entry) (limit : ℕ) (c d : Shared) (i j : Chunk) (found : Found)
    → e.peer ≡ peer.Reads → e.is_decoder ≡ false → e.reading.ended ≡ false
    → f.peer ≡ e.peer → f.is_decoder ≡ e.is_decoder → f.reading.ended ≡ e.reading.ended → c.over ≡ false
    → Hears limit c e.reading i found d f.reading j
    → IsRead (with_chunk (theirs_of e) i) (items_found found) (with_chunk (theirs_of f) j)
looked_plain e f limit c d i j found g n still p q ended l h =
    subst (λ y. IsRead (with_chunk (theirs_of e) i) (items_found found) (with_chunk y j)) (sym (theirs_same e f p q))
    (reads_by_peer e.peer e.is_decoder limit c d e.reading f.reading i j found found g (λ _. refl)
    (λ t. absurd (cc (sym n ∙ t))) l (λ t. absurd (cc (sym still ∙ t))) (λ t. absurd (cc (sym still ∙ (sym ended ∙ t)))) h)

pub not_looked : (e : Entry) (i : Chunk) → IsRead (with_chunk (theirs_of e) i) [] (with_chunk (theirs_of e) i)
not_looked e i = read_left (with_chunk (theirs_of e) i) (with_chunk (theirs_of e) i) (inl refl)

-- and then its stream
pub reads_set : (es : List (ℕ × Entry)) (id : ℕ) (e f : Entry) (items : List Item) (i j : Chunk)
    → lookup (is_at (nat_cmp id)) es ≡ Some e
    → IsRead (with_chunk (theirs_of e) i) items (with_chunk (theirs_of f) j)
    → ReadsOn id items es i (set_value (is_at (nat_cmp id)) es f) j
reads_set es id e f items i j h p = record {
  here = subst (λ y. IsRead (with_chunk (theirs_at es id) i) items (with_chunk y j))
      (sym (ap theirs_in (set_here es id e f h)))
      (subst (λ x. IsRead (with_chunk x i) items (with_chunk (theirs_of f) j)) (sym (ap theirs_in h)) p);
  there = λ k t. inl (ap theirs_in (set_there es id k e f h t));
}

pub counted_set : (es : List (ℕ × Entry)) (id : ℕ) (e f g : Entry) (items : List Item) (i j : Chunk)
    → lookup (is_at (nat_cmp id)) es ≡ Some e → theirs_of g ≡ theirs_of f
    → IsRead (with_chunk (theirs_of e) i) items (with_chunk (theirs_of f) j)
    → ReadsOn id items es i (set_value (is_at (nat_cmp id)) es g) j
counted_set es id e f g items i j h q p =
    reads_set es id e g items i j h
    (subst (λ t. IsRead (with_chunk (theirs_of e) i) items (with_chunk t j)) (sym q) p)

-- the bytes of an input are kept
keeps_by_peer : (p : Peer) (b : Bool) (r s : Reading) (i j : Chunk) → Keeps r i s j
    → (r.ended ≡ true → length i.bytes.now ≤ 0) → theirs_by p b s ≡ with_chunk (theirs_by p b r) i
keeps_by_peer peer.Reads false r s i j k fresh = ap (λ l. Unread l s.ended s.stream) k.kept
    ∙ ap (λ e. Unread (unread r i) e s.stream) k.ended ∙ ap (λ t. Unread (unread r i) (is_ended r i) t) k.stream
    ∙ sym (ap (λ l. Unread l (is_ended r i) r.stream) (more_as r.ended (kept_of r) i.bytes.now fresh))
keeps_by_peer peer.Reads true r s i j k fresh = refl
keeps_by_peer other b r s i j k fresh = refl

keep_at : (b : Bool) (es : List (ℕ × Entry)) (id k : ℕ) (e f : Entry) (i j : Chunk)
    → is_at (nat_cmp id) k ≡ b
    → lookup (is_at (nat_cmp id)) es ≡ Some e → f.peer ≡ e.peer → f.is_decoder ≡ e.is_decoder
    → Keeps e.reading i f.reading j → (e.reading.ended ≡ true → length i.bytes.now ≤ 0)
    → theirs_at (set_value (is_at (nat_cmp id)) es f) k ≡ cond b (with_chunk (theirs_at es k) i) (theirs_at es k)
keep_at true es id k e f i j t h p q keeps fresh =
    subst (λ n. theirs_at (set_value (is_at (nat_cmp id)) es f) n ≡ with_chunk (theirs_at es n) i) (same_key id k t)
    (ap theirs_in (set_here es id e f h) ∙ theirs_same e f p q
    ∙ keeps_by_peer e.peer e.is_decoder e.reading f.reading i j keeps fresh ∙ sym (ap (λ o. with_chunk (theirs_in o) i) h))
keep_at false es id k e f i j t h p q keeps fresh = ap theirs_in (set_there es id k e f h t)

pub keep_set : (es : List (ℕ × Entry)) (id : ℕ) (e f : Entry) (i j : Input)
    → lookup (is_at (nat_cmp id)) es ≡ Some e → f.peer ≡ e.peer → f.is_decoder ≡ e.is_decoder
    → Keeps e.reading i.chunk f.reading j.chunk → (ends_in (lookup (is_at (nat_cmp id)) es) ≡ true → length i.chunk.bytes.now ≤ 0)
    → i.report ≡ report.Stream id → j.report ≡ report.Nothing
    → Same es i (set_value (is_at (nat_cmp id)) es f) j
keep_set es id e f i j h p q keeps fresh s n = record {
  each = λ k. inl (rw (ap (λ x. is_of x k) n, ap (λ x. is_of x k) s)
      (keep_at (is_at (nat_cmp id) k) es id k e f i.chunk j.chunk refl h p q keeps
      (λ t. fresh (ap ends_in h ∙ t))));
}
