-- What is read of the peer's halves of streams, one call after the other.
use Rattle.std.proofs.Common.{◌≡◌, ◌++◌, ◌||◌, ◌<◌, ◌≤◌, ℕ, List, [], ◌∷◌, Some, Bool, true, false, cond, refl, arith, inl, inr, sym, ap, ◌∙◌, drop, length, append_assoc, append-nil, length-append, subst, le_trans, Ordering, Less, Equal, Greater}
use Rattle.std.specs.Ordering.{nat_cmp, is_eq, MatchOrdering}
use Rattle.std.specs.Cmp.{nat_cmp_is}
use Rattle.std.specs.Map.{lookup, set_value}
use Rattle.std.specs.BTreeMap.{is_at}
use Rattle.std.proofs.lemmas.Cmp.{ranked, nat_cmp_total, eq_by_cmp_equiv}
use Rattle.std.proofs.lemmas.Map.{lookup-set_value}
use Rattle.std.proofs.lemmas.List.{take-append-le, drop-append-le}
use Rattle.wtp_webtransport.specs.Tables.{Call}
use Rattle.wtp_webtransport.specs.declared.stream.Stream.{Stream}
use Rattle.vesgrauf_stream.specs.declared.bytes.Chunk.{Chunk}
use Rattle.vesgrauf.specs.declared.entry.Entry.{Entry}
use Rattle.vesgrauf.specs.declared.input.Input.{Input}
use Rattle.vesgrauf.specs.declared.input.Report.{Report}
use Rattle.vesgrauf.specs.declared.input.Report.TheVariants as report
use Rattle.vesgrauf.specs.Items.{Item, has_end, items_of}
use Rattle.vesgrauf.specs.Theirs.{Theirs, Gone, Unread, theirs_at, IsLeft, Left, Piece, IsCall, AreCalls, all_items, AreRead, IsReadTo, IsRead, IsTold, Turns, Still, Then, IsTurned, Same, ReadsOn, ReadsKept, Hands, Passes, IsHanded, TellsKept, Tells, unread_at, with_input, with_chunk, more_bytes, items_on, is_of}

-- ---- calls one after the other

pub turns_trans : (s t u : Stream) → Turns s t → Turns t u → Turns s u
turns_trans s t u (Still h) q = subst (λ o. Turns o u) h q
turns_trans s t u (Then m a b) q = Then m a (turns_trans m t u b q)

-- calls that follow others which read nothing
pub calls_turned : (qs : List Piece) (bytes rest : List ℕ) (ended : Bool) (s t u : Stream) → Turns s t
    → AreCalls qs bytes ended t rest u → AreCalls qs bytes ended s rest u
calls_turned [] bytes rest ended s t u h q = (q.0, turns_trans s t u h q.1)
calls_turned (x ∷ qs) bytes rest ended s t u h q = (q.0, q.1, turns_trans s t q.0 h q.2, q.3, q.4)

pub calls_join : (ps qs : List Piece) (bytes mid rest : List ℕ) (ended : Bool) (s t u : Stream)
    → AreCalls ps bytes ended s mid t → AreCalls qs mid ended t rest u → AreCalls (ps ++ qs) bytes ended s rest u
calls_join [] qs bytes mid rest ended s t u p q =
    calls_turned qs bytes rest ended s t u p.1 (subst (λ b. AreCalls qs b ended t rest u) p.0 q)
calls_join (x ∷ ps) qs bytes mid rest ended s t u p q =
    (p.0, p.1, p.2, p.3, calls_join ps qs (drop x.consumed bytes) mid rest ended p.1 t u p.4 q)

pub items_join : (ps qs : List Piece) → all_items (ps ++ qs) ≡ all_items ps ++ all_items qs
items_join [] qs = refl
items_join (p ∷ ps) qs =
    ap (λ l. items_of p.say ++ l) (items_join ps qs) ∙ sym (append_assoc (items_of p.say) (all_items ps) (all_items qs))

-- ---- IDs

same_by : (r : Ordering) (a b : ℕ) → MatchOrdering r (a < b) (a ≡ b) (b < a) → is_eq r ≡ true → a ≡ b
same_by Less a b h t = cc
same_by Equal a b h t = h
same_by Greater a b h t = cc

-- two keys that are at one place are the same
pub same_key : (a b : ℕ) → is_at (nat_cmp a) b ≡ true → a ≡ b
same_key a b t = same_by (nat_cmp a b) a b (ranked a b (nat_cmp a b) refl) t

own_key : (a : ℕ) → is_at (nat_cmp a) a ≡ true
own_key a = ap is_eq (sym (nat_cmp_is a a Equal refl))

-- ---- what is written at a key

set_look : (es : List (ℕ × Entry)) (id k : ℕ) (e f : Entry) → lookup (is_at (nat_cmp id)) es ≡ Some e
    → lookup (is_at (nat_cmp k)) (set_value (is_at (nat_cmp id)) es f)
    ≡ cond (is_at (nat_cmp id) k) (Some f) (lookup (is_at (nat_cmp k)) es)
set_look es id k e f h =
    lookup-set_value (eq_by_cmp_equiv nat_cmp_total) (is_at (nat_cmp id))
    (λ x y t. ap (λ n. is_eq (nat_cmp n y)) (same_key id x t)) k f es (rw h refl)

pub set_here : (es : List (ℕ × Entry)) (id : ℕ) (e f : Entry) → lookup (is_at (nat_cmp id)) es ≡ Some e
    → lookup (is_at (nat_cmp id)) (set_value (is_at (nat_cmp id)) es f) ≡ Some f
set_here es id e f h = set_look es id id e f h ∙ ap (λ b. cond b (Some f) (lookup (is_at (nat_cmp id)) es)) (own_key id)

pub set_there : (es : List (ℕ × Entry)) (id k : ℕ) (e f : Entry) → lookup (is_at (nat_cmp id)) es ≡ Some e
    → is_at (nat_cmp id) k ≡ false
    → lookup (is_at (nat_cmp k)) (set_value (is_at (nat_cmp id)) es f) ≡ lookup (is_at (nat_cmp k)) es
set_there es id k e f h t =
    set_look es id k e f h ∙ ap (λ b. cond b (Some f) (lookup (is_at (nat_cmp k)) es)) t

-- ---- one step

pub left_refl : (x : Theirs) → IsLeft x x
left_refl x = inl refl

turned_steps : (x y z : Theirs) → IsTurned x y → IsTurned y z → IsTurned x z
turned_steps Gone y z p q = absurd p
turned_steps (Unread bytes ended s) y z p q =
    let r : IsTurned (Unread bytes ended p.0) z = subst (λ o. IsTurned o z) p.2 q in
    (r.0, turns_trans s p.0 r.0 p.1 r.1, r.2)

pub left_steps : (x y z : Theirs) → IsLeft x y → IsLeft y z → IsLeft x z
left_steps x y z p (inr (inl q)) = inr (inl q)
left_steps x y z (inl p) q = subst (λ o. IsLeft o z) p q
left_steps x y z (inr (inl p)) (inl q) = inr (inl (q ∙ p))
left_steps x y z (inr (inl p)) (inr (inr q)) = absurd (subst (λ o. IsTurned o z) p q)
left_steps x y z (inr (inr p)) (inl q) = inr (inr (subst (λ o. IsTurned x o) (sym q) p))
left_steps x y z (inr (inr p)) (inr (inr q)) = inr (inr (turned_steps x y z p q))

-- nothing is read of what is left
pub read_left : (x y : Theirs) → IsLeft x y → IsRead x [] y
read_left x y p = (x, inl (refl, refl), p)

join_reads : (x y z : Theirs) (a b : List Item) → AreRead x a y → AreRead y b z → AreRead x (a ++ b) z
join_reads x y z a b p q =
    let same : p.rest ≡ q.bytes = cc in
    let fin : q.ended ≡ p.ended = cc in
    let at : q.before ≡ p.after = cc in
    record {
      bytes = p.bytes;
      rest = q.rest;
      ended = p.ended;
      before = p.before;
      after = q.after;
      pieces = p.pieces ++ q.pieces;
      from = p.from;
      to = q.to ∙ ap (λ e. Unread q.rest e q.after) fin;
      calls = calls_join p.pieces q.pieces p.bytes p.rest q.rest p.ended p.before p.after q.after p.calls
          (subst (λ u. AreCalls q.pieces p.rest p.ended u q.rest q.after) at
          (subst (λ e. AreCalls q.pieces p.rest e q.before q.rest q.after) fin
          (subst (λ l. AreCalls q.pieces l q.ended q.before q.rest q.after) (sym same) q.calls)));
      says = items_join p.pieces q.pieces ∙ cc;
    }

join_to : (x y z : Theirs) (a b : List Item) → IsReadTo x a y → IsReadTo y b z → IsReadTo x (a ++ b) z
join_to x y z a b (inl p) (inl q) = inl (q.0 ∙ p.0, ap (λ l. l ++ b) p.1 ∙ q.1)
join_to x y z a b (inl p) (inr q) =
    inr (subst (λ l. AreRead x (l ++ b) z) (sym p.1) (subst (λ t. AreRead t b z) p.0 q))
join_to x y z a b (inr p) (inl q) =
    inr (subst (λ l. AreRead x (a ++ l) z) (sym q.1)
    (subst (λ l. AreRead x l z) (sym (append-nil a)) (subst (λ t. AreRead x a t) (sym q.0) p)))
join_to x y z a b (inr p) (inr q) = inr (join_reads x y z a b p q)

-- what is gone stays so
pub gone_left_by : (x y : Theirs) → x ≡ Gone → IsLeft x y → y ≡ Gone
gone_left_by x y h (inl p) = p ∙ h
gone_left_by x y h (inr (inl p)) = p
gone_left_by x y h (inr (inr p)) = absurd (subst (λ o. IsTurned o y) h p)

-- and nothing is read of it
gone_read : (x z : Theirs) (items : List Item) → x ≡ Gone → IsReadTo x items z → (z ≡ Gone) × (items ≡ [])
gone_read x z items h (inl p) = (p.0 ∙ h, p.1)
gone_read x z items h (inr p) = absurd (cc (h, p.from))

pub gone_is_read : (x z : Theirs) (items : List Item) → x ≡ Gone → IsRead x items z → (z ≡ Gone) × (items ≡ [])
gone_is_read x z items h p =
    let g : (p.0 ≡ Gone) × (items ≡ []) = gone_read x p.0 items h p.1 in
    (gone_left_by p.0 z g.0 p.2, g.1)

turned_read : (x y z : Theirs) (items : List Item) → IsTurned x y → AreRead y items z → AreRead x items z
turned_read Gone y z items p r = absurd p
turned_read (Unread bytes ended s) y z items p r =
    let whole : Unread bytes ended p.0 ≡ Unread r.bytes r.ended r.before = sym p.2 ∙ r.from in
    let same : bytes ≡ r.bytes = cc in
    let fin : ended ≡ r.ended = cc in
    let at : p.0 ≡ r.before = cc in
    record {
      bytes = r.bytes;
      rest = r.rest;
      ended = r.ended;
      before = s;
      after = r.after;
      pieces = r.pieces;
      from = ap (λ l. Unread l ended s) same ∙ ap (λ e. Unread r.bytes e s) fin;
      to = r.to;
      calls = calls_turned r.pieces r.bytes r.rest r.ended s r.before r.after (subst (λ o. Turns s o) at p.1) r.calls;
      says = r.says;
    }

turned_to : (x y u z : Theirs) (items : List Item) → IsTurned x y → IsReadTo y items u → IsLeft u z → IsRead x items z
turned_to x y u z items p (inl r) l =
    (x, inl (refl, r.1), left_steps x u z (inr (inr (subst (λ o. IsTurned x o) (sym r.0) p))) l)
turned_to x y u z items p (inr r) l = (u, inr (turned_read x y u items p r), l)

-- nothing is read, and then this
quiet_by : (x y z : Theirs) (said : List Item) → IsLeft x y → IsRead y said z → IsRead x said z
quiet_by x y z said (inl p) q = subst (λ t. IsRead t said z) p q
quiet_by x y z said (inr (inl p)) q =
    let g : (z ≡ Gone) × (said ≡ []) = gone_is_read y z said p q in
    (x, inl (refl, g.1), inr (inl g.0))
quiet_by x y z said (inr (inr p)) q = turned_to x y q.0 z said p q.1 q.2

steps_by : (x u z : Theirs) (a b : List Item) → IsReadTo x a u → IsRead u b z → IsRead x (a ++ b) z
steps_by x u z a b p q = (q.0, join_to x u q.0 a b p q.1, q.2)

pub read_steps : (x y z : Theirs) (a b : List Item) → IsRead x a y → IsRead y b z → IsRead x (a ++ b) z
read_steps x y z a b p q = steps_by x p.0 z a b p.1 (quiet_by p.0 y z b p.2 q)

pub read_then : (x y z : Theirs) (items : List Item) → IsRead x items y → IsLeft y z → IsRead x items z
read_then x y z items p q = (p.0, p.1, left_steps p.0 y z p.2 q)

pub none_ends : (items : List Item) → items ≡ [] → has_end items ≡ true → ⊥
none_ends [] h e = let bad : false ≡ true = e in cc
none_ends (i ∷ items) h e = cc h

pub hand_steps : (x y z : Theirs) (a b : List Item) → IsRead x a y → IsHanded y a b z → IsTold x b z
hand_steps x y z a b p (inl q) = (subst (λ l. IsRead x l z) (sym q.1) (read_then x y z a p q.0), q.2)
hand_steps x y z a b p (inr q) = ((x, inl (refl, q.1), inr (inl q.0)), λ e. q.0)

-- ---- with an input

pub gone_by : (b : Bool) → cond b Gone Gone ≡ Gone
gone_by true = refl
gone_by false = refl

with_gone : (i : Input) (k : ℕ) → with_input i k Gone ≡ Gone
with_gone i k = gone_by (is_of i.report k)

turned_chunk : (x y : Theirs) (i : Chunk) → IsTurned x y → IsTurned (with_chunk x i) (with_chunk y i)
turned_chunk Gone y i p = absurd p
turned_chunk (Unread bytes ended s) y i p = (p.0, p.1, ap (λ t. with_chunk t i) p.2)

turned_by : (b : Bool) (x y : Theirs) (i : Chunk) → IsTurned x y
    → IsTurned (cond b (with_chunk x i) x) (cond b (with_chunk y i) y)
turned_by true x y i p = turned_chunk x y i p
turned_by false x y i p = p

left_with : (i : Input) (k : ℕ) (x y : Theirs) → IsLeft x y → IsLeft (with_input i k x) (with_input i k y)
left_with i k x y (inl p) = inl (ap (with_input i k) p)
left_with i k x y (inr (inl p)) = inr (inl (ap (with_input i k) p ∙ with_gone i k))
left_with i k x y (inr (inr p)) = inr (inr (turned_by (is_of i.report k) x y i.chunk p))

-- nothing is read and the input stays: no byte is read or lost
pub left_same : (c d : List (ℕ × Entry)) (i : Input) → Left c d → Same c i d i
left_same c d i p = record { each = λ k. left_with i k (theirs_at c k) (theirs_at d k) (p.each k) }

pub same_steps : (c d e : List (ℕ × Entry)) (i j k : Input) → Same c i d j → Same d j e k → Same c i e k
same_steps c d e i j k p q =
    record { each = λ n. left_steps (unread_at c i n) (unread_at d j n) (unread_at e k n) (p.each n) (q.each n) }

-- nothing is heard, and nothing is told
passes_by : (b : Bool) (x y : Theirs) (said : List Item) → said ≡ [] → IsLeft x y → IsHanded x (cond b [] []) said y
passes_by true x y said h p = inl (p, h, λ e. absurd (none_ends said h e))
passes_by false x y said h p = inl (p, h, λ e. absurd (none_ends said h e))

pub same_passes : (id : ℕ) (said : ℕ → List Item) (c d : List (ℕ × Entry)) (i j : Input) → ((k : ℕ) → said k ≡ [])
    → Same c i d j → Passes id [] said c i d j
same_passes id said c d i j h p = record {
  each = λ k. passes_by (is_at (nat_cmp id) k) (unread_at c i k) (unread_at d j k) (said k) (h k) (p.each k);
}

pub hand_with : (i : Input) (k : ℕ) (x y : Theirs) (a b : List Item) → IsHanded x a b y
    → IsHanded (with_input i k x) a b (with_input i k y)
hand_with i k x y a b (inl p) = inl (left_with i k x y p.0, p.1, λ e. ap (with_input i k) (p.2 e) ∙ with_gone i k)
hand_with i k x y a b (inr p) = inr (ap (with_input i k) p.0 ∙ with_gone i k, p.1)

pub hands_passes : (id : ℕ) (items : List Item) (said : ℕ → List Item) (c d : List (ℕ × Entry)) (i : Input)
    → Hands id items said c d → Passes id items said c i d i
hands_passes id items said c d i p = record {
  each = λ k. hand_with i k (theirs_at c k) (theirs_at d k) (items_on id items k) (said k) (p.each k);
}

-- ---- bytes of one stream are read

-- with an input of this stream
reads_by : (b : Bool) (id k : ℕ) (items : List Item) (c d : List (ℕ × Entry)) (i j : Chunk)
    → is_at (nat_cmp id) k ≡ b → ReadsOn id items c i d j
    → IsRead (cond b (with_chunk (theirs_at c k) i) (theirs_at c k)) (cond b items [])
    (cond b (with_chunk (theirs_at d k) j) (theirs_at d k))
reads_by true id k items c d i j h p =
    subst (λ n. IsRead (with_chunk (theirs_at c n) i) items (with_chunk (theirs_at d n) j)) (same_key id k h) p.here
reads_by false id k items c d i j h p = read_left (theirs_at c k) (theirs_at d k) (p.there k h)

pub input_by : (r : Report) (id k : ℕ) → r ≡ report.Stream id → is_of r k ≡ is_at (nat_cmp id) k
input_by r id k h = ap (λ x. is_of x k) h

pub reads_at : (id k : ℕ) (items : List Item) (c d : List (ℕ × Entry)) (i j : Input)
    → i.report ≡ report.Stream id → j.report ≡ report.Stream id
    → ReadsOn id items c i.chunk d j.chunk
    → IsRead (unread_at c i k) (items_on id items k) (unread_at d j k)
reads_at id k items c d i j h g p =
    rw (input_by i.report id k h, input_by j.report id k g)
    (reads_by (is_at (nat_cmp id) k) id k items c d i.chunk j.chunk refl p)

pub reads_pass : (id : ℕ) (items : List Item) (said : ℕ → List Item) (c d e : List (ℕ × Entry)) (i j l : Input)
    → i.report ≡ report.Stream id → j.report ≡ report.Stream id
    → ReadsOn id items c i.chunk d j.chunk → Passes id items said d j e l → Tells said c i e l
reads_pass id items said c d e i j l h g p q = record {
  each = λ k. hand_steps (unread_at c i k) (unread_at d j k) (unread_at e l k) (items_on id items k) (said k)
      (reads_at id k items c d i j h g p) (q.each k);
}

-- without an input
pub chunk_none : (x : Theirs) (i : Chunk) → i.bytes.now ≡ [] → i.fin ≡ false → with_chunk x i ≡ x
chunk_none Gone i h g = refl
chunk_none (Unread bytes true s) i h g = refl
chunk_none (Unread bytes false s) i h g =
    ap (λ l. Unread l i.fin s) (ap (λ l. bytes ++ l) h ∙ append-nil bytes) ∙ ap (λ b. Unread bytes b s) g

pub none_left : (l : List ℕ) → length l ≤ 0 → l ≡ []
none_left [] h = refl
none_left (x ∷ l) h = absurd (omega (arith, h))

pub reads_kept : (id : ℕ) (items : List Item) (c d : List (ℕ × Entry)) (i j : Chunk)
    → i.bytes.now ≡ [] → i.fin ≡ false → length j.bytes.now ≤ 0 → j.fin ≡ false
    → ReadsOn id items c i d j → ReadsKept id items c d
reads_kept id items c d i j e f g h p = record {
  here = subst (λ y. IsRead (theirs_at c id) items y)
      (chunk_none (theirs_at d id) j (none_left j.bytes.now g) h)
      (subst (λ x. IsRead x items (with_chunk (theirs_at d id) j)) (chunk_none (theirs_at c id) i e f) p.here);
  there = p.there;
}

kept_by : (b : Bool) (id k : ℕ) (items : List Item) (c d : List (ℕ × Entry)) → is_at (nat_cmp id) k ≡ b
    → ReadsKept id items c d → IsRead (theirs_at c k) (cond b items []) (theirs_at d k)
kept_by true id k items c d t p =
    subst (λ n. IsRead (theirs_at c n) items (theirs_at d n)) (same_key id k t) p.here
kept_by false id k items c d t p = read_left (theirs_at c k) (theirs_at d k) (p.there k t)

pub kept_hands : (id : ℕ) (items : List Item) (said : ℕ → List Item) (c d e : List (ℕ × Entry))
    → ReadsKept id items c d → Hands id items said d e → TellsKept said c e
kept_hands id items said c d e p q = record {
  each = λ k. hand_steps (theirs_at c k) (theirs_at d k) (theirs_at e k) (items_on id items k) (said k)
      (kept_by (is_at (nat_cmp id) k) id k items c d refl p) (q.each k);
}

pub on_none : (b : Bool) → cond {A = List Item} b [] [] ≡ []
on_none true = refl
on_none false = refl

pub kept_left : (id : ℕ) (said : ℕ → List Item) (c d e : List (ℕ × Entry)) → ((k : ℕ) → said k ≡ [])
    → ReadsKept id [] c d → Left d e → TellsKept said c e
kept_left id said c d e h p q = record {
  each = λ k. (
    subst (λ a. IsRead (theirs_at c k) a (theirs_at e k)) (on_none (is_at (nat_cmp id) k) ∙ sym (h k))
        (read_then (theirs_at c k) (theirs_at d k) (theirs_at e k) (items_on id [] k)
        (kept_by (is_at (nat_cmp id) k) id k [] c d refl p) (q.each k)),
    λ x. absurd (none_ends (said k) (h k) x),
  );
}

-- more bytes follow
call_more : (bytes more : List ℕ) (fin : Bool) (p : Piece) (s t : Stream) → IsCall bytes false p s t
    → IsCall (bytes ++ more) fin p s t
call_more bytes more fin p s t h = record {
  limit = h.limit;
  c = h.c;
  d = h.d;
  fin = h.fin;
  lives = h.lives;
  within = omega (arith, h.within, length-append bytes more);
  reads = h.reads;
  ends = λ e. absurd (let bad : false ≡ true = (h.ends e).0 in cc);
  gives = subst (λ l. Call h.limit h.c s l h.fin (p.consumed, p.say, h.d, t))
      (sym (take-append-le p.reach bytes more h.within)) h.gives;
}

pub calls_more : (ps : List Piece) (bytes more rest : List ℕ) (ended fin : Bool) (s t : Stream)
    → AreCalls ps bytes ended s rest t
    → AreCalls ps (more_bytes ended bytes more) (ended || fin) s (more_bytes ended rest more) t
calls_more ps bytes more rest true fin s t h = h
calls_more [] bytes more rest false fin s t h = (ap (λ l. l ++ more) h.0, h.1)
calls_more (p ∷ ps) bytes more rest false fin s t h = (
  h.0,
  h.1,
  h.2,
  call_more bytes more fin p h.0 h.1 h.3,
  subst (λ l. AreCalls ps l fin h.1 (rest ++ more) t)
      (sym (drop-append-le p.consumed bytes more (le_trans h.3.reads h.3.within)))
      (calls_more ps (drop p.consumed bytes) more rest false fin h.1 t h.4),
)

read_more : (x y : Theirs) (items : List Item) (i : Chunk) → AreRead x items y
    → AreRead (with_chunk x i) items (with_chunk y i)
read_more x y items i p = record {
  bytes = more_bytes p.ended p.bytes i.bytes.now;
  rest = more_bytes p.ended p.rest i.bytes.now;
  ended = p.ended || i.fin;
  before = p.before;
  after = p.after;
  pieces = p.pieces;
  from = ap (λ t. with_chunk t i) p.from;
  to = ap (λ t. with_chunk t i) p.to;
  calls = calls_more p.pieces p.bytes i.bytes.now p.rest p.ended i.fin p.before p.after p.calls;
  says = p.says;
}

to_more : (x y : Theirs) (items : List Item) (i : Chunk) → IsReadTo x items y
    → IsReadTo (with_chunk x i) items (with_chunk y i)
to_more x y items i (inl p) = inl (ap (λ t. with_chunk t i) p.0, p.1)
to_more x y items i (inr p) = inr (read_more x y items i p)

pub chunk_left : (x y : Theirs) (i : Chunk) → IsLeft x y → IsLeft (with_chunk x i) (with_chunk y i)
chunk_left x y i (inl p) = inl (ap (λ t. with_chunk t i) p)
chunk_left x y i (inr (inl p)) = inr (inl (ap (λ t. with_chunk t i) p))
chunk_left x y i (inr (inr p)) = inr (inr (turned_chunk x y i p))

with_read : (b : Bool) (x y : Theirs) (items : List Item) (i : Chunk) → IsRead x items y
    → IsRead (cond b (with_chunk x i) x) items (cond b (with_chunk y i) y)
with_read true x y items i p =
    (with_chunk p.0 i, to_more x p.0 items i p.1, chunk_left p.0 y i p.2)
with_read false x y items i p = p

pub kept_tells : (said : ℕ → List Item) (c d : List (ℕ × Entry)) (i : Input) → TellsKept said c d → Tells said c i d i
kept_tells said c d i p = record {
  each = λ k. (
    with_read (is_of i.report k) (theirs_at c k) (theirs_at d k) (said k) i.chunk (p.each k).0,
    λ e. ap (with_input i k) ((p.each k).1 e) ∙ with_gone i k,
  );
}

-- ---- steps

pub same_tells : (said : ℕ → List Item) (c d e : List (ℕ × Entry)) (i j l : Input)
    → Same c i d j → Tells said d j e l → Tells said c i e l
same_tells said c d e i j l p q = record {
  each = λ k. (
    quiet_by (unread_at c i k) (unread_at d j k) (unread_at e l k) (said k) (p.each k) (q.each k).0,
    (q.each k).1,
  );
}

-- nothing was told, and then this
pub tells_steps : (quiet said : ℕ → List Item) (c d e : List (ℕ × Entry)) (i j l : Input) → ((k : ℕ) → quiet k ≡ [])
    → Tells quiet c i d j → Tells said d j e l → Tells said c i e l
tells_steps quiet said c d e i j l h p q = record {
  each = λ k. (
    subst (λ a. IsRead (unread_at c i k) (a ++ said k) (unread_at e l k)) (h k)
        (read_steps (unread_at c i k) (unread_at d j k) (unread_at e l k) (quiet k) (said k) (p.each k).0 (q.each k).0),
    (q.each k).1,
  );
}

pub same_tell : (said : ℕ → List Item) (c d : List (ℕ × Entry)) (i j : Input) → ((k : ℕ) → said k ≡ [])
    → Same c i d j → Tells said c i d j
same_tell said c d i j h p = record {
  each = λ k. (
    subst (λ a. IsRead (unread_at c i k) a (unread_at d j k)) (sym (h k))
        (read_left (unread_at c i k) (unread_at d j k) (p.each k)),
    λ e. absurd (none_ends (said k) (h k) e),
  );
}
