-- What steps tell of what is read, and streams that come to be.
use Rattle.std.proofs.Common.{◌≡◌, ℕ, List, [], Option, None, Some, Bool, true, false, cond, refl, arith, inl, inr, sym, ap, ◌∙◌, subst}
use Rattle.std.specs.Prelude.{◌==◌, ◌%◌, ◌+◌, nat_lt}
use Rattle.std.proofs.lemmas.Bool.Decides.{nat_tests}
use Rattle.std.specs.Ordering.{nat_cmp}
use Rattle.std.specs.Map.{lookup, set_value}
use Rattle.std.specs.BTreeMap.{is_at}
use Rattle.wtp_webtransport.specs.declared.connection.Connection.{Connection as Shared}
use Rattle.wtp_webtransport.specs.Events as say
use Rattle.vesgrauf_stream.specs.declared.bytes.Chunk.{Chunk}
use Rattle.vesgrauf_stream.specs.declared.reading.Reading.{Reading}
use Rattle.vesgrauf_stream.specs.Reading.{kept_of}
use Rattle.vesgrauf.specs.declared.entry.Entry.{Entry}
use Rattle.vesgrauf.specs.declared.event.Event.{Event}
use Rattle.vesgrauf.specs.declared.input.Input.{Input}
use Rattle.vesgrauf.specs.declared.input.Report.TheVariants as report
use Rattle.vesgrauf.specs.declared.connection.ids.Ids.{Ids}
use Rattle.vesgrauf.specs.Ids.{was, seen, own_bit, kind_of, next_own, next_peer}
use Rattle.vesgrauf.specs.declared.output.StreamKind.{StreamKind}
use Rattle.vesgrauf.specs.declared.output.StreamKind.TheVariants as kind
use Rattle.vesgrauf.specs.Items.{Item, has_end, items_of, items_told}
use Rattle.vesgrauf.specs.Theirs.{Theirs, Gone, Unread, theirs_of, theirs_in, theirs_at, IsLeft, Left, IsRead, IsTold, Same, ReadsOn, ReadsKept, Hands, Passes, IsHanded, TellsKept, Tells, IsBlank, IsStart, Accepts, TellsAll, unread_at, with_input, with_chunk, items_on, is_of, told_in, IsSilent, IsOf, OnlyAt}
use Rattle.vesgrauf.specs.Inputs.{IsSameOrRead}
use Rattle.vesgrauf.specs.declared.connection.Step.{Step}
use Rattle.vesgrauf.specs.declared.connection.Step.TheVariants as step
use Rattle.wtp_connection.specs.declared.connection.Known.{Known}
use Rattle.wtp_connection.specs.declared.stream.Stream.{Stream as Frames}
use Rattle.wtp_connection.specs.declared.stream.Stream.TheVariants as frames
use Rattle.wtp_core.specs.declared.error.scope.ErrorScope.{ErrorScope}
use Rattle.wtp_core.specs.declared.error.scope.ErrorScope.TheVariants as scope
use Rattle.wtp_webtransport.specs.declared.fault.Fault.{Fault}
use Rattle.wtp_webtransport.specs.declared.fault.Fault.TheVariants as fault
use Rattle.wtp_webtransport.specs.declared.stream.Stream.{Stream}
use Rattle.wtp_connection.specs.Streams.{Joined as After, joins as joins_streams}
use Rattle.wtp_webtransport.specs.Joining.{Outcome, joins, joined_by, joined_told, joining_of}
use Rattle.wtp_webtransport.specs.Receiving.{closed_in}
use Rattle.wtp_webtransport.specs.Fault.{scope_of}
use Rattle.wtp_webtransport.specs.Streams.{with_streams, accepted}
use Rattle.vesgrauf.proofs.ReadsLemmas.{same_key, read_left, gone_left_by, read_steps, gone_by, left_same, same_steps, same_passes, hand_with, input_by, chunk_none, none_left, on_none, none_ends, kept_left, chunk_left, same_tell, set_here, set_there, left_steps, read_then, reads_at}

-- ---- after a read

pub reads_left : (id : ℕ) (items : List Item) (c d e : List (ℕ × Entry)) (i j : Chunk)
    → ReadsOn id items c i d j → Left d e → ReadsOn id items c i e j
reads_left id items c d e i j p q = record {
  here = read_then (with_chunk (theirs_at c id) i) (with_chunk (theirs_at d id) j) (with_chunk (theirs_at e id) j)
      items p.here (chunk_left (theirs_at d id) (theirs_at e id) j (q.each id));
  there = λ k t. left_steps (theirs_at c k) (theirs_at d k) (theirs_at e k) (p.there k t) (q.each k);
}

pub gone_set : (es : List (ℕ × Entry)) (id : ℕ) (e f : Entry) → lookup (is_at (nat_cmp id)) es ≡ Some e
    → theirs_of f ≡ Gone → theirs_at (set_value (is_at (nat_cmp id)) es f) id ≡ Gone
gone_set es id e f h p = ap theirs_in (set_here es id e f h) ∙ p

pub reads_tell : (id : ℕ) (said : ℕ → List Item) (c d : List (ℕ × Entry)) (i j : Input)
    → i.report ≡ report.Stream id → j.report ≡ report.Stream id → ((k : ℕ) → said k ≡ [])
    → ReadsOn id [] c i.chunk d j.chunk → Tells said c i d j
reads_tell id said c d i j h g silent p = record {
  each = λ k. (
    subst (λ a. IsRead (unread_at c i k) a (unread_at d j k)) (on_none (is_at (nat_cmp id) k) ∙ sym (silent k))
        (reads_at id k [] c d i j h g p),
    λ e. absurd (none_ends (said k) (silent k) e),
  );
}

-- one stream changes, and no other
pub only_set : (es : List (ℕ × Entry)) (id : ℕ) (e f : Entry) → lookup (is_at (nat_cmp id)) es ≡ Some e
    → OnlyAt id es (set_value (is_at (nat_cmp id)) es f)
only_set es id e f h = record { each = λ k t. ap theirs_in (set_there es id k e f h t) }

pub only_none : (es : List (ℕ × Entry)) (id : ℕ) → OnlyAt id es es
only_none es id = record { each = λ k t. refl }

-- ---- steps that read nothing

silent_none : (s : Step) (k : ℕ) → IsSilent s → told_in s k ≡ []
silent_none (step.Told e) k h = ap (λ l. items_on e.stream l k) h ∙ on_none (is_at (nat_cmp e.stream) k)
silent_none step.More k h = refl
silent_none step.Nothing k h = refl

handed_left : (x y : Theirs) (items said : List Item) → said ≡ items → said ≡ [] → IsLeft x y → IsHanded x items said y
handed_left x y items said h n p = inl (p, h, λ e. absurd (none_ends said n e))

pub left_hands : (id : ℕ) (s : Step) (c d : List (ℕ × Entry)) → IsSilent s → Left c d → Hands id [] (told_in s) c d
left_hands id s c d h p = record {
  each = λ k. handed_left (theirs_at c k) (theirs_at d k) (items_on id [] k) (told_in s k)
      (silent_none s k h ∙ sym (on_none (is_at (nat_cmp id) k))) (silent_none s k h) (p.each k);
}

pub silent_hands : (id : ℕ) (items : List Item) (s : Step) (c d : List (ℕ × Entry)) → items ≡ [] → IsSilent s → Left c d
    → Hands id items (told_in s) c d
silent_hands id items s c d e h p = subst (λ l. Hands id l (told_in s) c d) (sym e) (left_hands id s c d h p)

pub left_tells : (s : Step) (c d : List (ℕ × Entry)) (i : Input) → IsSilent s → Left c d → Tells (told_in s) c i d i
left_tells s c d i h p = same_tell (told_in s) c d i i (λ k. silent_none s k h) (left_same c d i p)

pub left_reads : (id : ℕ) (items : List Item) (c d : List (ℕ × Entry)) (i : Chunk) → items ≡ [] → Left c d
    → ReadsOn id items c i d i
left_reads id items c d i h p = record {
  here = subst (λ l. IsRead (with_chunk (theirs_at c id) i) l (with_chunk (theirs_at d id) i)) (sym h)
      (read_left (with_chunk (theirs_at c id) i) (with_chunk (theirs_at d id) i)
      (chunk_left (theirs_at c id) (theirs_at d id) i (p.each id)));
  there = λ k t. p.each k;
}

pub gone_left : (c d : List (ℕ × Entry)) (id : ℕ) → theirs_at c id ≡ Gone → Left c d → theirs_at d id ≡ Gone
gone_left c d id h p = gone_left_by (theirs_at c id) (theirs_at d id) h (p.each id)

pub same_left : (c d e : List (ℕ × Entry)) (i j : Input) → Same c i d j → Left d e → Same c i e j
same_left c d e i j p q = same_steps c d e i j j p (left_same d e j q)

pub left_then_same : (c d e : List (ℕ × Entry)) (i j : Input) → Left c d → Same d i e j → Same c i e j
left_then_same c d e i j p q = same_steps c d e i i j (left_same c d i p) q

-- ---- inputs that are taken in without a read

-- bytes of a stream that is not read are dropped
dropped_by : (b g : Bool) (id k : ℕ) (c d : List (ℕ × Entry)) (i j : Chunk) → is_at (nat_cmp id) k ≡ b
    → (b ≡ false → g ≡ false) → theirs_at c id ≡ Gone → Left c d
    → IsLeft (cond b (with_chunk (theirs_at c k) i) (theirs_at c k)) (cond g (with_chunk (theirs_at d k) j) (theirs_at d k))
dropped_by true g id k c d i j t f h p =
    let gone : theirs_at d k ≡ Gone = subst (λ n. theirs_at d n ≡ Gone) (same_key id k t) (gone_left c d id h p) in
    inr (inl (ap (λ x. cond g (with_chunk x j) x) gone ∙ gone_by g))
dropped_by false g id k c d i j t f h p =
    subst (λ x. IsLeft (theirs_at c k) (cond x (with_chunk (theirs_at d k) j) (theirs_at d k))) (sym (f refl)) (p.each k)

pub dropped_same : (id : ℕ) (c d : List (ℕ × Entry)) (i j : Input) → i.report ≡ report.Stream id
    → theirs_at c id ≡ Gone → j.report ≡ report.Nothing → Left c d → Same c i d j
dropped_same id c d i j r h n p = record {
  each = λ k. rw (input_by i.report id k r, ap (λ x. is_of x k) n)
      (dropped_by (is_at (nat_cmp id) k) false id k c d i.chunk j.chunk refl (λ _. refl) h p);
}

pub passed_same : (id : ℕ) (c d : List (ℕ × Entry)) (i j : Input) → i.report ≡ report.Stream id
    → theirs_at c id ≡ Gone → j.report ≡ i.report → Left c d → Same c i d j
passed_same id c d i j r h n p = record {
  each = λ k. rw (input_by j.report id k (n ∙ r), input_by i.report id k r)
      (dropped_by (is_at (nat_cmp id) k) (is_at (nat_cmp id) k) id k c d i.chunk j.chunk refl (λ e. e) h p);
}

-- an input that says nothing of bytes
pub reported_tells : (s : Step) (c d : List (ℕ × Entry)) (i j : Input) → ((k : ℕ) → is_of i.report k ≡ false)
    → j.report ≡ report.Nothing → IsSilent s → Left c d → Tells (told_in s) c i d j
reported_tells s c d i j h n q p = same_tell (told_in s) c d i j (λ k. silent_none s k q) (record {
  each = λ k. rw (h k, ap (λ x. is_of x k) n) (p.each k);
})

-- all bytes of an input were read
taken_none : (b : Bool) (x y : Theirs) → y ≡ x → x ≡ cond b y x
taken_none true x y h = sym h
taken_none false x y h = refl

taken_by : (i j : Input) (k : ℕ) (x : Theirs) → IsSameOrRead i j → with_input j k x ≡ with_input i k x
taken_by i j k x (inl p) = ap (λ n. with_input n k x) p
taken_by i j k x (inr p) =
    ap (λ r. cond (is_of r k) (with_chunk x j.chunk) x) p.report
    ∙ taken_none (is_of i.report k) x (with_chunk x i.chunk) (chunk_none x i.chunk (none_left i.chunk.bytes.now (omega (arith, p.bytes))) p.fin)

pub taken_passes : (id : ℕ) (items : List Item) (said : ℕ → List Item) (c d : List (ℕ × Entry)) (i j : Input)
    → IsSameOrRead i j → Hands id items said c d → Passes id items said c i d j
taken_passes id items said c d i j t p = record {
  each = λ k. subst (λ y. IsHanded (unread_at c i k) (items_on id items k) (said k) y)
      (sym (taken_by i j k (theirs_at d k) t))
      (hand_with i k (theirs_at c k) (theirs_at d k) (items_on id items k) (said k) (p.each k));
}

-- ---- what joins a session says

joined_silent : (before : Option ℕ) (f : Frames) → items_of (joined_told before f) ≡ []
joined_silent (Some id) (frames.Session of) = refl
joined_silent (Some id) (frames.Waiting for) = refl
joined_silent before other = refl

closed_silent : (c : Shared) (f : Fault) (s : ErrorScope) → items_of (closed_in c f s).1 ≡ []
closed_silent c f scope.Stream = refl
closed_silent c f other = refl

after_silent : (c : Shared) (s : Stream) (before : Option ℕ) (a : After) → items_of (joined_by c s before a).0 ≡ []
after_silent c s before (d, t, None) = joined_silent before t
after_silent c s before (d, t, Some f) =
    closed_silent (with_streams c d) (fault.Streams f) (scope_of (fault.Streams f))

joins_by : (b : Bool) (c : Shared) (s : Stream) (x : Outcome) → items_of x.0 ≡ []
    → items_of (cond b (say.More, c, s) x).0 ≡ []
joins_by true c s x h = refl
joins_by false c s x h = h

pub joins_silent : (c : Shared) (s : Stream) (k : Known) → items_of (joins c s k).0 ≡ []
joins_silent c s k =
    joins_by c.over c s (joined_by c s (joining_of s.frames) (joins_streams c.streams s.frames k))
    (after_silent c s (joining_of s.frames) (joins_streams c.streams s.frames k))

-- ---- streams that come to be

pub all_of : (a : Ids) (said : ℕ → List Item) (c d : List (ℕ × Entry)) (i j : Input) → Tells said c i d j
    → TellsAll a said c i d j
all_of a said c d i j p = record { each = λ k. (theirs_at c k, inl refl, p.each k) }

pub accepts_all : (a b : Ids) (said : ℕ → List Item) (c d e : List (ℕ × Entry)) (i j : Input)
    → Accepts a c b d → Tells said d i e j → TellsAll a said c i e j
accepts_all a b said c d e i j p q = record { each = λ k. (theirs_at d k, p.each k, q.each k) }

start_by : (id : ℕ) (s t : Bool) (x y z : Theirs) → (s ≡ true → t ≡ true) → IsStart id s x y → IsStart id t y z
    → IsStart id s x z
start_by id s t x y z h (inl p) (inl q) = inl (q ∙ p)
start_by id s t x y z h (inr p) (inl q) =
    inr (p.0, record { at = p.1.at; new = p.1.new; nothing = q ∙ p.1.nothing })
start_by id true t x y z h p (inr q) = absurd (cc (h refl, q.0))
start_by id false t x y z h p (inr q) = inr (refl, q.1)

pub accepts_steps : (a b f : Ids) (c d e : List (ℕ × Entry)) → Accepts a c b d → Accepts b d f e → Accepts a c f e
accepts_steps a b f c d e p q = record {
  each = λ k. start_by k (was a k) (was b k) (theirs_at c k) (theirs_at d k) (theirs_at e k) (p.seen k) (p.each k) (q.each k);
  seen = λ k h. q.seen k (p.seen k h);
}

pub accepts_none : (a : Ids) (c : List (ℕ × Entry)) → Accepts a c a c
accepts_none a c = record { each = λ k. inl refl; seen = λ k h. h }

-- a stream of the peer of which nothing came
pub blank_of : (r : Reading) (c : Shared) (id : ℕ) → r.stream ≡ (accepted c id).1 → kept_of r ≡ [] → r.ended ≡ false
    → IsBlank id (Unread (kept_of r) r.ended r.stream)
blank_of r c id at kept ended = record {
  at = r.stream;
  new = record { c = c; is = at };
  nothing = ap (λ l. Unread l r.ended r.stream) kept ∙ ap (λ e. Unread [] e r.stream) ended;
}

accept_by : (b : Bool) (a : Ids) (es fs : List (ℕ × Entry)) (id k : ℕ) (e : Entry) → is_at (nat_cmp id) k ≡ b
    → was a id ≡ false → IsBlank id (theirs_of e)
    → lookup (is_at (nat_cmp id)) fs ≡ Some e
    → ((k : ℕ) → is_at (nat_cmp id) k ≡ false → lookup (is_at (nat_cmp k)) fs ≡ lookup (is_at (nat_cmp k)) es)
    → IsStart k (was a k) (theirs_at es k) (theirs_at fs k)
accept_by true a es fs id k e t w n here there =
    subst (λ m. IsStart m (was a m) (theirs_at es m) (theirs_at fs m)) (same_key id k t)
    (inr (w, record { at = n.at; new = n.new; nothing = ap theirs_in here ∙ n.nothing }))
accept_by false a es fs id k e t w n here there = inl (ap theirs_in (there k t))

seen_lt : (id n : ℕ) → nat_lt id n ≡ true → nat_lt id (n + 4) ≡ true
seen_lt id n h = grind (arith, nat_tests, h)

was_by : (b : Bool) (kd kk : StreamKind) (a : Ids) (k : ℕ)
    → cond b (nat_lt k (next_own a kk)) (nat_lt k (next_peer a kk)) ≡ true
    → cond b (nat_lt k (next_own (seen a kd) kk)) (nat_lt k (next_peer (seen a kd) kk)) ≡ true
was_by true kind.Bidirectional kind.Bidirectional a k h = h
was_by true kind.Bidirectional kind.Unidirectional a k h = h
was_by true kind.Unidirectional kind.Bidirectional a k h = h
was_by true kind.Unidirectional kind.Unidirectional a k h = h
was_by false kind.Bidirectional kind.Bidirectional a k h = seen_lt k a.peer_bidirectional h
was_by false kind.Bidirectional kind.Unidirectional a k h = h
was_by false kind.Unidirectional kind.Bidirectional a k h = h
was_by false kind.Unidirectional kind.Unidirectional a k h = seen_lt k a.peer_unidirectional h

was_seen : (kd : StreamKind) (a : Ids) (k : ℕ) → was a k ≡ true → was (seen a kd) k ≡ true
was_seen kind.Bidirectional a k h = was_by (k % 2 == own_bit a.side) kind.Bidirectional (kind_of k) a k h
was_seen kind.Unidirectional a k h = was_by (k % 2 == own_bit a.side) kind.Unidirectional (kind_of k) a k h

pub seen_next : (b : Bool) (kd : StreamKind) (a : Ids) (k : ℕ) → was a k ≡ true → was (cond b (seen a kd) a) k ≡ true
seen_next true kd a k h = was_seen kd a k h
seen_next false kd a k h = h

pub accepts_insert : (a b : Ids) (t : Bool) (kd : StreamKind) (es fs : List (ℕ × Entry)) (id : ℕ) (e : Entry)
    → was a id ≡ false → IsBlank id (theirs_of e) → b ≡ cond t (seen a kd) a
    → lookup (is_at (nat_cmp id)) fs ≡ Some e
    → ((k : ℕ) → is_at (nat_cmp id) k ≡ false → lookup (is_at (nat_cmp k)) fs ≡ lookup (is_at (nat_cmp k)) es)
    → Accepts a es b fs
accepts_insert a b t kd es fs id e w n i here there = record {
  each = λ k. accept_by (is_at (nat_cmp id) k) a es fs id k e refl w n here there;
  seen = λ k h. subst (λ x. was x k ≡ true) (sym i) (seen_next t kd a k h);
}

-- ---- steps that tell nothing

pub more_tells : (c d : List (ℕ × Entry)) (i j : Input) → Same c i d j → Tells (told_in step.More) c i d j
more_tells c d i j p = same_tell (told_in step.More) c d i j (λ k. refl) p

pub left_more_tells : (c d e : List (ℕ × Entry)) (i j : Input) → Left c d → Same d i e j
    → Tells (told_in step.More) c i e j
left_more_tells c d e i j p q = more_tells c e i j (left_then_same c d e i j p q)

pub reads_more_tells : (id : ℕ) (c d : List (ℕ × Entry)) (i j : Input)
    → i.report ≡ report.Stream id → j.report ≡ report.Stream id → ReadsOn id [] c i.chunk d j.chunk
    → Tells (told_in step.More) c i d j
reads_more_tells id c d i j h g p = reads_tell id (told_in step.More) c d i j h g (λ k. refl) p

pub more_passes : (id : ℕ) (c d : List (ℕ × Entry)) (i j : Input) → Same c i d j
    → Passes id [] (told_in step.More) c i d j
more_passes id c d i j p = same_passes id (told_in step.More) c d i j (λ k. refl) p

pub same_more_passes : (id : ℕ) (c d e : List (ℕ × Entry)) (i j : Input) → Same c i d j → Left d e
    → Passes id [] (told_in step.More) c i e j
same_more_passes id c d e i j p q = more_passes id c e i j (same_left c d e i j p q)

pub left_more_passes : (id : ℕ) (c d e : List (ℕ × Entry)) (i j : Input) → Left c d → Same d i e j
    → Passes id [] (told_in step.More) c i e j
left_more_passes id c d e i j p q = more_passes id c e i j (left_then_same c d e i j p q)

pub more_hands : (id : ℕ) (c d : List (ℕ × Entry)) → Left c d → Hands id [] (told_in step.More) c d
more_hands id c d p = left_hands id step.More c d tt p

pub more_kept : (id : ℕ) (c d : List (ℕ × Entry)) → ReadsKept id [] c d → TellsKept (told_in step.More) c d
more_kept id c d p =
    kept_left id (told_in step.More) c d d (λ k. refl) p (record { each = λ k. inl refl })

pub none_kept : (c : List (ℕ × Entry)) → TellsKept (told_in step.More) c c
none_kept c = record {
  each = λ k. (read_left (theirs_at c k) (theirs_at c k) (inl refl), λ e. absurd (let bad : false ≡ true = e in cc));
}

-- items is told on its stream, or the stream is read no further
hand_by : (b : Bool) (x : Theirs) (items : List Item) → has_end items ≡ false
    → IsHanded x (cond b items []) (cond b items []) x
hand_by true x items n = inl (inl refl, refl, λ e. absurd (let bad : false ≡ true = sym n ∙ e in cc))
hand_by false x items n = inl (inl refl, refl, λ e. absurd (let bad : false ≡ true = e in cc))

pub told_hands : (id : ℕ) (items : List Item) (e : Event) (c : List (ℕ × Entry)) → e.stream ≡ id
    → items_told e.kind ≡ items → has_end items ≡ false → Hands id items (told_in (step.Told e)) c c
told_hands id items e c p q n = record {
  each = λ k. rw (p, q) (hand_by (is_at (nat_cmp id) k) (theirs_at c k) items n);
}

gone_by_id : (b : Bool) (id k : ℕ) (items : List Item) (c d : List (ℕ × Entry)) → is_at (nat_cmp id) k ≡ b
    → Left c d → theirs_at d id ≡ Gone → IsHanded (theirs_at c k) (cond b items []) [] (theirs_at d k)
gone_by_id true id k items c d t p g =
    inr (subst (λ n. theirs_at d n ≡ Gone) (same_key id k t) g, refl)
gone_by_id false id k items c d t p g = inl (p.each k, refl, λ e. absurd (let bad : false ≡ true = e in cc))

handed_then : (x y z : Theirs) (items said : List Item) → IsHanded x items said y → IsLeft y z → IsHanded x items said z
handed_then x y z items said (inl p) q = inl (left_steps x y z p.0 q, p.1, λ e. gone_left_by y z (p.2 e) q)
handed_then x y z items said (inr p) q = inr (gone_left_by y z p.0 q, p.1)

-- and then nothing is read
pub hands_left : (id : ℕ) (items : List Item) (s : Step) (c d e : List (ℕ × Entry)) → Hands id items (told_in s) c d
    → Left d e → Hands id items (told_in s) c e
hands_left id items s c d e p q = record {
  each = λ k. handed_then (theirs_at c k) (theirs_at d k) (theirs_at e k) (items_on id items k) (told_in s k)
      (p.each k) (q.each k);
}

then_handed : (x y z : Theirs) (items said : List Item) → IsLeft x y → IsHanded y items said z → IsHanded x items said z
then_handed x y z items said q (inl p) = inl (left_steps x y z q p.0, p.1, p.2)
then_handed x y z items said q (inr p) = inr p

-- nothing is read, and then this is told
pub left_then_hands : (id : ℕ) (items : List Item) (s : Step) (c d e : List (ℕ × Entry)) → Left c d
    → Hands id items (told_in s) d e → Hands id items (told_in s) c e
left_then_hands id items s c d e q p = record {
  each = λ k. then_handed (theirs_at c k) (theirs_at d k) (theirs_at e k) (items_on id items k) (told_in s k)
      (q.each k) (p.each k);
}

pub gone_hands : (id : ℕ) (items : List Item) (c d : List (ℕ × Entry)) → Left c d → theirs_at d id ≡ Gone
    → Hands id items (told_in step.More) c d
gone_hands id items c d p g = record {
  each = λ k. gone_by_id (is_at (nat_cmp id) k) id k items c d refl p g;
}

told_gone_by : (b : Bool) (x z : Theirs) (items : List Item) → (b ≡ true → z ≡ Gone) → IsLeft x z
    → IsHanded x (cond b items []) (cond b items []) z
told_gone_by true x z items g l = inl (l, refl, λ e. g refl)
told_gone_by false x z items g l = inl (l, refl, λ e. absurd (let bad : false ≡ true = e in cc))

-- it is told on its stream, which is read no further
pub told_or_gone : (id : ℕ) (items : List Item) (s : Step) (c d : List (ℕ × Entry)) → IsOf id items s → Left c d
    → theirs_at d id ≡ Gone → Hands id items (told_in s) c d
told_or_gone id items (step.Told e) c d p q g = record {
  each = λ k. rw (p.0, p.1) (told_gone_by (is_at (nat_cmp id) k) (theirs_at c k) (theirs_at d k) items
      (λ t. subst (λ n. theirs_at d n ≡ Gone) (same_key id k t) g) (q.each k));
}
told_or_gone id items step.More c d p q g = gone_hands id items c d q g
told_or_gone id items step.Nothing c d p q g = record { each = (gone_hands id items c d q g).each }

-- nothing was read and told, and then this
start_none : (id : ℕ) (s : Bool) (u v x y : Theirs) (f : Theirs → Theirs) (items : List Item) → IsRead (f u) [] (f v)
    → IsStart id s v x → IsTold (f x) items y → (t : Theirs) × IsStart id s u t × IsTold (f t) items y
start_none id s u v x y f items p (inl h) r =
    (u, inl refl, (read_steps (f u) (f v) y [] items p (subst (λ t. IsRead (f t) items y) h r.0), r.1))
start_none id s u v x y f items p (inr h) r = (x, inr h, r)

pub none_all : (a : Ids) (quiet said : ℕ → List Item) (c d e : List (ℕ × Entry)) (i l : Input)
    → ((k : ℕ) → quiet k ≡ []) → Tells quiet c i d i → TellsAll a said d i e l → TellsAll a said c i e l
none_all a quiet said c d e i l h p q = record {
  each = λ k. start_none k (was a k) (theirs_at c k) (theirs_at d k) (q.each k).0 (unread_at e l k) (with_input i k)
      (said k) (subst (λ b. IsRead (unread_at c i k) b (unread_at d i k)) (h k) (p.each k).0) (q.each k).1 (q.each k).2;
}
