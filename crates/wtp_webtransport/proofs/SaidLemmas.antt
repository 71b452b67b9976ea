-- What the calls of a session's own stream say is what all of its bytes say.
use Rattle.std.proofs.Common.{◌≡◌, ℕ, suc, zero, ◌-◌, ◌<◌, ◌≤◌, nat_lt, Bool, false, List, [], ◌∷◌, ◌++◌, length, take, drop, Option, Some, None, Ok, Err, refl, sym, ap, subst, ◌∙◌, arith, inl, inr, append_assoc, append-nil, length-append, length-drop, length-take}
use Rattle.std.proofs.lemmas.Bool.{cases_lt, lt-ltb, le-ltb, ne_eqb}
use Rattle.std.proofs.lemmas.List.{drop-drop, take-append-drop}
use Rattle.std.proofs.Math.Seq.{take-append_seam, drop-append_seam}
use Rattle.wtp_frames.specs.Reading.{slice}
use Rattle.wtp_wire.specs.Settings.{pair_at}
use Rattle.wtp_wire.specs.CloseSession.{close_in}
use Rattle.wtp_wire.proofs.PairLemmas.{pair_at-begins}
use Rattle.wtp_wire.specs.declared.capsule.CapsuleError.TheVariants as capsule_error
use Rattle.wtp_connection.specs.Streams.{Seen, StreamRun, followed, bytes_seen, rests as rests_at}
use Rattle.wtp_webtransport.specs.declared.capsules.CapsuleType.{CapsuleType}
use Rattle.wtp_webtransport.specs.declared.capsules.CapsuleType.TheVariants as capsule
use Rattle.wtp_webtransport.specs.declared.capsules.Sort.{Sort}
use Rattle.wtp_webtransport.specs.declared.capsules.Sort.TheVariants.{Read, Skip, Refuse}
use Rattle.wtp_webtransport.specs.declared.connection.Connection.{Connection}
use Rattle.wtp_webtransport.specs.declared.fault.Fault.TheVariants as fault
use Rattle.wtp_webtransport.specs.declared.stream.Part.{Part}
use Rattle.wtp_webtransport.specs.declared.stream.Part.TheVariants as part
use Rattle.wtp_webtransport.specs.declared.stream.Stream.{Stream}
use Rattle.wtp_webtransport.specs.declared.stream.Unread.TheVariants as unread
use Rattle.wtp_webtransport.specs.Capsules.{Found, Place, Head, Value, Skipping, skipping, value_taken, starts, sort_of, head_by, Taken, taken_of, CapsuleIs, IsWithin}
use Rattle.wtp_webtransport.specs.Cuts.{Run, rests, breaks, followed as capsule_followed, after_found, run, IsProper}
use Rattle.wtp_webtransport.specs.Events.{Told, Datagram, Draining, Skipped, SessionClosed, StreamError, NoMemory}
use Rattle.wtp_webtransport.specs.Streams.{with_part, GivesNext, after_error}
use Rattle.wtp_webtransport.specs.Receiving.{Outcome, spoiled, closed_if, complete, capsule_found, goes_on, CapsulesGive}
use Rattle.wtp_webtransport.specs.Calls.{IsSession, Stops, course_of}
use Rattle.wtp_webtransport.specs.Said.{of_session, content_in, ending_in, place_told, close_told, capsules_told, Said, said_by, said_from, run_to, said, preceded, IsOpen, SaysBy, Says}
use Rattle.wtp_webtransport.proofs.CapsuleLemmas.{no_pair, tail_of}
use Rattle.wtp_webtransport.proofs.CutLemmas.{longer, still, may_be_cut}

-- ---- the place of capsules

proper : (p : Place) → IsWithin p → IsProper p
proper (Head h) w = w
proper (Value k v n) w = tt
proper (Skipping n) w = tt

value_within : (k : CapsuleType) (v : List ℕ) (n : ℕ) (y : List ℕ) → IsWithin (value_taken k v n y).1
value_within k v n y = elim (cases_lt (length y) n) [
  | inl part ↦ rw (lt-ltb (length y) n part) (omega (arith, part))
  | inr whole ↦ rw (le-ltb (length y) n whole) no_pair
]

skipping_within : (m : ℕ) → IsWithin (skipping m)
skipping_within m = elim (cases_lt 0 m) [
  | inl some ↦ rw (ne_eqb m 0 (λ z. omega (arith, z, some))) some
  | inr none ↦ let zero : m ≡ 0 = omega (arith, none) in rw zero no_pair
]

starts_within : (sort : Sort) (n : ℕ) (r : List ℕ) → IsWithin (starts sort n r).1
starts_within (Read k) n r = value_within k [] n r
starts_within Skip n r = skipping_within (n - length r)
starts_within Refuse n r = no_pair

head_within : (o : Option ((ℕ × ℕ) × List ℕ)) (g : List ℕ) → pair_at g ≡ o → IsWithin (head_by g o).1
head_within None g e = e
head_within (Some p) g e = starts_within (sort_of p.0.0 p.0.1) p.0.1 p.1

pub taken_within : (p : Place) (a : List ℕ) → IsWithin (taken_of p a).1
taken_within (Head h) a = head_within (pair_at (h ++ a)) (h ++ a) refl
taken_within (Value k v n) a = value_within k v n a
taken_within (Skipping n) a = skipping_within (n - length a)

drop_none : (n : ℕ) → drop {A = ℕ} n [] ≡ []
drop_none zero = refl
drop_none (suc n) = refl

some_skipped : (n : ℕ) → 0 < n → skipping n ≡ Skipping n
some_skipped n w = rw (ne_eqb n 0 (λ z. omega (arith, z, w))) refl

-- without bytes it goes nowhere
place_rests : (p : Place) → IsWithin p → taken_of p [] ≡ (Ok None, p, [])
place_rests (Head h) w =
    ap (λ (l : List ℕ). head_by l (pair_at l)) (append-nil h)
    ∙ ap (λ (o : Option ((ℕ × ℕ) × List ℕ)). head_by h o) w
place_rests (Value k v n) w =
    let size : n - 0 ≡ n = omega arith in
    rw (lt-ltb 0 n w) (
    ap (λ (x : List ℕ). (Ok None, Value k x (n - 0), [])) (append-nil v)
    ∙ ap (λ (m : ℕ). (Ok None, Value k v m, [])) size
    )
place_rests (Skipping n) w =
    let size : n - 0 ≡ n = omega arith in
    ap (λ (l : List ℕ). (Ok None, skipping (n - 0), l)) (drop_none n)
    ∙ ap (λ (m : ℕ). (Ok None, skipping m, [])) size
    ∙ ap (λ (q : Place). (Ok None, q, [])) (some_skipped n w)

pub run_rests : (p : Place) → IsWithin p → run p [] ≡ rests p
unfolding run
run_rests p w = still 2 p (place_rests p w)

-- the place after a capsule need not be known
pub content_cut : (r : Found) (p q : Place) (a b more : List ℕ) → IsProper p → CapsuleIs r p a q b → run p (a ++ more) ≡ after_found r (run q (b ++ more))
content_cut (Err capsule_error.Memory) p q a b more u k = may_be_cut (Err capsule_error.Memory) p q a b more u (proper q k.within) k
content_cut (Err capsule_error.TooLong) p q a b more u k = may_be_cut (Err capsule_error.TooLong) p q a b more u (proper q (subst (λ (t : Taken). IsWithin t.1) (sym k) (taken_within p a))) k
content_cut (Ok x) p q a b more u k = may_be_cut (Ok x) p q a b more u (proper q (subst (λ (t : Taken). IsWithin t.1) (sym k) (taken_within p a))) k

-- ---- the bytes that a capsule leaves are the last ones

pub record Tail (b a : List ℕ) : Type 0 where
  pub front : List ℕ
  pub parts : a ≡ front ++ b

none_tail : (a : List ℕ) → Tail [] a
none_tail a = record { front = a; parts = sym (append-nil a) }

drop_tail : (n : ℕ) (a : List ℕ) → Tail (drop n a) a
drop_tail n a = record { front = take n a; parts = sym (take-append-drop n a) }

tail_twice : (c b a : List ℕ) → Tail c b → Tail b a → Tail c a
tail_twice c b a x y = record {
  front = y.front ++ x.front;
  parts = y.parts ∙ ap (λ (l : List ℕ). y.front ++ l) x.parts ∙ sym (append_assoc y.front x.front c);
}

value_tail : (k : CapsuleType) (v : List ℕ) (n : ℕ) (y : List ℕ) → Tail (value_taken k v n y).2 y
value_tail k v n y = elim (cases_lt (length y) n) [
  | inl part ↦ rw (lt-ltb (length y) n part) (none_tail y)
  | inr whole ↦ rw (le-ltb (length y) n whole) (drop_tail n y)
]

starts_tail : (sort : Sort) (n : ℕ) (r : List ℕ) → Tail (starts sort n r).2 r
starts_tail (Read k) n r = value_tail k [] n r
starts_tail Skip n r = drop_tail n r
starts_tail Refuse n r = record { front = []; parts = refl }

rest_tail : (h a : List ℕ) (n v : ℕ) (rest : List ℕ) → pair_at h ≡ None → pair_at (h ++ a) ≡ Some ((n, v), rest) → Tail rest a
rest_tail h a n v rest none e =
    let q = pair_at-begins (h ++ a) rest n v e in
    let last : rest ≡ drop (length a - length rest) a =
    tail_of h a q.s rest (sym q.parts) (omega (arith, longer h a n v rest none e)) in
    subst (λ (l : List ℕ). Tail l a) (sym last) (drop_tail (length a - length rest) a)

head_tail : (o : Option ((ℕ × ℕ) × List ℕ)) (h a : List ℕ) → pair_at h ≡ None → pair_at (h ++ a) ≡ o → Tail (head_by (h ++ a) o).2 a
head_tail None h a none e = none_tail a
head_tail (Some p) h a none e =
    tail_twice (starts (sort_of p.0.0 p.0.1) p.0.1 p.1).2 p.1 a
    (starts_tail (sort_of p.0.0 p.0.1) p.0.1 p.1)
    (rest_tail h a p.0.0 p.0.1 p.1 none e)

taken_tail : (p : Place) (a : List ℕ) → IsWithin p → Tail (taken_of p a).2 a
taken_tail (Head h) a w = head_tail (pair_at (h ++ a)) h a w refl
taken_tail (Value k v n) a w = value_tail k v n a
taken_tail (Skipping n) a w = drop_tail n a

-- ---- where they are in all bytes

abbrev pub Located : List ℕ → List ℕ → ℕ → Type 0
Located bytes piece end = (b : List ℕ) → Tail b piece → drop (end - length b) bytes ≡ b ++ drop end bytes

pub located : (start end : ℕ) (bytes : List ℕ) → start ≤ end → end ≤ length bytes → Located bytes (slice start end bytes) end
located start end bytes ordered inside b t =
    let rest : List ℕ = drop end bytes in
    let before : List ℕ = take start bytes ++ t.front in
    let tail : drop (end - start) (drop start bytes) ≡ rest =
    drop-drop (end - start) start bytes
    ∙ ap (λ (n : ℕ). drop n bytes) (omega (arith, ordered)) in
    let parts : bytes ≡ before ++ (b ++ rest) =
    sym (take-append-drop start bytes)
    ∙ ap (λ (l : List ℕ). take start bytes ++ l) (
    sym (take-append-drop (end - start) (drop start bytes))
    ∙ ap (λ (l : List ℕ). slice start end bytes ++ l) tail
    ∙ ap (λ (l : List ℕ). l ++ rest) t.parts
    ∙ append_assoc t.front b rest)
    ∙ sym (append_assoc (take start bytes) t.front (b ++ rest)) in
    let piece : length (slice start end bytes) ≡ end - start =
    omega (arith, length-take (end - start) (drop start bytes), length-drop start bytes, ordered, inside) in
    let front : length (take start bytes) ≡ start = omega (arith, length-take start bytes, ordered, inside) in
    let size : end - length b ≡ length before =
    omega (arith, piece, front, ap length t.parts, length-append t.front b, length-append (take start bytes) t.front, ordered) in
    ap (λ (n : ℕ). drop n bytes) size
    ∙ ap (λ (l : List ℕ). drop (length before) l) parts
    ∙ drop-append_seam before (b ++ rest)

pub front_located : (size : ℕ) (bytes : List ℕ) → size ≤ length bytes → Located bytes (take size bytes) size
front_located size bytes inside b t =
    let same : size - 0 ≡ size = omega arith in
    located 0 size bytes (omega arith) inside b (subst (λ (n : ℕ). Tail b (take n bytes)) (sym same) t)

-- ---- content

content_bytes : (piece : List ℕ) (seen : List Seen) → content_in (bytes_seen piece ++ seen) ≡ piece ++ content_in seen
content_bytes [] seen = refl
content_bytes (b ∷ piece) seen = ap (λ (l : List ℕ). b ∷ l) (content_bytes piece seen)

ending_bytes : (piece : List ℕ) (seen : List Seen) → ending_in (bytes_seen piece ++ seen) ≡ ending_in seen
ending_bytes [] seen = refl
ending_bytes (b ∷ piece) seen = ending_bytes piece seen

pub said_piece : (p : Place) (piece : List ℕ) (w : StreamRun) → said_from (Some p) [] (followed (bytes_seen piece) w) ≡ said_from (Some p) piece w
said_piece p piece w =
    ap (λ (l : List ℕ). said_by (run p l) (followed (bytes_seen piece) w)) (content_bytes piece w.seen)
    ∙ ap (λ (z : Option Seen). record {
      told = capsules_told (run p (piece ++ content_in w.seen)).capsules (place_told z (run p (piece ++ content_in w.seen)).place);
      place = (run p (piece ++ content_in w.seen)).place;
      streams = w.connection;
      frames = w.stream;
      left = w.left;
    }) (ending_bytes piece w.seen)

-- ---- one call

-- nothing more is found in the bytes that are left
abbrev pub Rested : Bool → List ℕ → Outcome → Type 0
Rested fin bytes o =
    (o.3.part ≡ part.Session 0)
    × (run_to fin o.2.streams o.3.frames bytes ≡ rests_at o.2.streams o.3.frames bytes)

pub record CallSays (fin end : Bool) (bytes more : List ℕ) (o : Outcome) (all : Said) : Type 0 where
  pub says : Says end (drop o.0 bytes ++ more) (of_session o.1) o all
  pub stays : IsSession o.3.part → IsOpen o.2 o.3 (drop o.0 bytes)
  pub inside : IsSession o.3.part → o.0 ≤ length bytes
  pub idle : course_of o.1 ≡ Stops → Rested fin (drop o.0 bytes) o

-- the session is over
pub over_says : (k : Part) (fin end : Bool) (bytes more : List ℕ) (o : Outcome) (all : Said) → o.3.part ≡ k → (IsSession k → ⊥) → (course_of o.1 ≡ Stops → ⊥) → SaysBy k end (drop o.0 bytes ++ more) (of_session o.1) o all → CallSays fin end bytes more o all
over_says k fin end bytes more o all e n goes h = record {
  says = subst (λ (x : Part). SaysBy x end (drop o.0 bytes ++ more) (of_session o.1) o all) (sym e) h;
  stays = λ i. absurd (n (subst IsSession e i));
  inside = λ i. absurd (n (subst IsSession e i));
  idle = λ st. absurd (goes st);
}

-- the session goes on after a call that says nothing of it
pub quiet_says : (fin end : Bool) (c : Connection) (s : Stream) (p : Place) (bytes more : List ℕ) (n : ℕ) (told : Told) (o : Outcome) (all : Said) → c.over ≡ false → s.unread ≡ unread.Nothing → s.part ≡ part.Session 0 → s.capsules ≡ Some p → IsWithin p → n ≤ length bytes → of_session told ≡ [] → (course_of told ≡ Stops → run_to fin c.streams s.frames (drop n bytes) ≡ rests_at c.streams s.frames (drop n bytes)) → all ≡ said_from (Some p) [] (run_to end c.streams s.frames (drop n bytes ++ more)) → o ≡ (n, told, c, s) → CallSays fin end bytes more o all
quiet_says fin end c s p bytes more n told o all intact none is cap w inside silent idle h g =
    let x : List ℕ = drop n bytes ++ more in
    let same : said_from (Some p) [] (run_to end c.streams s.frames x) ≡ preceded (of_session told) (said end 0 c s x) =
    ap (λ (k : Option Place). said_from k [] (run_to end c.streams s.frames x)) (sym cap)
    ∙ ap (λ (l : List Told). preceded l (said end 0 c s x)) (sym silent) in
    subst (λ (z : Outcome). CallSays fin end bytes more z all) (sym g) (record {
      says = subst (λ (k : Part). SaysBy k end x (of_session told) (n, told, c, s) all) (sym is) (h ∙ same);
      stays = λ i. record {
        intact = intact;
        read = none;
        size = 0;
        part = is;
        came = omega arith;
        place = p;
        capsules = cap;
        within = w;
      };
      inside = λ i. inside;
      idle = λ st. (is, idle st);
    })

-- the session goes on after a capsule, or without one
goes_says : (fin end : Bool) (c : Connection) (s : Stream) (q : Place) (bytes more b : List ℕ) (last : ℕ) (told : Told) (o : Outcome) (all : Said) → c.over ≡ false → s.unread ≡ unread.Nothing → s.capsules ≡ Some q → IsWithin q → last ≤ length bytes → drop (last - length b) bytes ≡ b ++ drop last bytes → (course_of told ≡ Stops → ⊥) → all ≡ preceded (of_session told) (said_from (Some q) b (run_to end c.streams s.frames (drop last bytes ++ more))) → o ≡ goes_on c s told (length b) last → CallSays fin end bytes more o all
goes_says fin end c s q bytes more b last told o all intact none cap w inside at goes h g =
    let x : List ℕ = drop (last - length b) bytes ++ more in
    let tail : List ℕ = drop last bytes ++ more in
    let t : Stream = with_part s (part.Session (length b)) in
    let parts : x ≡ b ++ tail = ap (λ (l : List ℕ). l ++ more) at ∙ append_assoc b (drop last bytes) more in
    let unread_is : take (length b) x ≡ b = ap (λ (l : List ℕ). take (length b) l) parts ∙ take-append_seam b tail in
    let later : drop (length b) x ≡ tail = ap (λ (l : List ℕ). drop (length b) l) parts ∙ drop-append_seam b tail in
    let same : said_from (Some q) b (run_to end c.streams s.frames tail) ≡ said end (length b) c t x =
    ap (λ (l : List ℕ). said_from (Some q) l (run_to end c.streams s.frames tail)) (sym unread_is)
    ∙ ap (λ (l : List ℕ). said_from (Some q) (take (length b) x) (run_to end c.streams s.frames l)) (sym later)
    ∙ ap (λ (k : Option Place). said_from k (take (length b) x) (run_to end c.streams s.frames (drop (length b) x))) (sym cap) in
    subst (λ (z : Outcome). CallSays fin end bytes more z all) (sym g) (record {
      says = h ∙ ap (λ (y : Said). preceded (of_session told) y) same;
      stays = λ i. record {
        intact = intact;
        read = none;
        size = length b;
        part = refl;
        came = omega (arith, ap length at, length-append b (drop last bytes));
        place = q;
        capsules = cap;
        within = w;
      };
      inside = λ i. omega (arith, inside);
      idle = λ st. absurd (goes st);
    })

pub lost_part : (p : Part) (size : ℕ) → p ≡ part.Session size → after_error p ≡ part.Losing
lost_part p size e = ap after_error e

-- a capsule is malformed
pub spoiled_says : (fin end : Bool) (c : Connection) (s : Stream) (size : ℕ) (bytes more : List ℕ) (o : Outcome) (all : Said) → s.part ≡ part.Session size → all.told ≡ StreamError fault.Capsule ∷ [] → o ≡ spoiled c s (length bytes) → CallSays fin end bytes more o all
spoiled_says fin end c s size bytes more o all is h g =
    subst (λ (z : Outcome). CallSays fin end bytes more z all) (sym g)
    (over_says part.Losing fin end bytes more (spoiled c s (length bytes)) all (lost_part s.part size is) (λ i. i) (λ st. cc st) h)

closing_says : (k : Option (ℕ × List ℕ)) (fin end : Bool) (c : Connection) (s : Stream) (size last : ℕ) (later : Bool) (bytes more : List ℕ) (o : Outcome) (all : Said) → s.part ≡ part.Session size → all.told ≡ close_told k ∷ [] → o ≡ closed_if k c s later last (length bytes) → CallSays fin end bytes more o all
closing_says None fin end c s size last later bytes more o all is h g = spoiled_says fin end c s size bytes more o all is h g
closing_says (Some close) fin end c s size last later bytes more o all is h g =
    subst (λ (z : Outcome). CallSays fin end bytes more z all) (sym g)
    (over_says (part.Closed later) fin end bytes more (last, SessionClosed close, c, with_part s (part.Closed later)) all refl (λ i. i) (λ st. cc st) h)

capsule_says : (r : Found) (fin end : Bool) (c : Connection) (s : Stream) (size : ℕ) (p q : Place) (bytes more piece b : List ℕ) (last : ℕ) (o : Outcome) (all : Said) → c.over ≡ false → s.unread ≡ unread.Nothing → s.part ≡ part.Session size → IsWithin p → last ≤ length bytes → Located bytes piece last → all ≡ said_from (Some p) piece (run_to end c.streams s.frames (drop last bytes ++ more)) → CapsuleIs r p piece q b → o ≡ capsule_found r c (record s { capsules = Some q }) (length b) last (length bytes) → CallSays fin end bytes more o all
capsule_says (Ok None) fin end c s size p q bytes more piece b last o all intact none is w inside at h k g =
    let z : StreamRun = run_to end c.streams s.frames (drop last bytes ++ more) in
    let inner : IsWithin q = subst (λ (t : Taken). IsWithin t.1) (sym k) (taken_within p piece) in
    let tail : Tail b piece = subst (λ (t : Taken). Tail t.2 piece) (sym k) (taken_tail p piece w) in
    let cut : run p (piece ++ content_in z.seen) ≡ run q (b ++ content_in z.seen) = may_be_cut (Ok None) p q piece b (content_in z.seen) (proper p w) (proper q inner) k in
    goes_says fin end c (record s { capsules = Some q }) q bytes more b last Skipped o all intact none refl inner inside (at b tail) (λ st. cc st) (h ∙ ap (λ (x : Run). said_by x z) cut) g
capsule_says (Ok (Some (kind, value))) fin end c s size p q bytes more piece b last o all intact none is w inside at h k g =
    let z : StreamRun = run_to end c.streams s.frames (drop last bytes ++ more) in
    let inner : IsWithin q = subst (λ (t : Taken). IsWithin t.1) (sym k) (taken_within p piece) in
    let tail : Tail b piece = subst (λ (t : Taken). Tail t.2 piece) (sym k) (taken_tail p piece w) in
    let cut : run p (piece ++ content_in z.seen) ≡ capsule_followed (kind, value) (run q (b ++ content_in z.seen)) = may_be_cut (Ok (Some (kind, value))) p q piece b (content_in z.seen) (proper p w) (proper q inner) k in
    meant kind (at b tail) inner (h ∙ ap (λ (x : Run). said_by x z) cut) g
  where
    meant : (kind : CapsuleType) → drop (last - length b) bytes ≡ b ++ drop last bytes → IsWithin q → all ≡ said_by (capsule_followed (kind, value) (run q (b ++ content_in (run_to end c.streams s.frames (drop last bytes ++ more)).seen))) (run_to end c.streams s.frames (drop last bytes ++ more)) → o ≡ complete kind c (record s { capsules = Some q }) value (length b) last (length bytes) → CallSays fin end bytes more o all
    meant capsule.Close at inner h g = closing_says (close_in value) fin end c (record s { capsules = Some q }) size last (nat_lt 0 (length b)) bytes more o all is (ap (λ (x : Said). x.told) h) g
    meant capsule.Datagram at inner h g = goes_says fin end c (record s { capsules = Some q }) q bytes more b last (Datagram value) o all intact none refl inner inside at (λ st. cc st) h g
    meant capsule.Drain at inner h g = goes_says fin end c (record s { capsules = Some q }) q bytes more b last Draining o all intact none refl inner inside at (λ st. cc st) h g
capsule_says (Err capsule_error.TooLong) fin end c s size p q bytes more piece b last o all intact none is w inside at h k g =
    let z : StreamRun = run_to end c.streams s.frames (drop last bytes ++ more) in
    let inner : IsWithin q = subst (λ (t : Taken). IsWithin t.1) (sym k) (taken_within p piece) in
    let cut : run p (piece ++ content_in z.seen) ≡ breaks = may_be_cut (Err capsule_error.TooLong) p q piece b (content_in z.seen) (proper p w) (proper q inner) k in
    spoiled_says fin end c (record s { capsules = Some q }) size bytes more o all is (ap (λ (x : Said). x.told) (h ∙ ap (λ (x : Run). said_by x z) cut)) g
capsule_says (Err capsule_error.Memory) fin end c s size p q bytes more piece b last o all intact none is w inside at h k g =
    let z : StreamRun = run_to end c.streams s.frames (drop last bytes ++ more) in
    let tail : Tail b piece = subst (λ (l : List ℕ). Tail l piece) (sym k.last) (drop_tail (length piece - length b) piece) in
    let cut : run p (piece ++ content_in z.seen) ≡ run q (b ++ content_in z.seen) = may_be_cut (Err capsule_error.Memory) p q piece b (content_in z.seen) (proper p w) (proper q k.within) k in
    goes_says fin end c (record s { capsules = Some q }) q bytes more b last NoMemory o all intact none refl k.within inside (at b tail) (λ st. cc st) (h ∙ ap (λ (x : Run). said_by x z) cut) g

pub capsules_say : (fin end : Bool) (c : Connection) (s : Stream) (size : ℕ) (p : Place) (bytes more piece : List ℕ) (last : ℕ) (o : Outcome) (all : Said) → c.over ≡ false → s.unread ≡ unread.Nothing → s.part ≡ part.Session size → s.capsules ≡ Some p → IsWithin p → last ≤ length bytes → Located bytes piece last → all ≡ said_from (Some p) piece (run_to end c.streams s.frames (drop last bytes ++ more)) → CapsulesGive c s piece last (length bytes) o → CallSays fin end bytes more o all
capsules_say fin end c s size p bytes more piece last o all intact none is cap w inside at h (r, t, b, gives, g) =
    next (subst (λ (k : Option Place). GivesNext k r s piece t b) cap gives)
  where
    next : GivesNext (Some p) r s piece t b → CallSays fin end bytes more o all
    next (q, k, e) = capsule_says r fin end c s size p q bytes more piece b last o all intact none is w inside at h k (g ∙ ap (λ (u : Stream). capsule_found r c u (length b) last (length bytes)) e)
