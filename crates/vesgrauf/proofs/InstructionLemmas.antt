-- What the peer's encoder is told on the own decoder stream.
use Rattle.std.proofs.Common.{length, ◌≡◌, ◌++◌, ◌⊎◌, ◌==◌, ◌<◌, ◌≤◌, ◌-◌, ℕ, List, [], ◌∷◌, Option, None, Some, Bool, true, false, cond, refl, sym, ap, subst, ◌∙◌, inl, inr, arith, append_assoc, append-nil}
use Rattle.std.specs.Prelude.{is_some, min}
use Rattle.wtp_dynamic.specs.declared.acknowledgment.Acknowledgment.{Acknowledgment}
use Rattle.wtp_dynamic.specs.declared.acknowledgment.Acknowledgment.TheVariants as instruction
use Rattle.wtp_dynamic.specs.DecoderStream.{acknowledgment_bytes}
use Rattle.wtp_qpack.specs.Integer.{shortest_int}
use Rattle.wtp_dynamic.specs.Table.{insert_count}
use Rattle.wtp_dynamic_decoder.specs.Decoder.{Decoder, told as with_told}
use Rattle.wtp_webtransport.specs.declared.connection.Connection.{Connection as Shared}
use Rattle.wtp_webtransport.specs.declared.stream.Stream.{Stream}
use Rattle.wtp_webtransport.specs.declared.unacknowledged.Unacknowledged.{Unacknowledged}
use Rattle.wtp_webtransport.specs.Events.{Told as Say}
use Rattle.wtp_webtransport.specs.Events as say
use Rattle.wtp_webtransport.specs.Unacknowledged.{just_read, due_on}
use Rattle.wtp_webtransport.specs.Tables.{bounded, due_section_of, due_read, after_read, due_inserts, after_inserts, due_cancel, after_cancel}
use Rattle.vesgrauf_queue.specs.State.{waiting}
use Rattle.vesgrauf_queue.specs.Steps.{Does as QueueDoes, Queues}
use Rattle.vesgrauf_stream.specs.declared.bytes.Bytes.{Bytes}
use Rattle.vesgrauf_stream.specs.declared.bytes.Chunk.{Chunk}
use Rattle.vesgrauf_stream.specs.declared.heard.Heard.TheVariants as heard
use Rattle.vesgrauf_stream.specs.declared.reading.Found.{Found}
use Rattle.vesgrauf_stream.specs.declared.reading.Found.TheVariants as found
use Rattle.vesgrauf_stream.specs.declared.reading.Reading.{Reading}
use Rattle.wtp_webtransport.specs.declared.stream.Part.{Part}
use Rattle.wtp_webtransport.specs.declared.stream.Part.TheVariants as part
use Rattle.vesgrauf_stream.specs.Pieces.{heard_piece, HearsPiece}
use Rattle.vesgrauf_stream.specs.Reading.{Hears, Says as SaysOf, without_payload}
use Rattle.vesgrauf.specs.declared.critical.Critical.{Critical}
use Rattle.vesgrauf.specs.declared.entry.Entry.{Entry}
use Rattle.vesgrauf.specs.declared.entry.Peer.TheVariants as peer
use Rattle.vesgrauf.specs.Items.{items_found}
use Rattle.vesgrauf.specs.State.{SaysAll, SaysBy}
use Rattle.vesgrauf.specs.Streams.{Says}
use Rattle.vesgrauf.specs.Theirs.{IsRead, theirs_of, with_chunk}
use Rattle.vesgrauf.specs.Instructions.{Table, table_by, Deed, Reads, Leaves, Counts, Acknowledges, left, counted, Does, Deeds, IsSaidBy, AreSaid, bytes_of_all, Turn, Works, Takes, Turns, all_deeds, all_taken, is_piece, is_found_piece, HearsAndSays}
use Rattle.vesgrauf.proofs.LookLemmas.{looked, looked_plain}
use Rattle.vesgrauf.proofs.UnreadLemmas.{over_is_silent, pieces_unread}

says_none_by : (o : Option ℕ) (bytes rest : List ℕ) (c : Critical) → false ≡ is_some o → rest ≡ bytes
    → SaysBy o bytes rest c c
says_none_by None bytes rest c h r = (r, refl)
says_none_by (Some id) bytes rest c h r = absurd (let bad : false ≡ true = h in cc)

-- a stream that has no ID says nothing: the bytes wait on
pub says_none : (bytes rest : List ℕ) (c : Critical) → false ≡ is_some c.id → rest ≡ bytes → SaysAll bytes rest c c
says_none bytes rest c h r = says_none_by c.id bytes rest c h r

abbrev table_at : Option Decoder → Option Unacknowledged → List ℕ → Table
table_at d r bytes = record { decoder = d; read = r; bytes = bytes }

-- ---- a call, and its acknowledgment

-- nothing is due where nothing was read
none_due : (x : Option Decoder) (id : ℕ) → due_read x None id ≡ None
none_due None id = refl
none_due (Some d) id = refl

none_read : (x : Option Decoder) (id : ℕ) (d : Shared) → d.decoder ≡ x → d.read ≡ None → d ≡ after_read x None id d
none_read None id d h r = refl
none_read (Some k) id d h r =
    ap (λ (o : Option Decoder). record d { decoder = o }) h
    ∙ ap (λ (o : Option Unacknowledged). record d { decoder = Some k; read = o }) r

unread_due : (id : ℕ) (d : Shared) → d.read ≡ None → due_read d.decoder d.read id ≡ None
unread_due id d r = ap (λ (o : Option Unacknowledged). due_read d.decoder o id) r ∙ none_due d.decoder id

unread_after : (id : ℕ) (d : Shared) → d.read ≡ None → d ≡ after_read d.decoder d.read id d
unread_after id d r =
    none_read d.decoder id d refl r ∙ sym (ap (λ (o : Option Unacknowledged). after_read d.decoder o id d) r)

pub hears_said : {limit : ℕ} {c d e : Shared} {r s : Reading} {i j : Chunk} {found : Found} (id : ℕ)
    (before after : List ℕ) → c.over ≡ false → Hears limit c r i found d s j → e ≡ after_read d.decoder d.read id d
    → after ≡ with_told before (due_read d.decoder d.read id) → HearsAndSays id limit c r i before found e s j after
hears_said {limit} {c} {d} id before after l h g b = record { d = d; lives = l; hears = h; shared = g; bytes = b }

-- what is found of a piece is said of one
payload_piece : (x : Say) → is_piece (without_payload x) ≡ is_piece x
payload_piece (say.Settings settings payload) = refl
payload_piece other = refl

piece_said : (f : Found) (x : Say) (reach all : ℕ) → is_found_piece f ≡ true → SaysOf f x reach all → is_piece x ≡ true
piece_said (found.Heard (heard.Data b)) x reach all n h = sym (payload_piece x) ∙ sym (ap is_piece h.0)
piece_said (found.Heard (heard.StreamData b)) x reach all n h = sym (payload_piece x) ∙ sym (ap is_piece h.0)
piece_said other x reach all n h = absurd (let bad : false ≡ true = n in cc)

piece_unread : {limit : ℕ} {c d : Shared} {r s : Reading} {i j : Chunk} {found : Found}
    → Hears limit c r i found d s j → is_found_piece found ≡ true → d.read ≡ None
piece_unread {limit} {c} {d} {r} {s} {i} {j} {found} h p =
    pieces_unread limit c r.stream _ _ (h.consumed, h.say, d, s.stream) h.gives
    (piece_said found h.say h.reach _ p h.says)

-- and no error has ended the connection, since nothing is said after one
lives_by : (b : Bool) (x : Say) → is_piece x ≡ true → (b ≡ true → x ≡ say.More) → b ≡ false
lives_by false x p h = refl
lives_by true x p h = absurd (let bad : false ≡ true = sym (ap is_piece (h refl)) ∙ p in cc)

pub piece_lives : {limit : ℕ} {c d : Shared} {r s : Reading} {i j : Chunk} {found : Found}
    → Hears limit c r i found d s j → is_found_piece found ≡ true → c.over ≡ false
piece_lives {limit} {c} {d} {r} {s} {i} {j} {found} h p =
    lives_by c.over h.say (piece_said found h.say h.reach _ p h.says)
    (λ e. over_is_silent limit c r.stream _ _ (h.consumed, h.say, d, s.stream) h.gives e)

-- a piece has no section
pub hears_piece : {limit : ℕ} {c d : Shared} {r s : Reading} {i j : Chunk} {found : Found} (id : ℕ) (before : List ℕ)
    → Hears limit c r i found d s j → is_found_piece found ≡ true
    → HearsAndSays id limit c r i before found d s j before
hears_piece {limit} {c} {d} {r} {s} {i} {j} {found} id before h p =
    let none : d.read ≡ None = piece_unread h p in
    record {
      d = d;
      lives = piece_lives h p;
      hears = h;
      shared = unread_after id d none;
      bytes = sym (ap (λ (o : Option Acknowledgment). with_told before o) (unread_due id d none));
    }

-- The bytes are looked at in the state in which the stream is, and it is in that one then.
pub record SaysAt (id : ℕ) (r s : Stream) (t u : Table) : Type 0 where
  pub says : Acknowledges id t u
  pub from : says.s ≡ r
  pub to : says.n ≡ s

pub acknowledged : {limit : ℕ} {c e : Shared} {r s : Reading} {i j : Chunk} {found : Found} {id : ℕ}
    {before after : List ℕ} → HearsAndSays id limit c r i before found e s j after
    → SaysAt id r.stream s.stream (table_by c before) (table_by e after)
acknowledged {limit} {c} {e} {r} {s} {i} {j} {found} {id} {before} {after} h =
    let x : Hears limit c r i found h.d s j = h.hears in
    record {
      says = record {
        limit = limit;
        c = c;
        d = h.d;
        s = r.stream;
        n = s.stream;
        bytes = _;
        fin = _;
        consumed = x.consumed;
        say = x.say;
        from = refl;
        gives = x.gives;
        to = ap (λ (o : Shared). table_by o after) h.shared
            ∙ ap (λ (b : List ℕ). table_by (after_read h.d.decoder h.d.read id h.d) b) h.bytes;
      };
      from = refl;
      to = refl;
    }

-- a piece that is told at once
pub heard_piece_is : (p : Part) (b : Bytes) → is_found_piece (found.Heard (heard_piece p b)) ≡ true
heard_piece_is part.OfSession b = refl
heard_piece_is other b = refl

pub piece_acknowledged : (b : Bytes) (c d : Shared) (r s : Reading) (i j : Chunk) (id : ℕ) (bytes : List ℕ)
    → HearsPiece b c r i d s j → SaysAt id r.stream s.stream (table_by c bytes) (table_by d bytes)
piece_acknowledged b c d r s i j id bytes h =
    acknowledged (hears_piece id bytes (h 0) (heard_piece_is r.stream.part b))

-- other bytes wait before
told_after : (xs ys : List ℕ) (due : Option Acknowledgment) → with_told (xs ++ ys) due ≡ xs ++ with_told ys due
told_after xs ys None = refl
told_after xs ys (Some a) = append_assoc xs ys (acknowledgment_bytes a)

pub said_after : (id : ℕ) (r s : Stream) (c e : Shared) (queue before after : List ℕ)
    → SaysAt id r s (table_by c before) (table_by e after)
    → SaysAt id r s (table_by c (queue ++ before)) (table_by e (queue ++ after))
said_after id r s c e queue before after h =
    let a : Acknowledges id (table_by c before) (table_by e after) = h.says in
    record {
      says = record {
        limit = a.limit;
        c = a.c;
        d = a.d;
        s = a.s;
        n = a.n;
        bytes = a.bytes;
        fin = a.fin;
        consumed = a.consumed;
        say = a.say;
        from = a.from;
        gives = a.gives;
        to = ap (λ (o : Table). table_at o.decoder o.read (queue ++ o.bytes)) a.to
            ∙ sym (ap (λ (l : List ℕ). table_by (after_read a.d.decoder a.d.read id a.d) l)
            (told_after queue before (due_read a.d.decoder a.d.read id)));
      };
      from = h.from;
      to = h.to;
    }

pub rests_after : (c e : Shared) (queue before after : List ℕ) → table_by e after ≡ table_by c before
    → table_by e (queue ++ after) ≡ table_by c (queue ++ before)
rests_after c e queue before after h = ap (λ (o : Table). table_at o.decoder o.read (queue ++ o.bytes)) h

-- what an entry finds
pub looked_and_said : (e f : Entry) {limit : ℕ} {c d : Shared} {i j : Chunk} {found : Found} (told : Found) {id : ℕ}
    {before after : List ℕ}
    → e.peer ≡ peer.Reads → (e.is_decoder ≡ false → told ≡ found) → (e.is_decoder ≡ true → items_found told ≡ [])
    → f.peer ≡ e.peer → f.is_decoder ≡ e.is_decoder → (e.reading.ended ≡ true → length i.bytes.now ≤ 0)
    → f.reading.ended ≡ e.reading.ended → length j.bytes.now ≤ length i.bytes.now
    → HearsAndSays id limit c e.reading i before found d f.reading j after
    → IsRead (with_chunk (theirs_of e) i) (items_found told) (with_chunk (theirs_of f) j)
looked_and_said e f {limit} {c} {d} {i} {j} {found} told g same none p q fresh ended short h =
    looked e f limit c h.d i j found told g same none p q h.lives fresh ended short h.hears

pub looked_and_said_plain : (e f : Entry) {limit : ℕ} {c d : Shared} {i j : Chunk} {found : Found} {id : ℕ}
    {before after : List ℕ}
    → e.peer ≡ peer.Reads → e.is_decoder ≡ false → e.reading.ended ≡ false → f.peer ≡ e.peer → f.is_decoder ≡ e.is_decoder
    → f.reading.ended ≡ e.reading.ended → HearsAndSays id limit c e.reading i before found d f.reading j after
    → IsRead (with_chunk (theirs_of e) i) (items_found found) (with_chunk (theirs_of f) j)
looked_and_said_plain e f {limit} {c} {d} {i} {j} {found} g n still p q ended h =
    looked_plain e f limit c h.d i j found g n still p q ended h.lives h.hears

-- ---- what is queued

-- bytes that are queued waited before
pub queued_by : (bytes : List ℕ) (a b : Critical)
    → ((bytes ≡ []) × (b.queue ≡ a.queue)) ⊎ ((room : Bool) × QueueDoes (Queues bytes room) a.queue b.queue)
    → waiting b.queue ≡ waiting a.queue ++ bytes
queued_by bytes a b (inl (n, q)) =
    ap (λ k. waiting k) q ∙ sym (ap (λ (l : List ℕ). waiting a.queue ++ l) n ∙ append-nil (waiting a.queue))
queued_by bytes a b (inr (room, q)) = q.waits

rest_of : (x y rest bytes : List ℕ) → x ≡ y ++ bytes → rest ≡ [] → x ++ rest ≡ y ++ bytes
rest_of x y rest bytes h n = ap (λ (l : List ℕ). x ++ l) n ∙ append-nil x ∙ h

pub table_queued : (c : Shared) (a b : Critical) (bytes rest : List ℕ) → Says bytes a b → rest ≡ []
    → table_by c (waiting b.queue ++ rest) ≡ table_by c (waiting a.queue ++ bytes)
table_queued c a b bytes rest h n =
    ap (λ (l : List ℕ). table_by c l) (rest_of (waiting b.queue) (waiting a.queue) rest bytes (queued_by bytes a b h.queued) n)

-- ---- deeds

left_by : (x : Option Decoder) (id : ℕ) (c : Shared) (bytes : List ℕ) → c.decoder ≡ x
    → table_by (after_cancel x id c) (with_told bytes (due_cancel x id)) ≡ left id (table_at x c.read bytes)
left_by None id c bytes h = ap (λ (o : Option Decoder). table_at o c.read bytes) h
left_by (Some d) id c bytes h = refl

-- a stream is left
pub does_leave : (id : ℕ) (c e : Shared) (queue before after : List ℕ) → e ≡ after_cancel c.decoder id c
    → after ≡ with_told before (due_cancel c.decoder id)
    → table_by e (queue ++ after) ≡ left id (table_by c (queue ++ before))
does_leave id c e queue before after h g =
    ap (λ (o : Shared). table_by o (queue ++ after)) h
    ∙ ap (λ (b : List ℕ). table_by (after_cancel c.decoder id c) (queue ++ b)) g
    ∙ sym (ap (λ (b : List ℕ). table_by (after_cancel c.decoder id c) b) (told_after queue before (due_cancel c.decoder id)))
    ∙ left_by c.decoder id c (queue ++ before) refl

counted_by : (x : Option Decoder) (c : Shared) (bytes : List ℕ) → c.decoder ≡ x
    → table_by (after_inserts x c) (with_told bytes (due_inserts x)) ≡ counted (table_at x c.read bytes)
counted_by None c bytes h = ap (λ (o : Option Decoder). table_at o c.read bytes) h
counted_by (Some d) c bytes h = refl

-- insertions are counted
pub does_count : (c e : Shared) (queue before after : List ℕ) → e ≡ after_inserts c.decoder c
    → after ≡ with_told before (due_inserts c.decoder)
    → table_by e (queue ++ after) ≡ counted (table_by c (queue ++ before))
does_count c e queue before after h g =
    ap (λ (o : Shared). table_by o (queue ++ after)) h
    ∙ ap (λ (b : List ℕ). table_by (after_inserts c.decoder c) (queue ++ b)) g
    ∙ sym (ap (λ (b : List ℕ). table_by (after_inserts c.decoder c) b) (told_after queue before (due_inserts c.decoder)))
    ∙ counted_by c.decoder c (queue ++ before) refl

pub deeds_join : (xs ys : List Deed) (t m u : Table) → Deeds xs t m → Deeds ys m u → Deeds (xs ++ ys) t u
deeds_join [] ys t m u p q = subst (λ (o : Table). Deeds ys o u) p q
deeds_join (x ∷ xs) ys t m u (n, d, p) q = (n, d, deeds_join xs ys n m u p q)

-- ---- the instructions of deeds

-- one that a deed may say, or none
abbrev IsDueOf : Deed → Option Acknowledgment → Type 0
IsDueOf x None = Unit {0}
IsDueOf x (Some a) = IsSaidBy x a

section_if : (b : Bool) (id : ℕ) → IsDueOf (Reads id) (cond b None (Some (instruction.Section id)))
section_if true id = tt
section_if false id = refl

section_of : (d : Decoder) (r : Option ℕ) (id : ℕ) → IsDueOf (Reads id) (due_section_of d r id)
section_of d None id = tt
section_of d (Some required) id = section_if (bounded required d == 0) id

section_read : (x : Option Decoder) (r : Option Unacknowledged) (id : ℕ) → IsDueOf (Reads id) (due_read x r id)
section_read None r id = tt
section_read (Some d) r id = section_of d (due_on r id) id

cancel_if : (b : Bool) (id : ℕ) → IsDueOf (Leaves id) (cond b None (Some (instruction.Cancellation id)))
cancel_if true id = tt
cancel_if false id = refl

cancel_of : (x : Option Decoder) (id : ℕ) → IsDueOf (Leaves id) (due_cancel x id)
cancel_of None id = tt
cancel_of (Some d) id = cancel_if (d.table.limit == 0) id

count_if : (b : Bool) (n : ℕ) → IsDueOf Counts (cond b None (Some (instruction.Increment n)))
count_if true n = tt
count_if false n = (n, refl)

count_of : (x : Option Decoder) → IsDueOf Counts (due_inserts x)
count_of None = tt
count_of (Some d) = count_if (insert_count d.table == d.known) (insert_count d.table - d.known)

deed_due : (x : Deed) (t m : Table) → Does x t m
    → (due : Option Acknowledgment) × (m.bytes ≡ with_told t.bytes due) × IsDueOf x due
deed_due (Reads id) t m h =
    (due_read h.d.decoder h.d.read id, ap (λ (o : Table). o.bytes) h.to, section_read h.d.decoder h.d.read id)
deed_due (Leaves id) t m h = (due_cancel t.decoder id, ap (λ (o : Table). o.bytes) h, cancel_of t.decoder id)
deed_due Counts t m h = (due_inserts t.decoder, ap (λ (o : Table). o.bytes) h, count_of t.decoder)

said_then : (x : Deed) (xs : List Deed) (due : Option Acknowledgment) (said : List Acknowledgment) (b m u : List ℕ)
    → m ≡ with_told b due → IsDueOf x due → AreSaid xs said → u ≡ m ++ bytes_of_all said
    → (all : List Acknowledgment) × AreSaid (x ∷ xs) all × (u ≡ b ++ bytes_of_all all)
said_then x xs None said b m u h is are g =
    (said, inl are, g ∙ ap (λ (l : List ℕ). l ++ bytes_of_all said) h)
said_then x xs (Some a) said b m u h is are g = (
  a ∷ said,
  inr (a, said, refl, is, are),
  g ∙ ap (λ (l : List ℕ). l ++ bytes_of_all said) h ∙ append_assoc b (acknowledgment_bytes a) (bytes_of_all said),
)

pub said_in_order : (xs : List Deed) (t u : Table) → Deeds xs t u
    → (said : List Acknowledgment) × AreSaid xs said × (u.bytes ≡ t.bytes ++ bytes_of_all said)
said_in_order [] t u h = ([], refl, ap (λ (o : Table). o.bytes) h ∙ sym (append-nil t.bytes))
said_in_order (x ∷ xs) t u (m, d, h) =
    let k : (due : Option Acknowledgment) × (m.bytes ≡ with_told t.bytes due) × IsDueOf x due = deed_due x t m d in
    let r : (said : List Acknowledgment) × AreSaid xs said × (u.bytes ≡ m.bytes ++ bytes_of_all said) =
    said_in_order xs m u h in
    said_then x xs k.0 r.0 t.bytes m.bytes u.bytes k.1 k.2 r.1 r.2

are_joined : (xs ys : List Deed) (said more : List Acknowledgment) → AreSaid xs said → AreSaid ys more
    → AreSaid (xs ++ ys) (said ++ more)
are_joined [] ys said more h g = subst (λ (l : List Acknowledgment). AreSaid ys (l ++ more)) (sym h) g
are_joined (x ∷ xs) ys said more (inl h) g = inl (are_joined xs ys said more h g)
are_joined (x ∷ xs) ys said more (inr (a, rest, e, is, h)) g =
    inr (a, rest ++ more, ap (λ (l : List Acknowledgment). l ++ more) e, is, are_joined xs ys rest more h g)

bytes_joined : (said more : List Acknowledgment) → bytes_of_all (said ++ more) ≡ bytes_of_all said ++ bytes_of_all more
bytes_joined [] more = refl
bytes_joined (a ∷ said) more =
    ap (λ (l : List ℕ). acknowledgment_bytes a ++ l) (bytes_joined said more)
    ∙ sym (append_assoc (acknowledgment_bytes a) (bytes_of_all said) (bytes_of_all more))

pub turns_in_order : (ts : List Turn) (t u : Table) → Turns ts t u
    → (said : List Acknowledgment) × AreSaid (all_deeds ts) said
    × (all_taken ts ++ u.bytes ≡ t.bytes ++ bytes_of_all said)
turns_in_order [] t u h = ([], refl, ap (λ (o : Table). o.bytes) h ∙ sym (append-nil t.bytes))
turns_in_order (Works deeds ∷ ts) t u (m, d, h) =
    let k : (said : List Acknowledgment) × AreSaid deeds said × (m.bytes ≡ t.bytes ++ bytes_of_all said) =
    said_in_order deeds t m d in
    let r : (said : List Acknowledgment) × AreSaid (all_deeds ts) said
    × (all_taken ts ++ u.bytes ≡ m.bytes ++ bytes_of_all said) = turns_in_order ts m u h in (
      k.0 ++ r.0,
      are_joined deeds (all_deeds ts) k.0 r.0 k.1 r.1,
      r.2
          ∙ ap (λ (l : List ℕ). l ++ bytes_of_all r.0) k.2
          ∙ append_assoc t.bytes (bytes_of_all k.0) (bytes_of_all r.0)
          ∙ sym (ap (λ (l : List ℕ). t.bytes ++ l) (bytes_joined k.0 r.0)),
    )
turns_in_order (Takes bytes ∷ ts) t u (m, d, h) =
    let r : (said : List Acknowledgment) × AreSaid (all_deeds ts) said
    × (all_taken ts ++ u.bytes ≡ m.bytes ++ bytes_of_all said) = turns_in_order ts m u h in (
      r.0,
      r.1,
      append_assoc bytes (all_taken ts) u.bytes
          ∙ ap (λ (l : List ℕ). bytes ++ l) r.2
          ∙ sym (append_assoc bytes m.bytes (bytes_of_all r.0))
          ∙ sym (ap (λ (l : List ℕ). l ++ bytes_of_all r.0) d.from),
    )

-- ---- a section that was read

due_some : (x : Option Decoder) (r : Option Unacknowledged) (k : Decoder) (required id : ℕ) → x ≡ Some k
    → r ≡ Some (just_read required) → (bounded required k == 0) ≡ false
    → due_read x r id ≡ Some (instruction.Section id)
due_some x r k required id h g n =
    ap (λ (o : Option Decoder). due_read o r id) h
    ∙ ap (λ (o : Option Unacknowledged). due_read (Some k) o id) g
    ∙ ap (λ (b : Bool). cond b None (Some (instruction.Section id))) n

after_some : (x : Option Decoder) (r : Option Unacknowledged) (id : ℕ) (d : Shared) (k : Decoder) → x ≡ Some k
    → (after_read x r id d).read ≡ None
after_some x r id d k h = ap (λ (o : Option Decoder). (after_read o r id d).read) h

not_none : (n : ℕ) → 0 < n → (n == 0) ≡ false
not_none n h = none_by (n == 0) refl
  where
    none_by : (b : Bool) → (n == 0) ≡ b → b ≡ false
    none_by false e = refl
    none_by true e = absurd (grind (arith, h, e))

pub acknowledged_once : (id : ℕ) (t u : Table) (a : Acknowledges id t u) (k : Decoder) (required : ℕ)
    → a.d.decoder ≡ Some k → a.d.read ≡ Some (just_read required) → 0 < min required (insert_count k.table)
    → (u.bytes ≡ t.bytes ++ acknowledgment_bytes (instruction.Section id)) × (u.read ≡ None)
acknowledged_once id t u a k required h g n = (
  ap (λ (o : Table). o.bytes) a.to
      ∙ ap (λ (o : Option Acknowledgment). with_told t.bytes o)
      (due_some a.d.decoder a.d.read k required id h g (not_none (min required (insert_count k.table)) n)),
  ap (λ (o : Table). o.read) a.to ∙ after_some a.d.decoder a.d.read id a.d k h,
)

pub unread_is_silent : (id : ℕ) (t u : Table) (a : Acknowledges id t u) → a.d.read ≡ None → u.bytes ≡ t.bytes
unread_is_silent id t u a r =
    ap (λ (o : Table). o.bytes) a.to
    ∙ ap (λ (o : Option Acknowledgment). with_told t.bytes o) (unread_due id a.d r)

pub left_is_said : (id : ℕ) (t u : Table) (k : Decoder) → Does (Leaves id) t u → t.decoder ≡ Some k
    → (k.table.limit == 0) ≡ false → u.bytes ≡ t.bytes ++ acknowledgment_bytes (instruction.Cancellation id)
left_is_said id t u k h g n =
    ap (λ (o : Table). o.bytes) h
    ∙ ap (λ (o : Option Decoder). with_told t.bytes (due_cancel o id)) g
    ∙ ap (λ (b : Bool). with_told t.bytes (cond b None (Some (instruction.Cancellation id)))) n

pub count_is_said : (t u : Table) (k : Decoder) (n : ℕ) → Does Counts t u → t.decoder ≡ Some k
    → (insert_count k.table == k.known) ≡ false → insert_count k.table - k.known ≡ n
    → u.bytes ≡ t.bytes ++ acknowledgment_bytes (instruction.Increment n)
count_is_said t u k n h g differs e =
    ap (λ (o : Table). o.bytes) h
    ∙ ap (λ (o : Option Decoder). with_told t.bytes (due_inserts o)) g
    ∙ ap (λ (b : Bool). with_told t.bytes (cond b None (Some (instruction.Increment (insert_count k.table - k.known))))) differs
    ∙ ap (λ (m : ℕ). t.bytes ++ acknowledgment_bytes (instruction.Increment m)) e

-- ---- the decoder stream of RFC 9204, appendix B

section_4 : acknowledgment_bytes (instruction.Section 4) ≡ 0x84 ∷ []
unfolding shortest_int
section_4 = refl

increment_1 : acknowledgment_bytes (instruction.Increment 1) ≡ 0x01 ∷ []
unfolding shortest_int
increment_1 = refl

cancellation_8 : acknowledgment_bytes (instruction.Cancellation 8) ≡ 0x48 ∷ []
unfolding shortest_int
cancellation_8 = refl

two_known : (n : ℕ) → n ≡ 2 → 0 < min 2 n
two_known n h = subst (λ m. 0 < min 2 m) (sym h) (omega arith)

pub row_section : (t u : Table) (a : Acknowledges 4 t u) (k : Decoder) → a.d.decoder ≡ Some k
    → a.d.read ≡ Some (just_read 2) → insert_count k.table ≡ 2 → u.bytes ≡ t.bytes ++ (0x84 ∷ [])
row_section t u a k h g n =
    (acknowledged_once 4 t u a k 2 h g (two_known (insert_count k.table) n)).0 ∙ ap (λ (l : List ℕ). t.bytes ++ l) section_4

one_more : (n m : ℕ) → n ≡ 3 → m ≡ 2 → ((n == m) ≡ false) × (n - m ≡ 1)
one_more n m h g = rw (h, g) (refl, refl)

pub row_count : (t u : Table) (k : Decoder) → Does Counts t u → t.decoder ≡ Some k → insert_count k.table ≡ 3
    → k.known ≡ 2 → u.bytes ≡ t.bytes ++ (0x01 ∷ [])
row_count t u k h g n m =
    let one : ((insert_count k.table == k.known) ≡ false) × (insert_count k.table - k.known ≡ 1) =
    one_more (insert_count k.table) k.known n m in
    count_is_said t u k 1 h g one.0 one.1 ∙ ap (λ (l : List ℕ). t.bytes ++ l) increment_1

pub row_left : (t u : Table) (k : Decoder) → Does (Leaves 8) t u → t.decoder ≡ Some k → k.table.limit ≡ 220
    → u.bytes ≡ t.bytes ++ (0x48 ∷ [])
row_left t u k h g n =
    left_is_said 8 t u k h g (ap (λ m. m == 0) n) ∙ ap (λ (l : List ℕ). t.bytes ++ l) cancellation_8

-- without a capacity, and without a table, a stream is left in silence
pub silent_left : (id : ℕ) (t u : Table) (k : Decoder) → Does (Leaves id) t u → t.decoder ≡ Some k
    → k.table.limit ≡ 0 → u.bytes ≡ t.bytes
silent_left id t u k h g n =
    ap (λ (o : Table). o.bytes) h
    ∙ ap (λ (o : Option Decoder). with_told t.bytes (due_cancel o id)) g
    ∙ ap (λ m. with_told t.bytes (cond (m == 0) None (Some (instruction.Cancellation id)))) n

pub silent_without : (id : ℕ) (t u : Table) → Does (Leaves id) t u → t.decoder ≡ None → u.bytes ≡ t.bytes
silent_without id t u h g =
    ap (λ (o : Table). o.bytes) h ∙ ap (λ (o : Option Decoder). with_told t.bytes (due_cancel o id)) g
