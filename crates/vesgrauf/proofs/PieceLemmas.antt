-- A piece of items that is told at once.
use Rattle.std.proofs.Common.{◌≡◌, ◌++◌, ◌∙◌, ℕ, List, [], ◌∷◌, Option, Some, None, Bool, true, false, cond, refl, sym, ap, inl, inr, subst}
use Rattle.std.specs.Prelude.{is_some}
use Rattle.wtp_webtransport.specs.declared.connection.Connection.{Connection as Shared}
use Rattle.wtp_webtransport.specs.declared.stream.Part.{Part}
use Rattle.wtp_webtransport.specs.declared.stream.Part.TheVariants as part
use Rattle.vesgrauf_stream.specs.declared.bytes.Bytes.{Bytes}
use Rattle.vesgrauf_stream.specs.declared.bytes.Chunk.{Chunk}
use Rattle.vesgrauf_stream.specs.declared.reading.Found.TheVariants as found
use Rattle.vesgrauf_stream.specs.Reading.{bytes_of}
use Rattle.vesgrauf_stream.specs.Pieces.{heard_piece, HearsPiece}
use Rattle.vesgrauf.specs.declared.connection.Connection.{Connection}
use Rattle.vesgrauf.specs.declared.entry.Entry.{Entry}
use Rattle.vesgrauf.specs.declared.entry.Peer.TheVariants as peer
use Rattle.vesgrauf.specs.declared.input.Input.{Input}
use Rattle.vesgrauf.specs.declared.input.Report.TheVariants as report
use Rattle.std.specs.Ordering.{nat_cmp}
use Rattle.std.specs.Map.{set_value}
use Rattle.std.specs.BTreeMap.{is_at}
use Rattle.vesgrauf.specs.declared.connection.ids.Ids.{Ids}
use Rattle.vesgrauf.specs.declared.event.Event.{Event}
use Rattle.vesgrauf.specs.Own.{entry_at}
use Rattle.vesgrauf.specs.Streams.{is_known}
use Rattle.vesgrauf.specs.declared.connection.Ended.{Ended}
use Rattle.vesgrauf.specs.Halves.{reads_in}
use Rattle.vesgrauf.specs.Keeps.{KeepsOwnAll, KeptOwn}
use Rattle.vesgrauf.proofs.LastsLemmas.{adds_told, lasts_adds, lasts_after, lasts_set}
use Rattle.vesgrauf.specs.Told.{ends, word_of}
use Rattle.vesgrauf.specs.declared.config.Config.{Config}
use Rattle.vesgrauf.specs.Inputs.{IsSameOrRead}
use Rattle.vesgrauf.specs.State.{go_on, IsAfterEnd, IsStill}
use Rattle.vesgrauf.specs.Items.{Item, Byte, content, has_end, items_found}
use Rattle.vesgrauf.specs.Theirs.{Theirs, theirs_of, theirs_at, IsRead, IsHanded, ReadsOn, Hands, Tells, TellsAll, with_chunk, items_on}
use Rattle.vesgrauf.proofs.ReadsLemmas.{reads_pass}
use Rattle.vesgrauf.proofs.InstructionLemmas.{heard_piece_is, piece_lives}
use Rattle.vesgrauf.proofs.LookLemmas.{looked_plain}
use Rattle.vesgrauf.proofs.TellsLemmas.{taken_passes}
use Rattle.vesgrauf.proofs.StepLemmas.{all_same}
use Rattle.vesgrauf.proofs.GoesLemmas.{standing_of, standing_by, standing_in, goes_after, goes_set, goes_tells}
use Rattle.vesgrauf.proofs.OwnLemmas.{untouched_set, new_of}

-- what is heard of a piece is its bytes
piece_content : (p : Part) (b : Bytes) → items_found (found.Heard (heard_piece p b)) ≡ content (bytes_of b)
piece_content part.OfSession b = refl
piece_content other b = refl

-- pieces are what they are together
pub content_joins : (first rest : List ℕ) → content (first ++ rest) ≡ content first ++ content rest
content_joins [] rest = refl
content_joins (b ∷ first) rest = ap (λ items. Byte b ∷ items) (content_joins first rest)

-- what an entry finds
pub looked_piece : (e f : Entry) (c d : Shared) (i j : Chunk) (b : Bytes)
    → e.peer ≡ peer.Reads → e.is_decoder ≡ false → e.reading.ended ≡ false
    → f.peer ≡ e.peer → f.is_decoder ≡ e.is_decoder → f.reading.ended ≡ e.reading.ended
    → HearsPiece b c e.reading i d f.reading j
    → IsRead (with_chunk (theirs_of e) i) (content (bytes_of b)) (with_chunk (theirs_of f) j)
looked_piece e f c d i j b g n still p q ended h =
    subst (λ l. IsRead (with_chunk (theirs_of e) i) l (with_chunk (theirs_of f) j))
    (piece_content e.reading.stream.part b)
    (looked_plain e f 0 c d i j (found.Heard (heard_piece e.reading.stream.part b)) g n still p q ended
    (piece_lives (h 0) (heard_piece_is e.reading.stream.part b)) (h 0))

-- it is told, and nothing else is left of the input if all of its bytes were read
itself_by : (b : Bool) (x : Theirs) (items : List Item) → has_end items ≡ false
    → IsHanded x (cond b items []) (cond b items []) x
itself_by true x items n = inl (inl refl, refl, λ e. absurd (let bad : false ≡ true = sym n ∙ e in cc))
itself_by false x items n = inl (inl refl, refl, λ e. absurd (let bad : false ≡ true = e in cc))

told_itself : (id : ℕ) (items : List Item) (c : List (ℕ × Entry)) → has_end items ≡ false
    → Hands id items (items_on id items) c c
told_itself id items c n = record { each = λ k. itself_by (is_at (nat_cmp id) k) (theirs_at c k) items n }

-- content has no end
pub content_goes_on : (bytes : List ℕ) → has_end (content bytes) ≡ false
content_goes_on [] = refl
content_goes_on (b ∷ bytes) = content_goes_on bytes

pub piece_tells : (id stream : ℕ) (items : List Item) (c d : List (ℕ × Entry)) (i j l : Input) → stream ≡ id
    → i.report ≡ report.Stream id → j.report ≡ report.Stream id → ReadsOn id items c i.chunk d j.chunk
    → IsSameOrRead j l → has_end items ≡ false → Tells (items_on stream items) c i d l
piece_tells id stream items c d i j l same h g p t n =
    subst (λ n. Tells (items_on n items) c i d l) (sym same)
    (reads_pass id items (items_on id items) c d d i j l h g p
    (taken_passes id items (items_on id items) d d j l t (told_itself id items d n)))

-- an event of its stream is told with it
pub piece_keeps : (es : List (ℕ × Entry)) (ids : Ids) (q : List Event) (a : Config) (x : Option Ended) (id : ℕ)
    (e f : Entry) (ev : Event)
    → entry_at es id ≡ Some e → is_known e.told ≡ true → f.told ≡ e.told → f.session ≡ e.session
    → f.may_cancel ≡ e.may_cancel → f.writing ≡ e.writing → reads_in (Some f) ≡ reads_in (Some e) → ev.stream ≡ id → ends (word_of ev.kind) ≡ false
    → KeepsOwnAll None (ev ∷ []) es ids q a x (set_value (is_at (nat_cmp id)) es f) ids q a x
piece_keeps es ids q a x id e f ev there known told session may own reads at n =
    let same : standing_of f ≡ standing_of e = standing_by e f told session may in
    KeptOwn
    (λ m. new_of ids (untouched_set es id f (rw (there, own) (inl refl))))
    (goes_after (ev ∷ []) es es (set_value (is_at (nat_cmp id)) es f) ids ids ids q q q
    (goes_tells es ids q ev (rw (at, there) known) n)
    (goes_set es ids q id f (ap standing_in there ∙ ap Some (sym same))))
    refl (λ h. h)
    (λ m h s. lasts_after None (ev ∷ []) es es (set_value (is_at (nat_cmp id)) es f) q q q
    (lasts_adds None es (adds_told q q ev refl))
    (lasts_set None es q id f (rw (there, ap (λ p. p.told) same) refl) (inr (rw (there, own) refl, rw there reads))))

-- there is no piece, and then this is told
pub no_piece_all : (said : ℕ → List Item) (c d : Connection) {e : List (ℕ × Entry)} {i j l : Input} → IsStill c d → j ≡ i
    → TellsAll d.ids said d.streams.entries j e l → TellsAll c.ids said c.streams.entries i e l
no_piece_all said c d {e} {i} {j} {l} p q t =
    all_same said (ap (λ v. v.ids) p) (ap (λ v. v.streams) p) q t

pub no_piece_after : {c d : Connection} → IsStill c d → IsAfterEnd c → IsAfterEnd d
no_piece_after {c} {d} p a = record {
  over = ap (λ v. is_some v.ended) p ∙ a.over;
  events = ap (λ v. go_on v.events) p ∙ a.events;
}
