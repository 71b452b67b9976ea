-- Items of a recording, one more at a time; and bytes of which none can be read.
use Rattle.std.proofs.Common.{◌≡◌, ℕ, ◌+◌, ◌%◌, Bool, true, false, List, [], ◌∷◌, ◌++◌, Option, Some, None, Ok, drop, refl, sym, ap, ◌∙◌}
use Rattle.std.specs.Prelude.{◌==◌, ◌-◌, codes, length}
use Rattle.std.proofs.lemmas.List.{drop-drop}
use Rattle.wtp_core.specs.Varint.{number_at}
use Rattle.wtp_core.specs.VarintLenNeeded.{varint_len_needed}
use Rattle.wtp_wire.specs.Kind.{kind_of}
use Rattle.wtp_wire.specs.StreamKind.{stream_kind_of}
use Rattle.wtp_wire.specs.declared.frame.kind.FrameKind.{FrameKind}
use Rattle.wtp_wire.specs.declared.frame.kind.FrameKind.TheVariants as kind-is
use Rattle.wtp_wire.specs.declared.stream_header.StreamKind.{StreamKind}
use Rattle.wtp_wire.specs.declared.stream_header.StreamKind.TheVariants as stream-is
use Rattle.wtp_wire.specs.declared.rules.StreamRole.{StreamRole}
use Rattle.wt_inspection_model.specs.declared.item.Content.{Content}
use Rattle.wt_inspection_model.specs.declared.item.Content.TheVariants as content-is
use Rattle.wt_inspection_model.specs.declared.item.Item.{Item}
use Rattle.wt_inspection.specs.declared.reading.Next.{Next}
use Rattle.wt_inspection.specs.declared.reading.Next.TheVariants as next-is
use Rattle.wtp_wire.proofs.HeadPairLemmas.{two_at}
use Rattle.wt_inspection.proofs.PairLemmas.{some_is}
use Rattle.wt_inspection.specs.DataCapsules.{Stage}
use Rattle.wtp_wire.specs.Settings.{pair_at}
use Rattle.wt_inspection.specs.Recording.{Then, IsPart, IsCut, IsStep, IsNext, IsNoFrame, IsNoHead, IsNoSession, IsRefused, IsPushHead, IsSessionHead, Moves, Reads, has_session, is_push, is_session, pair_lacks, session_fault}

-- no item yet
pub reads_none : (items : List Item) (before last : Then) (stage : Stage) (bytes : List ℕ) (at : ℕ) → items ≡ [] → at ≡ 0 → last ≡ before → Reads before stage bytes items last stage (drop at bytes)
reads_none items before last stage bytes at none start same = rw (none, start, same) (refl, refl, refl)

-- one more item
reads_with : (items : List Item) (before mid after : Then) (stage now next : Stage) (bytes rest : List ℕ) (item : Item) → Reads before stage bytes items mid now rest → IsPart item.length rest → IsStep mid item.at rest item.length item.content after → Moves mid item.at rest item.content after now next → Reads before stage bytes (items ++ item ∷ []) after next (drop item.length rest)
reads_with [] before mid after stage now next bytes rest item (same, still, all) within one moves = (after, next, rw all within, rw (same, all) one, rw (same, all, still) moves, (refl, refl, ap (λ (b : List ℕ). drop item.length b) all))
reads_with (first ∷ items) before mid after stage now next bytes rest item (then, there, is, step, went, reads) within one moves =
    (then, there, is, step, went, reads_with items then mid after there now next (drop first.length bytes) rest item reads within one moves)

-- one more item, which ends at the end of the items
pub reads_more : (items more : List Item) (before mid after : Then) (stage now next : Stage) (bytes held rest : List ℕ) (at end : ℕ) (item : Item) → held ≡ bytes → rest ≡ drop at held → end ≡ at + item.length → more ≡ items ++ item ∷ [] → Reads before stage bytes items mid now (drop at bytes) → IsPart item.length rest → IsStep mid item.at rest item.length item.content after → Moves mid item.at rest item.content after now next → Reads before stage bytes more after next (drop end bytes)
reads_more items more before mid after stage now next bytes held rest at end item same left ends is reads within step moves =
    let behind : rest ≡ drop at bytes = left ∙ ap (drop at) same in
    let there : IsPart item.length (drop at bytes) = rw behind at within in
    let one : IsStep mid item.at (drop at bytes) item.length item.content after = rw behind at step in
    let went : Moves mid item.at (drop at bytes) item.content after now next = rw behind at moves in
    rw (is, ends, ← drop-drop item.length at bytes) (reads_with items before mid after stage now next bytes (drop at bytes) item reads there one went)

-- ---- frames

pub no_frame_cut : (role : StreamRole) (first : Bool) (place : ℕ) (bytes : List ℕ) (after : Then) → pair_at bytes ≡ None → IsCut place (codes "frame") (pair_lacks bytes) after → IsNoFrame role first place bytes (pair_at bytes) after
no_frame_cut role first place bytes after e s = rw e s

pub no_frame_refused : (role : StreamRole) (first : Bool) (place : ℕ) (bytes rest : List ℕ) (number id : ℕ) (after : Then) → pair_at bytes ≡ Some ((number, id), rest) → is_session (kind_of number) ≡ true → IsRefused place (id % 4 == 0) (session_fault role first place) after → IsNoFrame role first place bytes (pair_at bytes) after
no_frame_refused role first place bytes rest number id after e k r = rw e (k, r)

session_is : (k : Option FrameKind) → is_session k ≡ true → k ≡ Some kind-is.WebTransport
session_is (Some kind-is.WebTransport) e = refl
session_is None e = cc e
session_is (Some kind-is.Data) e = cc e
session_is (Some kind-is.Headers) e = cc e
session_is (Some kind-is.Settings) e = cc e
session_is (Some (kind-is.Exercise number)) e = cc e

pub session_kind : (number : ℕ) → is_session (kind_of number) ≡ true → kind_of number ≡ Some kind-is.WebTransport
session_kind number e = session_is (kind_of number) e

-- ---- heads of unidirectional streams

pub no_session_cut : (place : ℕ) (bytes : List ℕ) (after : Then) → pair_at bytes ≡ None → IsCut place (codes "stream type") (pair_lacks bytes) after → IsNoSession place bytes (pair_at bytes) after
no_session_cut place bytes after e s = rw e s

pub no_session_id : (place : ℕ) (bytes rest : List ℕ) (number id : ℕ) (after : Then) → pair_at bytes ≡ Some ((number, id), rest) → IsNoSession place bytes (Some ((number, id), rest)) after → IsNoSession place bytes (pair_at bytes) after
no_session_id place bytes rest number id after e s = rw e s

pub no_head_cut : (place : ℕ) (bytes : List ℕ) (after : Then) → number_at bytes ≡ None → IsCut place (codes "stream type") (varint_len_needed bytes - length bytes) after → IsNoHead place bytes (number_at bytes) after
no_head_cut place bytes after e s = rw e s

same_number : (bytes mid other : List ℕ) (a b : ℕ) → number_at bytes ≡ Some (a, mid) → number_at bytes ≡ Some (b, other) → a ≡ b
same_number bytes mid other a b e f =
    ap (λ (t : ℕ × List ℕ). t.0) (some_is {A = ℕ × List ℕ} (a, mid) (b, other) (sym e ∙ f))

-- a head with a session ID is the head of a unidirectional stream whose type has one
pub head_session : (place : ℕ) (bytes mid : List ℕ) (len number : ℕ) (content : Content) (after : Then) → number_at bytes ≡ Some (number, mid) → has_session (stream_kind_of number) ≡ true → IsSessionHead place bytes len content after → IsNext next-is.Head place bytes len content after
head_session place bytes mid len number (content-is.Stream head) after e k ((id, p, m, s, q), named, a) =
    let n = two_at bytes (drop len bytes) head.number id p in
    let same : head.number ≡ number = same_number bytes n.mid mid head.number number n.first e in
    let kind : has_session (stream_kind_of head.number) ≡ true = rw same k in
    rw kind ((id, p, m, s, q), named, a)
head_session place bytes mid len number content-is.Unread after e k (all, none) = (all, rw (e, k) none)
head_session place bytes mid len number content-is.Payload after e k none = absurd none
head_session place bytes mid len number (content-is.Frame f) after e k none = absurd none
head_session place bytes mid len number (content-is.Session id) after e k none = absurd none
head_session place bytes mid len number (content-is.Capsule c) after e k none = absurd none
head_session place bytes mid len number (content-is.Datagram d) after e k none = absurd none
head_session place bytes mid len number (content-is.Section x) after e k none = absurd none
head_session place bytes mid len number (content-is.Settings lines) after e k none = absurd none
head_session place bytes mid len number (content-is.Instruction item) after e k none = absurd none

-- a head with a push ID is that of a unidirectional stream whose type is that of a push stream
pub head_push : (place : ℕ) (bytes mid : List ℕ) (len number : ℕ) (content : Content) (after : Then) → number_at bytes ≡ Some (number, mid) → has_session (stream_kind_of number) ≡ false → is_push number ≡ true → IsPushHead place bytes len content after → IsNext next-is.Head place bytes len content after
head_push place bytes mid len number (content-is.Stream head) after e k push ((id, p, pushed, goes), none, named) =
    let n = two_at bytes (drop len bytes) head.number id p in
    let same : head.number ≡ number = same_number bytes n.mid mid head.number number n.first e in
    let kind : has_session (stream_kind_of head.number) ≡ false = rw same k in
    let pushes : is_push head.number ≡ true = rw same push in
    rw (kind, pushes) ((id, p, pushed, goes), none, named)
head_push place bytes mid len number content-is.Unread after e k push (all, none) = (all, rw (e, k) (push, none))
head_push place bytes mid len number content-is.Payload after e k push none = absurd none
head_push place bytes mid len number (content-is.Frame f) after e k push none = absurd none
head_push place bytes mid len number (content-is.Session id) after e k push none = absurd none
head_push place bytes mid len number (content-is.Capsule c) after e k push none = absurd none
head_push place bytes mid len number (content-is.Datagram d) after e k push none = absurd none
head_push place bytes mid len number (content-is.Section x) after e k push none = absurd none
head_push place bytes mid len number (content-is.Settings lines) after e k push none = absurd none
head_push place bytes mid len number (content-is.Instruction item) after e k push none = absurd none
