-- A frame that is written in any encoding is read.
use Rattle.std.proofs.Common.{◌≡◌, ℕ, ◌+◌, ◌<◌, ◌==◌, Bool, true, false, List, [], ◌∷◌, ◌++◌, map, length, Option, Some, Result, Ok, Err, refl, ap, ◌∙◌, arith, append_assoc, length-append, inl, inr, ◌⊎◌}
use Rattle.std.proofs.lemmas.Bool.{cases_Bool, lt-ltb, ne_eqb, eqb-true}
use Rattle.std.proofs.Math.Seq.{take-append_seam, drop-append_seam}
use Rattle.wtp_core.specs.Varint.{Encodes}
use Rattle.wtp_core.proofs.EncodingLemmas.{number_at-encoding, bytes_at-append}
use Rattle.wtp_frames.specs.declared.endpoint.Endpoint.{Endpoint}
use Rattle.wtp_frames.specs.declared.frame_type.FrameType.{FrameType}
use Rattle.wtp_frames.specs.declared.frame_type.FrameType.TheVariants as kind
use Rattle.wtp_frames.specs.declared.fault.Fault.{Fault}
use Rattle.wtp_frames.specs.declared.reader.Place.{Place}
use Rattle.wtp_frames.specs.declared.reader.Reader.{Reader}
use Rattle.wtp_frames.specs.declared.rules.Action.{Action}
use Rattle.wtp_frames.specs.declared.rules.Action.TheVariants.{Give, Stream, Skip, SkipSection, Refuse}
use Rattle.wtp_frames.specs.FrameType.{type_of}
use Rattle.wtp_frames.specs.Grammar.{Frame, written, IsFrame, IsUnknown}
use Rattle.wtp_frames.specs.Item.{Item, Whole, Byte, TooLarge}
use Rattle.wtp_frames.specs.Rules.{without_content, webtransport, accepted}
use Rattle.wtp_frames.specs.Run.{Run, preceded, pieces, counted, streams, skips, skips_section, moved, breaks, head_at, by_place, by_payload, action_at, is_failed, run}
use Rattle.wtp_frames.proofs.HeadLemmas.{head_of}
use Rattle.wtp_frames.proofs.RunLemmas.{AtHead, run_frame, run_past}

-- ---- the head

pub head_encoded : (id n : ℕ) (t u rest : List ℕ) → Encodes id t → Encodes n u → head_at (t ++ (u ++ rest)) ≡ Some (id, n, rest)
head_encoded id n t u rest f g = head_of (t ++ (u ++ rest)) (u ++ rest) rest id n (number_at-encoding id t (u ++ rest) f) (number_at-encoding n u rest g)

frame_parts : (f : Frame) (more : List ℕ) → written f ++ more ≡ f.type_bytes ++ (f.length_bytes ++ (f.payload ++ more))
frame_parts f more =
    append_assoc f.type_bytes (f.length_bytes ++ f.payload) more
    ∙ ap (λ (l : List ℕ). f.type_bytes ++ l) (append_assoc f.length_bytes f.payload more)

pub head_written : (id : ℕ) (f : Frame) (more : List ℕ) → IsFrame id f → head_at (written f ++ more) ≡ Some (id, length f.payload, f.payload ++ more)
head_written id f more is = ap head_at (frame_parts f more) ∙ head_encoded id (length f.payload) f.type_bytes f.length_bytes (f.payload ++ more) is.typed is.sized

-- ---- the frame

pub whole_written : (r : Reader) (id : ℕ) (f : Frame) (more : List ℕ) (place : Place) → AtHead r → IsFrame id f → action_at r (type_of id) (length f.payload) ≡ Give → accepted r.endpoint.side r.place (type_of id) f.payload ≡ Ok place → run r (written f ++ more) ≡ preceded (Whole (type_of id) f.payload ∷ []) (run (moved r place) more)
whole_written r id f more place z is t a =
    run_frame r (written f ++ more) (f.payload ++ more) id (length f.payload) Give z (head_written id f more is) t
    ∙ ap (λ (x : Option (List ℕ × List ℕ)). by_payload (λ s l. run s l) r (written f ++ more) (type_of id) x) (bytes_at-append f.payload more)
    ∙ ap (λ (x : Result Place Fault). by_place (λ s l. run s l) r (type_of id) f.payload more x) a

pub unaccepted_written : (r : Reader) (id : ℕ) (f : Frame) (more : List ℕ) (x : Fault) → AtHead r → IsFrame id f → action_at r (type_of id) (length f.payload) ≡ Give → accepted r.endpoint.side r.place (type_of id) f.payload ≡ Err x → run r (written f ++ more) ≡ breaks r x
unaccepted_written r id f more x z is t a =
    run_frame r (written f ++ more) (f.payload ++ more) id (length f.payload) Give z (head_written id f more is) t
    ∙ ap (λ (o : Option (List ℕ × List ℕ)). by_payload (λ s l. run s l) r (written f ++ more) (type_of id) o) (bytes_at-append f.payload more)
    ∙ ap (λ (o : Result Place Fault). by_place (λ s l. run s l) r (type_of id) f.payload more o) a

abbrev due : Reader → ℕ → Reader
due r n = record r { remaining = n }

no_pieces : (b : Bool) → [] ≡ pieces b []
no_pieces true = refl
no_pieces false = refl

payload_run : (r : Reader) (payload more : List ℕ) → is_failed r.place ≡ false → run (due r (length payload)) (payload ++ more) ≡ preceded (pieces r.streamed payload) (run (due r 0) more)
payload_run r [] more z = ap (λ (l : List Item). preceded l (run (due r 0) more)) (no_pieces r.streamed)
payload_run r (x ∷ payload) more z =
    run_past (due r (length (x ∷ payload))) ((x ∷ payload) ++ more) (record { intact = z; some = omega arith }) (omega (arith, length-append (x ∷ payload) more))
    ∙ rw (take-append_seam (x ∷ payload) more, drop-append_seam (x ∷ payload) more) refl

pub streamed_written : (r : Reader) (id : ℕ) (f : Frame) (more : List ℕ) → AtHead r → IsFrame id f → action_at r (type_of id) (length f.payload) ≡ Stream → run r (written f ++ more) ≡ preceded (map Byte f.payload) (run (due (streams r (length f.payload)) 0) more)
streamed_written r id f more z is t =
    run_frame r (written f ++ more) (f.payload ++ more) id (length f.payload) Stream z (head_written id f more is) t
    ∙ payload_run (streams r (length f.payload)) f.payload more z.intact

pub skipped_written : (r : Reader) (id : ℕ) (f : Frame) (more : List ℕ) → AtHead r → IsFrame id f → action_at r (type_of id) (length f.payload) ≡ Skip → run r (written f ++ more) ≡ run (due (skips r (length f.payload)) 0) more
skipped_written r id f more z is t =
    run_frame r (written f ++ more) (f.payload ++ more) id (length f.payload) Skip z (head_written id f more is) t
    ∙ payload_run (skips r (length f.payload)) f.payload more z.intact

pub too_large_written : (r : Reader) (id : ℕ) (f : Frame) (more : List ℕ) → AtHead r → is_failed (skips_section r (length f.payload)).place ≡ false → IsFrame id f → action_at r (type_of id) (length f.payload) ≡ SkipSection → run r (written f ++ more) ≡ preceded (TooLarge (length f.payload) ∷ []) (run (due (skips_section r (length f.payload)) 0) more)
too_large_written r id f more z w is t =
    run_frame r (written f ++ more) (f.payload ++ more) id (length f.payload) SkipSection z (head_written id f more is) t
    ∙ ap (λ (x : Run). preceded (TooLarge (length f.payload) ∷ []) x) (payload_run (skips_section r (length f.payload)) f.payload more w)

pub refused_written : (r : Reader) (id n : ℕ) (t u more : List ℕ) (x : Fault) → AtHead r → Encodes id t → Encodes n u → action_at r (type_of id) n ≡ Refuse x → run r (t ++ (u ++ more)) ≡ breaks r x
refused_written r id n t u more x z f g is = run_frame r (t ++ (u ++ more)) more id n (Refuse x) z (head_encoded id n t u more f g) is

-- ---- unknown types

pub unknown_kind : (enabled : Bool) (id : ℕ) → IsUnknown enabled id → (type_of id ≡ kind.Unknown) ⊎ ((type_of id ≡ kind.WebTransport) × (enabled ≡ false))
unknown_kind enabled id u = elim (cases_Bool (id == 0x41)) [
  | inl same ↦
      let e : id ≡ 0x41 = eqb-true id 0x41 same in
      elim (cases_Bool enabled) [
        | inl on ↦ absurd (u.webtransport on e)
        | inr off ↦ inr (ap type_of e, off)
      ]
  | inr other ↦ inl (rw (
    ne_eqb id 0x00 u.data_frame,
    ne_eqb id 0x01 u.headers,
    ne_eqb id 0x02 u.priority,
    ne_eqb id 0x03 u.cancel_push,
    ne_eqb id 0x04 u.settings,
    ne_eqb id 0x05 u.push_promise,
    ne_eqb id 0x06 u.ping,
    ne_eqb id 0x07 u.goaway,
    ne_eqb id 0x08 u.window_update,
    ne_eqb id 0x09 u.continuation,
    ne_eqb id 0x0d u.max_push_id,
    other,
  ) refl)
]

-- what a table does with an unknown type it does with 0x41 if that is not enabled
pub unknown_action : (e : Endpoint) (id : ℕ) (table : FrameType → Action) (a : Action) → IsUnknown e.webtransport id → table kind.Unknown ≡ a → table kind.WebTransport ≡ webtransport e a → table (type_of id) ≡ a
unknown_action e id table a u f g = elim (unknown_kind e.webtransport id u) [
  | inl k ↦ ap table k ∙ f
  | inr k ↦ ap table k.0 ∙ g ∙ rw k.1 refl
]

pub content_skips : (idle : ℕ) → idle < 1024 → without_content idle Skip ≡ Skip
content_skips idle l = rw (lt-ltb idle 1024 l) refl

pub counted_one : (idle : ℕ) → idle < 1024 → counted idle ≡ idle + 1
counted_one idle l = rw (lt-ltb idle 1024 l) refl
