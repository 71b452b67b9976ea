-- What is written is read.
use Rattle.std.proofs.Common.{◌≡◌, ℕ, ◌+◌, ◌-◌, ◌^◌, ◌<◌, ◌≤◌, ◌==◌, Bool, true, false, List, [], ◌∷◌, ◌++◌, map, length, take, drop, Option, Some, None, Result, Ok, Err, refl, sym, ap, ◌∙◌, arith, append_assoc, lit<, inl, inr, ◌⊎◌}
use Rattle.std.proofs.lemmas.Bool.{cases_lt, ne_eqb}
use Rattle.std.proofs.lemmas.List.{append-nil, length-append}
use Rattle.std.proofs.Math.Seq.{take-append_seam, drop-append_seam}
use Rattle.wtp_core.specs.Varint.{Encodes, shortest}
use Rattle.wtp_core.proofs.ShortLemmas.{shortest-encodes}
use Rattle.wtp_wire.specs.Content.{HeadersOf, DataOf}
use Rattle.wtp_wire.specs.Wire.{wire}
use Rattle.wtp_frames.specs.declared.endpoint.Endpoint.{Endpoint}
use Rattle.wtp_frames.specs.declared.reader.Place.{Place as Reading}
use Rattle.wtp_frames.specs.declared.reader.Place.TheVariants.{BeforeHeaders, Body, AfterTrailers}
use Rattle.wtp_frames.specs.declared.reader.Reader.{Reader}
use Rattle.wtp_frames.specs.declared.frame_type.FrameType.TheVariants as kind
use Rattle.wtp_frames.specs.Grammar.{Frame, written, IsFrame, section_item}
use Rattle.wtp_frames.specs.Item.{Item, Byte}
use Rattle.wtp_frames.specs.Run.{Run, run, preceded, action_at, by_action, after_data, within_payload}
use Rattle.wtp_frames.specs.Start.{awaiting, between}
use Rattle.wtp_frames.proofs.CutLemmas.{cut}
use Rattle.wtp_frames.proofs.GrammarLemmas.{Section, section_run, data_run}
use Rattle.wtp_frames.proofs.RunLemmas.{AtHead, InPayload, run_frame, run_past, run_all}
use Rattle.wtp_frames.proofs.WrittenLemmas.{head_encoded}
use Rattle.wtp_sending.specs.Sent.{reads_data}
use Rattle.wtp_sending.specs.Message.{data_head}
use Rattle.wtp_sending.specs.Writing.{two_numbers}

-- ---- a frame as it is written

abbrev pub frame_of : ℕ → List ℕ → Frame
frame_of id payload = record { type_bytes = shortest id; length_bytes = shortest (length payload); payload = payload }

pub frame_is : (id : ℕ) (payload : List ℕ) → id < 2 ^ 62 → length payload < 2 ^ 62 → IsFrame id (frame_of id payload)
frame_is id payload h l = record { typed = shortest-encodes id h; sized = shortest-encodes (length payload) l }

headers_written : (payload : List ℕ) → wire (HeadersOf payload) ≡ written (frame_of 1 payload)
headers_written payload = ap (λ (l : List ℕ). shortest 1 ++ (shortest (length payload) ++ l)) (append-nil payload)

data_written : (payload : List ℕ) → wire (DataOf payload) ≡ written (frame_of 0 payload)
data_written payload = ap (λ (l : List ℕ). shortest 0 ++ (shortest (length payload) ++ l)) (append-nil payload)

-- ---- sections

pub head_read : (e : Endpoint) (k : ℕ) (payload more : List ℕ) → length payload < 2 ^ 62 → run (awaiting e k) (wire (HeadersOf payload) ++ more) ≡ preceded (section_item e.max_section payload ∷ []) (run (reads_data e k Body false 0) more)
head_read e k payload more l =
    let s : Section e k BeforeHeaders Body false 0 (frame_of 1 payload) more = section_run e k BeforeHeaders Body false 0 (frame_of 1 payload) more refl refl (frame_is 1 payload (lit< tt) l) refl refl refl in
    ap (λ (x : List ℕ). run (awaiting e k) (x ++ more)) (headers_written payload) ∙ s.is

pub trailers_read : (e : Endpoint) (k : ℕ) (b : Bool) (payload more : List ℕ) → length payload < 2 ^ 62 → run (reads_data e k Body b 0) (wire (HeadersOf payload) ++ more) ≡ preceded (section_item e.max_section payload ∷ []) (run (reads_data e k AfterTrailers false 0) more)
trailers_read e k b payload more l =
    let s : Section e k Body AfterTrailers b 0 (frame_of 1 payload) more = section_run e k Body AfterTrailers b 0 (frame_of 1 payload) more refl refl (frame_is 1 payload (lit< tt) l) refl refl refl in
    ap (λ (x : List ℕ). run (reads_data e k Body b 0) (x ++ more)) (headers_written payload) ∙ s.is

-- ---- DATA

some_data : (n : ℕ) → 0 < n → (n == 0) ≡ false
some_data n l = ne_eqb n 0 (λ z. omega (arith, z))

no_idle : (n : ℕ) → 0 < n → after_data 0 n ≡ 0
no_idle n l = rw (some_data n l) refl

begun : (e : Endpoint) (k n : ℕ) (b : Bool) (bytes more : List ℕ) → 0 < n → by_action (λ s left. run s left) (reads_data e k Body b 0) bytes kind.Data n more (action_at (reads_data e k Body b 0) kind.Data n) ≡ run (reads_data e k Body true n) more
begun e k n b bytes more l = rw (some_data n l) (ap (λ (i : ℕ). run (record (reads_data e k Body true n) { idle = i }) more) (no_idle n l))

pub data_head_read : (e : Endpoint) (k n : ℕ) (b : Bool) (more : List ℕ) → 0 < n → n < 2 ^ 62 → run (reads_data e k Body b 0) (data_head n ++ more) ≡ preceded [] (run (reads_data e k Body true n) more)
data_head_read e k n b more some fits =
    ap (λ (x : List ℕ). run (reads_data e k Body b 0) x) (append_assoc (shortest 0) (shortest n) more)
    ∙ run_frame (reads_data e k Body b 0) (shortest 0 ++ (shortest n ++ more)) more 0 n (action_at (reads_data e k Body b 0) kind.Data n) (record { intact = refl; none = refl }) (head_encoded 0 n (shortest 0) (shortest n) more (shortest-encodes 0 (lit< tt)) (shortest-encodes n fits)) refl
    ∙ begun e k n b (shortest 0 ++ (shortest n ++ more)) more some

-- a whole frame
pub data_read : (e : Endpoint) (k : ℕ) (b : Bool) (payload more : List ℕ) → 0 < length payload → length payload < 2 ^ 62 → run (reads_data e k Body b 0) (wire (DataOf payload) ++ more) ≡ preceded (map Byte payload) (run (reads_data e k Body true 0) more)
data_read e k b [] more some l = absurd (omega arith)
data_read e k b (first ∷ others) more some l =
    ap (λ (x : List ℕ). run (reads_data e k Body b 0) (x ++ more)) (data_written (first ∷ others))
    ∙ data_run e k b 0 (frame_of 0 (first ∷ others)) more (frame_is 0 (first ∷ others) (lit< tt) l) tt

-- all bytes that are missing
bytes_all : (e : Endpoint) (k : ℕ) (payload more : List ℕ) → run (reads_data e k Body true (length payload)) (payload ++ more) ≡ preceded (map Byte payload) (run (reads_data e k Body true 0) more)
bytes_all e k [] more = refl
bytes_all e k (x ∷ payload) more =
    run_past (reads_data e k Body true (length (x ∷ payload))) ((x ∷ payload) ++ more) (record { intact = refl; some = omega arith }) (omega (arith, length-append (x ∷ payload) more))
    ∙ rw (take-append_seam payload more, drop-append_seam payload more) refl

-- some of them
bytes_some : (e : Endpoint) (k n : ℕ) (payload more : List ℕ) → length payload < n → run (reads_data e k Body true n) (payload ++ more) ≡ preceded (map Byte payload) (run (reads_data e k Body true (n - length payload)) more)
bytes_some e k n payload more l =
    let one : run (reads_data e k Body true n) payload ≡ within_payload (reads_data e k Body true n) payload = run_all (reads_data e k Body true n) payload (record { intact = refl; some = omega arith }) l in
    cut (reads_data e k Body true n) payload more
    ∙ ap (λ (x : Run). preceded x.items (run x.reader (x.left ++ more))) one

by_order : (m n : ℕ) → m ≤ n → (m < n) ⊎ (m ≡ n)
by_order m n l = elim (cases_lt m n) [ inl h ↦ inl h | inr h ↦ inr (omega arith) ]

pub bytes_read : (e : Endpoint) (k n : ℕ) (payload more : List ℕ) → length payload ≤ n → run (reads_data e k Body true n) (payload ++ more) ≡ preceded (map Byte payload) (run (reads_data e k Body true (n - length payload)) more)
bytes_read e k n payload more l = elim (by_order (length payload) n l) [
  | inl h ↦ bytes_some e k n payload more h
  | inr h ↦
      let none : n - length payload ≡ 0 = omega arith in
      ap (λ (x : ℕ). run (reads_data e k Body true x) (payload ++ more)) (sym h)
      ∙ bytes_all e k payload more
      ∙ ap (λ (x : ℕ). preceded (map Byte payload) (run (reads_data e k Body true x) more)) (sym none)
]
