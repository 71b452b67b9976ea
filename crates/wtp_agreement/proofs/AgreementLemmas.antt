-- A frame of the wire grammar in a run.
use Rattle.std.proofs.Common.{◌≡◌, ℕ, ◌≤◌, Bool, true, false, List, [], ◌∷◌, ◌++◌, map, length, None, refl, sym, ap, subst, ◌∙◌, arith, append_assoc, inl, inr}
use Rattle.std.proofs.lemmas.Bool.{le-ltb}
use Rattle.wtp_wire.specs.declared.frame.kind.FrameKind.{FrameKind}
use Rattle.wtp_wire.specs.declared.frame.kind.FrameKind.TheVariants as wire
use Rattle.wtp_wire.specs.Kind.{IsKind}
use Rattle.wtp_wire.specs.Content.{PlainOf}
use Rattle.wtp_wire.specs.Front.{Front, Framed, Short, Begins, front}
use Rattle.wtp_wire.proofs.FrontLemmas.{front_holds}
use Rattle.wtp_frames.specs.declared.endpoint.Endpoint.{Endpoint}
use Rattle.wtp_frames.specs.declared.frame_type.FrameType.TheVariants as kind
use Rattle.wtp_frames.specs.declared.reader.Place.TheVariants.{BeforeHeaders, Body, AfterTrailers, BeforeSettings, AfterSettings}
use Rattle.wtp_frames.specs.Grammar.{Frame, written, IsFrame, count_data, HasRoom}
use Rattle.wtp_frames.specs.Item.{Whole, Byte}
use Rattle.wtp_frames.specs.Run.{preceded, run}
use Rattle.wtp_frames.specs.Start.{between}
use Rattle.wtp_frames.proofs.WrittenLemmas.{whole_written}
use Rattle.wtp_frames.proofs.GrammarLemmas.{data_run}

-- the bytes begin with this frame of the other grammar
pub record HasFrame (k : FrameKind) (payload bytes rest : List ℕ) : Type 0 where
  pub frame : Frame
  pub id : ℕ
  pub is_kind : IsKind k id
  pub is : IsFrame id frame
  pub same : frame.payload ≡ payload
  pub small : length payload ≤ 4096
  pub parts : bytes ≡ written frame ++ rest

framed_short : (k : FrameKind) (payload rest : List ℕ) → Framed (PlainOf k payload) rest ≡ Short → ⊥
framed_short k payload rest e = cc

begins : (k : FrameKind) (payload bytes rest : List ℕ) → front bytes ≡ Framed (PlainOf k payload) rest → Begins bytes (Framed (PlainOf k payload) rest)
begins k payload bytes rest e = elim (front_holds bytes) [
  | inl short ↦ absurd (framed_short k payload rest (sym e ∙ short))
  | inr b ↦ subst (λ (x : Front). Begins bytes x) e b
]

pub has_frame : (k : FrameKind) (payload bytes rest : List ℕ) → front bytes ≡ Framed (PlainOf k payload) rest → HasFrame k payload bytes rest
has_frame k payload bytes rest e =
    let (s, f, parts) = begins k payload bytes rest e in
    let first = f.encoded.first in
    let second = f.encoded.second in
    record {
      frame = record { type_bytes = first; length_bytes = second; payload = payload };
      id = f.id;
      is_kind = f.is_kind;
      is = record { typed = f.encoded.type_number; sized = f.encoded.number };
      same = refl;
      small = f.small;
      parts =
          parts
          ∙ ap (λ (l : List ℕ). l ++ rest) (
          f.parts
          ∙ ap (λ (l : List ℕ). l ++ payload) f.encoded.parts
          ∙ append_assoc first second payload);
    }

pub headers_first : (e : Endpoint) (k : ℕ) (s : Bool) (n : ℕ) (bytes payload rest : List ℕ) → 4096 ≤ e.max_section → front bytes ≡ Framed (PlainOf wire.Headers payload) rest → run (between e k BeforeHeaders s n) bytes ≡ preceded (Whole kind.Headers payload ∷ []) (run (between e k Body false 0) rest)
headers_first e k s n bytes payload rest l h =
    let x : HasFrame wire.Headers payload bytes rest = has_frame wire.Headers payload bytes rest h in
    let typed : IsFrame 0x01 x.frame = subst (λ (i : ℕ). IsFrame i x.frame) x.is_kind x.is in
    let small : length x.frame.payload ≤ e.max_section = omega (arith, l, x.small, ap length x.same) in
    ap (λ (b : List ℕ). run (between e k BeforeHeaders s n) b) x.parts
    ∙ whole_written (between e k BeforeHeaders s n) 0x01 x.frame rest Body (record { intact = refl; none = refl }) typed (rw (le-ltb e.max_section (length x.frame.payload) small) refl) refl
    ∙ ap (λ (p : List ℕ). preceded (Whole kind.Headers p ∷ []) (run (between e k Body false 0) rest)) x.same

pub headers_after : (e : Endpoint) (k : ℕ) (s : Bool) (n : ℕ) (bytes payload rest : List ℕ) → 4096 ≤ e.max_section → front bytes ≡ Framed (PlainOf wire.Headers payload) rest → run (between e k Body s n) bytes ≡ preceded (Whole kind.Headers payload ∷ []) (run (between e k AfterTrailers false 0) rest)
headers_after e k s n bytes payload rest l h =
    let x : HasFrame wire.Headers payload bytes rest = has_frame wire.Headers payload bytes rest h in
    let typed : IsFrame 0x01 x.frame = subst (λ (i : ℕ). IsFrame i x.frame) x.is_kind x.is in
    let small : length x.frame.payload ≤ e.max_section = omega (arith, l, x.small, ap length x.same) in
    ap (λ (b : List ℕ). run (between e k Body s n) b) x.parts
    ∙ whole_written (between e k Body s n) 0x01 x.frame rest AfterTrailers (record { intact = refl; none = refl }) typed (rw (le-ltb e.max_section (length x.frame.payload) small) refl) refl
    ∙ ap (λ (p : List ℕ). preceded (Whole kind.Headers p ∷ []) (run (between e k AfterTrailers false 0) rest)) x.same

pub settings_first : (e : Endpoint) (k : ℕ) (s : Bool) (n : ℕ) (bytes payload rest : List ℕ) → front bytes ≡ Framed (PlainOf wire.Settings payload) rest → run (between e k BeforeSettings s n) bytes ≡ preceded (Whole kind.Settings payload ∷ []) (run (between e k (AfterSettings None None) false 0) rest)
settings_first e k s n bytes payload rest h =
    let x : HasFrame wire.Settings payload bytes rest = has_frame wire.Settings payload bytes rest h in
    let typed : IsFrame 0x04 x.frame = subst (λ (i : ℕ). IsFrame i x.frame) x.is_kind x.is in
    let small : length x.frame.payload ≤ 4096 = omega (arith, x.small, ap length x.same) in
    ap (λ (b : List ℕ). run (between e k BeforeSettings s n) b) x.parts
    ∙ whole_written (between e k BeforeSettings s n) 0x04 x.frame rest (AfterSettings None None) (record { intact = refl; none = refl }) typed (rw (le-ltb 4096 (length x.frame.payload) small) refl) refl
    ∙ ap (λ (p : List ℕ). preceded (Whole kind.Settings p ∷ []) (run (between e k (AfterSettings None None) false 0) rest)) x.same

pub data_after : (e : Endpoint) (k : ℕ) (s : Bool) (n : ℕ) (bytes payload rest : List ℕ) → HasRoom n payload → front bytes ≡ Framed (PlainOf wire.Data payload) rest → run (between e k Body s n) bytes ≡ preceded (map Byte payload) (run (between e k Body true (count_data n payload)) rest)
data_after e k s n bytes payload rest l h =
    let x : HasFrame wire.Data payload bytes rest = has_frame wire.Data payload bytes rest h in
    let typed : IsFrame 0x00 x.frame = subst (λ (i : ℕ). IsFrame i x.frame) x.is_kind x.is in
    ap (λ (b : List ℕ). run (between e k Body s n) b) x.parts
    ∙ data_run e k s n x.frame rest typed (subst (λ (p : List ℕ). HasRoom n p) (sym x.same) l)
    ∙ ap (λ (p : List ℕ). preceded (map Byte p) (run (between e k Body true (count_data n p)) rest)) x.same
