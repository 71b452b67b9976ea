-- Written frames are read back.
use Rattle.std.proofs.Common.{◌≡◌, ◌≢◌, ℕ, ◌^◌, ◌≤◌, ◌<◌, List, [], ◌∷◌, ◌++◌, length, refl, sym, ap, ◌∙◌, append_assoc, append-nil, arith, lit<}
use Rattle.wtp_core.specs.Varint.{shortest}
use Rattle.wtp_core.specs.Writer.{joined}
use Rattle.wtp_core.proofs.ShortLemmas.{shortest-encodes}
use Rattle.wtp_wire.specs.declared.frame.kind.FrameKind.{FrameKind}
use Rattle.wtp_wire.specs.declared.frame.kind.FrameKind.TheVariants.{WebTransport, Exercise}
use Rattle.wtp_wire.specs.Kind.{frame_type_of, IsKind}
use Rattle.wtp_wire.specs.Content.{Content, PlainOf, WebTransportOf}
use Rattle.wtp_wire.specs.Front.{Framed, EncodesPair, IsPlainFrame, IsFrame, front}
use Rattle.wtp_wire.specs.Wire.{plain_parts, wire, IsReadable}
use Rattle.wtp_wire.proofs.KindLemmas.{test_exercise}
use Rattle.wtp_wire.proofs.FrontLemmas.{front-begins}

head : (id n : ℕ) → id < 2 ^ 62 → n < 2 ^ 62 → EncodesPair id n (shortest id ++ shortest n)
head id n hi hn = record { first = shortest id; second = shortest n; parts = refl; type_number = shortest-encodes id hi; number = shortest-encodes n hn }

joined-plain : (number : ℕ) (payload : List ℕ) → joined (plain_parts number payload) ≡ (shortest number ++ shortest (length payload)) ++ payload
joined-plain number payload = ap (λ (x : List ℕ). shortest number ++ (shortest (length payload) ++ x)) (append-nil payload) ∙ sym (append_assoc (shortest number) (shortest (length payload)) payload)

joined-two : (id n : ℕ) → joined (shortest id ∷ shortest n ∷ []) ≡ shortest id ++ shortest n
joined-two id n = ap (λ (x : List ℕ). shortest id ++ x) (append-nil (shortest n))

plain_is_plain : (kind : FrameKind) (id : ℕ) (payload : List ℕ) → IsKind kind id → kind ≢ WebTransport → id < 2 ^ 62 → length payload ≤ 4096 → IsPlainFrame kind payload (joined (plain_parts id payload))
plain_is_plain kind id payload is_kind plain fits small = record {
  id = id;
  head = shortest id ++ shortest (length payload);
  is_kind = is_kind;
  plain = plain;
  encoded = head id (length payload) fits (omega arith);
  small = small;
  parts = joined-plain id payload;
}

wire_is_frame : (f : Content) → IsReadable f → IsFrame f (wire f)
wire_is_frame (PlainOf WebTransport payload) h = absurd h
wire_is_frame (PlainOf (Exercise number) payload) (fits, reserved, small) = plain_is_plain (Exercise number) number payload (refl, test_exercise number reserved) (λ e. cc) fits small
wire_is_frame (PlainOf kind payload) small = plain_is_plain kind (frame_type_of kind) payload refl (λ e. cc) (lit< tt) small
wire_is_frame (WebTransportOf id) h = (rw (joined-two (frame_type_of WebTransport) id) (head (frame_type_of WebTransport) id (lit< tt) h.0), h.1)

pub front-wire : (f : Content) (rest : List ℕ) → IsReadable f → front (wire f ++ rest) ≡ Framed f rest
front-wire f rest h = front-begins (wire f ++ rest) (Framed f rest) (wire f, wire_is_frame f h, refl)
