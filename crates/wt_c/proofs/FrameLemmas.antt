-- Kinds of frames with a payload, by frame type.
use Rattle.std.proofs.Common.{◌≡◌, ◌≢◌, ℕ, ◌<◌, ◌≤◌, ◌^◌, List, [], ◌∷◌, ◌++◌, length, Some, None}
use Rattle.std.proofs.Common.{refl, sym, ap, arith, append_assoc}
use Rattle.wtp_core.specs.Varint.{shortest}
use Rattle.wtp_wire.specs.declared.frame.kind.FrameKind.{FrameKind}
use Rattle.wtp_wire.specs.declared.frame.kind.FrameKind.TheVariants.{WebTransport}
use Rattle.wtp_wire.specs.Content.{PlainOf}
use Rattle.wtp_wire.specs.Kind.{IsKnown, frame_type_of, kind_of}
use Rattle.wtp_wire.specs.Wire.{wire}
use Rattle.wtp_wire.proofs.KindLemmas.{kind_of-is, is-kind_of, is_kind-known}
use Rattle.wt_c.specs.Frames.{IsPayloadKind, frame_head}

pub none_above : (number : ℕ) → 2 ^ 62 ≤ number → (k : FrameKind) → ¬ (IsPayloadKind k number)
none_above number h k is = let low = is.below in absurd (omega (arith, h, low))

pub none_unknown : (number : ℕ) → kind_of number ≡ None → (k : FrameKind) → ¬ (IsPayloadKind k number)
none_unknown number e k is = let known : kind_of number ≡ Some k = kind_of-is k number is.is_kind in absurd (cc)

pub none_webtransport : (number : ℕ) → kind_of number ≡ Some WebTransport → (k : FrameKind) → ¬ (IsPayloadKind k number)
none_webtransport number e k is =
    let known : kind_of number ≡ Some k = kind_of-is k number is.is_kind in
    let same : k ≡ WebTransport = cc in
    is.plain same

pub found_kind : (number : ℕ) (k : FrameKind) → number < 2 ^ 62 → kind_of number ≡ Some k → k ≢ WebTransport → IsPayloadKind k number
found_kind number k low e plain = record { below = low; is_kind = is-kind_of k number e; plain = plain }

pub ruleset payload_kinds = (none_above, none_unknown, none_webtransport, found_kind)

pub known_kind : (k : FrameKind) (number : ℕ) → IsPayloadKind k number → IsKnown k
known_kind k number is = is_kind-known k number is.is_kind

append_none : (s : List ℕ) → s ++ [] ≡ s
append_none [] = refl
append_none (x ∷ s) = ap (λ (l : List ℕ). x ∷ l) (append_none s)

pub head_and_payload : (k : FrameKind) (payload : List ℕ) → wire (PlainOf k payload) ≡ frame_head k (length payload) ++ payload
head_and_payload k payload = rw append_none (sym (append_assoc (shortest (frame_type_of k)) (shortest (length payload)) payload))
