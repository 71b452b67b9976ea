-- The kinds and rules of frames, by their rows.
use Rattle.std.proofs.Common.{arith, ◌≡◌, ℕ, Bool, Option, refl, ap, ◌∙◌}
use Rattle.vesgrauf_registry.specs.declared.frames.Frame.{Frame}
use Rattle.vesgrauf_registry.specs.Frames.{frames, frame_of, columns_of, kind_of}
use Rattle.vesgrauf_registry.specs.Table.{AtEach, IsOther}
use Rattle.vesgrauf_registry.proofs.TableLemmas.{by_entries}
use Rattle.vesgrauf_registry_agreement.specs.Rules.{action_by, action_in, supported}
use Rattle.vesgrauf_registry_agreement.specs.Views.{frame_type_of, frame_kind_of}
use Rattle.wtp_frames.specs.declared.endpoint.Endpoint.{Endpoint}
use Rattle.wtp_frames.specs.declared.endpoint.Side.{Side}
use Rattle.wtp_frames.specs.declared.endpoint.Side.TheVariants.{Client, Server}
use Rattle.wtp_frames.specs.declared.fault.Fault.{Fault}
use Rattle.wtp_frames.specs.declared.frame_type.FrameType.{FrameType}
use Rattle.wtp_frames.specs.declared.frame_type.FrameType.TheVariants as kind
use Rattle.wtp_frames.specs.declared.reader.Place.{Place}
use Rattle.wtp_frames.specs.declared.reader.Place.TheVariants.{BeforeHeaders, Body, AfterTrailers, Tunnel, BeforeSettings, AfterSettings, Failed}
use Rattle.wtp_frames.specs.FrameType.{type_of}
use Rattle.wtp_frames.specs.Rules.{action_of}
use Rattle.wtp_wire.specs.Kind.{registered_kind}

-- ---- kinds

kinds_at_each : AtEach (λ n. type_of n ≡ frame_type_of (kind_of n)) frames
unfolding frame_of frames
kinds_at_each = search

kinds_others : (n : ℕ) → IsOther n frames → type_of n ≡ frame_type_of (kind_of n)
unfolding frame_of frames
kinds_others n h = grind (arith, h)

pub same_kind : (n : ℕ) → type_of n ≡ frame_type_of (kind_of n)
same_kind n = by_entries (λ m. type_of m ≡ frame_type_of (kind_of m)) frames n kinds_at_each (kinds_others n)

wire_at_each : AtEach (λ n. registered_kind n ≡ frame_kind_of (kind_of n)) frames
unfolding frame_of frames registered_kind
wire_at_each = search

wire_others : (n : ℕ) → IsOther n frames → registered_kind n ≡ frame_kind_of (kind_of n)
unfolding frame_of frames registered_kind
wire_others n h = grind (arith, h)

pub same_wire : (n : ℕ) → registered_kind n ≡ frame_kind_of (kind_of n)
same_wire n = by_entries (λ m. registered_kind m ≡ frame_kind_of (kind_of m)) frames n wire_at_each (wire_others n)

-- ---- rules

-- a number of each kind
abbrev number_of : FrameType → ℕ
number_of kind.Data = 0x00
number_of kind.Headers = 0x01
number_of kind.CancelPush = 0x03
number_of kind.Settings = 0x04
number_of kind.PushPromise = 0x05
number_of kind.GoAway = 0x07
number_of kind.MaxPushId = 0x0d
number_of kind.Http2 = 0x02
number_of kind.WebTransport = 0x41
number_of kind.Unknown = 0x21

-- a place is one of these
everywhere : (P : Place → Type 0) → P BeforeHeaders → P Body → P AfterTrailers → P Tunnel → P BeforeSettings → ((g p : Option ℕ) → P (AfterSettings g p)) → ((f : Fault) → P (Failed f)) → (place : Place) → P place
everywhere P a b c d e f g BeforeHeaders = a
everywhere P a b c d e f g Body = b
everywhere P a b c d e f g AfterTrailers = c
everywhere P a b c d e f g Tunnel = d
everywhere P a b c d e f g BeforeSettings = e
everywhere P a b c d e f g (AfterSettings goaway push) = f goaway push
everywhere P a b c d e f g (Failed fault) = g fault

abbrev Same : (w d : Bool) (max : ℕ) → Side → Place → ℕ → FrameType → ℕ → Type 0
Same w d max side place idle k len = action_of (record { side = side; webtransport = w; datagrams = d; max_section = max }) place idle k len ≡ action_in (record { side = side; webtransport = w; datagrams = d; max_section = max }) place idle (supported (columns_of (number_of k))) len

-- by kinds, as by the columns of a number of the kind
by_kind : (w d : Bool) (max : ℕ) (side : Side) (place : Place) (idle : ℕ) (k : FrameType) (len : ℕ) → Same w d max side place idle k len
unfolding frame_of frames
by_kind w d max Client place idle kind.Data len = everywhere (λ p. Same w d max Client p idle kind.Data len) refl refl refl refl refl (λ g p. refl) (λ f. refl) place
by_kind w d max Client place idle kind.Headers len = everywhere (λ p. Same w d max Client p idle kind.Headers len) refl refl refl refl refl (λ g p. refl) (λ f. refl) place
by_kind w d max Client place idle kind.CancelPush len = everywhere (λ p. Same w d max Client p idle kind.CancelPush len) refl refl refl refl refl (λ g p. refl) (λ f. refl) place
by_kind w d max Client place idle kind.Settings len = everywhere (λ p. Same w d max Client p idle kind.Settings len) refl refl refl refl refl (λ g p. refl) (λ f. refl) place
by_kind w d max Client place idle kind.PushPromise len = everywhere (λ p. Same w d max Client p idle kind.PushPromise len) refl refl refl refl refl (λ g p. refl) (λ f. refl) place
by_kind w d max Client place idle kind.GoAway len = everywhere (λ p. Same w d max Client p idle kind.GoAway len) refl refl refl refl refl (λ g p. refl) (λ f. refl) place
by_kind w d max Client place idle kind.MaxPushId len = everywhere (λ p. Same w d max Client p idle kind.MaxPushId len) refl refl refl refl refl (λ g p. refl) (λ f. refl) place
by_kind w d max Client place idle kind.Http2 len = everywhere (λ p. Same w d max Client p idle kind.Http2 len) refl refl refl refl refl (λ g p. refl) (λ f. refl) place
by_kind w d max Client place idle kind.WebTransport len = everywhere (λ p. Same w d max Client p idle kind.WebTransport len) refl refl refl refl refl (λ g p. refl) (λ f. refl) place
by_kind w d max Client place idle kind.Unknown len = everywhere (λ p. Same w d max Client p idle kind.Unknown len) refl refl refl refl refl (λ g p. refl) (λ f. refl) place
by_kind w d max Server place idle kind.Data len = everywhere (λ p. Same w d max Server p idle kind.Data len) refl refl refl refl refl (λ g p. refl) (λ f. refl) place
by_kind w d max Server place idle kind.Headers len = everywhere (λ p. Same w d max Server p idle kind.Headers len) refl refl refl refl refl (λ g p. refl) (λ f. refl) place
by_kind w d max Server place idle kind.CancelPush len = everywhere (λ p. Same w d max Server p idle kind.CancelPush len) refl refl refl refl refl (λ g p. refl) (λ f. refl) place
by_kind w d max Server place idle kind.Settings len = everywhere (λ p. Same w d max Server p idle kind.Settings len) refl refl refl refl refl (λ g p. refl) (λ f. refl) place
by_kind w d max Server place idle kind.PushPromise len = everywhere (λ p. Same w d max Server p idle kind.PushPromise len) refl refl refl refl refl (λ g p. refl) (λ f. refl) place
by_kind w d max Server place idle kind.GoAway len = everywhere (λ p. Same w d max Server p idle kind.GoAway len) refl refl refl refl refl (λ g p. refl) (λ f. refl) place
by_kind w d max Server place idle kind.MaxPushId len = everywhere (λ p. Same w d max Server p idle kind.MaxPushId len) refl refl refl refl refl (λ g p. refl) (λ f. refl) place
by_kind w d max Server place idle kind.Http2 len = everywhere (λ p. Same w d max Server p idle kind.Http2 len) refl refl refl refl refl (λ g p. refl) (λ f. refl) place
by_kind w d max Server place idle kind.WebTransport len = everywhere (λ p. Same w d max Server p idle kind.WebTransport len) refl refl refl refl refl (λ g p. refl) (λ f. refl) place
by_kind w d max Server place idle kind.Unknown len = everywhere (λ p. Same w d max Server p idle kind.Unknown len) refl refl refl refl refl (λ g p. refl) (λ f. refl) place

rows_at_each : AtEach (λ n. supported (columns_of (number_of (type_of n))) ≡ supported (columns_of n)) frames
unfolding frame_of frames
rows_at_each = search

rows_others : (n : ℕ) → IsOther n frames → supported (columns_of (number_of (type_of n))) ≡ supported (columns_of n)
unfolding frame_of frames
rows_others n h = grind (arith, h)

same_rows : (n : ℕ) → supported (columns_of (number_of (type_of n))) ≡ supported (columns_of n)
same_rows n = by_entries (λ m. supported (columns_of (number_of (type_of m))) ≡ supported (columns_of m)) frames n rows_at_each (rows_others n)

pub same_rules : (e : Endpoint) (place : Place) (idle n len : ℕ) → action_of e place idle (type_of n) len ≡ action_by e place idle (columns_of n) len
same_rules e place idle n len = by_kind e.webtransport e.datagrams e.max_section e.side place idle (type_of n) len ∙ ap (λ (f : Option Frame). action_in e place idle f len) (same_rows n)
