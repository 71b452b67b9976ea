-- The heads of unidirectional streams: the type, and an ID after some types (RFC 9114, section 6.2).
use Rattle.std.specs.Prelude.{◌≡◌, ℕ, ◌-◌, ◌%◌, ◌==◌, Bool, true, false, List, length, drop, codes}
use Rattle.std.specs.Prelude.{Option, Some, None, Ok}
use Rattle.wtp_core.specs.Varint.{number_at}
use Rattle.wtp_core.specs.VarintLenNeeded.{varint_len_needed}
use Rattle.wtp_core.specs.declared.error.ErrorCode.TheVariants as code-is
use Rattle.wtp_wire.specs.Settings.{pair_at}
use Rattle.wtp_wire.specs.StreamKind.{stream_kind_of}
use Rattle.wtp_wire.specs.declared.rules.StreamRole.TheVariants as role-is
use Rattle.wtp_wire.specs.declared.stream_header.StreamKind.{StreamKind}
use Rattle.wtp_wire.specs.declared.stream_header.StreamKind.TheVariants as stream-is
use Rattle.wt_inspection_model.specs.Names.{stream_name_of}
use Rattle.wt_inspection_model.specs.declared.item.Content.{Content}
use Rattle.wt_inspection_model.specs.declared.item.Content.TheVariants as content-is
use Rattle.wt_inspection_model.specs.declared.item.StreamHead.{StreamHead}
use Rattle.wt_inspection.specs.declared.reading.Next.{Next}
use Rattle.wt_inspection.specs.declared.reading.Next.TheVariants as next-is
use Rattle.wt_inspection.specs.Stops.{IsCut, StopsWith, Then, pair_lacks}

-- frames on a control stream, and the instructions of QPACK's streams (RFC 9204, section 4.2)
abbrev pub after_head : Option StreamKind → Next
after_head (Some stream-is.Control) = next-is.Frames role-is.UniRemote true
after_head (Some stream-is.QPackEncoder) = next-is.Encoder
after_head (Some stream-is.QPackDecoder) = next-is.Decoder
after_head other = next-is.Payload

-- a session ID follows the type of a stream of this kind
abbrev pub has_session : Option StreamKind → Bool
has_session (Some stream-is.WebTransport) = true
has_session other = false

-- a push ID follows the type of a push stream (RFC 9114, section 4.6)
abbrev pub is_push : ℕ → Bool
is_push number = number == 0x01

-- the type and the push ID if one follows, and what follows them: the frames of a response after a
-- push ID (RFC 9114, section 4.6)
abbrev pub IsPlainHead : Bool → List ℕ → ℕ → StreamHead → Then → Type 0
IsPlainHead true bytes len head after =
    (id : ℕ) × (pair_at bytes ≡ Some ((head.number, id), drop len bytes))
    × (head.push ≡ Some id) × (after ≡ Ok (next-is.Frames role-is.BiLocal true))
IsPlainHead false bytes len head after =
    (number_at bytes ≡ Some (head.number, drop len bytes)) × (head.push ≡ None)
    × (after ≡ Ok (after_head (stream_kind_of head.number)))

-- the type and the ID if one follows, and what follows them
abbrev pub IsHead : Bool → List ℕ → ℕ → StreamHead → Then → Type 0
IsHead true bytes len head after =
    ((id : ℕ) × (pair_at bytes ≡ Some ((head.number, id), drop len bytes)) × (id % 4 ≡ 0)
    × (head.session ≡ Some id) × (head.push ≡ None))
    × (head.name ≡ stream_name_of head.number) × (after ≡ Ok next-is.Payload)
IsHead false bytes len head after =
    IsPlainHead (is_push head.number) bytes len head after
    × (head.session ≡ None) × (head.name ≡ stream_name_of head.number)

-- no session ID can be read from the two numbers of these bytes, or the bytes are too few for them
abbrev pub IsNoSession : ℕ → List ℕ → Option ((ℕ × ℕ) × List ℕ) → Then → Type 0
IsNoSession at bytes None after = IsCut at (codes "stream type") (pair_lacks bytes) after
IsNoSession at bytes (Some ((number, id), rest)) after =
    ((id % 4 == 0) ≡ false) × StopsWith at code-is.Id after

-- the bytes are too few for the push ID
abbrev pub IsNoPush : ℕ → List ℕ → Then → Type 0
IsNoPush at bytes after =
    (pair_at bytes ≡ None) × IsCut at (codes "stream type") (pair_lacks bytes) after

-- no ID can be read after the type: no session ID, or no push ID
abbrev pub IsNoId : Bool → ℕ → ℕ → List ℕ → Then → Type 0
IsNoId true number at bytes after = IsNoSession at bytes (pair_at bytes) after
IsNoId false number at bytes after = (is_push number ≡ true) × IsNoPush at bytes after

-- no head can be read from the type of these bytes, or the bytes are too few for it
abbrev pub IsNoHead : ℕ → List ℕ → Option (ℕ × List ℕ) → Then → Type 0
IsNoHead at bytes None after =
    IsCut at (codes "stream type") (varint_len_needed bytes - length bytes) after
IsNoHead at bytes (Some (number, rest)) after =
    IsNoId (has_session (stream_kind_of number)) number at bytes after

-- a head with a session ID, or none
abbrev pub IsSessionHead : ℕ → List ℕ → ℕ → Content → Then → Type 0
IsSessionHead at bytes len (content-is.Stream head) after = IsHead true bytes len head after
IsSessionHead at bytes len content-is.Unread after =
    (len ≡ length bytes) × IsNoSession at bytes (pair_at bytes) after
IsSessionHead at bytes len other after = ⊥

-- a head with a push ID, or none
abbrev pub IsPushHead : ℕ → List ℕ → ℕ → Content → Then → Type 0
IsPushHead at bytes len (content-is.Stream head) after =
    IsPlainHead true bytes len head after
    × (head.session ≡ None) × (head.name ≡ stream_name_of head.number)
IsPushHead at bytes len content-is.Unread after =
    (len ≡ length bytes) × IsNoPush at bytes after
IsPushHead at bytes len other after = ⊥
