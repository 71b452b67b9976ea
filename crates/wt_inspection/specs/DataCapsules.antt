-- The capsules that the DATA frames of a session have, wherever they are cut (RFC 9297, section
-- 3.2).
use Rattle.std.specs.Prelude.{◌≡◌, ℕ, ◌+◌, ◌-◌, List, [], ◌∷◌, length, take, nat_lt, if◌then◌else◌}
use Rattle.std.specs.Prelude.{string_bytes, Option, Some, None}
use Rattle.wtp_core.specs.declared.error.ErrorCode.TheVariants as code-is
use Rattle.wtp_wire.specs.declared.capsule.CapsuleKind.{CapsuleKind}
use Rattle.wtp_wire.specs.declared.capsule.CapsuleKind.TheVariants.{CloseWebTransportSession}
use Rattle.wtp_wire.specs.CapsuleFront.{CapsuleFront, Found, Unknown, TooLong, Cut, End}
use Rattle.wtp_wire.specs.CapsuleFront.{capsule_front}
use Rattle.wtp_wire.specs.CloseSession.{close_in}
use Rattle.wt_inspection_model.specs.declared.item.capsule.CapsuleItem.{CapsuleItem}
use Rattle.wt_inspection_model.specs.declared.item.ending.FaultCode.{FaultCode}
use Rattle.wt_inspection_model.specs.declared.item.ending.FaultCode.TheVariants.{Library}
use Rattle.wt_inspection_model.specs.declared.item.capsule.CloseReason.{CloseReason}
use Rattle.wtp_wire.specs.Settings.{pair_at}
use Rattle.wt_inspection.specs.CapsuleNames.{capsule_name}
use Rattle.wt_inspection.specs.FlowLimits.{limit_of}

-- the code and the reason of a close
abbrev pub HasText : Option (ℕ × List ℕ) → Option CloseReason → Type 0
HasText (Some close) (Some found) = (found.code ≡ close.0) × (string_bytes found.reason ≡ close.1)
HasText (Some close) None = ⊥
HasText None found = ⊥

-- what a capsule of this kind with this value says of its session
abbrev pub SaysBy : CapsuleKind → List ℕ → Option CloseReason → Type 0
SaysBy CloseWebTransportSession value close = HasText (close_in value) close

-- a capsule of this kind with this value has a fault
abbrev pub IsFaulty : CapsuleKind → List ℕ → Type 0
IsFaulty CloseWebTransportSession value = close_in value ≡ None

-- the first capsule has this close, if it has one, and these bytes are after it
abbrev pub IsFirst : CapsuleFront → Option CloseReason → List ℕ → Type 0
IsFirst (Found kind value rest) close behind = SaysBy kind value close × (rest ≡ behind)
IsFirst (Unknown rest) close behind = (close ≡ None) × (rest ≡ behind)
IsFirst other close behind = ⊥

-- the bytes start with this capsule, and these bytes are after it
pub record StartsCapsule (bytes : List ℕ) (c : CapsuleItem) (behind : List ℕ) : Type 0 where
  pub value : List ℕ
  pub numbers : pair_at bytes ≡ Some ((c.number, c.announced), value)
  pub name : c.name.now ≡ capsule_name c.number
  pub first : IsFirst (capsule_front bytes) c.close behind
  pub limit : c.limit ≡ limit_of c.number (take c.announced value)

-- The place of the byte that has n bytes of the data left, it among them, if the last `size` of
-- them are a piece at a place, and a capsule that began before the piece is at `start`.
abbrev pub place_of : ℕ → ℕ → ℕ → ℕ → ℕ
place_of start at size n = if nat_lt size n then start else at + (size - n)

-- the bytes start with these capsules, one after the other, followed by the rest; each has the
-- place of its first byte, which goes by how many bytes are left there
abbrev pub StartsCapsules : (ℕ → ℕ) → List ℕ → List CapsuleItem → List ℕ → Type 0
StartsCapsules place bytes [] rest = bytes ≡ rest
StartsCapsules place bytes (c ∷ cs) rest =
    (behind : List ℕ)
    × StartsCapsule bytes c behind
    × (c.at ≡ place (length bytes))
    × StartsCapsules place behind cs rest

-- the first capsule is not complete, or it has this fault
abbrev pub EndsWith : CapsuleFront → Option FaultCode → Type 0
EndsWith Cut fault = fault ≡ None
EndsWith End fault = fault ≡ None
EndsWith (TooLong rest) fault = fault ≡ Some (Library code-is.Datagram)
EndsWith (Found kind value rest) fault =
    IsFaulty kind value × (fault ≡ Some (Library code-is.Datagram))
EndsWith (Unknown rest) fault = ⊥

-- How far the message of a stream went: before its header section; after that of a message whose
-- DATA frames have bytes of an application; or after that of a session, whose DATA frames had these
-- bytes after the last complete capsule, the first of which is at this place.
pub data Stage : Type 0 where
  Opening : Stage
  Plain : Stage
  Session : List ℕ → ℕ → Stage
