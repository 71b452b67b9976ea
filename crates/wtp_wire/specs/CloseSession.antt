-- The payload of a capsule that closes a session (WebTransport over HTTP/3, "Session Termination").
use Rattle.std.specs.Prelude.{◌≡◌, ◌≢◌, ℕ, ◌+◌, ◌^◌, ◌<◌, ◌≤◌, List, [], ◌∷◌, ◌++◌, length, take, drop, nat_lt, Bool, ◌||◌, not, Option, Some, None, Result, Ok, Err, if◌then◌else◌, IsUtf8}
use Rattle.std.specs.Int.{w32, from_be_bytes, to_be_bytes}
use Rattle.std.specs.Str.{is_utf8}
use Rattle.wtp_core.specs.declared.error.ErrorCode.TheVariants.{Datagram}
use Rattle.wtp_core.specs.declared.error.Refused.{Refused}
use Rattle.wtp_core.specs.declared.error.Refused.TheVariants.{Code, Memory}
use Rattle.wtp_core.specs.Varint.{shortest}
use Rattle.wtp_core.specs.Writer.{joined}
use Rattle.wtp_wire.specs.declared.capsule.CapsuleError.{CapsuleError}
use Rattle.wtp_wire.specs.declared.capsule.CapsuleError.TheVariants as error-is

-- the payload is an application error code of four bytes, big-endian, followed by a reason of at
-- most 1024 bytes in UTF-8
pub record IsClose (code : ℕ) (reason payload : List ℕ) : Type 0 where
  pub head : List ℕ
  pub parts : payload ≡ head ++ reason
  pub size : length head ≡ 4
  pub number : code ≡ from_be_bytes w32 head
  pub short : length reason ≤ 1024
  pub text : IsUtf8 reason

-- ---- the same, computed

-- the payload is shorter than four bytes, has a reason of more than 1024 bytes, or a reason that is
-- not UTF-8
abbrev pub is_no_close : List ℕ → Bool
is_no_close payload =
    nat_lt (length payload) 4 || (nat_lt 1028 (length payload) || not (is_utf8 (drop 4 payload)))

-- the error code and the reason of a payload, or None if it is invalid
unfoldable pub close_in : List ℕ → Option (ℕ × List ℕ)
close_in payload =
    if is_no_close payload then None else Some (from_be_bytes w32 (take 4 payload), drop 4 payload)

-- the result of parsing the payload; allocation may fail only if the reason is not empty, because
-- an empty one is not allocated
abbrev pub AnswersClose : List ℕ → Result (ℕ × List ℕ) Refused → Type 0
AnswersClose payload (Ok close) = close_in payload ≡ Some close
AnswersClose payload (Err (Code code)) = (close_in payload ≡ None) × (code ≡ Datagram)
AnswersClose payload (Err Memory) =
    (close : ℕ × List ℕ) × (close_in payload ≡ Some close) × (close.1 ≢ [])

-- ---- writing

-- the bytes of the payload
abbrev pub close_value : ℕ × List ℕ → List ℕ
close_value c = to_be_bytes w32 c.0 ++ c.1

-- the parts of the capsule in order: type, length, code and reason
abbrev pub close_parts : ℕ × List ℕ → List (List ℕ)
close_parts c = shortest 0x2843 ∷ shortest (4 + length c.1) ∷ to_be_bytes w32 c.0 ∷ c.1 ∷ []

-- the parts of the payload in order: code and reason
abbrev pub payload_parts : ℕ × List ℕ → List (List ℕ)
payload_parts c = to_be_bytes w32 c.0 ∷ c.1 ∷ []

-- the bytes of the capsule, with each number in its shortest encoding
abbrev pub close_wire : ℕ × List ℕ → List ℕ
close_wire c = joined (close_parts c)

-- the result of creating a close capsule; allocation may fail only if the reason is not empty,
-- because an empty one is not allocated
abbrev pub MakesClose : ℕ → List ℕ → Result (ℕ × List ℕ) CapsuleError → Type 0
MakesClose code reason (Ok close) = (close ≡ (code, reason)) × (length reason ≤ 1024)
MakesClose code reason (Err error-is.TooLong) = 1024 < length reason
MakesClose code reason (Err error-is.Memory) = (length reason ≤ 1024) × (reason ≢ [])

-- the code fits in four bytes, and the reason is valid, so that the capsule can be read back
pub record IsWritableClose (close : ℕ × List ℕ) : Type 0 where
  pub code : close.0 < 2 ^ 32
  pub short : length close.1 ≤ 1024
  pub text : IsUtf8 close.1
