-- Error codes and application error codes, and their numbers.
use Rattle.std.proofs.Common.{◌≡◌, ℕ, ◌+◌, ◌-◌, ◌*◌, ◌/◌, ◌%◌, ◌^◌, ◌<◌, ◌≤◌, ◌==◌, if◌then◌else◌, refl, sym, ap, ◌∙◌, get_or, length, inl, inr, arith}
use Rattle.std.proofs.lemmas.Bool.{cases_lt}
use Rattle.vesgrauf_registry.specs.Codes.{code_of, registered}
use Rattle.wtp_core.specs.declared.error.ErrorCode.{ErrorCode}
use Rattle.wtp_core.specs.declared.error.ErrorCode.TheVariants.{Datagram, NoError, StreamCreation, ClosedCriticalStream, FrameUnexpected, Frame, ExcessiveLoad, Id, Settings, MissingSettings, RequestRejected, Message, Decompression, BufferedStreamRejected, SessionGone}
use Rattle.wtp_core.specs.declared.error.number.TheConstants.{CODES}
use Rattle.wtp_core.specs.ErrorCodes.{code_number}
use Rattle.wtp_core.specs.ErrorScope.{scope_of}
use Rattle.wtp_core.specs.Codes.{code_scope}
use Rattle.wtp_core.specs.Numbers.{IsReserved}
use Rattle.wtp_core.specs.ApplicationCodes.{http3_number}

-- the code with this number
code_at : ℕ → ErrorCode
code_at n =
    if n == 0x33 then Datagram
    else if n == 0x0100 then NoError
    else if n == 0x0103 then StreamCreation
    else if n == 0x0104 then ClosedCriticalStream
    else if n == 0x0105 then FrameUnexpected
    else if n == 0x0106 then Frame
    else if n == 0x0107 then ExcessiveLoad
    else if n == 0x0108 then Id
    else if n == 0x0109 then Settings
    else if n == 0x010a then MissingSettings
    else if n == 0x010b then RequestRejected
    else if n == 0x010e then Message
    else if n == 0x0200 then Decompression
    else if n == 0x3994bd84 then BufferedStreamRejected
    else SessionGone

code_at-number : (x : ErrorCode) → code_at (code_number x) ≡ x
unfolding code_at
code_at-number Datagram = refl
code_at-number NoError = refl
code_at-number StreamCreation = refl
code_at-number ClosedCriticalStream = refl
code_at-number FrameUnexpected = refl
code_at-number Frame = refl
code_at-number ExcessiveLoad = refl
code_at-number Id = refl
code_at-number Settings = refl
code_at-number MissingSettings = refl
code_at-number RequestRejected = refl
code_at-number Message = refl
code_at-number Decompression = refl
code_at-number BufferedStreamRejected = refl
code_at-number SessionGone = refl

pub number-one : (x y : ErrorCode) → code_number x ≡ code_number y → x ≡ y
number-one x y e = sym (code_at-number x) ∙ ap code_at e ∙ code_at-number y

pub number-not_reserved : (x : ErrorCode) → ¬ IsReserved (code_number x)
number-not_reserved Datagram (n, e) = omega arith
number-not_reserved NoError (n, e) = omega arith
number-not_reserved StreamCreation (n, e) = omega arith
number-not_reserved ClosedCriticalStream (n, e) = omega arith
number-not_reserved FrameUnexpected (n, e) = omega arith
number-not_reserved Frame (n, e) = omega arith
number-not_reserved ExcessiveLoad (n, e) = omega arith
number-not_reserved Id (n, e) = omega arith
number-not_reserved Settings (n, e) = omega arith
number-not_reserved MissingSettings (n, e) = omega arith
number-not_reserved RequestRejected (n, e) = omega arith
number-not_reserved Message (n, e) = omega arith
number-not_reserved Decompression (n, e) = omega arith
number-not_reserved BufferedStreamRejected (n, e) = omega arith
number-not_reserved SessionGone (n, e) = omega arith

pub scope-agrees : (x : ErrorCode) → code_scope (code_number x) ≡ scope_of x
unfolding code_of registered
scope-agrees Datagram = refl
scope-agrees NoError = refl
scope-agrees StreamCreation = refl
scope-agrees ClosedCriticalStream = refl
scope-agrees FrameUnexpected = refl
scope-agrees Frame = refl
scope-agrees ExcessiveLoad = refl
scope-agrees Id = refl
scope-agrees Settings = refl
scope-agrees MissingSettings = refl
scope-agrees RequestRejected = refl
scope-agrees Message = refl
scope-agrees Decompression = refl
scope-agrees BufferedStreamRejected = refl
scope-agrees SessionGone = refl

-- the index of a code in the list of all codes
place_of : ErrorCode → ℕ
place_of Datagram = 0
place_of NoError = 1
place_of StreamCreation = 2
place_of ClosedCriticalStream = 3
place_of FrameUnexpected = 4
place_of Frame = 5
place_of ExcessiveLoad = 6
place_of Id = 7
place_of Settings = 8
place_of MissingSettings = 9
place_of RequestRejected = 10
place_of Message = 11
place_of Decompression = 12
place_of BufferedStreamRejected = 13
place_of SessionGone = 14

-- a code and its index
record Placed (x : ErrorCode) : Type 0 where
  at : get_or CODES (place_of x) Datagram ≡ x
  below : place_of x < length CODES

placed : (x : ErrorCode) → Placed x
unfolding place_of
placed Datagram = record { at = refl; below = omega arith }
placed NoError = record { at = refl; below = omega arith }
placed StreamCreation = record { at = refl; below = omega arith }
placed ClosedCriticalStream = record { at = refl; below = omega arith }
placed FrameUnexpected = record { at = refl; below = omega arith }
placed Frame = record { at = refl; below = omega arith }
placed ExcessiveLoad = record { at = refl; below = omega arith }
placed Id = record { at = refl; below = omega arith }
placed Settings = record { at = refl; below = omega arith }
placed MissingSettings = record { at = refl; below = omega arith }
placed RequestRejected = record { at = refl; below = omega arith }
placed Message = record { at = refl; below = omega arith }
placed Decompression = record { at = refl; below = omega arith }
placed BufferedStreamRejected = record { at = refl; below = omega arith }
placed SessionGone = record { at = refl; below = omega arith }

-- if no code in the list has this number, no code has it
pub no_code : (n : ℕ) → ((j : ℕ) → j < length CODES → ¬ (n ≡ code_number (get_or CODES j Datagram))) → (x : ErrorCode) → ¬ (n ≡ code_number x)
no_code n none x e =
    let p = placed x in
    none (place_of x) p.below (e ∙ ap (λ (y : ErrorCode). code_number y) (sym p.at))

-- ---- application error codes

-- the number's distance from the first code is 31 q + r
record Split (n : ℕ) : Type 0 where
  q : ℕ
  r : ℕ
  is : n ≡ 30 * q + r
  small : r < 30
  number : http3_number n ≡ 0x52e4a40fa8db + (31 * q + r)

split : (n : ℕ) → Split n
split n = record { q = n / 30; r = n % 30; is = omega arith; small = omega arith; number = omega arith }

pub application-range : (n : ℕ) → n < 2 ^ 32 → (http3_number 0 ≤ http3_number n) × (http3_number n ≤ http3_number (2 ^ 32 - 1))
application-range n few = (omega arith, omega arith)

pub application-not_reserved : (n : ℕ) → ¬ IsReserved (http3_number n)
application-not_reserved n (m, e) = let s = split n in omega arith

pub application-one : (m n : ℕ) → http3_number m ≡ http3_number n → m ≡ n
application-one m n e = omega arith

pub application-every : (h : ℕ) → http3_number 0 ≤ h → h ≤ http3_number (2 ^ 32 - 1) → ¬ IsReserved h → (n : ℕ) × (n < 2 ^ 32) × (h ≡ http3_number n)
application-every h low high free =
    let s : ℕ = h - 0x52e4a40fa8db in
    let n : ℕ = s - s / 31 in
    elim (cases_lt (s % 31) 30) [
      | inl short ↦ (n, omega arith, omega arith)
      | inr last ↦ absurd (free ((h - 33) / 31, omega arith))
    ]
