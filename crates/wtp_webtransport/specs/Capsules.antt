-- The capsules of a session, in the content of its own stream: a type, a length and a value each (RFC
-- 9297, sections 3.2, 3.3 and 3.5; draft-ietf-webtrans-http3-02, section 5;
-- draft-ietf-webtrans-http3-07, section 4.6).
use Rattle.std.specs.Prelude.{◌≡◌, ℕ, ◌-◌, ◌<◌, ◌≤◌, ◌==◌, nat_lt, if◌then◌else◌, List, [], ◌++◌, length, take, drop, Option, Some, None, Result, Ok, Err}
use Rattle.wtp_wire.specs.Settings.{pair_at}
use Rattle.std.specs.declared.alloc.AllocError.{AllocError}
use Rattle.wtp_wire.specs.declared.head.FirstPair.{FirstPair}
use Rattle.wtp_wire.specs.Capsule.{capsule_kind_of, max_value_len}
use Rattle.wtp_wire.specs.declared.capsule.CapsuleKind.{CapsuleKind}
use Rattle.wtp_wire.specs.declared.capsule.CapsuleKind.TheVariants.{CloseWebTransportSession}
use Rattle.wtp_wire.specs.declared.capsule.CapsuleError.{CapsuleError}
use Rattle.wtp_wire.specs.declared.capsule.CapsuleError.TheVariants as capsule_error
use Rattle.wtp_webtransport.specs.declared.capsules.CapsuleType.{CapsuleType}
use Rattle.wtp_webtransport.specs.declared.capsules.CapsuleType.TheVariants.{Datagram, Close, Drain}
use Rattle.wtp_webtransport.specs.declared.capsules.Sort.{Sort}
use Rattle.wtp_webtransport.specs.declared.capsules.Sort.TheVariants.{Read, Skip, Refuse}

-- ---- the table

abbrev pub type_by : Option CapsuleKind → ℕ → Option CapsuleType
type_by (Some CloseWebTransportSession) id = Some Close
type_by None id =
    if id == 0x00 then Some Datagram else (if id == 0x78ae then Some Drain else None)

abbrev pub type_of : ℕ → Option CapsuleType
type_of id = type_by (capsule_kind_of id) id

-- What is done with a value of this length. No value of CLOSE is longer than a code and a reason, and
-- that of DRAIN is empty: a capsule with a longer one is malformed. A datagram of more than 65,535
-- bytes is dropped, and an unknown capsule is skipped.
abbrev pub sort_by : Option CapsuleType → ℕ → Sort
sort_by None len = Skip
sort_by (Some Datagram) len = if nat_lt 65535 len then Skip else Read Datagram
sort_by (Some Close) len =
    if nat_lt (max_value_len CloseWebTransportSession) len then Refuse else Read Close
sort_by (Some Drain) len = if nat_lt 0 len then Refuse else Read Drain

abbrev pub sort_of : ℕ → ℕ → Sort
sort_of id len = sort_by (type_of id) len

-- ---- how far the content went: within a type and a length, of which these bytes came; within a value
-- that is read, of which these bytes came and so many are missing; or within one that is skipped, of
-- which so many bytes are missing

pub data Place : Type 0 where
  Head : List ℕ → Place
  Value : CapsuleType → List ℕ → ℕ → Place
  Skipping : ℕ → Place

-- between two capsules
abbrev pub between : Place
between = Head []

-- ---- what comes of bytes: a capsule with its value, or none, or one that is malformed; the place after
-- it; and the bytes that are left

abbrev pub Found : Type 0
Found = Result (Option (CapsuleType × List ℕ)) CapsuleError

abbrev pub Taken : Type 0
Taken = Found × Place × List ℕ

abbrev pub value_taken : CapsuleType → List ℕ → ℕ → List ℕ → Taken
value_taken k v n bytes =
    if nat_lt (length bytes) n
    then (Ok None, Value k (v ++ bytes) (n - length bytes), [])
    else (Ok (Some (k, v ++ take n bytes)), between, drop n bytes)

abbrev pub skipping : ℕ → Place
skipping n = if n == 0 then between else Skipping n

abbrev pub skip_taken : ℕ → List ℕ → Taken
skip_taken n bytes = (Ok None, skipping (n - length bytes), drop n bytes)

-- after a type and a length
abbrev pub starts : Sort → ℕ → List ℕ → Taken
starts (Read k) len rest = value_taken k [] len rest
starts Skip len rest = skip_taken len rest
starts Refuse len rest = (Err capsule_error.TooLong, between, rest)

-- all bytes of a type and a length, and what follows, by the two numbers at their start
abbrev pub head_by : List ℕ → Option ((ℕ × ℕ) × List ℕ) → Taken
head_by bytes None = (Ok None, Head bytes, [])
head_by bytes (Some x) = starts (sort_of x.0.0 x.0.1) x.0.1 x.1

abbrev pub head_taken : List ℕ → Taken
head_taken bytes = head_by bytes (pair_at bytes)

abbrev pub taken_of : Place → List ℕ → Taken
taken_of (Head head) bytes = head_taken (head ++ bytes)
taken_of (Value k v n) bytes = value_taken k v n bytes
taken_of (Skipping n) bytes = skip_taken n bytes

-- ---- one call

-- bytes of a type, of a length and of a value that is read are held
abbrev pub IsHeld : Place → Type 0
IsHeld (Skipping n) = ⊥
IsHeld other = Unit {0}

-- a type and a length are not complete, and bytes of a value are missing
abbrev pub IsWithin : Place → Type 0
IsWithin (Head head) = pair_at head ≡ None
IsWithin (Value k value missing) = 0 < missing
IsWithin (Skipping missing) = 0 < missing

-- Allocation failed, for a type, a length or a value of at least a byte: the bytes that are left are the
-- last of all, and whatever follows, they give from the new place on what all gave from the old one.
pub record LacksMemory (old : Place) (a : List ℕ) (new : Place) (b : List ℕ) : Type 0 where
  pub held : IsHeld old
  pub within : IsWithin new
  pub same : (more : List ℕ) → taken_of new (b ++ more) ≡ taken_of old (a ++ more)
  pub fewer : length b ≤ length a
  pub last : b ≡ drop (length a - length b) a

abbrev pub CapsuleIs : Found → Place → List ℕ → Place → List ℕ → Type 0
CapsuleIs (Err capsule_error.Memory) old a new b = LacksMemory old a new b
CapsuleIs found old a new b = (found, new, b) ≡ taken_of old a

-- ---- the parts of one call, for the private functions that it consists of

-- the bytes of a value of which these came and so many are missing
abbrev pub ValueGives : Found → CapsuleType → List ℕ → ℕ → List ℕ → Place → List ℕ → Type 0
ValueGives (Err capsule_error.Memory) k v n a place b =
    (place ≡ Value k v n) × (b ≡ a) × (0 < n)
ValueGives found k v n a place b = (found, place, b) ≡ value_taken k v n a

-- those after a type and a length
abbrev pub StartGives : Found → Sort → ℕ → List ℕ → Place → List ℕ → Type 0
StartGives (Err capsule_error.Memory) sort n a place b =
    (k : CapsuleType) × (sort ≡ Read k) × (place ≡ Value k [] n) × (b ≡ a) × (0 < n)
StartGives found sort n a place b = (found, place, b) ≡ starts sort n a

-- A type and a length, of which the bytes h came, and the bytes a that follow: they are not complete
-- with all of these, or are complete before the bytes b.
abbrev pub HeadIs : Result (Option FirstPair) AllocError → List ℕ → List ℕ → List ℕ → List ℕ → Type 0
HeadIs (Ok None) h a g b = (pair_at g ≡ None) × (g ≡ h ++ a) × (b ≡ [])
HeadIs (Ok (Some p)) h a g b =
    (g ≡ []) × (pair_at (h ++ a) ≡ Some ((p.first, p.second), b)) × (length b ≤ length a)
HeadIs (Err e) h a g b = (pair_at g ≡ None) × (g ++ b ≡ h ++ a) × (length b ≤ length a)

-- ---- what a reading of capsules has

abbrev pub place_by : Option CapsuleType → ℕ → List ℕ → List ℕ → Place
place_by None missing head value = if missing == 0 then Head head else Skipping missing
place_by (Some k) missing head value = Value k value missing

-- no type and length are complete, and there are none within a value
pub record IsPlace (begun : Option CapsuleType) (missing : ℕ) (head value : List ℕ) : Type 0 where
  pub cut : pair_at head ≡ None
  pub skips : 0 < missing → head ≡ []
  pub empty : begun ≡ None → value ≡ []
