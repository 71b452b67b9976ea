-- Which requests of a client have begun: those whose streams have sent a byte or an end. Their streams
-- have the IDs 0, 4, 8 and so on (RFC 9000, section 2.1), and may begin in any order; request n is the
-- one with the ID 4 * n.
use Rattle.std.specs.Prelude.{◌≡◌, ℕ, zero, suc, ◌+◌, ◌-◌, ◌*◌, ◌/◌, ◌%◌, ◌^◌, ◌<◌, ◌==◌, nat_lt, ◌||◌, if◌then◌else◌, Bool, true, false, List, [], ◌∷◌, ◌++◌, get_or, drop, set, replicate, bit_or}
use Rattle.std.specs.Int.{bit_at}
use Rattle.wtp_connection.specs.declared.requests.Begun.{Begun}
use Rattle.wtp_connection.specs.declared.requests.Beginning.{Beginning}
use Rattle.wtp_connection.specs.declared.requests.Beginning.TheVariants as beginning

-- ---- what is known of a request

-- whether a request is among these
abbrev pub has_begun : List ℕ → ℕ → Bool
has_begun [] n = false
has_begun (m ∷ ms) n = m == n || has_begun ms n

-- the requests among these streams
abbrev pub requests_in : List ℕ → List ℕ
requests_in [] = []
requests_in (id ∷ ids) = if id % 4 == 0 then id / 4 ∷ requests_in ids else requests_in ids

-- the requests that overtook request n are fewer than 512 places ahead of it
abbrev pub IsNotFarBehind : List ℕ → ℕ → Type 0
IsNotFarBehind ms n = (m : ℕ) → has_begun ms m ≡ true → m < n + 512

abbrev pub beginning_of : Bool → Beginning
beginning_of true = beginning.Begun
beginning_of false = beginning.NotBegun

-- ---- how it is held: a window of 576 requests, whose first one is a multiple of 64

-- bit k of the words
abbrev pub is_set : List ℕ → ℕ → Bool
is_set words k = bit_at (get_or words (k / 64) 0) (k % 64) == 1

-- below `lost` it is not known which requests began; from there on all have that are before the
-- window
abbrev pub beginning_at : Begun → ℕ → Beginning
beginning_at b n =
    if nat_lt n b.lost
    then beginning.Lost
    else beginning_of (nat_lt n b.first || is_set b.words (n - b.first))

abbrev pub none_begun : Begun
none_begun = record { first = 0; lost = 0; words = replicate 9 0 }

-- the window without its first word: if one of its requests did not begin, these are lost
abbrev pub slid : Begun → Begun
slid b = record {
  first = b.first + 64;
  lost = if get_or b.words 0 0 == 2 ^ 64 - 1 then b.lost else b.first + 64;
  words = drop 1 b.words ++ (0 ∷ []);
}

abbrev pub slid_by : ℕ → Begun → Begun
slid_by zero b = b
slid_by (suc k) b = slid_by k (slid b)

-- an empty window, whose last word has request n
abbrev pub moved_to : ℕ → Begun
moved_to n = record { first = n - n % 64 - 512; lost = n - n % 64 - 512; words = replicate 9 0 }

-- by how many words request n is past the window
abbrev pub words_past : Begun → ℕ → ℕ
words_past b n = (n - b.first) / 64 - 8

abbrev pub with_room : Begun → ℕ → Begun
with_room b n = if nat_lt 9 (words_past b n) then moved_to n else slid_by (words_past b n) b

abbrev pub with_bit : List ℕ → ℕ → List ℕ
with_bit words k =
    if nat_lt (k / 64) 9
    then set words (k / 64) (bit_or (get_or words (k / 64) 0) (1 * 2 ^ (k % 64) % 2 ^ 64))
    else words

abbrev pub placed : Begun → ℕ → Begun
placed b n =
    if nat_lt n b.first then b else record b { words = with_bit b.words (n - b.first) }

-- request n begins
abbrev pub with_request : Begun → ℕ → Begun
with_request b n = placed (with_room b n) n

-- after these requests, of which the last one is the first of the list
abbrev pub begun_by : List ℕ → Begun
begun_by [] = none_begun
begun_by (n ∷ ns) = with_request (begun_by ns) n
