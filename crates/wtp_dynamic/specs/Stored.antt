-- A table in bytes, as an encoder and a decoder are stored: words of 8 bytes, the lowest byte first,
-- and then the entries, the oldest first.
use Rattle.std.specs.Prelude.{◌≡◌, ℕ, ◌+◌, ◌^◌, ◌<◌, ◌≤◌, ◌⊎◌, List, [], ◌∷◌, ◌++◌, length}
use Rattle.std.specs.Int.{w64, to_le_bytes}
use Rattle.wtp_qpack.specs.Field.{Field}
use Rattle.wtp_dynamic.specs.Table.{Table, table_size}
use Rattle.wtp_dynamic.specs.declared.stored.Head.{Head}

-- ---- the bytes

unfoldable pub word : ℕ → List ℕ
word n = to_le_bytes w64 n

-- an entry: the lengths of its name and its value, and both
abbrev pub entry_bytes : Field → List ℕ
entry_bytes e = word (length e.0) ++ (word (length e.1) ++ (e.0 ++ e.1))

abbrev pub entries_bytes : List Field → List ℕ
entries_bytes [] = []
entries_bytes (e ∷ es) = entry_bytes e ++ entries_bytes es

-- the words before them
abbrev pub head_bytes : Head → List ℕ
head_bytes h =
    word h.limit
    ++ (word h.capacity
    ++ (word h.dropped
    ++ (word h.known ++ (word h.fault ++ (word h.held ++ word h.count)))))

-- ---- while they are read

-- numbers that a table and its stream may have
pub record IsHead (h : Head) : Type 0 where
  pub limit : h.limit < 2 ^ 60
  pub capacity : h.capacity ≤ h.limit
  pub count : h.dropped + h.count ≤ 2 ^ 62
  pub known : h.known ≤ h.dropped + h.count
  pub fault : h.fault ≤ 9
  pub held : (h.fault ≡ 0) ⊎ (h.held ≡ 0)

-- its numbers fit words
pub record IsWide (h : Head) : Type 0 where
  pub limit : h.limit < 2 ^ 64
  pub capacity : h.capacity < 2 ^ 64
  pub dropped : h.dropped < 2 ^ 64
  pub known : h.known < 2 ^ 64
  pub fault : h.fault < 2 ^ 64
  pub held : h.held < 2 ^ 64
  pub count : h.count < 2 ^ 64

-- an entry whose lengths fit a word
abbrev pub IsEntry : Field → Type 0
IsEntry e = (length e.0 < 2 ^ 64) × (length e.1 < 2 ^ 64)

-- the table of these numbers, with the entries at the start of bytes
pub record HasTable (h : Head) (bytes : List ℕ) (t : Table) : Type 0 where
  pub limit : t.limit ≡ h.limit
  pub capacity : t.capacity ≡ h.capacity
  pub dropped : t.dropped ≡ h.dropped
  pub size : table_size t.live ≤ t.capacity
  pub count : length t.live ≡ h.count
  pub rest : List ℕ
  pub entries : bytes ≡ entries_bytes t.live ++ rest
