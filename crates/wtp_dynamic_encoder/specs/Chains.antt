-- Where hashes stand in a queue.
use Rattle.std.specs.Prelude.{◌≡◌, ℕ, suc, zero, ◌-◌, ◌<◌, ◌==◌, Bool, if◌then◌else◌, List, [], ◌∷◌, length, take, map, slice_index, bit_and}
use Rattle.wtp_dynamic_encoder.specs.declared.chain.Chain.{Chain}
use Rattle.wtp_dynamic_encoder.specs.declared.chain.Link.{Link}

-- ---- the last number with a property

abbrev pub last_of : (here : Bool) → (later : ℕ) → ℕ
last_of here zero = if here then 1 else 0
last_of here (suc later) = suc (suc later)

-- one more than the place of the last number with a property, or 0 if none has it
abbrev pub latest : (ℕ → Bool) → List ℕ → ℕ
latest p [] = 0
latest p (x ∷ xs) = last_of (p x) (latest p xs)

-- ---- the queue

abbrev pub hash_of_link : Link → ℕ
hash_of_link link = link.hash

abbrev pub earlier_of_link : Link → ℕ
earlier_of_link link = link.earlier

-- the hashes of the queue, the oldest first
abbrev pub hashes_of : Chain → List ℕ
hashes_of chain = map hash_of_link chain.links.items

abbrev pub earliers_of : Chain → List ℕ
earliers_of chain = map earlier_of_link chain.links.items

abbrev pub is_hash : ℕ → ℕ → Bool
is_hash hash other = other == hash

-- which of some buckets a hash belongs to
abbrev pub bucket_of : ℕ → ℕ → ℕ
bucket_of buckets hash = bit_and hash (buckets - 1)

abbrev pub in_bucket : ℕ → ℕ → ℕ → Bool
in_bucket buckets bucket hash = bucket_of buckets hash == bucket

-- one more than the last place with a bucket among the first so many; places count from the first
-- hash that ever was in the queue, and those that left it count as none
abbrev pub Heads : List ℕ → ℕ → List ℕ → Type 0
Heads heads dropped hashes =
    (b : ℕ) → b < length heads
    → slice_index heads b - dropped ≡ latest (in_bucket (length heads) b) hashes

-- the same for the places before each hash, of its own bucket
abbrev pub Links : ℕ → List ℕ → ℕ → List ℕ → Type 0
Links buckets earliers dropped hashes =
    (i : ℕ) → i < length hashes
    → slice_index earliers i - dropped
    ≡ latest (in_bucket buckets (bucket_of buckets (slice_index hashes i))) (take i hashes)

pub record IsChain (chain : Chain) : Type 0 where
  pub heads : Heads chain.heads.items chain.dropped (hashes_of chain)
  pub links : Links (length chain.heads.items) (earliers_of chain) chain.dropped (hashes_of chain)
  pub some : 0 < length chain.links.items → 0 < length chain.heads.items

-- one more than the last place of the bucket of a hash, among the first so many
pub record IsAt (chain : Chain) (hash at : ℕ) : Type 0 where
  pub most : ℕ
  pub is : at - chain.dropped
      ≡ latest (in_bucket (length chain.heads.items) (bucket_of (length chain.heads.items) hash))
      (take most (hashes_of chain))

-- room for one more
pub record HasRoom (chain : Chain) (capacity : ℕ) : Type 0 where
  pub room : length chain.links.items < capacity
  pub some : 0 < length chain.heads.items
