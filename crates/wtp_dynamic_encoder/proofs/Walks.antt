-- A table is found through the hashes of its entries.
use Rattle.std.proofs.Common.{◌≡◌, ℕ, suc, ◌+◌, ◌-◌, ◌<◌, ◌≤◌, nat_lt, inl, inr, Bool, true, false, ◌&&◌, List, [], ◌∷◌, ◌++◌, length, take, drop, get_or, map, refl, sym, ◌∙◌, ap, arith, eq-eqb, Some, None, Ok, Err}
use Rattle.std.specs.Str.{bytes_eq}
use Rattle.std.specs.List.{slice_get, slice_index}
use Rattle.std.proofs.lemmas.Bool.{cases_lt, lt-ltb, le-ltb}
use Rattle.std.proofs.lemmas.List.{take_all, take_more, length-take, get_or-take, get_or-map, length-map, map-append, drop-map}
use Rattle.std.proofs.lemmas.Option.{slice_get_within, get_or_from_slice_get}
use Rattle.std.proofs.lemmas.Slice.Eq.{bytes_eq-Decides}
use borrow.Author.Tests.{eqb-true}
use Rattle.wtp_qpack.specs.Field.{Field}
use Rattle.wtp_huffman.proofs.Chosen.{chosen}
use Rattle.wtp_dynamic.specs.declared.error.EncoderStreamError.TheVariants as fault
use Rattle.wtp_dynamic.specs.Steps.{set_step, insert_step}
use Rattle.wtp_dynamic.proofs.Histories.{insert_found}
use Rattle.wtp_dynamic.specs.Table.{Table, entry_size, excess, resized, entry_of, HasNone, IsLatest, FindsLatest}
use Rattle.wtp_dynamic.proofs.Tables.{entry_past}
use Rattle.wtp_dynamic_encoder.specs.declared.chain.Chain.{Chain}
use Rattle.wtp_dynamic_encoder.specs.Choosing.{is_field, has_name}
use Rattle.wtp_dynamic_encoder.specs.Chains.{latest, is_hash, hashes_of, IsChain}
use Rattle.wtp_dynamic_encoder.specs.Hashing.{hash_text, name_hash, field_hash}
use Rattle.wtp_dynamic_encoder.specs.Indexed.{IsIndexedBy, Tells}
use Rattle.wtp_dynamic_encoder.proofs.Chained.{latest_len, latest_has, latest_none}

-- ---- one entry

both : (a b : Bool) → (a && b) ≡ true → (a ≡ true) × (b ≡ true)
both true b e = (refl, e)
both false b e = cc e

both_not : (a b : Bool) → (a && b) ≡ false → a ≡ true → b ≡ true → ⊥
both_not true true e p q = cc e
both_not true false e p q = cc q
both_not false b e p q = cc p

pub field_tells : (table : Table) (below index : ℕ) (entry : Field) (name value : List ℕ) (r : Bool) → index < below → Some entry ≡ entry_of table index → r ≡ (bytes_eq entry.1 value && bytes_eq entry.0 name) → Tells r (is_field (name, value)) table below index
field_tells table below index entry name value true low there is =
    let two = both (bytes_eq entry.1 value) (bytes_eq entry.0 name) (sym is) in
    (low, entry, sym there, ap (λ (x : List ℕ). (entry.0, x)) ((bytes_eq-Decides entry.1 value).0 two.0) ∙ ap (λ (x : List ℕ). (x, value)) ((bytes_eq-Decides entry.0 name).0 two.1))
field_tells table below index entry name value false low there is = λ less other found same.
    let this : entry ≡ (name, value) = cc (there, found, same) in
    both_not (bytes_eq entry.1 value) (bytes_eq entry.0 name) (sym is) ((bytes_eq-Decides entry.1 value).1 (ap (λ (x : Field). x.1) this)) ((bytes_eq-Decides entry.0 name).1 (ap (λ (x : Field). x.0) this))

pub name_tells : (table : Table) (below index : ℕ) (entry : Field) (name : List ℕ) (r : Bool) → index < below → Some entry ≡ entry_of table index → r ≡ bytes_eq entry.0 name → Tells r (has_name name) table below index
name_tells table below index entry name true low there is = (low, entry, sym there, (bytes_eq-Decides entry.0 name).0 (sym is))
name_tells table below index entry name false low there is = λ less other found same.
    let this : entry ≡ other = cc (there, found) in
    cc ((bytes_eq-Decides entry.0 name).1 (ap (λ (x : Field). x.0) this ∙ same), is)

pub none_tells : (holds : Field → Type 0) (table : Table) (below index : ℕ) → None ≡ entry_of table index → Tells false holds table below index
none_tells holds table below index none = λ less entry found has. cc (none, found)

pub ruleset tests = (field_tells, name_tells, none_tells)

at_place : (t : Table) (k : ℕ) → t.dropped ≤ k → entry_of t k ≡ slice_get t.live (k - t.dropped)
at_place t k low = rw (le-ltb k t.dropped low) refl

-- ---- from the latest on

-- from a place on, and below an index, no entry has the property
abbrev pub NoneFrom : (Field → Type 0) → Table → (place below : ℕ) → Type 0
NoneFrom holds t place below = (k : ℕ) → t.dropped + place ≤ k → k < below → HasNone holds t k

-- The entry before a place has a hash, and no later one has the property.
pub record Walk (key : Field → ℕ) (holds : Field → Type 0) (t : Table) (hash place below : ℕ) : Type 0 where
  pub within : place ≤ length t.live
  pub same : (i : ℕ) → place ≡ suc i → slice_index (map key t.live) i ≡ hash
  pub none : NoneFrom holds t place below

-- what has the property has the hash
abbrev pub Implies : (Field → ℕ) → (Field → Type 0) → ℕ → Type 0
Implies key holds hash = (entry : Field) → holds entry → key entry ≡ hash

key_at : (key : Field → ℕ) (t : Table) (k : ℕ) (entry : Field) → entry_of t k ≡ Some entry → t.dropped ≤ k → (k - t.dropped < length t.live) × (slice_index (map key t.live) (k - t.dropped) ≡ key entry)
key_at key t k entry found low =
    let there : slice_get t.live (k - t.dropped) ≡ Some entry = sym (at_place t k low) ∙ found in
    let within : k - t.dropped < length t.live = slice_get_within t.live (k - t.dropped) entry there in
    (within, get_or-map key t.live (k - t.dropped) entry 0 within ∙ ap key (get_or_from_slice_get t.live (k - t.dropped) entry entry there))

pub walk_next : (key : Field → ℕ) (holds : Field → Type 0) (t : Table) (hash m place below : ℕ) → Implies key holds hash → NoneFrom holds t m below → m ≤ length t.live → place ≡ latest (is_hash hash) (take m (map key t.live)) → Walk key holds t hash place below
walk_next key holds t hash m place below implies none few is =
    let long : length (take m (map key t.live)) ≡ m = length-take m (map key t.live) ∙ omega (arith, length-map t.live key) in
    let last : place ≤ m = omega (arith, is, long, latest_len (is_hash hash) (take m (map key t.live))) in
    record {
      within = omega arith;
      same = λ i at.
          let has : is_hash hash (get_or (take m (map key t.live)) i 0) ≡ true = latest_has (is_hash hash) (take m (map key t.live)) i 0 (sym is ∙ at) in
          let here : get_or (take m (map key t.live)) i 0 ≡ slice_index (map key t.live) i = get_or-take m (map key t.live) i 0 (omega arith) in
          sym here ∙ eqb-true (get_or (take m (map key t.live)) i 0) hash has;
      none = λ k low high entry found has. elim (cases_lt (k - t.dropped) m) [
        | inl before ↦
            let at = key_at key t k entry found (omega arith) in
            let here : get_or (take m (map key t.live)) (k - t.dropped) 0 ≡ hash = get_or-take m (map key t.live) (k - t.dropped) 0 before ∙ at.1 ∙ implies entry has in
            cc (latest_none (is_hash hash) (take m (map key t.live)) (k - t.dropped) 0 (omega arith) (omega arith), eq-eqb (get_or (take m (map key t.live)) (k - t.dropped) 0) hash here)
        | inr after ↦ none k (omega arith) high entry found has
      ];
    }

pub walk_start : (key : Field → ℕ) (holds : Field → Type 0) (t : Table) (hash place below : ℕ) → Implies key holds hash → place ≡ latest (is_hash hash) (map key t.live) → Walk key holds t hash place below
walk_start key holds t hash place below implies is =
    walk_next key holds t hash (length t.live) place below implies (λ k low high entry found has. cc (entry_past t k (omega arith), found)) (omega arith)
    (is ∙ ap (latest (is_hash hash)) (sym (take_all (length t.live) (map key t.live) (omega (arith, length-map t.live key)))))

-- ---- the steps, with a chain

-- what has the property has the hash, and the chain has those of the entries
pub walk_first : (key : Field → ℕ) (holds : Field → Type 0) (t : Table) (chain : Chain) (hash place below : ℕ) → Implies key holds hash → IsIndexedBy key t chain → place ≡ latest (is_hash hash) (hashes_of chain) → Walk key holds t hash place below
walk_first key holds t chain hash place below implies index is =
    walk_start key holds t hash place below implies (is ∙ ap (latest (is_hash hash)) index.hashes)

pub walk_within : (key : Field → ℕ) (holds : Field → Type 0) (t : Table) (chain : Chain) (hash place below : ℕ) → IsIndexedBy key t chain → Walk key holds t hash place below → 0 < place → place - 1 < length (hashes_of chain)
walk_within key holds t chain hash place below index walk some = omega (arith, walk.within, ap length index.hashes, length-map t.live key)

pub walk_same : (key : Field → ℕ) (holds : Field → Type 0) (t : Table) (chain : Chain) (hash place below : ℕ) → IsIndexedBy key t chain → Walk key holds t hash place below → 0 < place → slice_index (hashes_of chain) (place - 1) ≡ hash
walk_same key holds t chain hash place below index walk some = ap (λ (z : List ℕ). slice_index z (place - 1)) index.hashes ∙ walk.same (place - 1) (omega arith)

-- the entry before the place has not the property
pub walk_on : (key : Field → ℕ) (holds : Field → Type 0) (t : Table) (chain : Chain) (hash place next at below : ℕ) → Implies key holds hash → IsIndexedBy key t chain → Walk key holds t hash place below → 0 < place → at ≡ t.dropped + (place - 1) → Tells false holds t below at
    → next ≡ latest (is_hash hash) (take (place - 1) (hashes_of chain)) → Walk key holds t hash next below
walk_on key holds t chain hash place next at below implies index walk some at_is tested is =
    let q : ℕ = place - 1 in
    walk_next key holds t hash q next below implies
    (λ k low high entry found has. elim (cases_lt at k) [
      | inl past ↦ walk.none k (omega (arith, past, low, high, at_is, some)) high entry found has
      | inr here ↦
          let same : k ≡ at = omega (arith, here, low, at_is) in
          tested (omega (arith, same, high)) entry (ap (entry_of t) (sym same) ∙ found) has
    ])
    (omega (arith, walk.within)) (is ∙ ap (λ (z : List ℕ). latest (is_hash hash) (take q z)) index.hashes)

pub walk_less : (key : Field → ℕ) (t : Table) (chain : Chain) (hash place next : ℕ) → 0 < place → next ≡ latest (is_hash hash) (take (place - 1) (hashes_of chain)) → next < place
walk_less key t chain hash place next some is = omega (arith, is, latest_len (is_hash hash) (take (place - 1) (hashes_of chain)), length-take (place - 1) (hashes_of chain))

pub walk_found : (key : Field → ℕ) (holds : Field → Type 0) (t : Table) (hash place at below : ℕ) → Walk key holds t hash place below → 0 < place → at ≡ t.dropped + (place - 1) → Tells true holds t below at → IsLatest holds t below at
walk_found key holds t hash place at below walk some at_is (low, entry, is, has) = record {
  low = low;
  entry = entry;
  is = is;
  has = has;
  last = λ later past few. walk.none later (omega arith) few;
}

gone_none : (t : Table) (index : ℕ) → index < t.dropped → entry_of t index ≡ None
gone_none t index gone = rw (lt-ltb index t.dropped gone) refl

pub walk_end : (key : Field → ℕ) (holds : Field → Type 0) (t : Table) (hash place below : ℕ) → Walk key holds t hash place below → place ≤ 0 → FindsLatest holds t below None
walk_end key holds t hash place below walk none = λ index low entry found has. elim (cases_lt index t.dropped) [
  | inl gone ↦ cc (gone_none t index gone, found)
  | inr there ↦ walk.none index (omega arith) low entry found has
]

pub field_implies : (name value : List ℕ) (hash : ℕ) → hash ≡ field_hash (name, value) → Implies field_hash (is_field (name, value)) hash
field_implies name value hash is = λ entry same. ap field_hash same ∙ sym is

pub name_implies : (name : List ℕ) (hash : ℕ) → hash ≡ hash_text 0 name → Implies name_hash (has_name name) hash
name_implies name hash is = λ entry same. ap (hash_text 0) same ∙ sym is

-- ---- the table changes

pub index_none : (key : Field → ℕ) (t : Table) (chain : Chain) → t.live ≡ [] → t.dropped ≡ 0 → IsChain chain → hashes_of chain ≡ [] → chain.dropped ≡ 0 → IsIndexedBy key t chain
index_none key t chain live dropped is hashes none = record {
  chain_is = is;
  hashes = hashes ∙ ap (map key) (sym live);
  dropped = none ∙ sym dropped;
}

-- room was made
pub index_same : (key : Field → ℕ) (t : Table) (old new : Chain) → IsIndexedBy key t old → IsChain new → hashes_of new ≡ hashes_of old → new.dropped ≡ old.dropped → IsIndexedBy key t new
index_same key t old new index is hashes dropped = record {
  chain_is = is;
  hashes = hashes ∙ index.hashes;
  dropped = dropped ∙ index.dropped;
}

-- the oldest d entries were evicted
index_evict : (key : Field → ℕ) (t : Table) (old : Chain) (d to : ℕ) → IsIndexedBy key t old → to ≡ t.dropped + d → drop (to - old.dropped) (hashes_of old) ≡ map key (drop d t.live)
index_evict key t old d to index is =
    let gone : to - old.dropped ≡ d = omega (arith, index.dropped, is) in
    ap (λ (n : ℕ). drop n (hashes_of old)) gone ∙ ap (drop d) index.hashes ∙ drop-map key d t.live

set_found : (capacity : ℕ) (t u : Table) → set_step capacity t ≡ Ok u → resized capacity t ≡ u
set_found capacity t u did = elim (chosen (nat_lt t.limit capacity) (Err fault.CapacityAboveLimit) (Ok (resized capacity t)) (Ok u) did) [
  | inl large ↦ cc large.1
  | inr fine ↦ cc fine.1
]

pub set_more : (capacity : ℕ) (t u : Table) (key : Field → ℕ) (old : Chain) → IsIndexedBy key t old → set_step capacity t ≡ Ok u → old.dropped ≤ u.dropped
set_more capacity t u key old index did = omega (arith, index.dropped, ap (λ (x : Table). x.dropped) (set_found capacity t u did))

pub index_set : (key : Field → ℕ) (capacity : ℕ) (t u : Table) (old new : Chain) (to : ℕ) → IsIndexedBy key t old → set_step capacity t ≡ Ok u → to ≡ u.dropped → IsChain new → hashes_of new ≡ drop (to - old.dropped) (hashes_of old) → new.dropped ≡ to → IsIndexedBy key u new
index_set key capacity t u old new to index did at is hashes dropped =
    let found = set_found capacity t u did in
    record {
      chain_is = is;
      hashes = hashes ∙ index_evict key t old (excess capacity t.live) to index (at ∙ ap (λ (x : Table). x.dropped) (sym found)) ∙ ap (λ (x : Table). map key x.live) found;
      dropped = dropped ∙ at;
    }

pub insert_more : (entry : Field) (t u : Table) (key : Field → ℕ) (old : Chain) → IsIndexedBy key t old → insert_step entry t ≡ Ok u → old.dropped ≤ u.dropped
insert_more entry t u key old index did = omega (arith, index.dropped, ap (λ (x : Table). x.dropped) (insert_found entry t u did).1)

pub index_insert : (key : Field → ℕ) (entry : Field) (t u : Table) (old new : Chain) (to hash : ℕ) → IsIndexedBy key t old → insert_step entry t ≡ Ok u → to ≡ u.dropped → IsChain new → hash ≡ key entry → hashes_of new ≡ drop (to - old.dropped) (hashes_of old) ++ hash ∷ [] → new.dropped ≡ to → IsIndexedBy key u new
index_insert key entry t u old new to hash index did at is same hashes dropped =
    let found = (insert_found entry t u did).1 in
    let d : ℕ = excess (t.capacity - entry_size entry) t.live in
    record {
      chain_is = is;
      hashes = hashes ∙ ap (λ (z : List ℕ). z ++ hash ∷ []) (index_evict key t old d to index (at ∙ ap (λ (x : Table). x.dropped) (sym found))) ∙ ap (λ (h : ℕ). map key (drop d t.live) ++ h ∷ []) same
          ∙ sym (map-append key (drop d t.live) (entry ∷ [])) ∙ ap (λ (x : Table). map key x.live) found;
      dropped = dropped ∙ at;
    }

-- ---- a table whose hashes are not known

-- the hashes of the entries below an absolute index
pub record IsIndexedTo (key : Field → ℕ) (t : Table) (chain : Chain) (index : ℕ) : Type 0 where
  pub chain_is : IsChain chain
  pub hashes : hashes_of chain ≡ map key (take (index - t.dropped) t.live)
  pub dropped : chain.dropped ≡ t.dropped

pub to_next : (key : Field → ℕ) (t : Table) (old new : Chain) (index hash : ℕ) (entry : Field) → t.dropped ≤ index → Some entry ≡ entry_of t index → hash ≡ key entry → IsIndexedTo key t old index → IsChain new → hashes_of new ≡ hashes_of old ++ hash ∷ [] → new.dropped ≡ old.dropped → IsIndexedTo key t new (index + 1)
to_next key t old new index hash entry low found same is chain hashes dropped =
    let k : ℕ = index - t.dropped in
    let at : slice_get t.live k ≡ Some entry = sym (at_place t index low) ∙ sym found in
    let within : k < length t.live = slice_get_within t.live k entry at in
    let more : take (k + 1) t.live ≡ take k t.live ++ entry ∷ [] = take_more t.live k entry within ∙ ap (λ (x : Field). take k t.live ++ x ∷ []) (get_or_from_slice_get t.live k entry entry at) in
    let next : k + 1 ≡ (index + 1) - t.dropped = omega (arith, low) in
    record {
      chain_is = chain;
      hashes = hashes ∙ ap (λ (z : List ℕ). z ++ hash ∷ []) is.hashes ∙ ap (λ (h : ℕ). map key (take k t.live) ++ h ∷ []) same
          ∙ sym (map-append key (take k t.live) (entry ∷ [])) ∙ ap (map key) (sym more) ∙ ap (λ (n : ℕ). map key (take n t.live)) next;
      dropped = dropped ∙ is.dropped;
    }
