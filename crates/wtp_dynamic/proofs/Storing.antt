-- The bytes of a table that is stored: what is read back.
use Rattle.std.proofs.Common.{◌≡◌, ℕ, ◌+◌, ◌-◌, ◌^◌, ◌<◌, ◌≤◌, List, [], ◌∷◌, ◌++◌, length, take, drop, Option, Some, None, refl, sym, ap, ◌∙◌, arith, append_assoc, append-nil, length-append}
use Rattle.std.specs.List.{slice_get}
use Rattle.std.proofs.lemmas.Bool.{le-ltb}
use Rattle.std.proofs.lemmas.Option.{slice_get-get_or, slice_get_within, get_or_from_slice_get}
use Rattle.std.specs.Int.{w64, from_le_bytes}
use Rattle.std.proofs.lemmas.List.{take_at, drop_at, take_more, take-append-drop}
use Rattle.std.proofs.lemmas.Nat.{from_le_bytes-to_le_bytes_8}
use Rattle.wtp_qpack.specs.Field.{Field}
use Rattle.wtp_dynamic.specs.Table.{Table, insert_count, entry_size, table_size, entry_of}
use Rattle.wtp_dynamic.specs.Stored.{word, entry_bytes, entries_bytes, head_bytes, IsWide, IsEntry}
use Rattle.wtp_dynamic.specs.declared.stored.Head.{Head}

-- ---- words

pub word_size : (n : ℕ) → length (word n) ≡ 8
unfolding word
word_size n = refl

word_number : (n : ℕ) → n < 2 ^ 64 → from_le_bytes w64 (word n) ≡ n
unfolding word
word_number n fits = from_le_bytes-to_le_bytes_8 n fits

-- bytes are their first word and the others
pub word_read : (bytes front rest : List ℕ) (n : ℕ) → front ≡ take 8 bytes → rest ≡ drop 8 bytes → word n ≡ front → bytes ≡ word n ++ rest
word_read bytes front rest n f r same =
    sym (take-append-drop 8 bytes) ∙ ap (λ (z : List ℕ). z ++ drop 8 bytes) (sym f) ∙ ap (λ (z : List ℕ). front ++ z) (sym r) ∙ ap (λ (z : List ℕ). z ++ rest) (sym same)

pub same_parts : (xs ys a b : List ℕ) → length xs ≡ length ys → xs ++ a ≡ ys ++ b → (xs ≡ ys) × (a ≡ b)
same_parts xs ys a b size e = (
  sym (take_at xs a (length ys) size) ∙ ap (take (length ys)) e ∙ take_at ys b (length ys) refl,
  sym (drop_at xs a (length ys) size) ∙ ap (drop (length ys)) e ∙ drop_at ys b (length ys) refl,
)

pub word_same : (m n : ℕ) (a b : List ℕ) → m < 2 ^ 64 → n < 2 ^ 64 → word m ++ a ≡ word n ++ b → (m ≡ n) × (a ≡ b)
word_same m n a b first second e =
    let parts = same_parts (word m) (word n) a b (word_size m ∙ sym (word_size n)) e in
    (sym (word_number m first) ∙ ap (from_le_bytes w64) parts.0 ∙ word_number n second, parts.1)

-- ---- entries

entry_then : (e : Field) (rest : List ℕ) → entry_bytes e ++ rest ≡ word (length e.0) ++ (word (length e.1) ++ (e.0 ++ (e.1 ++ rest)))
entry_then e rest = simp append_assoc

pub entry_read : (bytes a b c name value rest : List ℕ) → bytes ≡ word (length name) ++ a → a ≡ word (length value) ++ b → b ≡ name ++ c → c ≡ value ++ rest → bytes ≡ entry_bytes (name, value) ++ rest
entry_read bytes a b c name value rest first second third fourth = rw (first, second, third, fourth) (sym (entry_then (name, value) rest))

pub entry_length : (e : Field) (rest : List ℕ) → length (entry_bytes e ++ rest) ≡ 16 + length e.0 + length e.1 + length rest
entry_length e rest =
    let two = length-append (word (length e.0)) (word (length e.1) ++ (e.0 ++ (e.1 ++ rest))) in
    let one = length-append (word (length e.1)) (e.0 ++ (e.1 ++ rest)) in
    ap (λ (z : List ℕ). length z) (entry_then e rest) ∙ omega (arith, two, one, length-append e.0 (e.1 ++ rest), length-append e.1 rest, word_size (length e.0), word_size (length e.1))

-- bytes that are no entry
abbrev pub HasNone : List ℕ → Type 0
HasNone bytes = (e : Field) (rest : List ℕ) → IsEntry e → ¬ (bytes ≡ entry_bytes e ++ rest)

pub no_words : (bytes : List ℕ) → length bytes < 16 → HasNone bytes
no_words bytes short e rest is same = omega (arith, short, ap (λ (z : List ℕ). length z) same, entry_length e rest)

pub no_texts : (bytes a b : List ℕ) (n m : ℕ) → n < 2 ^ 64 → m < 2 ^ 64 → bytes ≡ word n ++ a → a ≡ word m ++ b → length b < n + m → HasNone bytes
no_texts bytes a b n m one two first second short e rest is same =
    let all = sym first ∙ same ∙ entry_then e rest in
    let names = word_same n (length e.0) a (word (length e.1) ++ (e.0 ++ (e.1 ++ rest))) one is.0 all in
    let values = word_same m (length e.1) b (e.0 ++ (e.1 ++ rest)) two is.1 (sym second ∙ names.1) in
    omega (arith, short, names.0, values.0, ap (λ (z : List ℕ). length z) values.1, length-append e.0 (e.1 ++ rest), length-append e.1 rest)

pub entry_same : (e f : Field) (a b : List ℕ) → IsEntry e → IsEntry f → entry_bytes e ++ a ≡ entry_bytes f ++ b → (e ≡ f) × (a ≡ b)
entry_same e f a b first second same =
    let all = sym (entry_then e a) ∙ same ∙ entry_then f b in
    let names = word_same (length e.0) (length f.0) (word (length e.1) ++ (e.0 ++ (e.1 ++ a))) (word (length f.1) ++ (f.0 ++ (f.1 ++ b))) first.0 second.0 all in
    let values = word_same (length e.1) (length f.1) (e.0 ++ (e.1 ++ a)) (f.0 ++ (f.1 ++ b)) first.1 second.1 names.1 in
    let name = same_parts e.0 f.0 (e.1 ++ a) (f.1 ++ b) names.0 values.1 in
    let value = same_parts e.1 f.1 a b values.0 name.1 in
    (ap (λ (x : List ℕ). (x, e.1)) name.0 ∙ ap (λ (x : List ℕ). (f.0, x)) value.0, value.1)

small : (e : Field) (es : List Field) → table_size (e ∷ es) < 2 ^ 60 → IsEntry e
small e es few = (omega arith, omega arith)

-- of entries that follow each other, the first so many are the same
pub entries_begin : (done all : List Field) (a b : List ℕ) → length done ≤ length all → table_size done < 2 ^ 60 → table_size all < 2 ^ 60 → entries_bytes done ++ a ≡ entries_bytes all ++ b
    → (more : List Field) × (all ≡ done ++ more) × (a ≡ entries_bytes more ++ b)
entries_begin [] all a b shorter few fewer e = (all, refl, e)
entries_begin (x ∷ done) [] a b shorter few fewer e = absurd (omega arith)
entries_begin (x ∷ done) (y ∷ all) a b shorter few fewer e =
    let all_of = sym (append_assoc (entry_bytes x) (entries_bytes done) a) ∙ e ∙ append_assoc (entry_bytes y) (entries_bytes all) b in
    let first = entry_same x y (entries_bytes done ++ a) (entries_bytes all ++ b) (small x done few) (small y all fewer) all_of in
    let others = entries_begin done all a b (omega arith) (omega (arith, few)) (omega (arith, fewer)) first.1 in
    (others.0, ap (λ (z : Field). z ∷ all) (sym first.0) ∙ ap (λ (zs : List Field). x ∷ zs) others.1, others.2)

pub entries_more : (es : List Field) (e : Field) (rest : List ℕ) → entries_bytes es ++ (entry_bytes e ++ rest) ≡ entries_bytes (es ++ e ∷ []) ++ rest
entries_more [] e rest = simp append_assoc
entries_more (x ∷ es) e rest = append_assoc (entry_bytes x) (entries_bytes es) (entry_bytes e ++ rest) ∙ ap (λ (z : List ℕ). entry_bytes x ++ z) (entries_more es e rest) ∙ sym (append_assoc (entry_bytes x) (entries_bytes (es ++ e ∷ [])) rest)

-- ---- the entries of a table

entries_push : (es : List Field) (e : Field) → entries_bytes (es ++ e ∷ []) ≡ entries_bytes es ++ entry_bytes e
entries_push es e = sym (append-nil (entries_bytes (es ++ e ∷ []))) ∙ sym (entries_more es e []) ∙ ap (λ (z : List ℕ). entries_bytes es ++ z) (append-nil (entry_bytes e))

pub entries_few : (es : List Field) → length (entries_bytes es) ≤ table_size es
entries_few [] = omega arith
entries_few (e ∷ es) = omega (arith, entry_length e (entries_bytes es), entries_few es)

place_is : (t : Table) (place : ℕ) → t.dropped ≤ place → entry_of t place ≡ slice_get t.live (place - t.dropped)
place_is t place low = rw (le-ltb place t.dropped low) refl

-- one more entry was appended
pub one_more : (t : Table) (place : ℕ) (e : Field) (out front after : List ℕ) → t.dropped ≤ place → Some e ≡ entry_of t place
    → front ≡ out ++ entries_bytes (take (place - t.dropped) t.live) → after ≡ front ++ entry_bytes e
    → after ≡ out ++ entries_bytes (take ((place + 1) - t.dropped) t.live)
one_more t place e out front after low found was is =
    let k : ℕ = place - t.dropped in
    let at : slice_get t.live k ≡ Some e = sym (place_is t place low) ∙ sym found in
    let within : k < length t.live = slice_get_within t.live k e at in
    let more : take (k + 1) t.live ≡ take k t.live ++ e ∷ [] = take_more t.live k e within ∙ ap (λ (x : Field). take k t.live ++ x ∷ []) (get_or_from_slice_get t.live k e e at) in
    let next : (place + 1) - t.dropped ≡ k + 1 = omega (arith, low) in
    is ∙ ap (λ (z : List ℕ). z ++ entry_bytes e) was ∙ append_assoc out (entries_bytes (take k t.live)) (entry_bytes e)
    ∙ ap (λ (z : List ℕ). out ++ z) (sym (entries_push (take k t.live) e) ∙ ap entries_bytes (sym more) ∙ ap (λ n. entries_bytes (take n t.live)) (sym next))

-- there is an entry at each place below the count
pub none_left : (t : Table) (place : ℕ) → t.dropped ≤ place → place < insert_count t → None ≡ entry_of t place → ⊥
none_left t place low below none =
    let k : ℕ = place - t.dropped in
    elim t.live as (λ (live : List Field). k < length live → None ≡ slice_get live k → ⊥) [ [] ↦ λ lt e. omega arith | (x ∷ xs) ↦ λ lt e. cc (slice_get-get_or (x ∷ xs) k x lt, e) ] (omega arith) (none ∙ place_is t place low)

-- ---- the words before them

pub head_put : (h : Head) (a b c d e f g i : List ℕ) → b ≡ a ++ word h.limit → c ≡ b ++ word h.capacity → d ≡ c ++ word h.dropped → e ≡ d ++ word h.known → f ≡ e ++ word h.fault → g ≡ f ++ word h.held → i ≡ g ++ word h.count
    → i ≡ a ++ head_bytes h
head_put h a b c d e f g i p q r s t u v = rw (v, u, t, s, r, q, p) (simp append_assoc)

head_then : (h : Head) (rest : List ℕ) → head_bytes h ++ rest ≡ word h.limit ++ (word h.capacity ++ (word h.dropped ++ (word h.known ++ (word h.fault ++ (word h.held ++ (word h.count ++ rest))))))
head_then h rest = simp append_assoc

pub word_then : (n : ℕ) (rest : List ℕ) → length (word n ++ rest) ≡ 8 + length rest
word_then n rest = omega (arith, length-append (word n) rest, word_size n)

pub head_length : (h : Head) (rest : List ℕ) → length (head_bytes h ++ rest) ≡ 56 + length rest
head_length h rest =
    let g = word_then h.count rest in
    let f = word_then h.held (word h.count ++ rest) in
    let e = word_then h.fault (word h.held ++ (word h.count ++ rest)) in
    let d = word_then h.known (word h.fault ++ (word h.held ++ (word h.count ++ rest))) in
    let c = word_then h.dropped (word h.known ++ (word h.fault ++ (word h.held ++ (word h.count ++ rest)))) in
    let b = word_then h.capacity (word h.dropped ++ (word h.known ++ (word h.fault ++ (word h.held ++ (word h.count ++ rest))))) in
    let a = word_then h.limit (word h.capacity ++ (word h.dropped ++ (word h.known ++ (word h.fault ++ (word h.held ++ (word h.count ++ rest)))))) in
    ap (λ (z : List ℕ). length z) (head_then h rest) ∙ omega (arith, a, b, c, d, e, f, g)

-- two heads of the same numbers
pub record SameHead (h k : Head) : Type 0 where
  pub limit : h.limit ≡ k.limit
  pub capacity : h.capacity ≡ k.capacity
  pub dropped : h.dropped ≡ k.dropped
  pub known : h.known ≡ k.known
  pub fault : h.fault ≡ k.fault
  pub held : h.held ≡ k.held
  pub count : h.count ≡ k.count

pub head_same : (h k : Head) (a b : List ℕ) → IsWide h → IsWide k → head_bytes h ++ a ≡ head_bytes k ++ b → SameHead h k × (a ≡ b)
head_same h k a b wide broad e =
    let all = sym (head_then h a) ∙ e ∙ head_then k b in
    let limit = word_same h.limit k.limit (word h.capacity ++ (word h.dropped ++ (word h.known ++ (word h.fault ++ (word h.held ++ (word h.count ++ a)))))) (word k.capacity ++ (word k.dropped ++ (word k.known ++ (word k.fault ++ (word k.held ++ (word k.count ++ b)))))) wide.limit broad.limit all in
    let capacity = word_same h.capacity k.capacity (word h.dropped ++ (word h.known ++ (word h.fault ++ (word h.held ++ (word h.count ++ a))))) (word k.dropped ++ (word k.known ++ (word k.fault ++ (word k.held ++ (word k.count ++ b))))) wide.capacity broad.capacity limit.1 in
    let dropped = word_same h.dropped k.dropped (word h.known ++ (word h.fault ++ (word h.held ++ (word h.count ++ a)))) (word k.known ++ (word k.fault ++ (word k.held ++ (word k.count ++ b)))) wide.dropped broad.dropped capacity.1 in
    let known = word_same h.known k.known (word h.fault ++ (word h.held ++ (word h.count ++ a))) (word k.fault ++ (word k.held ++ (word k.count ++ b))) wide.known broad.known dropped.1 in
    let fault = word_same h.fault k.fault (word h.held ++ (word h.count ++ a)) (word k.held ++ (word k.count ++ b)) wide.fault broad.fault known.1 in
    let held = word_same h.held k.held (word h.count ++ a) (word k.count ++ b) wide.held broad.held fault.1 in
    let count = word_same h.count k.count a b wide.count broad.count held.1 in
    (record { limit = limit.0; capacity = capacity.0; dropped = dropped.0; known = known.0; fault = fault.0; held = held.0; count = count.0 }, count.1)

-- ---- entries that are no table

size_append : (xs ys : List Field) → table_size (xs ++ ys) ≡ table_size xs + table_size ys
size_append [] ys = omega arith
size_append (x ∷ xs) ys = omega (arith, size_append xs ys)

-- the entry after those that were taken
next_entry : (bytes rest : List ℕ) (done live : List Field) (more : List ℕ) → bytes ≡ entries_bytes done ++ rest → length done < length live → table_size done < 2 ^ 60 → table_size live < 2 ^ 60 → bytes ≡ entries_bytes live ++ more
    → (e : Field) × (behind : List ℕ) × IsEntry e × (rest ≡ entry_bytes e ++ behind) × (table_size done + entry_size e ≤ table_size live)
next_entry bytes rest done live more front shorter few fewer e =
    let begins = entries_begin done live rest more (omega (arith, shorter)) few fewer (sym front ∙ e) in
    first begins.0 begins.1 begins.2
  where
    first : (others : List Field) → live ≡ done ++ others → rest ≡ entries_bytes others ++ more
        → (e : Field) × (behind : List ℕ) × IsEntry e × (rest ≡ entry_bytes e ++ behind) × (table_size done + entry_size e ≤ table_size live)
    first [] all is = absurd (omega (arith, shorter, ap (λ (z : List Field). length z) all, length-append {A = Field} done []))
    first (x ∷ xs) all is =
        let size = ap table_size all ∙ size_append done (x ∷ xs) in
        (x, entries_bytes xs ++ more, small x xs (omega (arith, size, fewer)), is ∙ append_assoc (entry_bytes x) (entries_bytes xs) more, omega (arith, size))

-- bytes do not begin with so many entries of this size
abbrev pub NoEntries : ℕ → ℕ → List ℕ → Type 0
NoEntries count capacity bytes = (live : List Field) (more : List ℕ) → length live ≡ count → table_size live ≤ capacity → ¬ (bytes ≡ entries_bytes live ++ more)

pub no_entry : (bytes rest : List ℕ) (done : List Field) (count capacity : ℕ) → bytes ≡ entries_bytes done ++ rest → length done < count → table_size done ≤ capacity → capacity < 2 ^ 60 → ((e : Field) (behind : List ℕ) → IsEntry e → ¬ (rest ≡ entry_bytes e ++ behind))
    → NoEntries count capacity bytes
no_entry bytes rest done count capacity front short few small none live more size fits e =
    let next = next_entry bytes rest done live more front (omega (arith, short, size)) (omega (arith, few, small)) (omega (arith, fits, small)) e in
    none next.0 next.1 next.2 next.3

pub no_fit : (bytes rest behind : List ℕ) (done : List Field) (entry : Field) (count capacity : ℕ) → bytes ≡ entries_bytes done ++ rest → length done < count → table_size done ≤ capacity → capacity < 2 ^ 60 → IsEntry entry → rest ≡ entry_bytes entry ++ behind → capacity < table_size done + entry_size entry
    → NoEntries count capacity bytes
no_fit bytes rest behind done entry count capacity front short few small is found large live more size fits e =
    let next = next_entry bytes rest done live more front (omega (arith, short, size)) (omega (arith, few, small)) (omega (arith, fits, small)) e in
    let same = entry_same entry next.0 behind next.1 is next.2 (sym found ∙ next.3) in
    omega (arith, large, fits, next.4, ap entry_size same.0)

pub taken_more : (bytes rest behind : List ℕ) (done : List Field) (e : Field) → bytes ≡ entries_bytes done ++ rest → rest ≡ entry_bytes e ++ behind → bytes ≡ entries_bytes (done ++ e ∷ []) ++ behind
taken_more bytes rest behind done e front found = front ∙ ap (λ (z : List ℕ). entries_bytes done ++ z) found ∙ entries_more done e behind
