-- Where hashes stand in a queue: the last of each.
use Rattle.std.proofs.Common.{◌≡◌, ℕ, zero, suc, ◌+◌, ◌-◌, ◌<◌, ◌≤◌, ◌==◌, inl, inr, Bool, true, false, List, [], ◌∷◌, ◌++◌, length, take, drop, get_or, set, map, length-append, length-drop, refl, sym, ◌∙◌, ap, subst, arith, eq-eqb, ne_eqb}
use borrow.Author.Tests.{eqb-true}
use Rattle.std.proofs.Math.Numerals.{add-one}
use Rattle.std.specs.List.{slice_index}
use Rattle.std.proofs.lemmas.List.{take_all, length-take, take-append-le, get_or-take, get_or-map, length-map, length-set, map-append, get_or_append_left, get_or-set_other, get_or_default}
use Rattle.std.proofs.lemmas.Grind.{get_or-set_at}
use Rattle.std.proofs.lemmas.Bool.{cases_lt}
use Rattle.std.proofs.Math.Seq.{take-suc, take-append_seam, get_or-append_seam}
use Rattle.wtp_dynamic_encoder.specs.declared.chain.Chain.{Chain}
use Rattle.wtp_dynamic_encoder.specs.declared.chain.Link.{Link}
use Rattle.wtp_dynamic_encoder.specs.Chains.{last_of, latest, hash_of_link, earlier_of_link, is_hash, bucket_of, in_bucket, hashes_of, earliers_of, Heads, Links, IsChain, IsAt}

-- ---- the last with a property

pub latest_len : (p : ℕ → Bool) (xs : List ℕ) → latest p xs ≤ length xs
latest_len p [] = omega arith
latest_len p (x ∷ xs) = by (p x) (latest p xs) (latest_len p xs)
  where
    by : (b : Bool) (r : ℕ) → r ≤ length xs → last_of b r ≤ suc (length xs)
    by true zero le = omega arith
    by false zero le = omega arith
    by b (suc r) le = omega arith

pub push_has : (p : ℕ → Bool) (xs : List ℕ) (x : ℕ) → p x ≡ true → latest p (xs ++ x ∷ []) ≡ suc (length xs)
push_has p [] x e = ap (λ (b : Bool). last_of b 0) e
push_has p (y ∷ ys) x e = ap (last_of (p y)) (push_has p ys x e)

pub push_lacks : (p : ℕ → Bool) (xs : List ℕ) (x : ℕ) → p x ≡ false → latest p (xs ++ x ∷ []) ≡ latest p xs
push_lacks p [] x e = ap (λ (b : Bool). last_of b 0) e
push_lacks p (y ∷ ys) x e = ap (last_of (p y)) (push_lacks p ys x e)

pub latest_tail : (p : ℕ → Bool) (x : ℕ) (xs : List ℕ) → latest p xs ≡ latest p (x ∷ xs) - 1
latest_tail p x xs = by (p x) (latest p xs)
  where
    by : (b : Bool) (r : ℕ) → r ≡ last_of b r - 1
    by true zero = refl
    by false zero = refl
    by b (suc r) = omega arith

pub latest_has : (p : ℕ → Bool) (xs : List ℕ) (i d : ℕ) → latest p xs ≡ suc i → p (get_or xs i d) ≡ true
latest_has p [] i d e = cc e
latest_has p (x ∷ xs) i d e = by (p x) refl (latest p xs) refl (λ r later. latest_has p xs r d later) e
  where
    by : (b : Bool) → p x ≡ b → (r : ℕ) → latest p xs ≡ r → ((k : ℕ) → latest p xs ≡ suc k → p (get_or xs k d) ≡ true) → last_of b r ≡ suc i → p (get_or (x ∷ xs) i d) ≡ true
    by true here zero none rest is =
        let at : 0 ≡ i = cc is in
        subst (λ (k : ℕ). p (get_or (x ∷ xs) k d) ≡ true) at here
    by false here zero none rest is = cc is
    by b here (suc r) later rest is =
        let at : suc r ≡ i = cc is in
        subst (λ (k : ℕ). p (get_or (x ∷ xs) k d) ≡ true) at (rest r later)

pub latest_none : (p : ℕ → Bool) (xs : List ℕ) (k d : ℕ) → latest p xs ≤ k → k < length xs → p (get_or xs k d) ≡ false
latest_none p [] k d low within = absurd (omega arith)
latest_none p (x ∷ xs) zero d low within = by (p x) refl (latest p xs) low
  where
    by : (b : Bool) → p x ≡ b → (r : ℕ) → last_of b r ≤ 0 → p x ≡ false
    by true here zero le = absurd (omega arith)
    by false here zero le = here
    by b here (suc r) le = absurd (omega arith)
latest_none p (x ∷ xs) (suc k) d low within = latest_none p xs k d (by (p x) (latest p xs) low) (omega arith)
  where
    by : (b : Bool) (r : ℕ) → last_of b r ≤ suc k → r ≤ k
    by true zero le = omega arith
    by false zero le = omega arith
    by b (suc r) le = omega arith

-- a property that another follows from is found among what the other leaves
pub latest_less : (p q : ℕ → Bool) (xs : List ℕ) → ((x : ℕ) → q x ≡ true → p x ≡ true) → latest q xs ≤ latest p xs
latest_less p q [] implies = omega arith
latest_less p q (x ∷ xs) implies = by (q x) refl (p x) refl (latest q xs) (latest p xs) (latest_less p q xs implies)
  where
    by : (b : Bool) → q x ≡ b → (c : Bool) → p x ≡ c → (r s : ℕ) → r ≤ s → last_of b r ≤ last_of c s
    by true one true two zero zero le = omega arith
    by true one false two zero zero le = cc (implies x one, two)
    by false one true two zero zero le = omega arith
    by false one false two zero zero le = omega arith
    by true one c two zero (suc s) le = omega arith
    by false one c two zero (suc s) le = omega arith
    by b one c two (suc r) zero le = absurd (omega arith)
    by b one c two (suc r) (suc s) le = omega arith

pub latest_take : (p q : ℕ → Bool) (xs : List ℕ) → ((x : ℕ) → q x ≡ true → p x ≡ true) → latest q (take (latest p xs) xs) ≡ latest q xs
latest_take p q [] implies = refl
latest_take p q (x ∷ xs) implies = by (q x) refl (p x) refl (latest p xs) refl (latest_take p q xs implies) (latest_less p q xs implies)
  where
    by : (b : Bool) → q x ≡ b → (c : Bool) → p x ≡ c → (s : ℕ) → latest p xs ≡ s → latest q (take (latest p xs) xs) ≡ latest q xs → latest q xs ≤ latest p xs → latest q (take (last_of c s) (x ∷ xs)) ≡ last_of (q x) (latest q xs)
    by b one true two zero none again less =
        let nothing : latest q xs ≡ 0 = omega arith in
        ap (last_of (q x)) (sym nothing)
    by true one false two zero none again less = cc (implies x one, two)
    by false one false two zero none again less =
        let nothing : latest q xs ≡ 0 = omega arith in
        sym (ap (λ (c : Bool). last_of c (latest q xs)) one ∙ ap (last_of false) nothing)
    by b one c two (suc s) later again less =
        ap (last_of (q x)) (ap (λ (n : ℕ). latest q (take n xs)) (sym later) ∙ again)

-- ---- a queue

pub heads_none : (dropped : ℕ) (hashes : List ℕ) → Heads [] dropped hashes
heads_none dropped hashes b within = absurd (omega arith)

pub links_none : (buckets dropped : ℕ) (earliers : List ℕ) → Links buckets earliers dropped []
links_none buckets dropped earliers i within = absurd (omega arith)

pub chain_none : (chain : Chain) → chain.heads.items ≡ [] → chain.links.items ≡ [] → IsChain chain
chain_none chain heads links = record {
  heads = λ b within. absurd (omega (arith, ap length heads));
  links = λ i within. absurd (omega (arith, ap (λ z. length (map (λ l. l.hash) z)) links));
  some = λ some. absurd (omega (arith, ap length links));
}

-- the last of the first so many and one more
last_is : (q : ℕ → Bool) (xs : List ℕ) (r i : ℕ) → r ≡ suc i → i < length xs → q (get_or xs i 0) ≡ true → latest q (take r xs) ≡ r
last_is q xs r i is within has =
    let long : length (take i xs) ≡ i = length-take i xs ∙ omega arith in
    ap (λ n. latest q (take n xs)) is ∙ ap (latest q) (take-suc xs i 0 within) ∙ push_has q (take i xs) (get_or xs i 0) has ∙ omega arith

last_before : (q : ℕ → Bool) (xs : List ℕ) (r i : ℕ) → r ≡ suc i → i < length xs → q (get_or xs i 0) ≡ false → latest q (take r xs) ≡ latest q (take i xs)
last_before q xs r i is within lacks =
    ap (λ n. latest q (take n xs)) is ∙ ap (latest q) (take-suc xs i 0 within) ∙ push_lacks q (take i xs) (get_or xs i 0) lacks

-- ---- from one place of a bucket to the one before

-- the place of a link, and its hash
pub record Place (chain : Chain) (i : ℕ) (link : Link) : Type 0 where
  pub within : i < length chain.links.items
  pub counted : i < length (hashes_of chain)
  pub hash : slice_index (hashes_of chain) i ≡ link.hash
  pub earlier : slice_index (earliers_of chain) i ≡ link.earlier

pub place_at : (chain : Chain) (i : ℕ) (link : Link) → i < length chain.links.items → link ≡ get_or chain.links.items i link → Place chain i link
place_at chain i link within is = record {
  within = within;
  counted = omega (arith, length-map chain.links.items hash_of_link);
  hash = get_or-map hash_of_link chain.links.items i link 0 within ∙ ap hash_of_link (sym is);
  earlier = get_or-map earlier_of_link chain.links.items i link 0 within ∙ ap earlier_of_link (sym is);
}

-- what is left to look through has the same last place as at the start
pub record Settling (chain : Chain) (hash start at : ℕ) : Type 0 where
  pub here : IsAt chain hash at
  pub left : latest (is_hash hash) (take (at - chain.dropped) (hashes_of chain)) ≡ latest (is_hash hash) (take (start - chain.dropped) (hashes_of chain))

pub settle_start : (chain : Chain) (hash start : ℕ) → IsAt chain hash start → Settling chain hash start start
settle_start chain hash start here = record { here = here; left = refl }

at_within : (chain : Chain) (hash at : ℕ) → IsAt chain hash at → at - chain.dropped ≤ length chain.links.items
at_within chain hash at here =
    let p = in_bucket (length chain.heads.items) (bucket_of (length chain.heads.items) hash) in
    omega (arith, here.is, latest_len p (take here.most (hashes_of chain)), length-take here.most (hashes_of chain), length-map chain.links.items hash_of_link)

pub settle_within : (chain : Chain) (hash start at : ℕ) → Settling chain hash start at → chain.dropped < at → at - chain.dropped - 1 < length chain.links.items
settle_within chain hash start at settling more = omega (arith, at_within chain hash at settling.here)

pub settle_found : (chain : Chain) (hash start at : ℕ) (link : Link) → Settling chain hash start at → chain.dropped < at → link ≡ get_or chain.links.items (at - chain.dropped - 1) link → link.hash ≡ hash
    → at - chain.dropped - 1 + 1 ≡ latest (is_hash hash) (take (start - chain.dropped) (hashes_of chain))
settle_found chain hash start at link settling more is same =
    let i : ℕ = at - chain.dropped - 1 in
    let place = place_at chain i link (settle_within chain hash start at settling more) is in
    let last : latest (is_hash hash) (take (at - chain.dropped) (hashes_of chain)) ≡ at - chain.dropped =
    last_is (is_hash hash) (hashes_of chain) (at - chain.dropped) i (omega arith) place.counted (eq-eqb (slice_index (hashes_of chain) i) hash (place.hash ∙ same)) in
    omega (arith, last, settling.left)

-- the hash at a place of a bucket belongs to it
bucket_at : (chain : Chain) (hash at i : ℕ) → IsAt chain hash at → at - chain.dropped ≡ suc i → i < length (hashes_of chain) → bucket_of (length chain.heads.items) (slice_index (hashes_of chain) i) ≡ bucket_of (length chain.heads.items) hash
bucket_at chain hash at i here is within =
    let p = in_bucket (length chain.heads.items) (bucket_of (length chain.heads.items) hash) in
    let has : p (get_or (take here.most (hashes_of chain)) i 0) ≡ true = latest_has p (take here.most (hashes_of chain)) i 0 (sym here.is ∙ is) in
    let low : i < here.most = omega (arith, here.is, is, latest_len p (take here.most (hashes_of chain)), length-take here.most (hashes_of chain)) in
    let there : get_or (take here.most (hashes_of chain)) i 0 ≡ slice_index (hashes_of chain) i = get_or-take here.most (hashes_of chain) i 0 low in
    eqb-true (bucket_of (length chain.heads.items) (slice_index (hashes_of chain) i)) (bucket_of (length chain.heads.items) hash) (subst (λ (h : ℕ). p h ≡ true) there has)

-- a hash belongs to its bucket
hash_in : (buckets hash x : ℕ) → is_hash hash x ≡ true → in_bucket buckets (bucket_of buckets hash) x ≡ true
hash_in buckets hash x same = eq-eqb (bucket_of buckets x) (bucket_of buckets hash) (ap (bucket_of buckets) (eqb-true x hash same))

take_less : (a b : ℕ) (xs : List ℕ) → a ≤ b → take a (take b xs) ≡ take a xs
take_less zero b xs le = refl
take_less (suc a) zero xs le = absurd (omega arith)
take_less (suc a) (suc b) [] le = refl
take_less (suc a) (suc b) (x ∷ xs) le = ap (λ z. x ∷ z) (take_less a b xs (omega arith))

record Next (chain : Chain) (hash at earlier : ℕ) : Type 0 where
  here : IsAt chain hash earlier
  left : latest (is_hash hash) (take (earlier - chain.dropped) (hashes_of chain)) ≡ latest (is_hash hash) (take (at - chain.dropped - 1) (hashes_of chain))
  less : earlier - chain.dropped ≤ at - chain.dropped - 1

next_at : (chain : Chain) (hash at earlier i : ℕ) → IsChain chain → IsAt chain hash at → at - chain.dropped ≡ suc i → i < length (hashes_of chain) → slice_index (earliers_of chain) i ≡ earlier → Next chain hash at earlier
next_at chain hash at earlier i is here at_is within found =
    let n : ℕ = length chain.heads.items in
    let p = in_bucket n (bucket_of n hash) in
    let place : at - chain.dropped - 1 ≡ i = omega arith in
    let linked : earlier - chain.dropped ≡ latest p (take i (hashes_of chain)) =
    ap (λ (e : ℕ). e - chain.dropped) (sym found) ∙ is.links i within ∙ ap (λ (b : ℕ). latest (in_bucket n b) (take i (hashes_of chain))) (bucket_at chain hash at i here at_is within) in
    let less : earlier - chain.dropped ≤ i = omega (arith, linked, latest_len p (take i (hashes_of chain)), length-take i (hashes_of chain)) in
    record {
      here = record { most = i; is = linked };
      left = ap (latest (is_hash hash)) (sym (take_less (earlier - chain.dropped) i (hashes_of chain) less)) ∙ ap (λ (r : ℕ). latest (is_hash hash) (take r (take i (hashes_of chain)))) linked
          ∙ latest_take p (is_hash hash) (take i (hashes_of chain)) (hash_in n hash) ∙ ap (λ (r : ℕ). latest (is_hash hash) (take r (hashes_of chain))) (sym place);
      less = omega arith;
    }

settle_next : (chain : Chain) (hash start at : ℕ) (link : Link) → IsChain chain → Settling chain hash start at → chain.dropped < at → link ≡ get_or chain.links.items (at - chain.dropped - 1) link → Next chain hash at link.earlier
settle_next chain hash start at link is settling more found =
    let i : ℕ = at - chain.dropped - 1 in
    let place = place_at chain i link (settle_within chain hash start at settling more) found in
    next_at chain hash at link.earlier i is settling.here (omega arith) place.counted place.earlier

pub settle_less : (chain : Chain) (hash start at : ℕ) (link : Link) → IsChain chain → Settling chain hash start at → chain.dropped < at → link ≡ get_or chain.links.items (at - chain.dropped - 1) link → link.earlier < at
settle_less chain hash start at link is settling more found = omega (arith, (settle_next chain hash start at link is settling more found).less)

pub settle_on : (chain : Chain) (hash start at : ℕ) (link : Link) → IsChain chain → Settling chain hash start at → chain.dropped < at → link ≡ get_or chain.links.items (at - chain.dropped - 1) link → (link.hash ≡ hash → ⊥) → Settling chain hash start link.earlier
settle_on chain hash start at link is settling more found other =
    let i : ℕ = at - chain.dropped - 1 in
    let place = place_at chain i link (settle_within chain hash start at settling more) found in
    let next = settle_next chain hash start at link is settling more found in
    let before : latest (is_hash hash) (take (at - chain.dropped) (hashes_of chain)) ≡ latest (is_hash hash) (take i (hashes_of chain)) =
    last_before (is_hash hash) (hashes_of chain) (at - chain.dropped) i (omega arith) place.counted (ne_eqb (slice_index (hashes_of chain) i) hash (λ same. other (sym place.hash ∙ same))) in
    record { here = next.here; left = next.left ∙ sym before ∙ settling.left }

pub settle_end : (chain : Chain) (hash start at : ℕ) → Settling chain hash start at → at ≤ chain.dropped → 0 ≡ latest (is_hash hash) (take (start - chain.dropped) (hashes_of chain))
settle_end chain hash start at settling low =
    let none : at - chain.dropped ≡ 0 = omega arith in
    ap (λ (r : ℕ). latest (is_hash hash) (take r (hashes_of chain))) (sym none) ∙ settling.left

-- ---- where to begin

-- the head of the bucket of a hash
pub head_at : (chain : Chain) (hash bucket : ℕ) → IsChain chain → bucket ≡ bucket_of (length chain.heads.items) hash → bucket < length chain.heads.items → IsAt chain hash (slice_index chain.heads.items bucket)
head_at chain hash bucket is same within = record {
  most = length (hashes_of chain);
  is = is.heads bucket within ∙ ap (λ (b : ℕ). latest (in_bucket (length chain.heads.items) b) (hashes_of chain)) same
      ∙ ap (latest (in_bucket (length chain.heads.items) (bucket_of (length chain.heads.items) hash))) (sym (take_all (length (hashes_of chain)) (hashes_of chain) (omega arith)));
}

pub head_leaves : (chain : Chain) (hash bucket result : ℕ) → IsChain chain → bucket ≡ bucket_of (length chain.heads.items) hash → bucket < length chain.heads.items
    → result ≡ latest (is_hash hash) (take (slice_index chain.heads.items bucket - chain.dropped) (hashes_of chain)) → result ≡ latest (is_hash hash) (hashes_of chain)
head_leaves chain hash bucket result is same within found =
    let n : ℕ = length chain.heads.items in
    let head : slice_index chain.heads.items bucket - chain.dropped ≡ latest (in_bucket n (bucket_of n hash)) (hashes_of chain) =
    is.heads bucket within ∙ ap (λ (b : ℕ). latest (in_bucket n b) (hashes_of chain)) same in
    found ∙ ap (λ (r : ℕ). latest (is_hash hash) (take r (hashes_of chain))) head ∙ latest_take (in_bucket n (bucket_of n hash)) (is_hash hash) (hashes_of chain) (hash_in n hash)

-- the link of a hash
pub link_at : (chain : Chain) (hash place : ℕ) (link : Link) → IsChain chain → link ≡ get_or chain.links.items place link → place < length (hashes_of chain) → slice_index (hashes_of chain) place ≡ hash → IsAt chain hash link.earlier
link_at chain hash place link is found within same =
    let n : ℕ = length chain.heads.items in
    let here = place_at chain place link (omega (arith, within, length-map chain.links.items hash_of_link)) found in
    record {
      most = place;
      is = ap (λ (e : ℕ). e - chain.dropped) (sym here.earlier) ∙ is.links place within ∙ ap (λ (h : ℕ). latest (in_bucket n (bucket_of n h)) (take place (hashes_of chain))) same;
    }

pub link_leaves : (chain : Chain) (hash place result : ℕ) (link : Link) → IsChain chain → link ≡ get_or chain.links.items place link → place < length (hashes_of chain) → slice_index (hashes_of chain) place ≡ hash
    → result ≡ latest (is_hash hash) (take (link.earlier - chain.dropped) (hashes_of chain)) → result ≡ latest (is_hash hash) (take place (hashes_of chain))
link_leaves chain hash place result link is found within same made =
    let n : ℕ = length chain.heads.items in
    let p = in_bucket n (bucket_of n hash) in
    let linked : link.earlier - chain.dropped ≡ latest p (take place (hashes_of chain)) =
    let here = place_at chain place link (omega (arith, within, length-map chain.links.items hash_of_link)) found in
    ap (λ (e : ℕ). e - chain.dropped) (sym here.earlier) ∙ is.links place within ∙ ap (λ (h : ℕ). latest (in_bucket n (bucket_of n h)) (take place (hashes_of chain))) same in
    let less : link.earlier - chain.dropped ≤ place = omega (arith, linked, latest_len p (take place (hashes_of chain)), length-take place (hashes_of chain)) in
    made ∙ ap (latest (is_hash hash)) (sym (take_less (link.earlier - chain.dropped) place (hashes_of chain) less)) ∙ ap (λ (r : ℕ). latest (is_hash hash) (take r (take place (hashes_of chain)))) linked
    ∙ latest_take p (is_hash hash) (take place (hashes_of chain)) (hash_in n hash)

-- ---- one more hash

pub heads_push : (heads hashes : List ℕ) (dropped bucket place hash : ℕ) → Heads heads dropped hashes → bucket ≡ bucket_of (length heads) hash → bucket < length heads → place ≡ dropped + length hashes + 1 → Heads (set heads bucket place) dropped (hashes ++ hash ∷ [])
heads_push heads hashes dropped bucket place hash is same within place_is b low =
    let long : length (set heads bucket place) ≡ length heads = length-set heads bucket place in
    subst (λ (n : ℕ). slice_index (set heads bucket place) b - dropped ≡ latest (in_bucket n b) (hashes ++ hash ∷ [])) (sym long) (by_bucket (b == bucket) refl)
  where
    by_bucket : (e : Bool) → (b == bucket) ≡ e → slice_index (set heads bucket place) b - dropped ≡ latest (in_bucket (length heads) b) (hashes ++ hash ∷ [])
    by_bucket true e =
        let at : b ≡ bucket = eqb-true b bucket e in
        let has : in_bucket (length heads) b hash ≡ true = eq-eqb (bucket_of (length heads) hash) b (sym same ∙ sym at) in
        omega (arith, get_or-set_at heads bucket b place 0 at within, place_is, push_has (in_bucket (length heads) b) hashes hash has)
    by_bucket false e =
        let apart : b ≡ bucket → ⊥ = λ at. cc (eq-eqb b bucket at, e) in
        let lacks : in_bucket (length heads) b hash ≡ false = ne_eqb (bucket_of (length heads) hash) b (λ at. apart (sym at ∙ sym same)) in
        let short : b < length heads = omega (arith, length-set heads bucket place) in
        ap (λ (h : ℕ). h - dropped) (get_or-set_other heads bucket b place 0 apart) ∙ is b short ∙ sym (push_lacks (in_bucket (length heads) b) hashes hash lacks)

pub links_push : (n : ℕ) (earliers hashes : List ℕ) (dropped hash earlier : ℕ) → length earliers ≡ length hashes → Links n earliers dropped hashes → earlier - dropped ≡ latest (in_bucket n (bucket_of n hash)) hashes
    → Links n (earliers ++ earlier ∷ []) dropped (hashes ++ hash ∷ [])
links_push n earliers hashes dropped hash earlier long is linked i low = elim (cases_lt i (length hashes)) [
  | inl before ↦
      let first : slice_index (earliers ++ earlier ∷ []) i ≡ slice_index earliers i = get_or_append_left earliers (earlier ∷ []) 0 i (omega arith) in
      let second : slice_index (hashes ++ hash ∷ []) i ≡ slice_index hashes i = get_or_append_left hashes (hash ∷ []) 0 i before in
      ap (λ (e : ℕ). e - dropped) first ∙ is i before ∙ ap (λ (h : ℕ). latest (in_bucket n (bucket_of n h)) (take i hashes)) (sym second)
      ∙ ap (latest (in_bucket n (bucket_of n (slice_index (hashes ++ hash ∷ []) i)))) (sym (take-append-le i hashes (hash ∷ []) (omega arith)))
  | inr after ↦
      let at : i ≡ length hashes = omega (arith, length-append hashes (hash ∷ [])) in
      let at_earlier : i ≡ length earliers = at ∙ sym long in
      let first : slice_index (earliers ++ earlier ∷ []) i ≡ earlier = ap (λ k. get_or (earliers ++ earlier ∷ []) k 0) at_earlier ∙ get_or-append_seam earliers earlier [] 0 in
      let second : slice_index (hashes ++ hash ∷ []) i ≡ hash = ap (λ k. get_or (hashes ++ hash ∷ []) k 0) at ∙ get_or-append_seam hashes hash [] 0 in
      let whole : take i (hashes ++ hash ∷ []) ≡ hashes = ap (λ k. take k (hashes ++ hash ∷ [])) at ∙ take-append_seam hashes (hash ∷ []) in
      ap (λ (e : ℕ). e - dropped) first ∙ linked ∙ ap (λ (h : ℕ). latest (in_bucket n (bucket_of n h)) hashes) (sym second)
      ∙ ap (latest (in_bucket n (bucket_of n (slice_index (hashes ++ hash ∷ []) i)))) (sym whole)
]

pub hashes_push : (old new : Chain) (link : Link) → new.links.items ≡ old.links.items ++ link ∷ [] → hashes_of new ≡ hashes_of old ++ link.hash ∷ []
hashes_push old new link is = ap (map hash_of_link) is ∙ map-append hash_of_link old.links.items (link ∷ [])

pub chain_push : (old new : Chain) (link : Link) (bucket place : ℕ) → IsChain old → bucket ≡ bucket_of (length old.heads.items) link.hash → bucket < length old.heads.items → link.earlier ≡ slice_index old.heads.items bucket
    → place ≡ old.dropped + length old.links.items + 1 → new.heads.items ≡ set old.heads.items bucket place → new.links.items ≡ old.links.items ++ link ∷ [] → new.dropped ≡ old.dropped → IsChain new
chain_push old new link bucket place is same within found place_is heads links dropped =
    let n : ℕ = length old.heads.items in
    let long : length (hashes_of old) ≡ length old.links.items = length-map old.links.items hash_of_link in
    let long_earliers : length (earliers_of old) ≡ length old.links.items = length-map old.links.items earlier_of_link in
    let hashes : hashes_of new ≡ hashes_of old ++ link.hash ∷ [] = hashes_push old new link links in
    let earliers : earliers_of new ≡ earliers_of old ++ link.earlier ∷ [] = ap (map earlier_of_link) links ∙ map-append earlier_of_link old.links.items (link ∷ []) in
    let buckets : length new.heads.items ≡ n = ap length heads ∙ length-set old.heads.items bucket place in
    let linked : link.earlier - old.dropped ≡ latest (in_bucket n (bucket_of n link.hash)) (hashes_of old) =
    ap (λ (e : ℕ). e - old.dropped) found ∙ is.heads bucket within ∙ ap (λ (b : ℕ). latest (in_bucket n b) (hashes_of old)) same in
    let pushed_heads : Heads (set old.heads.items bucket place) old.dropped (hashes_of old ++ link.hash ∷ []) =
    heads_push old.heads.items (hashes_of old) old.dropped bucket place link.hash is.heads same within (omega (arith, place_is, long)) in
    let pushed_links : Links n (earliers_of old ++ link.earlier ∷ []) old.dropped (hashes_of old ++ link.hash ∷ []) =
    links_push n (earliers_of old) (hashes_of old) old.dropped link.hash link.earlier (long_earliers ∙ sym long) is.links linked in
    record {
      heads = subst (λ (z : List ℕ). Heads z new.dropped (hashes_of new)) (sym heads) (subst (λ (d : ℕ). Heads (set old.heads.items bucket place) d (hashes_of new)) (sym dropped) (subst (λ (z : List ℕ). Heads (set old.heads.items bucket place) old.dropped z) (sym hashes) pushed_heads));
      links = subst (λ (m : ℕ). Links m (earliers_of new) new.dropped (hashes_of new)) (sym buckets) (subst (λ (z : List ℕ). Links n z new.dropped (hashes_of new)) (sym earliers) (subst (λ (d : ℕ). Links n (earliers_of old ++ link.earlier ∷ []) d (hashes_of new)) (sym dropped)
          (subst (λ (z : List ℕ). Links n (earliers_of old ++ link.earlier ∷ []) old.dropped z) (sym hashes) pushed_links)));
      some = λ some. omega (arith, buckets);
    }

-- ---- one less

heads_pop : (heads : List ℕ) (dropped : ℕ) (hashes : List ℕ) → Heads heads dropped hashes → Heads heads (dropped + 1) (drop 1 hashes)
heads_pop heads dropped [] is b low = omega (arith, is b low)
heads_pop heads dropped (x ∷ xs) is b low = omega (arith, is b low, latest_tail (in_bucket (length heads) b) x xs)

links_pop : (n : ℕ) (earliers : List ℕ) (dropped : ℕ) (hashes : List ℕ) → length earliers ≡ length hashes → Links n earliers dropped hashes → Links n (drop 1 earliers) (dropped + 1) (drop 1 hashes)
links_pop n earliers dropped [] long is i low = absurd (omega arith)
links_pop n [] dropped (x ∷ xs) long is i low = absurd (omega arith)
links_pop n (e ∷ es) dropped (x ∷ xs) long is i low =
    let p = in_bucket n (bucket_of n (slice_index xs i)) in
    let at : slice_index es i - dropped ≡ latest p (x ∷ take i xs) = is (suc i) (omega arith) in
    omega (arith, at, latest_tail p x (take i xs))

map_tail : {X : Type 0} (f : X → ℕ) (xs : List X) → map f (drop 1 xs) ≡ drop 1 (map f xs)
map_tail f [] = refl
map_tail f (x ∷ xs) = refl

pub hashes_pop : (old new : Chain) → new.links.items ≡ drop 1 old.links.items → hashes_of new ≡ drop 1 (hashes_of old)
hashes_pop old new links = ap (map hash_of_link) links ∙ map_tail hash_of_link old.links.items

pub chain_pop : (old new : Chain) → IsChain old → new.heads.items ≡ old.heads.items → new.links.items ≡ drop 1 old.links.items → new.dropped ≡ old.dropped + 1 → IsChain new
chain_pop old new is heads links dropped =
    let hashes : hashes_of new ≡ drop 1 (hashes_of old) = hashes_pop old new links in
    let earliers : earliers_of new ≡ drop 1 (earliers_of old) = ap (map earlier_of_link) links ∙ map_tail earlier_of_link old.links.items in
    let popped : Heads old.heads.items (old.dropped + 1) (drop 1 (hashes_of old)) = heads_pop old.heads.items old.dropped (hashes_of old) is.heads in
    let rest : Links (length old.heads.items) (drop 1 (earliers_of old)) (old.dropped + 1) (drop 1 (hashes_of old)) =
    links_pop (length old.heads.items) (earliers_of old) old.dropped (hashes_of old) (length-map old.links.items earlier_of_link ∙ sym (length-map old.links.items hash_of_link)) is.links in
    record {
      heads = subst (λ (z : List ℕ). Heads z new.dropped (hashes_of new)) (sym heads) (subst (λ (d : ℕ). Heads old.heads.items d (hashes_of new)) (sym dropped) (subst (λ (z : List ℕ). Heads old.heads.items (old.dropped + 1) z) (sym hashes) popped));
      links = subst (λ (z : List ℕ). Links (length z) (earliers_of new) new.dropped (hashes_of new)) (sym heads) (subst (λ (z : List ℕ). Links (length old.heads.items) z new.dropped (hashes_of new)) (sym earliers) (subst (λ (d : ℕ). Links (length old.heads.items) (drop 1 (earliers_of old)) d (hashes_of new)) (sym dropped)
          (subst (λ (z : List ℕ). Links (length old.heads.items) (drop 1 (earliers_of old)) (old.dropped + 1) z) (sym hashes) rest)));
      some = λ some.
          let long : length new.links.items ≡ length old.links.items - 1 = ap length links ∙ length-drop 1 old.links.items in
          let before : 0 < length old.heads.items = is.some (omega arith) in
          omega (arith, ap length heads);
    }

pub any_default : (xs : List ℕ) (i x : ℕ) → i < length xs → x ≡ get_or xs i x → x ≡ slice_index xs i
any_default xs i x within is = is ∙ get_or_default xs i x 0 within

-- ---- a copy in more buckets

drop_none : (n : ℕ) → drop {A = ℕ} n [] ≡ []
drop_none zero = refl
drop_none (suc n) = refl

drop_more : (k : ℕ) (xs : List ℕ) → drop 1 (drop k xs) ≡ drop (k + 1) xs
drop_more zero xs = refl
drop_more (suc k) [] = sym (drop_none (suc k + 1))
drop_more (suc k) (x ∷ xs) =
    let next : suc (k + 1) ≡ suc k + 1 = omega arith in
    drop_more k xs ∙ ap (λ n. drop n (x ∷ xs)) next

-- the next one is gone too
pub dropped_more : (old now new : Chain) → new.links.items ≡ drop 1 now.links.items → new.dropped ≡ now.dropped + 1 → old.dropped ≤ now.dropped → hashes_of now ≡ drop (now.dropped - old.dropped) (hashes_of old) → hashes_of new ≡ drop (new.dropped - old.dropped) (hashes_of old)
dropped_more old now new links dropped more is =
    let next : now.dropped - old.dropped + 1 ≡ new.dropped - old.dropped = omega arith in
    hashes_pop now new links ∙ ap (drop 1) is ∙ drop_more (now.dropped - old.dropped) (hashes_of old) ∙ ap (λ (n : ℕ). drop n (hashes_of old)) next

-- one more was copied
pub copied_more : (chain : Chain) (i : ℕ) (link : Link) (hashes : List ℕ) → i < length chain.links.items → link ≡ get_or chain.links.items i link → hashes ≡ take i (hashes_of chain) → hashes ++ link.hash ∷ [] ≡ take (i + 1) (hashes_of chain)
copied_more chain i link hashes within found is =
    let place = place_at chain i link within found in
    ap (λ (z : List ℕ). z ++ link.hash ∷ []) is ∙ ap (λ (h : ℕ). take i (hashes_of chain) ++ h ∷ []) (sym place.hash) ∙ sym (rw (add-one i) (take-suc (hashes_of chain) i 0 place.counted))

pub ruleset head_steps = (head_at, head_leaves)

pub ruleset link_steps = (link_at, link_leaves)

pub ruleset push_steps = (chain_push, hashes_push)

pub ruleset pop_steps = (chain_pop, dropped_more)
