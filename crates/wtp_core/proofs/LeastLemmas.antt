-- No encoding is shorter than the shortest one, and no other is equally short.
use Rattle.std.proofs.Common.{◌≡◌, ℕ, ◌+◌, ◌-◌, ◌*◌, ◌^◌, ◌<◌, ◌≤◌, List, [], ◌∷◌, length, get_or, refl, sym, ap, ◌∙◌, arith, inl, inr, ◌⊎◌}
use Rattle.std.specs.Int.{Width, w8, w16, w32, w64, w128, byte_len, to_be_bytes}
use Rattle.std.proofs.lemmas.Bool.{cases_lt, lt-ltb, le-ltb}
use Rattle.std.proofs.lemmas.Nat.{be_bytes_2, be_bytes_4, be_bytes_8}
use Rattle.wtp_core.specs.Varint.{Encodes, width_of, value_of, shortest}
use Rattle.wtp_core.proofs.ShortLemmas.{shortest-encodes}

-- the size of the shortest encoding, by the value
pub length-shortest : (v : ℕ) → (v < 2 ^ 6 → length (shortest v) ≡ 1) × (2 ^ 6 ≤ v → v < 2 ^ 14 → length (shortest v) ≡ 2) × (2 ^ 14 ≤ v → v < 2 ^ 30 → length (shortest v) ≡ 4) × (2 ^ 30 ≤ v → length (shortest v) ≡ 8)
unfolding shortest
length-shortest v = (
  λ h. rw (lt-ltb v (2 ^ 6) h) refl,
  λ l h. rw (le-ltb v (2 ^ 6) l, lt-ltb v (2 ^ 14) h) refl,
  λ l h. let l6 : 2 ^ 6 ≤ v = omega arith in rw (le-ltb v (2 ^ 6) l6, le-ltb v (2 ^ 14) l, lt-ltb v (2 ^ 30) h) refl,
  λ l. let l6 : 2 ^ 6 ≤ v = omega arith in let l14 : 2 ^ 14 ≤ v = omega arith in rw (le-ltb v (2 ^ 6) l6, le-ltb v (2 ^ 14) l14, le-ltb v (2 ^ 30) l) refl,
)

-- the width that the first byte determines
width-cases : (b : ℕ) → ((width_of b ≡ w8) × (b < 64)) ⊎ (((width_of b ≡ w16) × (64 ≤ b) × (b < 128)) ⊎ (((width_of b ≡ w32) × (128 ≤ b) × (b < 192)) ⊎ ((width_of b ≡ w64) × (192 ≤ b))))
width-cases b = elim (cases_lt b 64) [
  | inl h ↦ inl (rw (lt-ltb b 64 h) refl, h)
  | inr l6 ↦ elim (cases_lt b 128) [
    | inl h ↦ inr (inl (rw (le-ltb b 64 l6, lt-ltb b 128 h) refl, l6, h))
    | inr l7 ↦ elim (cases_lt b 192) [
      | inl h ↦ inr (inr (inl (rw (le-ltb b 64 l6, le-ltb b 128 l7, lt-ltb b 192 h) refl, l7, h)))
      | inr l ↦ inr (inr (inr (rw (le-ltb b 64 l6, le-ltb b 128 l7, le-ltb b 192 l) refl, l)))
    ]
  ]
]

-- an encoding by its width
record As (w : Width) (v : ℕ) (s : List ℕ) : Type 0 where
  size : length s ≡ byte_len w
  value : v ≡ value_of w s

as_width : (w : Width) (v : ℕ) (s : List ℕ) (h : Encodes v s) → width_of (get_or s 0 0) ≡ w → As w v s
as_width w v s h e = record { size = h.size ∙ ap (λ (x : Width). byte_len x) e; value = h.value ∙ ap (λ (x : Width). value_of x s) e }

below8 : (v : ℕ) (s : List ℕ) (h : As w8 v s) → v < 2 ^ 6
unfolding value_of
below8 v s h = let e = h.value in omega arith

below16 : (v : ℕ) (s : List ℕ) (h : As w16 v s) → v < 2 ^ 14
unfolding value_of
below16 v s h = let e = h.value in omega arith

below32 : (v : ℕ) (s : List ℕ) (h : As w32 v s) → v < 2 ^ 30
unfolding value_of
below32 v s h = let e = h.value in omega arith

below64 : (v : ℕ) (s : List ℕ) (h : As w64 v s) → v < 2 ^ 62
unfolding value_of
below64 v s h = let e = h.value in omega arith

-- the shortest encoding has at most n bytes, by the value
at_most_2 : (v : ℕ) → v < 2 ^ 14 → length (shortest v) ≤ 2
at_most_2 v h = elim (cases_lt v (2 ^ 6)) [
  | inl l ↦ omega (arith, (length-shortest v).0 l)
  | inr l ↦ omega (arith, (length-shortest v).1 l h)
]

at_most_4 : (v : ℕ) → v < 2 ^ 30 → length (shortest v) ≤ 4
at_most_4 v h = elim (cases_lt v (2 ^ 14)) [
  | inl l ↦ omega (arith, at_most_2 v l)
  | inr l ↦ omega (arith, (length-shortest v).2 l h)
]

pub at_most_8 : (v : ℕ) → length (shortest v) ≤ 8
at_most_8 v = elim (cases_lt v (2 ^ 30)) [
  | inl l ↦ omega (arith, at_most_4 v l)
  | inr l ↦ omega (arith, (length-shortest v).3 l)
]

-- no encoding is shorter
pub shortest-least : (v : ℕ) (s : List ℕ) (h : Encodes v s) → length (shortest v) ≤ length s
shortest-least v s h = elim (width-cases (get_or s 0 0)) [
  | inl (e, b) ↦ let a = as_width w8 v s h e in omega (arith, a.size, (length-shortest v).0 (below8 v s a))
  | inr (inl (e, l, b)) ↦ let a = as_width w16 v s h e in omega (arith, a.size, at_most_2 v (below16 v s a))
  | inr (inr (inl (e, l, b))) ↦ let a = as_width w32 v s h e in omega (arith, a.size, at_most_4 v (below32 v s a))
  | inr (inr (inr (e, l))) ↦ let a = as_width w64 v s h e in omega (arith, a.size, at_most_8 v)
]

-- ---- the encodings of each width

same16 : (s : List ℕ) → length s ≡ 2 → ((i : ℕ) → get_or s i 0 < 256) → 64 ≤ get_or s 0 0 → get_or s 0 0 < 128 → to_be_bytes w16 (2 ^ 14 + value_of w16 s) ≡ s
unfolding value_of
same16 s size bytes l h = let b1 = bytes 1 in be_bytes_2 s (2 ^ 14 + value_of w16 s) size bytes (omega arith)

same32 : (s : List ℕ) → length s ≡ 4 → ((i : ℕ) → get_or s i 0 < 256) → 128 ≤ get_or s 0 0 → get_or s 0 0 < 192 → to_be_bytes w32 (2 * 2 ^ 30 + value_of w32 s) ≡ s
unfolding value_of
same32 s size bytes l h = let b1 = bytes 1 in let b2 = bytes 2 in let b3 = bytes 3 in be_bytes_4 s (2 * 2 ^ 30 + value_of w32 s) size bytes (omega arith)

same64 : (s : List ℕ) → length s ≡ 8 → ((i : ℕ) → get_or s i 0 < 256) → 192 ≤ get_or s 0 0 → to_be_bytes w64 (3 * 2 ^ 62 + value_of w64 s) ≡ s
unfolding value_of
same64 s size bytes l =
    let b0 = bytes 0 in let b1 = bytes 1 in let b2 = bytes 2 in let b3 = bytes 3 in let b4 = bytes 4 in let b5 = bytes 5 in let b6 = bytes 6 in let b7 = bytes 7 in
    be_bytes_8 s (3 * 2 ^ 62 + value_of w64 s) size bytes (omega arith)

shortest16 : (v : ℕ) → 2 ^ 6 ≤ v → v < 2 ^ 14 → shortest v ≡ to_be_bytes w16 (2 ^ 14 + v)
unfolding shortest
shortest16 v l h = rw (le-ltb v (2 ^ 6) l, lt-ltb v (2 ^ 14) h) refl

shortest32 : (v : ℕ) → 2 ^ 14 ≤ v → v < 2 ^ 30 → shortest v ≡ to_be_bytes w32 (2 * 2 ^ 30 + v)
unfolding shortest
shortest32 v l h = let l6 : 2 ^ 6 ≤ v = omega arith in rw (le-ltb v (2 ^ 6) l6, le-ltb v (2 ^ 14) l, lt-ltb v (2 ^ 30) h) refl

shortest64 : (v : ℕ) → 2 ^ 30 ≤ v → shortest v ≡ to_be_bytes w64 (3 * 2 ^ 62 + v)
unfolding shortest
shortest64 v l = let l6 : 2 ^ 6 ≤ v = omega arith in let l14 : 2 ^ 14 ≤ v = omega arith in rw (le-ltb v (2 ^ 6) l6, le-ltb v (2 ^ 14) l14, le-ltb v (2 ^ 30) l) refl

shortest8 : (v : ℕ) → v < 2 ^ 6 → shortest v ≡ v ∷ []
unfolding shortest
shortest8 v h = rw (lt-ltb v (2 ^ 6) h) refl

-- a one-byte encoding is the number itself
one_byte : (v : ℕ) (s : List ℕ) (h : As w8 v s) → get_or s 0 0 < 64 → s ≡ v ∷ []
unfolding value_of
one_byte v [] h b = absurd (omega (arith, h.size))
one_byte v (x ∷ []) h b = let e = h.value in let same : x ≡ v = omega arith in rw same refl
one_byte v (x ∷ y ∷ s) h b = absurd (omega (arith, h.size))

-- no other encoding is equally short
pub shortest-only : (v : ℕ) (s : List ℕ) (h : Encodes v s) → ((i : ℕ) → get_or s i 0 < 256) → length s ≡ length (shortest v) → s ≡ shortest v
shortest-only v s h bytes same = elim (width-cases (get_or s 0 0)) [
  | inl (e, b) ↦ let a = as_width w8 v s h e in one_byte v s a b ∙ sym (shortest8 v (below8 v s a))
  | inr (inl (e, l, b)) ↦
      let a = as_width w16 v s h e in
      let below : v < 2 ^ 14 = below16 v s a in
      let above : 2 ^ 6 ≤ v = elim (cases_lt v (2 ^ 6)) [ inl x ↦ absurd (omega (arith, a.size, (length-shortest v).0 x)) | inr x ↦ x ] in
      sym (same16 s a.size bytes l b) ∙ ap (λ (n : ℕ). to_be_bytes w16 (2 ^ 14 + n)) (sym a.value) ∙ sym (shortest16 v above below)
  | inr (inr (inl (e, l, b))) ↦
      let a = as_width w32 v s h e in
      let below : v < 2 ^ 30 = below32 v s a in
      let above : 2 ^ 14 ≤ v = elim (cases_lt v (2 ^ 14)) [ inl x ↦ absurd (omega (arith, a.size, at_most_2 v x)) | inr x ↦ x ] in
      sym (same32 s a.size bytes l b) ∙ ap (λ (n : ℕ). to_be_bytes w32 (2 * 2 ^ 30 + n)) (sym a.value) ∙ sym (shortest32 v above below)
  | inr (inr (inr (e, l))) ↦
      let a = as_width w64 v s h e in
      let above : 2 ^ 30 ≤ v = elim (cases_lt v (2 ^ 30)) [ inl x ↦ absurd (omega (arith, a.size, at_most_4 v x)) | inr x ↦ x ] in
      sym (same64 s a.size bytes l) ∙ ap (λ (n : ℕ). to_be_bytes w64 (3 * 2 ^ 62 + n)) (sym a.value) ∙ sym (shortest64 v above)
]

-- ---- the size of the shortest encoding

pub size-first : (v : ℕ) → v < 2 ^ 62 → byte_len (width_of (get_or (shortest v) 0 0)) ≡ length (shortest v)
size-first v h = let s = shortest-encodes v h in sym s.size

pub size-holds : (v : ℕ) → v < 2 ^ 62 → v < 2 ^ (8 * length (shortest v) - 2)
size-holds v h = elim (cases_lt v (2 ^ 6)) [
  | inl l6 ↦ rw ((length-shortest v).0 l6) l6
  | inr a6 ↦ elim (cases_lt v (2 ^ 14)) [
    | inl l14 ↦ rw ((length-shortest v).1 a6 l14) l14
    | inr a14 ↦ elim (cases_lt v (2 ^ 30)) [
      | inl l30 ↦ rw ((length-shortest v).2 a14 l30) l30
      | inr a30 ↦ rw ((length-shortest v).3 a30) h
    ]
  ]
]

pub size-least : (v : ℕ) (w : Width) → v < 2 ^ (8 * byte_len w - 2) → length (shortest v) ≤ byte_len w
size-least v w8 h = omega (arith, (length-shortest v).0 h)
size-least v w16 h = at_most_2 v h
size-least v w32 h = at_most_4 v h
size-least v w64 h = at_most_8 v
size-least v w128 h = omega (arith, at_most_8 v)
