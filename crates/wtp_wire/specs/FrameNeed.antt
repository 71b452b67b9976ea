-- The size of the first two numbers of a frame, as far as its first bytes determine it.
use Rattle.std.proofs.Common.{◌≡◌, ℕ, ◌+◌, ◌<◌, ◌≤◌, List, [], ◌∷◌, ◌++◌, length, drop, refl, ap, arith, inl, inr, length-drop}
use Rattle.std.proofs.lemmas.Bool.{cases_lt}
use Rattle.std.proofs.lemmas.List.{drop-append-le}
use Rattle.wtp_core.specs.VarintLenNeeded.{varint_len_needed, varint_need_range, varint_need_grows, varint_need_more}

-- the minimum size of two numbers that start with these bytes
unfoldable pub frame_need : List ℕ → ℕ
frame_need bytes = varint_len_needed bytes + varint_len_needed (drop (varint_len_needed bytes) bytes)

-- ---- facts for readers that continue from these bytes

pub frame_need_is :
    (h : List ℕ) → frame_need h ≡ varint_len_needed h + varint_len_needed (drop (varint_len_needed h) h)
unfolding frame_need
frame_need_is h = refl

pub frame_need_least : (h : List ℕ) → varint_len_needed h < frame_need h
frame_need_least h = omega (arith, frame_need_is h, (varint_need_range (drop (varint_len_needed h) h)).0)

pub frame_need_some : (h : List ℕ) → 0 < frame_need h
frame_need_some h = omega (arith, frame_need_least h)

pub frame_need_most : (h : List ℕ) → frame_need h ≤ 16
frame_need_most h =
    omega (
      arith,
      frame_need_is h,
      (varint_need_range h).1,
      (varint_need_range (drop (varint_len_needed h) h)).1,
    )

no_bytes : (n : ℕ) (h : List ℕ) → length h ≤ n → drop n h ≡ []
no_bytes n h l = empty (drop n h) (omega (arith, length-drop n h))
  where
    empty : (s : List ℕ) → length s ≡ 0 → s ≡ []
    empty [] z = refl
    empty (b ∷ s) z = absurd (omega arith)

pub frame_need_grows : (h t : List ℕ) → frame_need h ≤ frame_need (h ++ t)
frame_need_grows h t = elim (cases_lt (length h) (varint_len_needed h)) [
  | inl part ↦
      let one : varint_len_needed (drop (varint_len_needed h) h) ≡ 1 =
      ap varint_len_needed (no_bytes (varint_len_needed h) h (omega arith)) in
      omega (arith, frame_need_is h, one, varint_need_grows h t, frame_need_least (h ++ t))
  | inr full ↦
      let rest : drop (varint_len_needed (h ++ t)) (h ++ t) ≡ drop (varint_len_needed h) h ++ t =
      rw (varint_need_more h t full) (drop-append-le (varint_len_needed h) h t full) in
      omega (
        arith,
        frame_need_is h,
        frame_need_is (h ++ t),
        varint_need_more h t full,
        ap varint_len_needed rest,
        varint_need_grows (drop (varint_len_needed h) h) t,
      )
]
