-- The bytes read at the start are an encoding, and an encoding at the start is read.
use Rattle.std.proofs.Common.{◌≡◌, ℕ, ◌<◌, ◌≤◌, Bool, true, false, cond, ltb, List, ◌++◌, length, get_or, take, drop, Some, None, refl, sym, ap, subst, append_assoc, arith, lit<}
use Rattle.std.specs.Int.{Width, w8, w16, w32, w64, w128, byte_len}
use Rattle.std.proofs.lemmas.Bool.{le-ltb, ltb-false}
use Rattle.std.proofs.lemmas.List.{take-append-drop, length-append, length-take, get_or-take}
use Rattle.std.proofs.Math.Seq.{take-append_seam, drop-append_seam}
use Rattle.std.proofs.Math.ListN.{get_or-append}
use Rattle.wtp_core.specs.Varint.{Encodes, number_at, bytes_at, width_of, value_of}

byte_len_pos : (w : Width) → 0 < byte_len w
byte_len_pos w8 = lit< tt
byte_len_pos w16 = lit< tt
byte_len_pos w32 = lit< tt
byte_len_pos w64 = lit< tt
byte_len_pos w128 = lit< tt

-- a conditional that has a value
chosen : {A : Type 0} (b : Bool) (x y : A) → cond b None (Some x) ≡ Some y → (b ≡ false) × (x ≡ y)
chosen true x y e = absurd cc
chosen false x y e = (refl, cc)

pub number_at-encoding : (v : ℕ) (s rest : List ℕ) → Encodes v s → number_at (s ++ rest) ≡ Some (v, rest)
unfolding number_at
number_at-encoding v s rest h =
    let w : Width = width_of (get_or s 0 0) in
    let pos : 0 < byte_len (width_of (get_or s 0 0)) = byte_len_pos (width_of (get_or s 0 0)) in
    let first : get_or (s ++ rest) 0 0 ≡ get_or s 0 0 = get_or-append s rest 0 0 (omega (arith, h.size)) in
    let enough : byte_len (width_of (get_or s 0 0)) ≤ length (s ++ rest) = omega (arith, length-append s rest, h.size) in
    rw (first, le-ltb (length (s ++ rest)) (byte_len (width_of (get_or s 0 0))) enough, ← h.size, take-append_seam s rest, drop-append_seam s rest, ← h.value) refl

-- the first w bytes are an encoding
encodes_front : (bytes : List ℕ) → byte_len (width_of (get_or bytes 0 0)) ≤ length bytes → Encodes (value_of (width_of (get_or bytes 0 0)) (take (byte_len (width_of (get_or bytes 0 0))) bytes)) (take (byte_len (width_of (get_or bytes 0 0))) bytes)
encodes_front bytes enough =
    let pos : 0 < byte_len (width_of (get_or bytes 0 0)) = byte_len_pos (width_of (get_or bytes 0 0)) in
    let first : get_or (take (byte_len (width_of (get_or bytes 0 0))) bytes) 0 0 ≡ get_or bytes 0 0 = get_or-take (byte_len (width_of (get_or bytes 0 0))) bytes 0 0 pos in
    record {
      size = rw first (omega (arith, length-take (byte_len (width_of (get_or bytes 0 0))) bytes));
      value = rw first refl;
    }

pub number_at-encodes : (v : ℕ) (bytes rest : List ℕ) → number_at bytes ≡ Some (v, rest) → (s : List ℕ) × Encodes v s × (bytes ≡ s ++ rest)
unfolding number_at
number_at-encodes v bytes rest e =
    let found = chosen (ltb (length bytes) (byte_len (width_of (get_or bytes 0 0)))) (value_of (width_of (get_or bytes 0 0)) (take (byte_len (width_of (get_or bytes 0 0))) bytes), drop (byte_len (width_of (get_or bytes 0 0))) bytes) (v, rest) e in
    let enough : byte_len (width_of (get_or bytes 0 0)) ≤ length bytes = ltb-false (length bytes) (byte_len (width_of (get_or bytes 0 0))) found.0 in
    let same_value : value_of (width_of (get_or bytes 0 0)) (take (byte_len (width_of (get_or bytes 0 0))) bytes) ≡ v = ap (λ (p : ℕ × List ℕ). p.0) found.1 in
    let same_rest : drop (byte_len (width_of (get_or bytes 0 0))) bytes ≡ rest = ap (λ (p : ℕ × List ℕ). p.1) found.1 in (
      take (byte_len (width_of (get_or bytes 0 0))) bytes,
      subst (λ (x : ℕ). Encodes x (take (byte_len (width_of (get_or bytes 0 0))) bytes)) same_value (encodes_front bytes enough),
      subst (λ (r : List ℕ). bytes ≡ take (byte_len (width_of (get_or bytes 0 0))) bytes ++ r) same_rest (sym (take-append-drop (byte_len (width_of (get_or bytes 0 0))) bytes)),
    )

-- appending bytes does not change what is read
pub number_at-more : (v : ℕ) (bytes rest more : List ℕ) → number_at bytes ≡ Some (v, rest) → number_at (bytes ++ more) ≡ Some (v, rest ++ more)
number_at-more v bytes rest more e =
    let (s, encoded, parts) = number_at-encodes v bytes rest e in
    rw (parts, append_assoc s rest more) (number_at-encoding v s (rest ++ more) encoded)

pub bytes_at-parts : (n : ℕ) (bytes s rest : List ℕ) → bytes_at n bytes ≡ Some (s, rest) → (length s ≡ n) × (bytes ≡ s ++ rest)
unfolding bytes_at
bytes_at-parts n bytes s rest e =
    let found = chosen (ltb (length bytes) n) (take n bytes, drop n bytes) (s, rest) e in
    let enough : n ≤ length bytes = ltb-false (length bytes) n found.0 in
    let same_s : take n bytes ≡ s = ap (λ (p : List ℕ × List ℕ). p.0) found.1 in
    let same_rest : drop n bytes ≡ rest = ap (λ (p : List ℕ × List ℕ). p.1) found.1 in
    (rw (← same_s) (omega (arith, length-take n bytes)), rw (← same_s, ← same_rest) (sym (take-append-drop n bytes)))

pub bytes_at-append : (s rest : List ℕ) → bytes_at (length s) (s ++ rest) ≡ Some (s, rest)
unfolding bytes_at
bytes_at-append s rest =
    let enough : length s ≤ length (s ++ rest) = omega (arith, length-append s rest) in
    rw (le-ltb (length (s ++ rest)) (length s) enough, take-append_seam s rest, drop-append_seam s rest) refl

pub encoding_not_empty : (v : ℕ) (s : List ℕ) → Encodes v s → 0 < length s
encoding_not_empty v s h = let pos : 0 < byte_len (width_of (get_or s 0 0)) = byte_len_pos (width_of (get_or s 0 0)) in omega (arith, h.size)
