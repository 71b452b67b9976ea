-- Hexadecimal digits, and ASCII without DEL, have no unseen character.
use Rattle.std.proofs.Common.{arith, suc, ◌≡◌, ℕ, ◌<◌, ◌/◌, ◌%◌, ◌^◌, false, List, [], ◌∷◌, ◌++◌, get_or, sym, ap, subst, ◌∙◌}
use Rattle.std.specs.List.{flat_map, list_any}
use Rattle.std.specs.Str.{IsUtf8, NonePass, NoCharPasses, chars}
use Rattle.std.proofs.lemmas.Bool.{and_left, or_from, or_parts, leb-false, lt-leb}
use Rattle.std.proofs.lemmas.Str.{encode_ascii, encodes-chars, encodes_same, NoCharPasses-nil, NoCharPasses-append}
use Rattle.wt_inspection_views.specs.Escaped.{digit_of, hex_byte}
use Rattle.wt_inspection_views.specs.JsonLines.{has_unseen, is_late_byte, is_unseen}
use Rattle.wt_inspection_views.proofs.CleanLemmas.{any_from_none, digit_below}

seen_low : (c : ℕ) → c < 127 → NoCharPasses is_unseen (c ∷ [])
seen_low c low =
    let late = lt-leb 127 c low in
    let high = lt-leb 128 c (omega (arith, low)) in (
      c ∷ [],
      ap (λ (x : List ℕ). x ++ []) (encode_ascii c (omega (arith, low))),
      (or_from _ _ (and_left _ _ late) (and_left _ _ high), tt),
    )

digit_seen : (n : ℕ) → n < 16 → NoCharPasses is_unseen (digit_of n ∷ [])
digit_seen n l = seen_low (digit_of n) (digit_below n l)

digits_seen : (bytes : List ℕ) → ((k : ℕ) → get_or bytes k 0 < 2 ^ 8) → NoCharPasses is_unseen (flat_map hex_byte bytes)
digits_seen [] fits = NoCharPasses-nil is_unseen
digits_seen (b ∷ bytes) fits =
    let l : b < 256 = fits 0 in
    NoCharPasses-append is_unseen (hex_byte b) (flat_map hex_byte bytes)
    (NoCharPasses-append is_unseen (digit_of (b / 16) ∷ []) (digit_of (b % 16) ∷ []) (digit_seen (b / 16) (omega (arith, l))) (digit_seen (b % 16) (omega (arith, l))))
    (digits_seen bytes (λ k. fits (suc k)))

seen_text : (text : List ℕ) → IsUtf8 text → NoCharPasses is_unseen text → has_unseen text ≡ false
seen_text text utf8 n =
    let same = encodes_same n.0 (chars text) (n.1 ∙ sym (encodes-chars text utf8)) in
    any_from_none is_unseen (chars text) (subst (NonePass is_unseen) same n.2)

pub seen_digits : (bytes text : List ℕ) → ((k : ℕ) → get_or bytes k 0 < 2 ^ 8) → IsUtf8 text → text ≡ flat_map hex_byte bytes → has_unseen text ≡ false
seen_digits bytes text fits utf8 e = seen_text text utf8 (subst (NoCharPasses is_unseen) (sym e) (digits_seen bytes fits))

seen_ascii : (text : List ℕ) → list_any is_late_byte text ≡ false → NoCharPasses is_unseen text
seen_ascii [] e = NoCharPasses-nil is_unseen
seen_ascii (b ∷ text) e =
    let both = or_parts (is_late_byte b) (list_any is_late_byte text) e in
    let low : b < 127 = leb-false 127 b both.0 in
    NoCharPasses-append is_unseen (b ∷ []) text (seen_low b low) (seen_ascii text both.1)

pub ascii_is_seen : (text : List ℕ) → IsUtf8 text → list_any is_late_byte text ≡ false → has_unseen text ≡ false
ascii_is_seen text utf8 e = seen_text text utf8 (seen_ascii text e)
