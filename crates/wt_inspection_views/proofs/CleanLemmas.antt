-- Lines without characters that need an escape: escaped bytes contain none.
use Rattle.std.proofs.Common.{arith, suc, decimal, length, inl, inr, ◌≡◌, ℕ, ◌+◌, ◌<◌, ◌≤◌, ◌/◌, ◌%◌, ◌^◌, ◌&&◌, not, cond, Bool, true, false, nat_eq, nat_lt, nat_le, List, [], ◌∷◌, ◌++◌, get_or, refl, sym, ap, subst}
use Rattle.std.specs.List.{flat_map, list_any}
use Rattle.std.specs.Str.{NonePass, NoCharPasses}
use Rattle.std.proofs.lemmas.Bool.{and_parts, and_left, and_right, or_from, or_parts, ltb-true, ltb-false, leb-true, leb-false, lt-leb}
use Rattle.std.proofs.lemmas.Str.{encode_ascii, NoCharPasses-nil, NoCharPasses-append}
use Rattle.wt_inspection_views.specs.Escaped.{AreLines, ArePlain, IsLine, IsPlain, IsShown, escaped_byte, is_other_byte, is_plain_byte, digit_of, marked_line}
use Rattle.wt_inspection_views.specs.Characters.{needs_escape}
use Rattle.std.proofs.lemmas.List.{flat_map_more}
use Rattle.std.proofs.lemmas.Fmt.{decimal_is_IsNumeral}
use Rattle.std.proofs.lemmas.Str.Parse.{digit_at}
use Rattle.std.specs.Char.{is_control}

pub none_from_any : (p : ℕ → Bool) (cs : List ℕ) → list_any p cs ≡ false → NonePass p cs
none_from_any p [] e = tt
none_from_any p (c ∷ cs) e =
    let both = or_parts (p c) (list_any p cs) e in
    (both.0, none_from_any p cs both.1)

pub any_from_none : (p : ℕ → Bool) (cs : List ℕ) → NonePass p cs → list_any p cs ≡ false
any_from_none p [] n = refl
any_from_none p (c ∷ cs) n = or_from (p c) (list_any p cs) n.0 (any_from_none p cs n.1)

no_escape-one : (c : ℕ) → c < 128 → needs_escape c ≡ false → NoCharPasses needs_escape (c ∷ [])
no_escape-one c l e = (c ∷ [], ap (λ (x : List ℕ). x ++ []) (encode_ascii c l), (e, tt))

not_control : (c : ℕ) → 32 ≤ c → c < 127 → is_control c ≡ false
not_control c l h = or_from _ _ (and_right _ _ (lt-leb c 31 (omega arith))) (and_left _ _ (lt-leb 127 c h))

-- printable ASCII needs no escape
printable : (c : ℕ) → 32 ≤ c → c < 127 → needs_escape c ≡ false
printable c l h =
    let low = lt-leb 128 c (omega arith) in
    or_from _ _ (not_control c l h) (or_from _ _ (and_left _ _ low) (and_left _ _ low))

plain_no_escape : (b : ℕ) → is_plain_byte b ≡ true → (b < 128) × (needs_escape b ≡ false)
plain_no_escape b e =
    let parts = and_parts (nat_le 32 b && nat_lt b 127) (not (nat_eq b 92)) e in
    let range = and_parts (nat_le 32 b) (nat_lt b 127) parts.0 in
    let high : b < 127 = ltb-true b 127 range.1 in
    (omega arith, printable b (leb-true 32 b range.0) high)

digit_bounds : (n : ℕ) (t : Bool) → n < 16 → (32 ≤ cond t (48 + n) (87 + n)) × (cond t (48 + n) (87 + n) < 127)
digit_bounds n true l = (omega arith, omega arith)
digit_bounds n false l = (omega arith, omega arith)

pub digit_below : (n : ℕ) → n < 16 → digit_of n < 127
digit_below n l = (digit_bounds n (nat_lt n 10) l).1

digit_no_escape : (n : ℕ) → n < 16 → (digit_of n < 128) × (needs_escape (digit_of n) ≡ false)
digit_no_escape n l =
    let bounds = digit_bounds n (nat_lt n 10) l in
    let low : digit_of n < 127 = bounds.1 in
    (omega arith, printable (digit_of n) bounds.0 low)

no_escape-escaped : (b : ℕ) (p : Bool) → b < 256 → is_plain_byte b ≡ p → NoCharPasses needs_escape (cond p (b ∷ []) (92 ∷ 120 ∷ digit_of (b / 16) ∷ digit_of (b % 16) ∷ []))
no_escape-escaped b true l e = let h = plain_no_escape b e in no_escape-one b h.0 h.1
no_escape-escaped b false l e =
    let first = digit_no_escape (b / 16) (omega arith) in
    let second = digit_no_escape (b % 16) (omega arith) in
    NoCharPasses-append needs_escape (92 ∷ []) (120 ∷ digit_of (b / 16) ∷ digit_of (b % 16) ∷ []) (no_escape-one 92 (omega arith) refl)
    (NoCharPasses-append needs_escape (120 ∷ []) (digit_of (b / 16) ∷ digit_of (b % 16) ∷ []) (no_escape-one 120 (omega arith) refl)
    (NoCharPasses-append needs_escape (digit_of (b / 16) ∷ []) (digit_of (b % 16) ∷ []) (no_escape-one (digit_of (b / 16)) first.0 first.1) (no_escape-one (digit_of (b % 16)) second.0 second.1)))

no_escape-all : (bytes : List ℕ) → ((k : ℕ) → get_or bytes k 0 < 2 ^ 8) → NoCharPasses needs_escape (flat_map escaped_byte bytes)
no_escape-all [] fits = NoCharPasses-nil needs_escape
no_escape-all (b ∷ bytes) fits =
    NoCharPasses-append needs_escape (escaped_byte b) (flat_map escaped_byte bytes)
    (no_escape-escaped b (is_plain_byte b) (fits 0) refl)
    (no_escape-all bytes (λ k. fits (suc k)))

no_escape-shown : (bytes shown : List ℕ) → ((k : ℕ) → get_or bytes k 0 < 2 ^ 8) → IsShown bytes shown → NoCharPasses needs_escape shown
no_escape-shown bytes shown fits (inl s) = subst (NoCharPasses needs_escape) (sym s.0) s.1.1
no_escape-shown bytes shown fits (inr s) = subst (NoCharPasses needs_escape) (sym s.0) (no_escape-all bytes fits)

pub no_escape-plain : (words plain : List ℕ) → ((k : ℕ) → get_or words k 0 < 2 ^ 8) → IsPlain words plain → NoCharPasses needs_escape plain
no_escape-plain words plain fits (inl s) = subst (NoCharPasses needs_escape) (sym s.0) s.1
no_escape-plain words plain fits (inr s) = no_escape-shown words plain fits s.0

-- a further line
ArePlain-push : (lines : List (List ℕ)) (plain : List ℕ) → ArePlain lines → NoCharPasses needs_escape plain → ArePlain (lines ++ plain ∷ [])
ArePlain-push [] plain a n = (n, tt)
ArePlain-push (l ∷ ls) plain a n = (a.0, ArePlain-push ls plain a.1 n)

AreLines-append : (old words line : List ℕ) → ((k : ℕ) → get_or words k 0 < 2 ^ 8) → AreLines old → IsLine words line → AreLines (old ++ line)
AreLines-append old words line fits o l =
    (o.0 ++ l.0 ∷ [], rw (o.1, l.2) (flat_map_more marked_line [] o.0 l.0), ArePlain-push o.0 l.0 o.2 (no_escape-plain words l.0 fits l.1))

pub AreLines-pushed : (old new words line : List ℕ) (ok : Bool) → ((k : ℕ) → get_or words k 0 < 2 ^ 8) → AreLines old → IsLine words line → new ≡ cond ok (old ++ line) old → AreLines new
AreLines-pushed old new words line true fits o l e = subst AreLines (sym e) (AreLines-append old words line fits o l)
AreLines-pushed old new words line false fits o l e = subst AreLines (sym e) o

-- printable ASCII needs no escape
other_parts : (b : ℕ) → is_other_byte b ≡ false → (32 ≤ b) × (b < 127)
other_parts b e =
    let both = or_parts (nat_lt b 32) (nat_le 127 b) e in
    (ltb-false b 32 both.0, leb-false 127 b both.1)

pub ascii_needs_none : (text : List ℕ) → list_any is_other_byte text ≡ false → NoCharPasses needs_escape text
ascii_needs_none [] e = NoCharPasses-nil needs_escape
ascii_needs_none (b ∷ text) e =
    let both = or_parts (is_other_byte b) (list_any is_other_byte text) e in
    let range = other_parts b both.0 in
    let low : b < 127 = range.1 in
    NoCharPasses-append needs_escape (b ∷ []) text (no_escape-one b (omega (arith, low)) (printable b range.0 low)) (ascii_needs_none text both.1)

-- digits need no escape
digits_plain : (ds : List ℕ) → ((i : ℕ) → i < length ds → (48 ≤ get_or ds i 0) × (get_or ds i 0 ≤ 57)) → NoCharPasses needs_escape ds
digits_plain [] h = NoCharPasses-nil needs_escape
digits_plain (d ∷ ds) h =
    let first = h 0 (omega arith) in
    NoCharPasses-append needs_escape (d ∷ []) ds (no_escape-one d (omega (arith, first.1)) (printable d (omega (arith, first.0)) (omega (arith, first.1)))) (digits_plain ds (λ i l. h (suc i) (omega (arith, l))))

pub decimal_then : (n : ℕ) (words : List ℕ) → n < 2 ^ 64 → NoCharPasses needs_escape words → NoCharPasses needs_escape (decimal n ++ words)
decimal_then n words h clean =
    NoCharPasses-append needs_escape (decimal n) words (digits_plain (decimal n) (λ i l. digit_at _ i (decimal_is_IsNumeral n h).0.1 l)) clean

-- words of which no character needs an escape are shown as they are
pub no_escape-clean : (words plain : List ℕ) → NoCharPasses needs_escape words → IsPlain words plain → NoCharPasses needs_escape plain
no_escape-clean words plain clean (inl s) = subst (NoCharPasses needs_escape) (sym s.0) s.1
no_escape-clean words plain clean (inr s) = absurd (s.1 clean)

pub AreLines-clean : (old words line : List ℕ) → NoCharPasses needs_escape words → AreLines old → IsLine words line → AreLines (old ++ line)
AreLines-clean old words line clean o l =
    (o.0 ++ l.0 ∷ [], rw (o.1, l.2) (flat_map_more marked_line [] o.0 l.0), ArePlain-push o.0 l.0 o.2 (no_escape-clean words l.0 clean l.1))
