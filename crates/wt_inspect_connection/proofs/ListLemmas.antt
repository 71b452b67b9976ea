-- The lines of a list that were read.
use Rattle.std.proofs.Common.{◌≡◌, ℕ, ◌+◌, ◌<◌, ◌≤◌, ◌^◌, ◌&&◌, zero, suc, Bool, true, false, List, [], ◌∷◌, length, refl, ap, subst, sym, ◌∙◌, arith}
use Rattle.std.specs.Char.{is_ascii_digit}
use Rattle.std.specs.List.{list_all, list_any}
use Rattle.std.specs.Str.{all_ascii_digits}
use Rattle.std.proofs.lemmas.Str.Parse.{IsNumeralModel, numerals_by_value, tells_all_ascii_digits}
use Rattle.std.specs.Str.Parse.{IsNumeral, digits_value}
use Rattle.std.proofs.lemmas.List.{nil_from_length}
use Rattle.wt_inspect_connection.specs.Lists.{AddsLine, FailsAt, IsList, IsNoChannel, ListFails, Reads, first_line, is_tab, is_torn, more_lines}
use Rattle.wt_inspect_connection.specs.declared.list.Channel.TheVariants.{Stream}
use Rattle.wt_inspect_connection.specs.declared.list.Entry.{Entry}
use Rattle.wt_inspect_connection.specs.declared.list.ListError.{ListError}
use Rattle.wt_inspect_connection.specs.declared.list.ListError.TheVariants.{Line, NotSent, Twice, Empty, Memory}

-- one line more
reads_more : (n m k : ℕ) (a : List Entry) (t : List ℕ) (b : List Entry) (r : List ℕ) (c : List Entry) → Reads n m a t b r
    → 0 < length r → k ≡ m + n + 1 → AddsLine k (first_line r) b c → Reads (suc n) m a t c (more_lines r)
reads_more zero m k a t b r c p some at adds =
    let e : k ≡ m + 1 = omega (at, arith) in
    let first : AddsLine (m + 1) (first_line r) a c = subst (λ (x : ℕ). AddsLine x (first_line r) a c) e (subst (λ (x : List Entry). AddsLine k (first_line r) x c) p.0 adds) in
    (c, subst (λ (x : List ℕ). 0 < length x) p.1 some, subst (λ (x : List ℕ). AddsLine (m + 1) (first_line x) a c) p.1 first, (refl, ap more_lines p.1))
reads_more (suc n) m k a t b r c p some at adds =
    let e : k ≡ m + 1 + n + 1 = omega (at, arith) in
    (p.0, p.1, p.2, reads_more n (m + 1) k p.0 (more_lines t) b r c p.3 some e adds)

pub reads_next : (n : ℕ) (t : List ℕ) (b : List Entry) (r : List ℕ) (c : List Entry) → Reads n 0 [] t b r
    → 0 < length r → AddsLine (n + 1) (first_line r) b c → Reads (n + 1) 0 [] t c (more_lines r)
reads_next n t b r c p some adds =
    let e : suc n ≡ n + 1 = omega arith in
    let at : n + 1 ≡ 0 + n + 1 = omega arith in
    subst (λ (k : ℕ). Reads k 0 [] t c (more_lines r)) e (reads_more n 0 (n + 1) [] t b r c p some at adds)

-- the next line is no entry that may follow
pub breaks : (text : List ℕ) (e : ListError) (n : ℕ) (entries : List Entry) (rest : List ℕ) → Reads n 0 [] text entries rest
    → 0 < length rest → FailsAt (n + 1) (first_line rest) entries e → ListFails text e
breaks text (Line m w) n entries rest p some fails = (n, entries, rest, p, some, fails)
breaks text (NotSent m) n entries rest p some fails = (n, entries, rest, p, some, fails)
breaks text (Twice m k) n entries rest p some fails = (n, entries, rest, p, some, fails)
breaks text Empty n entries rest p some fails = absurd fails
breaks text Memory n entries rest p some fails = (n, entries, rest, p, some, fails)

-- no text is left
pub ends : (n : ℕ) (text : List ℕ) (entries : List Entry) (rest : List ℕ) → Reads n 0 [] text entries rest → length rest ≡ 0
    → IsList text entries
ends n text entries rest p none = (n, subst (λ (x : List ℕ). Reads n 0 [] text entries x) (nil_from_length rest none) p)

-- the word of a field is not empty
pub torn_by : (word : List ℕ) (b : Bool) → 0 < length word → b ≡ list_any is_tab word → b ≡ is_torn word
torn_by [] b some e = absurd (omega (arith, some))
torn_by (c ∷ word) b some e = e

-- each byte is a digit
same_digits : (ds : List ℕ) → list_all is_ascii_digit ds ≡ all_ascii_digits ds
same_digits [] = refl
same_digits (c ∷ cs) = ap (λ (b : Bool). is_ascii_digit c && b) (same_digits cs)

own : IsNumeralModel (λ ds. all_ascii_digits ds ≡ true) (digits_value 10)
own = numerals_by_value _ tells_all_ascii_digits

pub numeral_if : (word : List ℕ) → 0 < length word → list_all is_ascii_digit word ≡ true → IsNumeral 10 word
numeral_if word some e = (some, own.to word (sym (same_digits word) ∙ e))

pub no_numeral : (word : List ℕ) → list_all is_ascii_digit word ≡ false → IsNumeral 10 word → ⊥
no_numeral word e num =
    let wrong : true ≡ false = sym (own.from word num.1) ∙ (sym (same_digits word) ∙ e) in cc

-- a numeral of no channel is above the IDs
pub above : (word : List ℕ) → IsNoChannel word → IsNumeral 10 word → 2 ^ 62 ≤ digits_value 10 word
above word none num =
    let large : digits_value 10 word < 2 ^ 62 → ⊥ = λ small. none (Stream (digits_value 10 word)) (num, refl, small) in
    omega (arith, large)
