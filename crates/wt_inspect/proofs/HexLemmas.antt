-- Reading hexadecimal text.
use Rattle.std.proofs.Common.{arith, ◌≡◌, ℕ, ◌+◌, ◌*◌, Bool, true, false, ◌&&◌, ◌==◌, cond, List, [], ◌∷◌, ◌++◌, append_assoc, length, get_or, take, drop, drop-cons, suc, ◌<◌, Option, Some, None, refl, sym, ap, ap₂, ◌∙◌, subst}
use Rattle.std.proofs.lemmas.Grind.{flat_map-append}
use Rattle.std.proofs.lemmas.List.{flat_map_more, take_more, take-append-drop}
use Rattle.std.proofs.lemmas.List.Concat.{flat_map-cons}
use Rattle.wt_inspect.specs.HexReading.{IsRead}
use Rattle.wt_inspect.specs.HexText.{byte_of, hex_value, is_x, joined, pair_bytes, pairs_bytes, unless_blank, without_blanks}

joined_assoc : (x y z : Option (List ℕ)) → joined (joined x y) z ≡ joined x (joined y z)
joined_assoc None y z = refl
joined_assoc (Some x) None z = refl
joined_assoc (Some x) (Some y) None = refl
joined_assoc (Some x) (Some y) (Some z) = ap Some (append_assoc x y z)

joined_none : (x : Option (List ℕ)) → joined x None ≡ None
joined_none None = refl
joined_none (Some x) = refl

joined_nothing : (y : Option (List ℕ)) → joined (Some []) y ≡ y
joined_nothing None = refl
joined_nothing (Some y) = refl

joined_step : (x m n r : Option (List ℕ)) (bytes : List ℕ) → ((b : List ℕ) → m ≡ Some b → n ≡ joined (Some b) r) → joined x m ≡ Some bytes → joined x n ≡ joined (Some bytes) r
joined_step x None n r bytes more e = let none : None ≡ Some bytes = sym (joined_none x) ∙ e in cc
joined_step x (Some b) n r bytes more e =
    ap (joined x) (more b refl) ∙ (sym (joined_assoc x (Some b) r) ∙ ap (λ y. joined y r) e)

-- the bytes of pairs, and then those of the rest
pub pairs_bytes-append : (pairs rest bytes : List ℕ) → pairs_bytes pairs ≡ Some bytes → pairs_bytes (pairs ++ rest) ≡ joined (Some bytes) (pairs_bytes rest)
pairs_bytes-append [] rest bytes e = sym (joined_nothing (pairs_bytes rest)) ∙ ap (λ x. joined x (pairs_bytes rest)) e
pairs_bytes-append (a ∷ []) rest bytes e = cc
pairs_bytes-append (a ∷ b ∷ pairs) rest bytes e =
    joined_step (pair_bytes a b) (pairs_bytes pairs) (pairs_bytes (pairs ++ rest)) (pairs_bytes rest) bytes (λ found f. pairs_bytes-append pairs rest found f) e

no_bytes-append : (x : List ℕ) → x ++ [] ≡ x
no_bytes-append [] = refl
no_bytes-append (a ∷ x) = ap (λ (l : List ℕ). a ∷ l) (no_bytes-append x)

-- the digit 0 is the character 0
zero_digit : (c : ℕ) → hex_value c ≡ Some 0 → c == 48 ≡ true
zero_digit c e = grind arith

-- no digit is the letter of a prefix
digit_no_x : (c d : ℕ) → hex_value c ≡ Some d → is_x c ≡ false
digit_no_x c d e = grind arith

-- what is no digit is not the character 0
none_no_zero : (c : ℕ) → hex_value c ≡ None → c == 48 ≡ false
none_no_zero c e = grind arith

and_false : (b : Bool) → b && false ≡ false
and_false true = refl
and_false false = refl

pair_prefix : (d c : ℕ) → d == 48 ≡ true → is_x c ≡ true → pair_bytes d c ≡ Some []
pair_prefix d c e x = ap₂ (λ (p q : Bool). cond (p && q) (Some []) (byte_of (hex_value d) (hex_value c))) e x

pair_digits : (a c h d : ℕ) → hex_value a ≡ Some h → hex_value c ≡ Some d → pair_bytes a c ≡ Some ((16 * h + d) ∷ [])
pair_digits a c h d v w =
    ap (λ (q : Bool). cond (a == 48 && q) (Some []) (byte_of (hex_value a) (hex_value c))) (digit_no_x c d w)
    ∙ (ap (λ (p : Bool). cond p (Some []) (byte_of (hex_value a) (hex_value c))) (and_false (a == 48))
    ∙ ap₂ byte_of v w)

first_none : (c : ℕ) (rest : List ℕ) → hex_value c ≡ None → pairs_bytes (c ∷ rest) ≡ None
first_none c [] v = refl
first_none c (b ∷ rest) v =
    ap (λ x. joined x (pairs_bytes rest))
    (ap (λ (p : Bool). cond (p && is_x b) (Some []) (byte_of (hex_value c) (hex_value b))) (none_no_zero c v)
    ∙ ap (λ x. byte_of x (hex_value b)) v)

zero_value : (a h : ℕ) → a == 48 ≡ true → hex_value a ≡ Some h → h ≡ 0
zero_value a h e v = grind arith

no_pair : (x y : Option ℕ) (p q : Bool) → (p ≡ true → q ≡ false) → y ≡ None → byte_of x None ≡ None → cond (p && q) (Some []) (byte_of x y) ≡ None
no_pair x y true true never e n = let wrong : true ≡ false = never refl in cc
no_pair x y true false never e n = ap (byte_of x) e ∙ n
no_pair x y false q never e n = ap (byte_of x) e ∙ n

second_none : (a c h : ℕ) → hex_value a ≡ Some h → hex_value c ≡ None → (h ≡ 0 → is_x c ≡ false) → pair_bytes a c ≡ None
second_none a c h v w x =
    no_pair (hex_value a) (hex_value c) (a == 48) (is_x c) (λ e. x (zero_value a h e v)) w (ap (λ y. byte_of y None) v)

pub prefix_read : (text bytes : List ℕ) (half : Option ℕ) (c : ℕ) → half ≡ Some 0 → is_x c ≡ true → IsRead text bytes half → IsRead (text ++ c ∷ []) bytes None
prefix_read text bytes half c zero x read = let r : IsRead text bytes (Some 0) = subst (IsRead text bytes) zero read in record {
  pairs = r.pairs ++ r.left.0 ∷ c ∷ [];
  are =
      pairs_bytes-append r.pairs (r.left.0 ∷ c ∷ []) bytes r.are
      ∙ (ap (λ y. joined (Some bytes) (joined y (Some []))) (pair_prefix r.left.0 c (zero_digit r.left.0 r.left.2) x)
      ∙ ap Some (no_bytes-append bytes));
  left = ap (λ (l : List ℕ). l ++ c ∷ []) r.left.1 ∙ append_assoc r.pairs (r.left.0 ∷ []) (c ∷ []);
}

pub first_digit : (text bytes : List ℕ) (c d : ℕ) → hex_value c ≡ Some d → IsRead text bytes None → IsRead (text ++ c ∷ []) bytes (Some d)
first_digit text bytes c d v r = record {
  pairs = r.pairs;
  are = r.are;
  left = (c, ap (λ (l : List ℕ). l ++ c ∷ []) r.left, v);
}

pub second_digit : (text bytes new : List ℕ) (half : Option ℕ) (c d h : ℕ) → hex_value c ≡ Some d → half ≡ Some h → new ≡ bytes ++ (16 * h + d) ∷ [] → IsRead text bytes half → IsRead (text ++ c ∷ []) new None
second_digit text bytes new None c d h v is e r = cc
second_digit text bytes new (Some g) c d h v is e r =
    let same : h ≡ g = cc in
    record {
      pairs = r.pairs ++ r.left.0 ∷ c ∷ [];
      are =
          pairs_bytes-append r.pairs (r.left.0 ∷ c ∷ []) bytes r.are
          ∙ (ap (λ y. joined (Some bytes) (joined y (Some []))) (pair_digits r.left.0 c h d (r.left.2 ∙ ap Some (sym same)) v)
          ∙ ap Some (sym e));
      left = ap (λ (l : List ℕ). l ++ c ∷ []) r.left.1 ∙ append_assoc r.pairs (r.left.0 ∷ []) (c ∷ []);
    }

pub no_digit : (text bytes : List ℕ) (half : Option ℕ) (c : ℕ) (rest : List ℕ) → hex_value c ≡ None → (half ≡ Some 0 → is_x c ≡ false) → IsRead text bytes half → pairs_bytes (text ++ c ∷ rest) ≡ None
no_digit text bytes None c rest v x r =
    ap (λ (l : List ℕ). pairs_bytes (l ++ c ∷ rest)) r.left
    ∙ (pairs_bytes-append r.pairs (c ∷ rest) bytes r.are
    ∙ ap (joined (Some bytes)) (first_none c rest v))
no_digit text bytes (Some h) c rest v x r =
    ap (λ (l : List ℕ). pairs_bytes (l ++ c ∷ rest)) r.left.1
    ∙ (ap pairs_bytes (append_assoc r.pairs (r.left.0 ∷ []) (c ∷ rest))
    ∙ (pairs_bytes-append r.pairs (r.left.0 ∷ c ∷ rest) bytes r.are
    ∙ ap (λ y. joined (Some bytes) (joined y (pairs_bytes rest))) (second_none r.left.0 c h r.left.2 v (λ e. x (ap Some e)))))

pub half_left : (text bytes : List ℕ) (h : ℕ) → IsRead text bytes (Some h) → pairs_bytes text ≡ None
half_left text bytes h r = ap pairs_bytes r.left.1 ∙ pairs_bytes-append r.pairs (r.left.0 ∷ []) bytes r.are

pub whole_read : (text bytes : List ℕ) → IsRead text bytes None → pairs_bytes text ≡ Some bytes
whole_read text bytes r = ap pairs_bytes r.left ∙ r.are

-- a text with a byte more has one
pub some_bytes : (bytes : List ℕ) (b : ℕ) → bytes ++ b ∷ [] ≡ [] → ⊥
some_bytes [] b e = cc
some_bytes (a ∷ bytes) b e = cc

pub kept_more : (text : List ℕ) (i : ℕ) → i < length text → without_blanks (take (i + 1) text) ≡ without_blanks (take i text) ++ unless_blank (get_or text i 0)
kept_more text i h = ap without_blanks (take_more text i 0 h) ∙ sym (flat_map_more unless_blank [] (take i text) (get_or text i 0))

pub kept_split : (text : List ℕ) (i : ℕ) → i < length text → without_blanks text ≡ without_blanks (take i text) ++ (unless_blank (get_or text i 0) ++ without_blanks (drop (suc i) text))
kept_split text i h =
    ap without_blanks (sym (take-append-drop i text))
    ∙ (flat_map-append unless_blank (take i text) (drop i text)
    ∙ ap (λ (l : List ℕ). without_blanks (take i text) ++ l) (ap without_blanks (drop-cons text i 0 h) ∙ flat_map-cons unless_blank (get_or text i 0) (drop (suc i) text)))
