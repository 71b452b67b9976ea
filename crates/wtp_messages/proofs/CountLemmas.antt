-- Lengths of content that are no numbers or differ are refused.
use Rattle.std.proofs.Common.{◌≡◌, ◌==◌, ℕ, ◌^◌, nat_lt, Bool, true, false, not, ◌&&◌, cond, if◌then◌else◌, List, [], ◌∷◌, ◌++◌, map, filter, flat_map, Option, Some, None, refl, sym, ap, ◌∙◌, eqb-true, ne_eqb, le-ltb, codes}
use Rattle.std.proofs.lemmas.Bool.{and_from, and_left, and_right}
use Rattle.std.specs.List.{list_all}
use Rattle.std.specs.Str.Parse.{digits_value}
use mathlib.Core.Logic.{inl, inr}
use Rattle.wtp_qpack.specs.Field.{Field}
use Rattle.wtp_fields.specs.FieldList.{has_name}
use Rattle.wtp_messages.specs.declared.section.SectionKind.{SectionKind}
use Rattle.wtp_messages.specs.declared.section.SectionKind.TheVariants as section
use Rattle.wtp_messages.specs.declared.malformed.Malformed.TheVariants.{InvalidContentLength}
use Rattle.wtp_messages.specs.Names.{is_some_text}
use Rattle.wtp_messages.specs.Length.{is_digit, is_length, number_of, lengths_in, lengths_of, all_agree}
use Rattle.wtp_messages.specs.Section.{announces, IsSection}
use Rattle.wtp_messages.specs.Plain.{IsNumber}
use Rattle.wtp_messages.specs.Broken.{RefusesLine, is_solid, IsNoNumber}
use Rattle.wtp_messages.proofs.BrokenLemmas.{all_at, refuses_whole}
use Rattle.wtp_messages.proofs.FieldLemmas.{length_alone, one_length}

joined : (a b c : List (Option ℕ)) → a ++ (b ++ c) ≡ (a ++ b) ++ c
joined [] b c = refl
joined (x ∷ a) b c = ap (λ (l : List (Option ℕ)). x ∷ l) (joined a b c)

lengths_step : (v : Bool) (y : Field) (a b : List Field) (more : List (Option ℕ))
    → flat_map lengths_in (map (λ (f : Field). f.1) a) ≡ flat_map lengths_in (map (λ (f : Field). f.1) b) ++ more
    → flat_map lengths_in (map (λ (f : Field). f.1) (cond v (y ∷ a) a)) ≡ flat_map lengths_in (map (λ (f : Field). f.1) (cond v (y ∷ b) b)) ++ more
lengths_step true y a b more h = ap (λ (l : List (Option ℕ)). lengths_in y.1 ++ l) h ∙ joined (lengths_in y.1) (flat_map lengths_in (map (λ (f : Field). f.1) b)) more
lengths_step false y a b more h = h

lengths_split : (before rest : List Field) → lengths_of (before ++ rest) ≡ lengths_of before ++ lengths_of rest
lengths_split [] rest = refl
lengths_split (y ∷ before) rest =
    lengths_step (has_name (codes "content-length") y) y (filter (has_name (codes "content-length")) (before ++ rest)) (filter (has_name (codes "content-length")) before) (lengths_of rest) (lengths_split before rest)

-- the lengths of a list with a field of this value
lengths_with : (before : List Field) (value : List ℕ) (rest : List Field) (o : Option ℕ) → lengths_in value ≡ o ∷ [] → lengths_of (before ++ (codes "content-length", value) ∷ rest) ≡ lengths_of before ++ o ∷ lengths_of rest
lengths_with before value rest o e =
    lengths_split before ((codes "content-length", value) ∷ rest)
    ∙ ap (λ (l : List (Option ℕ)). lengths_of before ++ (l ++ lengths_of rest)) e

none_agrees : (a c : List (Option ℕ)) → all_agree (a ++ None ∷ c) ≡ false
none_agrees [] c = refl
none_agrees (None ∷ a) c = refl
none_agrees (Some k ∷ a) c = all_at (is_length k) a None c refl

skipped : (test : Option ℕ → Bool) (a rest : List (Option ℕ)) → list_all test rest ≡ false → list_all test (a ++ rest) ≡ false
skipped test [] rest h = h
skipped test (x ∷ a) rest h = and_right (test x) _ (skipped test a rest h)

one_differs : (v : Bool) (k n m : ℕ) (a b c : List (Option ℕ)) → (n == k) ≡ v → (n ≡ m → ⊥) → list_all (is_length k) (a ++ Some n ∷ (b ++ Some m ∷ c)) ≡ false
one_differs false k n m a b c e h = all_at (is_length k) a (Some n) (b ++ Some m ∷ c) e
one_differs true k n m a b c e h =
    let apart : (m == k) ≡ false = ne_eqb m k (λ same. h (eqb-true n k e ∙ sym same)) in
    skipped (is_length k) a (Some n ∷ (b ++ Some m ∷ c)) (and_right (n == k) _ (all_at (is_length k) b (Some m) c apart))

two_disagree : (a b c : List (Option ℕ)) (n m : ℕ) → (n ≡ m → ⊥) → all_agree (a ++ Some n ∷ (b ++ Some m ∷ c)) ≡ false
two_disagree [] b c n m h = all_at (is_length n) b (Some m) c (ne_eqb m n (λ same. h (sym same)))
two_disagree (None ∷ a) b c n m h = refl
two_disagree (Some k ∷ a) b c n m h = one_differs (n == k) k n m a b c refl h

announcing : (kind : SectionKind) → (kind ≡ section.Tunnel → ⊥) → (kind ≡ section.Trailers → ⊥) → announces kind ≡ true
announcing section.Request a b = refl
announcing section.Response a b = refl
announcing section.Tunnel a b = absurd (a refl)
announcing section.Trailers a b = absurd (b refl)

pub two_lengths : (kind : SectionKind) (v w : List ℕ) (n m : ℕ) (before between after : List Field) → (kind ≡ section.Tunnel → ⊥) → (kind ≡ section.Trailers → ⊥) → IsNumber v n → IsNumber w m → (n ≡ m → ⊥)
    → IsSection kind (before ++ (codes "content-length", v) ∷ (between ++ (codes "content-length", w) ∷ after)) → ⊥
two_lengths kind v w n m before between after a b x y h =
    let fields = before ++ (codes "content-length", v) ∷ (between ++ (codes "content-length", w) ∷ after) in
    let are : lengths_of fields ≡ lengths_of before ++ Some n ∷ (lengths_of between ++ Some m ∷ lengths_of after) =
    lengths_with before v (between ++ (codes "content-length", w) ∷ after) (Some n) (one_length v n x)
    ∙ ap (λ (l : List (Option ℕ)). lengths_of before ++ Some n ∷ l) (lengths_with between w after (Some m) (one_length w m y)) in
    refuses_whole kind fields InvalidContentLength (and_from _ _ (announcing kind a b) (ap not (ap all_agree are ∙ two_disagree (lengths_of before) (lengths_of between) (lengths_of after) n m h)))

not_number_by : (v : Bool) (n : ℕ) → v ≡ false → (if v then Some n else None) ≡ None
not_number_by v n h = rw h refl

no_number : (text : List ℕ) → IsNoNumber text → number_of text ≡ None
no_number text (inl e) = not_number_by (is_some_text text && list_all is_digit text && nat_lt (digits_value 10 text) (2 ^ 62)) (digits_value 10 text) (and_left _ _ (and_left _ _ e))
no_number text (inr (inl e)) = not_number_by (is_some_text text && list_all is_digit text && nat_lt (digits_value 10 text) (2 ^ 62)) (digits_value 10 text) (and_left _ _ (and_right (is_some_text text) _ e))
no_number text (inr (inr e)) = not_number_by (is_some_text text && list_all is_digit text && nat_lt (digits_value 10 text) (2 ^ 62)) (digits_value 10 text) (and_right (is_some_text text && list_all is_digit text) _ (le-ltb (digits_value 10 text) (2 ^ 62) e))

pub no_length : (kind : SectionKind) (value : List ℕ) → (kind ≡ section.Tunnel → ⊥) → (kind ≡ section.Trailers → ⊥) → list_all is_solid value ≡ true → IsNoNumber value → RefusesLine kind (codes "content-length") value
no_length kind value a b s h before after =
    let fields = before ++ (codes "content-length", value) ∷ after in
    let are : lengths_of fields ≡ lengths_of before ++ None ∷ lengths_of after = lengths_with before value after None (length_alone value s ∙ ap (λ (o : Option ℕ). o ∷ []) (no_number value h)) in
    refuses_whole kind fields InvalidContentLength (and_from _ _ (announcing kind a b) (ap not (ap all_agree are ∙ none_agrees (lengths_of before) (lengths_of after))))
