-- A map and its payload determine each other.
use Rattle.std.proofs.Common.{◌≡◌, ℕ, Bool, true, false, not, cond, List, [], ◌∷◌, ◌++◌, filter, refl, sym, ◌∙◌, ap, Ok}
use Rattle.std.proofs.lemmas.Grind.{fold-append, flat_map-append}
use Rattle.std.specs.List.{fold}
use Rattle.wtp_qpack.specs.Field.{Field, AreTexts, IsMap, put, field_map}
use Rattle.wtp_qpack.specs.FieldLine.{encoded_line}
use Rattle.wtp_qpack.specs.FieldSection.{map_at, section_of}
use Rattle.wtp_fields.specs.Headers.{is_pseudo, sent_order, payload, group_lines}
use Rattle.wtp_qpack.proofs.FieldMaps.{Below, Ascends, ascends_from, put_first, fold_after, built}
use Rattle.wtp_qpack.proofs.RoundTrip.{section_again}

-- an empty prefix and the two groups are the payload
pub payload_written : (m : List Field) (one two three : List ℕ) → one ≡ 0 ∷ 0 ∷ [] → two ≡ one ++ group_lines true m → three ≡ two ++ group_lines false m → three ≡ payload m
unfolding payload sent_order section_of
payload_written m one two three a b c =
    c ∙ ap (λ z. z ++ group_lines false m) (b ∙ ap (λ z. z ++ group_lines true m) a)
    ∙ ap (λ z. 0 ∷ 0 ∷ z) (sym (flat_map-append encoded_line (filter is_pseudo m) (filter (λ field. not (is_pseudo field)) m)))

-- ---- the order of sending, and back

below_filter : (name : List ℕ) (p : Field → Bool) (es : List Field) → Below name es → Below name (filter p es)
below_filter name p [] h = tt
below_filter name p (e ∷ es) h = elim (p e) as (λ b. Below name (cond b (e ∷ filter p es) (filter p es))) [
  | true ↦ (h.0, below_filter name p es h.1)
  | false ↦ below_filter name p es h.1
]

ascends_filter : (p : Field → Bool) (m : List Field) → Ascends m → Ascends (filter p m)
ascends_filter p [] h = tt
ascends_filter p (x ∷ m) (low, ascends) = elim (p x) as (λ b. Ascends (cond b (x ∷ filter p m) (filter p m))) [
  | true ↦ (below_filter x.0 p m low, ascends_filter p m ascends)
  | false ↦ ascends_filter p m ascends
]

-- merging two parts of a map gives the map
merged : (p : Field → Bool) (m : List Field) → Ascends m → fold put (filter p m) (filter (λ x. not (p x)) m) ≡ m
merged p [] h = refl
merged p (x ∷ m) (low, ascends) =
    let front : List Field = filter p m in
    let back : List Field = filter (λ x. not (p x)) m in
    let behind : Below x.0 back = below_filter x.0 (λ x. not (p x)) m low in
    elim (p x) as (λ b. fold put (cond b (x ∷ front) front) (cond (not b) (x ∷ back) back) ≡ x ∷ m) [
      | true ↦ fold_after x front back behind ∙ ap (λ z. x ∷ z) (merged p m ascends)
      | false ↦ ap (λ z. fold put z back) (put_first x front (below_filter x.0 p m low)) ∙ fold_after x front back behind ∙ ap (λ z. x ∷ z) (merged p m ascends)
    ]

pub order_back : (m : List Field) → IsMap m → field_map (sent_order m) ≡ m
unfolding field_map sent_order
order_back m h =
    let ascends = ascends_from m h in
    fold-append put [] (filter is_pseudo m) (filter (λ field. not (is_pseudo field)) m)
    ∙ ap (λ z. fold put z (filter (λ field. not (is_pseudo field)) m)) (built (filter is_pseudo m) (ascends_filter is_pseudo m ascends))
    ∙ merged is_pseudo m ascends

texts_filter : (p : Field → Bool) (m : List Field) → AreTexts m → AreTexts (filter p m)
texts_filter p [] h = tt
texts_filter p (x ∷ m) (name, value, others) = elim (p x) as (λ b. AreTexts (cond b (x ∷ filter p m) (filter p m))) [
  | true ↦ (name, value, texts_filter p m others)
  | false ↦ texts_filter p m others
]

texts_append : (a b : List Field) → AreTexts a → AreTexts b → AreTexts (a ++ b)
texts_append [] b h k = k
texts_append (x ∷ a) b (name, value, others) k = (name, value, texts_append a b others k)

pub payload_again : (m : List Field) → IsMap m → AreTexts m → map_at (payload m) ≡ Ok m
unfolding map_at payload sent_order
payload_again m ordered texts =
    let front : List Field = filter is_pseudo m in
    let back : List Field = filter (λ field. not (is_pseudo field)) m in
    let are : AreTexts (front ++ back) = texts_append front back (texts_filter is_pseudo m texts) (texts_filter (λ field. not (is_pseudo field)) m texts) in
    rw (section_again (front ++ back) are) (ap Ok (order_back m ordered))

pub payload_injective : (m n : List Field) → IsMap m → AreTexts m → IsMap n → AreTexts n → payload m ≡ payload n → m ≡ n
payload_injective m n m_ordered m_texts n_ordered n_texts same =
    let both : ◌≡◌ {A = _} (Ok m) (Ok n) = sym (payload_again m m_ordered m_texts) ∙ ap map_at same ∙ payload_again n n_ordered n_texts in
    cc both
