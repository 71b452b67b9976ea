-- Fields of a list that are stored in arrays of the caller.
use Rattle.std.proofs.Common.{◌≡◌, ℕ, ◌+◌, ◌^◌, ◌<◌, ◌≤◌, List, [], ◌∷◌, ◌++◌, length, take, drop, refl, sym, ap, ◌∙◌, arith}
use Rattle.std.proofs.lemmas.Bool.{lt-ltb}
use Rattle.std.proofs.lemmas.List.{append-nil}
use Rattle.std.proofs.Common.{append_assoc}
use Rattle.wtp_fields.specs.Field.{Field}
use Rattle.wt_c.specs.Fields.{texts_size, HoldLines, LinePut, capped}
use Rattle.wt_c.specs.declared.fields.WtField.{WtField}
use Rattle.wt_c.proofs.FieldLemmas.{AreStored, sized_more, stored_more}

-- the texts of the fields before those in `left` have this length
pub record IsSized (list left : List Field) (size : ℕ) : Type 0 where
  pub done : List Field
  pub all : list ≡ done ++ left
  pub size_is : size ≡ capped (texts_size done)

pub sized_first : (list left : List Field) → left ≡ list → IsSized list left 0
sized_first list left e = record { done = []; all = sym e; size_is = refl }

pub sized_next : (list left more : List Field) (size end to : ℕ) (name value : List ℕ) → IsSized list left size → left ≡ (name, value) ∷ more
    → end ≡ capped (size + length name) → to ≡ capped (end + length value) → IsSized list more to
sized_next list left more size end to name value p e f g = record {
  done = p.done ++ (name, value) ∷ [];
  all = p.all ∙ ap (λ (x : List Field). p.done ++ x) e ∙ sym (append_assoc p.done ((name, value) ∷ []) more);
  size_is = sized_more p.done size end to name value p.size_is f g;
}

pub sized_all : (list left : List Field) (size : ℕ) → IsSized list left size → left ≡ [] → size ≡ capped (texts_size list)
sized_all list left size p e = p.size_is ∙ ap (λ (x : List Field). capped (texts_size x)) (sym (p.all ∙ ap (λ (x : List Field). p.done ++ x) e ∙ append-nil p.done))

-- the fields before those in `left` are stored, as far as they fit
pub record IsStoring (list left : List Field) (first : List WtField) (first_texts : List ℕ) (fields : List WtField) (texts : List ℕ) (count used : ℕ) : Type 0 where
  pub done : List Field
  pub all : list ≡ done ++ left
  pub are : AreStored first first_texts fields texts count used done

pub stores_first : (list left : List Field) (fields : List WtField) (texts : List ℕ) → left ≡ list → IsStoring list left fields texts fields texts 0 0
stores_first list left fields texts e = record {
  done = [];
  all = sym e;
  are = record {
    count_is = refl;
    used_is = refl;
    held = λ _ _. record { count_is = refl; used_is = refl; room = omega arith; texts_room = omega arith; within = tt; says = refl; texts_are = refl; fields_after = refl; texts_after = refl };
  };
}

pub stores_next : (list left more : List Field) (first : List WtField) (first_texts : List ℕ) (fields new : List WtField) (old texts : List ℕ) (count used next end to : ℕ) (name value : List ℕ)
    → IsStoring list left first first_texts fields old count used → left ≡ (name, value) ∷ more
    → next ≡ capped (count + 1) → end ≡ capped (used + length name) → to ≡ capped (end + length value)
    → length new ≡ length fields → length fields < 2 ^ 63 → length texts ≡ length old → length old < 2 ^ 63
    → (count < length fields → (used + length name) + length value ≤ length old → LinePut fields old count used name value new texts)
    → IsStoring list more first first_texts new texts next to
stores_next list left more first first_texts fields new old texts count used next end to name value p e next_is end_is to_is same few same_texts small put = record {
  done = p.done ++ (name, value) ∷ [];
  all = p.all ∙ ap (λ (x : List Field). p.done ++ x) e ∙ sym (append_assoc p.done ((name, value) ∷ []) more);
  are = stored_more first first_texts fields new old texts count used next end to name value p.done p.are next_is end_is to_is same few same_texts small put;
}

pub stores_all : (list left : List Field) (first : List WtField) (first_texts : List ℕ) (fields : List WtField) (texts : List ℕ) (count used : ℕ)
    → IsStoring list left first first_texts fields texts count used → left ≡ [] → length list ≤ length fields → length fields < 2 ^ 63 → capped (texts_size list) ≤ length texts
    → HoldLines first first_texts fields texts (length list) (capped (texts_size list)) list
stores_all list left first first_texts fields texts count used p e fit few fit_texts =
    let whole : p.done ≡ list = sym (p.all ∙ ap (λ (x : List Field). p.done ++ x) e ∙ append-nil p.done) in
    let used_is : used ≡ capped (texts_size list) = p.are.used_is ∙ ap (λ (x : List Field). capped (texts_size x)) whole in
    let count_is : count ≡ length list = p.are.count_is ∙ ap (λ (x : List Field). capped (length x)) whole ∙ small (length list) (length fields) fit few in
    rw (← used_is, ← count_is) (hold (rw count_is fit) (rw used_is fit_texts) whole)
  where
    small : (n m : ℕ) → n ≤ m → m < 2 ^ 63 → capped n ≡ n
    small n m l s = rw (lt-ltb n (2 ^ 64) (omega (arith, l, s))) refl

    hold : count ≤ length fields → used ≤ length texts → p.done ≡ list → HoldLines first first_texts fields texts count used list
    hold a b w = rw w at (p.are.held a b)
