-- Fields that are checked one after the other, and ASCII texts.
use Rattle.std.proofs.Common.{ℕ, List, [], ◌∷◌, Bool, true, false, length, take, drop}
use Rattle.std.specs.Prelude.{MatchBool, IsUtf8}
use Rattle.std.specs.Str.{IsAscii}
use Rattle.std.proofs.lemmas.Str.{IsUtf8-from_ascii, IsAscii-take, IsAscii-drop}
use Rattle.wt_c.specs.Fields.{AreWithin}
use Rattle.wt_c.specs.Texts.{AreTextFields}
use Rattle.wt_c.specs.declared.fields.WtField.{WtField}

-- `all` passes the check exactly if `left` does
pub record AreLeft {A : Type 0} (good_all : List A → Type 0) (left all : List A) : Type 0 where
  pub good : good_all left → good_all all
  pub bad : good_all all → good_all left

part_is_utf8 : (texts : List ℕ) (offset len : ℕ) → IsAscii texts → IsUtf8 (take len (drop offset texts))
part_is_utf8 texts offset len a = IsUtf8-from_ascii _ (IsAscii-take (drop offset texts) len (IsAscii-drop texts offset a))

texts_of_within : (texts : List ℕ) (fields : List WtField) → IsAscii texts → AreWithin (length texts) fields → AreTextFields texts fields
texts_of_within texts [] a h = tt
texts_of_within texts (w ∷ ws) a h = (
  record { within = h.0; name = part_is_utf8 texts w.name_offset w.name_len a; value = part_is_utf8 texts w.value_offset w.value_len a },
  texts_of_within texts ws a h.1,
)

pub within_of_texts : (texts : List ℕ) (fields : List WtField) → AreTextFields texts fields → AreWithin (length texts) fields
within_of_texts texts [] h = tt
within_of_texts texts (w ∷ ws) h = (h.0.within, within_of_texts texts ws h.1)

-- for ASCII texts, only the offsets of the fields matter
pub texts_by_places : (test : Bool) (texts : List ℕ) (fields : List WtField) → IsAscii texts
    → MatchBool test (AreWithin (length texts) fields) (¬ (AreWithin (length texts) fields))
    → MatchBool test (AreTextFields texts fields) (¬ (AreTextFields texts fields))
texts_by_places true texts fields a h = texts_of_within texts fields a h
texts_by_places false texts fields a h = λ all. h (within_of_texts texts fields all)
