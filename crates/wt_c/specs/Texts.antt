-- Fields of C whose names and values are UTF-8.
use Rattle.std.specs.Prelude.{ℕ, List, [], ◌∷◌, map, length, IsUtf8}
use Rattle.wtp_fields.specs.Field.{Field}
use Rattle.wt_c.specs.Fields.{field_in, IsWithin}
use Rattle.wt_c.specs.declared.fields.WtField.{WtField}

-- the name and value are within the texts and are UTF-8
pub record IsTextField (texts : List ℕ) (w : WtField) : Type 0 where
  pub within : IsWithin (length texts) w
  pub name : IsUtf8 (field_in texts w).0
  pub value : IsUtf8 (field_in texts w).1

-- each of these fields is within the texts, with a name and a value in UTF-8
abbrev pub AreTextFields : List ℕ → List WtField → Type 0
AreTextFields texts [] = Unit {0}
AreTextFields texts (w ∷ ws) = IsTextField texts w × AreTextFields texts ws

-- the lines of these fields
abbrev pub lines_in : List ℕ → List WtField → List Field
lines_in texts fields = map (λ w. field_in texts w) fields
