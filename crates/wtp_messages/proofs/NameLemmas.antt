-- Fields by their names.
use Rattle.std.proofs.Common.{◌≡◌, ℕ, Bool, List, [], ◌∷◌, Option, Some, None, Bor, refl, ap, ◌∙◌, is_some, if◌then◌else◌, ◌||◌, true, false}
use Rattle.std.specs.Option.{option_copied}
use Rattle.std.specs.Str.{bytes_eq}
use Rattle.wtp_qpack.specs.Field.{Field, field_value}
use Rattle.wtp_messages.specs.Names.{has_field}

pub found_step : (b found : Bool) (value : List ℕ) (rest : Option (List ℕ)) → is_some rest ≡ found → is_some (if b then Some value else rest) ≡ (b || found)
found_step true found value rest e = refl
found_step false found value rest e = e

pub found_name : (name : List ℕ) (fields : List Field) → is_some (field_value name fields) ≡ has_field name fields
found_name name [] = refl
found_name name (field ∷ fields) = found_step (bytes_eq field.0 name) (has_field name fields) field.1 (field_value name fields) (found_name name fields)

-- the same of a value that is borrowed
pub found_copied : (value : Option (Bor (List ℕ))) (name : List ℕ) (fields : List Field) → option_copied value ≡ field_value name fields → is_some value ≡ has_field name fields
found_copied None name fields e = ap is_some e ∙ found_name name fields
found_copied (Some text) name fields e = ap is_some e ∙ found_name name fields
