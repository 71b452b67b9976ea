-- Fields that are appended to the list of a message one after the other.
use Rattle.std.proofs.Common.{◌≡◌, ℕ, List, ◌++◌}
use Rattle.wtp_fields.specs.Field.{Field}
use Rattle.wt_c.specs.Sessions.{AreMessageFields}
use Rattle.wt_c.specs.Texts.{lines_in}
use Rattle.wt_c.specs.declared.fields.WtField.{WtField}

-- the list followed by the fields in `left` is `start` followed by the fields in `all`, and the
-- fields in `left` are valid
pub record IsAppending (texts : List ℕ) (list start : List Field) (left all : List WtField) : Type 0 where
  pub same : list ++ lines_in texts left ≡ start ++ lines_in texts all
  pub good : AreMessageFields texts left
