-- Building listings line by line.
use Rattle.std.specs.List.{flat_map}
use Rattle.std.proofs.Common.{◌≡◌, Bool, List, ℕ, ◌++◌, Option, Some, Ok, sym, ap, ◌∙◌, append_assoc}
use Rattle.wtransport_proto.specs.Content.{Content}
use Rattle.wtransport_proto.specs.Reading.{AnswersRun}
use Rattle.wtransport_proto.specs.Rule.{Role}
use Rattle.wtransport_proto.specs.Run.{Run, MayGoOn, follows, run}
use Rattle.wt_listings.specs.Lines.{line, last_line, text_of}

-- the text so far is the text of the whole run, without the part that is left
pub record IsBegun (text : List ℕ) (left whole : Run) : Type 0 where
  pub lines : text ++ text_of left ≡ text_of whole
  pub ending : left.ending ≡ whole.ending

followed : (text : List ℕ) (f : Content) (next : Run) → (text ++ line f) ++ text_of next ≡ text ++ text_of (follows f next)
followed text f next = append_assoc text (line f) (text_of next) ∙ ap (λ (x : List ℕ). text ++ x) (sym (append_assoc (line f) (flat_map line next.frames) (last_line next.ending)))

-- the line of the frame that was read is appended
pub begun_line : (role : Role) (first next : Bool) (old new text items : List ℕ) (o : Option Content) (f : Content) (whole : Run) → IsBegun text (run role first old MayGoOn) whole → AnswersRun role first old (Ok o) next new → o ≡ Some f → items ≡ text ++ line f → IsBegun items (run role next new MayGoOn) whole
begun_line role first next old new text items o f whole begun answer some grown =
    let is : run role first old MayGoOn ≡ follows f (run role next new MayGoOn) = rw some at answer in
    record {
      lines = rw grown (followed text f (run role next new MayGoOn) ∙ ap (λ (r : Run). text ++ text_of r) (sym is) ∙ begun.lines);
      ending = ap (λ (r : Run). r.ending) (sym is) ∙ begun.ending;
    }
