use Rattle.std.proofs.Common.{◌∷◌, ◌++◌, List, ℕ, None, ap, sym, ◌∙◌, append_assoc}
use Rattle.wtp_frames.specs.declared.frame_type.FrameType.TheVariants as kind
use Rattle.wtp_frames.specs.Item.{Whole}
use Rattle.wtp_frames.specs.Run.{run}
use Rattle.wtp_frames.specs.Grammar.{written, ids_bytes, ids_items, last_goaway, last_push}
use Rattle.wtp_frames.specs.Start.{control_reader}
use Rattle.wtp_frames.proofs.GrammarLemmas.{Settles, settings_run}
use Rattle.wtp_frames.proofs.laws.valid_control_streams_are_read.Goals as goal

pub returns : goal.returns
returns c = λ e f ids more s.
    let x : Settles (control_reader e) (written f ++ ids_bytes ids) (Whole kind.Settings f.payload ∷ ids_items ids) e (last_goaway None ids) (last_push None ids) more = settings_run e f ids more s.frame s.size s.rest in
    (x.streamed, x.idle, ap (λ (l : List ℕ). run (control_reader e) l) (sym (append_assoc (written f) (ids_bytes ids) more)) ∙ x.is)
