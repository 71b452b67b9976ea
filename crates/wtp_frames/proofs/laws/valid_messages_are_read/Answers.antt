use Rattle.std.proofs.Common.{[], List, ℕ, ap, sym, ◌∙◌, false}
use Rattle.std.proofs.lemmas.List.{append-nil}
use Rattle.wtp_frames.specs.Item.{Item}
use Rattle.wtp_frames.specs.Run.{Run, preceded, run}
use Rattle.wtp_frames.specs.Grammar.{message_bytes, message_items, stage, count}
use Rattle.wtp_frames.specs.Start.{awaiting, between, place_of}
use Rattle.wtp_frames.proofs.RunLemmas.{run_none}
use Rattle.wtp_frames.proofs.GrammarLemmas.{Reaches, message_run}
use Rattle.wtp_frames.proofs.laws.valid_messages_are_read.Goals as goal

pub returns-clause-start : goal.returns-clause-start
returns-clause-start c = λ e k m more v.
    let x : Reaches (awaiting e k) (message_bytes m) (message_items e.max_section m) e k (place_of (stage m)) (count 0 m) more = message_run e k m false 0 more v in
    (x.streamed, x.is)

pub returns-clause-whole : goal.returns-clause-whole
returns-clause-whole c = λ e k m v.
    let x : Reaches (awaiting e k) (message_bytes m) (message_items e.max_section m) e k (place_of (stage m)) (count 0 m) [] = message_run e k m false 0 [] v in (
      x.streamed,
      ap (λ (l : List ℕ). run (awaiting e k) l) (sym (append-nil (message_bytes m)))
          ∙ x.is
          ∙ ap (λ (y : Run). preceded (message_items e.max_section m) y) (run_none (between e k (place_of (stage m)) x.streamed (count 0 m)))
          ∙ ap (λ (i : List Item). record { items = i; reader = between e k (place_of (stage m)) x.streamed (count 0 m); left = [] }) (append-nil (message_items e.max_section m)),
    )
