use Rattle.vesgrauf.specs.Items.{items_told}
use Rattle.vesgrauf.proofs.KeepsLemmas.{keeps_left}
use Rattle.vesgrauf.proofs.TellsLemmas.{gone_hands}
use Rattle.vesgrauf.proofs.connection.Connection.tell_read.Goals as goal

pub returns-in_ok-drop_untold-in_default : goal.returns-in_ok-drop_untold-in_default
returns-in_ok-drop_untold-in_default c = record {
  keeps = λ n. c.drop_untold.ensures.keeps;
  quiet = c.drop_untold.ensures.keeps;
  hands = λ n. gone_hands c.args.id (items_told c.args.kind) c.args.self.now.streams.entries
      c.drop_untold.new.self.streams.entries (keeps_left c.drop_untold.ensures.keeps) c.in_ok-drop_untold-in_default.ensures.gone;
}
