use Rattle.wt_c.proofs.BlankLemmas.{blank_option}
use Rattle.wt_c.proofs.connections.streams.WtStream.blank.Goals as goal

pub returns : goal.returns
returns c = blank_option c.args.self.now c.blank_words.result c.in-Ok.stream c.blank_words.ensures c.in-Ok.ensures
