use Rattle.std.proofs.Common.{◌++◌, ap, ◌∙◌}
use Rattle.wt_c.proofs.TableLemmas.{stored_is}
use Rattle.wt_c.proofs.connections.table.stored.Goals as goal

pub returns : goal.returns
returns c =
    stored_is c.args.decoder.now c.args.due c.new-bytes.result.items c.put_word.new.out.items c.put_word-2.new.out.items c.in_ok-rest.rest.items c.extend_from_slice.new.self.items c.words_of-flag.result.0 c.words_of-flag.result.1
    c.new-bytes.ensures.items c.in_ok-put_word.ensures c.in_ok-put_word-2.ensures (c.in_ok-extend_from_slice.ensures.items ∙ ap (λ z. c.put_word-2.new.out.items ++ z) c.as_slice.ensures.value)
    c.words_of-flag.ensures.words c.words_of-flag.ensures.count c.in_ok-rest.ensures.bytes c.in_ok-rest.ensures.size c.in_ok-rest.ensures.is
