use Rattle.std.proofs.Common.{refl}
use Rattle.wtp_webtransport.specs.Events.{told_of}
use Rattle.vesgrauf_stream.proofs.ReadingLemmas.{input_hears}
use Rattle.vesgrauf_stream.proofs.reading.Reading.next_of_input.Goals as goal

pub returns-clause-heard : goal.returns-clause-heard
returns-clause-heard c =
    input_hears _ _ _ _ c.args.self.now _ c.args.input.now _ (told_of c.receive-received.result.event) _ c.receive-received.result.consumed c.requires c.ends_with-fin.ensures c.receive-received.ensures.received c.heard_in.ensures refl refl c.consume.ensures.bytes c.consume.ensures.fin
