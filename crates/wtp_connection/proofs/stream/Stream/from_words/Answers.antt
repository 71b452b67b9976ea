use Rattle.std.proofs.Common.{◌∙◌, ap, refl}
use Rattle.std.proofs.lemmas.Bool.{false≢true}
use Rattle.wtp_connection.specs.Words.{stream_words}
use Rattle.wtp_connection.proofs.WordLemmas.{no_stream, itself}
use Rattle.wtp_connection.proofs.stream.Stream.from_words.Goals as goal

pub returns-else-eq : goal.returns-else-eq
returns-else-eq c =
    no_stream c.args.words (λ e. false≢true (c.if-eq.ensures {u = tt}
    ∙ rw (c.to_words.ensures ∙ ap stream_words c.from_words_unchecked-stream.ensures ∙ e) simp itself refl))
