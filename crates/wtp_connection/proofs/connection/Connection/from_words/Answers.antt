use Rattle.std.proofs.Common.{◌∙◌, ap, refl}
use Rattle.std.proofs.lemmas.Bool.{false≢true}
use Rattle.wtp_connection.specs.Words.{connection_words}
use Rattle.wtp_connection.proofs.WordLemmas.{no_connection, itself, all_itself}
use Rattle.wtp_connection.proofs.connection.Connection.from_words.Goals as goal

pub returns-else-eq : goal.returns-else-eq
returns-else-eq c =
    no_connection c.args.words (λ e. false≢true (c.if-eq.ensures {u = tt}
    ∙ rw (c.to_words.ensures ∙ ap connection_words c.from_words_unchecked-connection.ensures ∙ e) simp (itself, all_itself) refl))
