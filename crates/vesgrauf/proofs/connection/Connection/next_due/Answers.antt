use Rattle.vesgrauf.specs.Items.{content}
use Rattle.vesgrauf.specs.Theirs.{Tells, TellsAll, items_on, told_by}
use Rattle.vesgrauf.proofs.TellsLemmas.{all_of}
use Rattle.vesgrauf.proofs.StepLemmas.{ok_map}
use Rattle.vesgrauf.proofs.PieceLemmas.{no_piece_all}
use Rattle.vesgrauf.specs.Told.{told_by_call}
use Rattle.vesgrauf.proofs.BoundLemmas.{bound_still, on_ok}
use Rattle.vesgrauf.proofs.KeepsOwnLemmas.{holds_still}
use Rattle.vesgrauf.proofs.connection.Connection.next_due.Goals as goal

pub returns-in-Some-clause-told : goal.returns-in-Some-clause-told
returns-in-Some-clause-told c = λ h.
    let t : Tells (items_on c.in-Some.piece.stream (content c.in-Some.piece.bytes.now)) c.args.self.now.streams.entries
    c.args.input.now c.piece_due.new.self.streams.entries c.piece_due.new.input
    = rw c.in-Some.is at c.piece_due.ensures.tells in
    all_of c.args.self.now.ids _ c.args.self.now.streams.entries c.piece_due.new.self.streams.entries c.args.input.now
    c.piece_due.new.input (record { each = λ k. t.each k })

pub returns-clause-told : goal.returns-clause-told
returns-clause-told c = λ h. ok_map c.next_else.result
    (λ e. TellsAll c.piece_due.new.self.ids (told_by e) c.piece_due.new.self.streams.entries
    c.piece_due.new.input c.next_else.new.self.streams.entries c.next_else.new.input)
    (λ e. TellsAll c.args.self.now.ids (told_by e) c.args.self.now.streams.entries c.args.input.now
    c.next_else.new.self.streams.entries c.next_else.new.input)
    (λ e p. no_piece_all (told_by e) c.args.self.now c.piece_due.new.self (c.piece_due.ensures.still c.in-None.is)
    (c.piece_due.ensures.none c.in-None.is) p)
    (c.next_else.ensures.told h)

pub returns-clause-keeps : goal.returns-clause-keeps
returns-clause-keeps c = holds_still (told_by_call c.next_else.result) c.args.self.now c.piece_due.new.self
    c.next_else.new.self (c.piece_due.ensures.still c.in-None.is) c.next_else.ensures.keeps

pub returns-clause-bounded : goal.returns-clause-bounded
returns-clause-bounded c = λ h. on_ok c.next_else.result
    (λ p. bound_still c.args.self.now c.piece_due.new.self c.next_else.new.self (c.piece_due.ensures.still c.in-None.is) p)
    (c.next_else.ensures.bounded h)
