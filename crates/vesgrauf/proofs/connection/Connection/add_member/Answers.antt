use Rattle.vesgrauf.proofs.PlaceLemmas.{ordered_new_closed}
use Rattle.vesgrauf.proofs.JoinedLemmas.{joined_dropped, joined_member, joined_noted}
use Rattle.std.proofs.Common.{rules, None, [], ap, sym}
use Rattle.vesgrauf.specs.Instructions.{table_of}
use Rattle.vesgrauf.specs.Keeps.{KeepsAll}
use Rattle.vesgrauf.proofs.KeepsLemmas.{keeps_refl}
use Rattle.vesgrauf.proofs.CutLemmas.{on_err_is}
use Rattle.vesgrauf.proofs.MemberLemmas.{drops_at, drops_trans, keeps_unnoted, notes_at, notes_itself}
use Rattle.vesgrauf.proofs.connection.Connection.add_member.Goals as goal

pub returns-in_err-note-clause-kept : goal.returns-in_err-note-clause-kept
returns-in_err-note-clause-kept c = on_err_is c.from_residual.result
    (KeepsAll None [] c.args.self.now.streams.entries c.args.self.now.ids (table_of c.args.self.now) c.args.self.now.events.items
    c.args.self.now.config c.args.self.now.ended c.args.self.now.streams.entries c.note.new.self (table_of c.args.self.now)
    c.args.self.now.events.items c.args.self.now.config c.args.self.now.ended)
    (rw c.in_err-note.ensures
    (keeps_refl None c.args.self.now.streams.entries c.args.self.now.ids _ c.args.self.now.events.items
    c.args.self.now.config c.args.self.now.ended))

pub returns-in-Err-clause-kept : goal.returns-in-Err-clause-kept
returns-in-Err-clause-kept c = rw (ap (λ m. m.entries) c.in-Err.ensures.err)
    (keeps_unnoted None c.args.self.now.streams.entries c.args.self.now.ids c.forget.new.self _
    c.args.self.now.events.items c.args.self.now.config c.args.self.now.ended c.args.id c.in-Err.ensures.absent
    (drops_trans c.args.id c.args.self.now.ids c.note.new.self c.forget.new.self
    (notes_at c.args.session c.args.id c.args.self.now.ids c.note.new.self c.in_ok-note.ensures)
    (drops_at c.args.session c.args.id c.note.new.self c.forget.new.self c.forget.ensures)))

pub invariant_of-self-in-Ok-clause-joined : goal.invariant_of-self-in-Ok-clause-joined
invariant_of-self-in-Ok-clause-joined c =
    joined_member c.args.self.now.streams c.insert.new.self c.note.new.self c.args.id c.args.session c.args.entry
    c.requires.absent c.requires.joins
    (notes_itself c.args.session c.args.id c.args.self.now.ids c.note.new.self c.in_ok-note.ensures) c.requires.counts
    (search (rules))
    (joined_noted c.args.self.now.streams.entries c.args.self.now.ids c.note.new.self c.args.session c.args.id
    c.in_ok-note.ensures c.args.self.now.joined)

pub invariant_of-self-in-Err-clause-joined : goal.invariant_of-self-in-Err-clause-joined
invariant_of-self-in-Err-clause-joined c = rw (ap (λ m. m.entries) c.in-Err.ensures.err)
    (joined_dropped c.args.self.now.streams.entries c.note.new.self c.forget.new.self c.args.session c.args.id
    c.requires.absent c.forget.ensures
    (joined_noted c.args.self.now.streams.entries c.args.self.now.ids c.note.new.self c.args.session c.args.id
    c.in_ok-note.ensures c.args.self.now.joined))

pub invariant_of-self-in-Ok-clause-ordered : goal.invariant_of-self-in-Ok-clause-ordered
invariant_of-self-in-Ok-clause-ordered c = ordered_new_closed c.args.self.now.streams c.insert.new.self
    c.args.self.now.ready.ranks c.args.self.now.unplaced c.args.id c.args.entry (sym c.requires.absent) c.requires.closed
    (search (rules)) c.args.self.now.ordered
