use Rattle.vesgrauf.specs.Items.{content}
use Rattle.vesgrauf.proofs.LookLemmas.{reads_set}
use Rattle.vesgrauf.specs.Theirs.{ReadsOn, theirs_of}
use Rattle.vesgrauf.proofs.JoinedLemmas.{joined_stays}
use Rattle.vesgrauf.proofs.SeveredLemmas.{stays_same}
use Rattle.vesgrauf.specs.Own.{entry_at}
use Rattle.vesgrauf.specs.Joined.{Joined}
use Rattle.vesgrauf.specs.declared.entry.Entry.{Entry}
use Rattle.std.specs.BTreeMap.{is_at}
use Rattle.std.specs.Map.{set_value}
use Rattle.std.specs.Ordering.{nat_cmp}
use Rattle.std.proofs.Common.{rules, ◌≡◌, sym, subst, Some, ℕ, List, ◌++◌, refl}
use Rattle.vesgrauf.specs.Instructions.{table_by}
use Rattle.vesgrauf.specs.State.{is_over}
use Rattle.vesgrauf.specs.Works.{WorksUnless, book_at, book_of}
use Rattle.vesgrauf_queue.specs.State.{waiting}
use Rattle.vesgrauf.proofs.ActLemmas.{act_looked}
use Rattle.vesgrauf.proofs.connection.Connection.piece_in.Goals as goal

pub invariant_of-self-2-clause-joined : goal.invariant_of-self-2-clause-joined
invariant_of-self-2-clause-joined c =
    let e : Entry = c.in-Some.entry.now in
    let there : entry_at c.args.self.now.streams.entries c.args.id ≡ Some e = search (rules) in
    let written : (f : Entry) → (c.get_mut.follows.lender f).entries
    ≡ set_value (is_at (nat_cmp c.args.id)) c.args.self.now.streams.entries f = λ f. search (rules) in
    subst (λ (x : List (ℕ × Entry)). Joined x c.args.self.now.ids) (sym (written _))
    (joined_stays c.args.self.now.streams.entries c.args.self.now.ids c.args.id e _ there
    (stays_same e _ c.next_piece.ensures.session c.next_piece.ensures.holds.0 c.next_piece.ensures.own c.next_piece.ensures.told c.next_piece.ensures.read.0 c.next_piece.ensures.read.1 c.next_piece.ensures.holds.1) c.args.self.now.joined)

pub returns-clause-reads : goal.returns-clause-reads
returns-clause-reads c =
    let e : Entry = c.in-Some.entry.now in
    let there : entry_at c.args.self.now.streams.entries c.args.id ≡ Some e = search (rules) in
    let written : (f : Entry) → (c.get_mut.follows.lender f).entries
    ≡ set_value (is_at (nat_cmp c.args.id)) c.args.self.now.streams.entries f = λ f. search (rules) in
    subst (λ (x : List (ℕ × Entry)). ReadsOn c.args.id (content c.in_ok-bytes.bytes.now) c.args.self.now.streams.entries c.args.chunk.now x
    c.next_piece.new.chunk) (sym (written _))
    (reads_set c.args.self.now.streams.entries c.args.id e c.next_piece.new.self _ c.args.chunk.now c.next_piece.new.chunk there
    c.in_ok-bytes.ensures.reads)

pub returns-clause-works : goal.returns-clause-works
returns-clause-works c =
    let e : Entry = c.in-Some.entry.now in
    let f : Entry = c.next_piece.new.self in
    let there : entry_at c.args.self.now.streams.entries c.args.id ≡ Some e = search (rules) in
    let written : (c.get_mut.follows.lender f).entries
    ≡ set_value (is_at (nat_cmp c.args.id)) c.args.self.now.streams.entries f = search (rules) in
    subst (λ (x : List (ℕ × Entry)). WorksUnless (is_over c.args.self.now) (is_over c.args.self.now) (book_of c.args.self.now)
    (book_at x c.args.self.now.ids (table_by c.next_piece.new.shared (waiting c.args.self.now.decoder.queue ++ c.args.self.now.told.items)))) (sym written)
    (act_looked c.args.self.now.streams.entries c.args.self.now.ids c.args.self.now.shared c.next_piece.new.shared (waiting c.args.self.now.decoder.queue)
    c.args.self.now.told.items c.args.self.now.told.items (is_over c.args.self.now) c.args.id e f (theirs_of f) there
    (c.in_ok-bytes.ensures.table c.args.id c.args.self.now.told.items) refl c.next_piece.ensures.told c.next_piece.ensures.session
    c.next_piece.ensures.cancels)
