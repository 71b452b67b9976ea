use Rattle.std.proofs.Common.{rules, ◌≡◌, refl, sym, subst, Some, ℕ, List}
use Rattle.std.specs.Ordering.{nat_cmp}
use Rattle.std.specs.Map.{set_value}
use Rattle.std.specs.BTreeMap.{is_at}
use Rattle.vesgrauf.specs.declared.entry.Entry.{Entry}
use Rattle.vesgrauf.specs.Cuts.{AloneAt}
use Rattle.vesgrauf.specs.Joined.{Joined}
use Rattle.vesgrauf.specs.Own.{entry_at}
use Rattle.vesgrauf.proofs.CutLemmas.{alone_lost}
use Rattle.vesgrauf.proofs.JoinedLemmas.{joined_over}
use Rattle.vesgrauf.proofs.connection.Connection.note_over.Goals as goal

pub invariant_of-self-clause-joined : goal.invariant_of-self-clause-joined
invariant_of-self-clause-joined c =
    let e : Entry = c.in-Some.entry.now in
    let there : entry_at c.args.self.now.streams.entries c.args.session ≡ Some e = search (rules) in
    let written : (f : Entry) → (c.get_mut.follows.lender f).entries
    ≡ set_value (is_at (nat_cmp c.args.session)) c.args.self.now.streams.entries f = λ f. search (rules) in
    subst (λ (x : List (ℕ × Entry)). Joined x c.args.self.now.ids) (sym (written _))
    (joined_over c.args.self.now.streams.entries c.args.self.now.ids c.args.session e _ there c.requires
    refl refl refl refl refl refl c.args.self.now.joined)

pub returns-in-Some-clause-alone : goal.returns-in-Some-clause-alone
returns-in-Some-clause-alone c =
    let e : Entry = c.in-Some.entry.now in
    let there : entry_at c.args.self.now.streams.entries c.args.session ≡ Some e = search (rules) in
    let written : (f : Entry) → (c.get_mut.follows.lender f).entries
    ≡ set_value (is_at (nat_cmp c.args.session)) c.args.self.now.streams.entries f = λ f. search (rules) in
    subst (λ (x : List (ℕ × Entry)).
    AloneAt c.args.session c.args.self.now.streams.entries c.args.self.now.ids x c.args.self.now.ids) (sym (written _))
    (alone_lost c.args.session c.args.self.now.streams.entries c.args.self.now.ids e _ there refl refl refl)
