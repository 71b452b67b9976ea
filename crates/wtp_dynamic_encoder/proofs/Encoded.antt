-- An encoder after a section that was sent, or was not.
use Rattle.std.proofs.Common.{◌≡◌, ℕ, ◌≤◌, List, ◌++◌, refl, sym, subst, arith, Result, Ok, Err, MatchResult}
use Rattle.wtp_dynamic_encoder.specs.declared.proposal.Policy.{Policy}
use Rattle.wtp_dynamic_encoder.specs.declared.proposal.Proposal.{Proposal}
use Rattle.wtp_dynamic_encoder.specs.Choosing.{draining_index}
use Rattle.wtp_dynamic.specs.Table.{Table, insert_count}
use Rattle.wtp_dynamic_encoder.specs.Acknowledging.{Ledger}
use Rattle.wtp_dynamic_encoder.specs.Encoding.{prefix_for, sent_at, opened, bound_for, AreOffered, StoppedAt, AreLines, IsSent}
use Rattle.wtp_dynamic_encoder.proofs.Kept.{Both, opened_keeps}
use Rattle.wtp_dynamic_encoder.proofs.Orders.{offered_all}
use Rattle.wtp_dynamic_encoder.proofs.Sections.{bound_allows, lines_sent}

-- what a call did that sends a section
abbrev pub Sends : {E : Type 0} → (stream required lowest : ℕ) → Table → (bytes : List ℕ) → (old new : Ledger) → (before after : List ℕ) → Result (Unit {0}) E → Type 0
Sends stream required lowest t bytes old new before after r =
    MatchResult r (λ _. (new ≡ opened (sent_at stream required lowest) old) × (after ≡ before ++ (prefix_for t required ++ bytes))) (λ _. (new ≡ old) × (after ≡ before))

pub sent_keeps : {E : Type 0} (r : Result (Unit {0}) E) (stream most : ℕ) (policy : Policy) (low bound : ℕ) (t : Table) (ps : List Proposal) (bytes : List ℕ) (required lowest : ℕ) (old new : Ledger) (before after : List ℕ)
    → Sends stream required lowest t bytes old new before after r → AreLines t low bound ps bytes required lowest → bound ≤ insert_count t → bound ≡ bound_for stream most policy old t → Both t most old → Both t most new
sent_keeps (Ok u) stream most policy low bound t ps bytes required lowest old new before after (is, more) lines known value kept =
    opened_keeps t most old new (sent_at stream required lowest) is kept lines.live lines.some (omega (arith, lines.few)) (bound_allows stream most bound required policy old t value lines.few)
sent_keeps (Err e) stream most policy low bound t ps bytes required lowest old new before after (same, none) lines known value kept =
    subst (λ (z : Ledger). Both t most z) (sym same) kept

pub sent_is : {E : Type 0} (r : Result (Unit {0}) E) (stream most : ℕ) (policy : Policy) (low bound : ℕ) (first t : Table) (ps : List Proposal) (bytes : List ℕ) (required lowest : ℕ) (old new : Ledger) (orders_before orders_after before after : List ℕ)
    → Sends stream required lowest t bytes old new before after r → AreLines t low bound ps bytes required lowest → low ≡ draining_index policy t → bound ≤ insert_count t → bound ≡ bound_for stream most policy old t → AreOffered policy ps old first t orders_before orders_after
    → MatchResult r (λ _. AreOffered policy ps old first t orders_before orders_after × IsSent stream most policy ps t old new before after) (λ _. (new ≡ old) × (after ≡ before) × StoppedAt policy ps old first t orders_before orders_after)
sent_is (Ok u) stream most policy low bound first t ps bytes required lowest old new orders_before orders_after before after (is, more) lines draining known value offered =
    (offered, lines_sent stream most policy t bound ps bytes required lowest old new before after (subst (λ (z : ℕ). AreLines t z bound ps bytes required lowest) draining lines) known value is more)
sent_is (Err e) stream most policy low bound first t ps bytes required lowest old new orders_before orders_after before after (same, none) lines draining known value offered =
    (same, none, offered_all policy ps old first t orders_before orders_after offered)

-- what holds if the lines could not be written
abbrev pub Unsent : Policy → List Proposal → Ledger → (first t : Table) → (orders_before orders_after before : List ℕ) → Type 0
Unsent policy ps old first t orders_before orders_after before = (old ≡ old) × (before ≡ before) × StoppedAt policy ps old first t orders_before orders_after

pub unsent : (policy : Policy) (ps : List Proposal) (old : Ledger) (first t : Table) (orders_before orders_after before : List ℕ) → AreOffered policy ps old first t orders_before orders_after → Unsent policy ps old first t orders_before orders_after before
unsent policy ps old first t orders_before orders_after before offered =
    (refl, refl, offered_all policy ps old first t orders_before orders_after offered)
