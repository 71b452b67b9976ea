-- The lines of a section, one after the other.
use Rattle.std.proofs.Common.{◌≡◌, ◌⊎◌, ℕ, zero, suc, ◌+◌, ◌^◌, ◌<◌, ◌≤◌, nat_le, inl, inr, Bool, true, false, cond, max, min, map, IfSome, List, [], ◌∷◌, ◌++◌, length, refl, sym, ◌∙◌, ap, subst, arith, Option, Some, None}
use Rattle.std.specs.List.{flat_map}
use Rattle.std.proofs.lemmas.Bool.{cases_lt, lt-ltb, le-ltb, le-leb, ne_eqb}
use Rattle.std.proofs.lemmas.List.{flat_map_more, map-append}
use Rattle.wtp_qpack.specs.Field.{Field}
use Rattle.wtp_dynamic.specs.Table.{Table, insert_count, entry_of, table_size}
use Rattle.wtp_dynamic.specs.InsertCount.{most_entries}
use Rattle.wtp_dynamic.specs.Section.{reached}
use Rattle.wtp_dynamic.specs.Plans.{Plan, StaticField, TableField, StaticName, TableName, NewName, with_value, planned_field, planned_line, CanPlan, ArePlans}
use Rattle.wtp_dynamic.specs.EncoderState.{may_block, IsFrom, AreFrom}
use Rattle.wtp_dynamic_encoder.specs.Encoding.{place_of, needs_by, needs, needed, lowest_of, base_for, prefix_for, sent_at, opened, raised, lowered, bound_for, AreLines, IsSent}
use Rattle.wtp_dynamic_encoder.specs.Choosing.{field_of, draining_index, Chooses, AreChosen}
use Rattle.wtp_dynamic_encoder.specs.declared.proposal.Policy.{Policy}
use Rattle.wtp_dynamic_encoder.specs.declared.proposal.Proposal.{Proposal}
use Rattle.wtp_dynamic_encoder.specs.Acknowledging.{Ledger}

-- ---- the entry of a line

reached_live : (t : Table) (bound place : ℕ) (f : Field) → reached t bound (Some place) ≡ Some f → (t.dropped ≤ place) × (place < bound) × (entry_of t place ≡ Some f)
reached_live t bound place f e = elim (cases_lt place bound) [
  | inl low ↦
      let found : entry_of t place ≡ Some f = rw (lt-ltb place bound low) at e in
      elim (cases_lt place t.dropped) [
        | inl gone ↦ cc (rw (lt-ltb place t.dropped gone) at found)
        | inr live ↦ (live, low, found)
      ]
  | inr high ↦ cc (rw (le-ltb place bound high) at e)
]

reached_by : (t : Table) (bound place : ℕ) → place < bound → reached t bound (Some place) ≡ entry_of t place
reached_by t bound place low = rw (lt-ltb place bound low) refl

named : (value : List ℕ) (o : Option Field) (f : Field) → with_value value o ≡ Some f → (g : Field) × (o ≡ Some g)
named value None f e = cc e
named value (Some g) f e = (g, refl)

pub place_live : (t : Table) (bound : ℕ) (plan : Plan) (f : Field) (place : ℕ) → planned_field t bound plan ≡ Some f → place_of plan ≡ Some place → (t.dropped ≤ place) × (place < bound)
place_live t bound (StaticField index) f place e is = cc is
place_live t bound (TableField q) f place e is =
    let same : q ≡ place = cc is in
    let live = reached_live t bound q f e in
    (omega (arith, live.0), omega (arith, live.1))
place_live t bound (StaticName never index value) f place e is = cc is
place_live t bound (TableName never q value) f place e is =
    let same : q ≡ place = cc is in
    let entry = named value (reached t bound (Some q)) f e in
    let live = reached_live t bound q entry.0 entry.1 in
    (omega (arith, live.0), omega (arith, live.1))
place_live t bound (NewName never name value) f place e is = cc is

-- a bound that covers the line's entry is as good as another
field_within : (t : Table) (bound r : ℕ) (plan : Plan) (f : Field) → planned_field t bound plan ≡ Some f → needs plan ≤ r → planned_field t r plan ≡ Some f
field_within t bound r (StaticField index) f e few = e
field_within t bound r (TableField q) f e few = reached_by t r q (omega arith) ∙ (reached_live t bound q f e).2
field_within t bound r (StaticName never index value) f e few = e
field_within t bound r (TableName never q value) f e few =
    let entry = named value (reached t bound (Some q)) f e in
    let there : reached t r (Some q) ≡ reached t bound (Some q) = reached_by t r q (omega arith) ∙ (reached_live t bound q entry.0 entry.1).2 ∙ sym entry.1 in
    ap (with_value value) there ∙ e
field_within t bound r (NewName never name value) f e few = e

pub plans_within : (t : Table) (bound r : ℕ) (plans : List Plan) (fields : List Field) → needed plans ≤ r → ArePlans t bound plans fields → ArePlans t r plans fields
plans_within t bound r [] fields few are = are
plans_within t bound r (plan ∷ plans) [] few are = are
plans_within t bound r (plan ∷ plans) (field ∷ fields) few (can, is, are) =
    (can, field_within t bound r plan field is (omega arith), plans_within t bound r plans fields (omega arith) are)

-- ---- one more line

plans_push : (t : Table) (bound : ℕ) (plans : List Plan) (fields : List Field) (plan : Plan) (field : Field) → ArePlans t bound plans fields → CanPlan plan → planned_field t bound plan ≡ Some field → ArePlans t bound (plans ++ plan ∷ []) (fields ++ field ∷ [])
plans_push t bound [] fields plan field none can is = subst (λ (z : List Field). ArePlans t bound (plan ∷ []) (z ++ field ∷ [])) (sym none) (can, is, refl)
plans_push t bound (p ∷ plans) [] plan field are can is = absurd are
plans_push t bound (p ∷ plans) (f ∷ fields) plan field (one, this, are) can is = (one, this, plans_push t bound plans fields plan field are can is)

needed_push : (plans : List Plan) (plan : Plan) → needed (plans ++ plan ∷ []) ≡ max (needed plans) (needs plan)
needed_push [] plan = omega arith
needed_push (p ∷ plans) plan = omega (arith, needed_push plans plan)

lowered_swap : (a b : Option ℕ) (n : ℕ) → lowered a (lowered b n) ≡ lowered b (lowered a n)
lowered_swap None b n = refl
lowered_swap (Some x) None n = refl
lowered_swap (Some x) (Some y) n = omega arith

lowest_push : (count : ℕ) (plans : List Plan) (plan : Plan) → lowest_of count (plans ++ plan ∷ []) ≡ lowered (place_of plan) (lowest_of count plans)
lowest_push count [] plan = refl
lowest_push count (p ∷ plans) plan =
    ap (lowered (place_of p)) (lowest_push count plans plan) ∙ lowered_swap (place_of p) (place_of plan) (lowest_of count plans)

from_push : (lowest : ℕ) (plans : List Plan) (plan : Plan) → AreFrom lowest plans → IsFrom lowest plan → AreFrom lowest (plans ++ plan ∷ [])
from_push lowest [] plan from one = (one, tt)
from_push lowest (p ∷ plans) plan (first, from) one = (first, from_push lowest plans plan from one)

is_less : (lower lowest : ℕ) (plan : Plan) → lower ≤ lowest → IsFrom lowest plan → IsFrom lower plan
is_less lower lowest (StaticField index) less one = tt
is_less lower lowest (TableField place) less one = omega arith
is_less lower lowest (StaticName never index value) less one = tt
is_less lower lowest (TableName never place value) less one = omega arith
is_less lower lowest (NewName never name value) less one = tt

from_less : (lower lowest : ℕ) (plans : List Plan) → lower ≤ lowest → AreFrom lowest plans → AreFrom lower plans
from_less lower lowest [] less from = tt
from_less lower lowest (plan ∷ plans) less (one, from) = (is_less lower lowest plan less one, from_less lower lowest plans less from)

is_none : (lowest : ℕ) (plan : Plan) → place_of plan ≡ None → IsFrom lowest plan
is_none lowest (StaticField index) none = tt
is_none lowest (TableField place) none = cc none
is_none lowest (StaticName never index value) none = tt
is_none lowest (TableName never place value) none = cc none
is_none lowest (NewName never name value) none = tt

is_at : (lowest place : ℕ) (plan : Plan) → place_of plan ≡ Some place → lowest ≤ place → IsFrom lowest plan
is_at lowest place (StaticField index) at low = tt
is_at lowest place (TableField q) at low =
    let same : q ≡ place = cc at in
    omega (arith, same)
is_at lowest place (StaticName never index value) at low = tt
is_at lowest place (TableName never q value) at low =
    let same : q ≡ place = cc at in
    omega (arith, same)
is_at lowest place (NewName never name value) at low = tt

bytes_push : (base : ℕ) (plans : List Plan) (plan : Plan) (bytes after : List ℕ) → bytes ≡ flat_map (planned_line base) plans → after ≡ bytes ++ planned_line base plan → after ≡ flat_map (planned_line base) (plans ++ plan ∷ [])
bytes_push base plans plan bytes after e more = more ∙ ap (λ (z : List ℕ). z ++ planned_line base plan) e ∙ flat_map_more (planned_line base) [] plans plan

-- what is below the bound is allowed
pub bound_allows : (stream most bound required : ℕ) (policy : Policy) (l : Ledger) (t : Table) → bound ≡ bound_for stream most policy l t → required ≤ bound → (required ≤ l.0) ⊎ (may_block most stream l ≡ true)
bound_allows stream most bound required policy l t is few = by_tests (nat_le policy.unacknowledged (length l.1)) refl (may_block most stream l) refl
  where
    by_tests : (full : Bool) → nat_le policy.unacknowledged (length l.1) ≡ full → (b : Bool) → may_block most stream l ≡ b → (required ≤ l.0) ⊎ (may_block most stream l ≡ true)
    by_tests full room true may = inr may
    by_tests true room false may =
        let none : bound ≡ 0 = is ∙ ap (λ (b : Bool). cond b 0 (cond (may_block most stream l) (insert_count t) l.0)) room in
        inl (omega arith)
    by_tests false room false may =
        let known : bound ≡ l.0 = is ∙ ap (λ (b : Bool). cond b 0 (cond (may_block most stream l) (insert_count t) l.0)) room ∙ ap (λ (b : Bool). cond b (insert_count t) l.0) may in
        inl (omega arith)

-- and there is room for one more section, if it refers to an entry
bound_counts : (stream most bound required : ℕ) (policy : Policy) (l : Ledger) (t : Table) → bound ≡ bound_for stream most policy l t → required ≤ bound → (required ≡ 0) ⊎ (length l.1 < policy.unacknowledged)
bound_counts stream most bound required policy l t is few = elim (cases_lt (length l.1) policy.unacknowledged) [
  | inl room ↦ inr room
  | inr full ↦
      let none : bound ≡ 0 = is ∙ ap (λ (b : Bool). cond b 0 (cond (may_block most stream l) (insert_count t) l.0)) (le-leb policy.unacknowledged (length l.1) full) in
      inl (omega arith)
]

pub lines_start : (t : Table) (low bound lowest : ℕ) → lowest ≡ insert_count t → AreLines t low bound [] [] 0 lowest
lines_start t low bound lowest is = record { plans = []; chosen = refl; are = refl; bytes_are = refl; exact = refl; least = is; from = tt; live = omega arith; few = omega arith; some = inl refl }

chosen_push : (t : Table) (low bound : ℕ) (ps : List Proposal) (plans : List Plan) (p : Proposal) (plan : Plan) → AreChosen t low bound ps plans → Chooses t low bound p plan → AreChosen t low bound (ps ++ p ∷ []) (plans ++ plan ∷ [])
chosen_push t low bound [] plans p plan none one = subst (λ (z : List Plan). AreChosen t low bound (p ∷ []) (z ++ plan ∷ [])) (sym none) (one, refl)
chosen_push t low bound (q ∷ ps) [] p plan chosen one = absurd chosen
chosen_push t low bound (q ∷ ps) (plan ∷ plans) p last (first, chosen) one = (first, chosen_push t low bound ps plans p last chosen one)

fields_push : (t : Table) (bound : ℕ) (ps : List Proposal) (plans : List Plan) (p : Proposal) (plan : Plan) → ArePlans t bound plans (map field_of ps) → CanPlan plan → planned_field t bound plan ≡ Some (field_of p) → ArePlans t bound (plans ++ plan ∷ []) (map field_of (ps ++ p ∷ []))
fields_push t bound ps plans p plan are can is =
    subst (λ (z : List Field). ArePlans t bound (plans ++ plan ∷ []) z) (sym (map-append field_of ps (p ∷ []))) (plans_push t bound plans (map field_of ps) plan (field_of p) are can is)

-- what a line adds, if it refers to an entry or not
record Adds (t : Table) (bound required lowest : ℕ) (plans : List Plan) (plan : Plan) (more lower : ℕ) : Type 0 where
  exact : more ≡ needed (plans ++ plan ∷ [])
  from : AreFrom lower (plans ++ plan ∷ [])
  live : t.dropped ≤ lower
  few : more ≤ bound
  some : (more ≡ 0) ⊎ (lower < more)

adds : (t : Table) (low bound : ℕ) (ps : List Proposal) (bytes : List ℕ) (required lowest : ℕ) (lines : AreLines t low bound ps bytes required lowest) (plan : Plan) (f : Field) (o : Option ℕ)
    → planned_field t bound plan ≡ Some f → place_of plan ≡ o → Adds t bound required lowest lines.plans plan (raised o required) (lowered o lowest)
adds t low bound ps bytes required lowest lines plan f None is none =
    let nothing : needs plan ≡ 0 = ap needs_by none in
    record {
      exact = omega (arith, lines.exact, needed_push lines.plans plan, nothing);
      from = from_push lowest lines.plans plan lines.from (is_none lowest plan none);
      live = lines.live;
      few = lines.few;
      some = lines.some;
    }
adds t low bound ps bytes required lowest lines plan f (Some place) is at =
    let here : needs plan ≡ place + 1 = ap needs_by at in
    let there = place_live t bound plan f place is at in
    record {
      exact = omega (arith, lines.exact, needed_push lines.plans plan, here);
      from = from_push (min lowest place) lines.plans plan (from_less (min lowest place) lowest lines.plans (omega arith) lines.from) (is_at (min lowest place) place plan at (omega arith));
      live = omega (arith, lines.live, there.0);
      few = omega (arith, lines.few, there.1);
      some = inr (omega arith);
    }

pub lines_push : (t : Table) (low bound : ℕ) (ps : List Proposal) (bytes : List ℕ) (required lowest : ℕ) (plan : Plan) (p : Proposal) (after : List ℕ) (more lower : ℕ)
    → AreLines t low bound ps bytes required lowest → CanPlan plan → planned_field t bound plan ≡ Some (field_of p) → Chooses t low bound p plan → after ≡ bytes ++ planned_line (insert_count t) plan
    → more ≡ raised (place_of plan) required → lower ≡ lowered (place_of plan) lowest → AreLines t low bound (ps ++ p ∷ []) after more lower
lines_push t low bound ps bytes required lowest plan p after more lower lines can is one written more_is lower_is =
    let all = adds t low bound ps bytes required lowest lines plan (field_of p) (place_of plan) is refl in
    subst (λ (z : ℕ). AreLines t low bound (ps ++ p ∷ []) after z lower) (sym more_is) (subst (λ (z : ℕ). AreLines t low bound (ps ++ p ∷ []) after (raised (place_of plan) required) z) (sym lower_is)
    (record {
      plans = lines.plans ++ plan ∷ [];
      chosen = chosen_push t low bound ps lines.plans p plan lines.chosen one;
      are = fields_push t bound ps lines.plans p plan lines.are can is;
      bytes_are = bytes_push (insert_count t) lines.plans plan bytes after lines.bytes_are written;
      exact = all.exact;
      least = ap (lowered (place_of plan)) lines.least ∙ sym (lowest_push (insert_count t) lines.plans plan);
      from = all.from;
      live = all.live;
      few = all.few;
      some = all.some;
    }))

-- a line refers to no entry past the bound
pub place_few : (t : Table) (bound : ℕ) (plan : Plan) (f : Field) (o : Option ℕ) → planned_field t bound plan ≡ Some f → place_of plan ≡ o → bound ≤ 2 ^ 62 → IfSome o (λ place. place < 2 ^ 62)
place_few t bound plan f None is none few = tt
place_few t bound plan f (Some place) is at few = omega (arith, place_live t bound plan f place is at)

-- ---- a table that has an entry

size_some : (es : List Field) → 0 < length es → 32 ≤ table_size es
size_some [] some = absurd (omega arith)
size_some (e ∷ es) some = omega arith

pub lines_fit : (t : Table) (low bound : ℕ) (ps : List Proposal) (bytes : List ℕ) (required lowest capacity : ℕ) → AreLines t low bound ps bytes required lowest → bound ≤ insert_count t
    → table_size t.live ≤ capacity → capacity ≤ t.limit → 0 < required → 0 < most_entries t.limit
lines_fit t low bound ps bytes required lowest capacity lines known fits within some =
    let live : 0 < length t.live = elim lines.some [
      | inl none ↦ absurd (omega arith)
      | inr more ↦ omega (arith, more, lines.live, lines.few)
    ] in
    omega (arith, size_some t.live live)

-- ---- a section

-- lines that refer to no entry of the dynamic table are the same with any Base
line_any : (a b : ℕ) (plan : Plan) → needs plan ≡ 0 → planned_line a plan ≡ planned_line b plan
line_any a b (StaticField index) none = refl
line_any a b (TableField place) none = absurd (omega (arith, none))
line_any a b (StaticName never index value) none = refl
line_any a b (TableName never place value) none = absurd (omega (arith, none))
line_any a b (NewName never name value) none = refl

lines_any : (a b : ℕ) (plans : List Plan) → needed plans ≡ 0 → flat_map (planned_line a) plans ≡ flat_map (planned_line b) plans
lines_any a b [] none = refl
lines_any a b (plan ∷ plans) none =
    ap (λ z. z ++ flat_map (planned_line a) plans) (line_any a b plan (omega (arith, none))) ∙ ap (λ z. planned_line b plan ++ z) (lines_any a b plans (omega (arith, none)))

lines_based : (count required : ℕ) (plans : List Plan) → required ≡ needed plans → flat_map (planned_line count) plans ≡ flat_map (planned_line (base_for required count)) plans
lines_based count zero plans is = lines_any count 0 plans (sym is)
lines_based count (suc n) plans is = ap (λ (base : ℕ). flat_map (planned_line base) plans) (sym (rw (ne_eqb (suc n) 0 (omega arith)) refl))

pub lines_sent : (stream most : ℕ) (policy : Policy) (t : Table) (bound : ℕ) (ps : List Proposal) (bytes : List ℕ) (required lowest : ℕ) (old new : Ledger) (before after : List ℕ)
    → AreLines t (draining_index policy t) bound ps bytes required lowest → bound ≤ insert_count t → bound ≡ bound_for stream most policy old t → new ≡ opened (sent_at stream required lowest) old → after ≡ before ++ (prefix_for t required ++ bytes)
    → IsSent stream most policy ps t old new before after
lines_sent stream most policy t bound ps bytes required lowest old new before after lines known is noted more = record {
  plans = lines.plans;
  lowest = lowest;
  chosen = subst (λ (z : ℕ). AreChosen t (draining_index policy t) z ps lines.plans) is lines.chosen;
  are = plans_within t bound (needed lines.plans) lines.plans (map field_of ps) (omega arith) lines.are;
  few = omega (arith, lines.exact, lines.few);
  least = lines.least;
  from = lines.from;
  bytes = more ∙ ap (λ (z : List ℕ). before ++ (prefix_for t required ++ z)) (lines.bytes_are ∙ lines_based (insert_count t) required lines.plans lines.exact)
      ∙ ap (λ (n : ℕ). before ++ (prefix_for t n ++ flat_map (planned_line (base_for n (insert_count t))) lines.plans)) lines.exact;
  ledger = noted ∙ ap (λ (n : ℕ). opened (sent_at stream n lowest) old) lines.exact;
  allowed = bound_allows stream most bound (needed lines.plans) policy old t is (omega (arith, lines.exact, lines.few));
  counted = bound_counts stream most bound (needed lines.plans) policy old t is (omega (arith, lines.exact, lines.few));
}

pub ruleset line_steps = (lines_start, lines_fit, place_few)
