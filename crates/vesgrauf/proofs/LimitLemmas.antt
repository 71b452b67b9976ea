-- The limits of the configuration.
use Rattle.std.proofs.Common.{◌≡◌, ◌≤◌, ◌<◌, ◌+◌, ◌-◌, ◌/◌, ℕ, List, length, Bool, true, false, cond, refl, sym, ap, subst, arith}
use Rattle.std.specs.Prelude.{◌^◌, nat_lt, min, max, if◌then◌else◌}
use Rattle.wtp_connection.specs.Budget.{budget_of, is_exceeded, one_more, with_answer, with_reset}
use Rattle.wtp_connection.specs.declared.budget.RequestBudget.{RequestBudget}
use Rattle.wtp_frames.specs.declared.endpoint.Side.{Side}
use Rattle.wtp_frames.specs.declared.endpoint.Side.TheVariants as side
use Rattle.vesgrauf.specs.declared.config.Config.{Config}
use Rattle.vesgrauf.specs.declared.connection.ids.Ids.{Ids}
use Rattle.vesgrauf.specs.declared.entry.Member.{Member}
use Rattle.vesgrauf.specs.declared.output.StreamKind.{StreamKind}
use Rattle.vesgrauf.specs.declared.output.StreamKind.TheVariants as kind
use Rattle.vesgrauf.specs.Ids.{IsFirst, next_own, next_peer, unopened, count_unopened, taken, opened, seen, blocked}
use Rattle.vesgrauf.specs.Limits.{most_datagrams, most_sessions, most_sessions_of, most_unopened, critical, ResetsFit, Within, FewWait}
use Rattle.vesgrauf.specs.Members.{Notes, Drops, DropsAt}

-- ---- what is counted

pub with_datagrams : (c : Config) (m n s h : ℕ) (b : RequestBudget) → n ≤ most_datagrams c → Within c m s h b → Within c n s h b
with_datagrams c m n s h b fits w = record { datagrams_fit = fits; sessions_fit = w.sessions_fit; held_fit = w.held_fit; resets_fit = w.resets_fit }

pub with_fewer_datagrams : (c : Config) (m n s h : ℕ) (b : RequestBudget) → n ≤ m → Within c m s h b → Within c n s h b
with_fewer_datagrams c m n s h b fewer w =
    let fits : m ≤ most_datagrams c = w.datagrams_fit in
    record { datagrams_fit = omega (arith, fewer, fits); sessions_fit = w.sessions_fit; held_fit = w.held_fit; resets_fit = w.resets_fit }

pub with_sessions : (c : Config) (m s t h : ℕ) (b : RequestBudget) → t ≤ most_sessions c → Within c m s h b → Within c m t h b
with_sessions c m s t h b fits w = record { datagrams_fit = w.datagrams_fit; sessions_fit = fits; held_fit = w.held_fit; resets_fit = w.resets_fit }

pub with_fewer_sessions : (c : Config) (m s t h : ℕ) (b : RequestBudget) → t ≤ s → Within c m s h b → Within c m t h b
with_fewer_sessions c m s t h b fewer w =
    let fits : s ≤ most_sessions c = w.sessions_fit in
    record { datagrams_fit = w.datagrams_fit; sessions_fit = omega (arith, fewer, fits); held_fit = w.held_fit; resets_fit = w.resets_fit }

pub with_held : (c : Config) (m s h g : ℕ) (b : RequestBudget) → g ≤ c.receive_buffer_all → Within c m s h b → Within c m s g b
with_held c m s h g b fits w = record { datagrams_fit = w.datagrams_fit; sessions_fit = w.sessions_fit; held_fit = fits; resets_fit = w.resets_fit }

pub with_fewer_held : (c : Config) (m s h g : ℕ) (b : RequestBudget) → g ≤ h → Within c m s h b → Within c m s g b
with_fewer_held c m s h g b fewer w =
    let fits : h ≤ c.receive_buffer_all = w.held_fit in
    record { datagrams_fit = w.datagrams_fit; sessions_fit = w.sessions_fit; held_fit = omega (arith, fewer, fits); resets_fit = w.resets_fit }

pub accepted_most : (c : Config) (s : ℕ) → c.side ≡ side.Server → s ≤ most_sessions c → s ≤ c.max_sessions
accepted_most c s h fits = subst (λ x. s ≤ most_sessions_of x c.max_sessions) h fits

-- ---- requests that were given up

below_one_more : (n : ℕ) → one_more n < 2 ^ 64
below_one_more n = grind (arith)

raised : (n : ℕ) → n < 2 ^ 64 → n ≤ one_more n
raised n h = grind (arith, h)

raised_most : (n : ℕ) → one_more n ≤ n + 1
raised_most n = grind (arith)

answers_by : (most : ℕ) (x : Bool) (b : RequestBudget) → ResetsFit most b
    → ResetsFit most (cond x b (record b { answers = one_more b.answers }))
answers_by most true b w = w
answers_by most false b w =
    let up : b.answers ≤ one_more b.answers = raised b.answers w.answers in
    let fits : b.resets ≤ b.answers + most + 1 = w.resets in
    record { answers = below_one_more b.answers; excess = w.excess; resets = omega (arith, up, fits) }

resets_by : (most : ℕ) (x : Bool) (b : RequestBudget) → nat_lt (b.answers + b.excess) b.resets ≡ x → ResetsFit most b
    → ResetsFit most (cond x b (record b { resets = one_more b.resets }))
resets_by most true b h w = w
resets_by most false b h w =
    let up : one_more b.resets ≤ b.resets + 1 = raised_most b.resets in
    let same : b.excess ≡ most = w.excess in
    let below : b.resets ≤ b.answers + b.excess = grind (arith, h) in
    record { answers = w.answers; excess = w.excess; resets = grind (arith, up, below, same) }

pub with_answered : (c : Config) (m s h : ℕ) (b : RequestBudget) → Within c m s h b → Within c m s h (with_answer b)
with_answered c m s h b w =
    record { datagrams_fit = w.datagrams_fit; sessions_fit = w.sessions_fit; held_fit = w.held_fit; resets_fit = answers_by c.max_resets (is_exceeded b) b w.resets_fit }

pub with_given_up : (c : Config) (m s h : ℕ) (b : RequestBudget) → Within c m s h b → Within c m s h (with_reset b)
with_given_up c m s h b w =
    record { datagrams_fit = w.datagrams_fit; sessions_fit = w.sessions_fit; held_fit = w.held_fit; resets_fit = resets_by c.max_resets (is_exceeded b) b refl w.resets_fit }

pub within_none : (c : Config) → Within c 0 0 0 (budget_of c.max_resets)
within_none c = record {
  datagrams_fit = omega arith;
  sessions_fit = omega arith;
  held_fit = omega arith;
  resets_fit = record { answers = omega arith; excess = refl; resets = omega arith };
}

-- ---- own streams that wait until QUIC opens them

few_by : (c : Config) (ids jds : Ids) → count_unopened jds kind.Bidirectional ≤ count_unopened ids kind.Bidirectional
    → count_unopened jds kind.Unidirectional ≤ count_unopened ids kind.Unidirectional → FewWait c ids → FewWait c jds
few_by c ids jds a b w =
    let both : count_unopened ids kind.Bidirectional ≤ most_unopened c = w.bidirectional in
    let one : count_unopened ids kind.Unidirectional ≤ most_unopened c + critical = w.unidirectional in
    record { bidirectional = omega (arith, a, both); unidirectional = omega (arith, b, one) }

at_most : (a : ℕ) → a ≤ a
at_most a = omega arith

pub few_noted : (c : Config) (ids jds : Ids) → jds ≡ record ids { members = jds.members } → FewWait c ids → FewWait c jds
few_noted c ids jds h w = subst (λ x. FewWait c x) (sym h)
    (few_by c ids (record ids { members = jds.members }) (at_most _) (at_most _) w)

pub few_notes : (c : Config) (session id : ℕ) (ids jds : Ids) → Notes session id ids jds → FewWait c ids → FewWait c jds
few_notes c session id ids jds n w = few_noted c ids jds n.others w

pub few_drops : (c : Config) (session id : ℕ) (ids jds : Ids) → Drops session id ids jds → FewWait c ids → FewWait c jds
few_drops c session id ids jds n w = few_noted c ids jds n.others w

seen_by : (c : Config) (b : Bool) (ids : Ids) (k : StreamKind) → FewWait c ids → FewWait c (cond b (seen ids k) ids)
seen_by c false ids k w = w
seen_by c true ids kind.Bidirectional w = few_by c ids (seen ids kind.Bidirectional) (at_most _) (at_most _) w
seen_by c true ids kind.Unidirectional w = few_by c ids (seen ids kind.Unidirectional) (at_most _) (at_most _) w

pub few_seen : (c : Config) (b : Bool) (ids jds : Ids) (k : StreamKind) → jds ≡ cond b (seen ids k) ids
    → FewWait c ids → FewWait c jds
few_seen c b ids jds k h w = subst (λ x. FewWait c x) (sym h) (seen_by c b ids k w)

blocked_by : (c : Config) (b : Bool) (ids : Ids) (k : StreamKind) → FewWait c ids → FewWait c (blocked ids k b)
blocked_by c b ids kind.Bidirectional w = few_by c ids (blocked ids kind.Bidirectional b) (at_most _) (at_most _) w
blocked_by c b ids kind.Unidirectional w = few_by c ids (blocked ids kind.Unidirectional b) (at_most _) (at_most _) w

pub few_blocked : (c : Config) (b : Bool) (ids jds : Ids) (k : StreamKind) → jds ≡ blocked ids k b
    → FewWait c ids → FewWait c jds
few_blocked c b ids jds k h w = subst (λ x. FewWait c x) (sym h) (blocked_by c b ids k w)

fewer_by : (n u : ℕ) → (n - (u + 4)) / 4 ≤ (n - u) / 4
fewer_by n u = omega arith

opened_by : (c : Config) (b : Bool) (ids : Ids) (k : StreamKind) → FewWait c ids → FewWait c (cond b (opened ids k) ids)
opened_by c false ids k w = w
opened_by c true ids kind.Bidirectional w = few_by c ids (opened ids kind.Bidirectional)
    (fewer_by ids.bidirectional ids.unopened_bidirectional) (at_most _) w
opened_by c true ids kind.Unidirectional w = few_by c ids (opened ids kind.Unidirectional) (at_most _)
    (fewer_by ids.unidirectional ids.unopened_unidirectional) w

pub few_opened : (c : Config) (b : Bool) (ids jds : Ids) (k : StreamKind) → jds ≡ cond b (opened ids k) ids
    → FewWait c ids → FewWait c jds
few_opened c b ids jds k h w = subst (λ x. FewWait c x) (sym h) (opened_by c b ids k w)

-- as many of each kind wait where only notes of the streams of sessions change
pub waits_as : (ids jds : Ids) → jds ≡ record ids { members = jds.members } → (k : StreamKind)
    → count_unopened jds k ≡ count_unopened ids k
waits_as ids jds h kind.Bidirectional = ap (λ i. (i.bidirectional - i.unopened_bidirectional) / 4) h
waits_as ids jds h kind.Unidirectional = ap (λ i. (i.unidirectional - i.unopened_unidirectional) / 4) h

one_more_by : (n u most : ℕ) → nat_lt ((n - u) / 4) most ≡ true → (n + 4 - u) / 4 ≤ most
one_more_by n u most h = grind (arith, h)

one_more_critical : (n u most : ℕ) → nat_lt ((n - u) / 4) most ≡ true → (n + 4 - u) / 4 ≤ most + critical
one_more_critical n u most h = grind (arith, h)

taken_by : (c : Config) (b : Bool) (ids : Ids) (k : StreamKind) → nat_lt (count_unopened ids k) (most_unopened c) ≡ true
    → FewWait c ids → FewWait c (cond b (taken ids k) ids)
taken_by c false ids k room w = w
taken_by c true ids kind.Bidirectional room w = record {
  bidirectional = one_more_by ids.bidirectional ids.unopened_bidirectional (most_unopened c) room;
  unidirectional = w.unidirectional;
}
taken_by c true ids kind.Unidirectional room w = record {
  bidirectional = w.bidirectional;
  unidirectional = one_more_critical ids.unidirectional ids.unopened_unidirectional (most_unopened c) room;
}

pub few_taken : (c : Config) (b : Bool) (ids jds : Ids) (k : StreamKind)
    → nat_lt (count_unopened ids k) (most_unopened c) ≡ true → jds ≡ cond b (taken ids k) ids → FewWait c ids → FewWait c jds
few_taken c b ids jds k room h w = subst (λ x. FewWait c x) (sym h) (taken_by c b ids k room w)

critical_by : (c : Config) (b : Bool) (ids : Ids)
    → nat_lt (count_unopened ids kind.Unidirectional) (most_unopened c + critical) ≡ true
    → FewWait c ids → FewWait c (cond b (taken ids kind.Unidirectional) ids)
critical_by c false ids room w = w
critical_by c true ids room w = record {
  bidirectional = w.bidirectional;
  unidirectional = one_more_by ids.unidirectional ids.unopened_unidirectional (most_unopened c + critical) room;
}

pub few_critical : (c : Config) (b : Bool) (ids jds : Ids)
    → nat_lt (count_unopened ids kind.Unidirectional) (most_unopened c + critical) ≡ true
    → jds ≡ cond b (taken ids kind.Unidirectional) ids → FewWait c ids → FewWait c jds
few_critical c b ids jds room h w = subst (λ x. FewWait c x) (sym h) (critical_by c b ids room w)

none_waits : (n u most : ℕ) → n ≡ u → (n - u) / 4 ≤ most
none_waits n u most h = grind (arith, h)

pub few_none : (c : Config) (s : Side) (ids : Ids) → IsFirst s ids → FewWait c ids
few_none c s ids f = record {
  bidirectional = none_waits ids.bidirectional ids.unopened_bidirectional (most_unopened c) (f.own kind.Bidirectional).0;
  unidirectional = none_waits ids.unidirectional ids.unopened_unidirectional (most_unopened c + critical)
      (f.own kind.Unidirectional).0;
}

-- what counts, and what waits, stays within its limit
pub ruleset limits = (with_fewer_datagrams, with_fewer_sessions, with_fewer_held, with_answered, with_given_up, few_notes, few_drops, few_seen, few_blocked, few_opened)
