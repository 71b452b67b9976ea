-- What SETTINGS keep of those that are remembered.
use Rattle.std.proofs.Common.{◌≡◌, ℕ, ◌≤◌, ◌==◌, nat_lt, ◌&&◌, ◌||◌, not, Bool, true, false, cond, Option, Some, None, Result, Ok, Err, refl, sym, ap, ◌∙◌, inl, inr, eq-eqb}
use Rattle.std.proofs.lemmas.Bool.{cases_Bool, cases_lt, lt-ltb, le-ltb, eqb-true}
use Rattle.wtp_connection.specs.declared.fault.Fault.{Fault}
use Rattle.wtp_connection.specs.declared.fault.Fault.TheVariants as fault
use Rattle.wtp_connection.specs.declared.settings.PeerSettings.{PeerSettings}
use Rattle.wtp_connection.specs.Resumption.{KeepsCapacity, KeepsLimit, KeepsSupport, KeepsLimits, loses_capacity, loses_limit, loses_support, loses_limits, after_resumption}

neither : (a b : Bool) → a ≡ false → b ≡ false → (a || b) ≡ false
neither true b e h = absurd (cc)
neither false b e h = h

first_not : (a b : Bool) → (a || b) ≡ false → a ≡ false
first_not true b e = absurd (cc)
first_not false b e = refl

second_not : (a b : Bool) → (a || b) ≡ false → b ≡ false
second_not true b e = absurd (cc)
second_not false b e = e

-- ---- one setting

limit_kept : (old new : Option ℕ) → KeepsLimit old new → loses_limit old new ≡ false
limit_kept None None h = refl
limit_kept None (Some n) h = absurd h
limit_kept (Some m) None h = absurd h
limit_kept (Some m) (Some n) h = le-ltb n m h

not_less : (n m : ℕ) → nat_lt n m ≡ false → m ≤ n
not_less n m e = elim (cases_lt n m) [
  | inl less ↦ absurd (cc (sym (lt-ltb n m less) ∙ e))
  | inr kept ↦ kept
]

keeps_limit : (old new : Option ℕ) → loses_limit old new ≡ false → KeepsLimit old new
keeps_limit None None e = tt
keeps_limit None (Some n) e = absurd (cc)
keeps_limit (Some m) None e = absurd (cc)
keeps_limit (Some m) (Some n) e = not_less n m e

support_kept : (old new : Bool) → KeepsSupport old new → loses_support old new ≡ false
support_kept true new h = ap (λ (b : Bool). not b) (h refl)
support_kept false new h = refl

keeps_support : (old new : Bool) → loses_support old new ≡ false → KeepsSupport old new
keeps_support true true e is = refl
keeps_support true false e is = absurd (cc)
keeps_support false new e is = absurd (cc)

-- ---- all of them

limits_kept : (old new : PeerSettings) → KeepsLimits old new → loses_limits old new ≡ false
limits_kept old new h =
    neither _ _ (limit_kept old.max_field_section_size new.max_field_section_size h.section) (
    neither _ _ (le-ltb new.qpack_blocked_streams old.qpack_blocked_streams h.blocked) (
    neither _ _ (support_kept old.enable_connect_protocol new.enable_connect_protocol h.connect) (
    neither _ _ (support_kept old.h3_datagram new.h3_datagram h.datagram) (
    neither _ _ (support_kept old.enable_webtransport new.enable_webtransport h.webtransport) (
    neither _ _ (le-ltb new.webtransport_max_sessions old.webtransport_max_sessions h.sessions) (
    le-ltb new.wt_max_sessions old.wt_max_sessions h.later_sessions))))))

keeps_limits : (old new : PeerSettings) → loses_limits old new ≡ false → KeepsLimits old new
keeps_limits old new e =
    let e1 = second_not _ _ e in
    let e2 = second_not _ _ e1 in
    let e3 = second_not _ _ e2 in
    let e4 = second_not _ _ e3 in
    let e5 = second_not _ _ e4 in
    record {
      section = keeps_limit old.max_field_section_size new.max_field_section_size (first_not _ _ e);
      blocked = not_less new.qpack_blocked_streams old.qpack_blocked_streams (first_not _ _ e1);
      connect = keeps_support old.enable_connect_protocol new.enable_connect_protocol (first_not _ _ e2);
      datagram = keeps_support old.h3_datagram new.h3_datagram (first_not _ _ e3);
      webtransport = keeps_support old.enable_webtransport new.enable_webtransport (first_not _ _ e4);
      sessions = not_less new.webtransport_max_sessions old.webtransport_max_sessions (first_not _ _ e5);
      later_sessions = not_less new.wt_max_sessions old.wt_max_sessions (second_not _ _ e5);
    }

capacity_kept : (old new : PeerSettings) → KeepsCapacity old new → loses_capacity old new ≡ false
capacity_kept old new h = elim h [
  | inl none ↦ ap (λ (b : Bool). not b && not (new.qpack_max_table_capacity == old.qpack_max_table_capacity)) (eq-eqb old.qpack_max_table_capacity 0 none)
  | inr same ↦ and_none (not (old.qpack_max_table_capacity == 0)) _ (ap not (eq-eqb new.qpack_max_table_capacity old.qpack_max_table_capacity same))
]
  where
    and_none : (a b : Bool) → b ≡ false → (a && b) ≡ false
    and_none true b e = e
    and_none false b e = refl

keeps_capacity : (old new : PeerSettings) → loses_capacity old new ≡ false → KeepsCapacity old new
keeps_capacity old new e = elim (cases_Bool (old.qpack_max_table_capacity == 0)) [
  | inl none ↦ inl (eqb-true old.qpack_max_table_capacity 0 none)
  | inr some ↦ elim (cases_Bool (new.qpack_max_table_capacity == old.qpack_max_table_capacity)) [
    | inl same ↦ inr (eqb-true new.qpack_max_table_capacity old.qpack_max_table_capacity same)
    | inr other ↦ absurd (cc (sym (ap (λ (b : Bool). not b && not (new.qpack_max_table_capacity == old.qpack_max_table_capacity)) some ∙ ap not other) ∙ e))
  ]
]

-- ---- what is made of them

abbrev judged : Bool → Bool → PeerSettings → Result PeerSettings Fault
judged capacity limits new = cond capacity (Err fault.Capacity) (cond limits (Err fault.Settings) (Ok new))

pub all_kept : (old new : PeerSettings) → KeepsCapacity old new → KeepsLimits old new → after_resumption old new ≡ Ok new
all_kept old new c l =
    ap (λ (b : Bool). judged b (loses_limits old new) new) (capacity_kept old new c)
    ∙ ap (λ (b : Bool). judged false b new) (limits_kept old new l)

pub capacity_lost : (old new : PeerSettings) → (KeepsCapacity old new → ⊥) → after_resumption old new ≡ Err fault.Capacity
capacity_lost old new h = elim (cases_Bool (loses_capacity old new)) [
  | inl lost ↦ ap (λ (b : Bool). judged b (loses_limits old new) new) lost
  | inr kept ↦ absurd (h (keeps_capacity old new kept))
]

pub limits_lost : (old new : PeerSettings) → KeepsCapacity old new → (KeepsLimits old new → ⊥) → after_resumption old new ≡ Err fault.Settings
limits_lost old new c h = elim (cases_Bool (loses_limits old new)) [
  | inl lost ↦ ap (λ (b : Bool). judged b (loses_limits old new) new) (capacity_kept old new c) ∙ ap (λ (b : Bool). judged false b new) lost
  | inr kept ↦ absurd (h (keeps_limits old new kept))
]
