-- Own halves that are lost.
use Rattle.std.proofs.Common.{◌≡◌, ◌⊎◌, ◌||◌, ◌∙◌, not, cond, ℕ, List, [], Option, Some, None, Bool, true, false, refl, inl, inr, sym, ap}
use Rattle.std.specs.Ordering.{nat_cmp}
use Rattle.std.specs.Map.{set_value}
use Rattle.std.specs.BTreeMap.{is_at}
use Rattle.vesgrauf_stream.specs.declared.writing.Writing.{Writing}
use Rattle.vesgrauf_stream.specs.declared.writing.half.Half.{Half}
use Rattle.vesgrauf_stream.specs.declared.writing.half.Half.TheVariants as half
use Rattle.vesgrauf_queue.specs.declared.ending.Ending.{Ending}
use Rattle.vesgrauf_queue.specs.declared.ending.Ending.TheVariants.{Open, Finishing, Finished, Resetting, WasReset}
use Rattle.vesgrauf_queue.specs.State.{is_reset}
use Rattle.vesgrauf_stream.specs.Writing.{is_none, is_open, is_finished}
use Rattle.vesgrauf.specs.declared.config.Config.{Config}
use Rattle.vesgrauf.specs.declared.connection.Ended.{Ended}
use Rattle.vesgrauf.specs.declared.connection.ids.Ids.{Ids}
use Rattle.vesgrauf.specs.declared.entry.Entry.{Entry}
use Rattle.vesgrauf.specs.declared.event.Event.{Event}
use Rattle.vesgrauf.specs.Halves.{reads_in}
use Rattle.vesgrauf.specs.Instructions.{Table}
use Rattle.vesgrauf.specs.Keeps.{KeepsAll}
use Rattle.vesgrauf.specs.Own.{Own, Over, own_of, own_in, own_at, entry_at}
use Rattle.vesgrauf.specs.State.{knows_of}
use Rattle.vesgrauf.specs.Theirs.{theirs_in}
use Rattle.vesgrauf.proofs.GoesLemmas.{standing_of, standing_in}
use Rattle.vesgrauf.proofs.KeepsLemmas.{keeps_set}

-- there is none
pub own_none : (w : Writing) → w.half ≡ half.None → own_of w ≡ Over
own_none w h = rw h refl

pub out_none : (w : Writing) (b : Bool) → b ≡ is_none w.half → b ≡ true → own_of w ≡ Over
out_none w b is h = none_by w.half (is_reset w.queue.ending) _ (sym is ∙ h)
  where
    none_by : (n : Half) (r : Bool) (x : Own) → is_none n ≡ true → cond (is_none n || r) Over x ≡ Over
    none_by half.None r x h = refl
    none_by half.Idle r x h = absurd (let bad : false ≡ true = h in cc)
    none_by (half.Asked a) r x h = absurd (let bad : false ≡ true = h in cc)
    none_by (half.Message m) r x h = absurd (let bad : false ≡ true = h in cc)
    none_by half.Raw r x h = absurd (let bad : false ≡ true = h in cc)

-- it was ended, and not finished
pub out_reset : (w : Writing) (a b : Bool) → a ≡ not (is_open w.queue.ending) → a ≡ true
    → b ≡ is_finished w.queue.ending → not b ≡ true → own_of w ≡ Over
out_reset w a b ends h finishes g = by w.queue.ending (is_none w.half) _ (sym ends ∙ h) (sym (ap not finishes) ∙ g)
  where
    or_true : (n : Bool) (x : Own) → cond (n || true) Over x ≡ Over
    or_true true x = refl
    or_true false x = refl

    by : (e : Ending) (n : Bool) (x : Own) → not (is_open e) ≡ true → not (is_finished e) ≡ true
        → cond (n || is_reset e) Over x ≡ Over
    by Open n x h g = absurd (let bad : false ≡ true = h in cc)
    by Finishing n x h g = absurd (let bad : false ≡ true = g in cc)
    by Finished n x h g = absurd (let bad : false ≡ true = g in cc)
    by (Resetting r) n x h g = or_true n x
    by (WasReset r) n x h g = or_true n x

-- there is no stream
pub own_out : (es : List (ℕ × Entry)) (id : ℕ) → entry_at es id ≡ None → own_at es id ≡ Over
own_out es id h = ap own_in h

-- there is none any more of a stream whose own half was over, or that the program does not know of
pub drop_keeps : (es : List (ℕ × Entry)) (ids : Ids) (ta : Table) (q : List Event) (a : Config) (x : Option Ended) (id : ℕ) (e f : Entry)
    → entry_at es id ≡ Some e → own_in (Some f) ≡ Over → theirs_in (Some f) ≡ theirs_in (Some e)
    → standing_of f ≡ standing_of e → reads_in (Some f) ≡ reads_in (Some e)
    → (own_at es id ≡ Over) ⊎ (knows_of (entry_at es id) ≡ false)
    → KeepsAll None [] es ids ta q a x (set_value (is_at (nat_cmp id)) es f) ids ta q a x
drop_keeps es ids ta q a x id e f there own l t r (inl over) = keeps_set None es ids ta q a x id f (inr (inl own))
    (inl (l ∙ sym (ap (λ o. theirs_in o) there))) (ap (λ o. standing_in o) there ∙ ap (λ y. Some y) (sym t))
    (inr (own ∙ sym over, r ∙ sym (ap (λ o. reads_in o) there)))
drop_keeps es ids ta q a x id e f there own l t r (inr unknown) = keeps_set None es ids ta q a x id f (inr (inl own))
    (inl (l ∙ sym (ap (λ o. theirs_in o) there))) (ap (λ o. standing_in o) there ∙ ap (λ y. Some y) (sym t))
    (inl unknown)
