use Rattle.std.proofs.Common.{arith, ◌≡◌, ℕ, ◌+◌, ◌*◌, Bool, true, false, Option, Some, None, option_map, refl, subst}
use Rattle.std.specs.Prelude.{not, IsTrue}
use Rattle.vesgrauf_registry.specs.declared.frames.Frame.{Frame}
use Rattle.vesgrauf_registry.specs.Frames.{frame_of, frames}
use Rattle.vesgrauf_registry.specs.Table.{Entry, IsEntry, are_distinct, all_entries}
use Rattle.vesgrauf_registry.proofs.TableLemmas.{among-is, among-misses}
use Rattle.vesgrauf_registry.proofs.ReservedLemmas.{has_form, form_is}
use Rattle.vesgrauf_registry.specs.Frames.{has_rules, is_http2, is_http2_type, is_read, kind_of}
use Rattle.vesgrauf_registry.specs.Table.{AtEach, IsOther}
use Rattle.vesgrauf_registry.proofs.TableLemmas.{by_entries, among-all}
use Rattle.vesgrauf_registry.proofs.laws.frame_types_are_registered.Goals as goal

found : (n : ℕ) (e : Entry Frame) → frame_of n ≡ Some e → (n ≡ e.number) × IsEntry e frames
unfolding frame_of
found n e h = among-is frames n e h

distinct : IsTrue (are_distinct frames)
unfolding frames
distinct = refl

no_entry : all_entries (λ e. not (has_form 0x1f 0x21 e.number)) frames ≡ true
unfolding frames
no_entry = refl

none_reserved : (n : ℕ) → frame_of (0x1f * n + 0x21) ≡ None
unfolding frame_of
none_reserved n = among-misses (has_form 0x1f 0x21) frames (0x1f * n + 0x21) no_entry (form_is 0x1f 0x21 n)

http2_at_each : AtEach (λ n. is_http2 (kind_of n) ≡ is_http2_type n) frames
unfolding frame_of frames
http2_at_each = search

http2_others : (n : ℕ) → IsOther n frames → is_http2 (kind_of n) ≡ is_http2_type n
unfolding frame_of frames
http2_others n h = grind (arith, h)

-- the two tests agree
abbrev agree : Bool → Bool → Bool
agree true b = b
agree false b = not b

agree_same : (a b : Bool) → agree a b ≡ true → a ≡ b
agree_same true true h = refl
agree_same false false h = refl
agree_same true false h = absurd (cc)
agree_same false true h = absurd (cc)

all_agree : all_entries (λ e. agree (is_read e.columns.form) (has_rules e.columns.kind)) frames ≡ true
unfolding frames
all_agree = refl

read_by : (n : ℕ) (f : Frame) (found : Option (Entry Frame)) → frame_of n ≡ found → option_map (λ e. e.columns) found ≡ Some f → is_read f.form ≡ has_rules f.kind
unfolding frame_of
read_by n f None h e = absurd (cc)
read_by n f (Some entry) h e = subst (λ (g : Frame). is_read g.form ≡ has_rules g.kind) (some_same entry.columns f e) (agree_same (is_read entry.columns.form) (has_rules entry.columns.kind) (among-all (λ x. agree (is_read x.columns.form) (has_rules x.columns.kind)) frames n entry all_agree h))
  where
    some_same : (a b : Frame) → Some a ≡ Some b → a ≡ b
    some_same a b h = cc

pub returns-clause-found : goal.returns-clause-found
returns-clause-found c = found

pub returns-clause-one : goal.returns-clause-one
returns-clause-one c = distinct

pub returns-clause-none_reserved : goal.returns-clause-none_reserved
returns-clause-none_reserved c = none_reserved

pub returns-clause-http2 : goal.returns-clause-http2
returns-clause-http2 c = λ n. by_entries (λ m. is_http2 (kind_of m) ≡ is_http2_type m) frames n http2_at_each (http2_others n)

pub returns-clause-read : goal.returns-clause-read
returns-clause-read c = λ n f h. read_by n f (frame_of n) refl h
