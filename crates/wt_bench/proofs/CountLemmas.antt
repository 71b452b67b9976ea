-- Counted frames and remaining frames.
use Rattle.std.proofs.Common.{◌≡◌, ℕ, zero, suc, ◌+◌, ◌≤◌, Bool, List, [], length, drop, length-append, refl, sym, ap, ◌∙◌, arith, Option, Some, None}
use Rattle.std.specs.Prelude.{pos}
use Rattle.wtp_core.specs.declared.error.ErrorCode.{ErrorCode}
use Rattle.wtp_core.specs.Source.{all_ahead}
use Rattle.wtp_wire.specs.Content.{Content, kind_in}
use Rattle.wtp_wire.specs.Front.{Front, Framed, Unknown, BadId, TooBig, Short, front}
use Rattle.wtp_wire.specs.Held.{new_held}
use Rattle.wtransport_proto.specs.declared.stream.error.IoReadError.{IoReadError}
use Rattle.wtransport_proto.specs.declared.stream.error.IoReadError.TheVariants.{IO}
use Rattle.wtp_core.specs.declared.bytes.error.IoReadError.TheVariants as io
use Rattle.wtransport_proto.specs.Driving.{after}
use Rattle.wtransport_proto.specs.HeldRun.{run_of}
use Rattle.wtransport_proto.specs.Rule.{Role, RemoteBi, rule}
use Rattle.wtransport_proto.specs.Run.{Run, Tail, Ended, Ending, ends, follows, judged, next_run, run_within, run, skip_unknown}
use Rattle.wtransport_proto.specs.StreamPolling.{EndsWithFault}
use Rattle.wtransport_proto.proofs.HeldRunLemmas.{run_new}
use Rattle.wt_bench.specs.Frames.{count_at, count_of}

-- n frames were counted, and `left` has the other frames of the whole run and its ending
pub record IsCounted (n : ℕ) (left whole : Run) : Type 0 where
  pub frames : n + length left.frames ≡ length whole.frames
  pub ending : left.ending ≡ whole.ending

pub counted_none : (whole : Run) → IsCounted 0 whole whole
counted_none whole = record { frames = omega arith; ending = refl }

pub counted_frame : (n : ℕ) (f : Content) (old new whole : Run) → old ≡ follows f new → IsCounted n old whole → IsCounted (n + 1) new whole
counted_frame n f old new whole e c = record {
  frames = let one = c.frames in omega (arith, ap (λ (r : Run). length r.frames) e);
  ending = sym (ap (λ (r : Run). r.ending) e) ∙ c.ending;
}

pub counted_same : (n : ℕ) (old new whole : Run) → old ≡ new → IsCounted n old whole → IsCounted n new whole
counted_same n old new whole e c = rw (← e) c

pub counted_more : (n k : ℕ) (fs : List Content) (old new whole : Run) → old ≡ after fs new → length fs ≡ k → IsCounted n old whole → IsCounted (n + k) new whole
counted_more n k fs old new whole e is c = record {
  frames = let one = c.frames in omega (arith, ap (λ (r : Run). length r.frames) e, length-append fs new.frames, is);
  ending = sym (ap (λ (r : Run). r.ending) e) ∙ c.ending;
}

-- ---- each frame has at least one byte, so there are at most as many frames as bytes

judged_few : (o : Option ErrorCode) (f : Content) (r : Run) (n : ℕ) → length r.frames ≤ n → length (judged o f r).frames ≤ suc n
judged_few None f r n h = omega arith
judged_few (Some c) f r n h = omega arith

next_few : (c : Front) (more : Bool → List ℕ → Run) (n : ℕ) (role : Role) (first : Bool) (bytes rest : List ℕ) (tail : Tail) → ((x : Bool) (b : List ℕ) → length (more x b).frames ≤ n) → length (next_run more role first bytes rest tail c).frames ≤ suc n
next_few (Framed f behind) more n role first bytes rest tail h = judged_few (rule role first (kind_in f)) f (more _ behind) n (h _ behind)
next_few (Unknown behind) more n role first bytes rest tail h = omega arith
next_few (BadId behind) more n role first bytes rest tail h = omega arith
next_few (TooBig behind) more n role first bytes rest tail h = omega arith
next_few Short more n role first bytes rest tail h = omega arith

within_few : (n : ℕ) (role : Role) (tail : Tail) (first : Bool) (bytes : List ℕ) → length (run_within n role tail first bytes).frames ≤ n
within_few zero role tail first bytes = omega arith
within_few (suc n) role tail first bytes = next_few (front (skip_unknown bytes)) (λ f r. run_within n role tail f r) n role first bytes (skip_unknown bytes) tail (λ x b. within_few n role tail x b)

pub few_frames : (role : Role) (first : Bool) (bytes : List ℕ) (tail : Tail) → length (run role first bytes tail).frames ≤ length bytes
unfolding run
few_frames role first bytes tail = within_few (length bytes) role tail first bytes

pub counted_few : (n : ℕ) (left : Run) (role : Role) (first : Bool) (bytes : List ℕ) (tail : Tail) → IsCounted n left (run role first bytes tail) → n + length left.frames ≤ length bytes
counted_few n left role first bytes tail c = let one = c.frames in omega (arith, few_frames role first bytes tail)

-- ---- the end

-- a run that is only its ending contains no more frames
pub counted_all : (n : ℕ) (left whole : Run) (e : Ending) → left ≡ ends e → IsCounted n left whole → count_of whole ≡ count_at e n
counted_all n left whole e is c =
    let all : length whole.frames ≡ n = let one = c.frames in omega (arith, ap (λ (r : Run). length r.frames) is) in
    rw (all, sym c.ending ∙ ap (λ (r : Run). r.ending) is) refl

-- a new reader over a slice reads the run of its bytes
pub run_ahead : (role : Role) (first : Bool) (bytes : List ℕ) → run_of role first new_held (all_ahead bytes) ≡ run role first bytes Ended
run_ahead role first bytes = run_new role first new_held (all_ahead bytes) refl

-- the last frames, which a drive outputs before the end
pub counted_end : (n k : ℕ) (fs : List Content) (left whole : Run) (x : IoReadError) → EndsWithFault left fs x → x ≡ IO io.ImmediateFin → length fs ≡ k → IsCounted n left whole → pos (n + k) ≡ count_of whole
counted_end n k fs left whole x e fin is c =
    let ended = rw fin at e in
    let all : length whole.frames ≡ n + k = let one = c.frames in omega (arith, ap length ended.frames, is) in
    rw (all, sym c.ending ∙ ended.fault) refl

pub ended_few : (n k : ℕ) (fs : List Content) (left : Run) (x : IoReadError) (role : Role) (first : Bool) (bytes : List ℕ) (tail : Tail) → EndsWithFault left fs x → length fs ≡ k → IsCounted n left (run role first bytes tail) → n + k ≤ length bytes
ended_few n k fs left x role first bytes tail e is c = let one = c.frames in omega (arith, ap length e.frames, is, few_frames role first bytes tail)

-- all frames that a drive output to an empty list
pub all_driven : (was now : List Content) (k : ℕ) → was ≡ [] → length now ≡ k → length (drop (length was) now) ≡ k
all_driven was now k none is = rw none is
