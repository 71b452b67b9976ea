-- What reading a frame determines about the first known frame, and about the run.
use Rattle.std.proofs.Common.{◌≡◌, ◌≢◌, [], ◌∷◌, ℕ, Bool, false, List, length, Option, Some, None, Result, Ok, Err, refl, sym, ap, subst, ◌∙◌, inl, inr}
use Rattle.wtp_core.specs.declared.error.ErrorCode.{ErrorCode}
use Rattle.wtp_core.specs.declared.error.ErrorCode.TheVariants.{Id, ExcessiveLoad}
use Rattle.wtp_wire.specs.declared.frame.ParseError.{ParseError}
use Rattle.wtp_wire.specs.declared.frame.ParseError.TheVariants.{UnknownFrame, InvalidSessionId, PayloadTooBig}
use Rattle.wtp_wire.specs.Codes.{frame_code}
use Rattle.wtp_wire.specs.Content.{Content, kind_in}
use Rattle.wtp_wire.specs.Front.{Front, Framed, Unknown, BadId, TooBig, Short, front}
use Rattle.wtp_wire.specs.FrameReading.{Answers}
use Rattle.wtp_core.specs.Reader.{IsRest}
use Rattle.wtp_core.proofs.RestLemmas.{rest-same, rest-rest}
use Rattle.wtp_wire.specs.PastNumber.{past_two}
use Rattle.wtp_wire.specs.Run.{skip_unknown, run, Run, next_run, follows, ends, run_stop, Tail, MayGoOn, Ended, WasReset, Lost, Open, H3}
use Rattle.wtp_wire.specs.Rule.{Role, rule}
use Rattle.wtransport_proto.specs.Reading.{AnswersKnown, AnswersFrame, AnswersRun, FirstAfter, MovesPast, ReaderIsAfter, permitted, verdict}
use Rattle.wtp_wire.proofs.RunLemmas.{skip_unknown-unknown, skip_unknown-framed, skip_unknown-bad, skip_unknown-big, skip_unknown-short, run-step}

-- only unknown frames were skipped between old and cur
pub record SkipsFrames (old cur : List ℕ) : Type 0 where
  pub known : skip_unknown old ≡ skip_unknown cur
  pub rest : IsRest cur old

pub skips-none : (bytes : List ℕ) → SkipsFrames bytes bytes
skips-none bytes = record { known = refl; rest = rest-same bytes bytes refl }

pub skips-one : (old cur new : List ℕ) (h : SkipsFrames old cur) → front cur ≡ Unknown new → IsRest new cur → SkipsFrames old new
skips-one old cur new h e k = record { known = h.known ∙ skip_unknown-unknown cur new e; rest = rest-rest new cur old k h.rest }

pub known-ok : (old cur new : List ℕ) (o : Option Content) → skip_unknown old ≡ skip_unknown cur → Answers (front cur) (Ok o) new → AnswersKnown (front (skip_unknown old)) (Ok o) new
known-ok old cur new None p h = rw (p, skip_unknown-short cur h) h
known-ok old cur new (Some f) p h = rw (p, skip_unknown-framed cur new f h) h

-- there is no frame: the numbers that are complete after the unknown frames were read
pub known-none : (old cur new : List ℕ) (o : Option Content) → skip_unknown old ≡ skip_unknown cur → Answers (front cur) (Ok o) new → (o ≡ None → new ≡ past_two cur) → o ≡ None → new ≡ past_two (skip_unknown old)
known-none old cur new None p h past e = rw (p, skip_unknown-short cur h) (past refl)
known-none old cur new (Some f) p h past e = absurd cc

known-bad : (old cur new : List ℕ) → skip_unknown old ≡ skip_unknown cur → Answers (front cur) (Err InvalidSessionId) new → AnswersKnown (front (skip_unknown old)) (Err Id) new
known-bad old cur new p h = inl (refl, rw (p, skip_unknown-bad cur new h) h)

known-big : (old cur new : List ℕ) → skip_unknown old ≡ skip_unknown cur → Answers (front cur) (Err PayloadTooBig) new → AnswersKnown (front (skip_unknown old)) (Err ExcessiveLoad) new
known-big old cur new p h = inr (refl, rw (p, skip_unknown-big cur new h) h)

pub known-code : (fault : ParseError) (c : ErrorCode) (old cur new : List ℕ) → frame_code fault ≡ Some c → skip_unknown old ≡ skip_unknown cur → Answers (front cur) (Err fault) new → AnswersKnown (front (skip_unknown old)) (Err c) new
known-code UnknownFrame c old cur new e p h = absurd cc
known-code InvalidSessionId c old cur new e p h =
    let code : Id ≡ c = cc in
    subst (λ (x : ErrorCode). AnswersKnown (front (skip_unknown old)) (Err x) new) code (known-bad old cur new p h)
known-code PayloadTooBig c old cur new e p h =
    let code : ExcessiveLoad ≡ c = cc in
    subst (λ (x : ErrorCode). AnswersKnown (front (skip_unknown old)) (Err x) new) code (known-big old cur new p h)

pub unknown-code : (fault : ParseError) (cur new : List ℕ) → frame_code fault ≡ None → Answers (front cur) (Err fault) new → front cur ≡ Unknown new
unknown-code UnknownFrame cur new e h = h
unknown-code InvalidSessionId cur new e h = absurd cc
unknown-code PayloadTooBig cur new e h = absurd cc

-- ---- the rule of a frame that was read

permitted_ok : (o : Option ErrorCode) (f g : Content) → Ok g ≡ permitted o f → Ok (Some g) ≡ verdict o f
permitted_ok None f g e = cc
permitted_ok (Some c) f g e = absurd cc

permitted_err : (o : Option ErrorCode) (f : Content) (c : ErrorCode) → Err c ≡ permitted o f → Err c ≡ verdict o f
permitted_err None f c e = absurd cc
permitted_err (Some d) f c e = cc

pub answers_ok : (role : Role) (first next : Bool) (known : Front) (left : List ℕ) (o : Option Content) (f g : Content) → AnswersKnown known (Ok o) left → o ≡ Some f → Ok g ≡ permitted (rule role first (kind_in f)) f → next ≡ false → AnswersFrame role first known (Ok (Some g)) next left
answers_ok role first next known left o f g h is e n = let front : known ≡ Framed f left = rw is at h in rw front (permitted_ok (rule role first (kind_in f)) f g e, n, refl)

pub answers_err : (role : Role) (first next : Bool) (known : Front) (left : List ℕ) (o : Option Content) (f : Content) (c : ErrorCode) → AnswersKnown known (Ok o) left → o ≡ Some f → Err c ≡ permitted (rule role first (kind_in f)) f → next ≡ false → AnswersFrame role first known (Err c) next left
answers_err role first next known left o f c h is e n = let front : known ≡ Framed f left = rw is at h in rw front (permitted_err (rule role first (kind_in f)) f c e, n, refl)

-- ---- the run

verdict_ok : (o : Option ErrorCode) (g f : Content) → Ok (Some f) ≡ verdict o g → (o ≡ None) × (g ≡ f)
verdict_ok None g f e = (refl, cc)
verdict_ok (Some c) g f e = absurd cc

verdict_err : (o : Option ErrorCode) (g : Content) (c : ErrorCode) → Err c ≡ verdict o g → o ≡ Some c
verdict_err None g c e = absurd cc
verdict_err (Some d) g c e = cc

-- the run by the first known frame
run-front : (role : Role) (first : Bool) (bytes : List ℕ) (c : Front) → front (skip_unknown bytes) ≡ c → run role first bytes MayGoOn ≡ next_run (λ f r. run role f r MayGoOn) role first bytes (skip_unknown bytes) MayGoOn c
run-front role first bytes c e = run-step role first bytes MayGoOn ∙ ap (λ (x : Front). next_run (λ f r. run role f r MayGoOn) role first bytes (skip_unknown bytes) MayGoOn x) e

some_case : (role : Role) (first next : Bool) (old left : List ℕ) (f : Content) (c : Front) → front (skip_unknown old) ≡ c → AnswersFrame role first c (Ok (Some f)) next left → run role first old MayGoOn ≡ follows f (run role next left MayGoOn)
some_case role first next old left f (Framed g rest) e (answer, later, there) =
    let (allowed, same) = verdict_ok (rule role first (kind_in g)) g f answer in
    run-front role first old (Framed g rest) e ∙ rw (allowed, same, later, there) refl
some_case role first next old left f (Unknown rest) e h = absurd h
some_case role first next old left f (BadId rest) e (answer, later, there) = absurd cc
some_case role first next old left f (TooBig rest) e (answer, later, there) = absurd cc
some_case role first next old left f Short e (answer, later) = absurd cc

pub run-some : (role : Role) (first next : Bool) (old left : List ℕ) (f : Content) → AnswersFrame role first (front (skip_unknown old)) (Ok (Some f)) next left → run role first old MayGoOn ≡ follows f (run role next left MayGoOn)
run-some role first next old left f h = some_case role first next old left f (front (skip_unknown old)) refl h

none_case : (role : Role) (first next : Bool) (old left : List ℕ) (c : Front) → front (skip_unknown old) ≡ c → AnswersFrame role first c (Ok None) next left → run role first old MayGoOn ≡ ends (Open (length old))
none_case role first next old left (Framed g rest) e (answer, later, there) = absurd (no_frame (rule role first (kind_in g)) answer)
  where
    no_frame : (o : Option ErrorCode) → Ok None ≡ verdict o g → ⊥
    no_frame None a = cc
    no_frame (Some d) a = cc
none_case role first next old left (Unknown rest) e h = absurd h
none_case role first next old left (BadId rest) e (answer, later, there) = absurd cc
none_case role first next old left (TooBig rest) e (answer, later, there) = absurd cc
none_case role first next old left Short e (answer, later) = run-front role first old Short e

pub run-none : (role : Role) (first next : Bool) (old left : List ℕ) → AnswersFrame role first (front (skip_unknown old)) (Ok None) next left → run role first old MayGoOn ≡ ends (Open (length old))
run-none role first next old left h = none_case role first next old left (front (skip_unknown old)) refl h

err_case : (role : Role) (first next : Bool) (old left : List ℕ) (d : ErrorCode) (c : Front) → front (skip_unknown old) ≡ c → AnswersFrame role first c (Err d) next left → run role first old MayGoOn ≡ ends (H3 d)
err_case role first next old left d (Framed g rest) e (answer, later, there) = run-front role first old (Framed g rest) e ∙ rw (verdict_err (rule role first (kind_in g)) g d answer) refl
err_case role first next old left d (Unknown rest) e h = absurd h
err_case role first next old left d (BadId rest) e (answer, later, there) = let code : Id ≡ d = cc in run-front role first old (BadId rest) e ∙ rw code refl
err_case role first next old left d (TooBig rest) e (answer, later, there) = let code : ExcessiveLoad ≡ d = cc in run-front role first old (TooBig rest) e ∙ rw code refl
err_case role first next old left d Short e (answer, later) = absurd cc

pub run-err : (role : Role) (first next : Bool) (old left : List ℕ) (d : ErrorCode) → AnswersFrame role first (front (skip_unknown old)) (Err d) next left → run role first old MayGoOn ≡ ends (H3 d)
run-err role first next old left d h = err_case role first next old left d (front (skip_unknown old)) refl h

some_place : (role : Role) (first next : Bool) (left : List ℕ) (f : Content) (c : Front) → AnswersFrame role first c (Ok (Some f)) next left → (c ≡ Framed f left) × (rule role first (kind_in f) ≡ None) × (next ≡ false)
some_place role first next left f (Framed g rest) (answer, later, there) =
    let (allowed, same) = verdict_ok (rule role first (kind_in g)) g f answer in
    (rw (same, there) refl, rw (← same) allowed, later)
some_place role first next left f (Unknown rest) h = absurd h
some_place role first next left f (BadId rest) (answer, later, there) = absurd cc
some_place role first next left f (TooBig rest) (answer, later, there) = absurd cc
some_place role first next left f Short (answer, later) = absurd cc

none_place : (role : Role) (first next : Bool) (left : List ℕ) (c : Front) → AnswersFrame role first c (Ok None) next left → (c ≡ Short) × (next ≡ first)
none_place role first next left (Framed g rest) (answer, later, there) = absurd (no_frame (rule role first (kind_in g)) answer)
  where
    no_frame : (o : Option ErrorCode) → Ok None ≡ verdict o g → ⊥
    no_frame None a = cc
    no_frame (Some d) a = cc
none_place role first next left (Unknown rest) h = absurd h
none_place role first next left (BadId rest) (answer, later, there) = absurd cc
none_place role first next left (TooBig rest) (answer, later, there) = absurd cc
none_place role first next left Short (answer, later) = (refl, later)

err_place : (role : Role) (first next : Bool) (left : List ℕ) (d : ErrorCode) (c : Front) → AnswersFrame role first c (Err d) next left → FirstAfter role first c next
err_place role first next left d (Framed g rest) (answer, later, there) = later
err_place role first next left d (Unknown rest) h = absurd h
err_place role first next left d (BadId rest) (answer, later, there) = later
err_place role first next left d (TooBig rest) (answer, later, there) = later
err_place role first next left d Short (answer, later) = later

-- ---- a reader that moves past a frame that was read ahead, where the bytes are the same

ahead_run : (role : Role) (first next : Bool) (old left new : List ℕ) (r : Result (Option Content) ErrorCode) → MovesPast r old left new → AnswersFrame role first (front (skip_unknown old)) r next left → AnswersRun role first old r next new
ahead_run role first next old left new (Ok (Some f)) m h = rw m (run-some role first next old left f h)
ahead_run role first next old left new (Ok None) m h = (run-none role first next old left h, m)
ahead_run role first next old left new (Err d) m h = (run-err role first next old left d h, m)

ahead_place : (role : Role) (first next : Bool) (old left new : List ℕ) (r : Result (Option Content) ErrorCode) → MovesPast r old left new → AnswersFrame role first (front (skip_unknown old)) r next left → ReaderIsAfter role first old r next new
ahead_place role first next old left new (Ok (Some f)) m h = rw m (some_place role first next left f (front (skip_unknown old)) h)
ahead_place role first next old left new (Ok None) m h = let (short, same) = none_place role first next left (front (skip_unknown old)) h in (short, same, m)
ahead_place role first next old left new (Err d) m h = (err_place role first next left d (front (skip_unknown old)) h, m)

pub moved_run : (role : Role) (first next : Bool) (old ahead still left new : List ℕ) (r : Result (Option Content) ErrorCode) → ahead ≡ old → still ≡ old → MovesPast r still left new → AnswersFrame role first (front (skip_unknown ahead)) r next left → AnswersRun role first old r next new
moved_run role first next old ahead still left new r e s m h = ahead_run role first next old left new r (rw s at m) (rw e at h)

pub moved_place : (role : Role) (first next : Bool) (old ahead still left new : List ℕ) (r : Result (Option Content) ErrorCode) → ahead ≡ old → still ≡ old → MovesPast r still left new → AnswersFrame role first (front (skip_unknown ahead)) r next left → ReaderIsAfter role first old r next new
moved_place role first next old ahead still left new r e s m h = ahead_place role first next old left new r (rw s at m) (rw e at h)

-- unknown frames are skipped, if the bytes end
same_stop : (bytes other rest : List ℕ) (tail : Tail) → tail ≢ MayGoOn → run_stop bytes rest tail ≡ run_stop other rest tail
same_stop bytes other rest MayGoOn h = absurd (h refl)
same_stop bytes other [] Ended h = refl
same_stop bytes other (b ∷ rest) Ended h = refl
same_stop bytes other rest WasReset h = refl
same_stop bytes other rest Lost h = refl

same_end : (role : Role) (first : Bool) (bytes other rest : List ℕ) (tail : Tail) (c : Front) (more : Bool → List ℕ → Run) → tail ≢ MayGoOn → next_run more role first bytes rest tail c ≡ next_run more role first other rest tail c
same_end role first bytes other rest tail (Framed f behind) more h = refl
same_end role first bytes other rest tail (Unknown behind) more h = ap ends (same_stop bytes other rest tail h)
same_end role first bytes other rest tail (BadId behind) more h = refl
same_end role first bytes other rest tail (TooBig behind) more h = refl
same_end role first bytes other rest tail Short more h = ap ends (same_stop bytes other rest tail h)

pub run-unknown : (role : Role) (first : Bool) (bytes rest : List ℕ) (tail : Tail) → tail ≢ MayGoOn → front bytes ≡ Unknown rest → run role first bytes tail ≡ run role first rest tail
run-unknown role first bytes rest tail closed e =
    run-step role first bytes tail
    ∙ ap (λ (b : List ℕ). next_run (λ f r. run role f r tail) role first bytes b tail (front b)) (skip_unknown-unknown bytes rest e)
    ∙ same_end role first bytes rest (skip_unknown rest) tail (front (skip_unknown rest)) (λ f r. run role f r tail) closed
    ∙ sym (run-step role first rest tail)
