-- The frames of items are those of the run, as long as the reading goes on.
use Rattle.std.proofs.Common.{◌≡◌, ℕ, ◌+◌, ◌%◌, ◌≤◌, cond, Bool, true, false, List, [], ◌∷◌, ◌++◌, length, take, drop, Option, Some, None, Result, Ok, Err, refl, sym, ap, subst, ◌∙◌, arith, inl, inr, ◌⊎◌, append_assoc, length-drop}
use Rattle.std.specs.Prelude.{◌==◌, ◌||◌, ◌-◌, codes}
use Rattle.std.proofs.lemmas.Bool.{cases_lt, le-ltb}
use Rattle.std.proofs.lemmas.List.{drop-drop}
use Rattle.wtp_core.specs.Varint.{bytes_at}
use Rattle.wtp_core.specs.declared.error.ErrorCode.{ErrorCode}
use Rattle.wtp_wire.specs.Front.{Front, Framed, Unknown, BadId, TooBig, Short, front_after, front}
use Rattle.wtp_wire.specs.FramePrefix.{announcement_of}
use Rattle.wtp_wire.specs.declared.frame.kind.FrameKind.{FrameKind}
use Rattle.wtp_wire.specs.declared.frame.kind.FrameKind.TheVariants as kind-is
use Rattle.wtp_wire.proofs.FrontLemmas.{front-head}
use Rattle.wtp_wire.proofs.HeadPairLemmas.{head_at-pair}
use Rattle.wtp_wire.specs.Content.{Content as Frame, PlainOf}
use Rattle.wtp_wire.specs.Kind.{kind_of}
use Rattle.wtp_wire.specs.Role.{role_of}
use Rattle.wtp_wire.specs.Rule.{Role, rule}
use Rattle.wtp_wire.specs.Run.{Run, Tail, skip_unknown, run, next_run}
use Rattle.wtp_wire.specs.Settings.{settings_in}
use Rattle.wtp_wire.specs.declared.rules.StreamRole.{StreamRole}
use Rattle.wtp_wire.proofs.RunLaws.{run-allowed}
use Rattle.wtp_wire.proofs.RunLemmas.{skip_unknown-unknown, run-step}
use Rattle.wt_inspection_model.specs.declared.item.Content.{Content}
use Rattle.wt_inspection_model.specs.declared.item.Content.TheVariants as content-is
use Rattle.wt_inspection_model.specs.declared.item.Item.{Item}
use Rattle.wt_inspection_model.specs.declared.item.FrameItem.{FrameItem}
use Rattle.wt_inspection_model.specs.declared.item.Parts.{Parts}
use Rattle.wt_inspection_model.specs.declared.item.Parts.TheVariants as parts-is
use Rattle.wt_inspection_model.specs.declared.item.ending.End.{End}
use Rattle.wt_inspection_model.specs.declared.item.fields.SectionFault.{SectionFault}
use Rattle.wt_inspection_model.specs.declared.item.fields.SectionFault.TheVariants as fault-is
use Rattle.wt_inspection_model.specs.declared.item.Signal.{Signal}
use Rattle.wt_inspection_model.specs.declared.item.Signal.TheVariants as signal-is
use Rattle.vesgrauf_registry.specs.Frames.{kind_of as registered_kind_of}
use Rattle.vesgrauf_registry.specs.declared.frames.FrameType.{FrameType}
use Rattle.vesgrauf_registry.specs.declared.frames.FrameType.TheVariants as registered-is
use Rattle.wt_inspection_model.specs.declared.item.names.FrameName.{FrameName}
use Rattle.wt_inspection_model.specs.declared.item.names.FrameName.TheVariants as name-is
use Rattle.wt_inspection.specs.declared.reading.Next.{Next}
use Rattle.wt_inspection.specs.declared.reading.Next.TheVariants as next-is
use Rattle.wt_inspection.specs.DataCapsules.{Stage}
use Rattle.wt_inspection.specs.ItemFrames.{frame_of, frames_at, frames_in, IsWithin, IsReadable, AreReadable}
use Rattle.wt_inspection_model.specs.Names.{frame_name_of, named, name_in, other_name}
use Rattle.wtp_wire.specs.Settings.{pair_at}
use Rattle.wt_inspection.specs.Recording.{Then, AfterSection, AfterSettings, HasParts, HasSignal, IsCut, IsCutPart, Judged, JudgedCut, IsFrameAt, IsNext, IsNoFrame, IsRefused, Reads, is_session, name_fault, session_fault, still_first}

-- ---- where the reading goes on, it goes on as after a frame that is allowed

never_on : (on : Then) (next : Next) (place missing : ℕ) (item : List ℕ) → Ok next ≡ on → IsCut place item missing on → ⊥
never_on on next place missing item e stops = rw (← e) at stops

cut_on : (name : FrameName) (parts : Parts) (on : Then) (next : Next) (place missing : ℕ) (item : List ℕ) → IsCut place item missing on → IsCutPart name parts on (Ok next) → ⊥
cut_on name parts-is.Opaque on next place missing item stops e = never_on on next place missing item e stops
cut_on name (parts-is.Capsules capsules) on next place missing item stops (is, inl e) = never_on on next place missing item e stops
cut_on name (parts-is.Capsules capsules) on next place missing item stops (is, inr faults) = absurd faults
cut_on name (parts-is.Fields section) on next place missing item stops h = absurd h
cut_on name (parts-is.Settings lines) on next place missing item stops h = absurd h
cut_on name (parts-is.Signal signal) on next place missing item stops h = absurd h

-- a frame that is cut is the last one
judged_cut_on : (fault : Option ErrorCode) (name : FrameName) (place missing : ℕ) (parts : Parts) (next : Next) → JudgedCut fault name place missing parts (Ok next) → ⊥
judged_cut_on (Some c) name place missing parts next h = h.1
judged_cut_on None name place missing parts next (on, stops, part) = cut_on name parts on next place missing (codes "frame") stops part

section_on : (place : ℕ) (fault : Option SectionFault) (on : Then) (next : Next) → AfterSection place fault on (Ok next) → Ok next ≡ on
section_on place None on next h = h
section_on place (Some fault-is.NeedsDynamicTable) on next h = h
section_on place (Some (fault-is.NeedsInsertions required inserted)) on next h = h
section_on place (Some (fault-is.Malformed cause)) on next h = absurd h

settings_on : {A : Type 0} (place : ℕ) (r : Result A ErrorCode) (on : Then) (next : Next) → AfterSettings place r on (Ok next) → Ok next ≡ on
settings_on place (Ok settings) on next h = h
settings_on place (Err c) on next h = absurd h

-- what a frame says of requests and pushes
signal_on : (name : FrameName) (place : ℕ) (payload : List ℕ) (signal : Signal) (on : Then) (next : Next) → HasSignal name place payload signal on (Ok next) → Ok next ≡ on
signal_on (name-is.Read kind) place payload (signal-is.Id id) on next h = absurd h
signal_on (name-is.Read kind) place payload (signal-is.Priority id value) on next h = absurd h
signal_on (name-is.Read kind) place payload (signal-is.Promise id section) on next h = absurd h
signal_on name-is.CancelPush place payload (signal-is.Id id) on next h = h.1
signal_on name-is.CancelPush place payload (signal-is.Priority id value) on next h = absurd h
signal_on name-is.CancelPush place payload (signal-is.Promise id section) on next h = absurd h
signal_on name-is.PushPromise place payload (signal-is.Id id) on next h = absurd h
signal_on name-is.PushPromise place payload (signal-is.Priority id value) on next h = absurd h
signal_on name-is.PushPromise place payload (signal-is.Promise id section) on next h = section_on place section.fault on next h.1
signal_on name-is.Goaway place payload (signal-is.Id id) on next h = h.1
signal_on name-is.Goaway place payload (signal-is.Priority id value) on next h = absurd h
signal_on name-is.Goaway place payload (signal-is.Promise id section) on next h = absurd h
signal_on name-is.MaxPushId place payload (signal-is.Id id) on next h = h.1
signal_on name-is.MaxPushId place payload (signal-is.Priority id value) on next h = absurd h
signal_on name-is.MaxPushId place payload (signal-is.Promise id section) on next h = absurd h
signal_on name-is.PriorityUpdate place payload (signal-is.Id id) on next h = absurd h
signal_on name-is.PriorityUpdate place payload (signal-is.Priority id value) on next h = h.1
signal_on name-is.PriorityUpdate place payload (signal-is.Promise id section) on next h = absurd h
signal_on name-is.Http2 place payload (signal-is.Id id) on next h = absurd h
signal_on name-is.Http2 place payload (signal-is.Priority id value) on next h = absurd h
signal_on name-is.Http2 place payload (signal-is.Promise id section) on next h = absurd h
signal_on name-is.Unknown place payload (signal-is.Id id) on next h = absurd h
signal_on name-is.Unknown place payload (signal-is.Priority id value) on next h = absurd h
signal_on name-is.Unknown place payload (signal-is.Promise id section) on next h = absurd h

parts_on : (name : FrameName) (place : ℕ) (payload : List ℕ) (parts : Parts) (on : Then) (next : Next) → HasParts name place payload parts on (Ok next) → Ok next ≡ on
parts_on (name-is.Read kind-is.Data) place payload parts-is.Opaque on next h = h.1
parts_on (name-is.Read kind-is.Data) place payload (parts-is.Fields section) on next h = absurd h
parts_on (name-is.Read kind-is.Data) place payload (parts-is.Settings lines) on next h = absurd h
parts_on (name-is.Read kind-is.Data) place payload (parts-is.Capsules capsules) on next (inl e) = e
parts_on (name-is.Read kind-is.Data) place payload (parts-is.Capsules capsules) on next (inr stops) = absurd stops
parts_on (name-is.Read kind-is.Data) place payload (parts-is.Signal signal) on next h = signal_on (name-is.Read kind-is.Data) place payload signal on next h
parts_on (name-is.Read kind-is.Headers) place payload parts-is.Opaque on next h = absurd h
parts_on (name-is.Read kind-is.Headers) place payload (parts-is.Fields section) on next h = section_on place section.fault on next h.1
parts_on (name-is.Read kind-is.Headers) place payload (parts-is.Settings lines) on next h = absurd h
parts_on (name-is.Read kind-is.Headers) place payload (parts-is.Capsules capsules) on next h = absurd h
parts_on (name-is.Read kind-is.Headers) place payload (parts-is.Signal signal) on next h = signal_on (name-is.Read kind-is.Headers) place payload signal on next h
parts_on (name-is.Read kind-is.Settings) place payload parts-is.Opaque on next h = absurd h
parts_on (name-is.Read kind-is.Settings) place payload (parts-is.Fields section) on next h = absurd h
parts_on (name-is.Read kind-is.Settings) place payload (parts-is.Settings lines) on next h = settings_on place (settings_in payload) on next h.1
parts_on (name-is.Read kind-is.Settings) place payload (parts-is.Capsules capsules) on next h = absurd h
parts_on (name-is.Read kind-is.Settings) place payload (parts-is.Signal signal) on next h = signal_on (name-is.Read kind-is.Settings) place payload signal on next h
parts_on (name-is.Read kind-is.WebTransport) place payload parts-is.Opaque on next h = h.1
parts_on (name-is.Read kind-is.WebTransport) place payload (parts-is.Fields section) on next h = absurd h
parts_on (name-is.Read kind-is.WebTransport) place payload (parts-is.Settings lines) on next h = absurd h
parts_on (name-is.Read kind-is.WebTransport) place payload (parts-is.Capsules capsules) on next h = absurd h
parts_on (name-is.Read kind-is.WebTransport) place payload (parts-is.Signal signal) on next h = signal_on (name-is.Read kind-is.WebTransport) place payload signal on next h
parts_on (name-is.Read (kind-is.Exercise number)) place payload parts-is.Opaque on next h = h.1
parts_on (name-is.Read (kind-is.Exercise number)) place payload (parts-is.Fields section) on next h = absurd h
parts_on (name-is.Read (kind-is.Exercise number)) place payload (parts-is.Settings lines) on next h = absurd h
parts_on (name-is.Read (kind-is.Exercise number)) place payload (parts-is.Capsules capsules) on next h = absurd h
parts_on (name-is.Read (kind-is.Exercise number)) place payload (parts-is.Signal signal) on next h = signal_on (name-is.Read (kind-is.Exercise number)) place payload signal on next h
parts_on name-is.CancelPush place payload parts-is.Opaque on next h = h.1
parts_on name-is.CancelPush place payload (parts-is.Fields section) on next h = absurd h
parts_on name-is.CancelPush place payload (parts-is.Settings lines) on next h = absurd h
parts_on name-is.CancelPush place payload (parts-is.Capsules capsules) on next h = absurd h
parts_on name-is.CancelPush place payload (parts-is.Signal signal) on next h = signal_on name-is.CancelPush place payload signal on next h
parts_on name-is.PushPromise place payload parts-is.Opaque on next h = h.1
parts_on name-is.PushPromise place payload (parts-is.Fields section) on next h = absurd h
parts_on name-is.PushPromise place payload (parts-is.Settings lines) on next h = absurd h
parts_on name-is.PushPromise place payload (parts-is.Capsules capsules) on next h = absurd h
parts_on name-is.PushPromise place payload (parts-is.Signal signal) on next h = signal_on name-is.PushPromise place payload signal on next h
parts_on name-is.Goaway place payload parts-is.Opaque on next h = h.1
parts_on name-is.Goaway place payload (parts-is.Fields section) on next h = absurd h
parts_on name-is.Goaway place payload (parts-is.Settings lines) on next h = absurd h
parts_on name-is.Goaway place payload (parts-is.Capsules capsules) on next h = absurd h
parts_on name-is.Goaway place payload (parts-is.Signal signal) on next h = signal_on name-is.Goaway place payload signal on next h
parts_on name-is.MaxPushId place payload parts-is.Opaque on next h = h.1
parts_on name-is.MaxPushId place payload (parts-is.Fields section) on next h = absurd h
parts_on name-is.MaxPushId place payload (parts-is.Settings lines) on next h = absurd h
parts_on name-is.MaxPushId place payload (parts-is.Capsules capsules) on next h = absurd h
parts_on name-is.MaxPushId place payload (parts-is.Signal signal) on next h = signal_on name-is.MaxPushId place payload signal on next h
parts_on name-is.PriorityUpdate place payload parts-is.Opaque on next h = h.1
parts_on name-is.PriorityUpdate place payload (parts-is.Fields section) on next h = absurd h
parts_on name-is.PriorityUpdate place payload (parts-is.Settings lines) on next h = absurd h
parts_on name-is.PriorityUpdate place payload (parts-is.Capsules capsules) on next h = absurd h
parts_on name-is.PriorityUpdate place payload (parts-is.Signal signal) on next h = signal_on name-is.PriorityUpdate place payload signal on next h
parts_on name-is.Http2 place payload parts-is.Opaque on next h = h.1
parts_on name-is.Http2 place payload (parts-is.Fields section) on next h = absurd h
parts_on name-is.Http2 place payload (parts-is.Settings lines) on next h = absurd h
parts_on name-is.Http2 place payload (parts-is.Capsules capsules) on next h = absurd h
parts_on name-is.Http2 place payload (parts-is.Signal signal) on next h = signal_on name-is.Http2 place payload signal on next h
parts_on name-is.Unknown place payload parts-is.Opaque on next h = h.1
parts_on name-is.Unknown place payload (parts-is.Fields section) on next h = absurd h
parts_on name-is.Unknown place payload (parts-is.Settings lines) on next h = absurd h
parts_on name-is.Unknown place payload (parts-is.Capsules capsules) on next h = absurd h
parts_on name-is.Unknown place payload (parts-is.Signal signal) on next h = signal_on name-is.Unknown place payload signal on next h

-- a frame that is not refused
judged_on : (fault : Option ErrorCode) (name : FrameName) (place : ℕ) (payload : List ℕ) (parts : Parts) (on : Then) (next : Next) → Judged fault name place payload parts on (Ok next) → (fault ≡ None) × (Ok next ≡ on)
judged_on (Some c) name place payload parts on next h = absurd h.1
judged_on None name place payload parts on next h = (refl, parts_on name place payload parts on next h)

-- ---- the first frame of the bytes

bytes_there : (n : ℕ) (bytes : List ℕ) → n ≤ length bytes → bytes_at n bytes ≡ Some (take n bytes, drop n bytes)
unfolding bytes_at
bytes_there n bytes h = rw (le-ltb (length bytes) n h) refl

plain_front : (kind : FrameKind) (n : ℕ) (rest : List ℕ) → is_session (Some kind) ≡ false → n ≤ 4096 → n ≤ length rest → front_after (announcement_of (Some kind) n) rest ≡ Framed (PlainOf kind (take n rest)) (drop n rest)
plain_front kind-is.WebTransport n rest plain h there = absurd (cc plain)
plain_front kind-is.Data n rest plain h there = rw (le-ltb 4096 n h, bytes_there n rest there) refl
plain_front kind-is.Headers n rest plain h there = rw (le-ltb 4096 n h, bytes_there n rest there) refl
plain_front kind-is.Settings n rest plain h there = rw (le-ltb 4096 n h, bytes_there n rest there) refl
plain_front (kind-is.Exercise number) n rest plain h there = rw (le-ltb 4096 n h, bytes_there n rest there) refl

skipped_front : (n : ℕ) (rest : List ℕ) → n ≤ length rest → front_after (announcement_of None n) rest ≡ Unknown (drop n rest)
skipped_front n rest there = rw (bytes_there n rest there) refl

pub front_of_pair : (bytes rest : List ℕ) (number n : ℕ) → pair_at bytes ≡ Some ((number, n), rest) → front bytes ≡ front_after (announcement_of (kind_of number) n) rest
front_of_pair bytes rest number n e =
    front-head bytes rest (announcement_of (kind_of number) n) (head_at-pair bytes rest number n e)

-- ---- the frames of the run

same_frames : (more : Bool → List ℕ → Run) (role : Role) (first : Bool) (a b rest : List ℕ) (tail : Tail) (c : Front) → (next_run more role first a rest tail c).frames ≡ (next_run more role first b rest tail c).frames
same_frames more role first a b rest tail (Framed f behind) = refl
same_frames more role first a b rest tail (Unknown behind) = refl
same_frames more role first a b rest tail (BadId behind) = refl
same_frames more role first a b rest tail (TooBig behind) = refl
same_frames more role first a b rest tail Short = refl

unknown_frames : (role : Role) (first : Bool) (bytes rest : List ℕ) (tail : Tail) → front bytes ≡ Unknown rest → (run role first bytes tail).frames ≡ (run role first rest tail).frames
unknown_frames role first bytes rest tail e =
    let more = λ (f : Bool) (r : List ℕ). run role f r tail in
    ap (λ (r : Run). r.frames) (run-step role first bytes tail)
    ∙ ap (λ (b : List ℕ). (next_run more role first bytes b tail (front b)).frames) (skip_unknown-unknown bytes rest e)
    ∙ same_frames more role first bytes rest (skip_unknown rest) tail (front (skip_unknown rest))
    ∙ ap (λ (r : Run). r.frames) (sym (run-step role first rest tail))

-- ---- names without a kind

pick : (P : FrameName → Type 0) (b : Bool) (x y : FrameName) → P x → P y → P (cond b x y)
pick P true x y p q = p
pick P false x y p q = q

-- a stream skips a frame of this name
abbrev IsSkipped : FrameName → Type 0
IsSkipped name = ((first : Bool) → still_first first name ≡ first) × ((payload : List ℕ) → frame_of name payload ≡ [])

skipped_kind : (k : FrameType) → IsSkipped (name_in k)
skipped_kind registered-is.Data = ((λ first. refl), (λ payload. refl))
skipped_kind registered-is.Headers = ((λ first. refl), (λ payload. refl))
skipped_kind registered-is.CancelPush = ((λ first. refl), (λ payload. refl))
skipped_kind registered-is.Settings = ((λ first. refl), (λ payload. refl))
skipped_kind registered-is.PushPromise = ((λ first. refl), (λ payload. refl))
skipped_kind registered-is.GoAway = ((λ first. refl), (λ payload. refl))
skipped_kind registered-is.MaxPushId = ((λ first. refl), (λ payload. refl))
skipped_kind registered-is.Http2 = ((λ first. refl), (λ payload. refl))
skipped_kind registered-is.WebTransport = ((λ first. refl), (λ payload. refl))
skipped_kind registered-is.Unknown = ((λ first. refl), (λ payload. refl))

skipped : (n : ℕ) → IsSkipped (other_name n)
skipped n = pick IsSkipped ((n == 0xf0700) || (n == 0xf0701)) name-is.PriorityUpdate _ ((λ first. refl), (λ payload. refl)) (skipped_kind (registered_kind_of n))

-- ---- one item

-- what the run finds at an item after which the reading goes on: the item's frame, if a stream does
-- not skip it, and then the run of the bytes after it
record Goes (role : StreamRole) (first : Bool) (bytes : List ℕ) (len : ℕ) (content : Content) (next : Next) (tail : Tail) : Type 0 where
  pub still : Bool
  pub on : next ≡ next-is.Frames role still
  pub frames : (run (role_of role) first bytes tail).frames ≡ frames_at bytes content ++ (run (role_of role) still (drop len bytes) tail).frames

ok_is : {A E : Type 0} (x y : A) → ◌≡◌ {A = Result A E} (Ok x) (Ok y) → x ≡ y
ok_is x y e = cc e

name_is : (n : ℕ) (k : Option FrameKind) → kind_of n ≡ k → frame_name_of n ≡ named k n
unfolding frame_name_of
name_is n k e = ap (λ (o : Option FrameKind). named o n) e

frame_goes : (k : Option FrameKind) (f : FrameItem) (role : StreamRole) (first : Bool) (place : ℕ) (bytes : List ℕ) (len : ℕ) (next : Next) (tail : Tail) → kind_of f.number ≡ k → IsFrameAt role first place bytes len f (Ok next) → len ≤ length bytes → f.present ≡ f.announced → name_fault role first f.name ≡ None → next ≡ next-is.Frames role (still_first first f.name) → IsWithin f.name f.announced → Goes role first bytes len (content-is.Frame f) next tail
frame_goes None f role first place bytes len next tail e r within whole allowed goes readable =
    let name : f.name ≡ other_name f.number = r.name ∙ name_is f.number None e in
    let s = skipped f.number in
    let there : f.announced ≤ length (drop f.head bytes) = omega (arith, length-drop f.head bytes, r.size, whole) in
    let sum : f.head + f.announced ≡ len = omega (arith, r.size, whole) in
    let behind : drop f.announced (drop f.head bytes) ≡ drop len bytes = drop-drop f.announced f.head bytes ∙ ap (λ (x : ℕ). drop x bytes) sum in
    let at : front bytes ≡ Unknown (drop len bytes) =
    front_of_pair bytes (drop f.head bytes) f.number f.announced r.numbers
    ∙ ap (λ (k : Option FrameKind). front_after (announcement_of k f.announced) (drop f.head bytes)) e
    ∙ skipped_front f.announced (drop f.head bytes) there
    ∙ ap (λ (x : List ℕ). Unknown x) behind in
    let none : frame_of f.name (take f.present (drop f.head bytes)) ≡ [] = ap (λ (x : FrameName). frame_of x (take f.present (drop f.head bytes))) name ∙ s.1 (take f.present (drop f.head bytes)) in
    record {
      still = first;
      on = goes ∙ ap (λ (x : Bool). next-is.Frames role x) (ap (λ (x : FrameName). still_first first x) name ∙ s.0 first);
      frames = unknown_frames (role_of role) first bytes (drop len bytes) tail at ∙ ap (λ (fs : List Frame). fs ++ (run (role_of role) first (drop len bytes) tail).frames) (sym none);
    }
frame_goes (Some kind) f role first place bytes len next tail e r within whole allowed goes readable =
    let name : f.name ≡ name-is.Read kind = r.name ∙ name_is f.number (Some kind) e in
    let plain : is_session (Some kind) ≡ false = ap is_session (sym e) ∙ r.plain in
    let small : f.announced ≤ 4096 = subst (λ (x : FrameName). IsWithin x f.announced) name readable in
    let rule_none : rule (role_of role) first kind ≡ None = ap (λ (x : FrameName). name_fault role first x) (sym name) ∙ allowed in
    let there : f.announced ≤ length (drop f.head bytes) = omega (arith, length-drop f.head bytes, r.size, whole) in
    let sum : f.head + f.announced ≡ len = omega (arith, r.size, whole) in
    let behind : drop f.announced (drop f.head bytes) ≡ drop len bytes = drop-drop f.announced f.head bytes ∙ ap (λ (x : ℕ). drop x bytes) sum in
    let at : front bytes ≡ Framed (PlainOf kind (take f.announced (drop f.head bytes))) (drop len bytes) =
    front_of_pair bytes (drop f.head bytes) f.number f.announced r.numbers
    ∙ ap (λ (k : Option FrameKind). front_after (announcement_of k f.announced) (drop f.head bytes)) e
    ∙ plain_front kind f.announced (drop f.head bytes) plain small there
    ∙ ap (λ (x : List ℕ). Framed (PlainOf kind (take f.announced (drop f.head bytes))) x) behind in
    let one : PlainOf kind (take f.announced (drop f.head bytes)) ∷ [] ≡ frame_of f.name (take f.present (drop f.head bytes)) = ap (λ (n : ℕ). PlainOf kind (take n (drop f.head bytes)) ∷ []) (sym whole) ∙ ap (λ (x : FrameName). frame_of x (take f.present (drop f.head bytes))) (sym name) in
    record {
      still = false;
      on = goes ∙ ap (λ (x : FrameName). next-is.Frames role (still_first first x)) name;
      frames = ap (λ (x : Run). x.frames) (run-allowed (role_of role) first bytes (drop len bytes) tail (PlainOf kind (take f.announced (drop f.head bytes))) at rule_none) ∙ ap (λ (fs : List Frame). fs ++ (run (role_of role) false (drop len bytes) tail).frames) one;
    }

refused_on : (place : ℕ) (even : Bool) (fault : Option ErrorCode) (next : Next) → IsRefused place even fault (Ok next) → ⊥
refused_on place false fault next h = h
refused_on place true None next h = h
refused_on place true (Some c) next h = h

no_frame_on : (role : StreamRole) (first : Bool) (place : ℕ) (bytes : List ℕ) (pair : Option ((ℕ × ℕ) × List ℕ)) (next : Next) → IsNoFrame role first place bytes pair (Ok next) → ⊥
no_frame_on role first place bytes None next h = h
no_frame_on role first place bytes (Some ((number, id), rest)) next h = refused_on place (id % 4 == 0) (session_fault role first place) next h.1

one_item : (content : Content) (role : StreamRole) (first : Bool) (place : ℕ) (bytes : List ℕ) (len : ℕ) (next : Next) (tail : Tail) → len ≤ length bytes → IsNext (next-is.Frames role first) place bytes len content (Ok next) → IsReadable content → (next ≡ next-is.Payload) ⊎ Goes role first bytes len content next tail
one_item (content-is.Frame f) role first place bytes len next tail within r readable = elim (cases_lt f.present f.announced) [
  | inl cut ↦ absurd (judged_cut_on (name_fault role first f.name) f.name place (f.announced - f.present) f.parts next (r.cut cut).1)
  | inr full ↦
      let whole : f.present ≡ f.announced = omega (arith, r.most, full) in
      let (allowed, on) = judged_on (name_fault role first f.name) f.name place (take f.present (drop f.head bytes)) f.parts (Ok (next-is.Frames role (still_first first f.name))) next (r.whole whole) in
      inr (frame_goes (kind_of f.number) f role first place bytes len next tail refl r within whole allowed (ok_is {E = End} next (next-is.Frames role (still_first first f.name)) on) readable)
]
one_item (content-is.Session id) role first place bytes len next tail within h readable = inl (ok_is {E = End} next next-is.Payload h.2)
one_item content-is.Unread role first place bytes len next tail within h readable = absurd (no_frame_on role first place bytes (pair_at bytes) next h.1)
one_item (content-is.Stream head) role first place bytes len next tail within h readable = absurd h
one_item content-is.Payload role first place bytes len next tail within h readable = absurd h
one_item (content-is.Capsule c) role first place bytes len next tail within h readable = absurd h
one_item (content-is.Datagram d) role first place bytes len next tail within h readable = absurd h
one_item (content-is.Section section) role first place bytes len next tail within h readable = absurd h
one_item (content-is.Settings lines) role first place bytes len next tail within h readable = absurd h
one_item (content-is.Instruction item) role first place bytes len next tail within h readable = absurd h

-- ---- what follows payload, or the end of the reading

payload_stays : (content : Content) (place : ℕ) (bytes : List ℕ) (len : ℕ) (after : Then) → IsNext next-is.Payload place bytes len content after → after ≡ Ok next-is.Payload
payload_stays content-is.Payload place bytes len after h = h.1
payload_stays (content-is.Frame f) place bytes len after h = absurd h
payload_stays (content-is.Session id) place bytes len after h = absurd h
payload_stays content-is.Unread place bytes len after h = absurd h
payload_stays (content-is.Stream head) place bytes len after h = absurd h
payload_stays (content-is.Capsule c) place bytes len after h = absurd h
payload_stays (content-is.Datagram d) place bytes len after h = absurd h
payload_stays (content-is.Section section) place bytes len after h = absurd h
payload_stays (content-is.Settings lines) place bytes len after h = absurd h
payload_stays (content-is.Instruction item) place bytes len after h = absurd h

never_back : (items : List Item) (role : StreamRole) (first : Bool) (stage final : Stage) (bytes rest : List ℕ) → Reads (Ok next-is.Payload) stage bytes items (Ok (next-is.Frames role first)) final rest → ⊥
never_back [] role first stage final bytes rest (same, still, all) = cc same
never_back (item ∷ items) role first stage final bytes rest (after, next, within, step, moves, reads) =
    never_back items role first next final (drop item.length bytes) rest (subst (λ (a : Then). Reads a next (drop item.length bytes) items (Ok (next-is.Frames role first)) final rest) (payload_stays item.content item.at bytes item.length after step) reads)

stopped : (items : List Item) (end : End) (next : Next) (stage final : Stage) (bytes rest : List ℕ) → Reads (Err end) stage bytes items (Ok next) final rest → ⊥
stopped [] end next stage final bytes rest (same, still, all) = cc same
stopped (item ∷ items) end next stage final bytes rest (after, mid, within, (unread, all, same), moves, reads) =
    stopped items end next mid final (drop item.length bytes) rest (subst (λ (a : Then). Reads a mid (drop item.length bytes) items (Ok next) final rest) same reads)

-- ---- all items

pub frames_of_run : (items : List Item) (role : StreamRole) (first still : Bool) (stage final : Stage) (bytes rest : List ℕ) (tail : Tail) → Reads (Ok (next-is.Frames role first)) stage bytes items (Ok (next-is.Frames role still)) final rest → AreReadable items → (run (role_of role) first bytes tail).frames ≡ frames_in bytes items ++ (run (role_of role) still rest tail).frames
frames_of_run [] role first still stage final bytes rest tail (same, kept, all) readable =
    let one : first ≡ still = cc same in
    rw (one, all) refl
frames_of_run (item ∷ items) role first still stage final bytes rest tail (Err end, mid, within, step, moves, reads) readable =
    absurd (stopped items end (next-is.Frames role still) mid final (drop item.length bytes) rest reads)
frames_of_run (item ∷ items) role first still stage final bytes rest tail (Ok next, mid, within, step, moves, reads) (one, others) = elim (one_item item.content role first item.at bytes item.length next tail within.1 step one) [
  | inl is ↦ absurd (never_back items role still mid final (drop item.length bytes) rest (subst (λ (n : Next). Reads (Ok n) mid (drop item.length bytes) items (Ok (next-is.Frames role still)) final rest) is reads))
  | inr g ↦
      let more = frames_of_run items role g.still still mid final (drop item.length bytes) rest tail (subst (λ (n : Next). Reads (Ok n) mid (drop item.length bytes) items (Ok (next-is.Frames role still)) final rest) g.on reads) others in
      g.frames ∙ ap (λ (fs : List Frame). frames_at bytes item.content ++ fs) more ∙ sym (append_assoc (frames_at bytes item.content) (frames_in (drop item.length bytes) items) (run (role_of role) still rest tail).frames)
]
