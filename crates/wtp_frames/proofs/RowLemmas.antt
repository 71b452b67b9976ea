-- What the grammar does not have is reported.
use Rattle.std.proofs.Common.{◌≡◌, ◌||◌, ℕ, ◌%◌, ◌<◌, ◌≤◌, ◌==◌, Bool, cond, true, false, List, [], ◌∷◌, ◌++◌, length, Option, Some, None, Result, Ok, Err, refl, sym, ap, ◌∙◌, arith, append_assoc}
use Rattle.std.proofs.lemmas.Bool.{lt-ltb, le-ltb, ne_eqb}
use Rattle.std.proofs.lemmas.List.{append-nil}
use Rattle.wtp_core.specs.Varint.{Encodes, number_at}
use Rattle.wtp_core.proofs.EncodingLemmas.{number_at-encodes}
use Rattle.wtp_frames.specs.declared.endpoint.Endpoint.{Endpoint}
use Rattle.wtp_frames.specs.declared.endpoint.Side.{Side}
use Rattle.wtp_frames.specs.declared.endpoint.Side.TheVariants.{Client, Server}
use Rattle.wtp_frames.specs.declared.frame_type.FrameType.{FrameType}
use Rattle.wtp_frames.specs.declared.frame_type.FrameType.TheVariants as kind
use Rattle.wtp_frames.specs.declared.fault.Fault.{Fault}
use Rattle.wtp_frames.specs.declared.fault.Fault.TheVariants as fault
use Rattle.wtp_frames.specs.declared.reader.Place.TheVariants.{BeforeHeaders, Body, AfterTrailers, AfterSettings}
use Rattle.wtp_frames.specs.declared.rules.Action.{Action}
use Rattle.wtp_frames.specs.declared.rules.Action.TheVariants.{Give, Stream, Skip, Refuse}
use Rattle.wtp_frames.specs.FrameType.{type_of}
use Rattle.wtp_frames.specs.Fault.{code_of, scope_of}
use Rattle.wtp_frames.specs.Grammar.{Frame, written, IsFrame, IsUnknown, Message, message_bytes, message_items, ValidMessage, Stage, NoHeaders, InContent, HasTrailers, stage, count, Ids, ids_bytes, ids_items, last_goaway, last_push}
use Rattle.wtp_frames.specs.Item.{Item, Whole, Broken}
use Rattle.wtp_frames.specs.Rules.{promised, without_content, webtransport, number_frame, push_limit, before_settings, after_settings, action_of, one_number, alone, not_above, goes_away, not_below, with_number}
use Rattle.wtp_frames.specs.Run.{Run, is_failed, run}
use Rattle.wtp_frames.specs.Start.{awaiting, control_reader, between, place_of}
use Rattle.wtp_frames.specs.Codes.{Reports, IsSettled, AfterIds, InMessage, OnControl, TooLong, NoNumber, Fails}
use Rattle.wtp_frames.specs.Reading.{by_missing, incomplete, by_end}
use Rattle.wtp_frames.proofs.WrittenLemmas.{refused_written, unaccepted_written, unknown_action}
use Rattle.wtp_frames.proofs.GrammarLemmas.{Reaches, Settles, message_run, settings_run, encoded_small, encoded_number, number_gives}

-- ---- after the frames of a message

stage_intact : (s : Stage) → is_failed (place_of s) ≡ false
stage_intact NoHeaders = refl
stage_intact InContent = refl
stage_intact HasTrailers = refl

pub message_reports : (e : Endpoint) (j : ℕ) (m : Message) (id n : ℕ) (t u more : List ℕ) (f : Fault) → ValidMessage e.webtransport 0 m → Encodes id t → Encodes n u → action_of e (place_of (stage m)) (count 0 m) (type_of id) n ≡ Refuse f → Reports (run (awaiting e j) (message_bytes m ++ (t ++ (u ++ more)))) (message_items e.max_section m) (code_of f) (scope_of f)
message_reports e j m id n t u more f v a b is =
    let x : Reaches (awaiting e j) (message_bytes m) (message_items e.max_section m) e j (place_of (stage m)) (count 0 m) (t ++ (u ++ more)) = message_run e j m false 0 (t ++ (u ++ more)) v in
    record {
      fault = f;
      given =
          ap (λ (y : Run). y.items) x.is
          ∙ ap (λ (y : Run). message_items e.max_section m ++ y.items) (refused_written (between e j (place_of (stage m)) x.streamed (count 0 m)) id n t u more f (record { intact = stage_intact (stage m); none = refl }) a b is);
      coded = refl;
      scoped = refl;
    }

-- a row of the table at one stage
pub row_at : (e : Endpoint) (s : Stage) (id : ℕ) (f : Fault) → ((idle n : ℕ) → action_of e (place_of s) idle (type_of id) n ≡ Refuse f) → InMessage e s id (code_of f) (scope_of f)
row_at e s id f h j m t u more n v at a b = message_reports e j m id n t u more f v a b (ap (λ (x : Stage). action_of e (place_of x) (count 0 m) (type_of id) n) at ∙ h (count 0 m) n)

-- a row of all stages
pub any_stage : (e : Endpoint) (id : ℕ) (f : Fault) → ((idle n : ℕ) → action_of e BeforeHeaders idle (type_of id) n ≡ Refuse f) → ((idle n : ℕ) → action_of e Body idle (type_of id) n ≡ Refuse f) → ((idle n : ℕ) → action_of e AfterTrailers idle (type_of id) n ≡ Refuse f) → (s : Stage) → InMessage e s id (code_of f) (scope_of f)
any_stage e id f h i j NoHeaders = row_at e NoHeaders id f h
any_stage e id f h i j InContent = row_at e InContent id f i
any_stage e id f h i j HasTrailers = row_at e HasTrailers id f j

crowded : (idle : ℕ) (a : Action) → 1024 ≤ idle → without_content idle a ≡ Refuse fault.ExcessiveLoad
crowded idle a l = rw (le-ltb idle 1024 l) refl

pub unknown_crowded : (e : Endpoint) (s : Stage) (idle id n : ℕ) → IsUnknown e.webtransport id → 1024 ≤ idle → action_of e (place_of s) idle (type_of id) n ≡ Refuse fault.ExcessiveLoad
unknown_crowded e NoHeaders idle id n u l = unknown_action e id (λ k. action_of e BeforeHeaders idle k n) (without_content idle Skip) u refl refl ∙ crowded idle Skip l
unknown_crowded e InContent idle id n u l = unknown_action e id (λ k. action_of e Body idle k n) (without_content idle Skip) u refl refl ∙ crowded idle Skip l
unknown_crowded e HasTrailers idle id n u l = unknown_action e id (λ k. action_of e AfterTrailers idle k n) (without_content idle Skip) u refl refl ∙ crowded idle Skip l

pub empty_crowded : (e : Endpoint) (s : Stage) (idle : ℕ) → s ≡ InContent → 1024 ≤ idle → action_of e (place_of s) idle kind.Data 0 ≡ Refuse fault.ExcessiveLoad
empty_crowded e s idle at l = ap (λ (x : Stage). action_of e (place_of x) idle kind.Data 0) at ∙ crowded idle Stream l

-- ---- on a control stream

pub first_reports : (e : Endpoint) (id n : ℕ) (t u more : List ℕ) (f : Fault) → Encodes id t → Encodes n u → before_settings (type_of id) n ≡ Refuse f → Reports (run (control_reader e) (t ++ (u ++ more))) [] (code_of f) (scope_of f)
first_reports e id n t u more f a b is = record {
  fault = f;
  given = ap (λ (y : Run). y.items) (refused_written (control_reader e) id n t u more f (record { intact = refl; none = refl }) a b is);
  coded = refl;
  scoped = refl;
}

-- the frames that may come after SETTINGS: what is reported after them
after_ids : (e : Endpoint) (settings : Frame) (ids : Ids) (bytes : List ℕ) (f : Fault) → IsSettled e settings ids → ((streamed : Bool) (idle : ℕ) (more : List ℕ) → (run (between e 0 (AfterSettings (last_goaway None ids) (last_push None ids)) streamed idle) (bytes ++ more)).items ≡ Broken f ∷ []) → AfterIds e settings ids bytes (code_of f) (scope_of f)
after_ids e settings ids bytes f s h more =
    let x : Settles (control_reader e) (written settings ++ ids_bytes ids) (Whole kind.Settings settings.payload ∷ ids_items ids) e (last_goaway None ids) (last_push None ids) (bytes ++ more) = settings_run e settings ids (bytes ++ more) s.frame s.size s.rest in
    record {
      fault = f;
      given =
          ap (λ (l : List ℕ). (run (control_reader e) l).items) (sym (append_assoc (written settings) (ids_bytes ids) (bytes ++ more)))
          ∙ ap (λ (y : Run). y.items) x.is
          ∙ ap (λ (l : List Item). (Whole kind.Settings settings.payload ∷ ids_items ids) ++ l) (h x.streamed x.idle more);
      coded = refl;
      scoped = refl;
    }

pub head_after : (e : Endpoint) (settings : Frame) (ids : Ids) (id n : ℕ) (t u : List ℕ) (f : Fault) → IsSettled e settings ids → Encodes id t → Encodes n u → after_settings e (type_of id) n ≡ Refuse f → AfterIds e settings ids (t ++ u) (code_of f) (scope_of f)
head_after e settings ids id n t u f s a b is = after_ids e settings ids (t ++ u) f s (λ streamed idle more.
    ap (λ (l : List ℕ). (run (between e 0 (AfterSettings (last_goaway None ids) (last_push None ids)) streamed idle) l).items) (append_assoc t u more)
    ∙ ap (λ (y : Run). y.items) (refused_written (between e 0 (AfterSettings (last_goaway None ids) (last_push None ids)) streamed idle) id n t u more f (record { intact = refl; none = refl }) a b is))

pub frame_after : (e : Endpoint) (settings g : Frame) (ids : Ids) (id : ℕ) (f : Fault) → IsSettled e settings ids → IsFrame id g → after_settings e (type_of id) (length g.payload) ≡ Give → with_number e.side (last_goaway None ids) (last_push None ids) (type_of id) (one_number g.payload) ≡ Err f → AfterIds e settings ids (written g) (code_of f) (scope_of f)
frame_after e settings g ids id f s is t a = after_ids e settings ids (written g) f s (λ streamed idle more.
    ap (λ (y : Run). y.items) (unaccepted_written (between e 0 (AfterSettings (last_goaway None ids) (last_push None ids)) streamed idle) id g more f (record { intact = refl; none = refl }) is t a))

-- a row of the table after SETTINGS
pub control_row : (e : Endpoint) (id : ℕ) (f : Fault) → ((n : ℕ) → after_settings e (type_of id) n ≡ Refuse f) → OnControl e id (code_of f) (scope_of f)
control_row e id f h settings ids t u n s a b = head_after e settings ids id n t u f s a b (h n)

long_number : (n : ℕ) → 8 < n → number_frame n ≡ Refuse fault.Frame
long_number n l = rw (lt-ltb 8 n l) refl

pub long_row : (e : Endpoint) (id : ℕ) → ((n : ℕ) → after_settings e (type_of id) n ≡ number_frame n) → TooLong e id 0x0106 (scope_of fault.Frame)
long_row e id h settings ids t u n s a b l = head_after e settings ids id n t u fault.Frame s a b (h n ∙ long_number n l)

not_alone : (payload : List ℕ) (o : Option (ℕ × List ℕ)) → number_at payload ≡ o → ((n : ℕ) → Encodes n payload → ⊥) → alone o ≡ None
not_alone payload None e h = refl
not_alone payload (Some (n, [])) e h =
    let (s, enc, parts) = number_at-encodes n payload [] e in
    absurd (h n (rw (parts, append-nil s) enc))
not_alone payload (Some (n, b ∷ rest)) e h = refl

no_number : (payload : List ℕ) → ((n : ℕ) → Encodes n payload → ⊥) → one_number payload ≡ None
unfolding one_number
no_number payload h = not_alone payload (number_at payload) refl h

pub short_row : (e : Endpoint) (id : ℕ) → ((n : ℕ) → after_settings e (type_of id) n ≡ number_frame n) → NoNumber e id 0x0106 (scope_of fault.Frame)
short_row e id h settings g ids s is l none = frame_after e settings g ids id fault.Frame s is (h (length g.payload) ∙ number_gives (length g.payload) l) (ap (λ (o : Option ℕ). with_number e.side (last_goaway None ids) (last_push None ids) (type_of id) o) (no_number g.payload none))

-- a row of the IDs
pub id_row : (e : Endpoint) (settings g : Frame) (ids : Ids) (id n : ℕ) (f : Fault) → IsSettled e settings ids → IsFrame id g → Encodes n g.payload → after_settings e (type_of id) (length g.payload) ≡ number_frame (length g.payload) → with_number e.side (last_goaway None ids) (last_push None ids) (type_of id) (Some n) ≡ Err f → AfterIds e settings ids (written g) (code_of f) (scope_of f)
id_row e settings g ids id n f s is enc t a = frame_after e settings g ids id f s is (t ∙ number_gives (length g.payload) (encoded_small n g.payload enc)) (ap (λ (o : Option ℕ). with_number e.side (last_goaway None ids) (last_push None ids) (type_of id) o) (encoded_number n g.payload enc) ∙ a)

-- ---- the first frame

-- only 0x04 is SETTINGS
pick : (b : Bool) (x y : FrameType) (n : ℕ) → before_settings x n ≡ Refuse fault.MissingSettings → before_settings y n ≡ Refuse fault.MissingSettings → before_settings (cond b x y) n ≡ Refuse fault.MissingSettings
pick true x y n h k = h
pick false x y n h k = k

-- the types other than SETTINGS, from one on
abbrev from_webtransport : ℕ → FrameType
from_webtransport id = cond (id == 0x41) kind.WebTransport (kind.Unknown)

abbrev from_http2 : ℕ → FrameType
from_http2 id = cond (((id == 0x02 || id == 0x06) || id == 0x08) || id == 0x09) kind.Http2 (from_webtransport id)

abbrev from_maxpushid : ℕ → FrameType
from_maxpushid id = cond (id == 0x0d) kind.MaxPushId (from_http2 id)

abbrev from_goaway : ℕ → FrameType
from_goaway id = cond (id == 0x07) kind.GoAway (from_maxpushid id)

abbrev from_pushpromise : ℕ → FrameType
from_pushpromise id = cond (id == 0x05) kind.PushPromise (from_goaway id)

abbrev from_cancelpush : ℕ → FrameType
from_cancelpush id = cond (id == 0x03) kind.CancelPush (from_pushpromise id)

abbrev from_headers : ℕ → FrameType
from_headers id = cond (id == 0x01) kind.Headers (from_cancelpush id)

abbrev from_data : ℕ → FrameType
from_data id = cond (id == 0x00) kind.Data (from_headers id)

other_types : (id n : ℕ) → before_settings (from_data id) n ≡ Refuse fault.MissingSettings
other_types id n = pick (id == 0x00) kind.Data (from_headers id) n refl (pick (id == 0x01) kind.Headers (from_cancelpush id) n refl (pick (id == 0x03) kind.CancelPush (from_pushpromise id) n refl (pick (id == 0x05) kind.PushPromise (from_goaway id) n refl (pick (id == 0x07) kind.GoAway (from_maxpushid id) n refl (pick (id == 0x0d) kind.MaxPushId (from_http2 id) n refl (pick (((id == 0x02 || id == 0x06) || id == 0x08) || id == 0x09) kind.Http2 (from_webtransport id) n refl (pick (id == 0x41) kind.WebTransport (kind.Unknown) n refl (refl))))))))

pub no_settings : (id n : ℕ) → (id ≡ 0x04 → ⊥) → before_settings (type_of id) n ≡ Refuse fault.MissingSettings
no_settings id n h = rw (ne_eqb id 0x04 h) (other_types id n)

pub long_settings : (n : ℕ) → 4096 < n → before_settings kind.Settings n ≡ Refuse fault.ExcessiveLoad
long_settings n l = rw (lt-ltb 4096 n l) refl

-- ---- IDs

pub no_request : (side : Side) (goaway push : Option ℕ) (n : ℕ) → side ≡ Client → (n % 4 ≡ 0 → ⊥) → with_number side goaway push kind.GoAway (Some n) ≡ Err fault.Id
no_request Client goaway push n e h = rw (ne_eqb (n % 4) 0 h) refl
no_request Server goaway push n e h = absurd (cc)

rising : (goaway push : Option ℕ) (n last : ℕ) → goaway ≡ Some last → last < n → not_above goaway n push ≡ Err fault.Id
rising None push n last e l = absurd (cc)
rising (Some x) push n last e l = let same : x ≡ last = some_is x last e in rw (same, lt-ltb last n l) refl
  where
    some_is : (x y : ℕ) → Some x ≡ Some y → x ≡ y
    some_is x y e = cc

pub goaway_rises : (side : Side) (goaway push : Option ℕ) (n last : ℕ) → goaway ≡ Some last → last < n → with_number side goaway push kind.GoAway (Some n) ≡ Err fault.Id
goaway_rises Client goaway push n last e l = elim (n % 4 == 0) as (λ b. goes_away goaway push (cond b (Ok n) (Err fault.Id)) ≡ Err fault.Id) [
  | true ↦ rising goaway push n last e l
  | false ↦ refl
]
goaway_rises Server goaway push n last e l = rising goaway push n last e l

pub push_falls : (goaway push : Option ℕ) (n last : ℕ) → push ≡ Some last → n < last → not_below goaway push n ≡ Err fault.Id
push_falls goaway None n last e l = absurd (cc)
push_falls goaway (Some x) n last e l = let same : x ≡ last = some_is x last e in rw (same, lt-ltb n last l) refl
  where
    some_is : (x y : ℕ) → Some x ≡ Some y → x ≡ y
    some_is x y e = cc

-- ---- what depends on the side, and on the own settings

pub promise_server : (e : Endpoint) → e.side ≡ Server → (s : Stage) → InMessage e s 0x05 0x0105 (scope_of fault.FrameUnexpected)
promise_server e h = any_stage e 0x05 fault.FrameUnexpected (λ idle n. ap promised h) (λ idle n. ap promised h) (λ idle n. ap promised h)

pub promise_client : (e : Endpoint) → e.side ≡ Client → (s : Stage) → InMessage e s 0x05 0x0108 (scope_of fault.Id)
promise_client e h = any_stage e 0x05 fault.Id (λ idle n. ap promised h) (λ idle n. ap promised h) (λ idle n. ap promised h)

pub enabled : (e : Endpoint) (a : Action) → e.webtransport ≡ true → webtransport e a ≡ Refuse fault.Frame
enabled e a h = rw h refl

pub stream_type : (e : Endpoint) → e.webtransport ≡ true → (s : Stage) → InMessage e s 0x41 0x0106 (scope_of fault.Frame)
stream_type e h = any_stage e 0x41 fault.Frame (λ idle n. enabled e (without_content idle Skip) h) (λ idle n. enabled e (without_content idle Skip) h) (λ idle n. enabled e (without_content idle Skip) h)

pub control_type : (e : Endpoint) → e.webtransport ≡ true → OnControl e 0x41 0x0106 (scope_of fault.Frame)
control_type e h = control_row e 0x41 fault.Frame (λ n. enabled e Skip h)

pub limit_client : (e : Endpoint) → e.side ≡ Client → OnControl e 0x0d 0x0105 (scope_of fault.FrameUnexpected)
limit_client e h = control_row e 0x0d fault.FrameUnexpected (λ n. ap (λ (x : Side). push_limit x n) h)

pub limit_server : (e : Endpoint) (n : ℕ) → e.side ≡ Server → push_limit e.side n ≡ number_frame n
limit_server e n h = ap (λ (x : Side). push_limit x n) h

-- ---- ends

pub missing : (n : ℕ) (x : Result (Unit {0}) Fault) → 0 < n → by_missing n x ≡ Err fault.Frame
missing n x l = rw (ne_eqb n 0 (λ z. omega (arith, z, l))) refl

pub cut_fails : (side : Side) (s : Stage) (n : ℕ) → 0 < n → Fails (by_end side (place_of s) n) 0x0106 (scope_of fault.Frame)
cut_fails side NoHeaders n l = record { fault = fault.Frame; is = missing n (Err (incomplete side)) l; coded = refl; scoped = refl }
cut_fails side InContent n l = record { fault = fault.Frame; is = missing n (Ok tt) l; coded = refl; scoped = refl }
cut_fails side HasTrailers n l = record { fault = fault.Frame; is = missing n (Ok tt) l; coded = refl; scoped = refl }
