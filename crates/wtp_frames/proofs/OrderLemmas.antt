-- What a step adds comes in order.
use Rattle.std.proofs.Common.{◌≡◌, ℕ, ◌%◌, ◌<◌, ◌==◌, Bool, true, false, cond, ltb, List, [], ◌∷◌, ◌++◌, map, Option, Some, None, Result, Ok, Err, refl, sym, subst, inl, inr}
use Rattle.std.proofs.lemmas.Bool.{cases_lt, lt-ltb, le-ltb, eqb-true}
use Rattle.wtp_frames.specs.declared.endpoint.Endpoint.{Endpoint}
use Rattle.wtp_frames.specs.declared.endpoint.Side.{Side}
use Rattle.wtp_frames.specs.declared.endpoint.Side.TheVariants.{Client, Server}
use Rattle.wtp_frames.specs.declared.frame_type.FrameType.{FrameType}
use Rattle.wtp_frames.specs.declared.frame_type.FrameType.TheVariants as kind
use Rattle.wtp_frames.specs.declared.fault.Fault.{Fault}
use Rattle.wtp_frames.specs.declared.fault.Fault.TheVariants as fault
use Rattle.wtp_frames.specs.declared.reader.Place.{Place}
use Rattle.wtp_frames.specs.declared.reader.Place.TheVariants.{BeforeHeaders, Body, AfterTrailers, Tunnel, BeforeSettings, AfterSettings, Failed}
use Rattle.wtp_frames.specs.declared.reader.Reader.{Reader}
use Rattle.wtp_frames.specs.declared.rules.Action.{Action}
use Rattle.wtp_frames.specs.declared.rules.Action.TheVariants.{Give, Stream, Skip, SkipSection, Refuse}
use Rattle.wtp_frames.specs.Grammar.{Names, NotAbove, NotBelow, TakesPushes}
use Rattle.wtp_frames.specs.Item.{Item, Whole, Byte, TooLarge, Broken}
use Rattle.wtp_frames.specs.Rules.{promised, without_content, webtransport, before_headers, in_body, after_trailers, in_tunnel, before_settings, number_frame, push_limit, after_settings, action_of, one_number, is_request, not_above, goes_away, not_below, with_number, accepted, after_section}
use Rattle.wtp_frames.specs.Run.{pieces, is_failed}
use Rattle.wtp_frames.specs.Order.{IsBody, IsMessage, IsTunnel, AreIds, IsControl, IsAfter, IsReader, takes_data}
use Rattle.wtp_frames.proofs.MoveLemmas.{promised_gives, trailers_give, tunnel_gives}

-- ---- pieces of DATA

body_bytes : (bytes : List ℕ) (more : List Item) → IsBody more → IsBody (map Byte bytes ++ more)
body_bytes [] more h = h
body_bytes (b ∷ bytes) more h = body_bytes bytes more h

tunnel_bytes : (bytes : List ℕ) (more : List Item) → IsTunnel more → IsTunnel (map Byte bytes ++ more)
tunnel_bytes [] more h = h
tunnel_bytes (b ∷ bytes) more h = tunnel_bytes bytes more h

in_body_bytes : (side : Side) (place : Place) (bytes : List ℕ) (more : List Item) → takes_data place ≡ true → IsAfter side place more → IsAfter side place (map Byte bytes ++ more)
in_body_bytes side Body bytes more e h = body_bytes bytes more h
in_body_bytes side Tunnel bytes more e h = tunnel_bytes bytes more h
in_body_bytes side other bytes more e h = absurd (cc)

pub order_pieces : (r : Reader) (b : Bool) (bytes : List ℕ) → r.streamed ≡ b → 0 < r.remaining → IsReader r → (more : List Item) → IsAfter r.endpoint.side r.place more → IsAfter r.endpoint.side r.place (pieces b bytes ++ more)
order_pieces r true bytes e some p more h = in_body_bytes r.endpoint.side r.place bytes more (p some e) h
order_pieces r false bytes e some p more h = h

-- ---- a fault

pub order_broken : (side : Side) (place : Place) (f : Fault) → is_failed place ≡ false → IsAfter side place (Broken f ∷ [])
order_broken side BeforeHeaders f e = tt
order_broken side Body f e = tt
order_broken side AfterTrailers f e = tt
order_broken side Tunnel f e = tt
order_broken side BeforeSettings f e = tt
order_broken side (AfterSettings goaway push) f e = tt
order_broken side (Failed g) f e = absurd (cc)

-- ---- what is streamed, and what is too large

-- x is neither a fault nor that a frame is skipped
record Chosen (x : Action) : Type 0 where
  skip : Skip ≡ x → ⊥
  refuse : (f : Fault) → Refuse f ≡ x → ⊥

streams : Chosen Stream
streams = record { skip = λ e. cc e; refuse = λ f e. cc e }

skips : Chosen SkipSection
skips = record { skip = λ e. cc e; refuse = λ f e. cc e }

cond_not : (b : Bool) (x a c : Action) → (a ≡ x → ⊥) → (c ≡ x → ⊥) → cond b a c ≡ x → ⊥
cond_not true x a c h k e = h e
cond_not false x a c h k e = k e

promised_not : (side : Side) (x : Action) → Chosen x → promised side ≡ x → ⊥
promised_not Client x h e = h.refuse fault.Id e
promised_not Server x h e = h.refuse fault.FrameUnexpected e

skipped_not : (idle : ℕ) (x : Action) → Chosen x → without_content idle Skip ≡ x → ⊥
skipped_not idle x h e = cond_not (ltb idle 1024) x Skip (Refuse fault.ExcessiveLoad) h.skip (h.refuse fault.ExcessiveLoad) e

extension_not : (e : Endpoint) (idle : ℕ) (x : Action) → Chosen x → webtransport e (without_content idle Skip) ≡ x → ⊥
extension_not e idle x h is = cond_not e.webtransport x (Refuse fault.Frame) (without_content idle Skip) (h.refuse fault.Frame) (skipped_not idle x h) is

trailers_not : (e : Endpoint) (idle : ℕ) (k : FrameType) (x : Action) → Chosen x → after_trailers e idle k ≡ x → ⊥
trailers_not e idle kind.Unknown x h is = skipped_not idle x h is
trailers_not e idle kind.WebTransport x h is = extension_not e idle x h is
trailers_not e idle kind.PushPromise x h is = promised_not e.side x h is
trailers_not e idle other x h is = h.refuse fault.FrameUnexpected is

tunnel_skips : (e : Endpoint) (idle : ℕ) (k : FrameType) (n : ℕ) → in_tunnel e idle k n ≡ SkipSection → ⊥
tunnel_skips e idle kind.Data n is = cond_not (n == 0) SkipSection (without_content idle Stream) Stream (cond_not (ltb idle 1024) SkipSection Stream (Refuse fault.ExcessiveLoad) (λ s. cc s) (λ s. cc s)) (λ s. cc s) is
tunnel_skips e idle kind.Unknown n is = skipped_not idle SkipSection skips is
tunnel_skips e idle kind.WebTransport n is = extension_not e idle SkipSection skips is
tunnel_skips e idle other n is = cc

headers_stream : (e : Endpoint) (idle : ℕ) (k : FrameType) (n : ℕ) → before_headers e idle k n ≡ Stream → ⊥
headers_stream e idle kind.Headers n is = cond_not (ltb e.max_section n) Stream SkipSection Give (λ s. cc s) (λ s. cc s) is
headers_stream e idle kind.Unknown n is = skipped_not idle Stream streams is
headers_stream e idle kind.WebTransport n is = extension_not e idle Stream streams is
headers_stream e idle kind.PushPromise n is = promised_not e.side Stream streams is
headers_stream e idle other n is = cc

settings_not : (k : FrameType) (n : ℕ) (x : Action) → Chosen x → (Give ≡ x → ⊥) → before_settings k n ≡ x → ⊥
settings_not kind.Settings n x h g is = cond_not (ltb 4096 n) x (Refuse fault.ExcessiveLoad) Give (h.refuse fault.ExcessiveLoad) g is
settings_not other n x h g is = h.refuse fault.MissingSettings is

number_not : (n : ℕ) (x : Action) → Chosen x → (Give ≡ x → ⊥) → number_frame n ≡ x → ⊥
number_not n x h g is = cond_not (ltb 8 n) x (Refuse fault.Frame) Give (h.refuse fault.Frame) g is

push_not : (side : Side) (n : ℕ) (x : Action) → Chosen x → (Give ≡ x → ⊥) → push_limit side n ≡ x → ⊥
push_not Client n x h g is = h.refuse fault.FrameUnexpected is
push_not Server n x h g is = number_not n x h g is

ids_not : (e : Endpoint) (k : FrameType) (n : ℕ) (x : Action) → Chosen x → (Give ≡ x → ⊥) → after_settings e k n ≡ x → ⊥
ids_not e kind.GoAway n x h g is = number_not n x h g is
ids_not e kind.CancelPush n x h g is = number_not n x h g is
ids_not e kind.MaxPushId n x h g is = push_not e.side n x h g is
ids_not e kind.Unknown n x h g is = h.skip is
ids_not e kind.WebTransport n x h g is = cond_not e.webtransport x (Refuse fault.Frame) Skip (h.refuse fault.Frame) h.skip is
ids_not e other n x h g is = h.refuse fault.FrameUnexpected is

-- only the body of a message is streamed
pub streams_body : (e : Endpoint) (place : Place) (idle : ℕ) (k : FrameType) (n : ℕ) → action_of e place idle k n ≡ Stream → takes_data place ≡ true
streams_body e BeforeHeaders idle k n is = absurd (headers_stream e idle k n is)
streams_body e Body idle k n is = refl
streams_body e AfterTrailers idle k n is = absurd (trailers_not e idle k Stream streams is)
streams_body e Tunnel idle k n is = refl
streams_body e BeforeSettings idle k n is = absurd (settings_not k n Stream streams (λ s. cc s) is)
streams_body e (AfterSettings goaway push) idle k n is = absurd (ids_not e k n Stream streams (λ s. cc s) is)
streams_body e (Failed f) idle k n is = absurd (cc)

-- only the sections of a message are skipped
pub order_section : (e : Endpoint) (place : Place) (idle : ℕ) (k : FrameType) (n : ℕ) → action_of e place idle k n ≡ SkipSection → (more : List Item) → IsAfter e.side (after_section place) more → IsAfter e.side place (TooLarge n ∷ more)
order_section e BeforeHeaders idle k n is more h = h
order_section e Body idle k n is more h = h
order_section e AfterTrailers idle k n is more h = absurd (trailers_not e idle k SkipSection skips is)
order_section e Tunnel idle k n is more h = absurd (tunnel_skips e idle k n is)
order_section e BeforeSettings idle k n is more h = absurd (settings_not k n SkipSection skips (λ s. cc s) is)
order_section e (AfterSettings goaway push) idle k n is more h = absurd (ids_not e k n SkipSection skips (λ s. cc s) is)
order_section e (Failed f) idle k n is more h = absurd (cc)

-- ---- a frame that is given whole

abbrev ok_at : Place → Result Place Fault
ok_at p = Ok p

ok_is : (x y : Place) → ok_at x ≡ Ok y → x ≡ y
ok_is x y e = cc

next_is : (side : Side) (p next : Place) (more : List Item) → ok_at p ≡ Ok next → IsAfter side next more → IsAfter side p more
next_is side p next more e h = subst (λ (x : Place). IsAfter side x more) (sym (ok_is p next e)) h

content_case : (b : Bool) (a : Action) (f : Fault) → (a ≡ Give → ⊥) → cond b a (Refuse f) ≡ Give → ⊥
content_case b a f h e = cond_not b Give a (Refuse f) h (λ s. cc s) e

skipped_gives : (idle : ℕ) → without_content idle Skip ≡ Give → ⊥
skipped_gives idle e = content_case (ltb idle 1024) Skip fault.ExcessiveLoad (λ s. cc s) e

extension_gives : (e : Endpoint) (idle : ℕ) → webtransport e (without_content idle Skip) ≡ Give → ⊥
extension_gives e idle is = cond_not e.webtransport Give (Refuse fault.Frame) (without_content idle Skip) (λ s. cc s) (skipped_gives idle) is

data_gives : (b : Bool) (idle : ℕ) → cond b (without_content idle Stream) Stream ≡ Give → ⊥
data_gives b idle e = cond_not b Give (without_content idle Stream) Stream (content_case (ltb idle 1024) Stream fault.ExcessiveLoad (λ s. cc s)) (λ s. cc s) e

order_start : (e : Endpoint) (idle : ℕ) (k : FrameType) (n : ℕ) (next : Place) (payload : List ℕ) → before_headers e idle k n ≡ Give → ok_at Body ≡ Ok next → (more : List Item) → IsAfter e.side next more → IsMessage (Whole k payload ∷ more)
order_start e idle kind.Headers n next payload t a more h = next_is e.side Body next more a h
order_start e idle kind.Unknown n next payload t a more h = absurd (skipped_gives idle t)
order_start e idle kind.WebTransport n next payload t a more h = absurd (extension_gives e idle t)
order_start e idle kind.PushPromise n next payload t a more h = absurd (promised_gives e.side t)
order_start e idle other n next payload t a more h = absurd (cc)

order_body : (e : Endpoint) (idle : ℕ) (k : FrameType) (n : ℕ) (next : Place) (payload : List ℕ) → in_body e idle k n ≡ Give → ok_at AfterTrailers ≡ Ok next → (more : List Item) → IsAfter e.side next more → IsBody (Whole k payload ∷ more)
order_body e idle kind.Headers n next payload t a more h = next_is e.side AfterTrailers next more a h
order_body e idle kind.Data n next payload t a more h = absurd (data_gives (n == 0) idle t)
order_body e idle kind.Unknown n next payload t a more h = absurd (skipped_gives idle t)
order_body e idle kind.WebTransport n next payload t a more h = absurd (extension_gives e idle t)
order_body e idle kind.PushPromise n next payload t a more h = absurd (promised_gives e.side t)
order_body e idle other n next payload t a more h = absurd (cc)

order_control : (side : Side) (k : FrameType) (n : ℕ) (next : Place) (payload : List ℕ) → before_settings k n ≡ Give → ok_at (AfterSettings None None) ≡ Ok next → (more : List Item) → IsAfter side next more → IsControl side (Whole k payload ∷ more)
order_control side kind.Settings n next payload t a more h = next_is side (AfterSettings None None) next more a h
order_control side other n next payload t a more h = absurd (cc)

-- GOAWAY
above_is : (goaway push : Option ℕ) (n : ℕ) (next : Place) → not_above goaway n push ≡ Ok next → NotAbove goaway n × (AfterSettings (Some n) push ≡ next)
above_is None push n next a = (tt, ok_is (AfterSettings (Some n) push) next a)
above_is (Some last) push n next a = elim (cases_lt last n) [
  | inl over ↦ absurd (cc (rw (lt-ltb last n over) at a))
  | inr fits ↦ (fits, ok_is (AfterSettings (Some n) push) next (rw (le-ltb last n fits) at a))
]

requests_case : (b : Bool) (n : ℕ) (x : Fault) (goaway push : Option ℕ) (next : Place) → goes_away goaway push (cond b (Ok n) (Err x)) ≡ Ok next → (b ≡ true) × (not_above goaway n push ≡ Ok next)
requests_case true n x goaway push next a = (refl, a)
requests_case false n x goaway push next a = absurd (cc)

request_is : (side : Side) (n : ℕ) (goaway push : Option ℕ) (next : Place) → goes_away goaway push (is_request side n) ≡ Ok next → Names side n × (not_above goaway n push ≡ Ok next)
request_is Client n goaway push next a =
    let (t, e) = requests_case _ n _ goaway push next a in
    (eqb-true (n % 4) 0 t, e)
request_is Server n goaway push next a = (tt, a)

goaway_case : (side : Side) (o goaway push : Option ℕ) (next : Place) (payload : List ℕ) → one_number payload ≡ o → with_number side goaway push kind.GoAway o ≡ Ok next → (more : List Item) → IsAfter side next more → AreIds side goaway push (Whole kind.GoAway payload ∷ more)
goaway_case side None goaway push next payload e a more h = absurd (cc)
goaway_case side (Some n) goaway push next payload e a more h =
    let (names, above) = request_is side n goaway push next a in
    let (fits, is) = above_is goaway push n next above in
    (n, e, names, fits, subst (λ (x : Place). IsAfter side x more) (sym is) h)

-- MAX_PUSH_ID
below_is : (goaway push : Option ℕ) (n : ℕ) (next : Place) → not_below goaway push n ≡ Ok next → NotBelow push n × (AfterSettings goaway (Some n) ≡ next)
below_is goaway None n next a = (tt, ok_is (AfterSettings goaway (Some n)) next a)
below_is goaway (Some last) n next a = elim (cases_lt n last) [
  | inl under ↦ absurd (cc (rw (lt-ltb n last under) at a))
  | inr fits ↦ (fits, ok_is (AfterSettings goaway (Some n)) next (rw (le-ltb n last fits) at a))
]

takes : (side : Side) (n : ℕ) → push_limit side n ≡ Give → TakesPushes side
takes Client n t = absurd (cc)
takes Server n t = tt

push_case : (side : Side) (o goaway push : Option ℕ) (next : Place) (payload : List ℕ) → TakesPushes side → one_number payload ≡ o → with_number side goaway push kind.MaxPushId o ≡ Ok next → (more : List Item) → IsAfter side next more → AreIds side goaway push (Whole kind.MaxPushId payload ∷ more)
push_case side None goaway push next payload t e a more h = absurd (cc)
push_case side (Some n) goaway push next payload t e a more h =
    let (fits, is) = below_is goaway push n next a in
    (n, e, t, fits, subst (λ (x : Place). IsAfter side x more) (sym is) h)

cancel_case : (side : Side) (o goaway push : Option ℕ) (next : Place) → with_number side goaway push kind.CancelPush o ≡ Ok next → ⊥
cancel_case side None goaway push next a = cc
cancel_case side (Some n) goaway push next a = cc

order_ids : (e : Endpoint) (goaway push : Option ℕ) (k : FrameType) (n : ℕ) (next : Place) (payload : List ℕ) → after_settings e k n ≡ Give → with_number e.side goaway push k (one_number payload) ≡ Ok next → (more : List Item) → IsAfter e.side next more → AreIds e.side goaway push (Whole k payload ∷ more)
order_ids e goaway push kind.GoAway n next payload t a more h = goaway_case e.side (one_number payload) goaway push next payload refl a more h
order_ids e goaway push kind.CancelPush n next payload t a more h = absurd (cancel_case e.side (one_number payload) goaway push next a)
order_ids e goaway push kind.MaxPushId n next payload t a more h = push_case e.side (one_number payload) goaway push next payload (takes e.side n t) refl a more h
order_ids e goaway push kind.WebTransport n next payload t a more h = absurd (cond_not e.webtransport Give (Refuse fault.Frame) Skip (λ s. cc s) (λ s. cc s) t)
order_ids e goaway push other n next payload t a more h = absurd (cc)

pub order_whole : (e : Endpoint) (place : Place) (idle : ℕ) (k : FrameType) (n : ℕ) (next : Place) (payload : List ℕ) → action_of e place idle k n ≡ Give → accepted e.side place k payload ≡ Ok next → (more : List Item) → IsAfter e.side next more → IsAfter e.side place (Whole k payload ∷ more)
order_whole e BeforeHeaders idle k n next payload t a more h = order_start e idle k n next payload t a more h
order_whole e Body idle k n next payload t a more h = order_body e idle k n next payload t a more h
order_whole e AfterTrailers idle k n next payload t a more h = absurd (trailers_give e idle k t)
order_whole e Tunnel idle k n next payload t a more h = absurd (tunnel_gives e idle k n t)
order_whole e BeforeSettings idle k n next payload t a more h = order_control e.side k n next payload t a more h
order_whole e (AfterSettings goaway push) idle k n next payload t a more h = order_ids e goaway push k n next payload t a more h
order_whole e (Failed f) idle k n next payload t a more h = absurd (cc)
