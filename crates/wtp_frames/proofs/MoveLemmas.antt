-- What one move gives, whatever follows the bytes.
use Rattle.std.proofs.Common.{◌≡◌, ℕ, ◌+◌, ◌-◌, ◌==◌, ◌<◌, ◌≤◌, Bool, true, false, cond, ltb, List, [], ◌∷◌, ◌++◌, length, take, drop, Option, Some, None, Result, Ok, Err, refl, sym, ap, subst, ◌∙◌, arith, append_assoc, length-append, length-drop, eq-eqb, inl, inr}
use Rattle.std.proofs.lemmas.Bool.{cases_lt, lt-ltb, ne_eqb}
use Rattle.std.proofs.lemmas.List.{map-append, take-append-le, drop-append-le, drop-drop, append-nil, length-take}
use Rattle.std.proofs.Math.Seq.{take-add, take-append-add, drop-append-add, take-length, drop-length}
use Rattle.wtp_core.specs.Varint.{bytes_at}
use Rattle.wtp_core.proofs.EncodingLemmas.{bytes_at-append}
use Rattle.wtp_frames.specs.declared.endpoint.Endpoint.{Endpoint}
use Rattle.wtp_frames.specs.declared.endpoint.Side.{Side}
use Rattle.wtp_frames.specs.declared.endpoint.Side.TheVariants.{Client, Server}
use Rattle.wtp_frames.specs.declared.frame_type.FrameType.{FrameType}
use Rattle.wtp_frames.specs.declared.frame_type.FrameType.TheVariants as kind
use Rattle.wtp_frames.specs.declared.fault.Fault.{Fault}
use Rattle.wtp_frames.specs.declared.fault.Fault.TheVariants as fault
use Rattle.wtp_frames.specs.declared.reader.Place.{Place}
use Rattle.wtp_frames.specs.declared.reader.Place.TheVariants.{BeforeHeaders, Body, AfterTrailers, Tunnel, BeforeSettings, AfterSettings, Failed}
use Rattle.wtp_frames.specs.declared.reader.Reader.{Reader}
use Rattle.wtp_frames.specs.declared.reader.Move.TheVariants as move
use Rattle.wtp_frames.specs.declared.rules.Action.{Action}
use Rattle.wtp_frames.specs.declared.rules.Action.TheVariants.{Give, Stream, Skip, SkipSection, Refuse}
use Rattle.wtp_frames.specs.FrameType.{type_of}
use Rattle.wtp_frames.specs.Rules.{promised, without_content, before_headers, in_body, after_trailers, in_tunnel, before_settings, number_frame, push_limit, after_settings, action_of, accepted}
use Rattle.wtp_frames.specs.Item.{Item, Whole, Byte, TooLarge, Broken}
use Rattle.wtp_frames.specs.Start.{between}
use Rattle.wtp_frames.specs.Run.{Run, preceded, pieces, failed, streams, skips, skips_section, moved, breaks, head_at, by_place, by_payload, action_at, is_failed, run}
use Rattle.wtp_frames.specs.Reading.{IsAt, Gives, Waits, longest, slice, payload_move, all_passed, MoveIs}
use Rattle.wtp_frames.proofs.HeadLemmas.{head_more, head_alone, head_none, head_shorter, head_size, bytes_more, bytes_there, bytes_missing}
use Rattle.wtp_frames.proofs.RunLemmas.{AtHead, InPayload, run_failed, run_none, run_head, run_frame, run_all, run_past}

-- ---- a frame

pub gives_streamed : (r : Reader) (bytes rest : List ℕ) (id n : ℕ) → AtHead r → head_at bytes ≡ Some (id, n, rest) → action_at r (type_of id) n ≡ Stream → Gives r bytes [] (streams r n) rest
gives_streamed r bytes rest id n z e is more = run_frame r (bytes ++ more) (rest ++ more) id n Stream z (head_more bytes rest more id n e) is

pub gives_skipped : (r : Reader) (bytes rest : List ℕ) (id n : ℕ) → AtHead r → head_at bytes ≡ Some (id, n, rest) → action_at r (type_of id) n ≡ Skip → Gives r bytes [] (skips r n) rest
gives_skipped r bytes rest id n z e is more = run_frame r (bytes ++ more) (rest ++ more) id n Skip z (head_more bytes rest more id n e) is

pub gives_too_large : (r : Reader) (bytes rest : List ℕ) (id n : ℕ) → AtHead r → head_at bytes ≡ Some (id, n, rest) → action_at r (type_of id) n ≡ SkipSection → Gives r bytes (TooLarge n ∷ []) (skips_section r n) rest
gives_too_large r bytes rest id n z e is more = run_frame r (bytes ++ more) (rest ++ more) id n SkipSection z (head_more bytes rest more id n e) is

broken : (r : Reader) (f : Fault) (more : List ℕ) → breaks r f ≡ preceded (Broken f ∷ []) (run (failed r f) more)
broken r f more = ap (λ (x : Run). preceded (Broken f ∷ []) x) (sym (run_failed (failed r f) more refl))

pub gives_refused : (r : Reader) (bytes rest : List ℕ) (id n : ℕ) (f : Fault) → AtHead r → head_at bytes ≡ Some (id, n, rest) → action_at r (type_of id) n ≡ Refuse f → Gives r bytes (Broken f ∷ []) (failed r f) []
gives_refused r bytes rest id n f z e is more =
    run_frame r (bytes ++ more) (rest ++ more) id n (Refuse f) z (head_more bytes rest more id n e) is ∙ broken r f more

kept : (r : Reader) (bytes rest payload left more : List ℕ) (id n : ℕ) (o : Result Place Fault) → AtHead r → head_at bytes ≡ Some (id, n, rest) → action_at r (type_of id) n ≡ Give → bytes_at n rest ≡ Some (payload, left) → accepted r.endpoint.side r.place (type_of id) payload ≡ o → run r (bytes ++ more) ≡ by_place (λ s l. run s l) r (type_of id) payload (left ++ more) o
kept r bytes rest payload left more id n o z e is p a =
    run_frame r (bytes ++ more) (rest ++ more) id n Give z (head_more bytes rest more id n e) is
    ∙ ap (λ (x : Option (List ℕ × List ℕ)). by_payload (λ s l. run s l) r (bytes ++ more) (type_of id) x) (bytes_more n rest payload left more p)
    ∙ ap (λ (x : Result Place Fault). by_place (λ s l. run s l) r (type_of id) payload (left ++ more) x) a

pub gives_whole : (r : Reader) (bytes rest payload left : List ℕ) (id n : ℕ) (place : Place) → AtHead r → head_at bytes ≡ Some (id, n, rest) → action_at r (type_of id) n ≡ Give → bytes_at n rest ≡ Some (payload, left) → accepted r.endpoint.side r.place (type_of id) payload ≡ Ok place → Gives r bytes (Whole (type_of id) payload ∷ []) (moved r place) left
gives_whole r bytes rest payload left id n place z e is p a more = kept r bytes rest payload left more id n (Ok place) z e is p a

pub gives_unaccepted : (r : Reader) (bytes rest payload left : List ℕ) (id n : ℕ) (f : Fault) → AtHead r → head_at bytes ≡ Some (id, n, rest) → action_at r (type_of id) n ≡ Give → bytes_at n rest ≡ Some (payload, left) → accepted r.endpoint.side r.place (type_of id) payload ≡ Err f → Gives r bytes (Broken f ∷ []) (failed r f) []
gives_unaccepted r bytes rest payload left id n f z e is p a more =
    kept r bytes rest payload left more id n (Err f) z e is p a ∙ broken r f more

-- ---- payload bytes

pub pieces_append : (b : Bool) (xs ys : List ℕ) → pieces b (xs ++ ys) ≡ pieces b xs ++ pieces b ys
pieces_append true xs ys = map-append Byte xs ys
pieces_append false xs ys = refl

-- no byte of the payload is missing
pub gives_rest : (r : Reader) (bytes : List ℕ) → InPayload r → r.remaining ≤ length bytes → Gives r bytes (pieces r.streamed (take r.remaining bytes)) (record r { remaining = 0 }) (drop r.remaining bytes)
gives_rest r bytes z all more =
    run_past r (bytes ++ more) z (omega (arith, all, length-append bytes more))
    ∙ rw (take-append-le r.remaining bytes more all, drop-append-le r.remaining bytes more all) refl

-- some are
pub gives_all : (r : Reader) (bytes : List ℕ) → InPayload r → length bytes < r.remaining → Gives r bytes (pieces r.streamed bytes) (record r { remaining = r.remaining - length bytes }) []
gives_all r bytes z few more = elim (cases_lt (length (bytes ++ more)) r.remaining) [
  | inl less ↦
      let left : r.remaining - length (bytes ++ more) ≡ (r.remaining - length bytes) - length more = omega (arith, length-append bytes more) in
      run_all r (bytes ++ more) z less
      ∙ ap (λ (x : List Item). record { items = x; reader = record r { remaining = r.remaining - length (bytes ++ more) }; left = [] }) (pieces_append r.streamed bytes more)
      ∙ ap (λ (k : ℕ). record { items = pieces r.streamed bytes ++ pieces r.streamed more; reader = record r { remaining = k }; left = [] }) left
      ∙ ap (λ (x : Run). preceded (pieces r.streamed bytes) x) (sym (run_all (record r { remaining = r.remaining - length bytes }) more (record { intact = z.intact; some = omega (arith, few) }) (omega (arith, less, length-append bytes more))))
  | inr all ↦
      let size : r.remaining ≡ length bytes + (r.remaining - length bytes) = omega (arith, few) in
      let taken : take r.remaining (bytes ++ more) ≡ bytes ++ take (r.remaining - length bytes) more = ap (λ (k : ℕ). take k (bytes ++ more)) size ∙ take-append-add bytes more (r.remaining - length bytes) in
      let dropped : drop r.remaining (bytes ++ more) ≡ drop (r.remaining - length bytes) more = ap (λ (k : ℕ). drop k (bytes ++ more)) size ∙ drop-append-add bytes more (r.remaining - length bytes) in
      run_past r (bytes ++ more) z all
      ∙ ap (λ (x : List ℕ). preceded (pieces r.streamed (take r.remaining (bytes ++ more))) (run (record r { remaining = 0 }) x)) dropped
      ∙ ap (λ (x : List Item). preceded x (run (record r { remaining = 0 }) (drop (r.remaining - length bytes) more))) (ap (λ (x : List ℕ). pieces r.streamed x) taken ∙ pieces_append r.streamed bytes (take (r.remaining - length bytes) more))
      ∙ ap (λ (x : List Item). record { items = x; reader = (run (record r { remaining = 0 }) (drop (r.remaining - length bytes) more)).reader; left = (run (record r { remaining = 0 }) (drop (r.remaining - length bytes) more)).left }) (append_assoc (pieces r.streamed bytes) (pieces r.streamed (take (r.remaining - length bytes) more)) (run (record r { remaining = 0 }) (drop (r.remaining - length bytes) more)).items)
      ∙ ap (λ (x : Run). preceded (pieces r.streamed bytes) x) (sym (run_past (record r { remaining = r.remaining - length bytes }) more (record { intact = z.intact; some = omega (arith, few) }) (omega (arith, all, few, length-append bytes more))))
]

-- ---- too few bytes

pub waits_empty : (r : Reader) → Waits r []
waits_empty r = record { run = run_none r; few = omega arith }

waits_head : (r : Reader) (bytes : List ℕ) → AtHead r → head_at bytes ≡ None → Waits r bytes
waits_head r bytes z e = record { run = run_head r bytes None z e; few = omega (arith, head_none bytes e) }

waits_payload : (r : Reader) (bytes rest : List ℕ) (id n : ℕ) → AtHead r → head_at bytes ≡ Some (id, n, rest) → action_at r (type_of id) n ≡ Give → bytes_at n rest ≡ None → length rest < n → n ≤ longest r.endpoint r.place → Waits r bytes
waits_payload r bytes rest id n z e is p less small = record {
  run = run_frame r bytes rest id n Give z e is ∙ ap (λ (x : Option (List ℕ × List ℕ)). by_payload (λ s l. run s l) r bytes (type_of id) x) p;
  few = omega (arith, head_size bytes rest id n e, less, small);
}

pub gives_nothing : (r : Reader) (bytes : List ℕ) → Gives r bytes [] r bytes
gives_nothing r bytes more = refl

-- ---- one move

payload_moves : (b : Bool) (n : ℕ) (old new : Reader) (bytes : List ℕ) → 0 < n → n ≤ length bytes → new.endpoint ≡ old.endpoint → IsAt old.place old new → Gives old bytes (pieces b (take n bytes)) new (drop n bytes) → Gives old (take n bytes) (pieces b (take n bytes)) new [] → MoveIs (payload_move b n) old bytes new
payload_moves true n old new bytes l m e i g a = record { within = (l, m); endpoint = e; next = i; gives = g; alone = a }
payload_moves false n old new bytes l m e i g a = record { within = (l, m); endpoint = e; next = i; gives = g; alone = a }

pub moves_all : (r : Reader) (bytes : List ℕ) → InPayload r → 0 < length bytes → length bytes < r.remaining → MoveIs (payload_move r.streamed (length bytes)) r bytes (record r { remaining = r.remaining - length bytes })
moves_all r bytes z some few = payload_moves r.streamed (length bytes) r (record r { remaining = r.remaining - length bytes }) bytes some (omega arith) refl (record { place = refl; interims = refl }) (rw (take-length bytes, drop-length bytes) (gives_all r bytes z few)) (rw (take-length bytes) (gives_all r bytes z few))

-- so many bytes are all of the payload
pub gives_part : (r : Reader) (part : List ℕ) → InPayload r → r.remaining ≡ length part → Gives r part (pieces r.streamed part) (record r { remaining = 0 }) []
gives_part r part z size =
    let taken : take r.remaining part ≡ part = ap (λ (k : ℕ). take k part) size ∙ take-length part in
    let dropped : drop r.remaining part ≡ [] = ap (λ (k : ℕ). drop k part) size ∙ drop-length part in
    subst (λ (l : List ℕ). Gives r part (pieces r.streamed part) (record r { remaining = 0 }) l) dropped (
    subst (λ (l : List ℕ). Gives r part (pieces r.streamed l) (record r { remaining = 0 }) (drop r.remaining part)) taken (
    gives_rest r part z (omega (arith, size))))

pub moves_rest : (r : Reader) (bytes : List ℕ) → InPayload r → r.remaining ≤ length bytes → MoveIs (payload_move r.streamed r.remaining) r bytes (record r { remaining = 0 })
moves_rest r bytes z all = payload_moves r.streamed r.remaining r (record r { remaining = 0 }) bytes z.some all refl (record { place = refl; interims = refl }) (gives_rest r bytes z all) (gives_part r (take r.remaining bytes) z (omega (arith, all, length-take r.remaining bytes)))

no_bytes : (bytes : List ℕ) → length bytes ≡ 0 → bytes ≡ []
no_bytes [] e = refl
no_bytes (b ∷ bytes) e = absurd (omega (arith, e))

pub stuck_empty : (r : Reader) (bytes : List ℕ) → length bytes ≡ 0 → MoveIs move.Stuck r bytes r
stuck_empty r bytes e = rw (no_bytes bytes e) (record { within = waits_empty r; endpoint = refl; next = record { place = refl; interims = refl }; gives = gives_nothing r []; alone = gives_nothing r [] })

pub stuck_head : (r : Reader) (bytes : List ℕ) → AtHead r → head_at bytes ≡ None → MoveIs move.Stuck r bytes r
stuck_head r bytes z e = record { within = waits_head r bytes z e; endpoint = refl; next = record { place = refl; interims = refl }; gives = gives_nothing r bytes; alone = gives_nothing r [] }

-- after a fault
pub passed_failed : (r : Reader) (bytes : List ℕ) → is_failed r.place ≡ true → 0 < length bytes → MoveIs (move.Passed (length bytes)) r bytes r
passed_failed r bytes e some = record {
  within = (some, omega arith);
  endpoint = refl;
  next = record { place = refl; interims = refl };
  gives = λ more. run_failed r (bytes ++ more) e ∙ sym (run_failed r (drop (length bytes) bytes ++ more) e);
  alone = λ more. run_failed r (take (length bytes) bytes ++ more) e ∙ sym (run_failed r more e);
}

pub all_moves : (r : Reader) (bytes : List ℕ) → is_failed r.place ≡ true → MoveIs (all_passed (length bytes)) r bytes r
all_moves r bytes e = elim (cases_lt 0 (length bytes)) [
  | inl some ↦ rw (ne_eqb (length bytes) 0 (λ z. omega (arith, z, some))) (passed_failed r bytes e some)
  | inr none ↦ rw (eq-eqb (length bytes) 0 (omega (arith, none))) (stuck_empty r bytes (omega (arith, none)))
]

-- ---- what is given whole is not long

bounded : (m n : ℕ) (a : Action) → (a ≡ Give → ⊥) → cond (ltb m n) a Give ≡ Give → n ≤ m
bounded m n a h e = elim (cases_lt m n) [
  | inl over ↦ absurd (h (rw (lt-ltb m n over) at e))
  | inr fits ↦ fits
]

pub refuse_gives : (f : Fault) → Refuse f ≡ Give → ⊥
refuse_gives f e = cc

skip_gives : SkipSection ≡ Give → ⊥
skip_gives e = cc

pub promised_gives : (side : Side) → promised side ≡ Give → ⊥
promised_gives Client e = cc
promised_gives Server e = cc

content_case : (b : Bool) (a : Action) (f : Fault) → (a ≡ Give → ⊥) → cond b a (Refuse f) ≡ Give → ⊥
content_case true a f h e = h e
content_case false a f h e = cc

extension_case : (b : Bool) (a : Action) (f : Fault) → (a ≡ Give → ⊥) → cond b (Refuse f) a ≡ Give → ⊥
extension_case true a f h e = cc
extension_case false a f h e = h e

data_case : (b : Bool) (idle : ℕ) → cond b (without_content idle Stream) Stream ≡ Give → ⊥
data_case true idle e = content_case (ltb idle 1024) Stream fault.ExcessiveLoad (λ s. cc s) e
data_case false idle e = cc

skipped : (idle : ℕ) → without_content idle Skip ≡ Give → ⊥
skipped idle e = content_case (ltb idle 1024) Skip fault.ExcessiveLoad (λ s. cc s) e

small_headers : (e : Endpoint) (idle : ℕ) (k : FrameType) (n : ℕ) → before_headers e idle k n ≡ Give → n ≤ e.max_section
small_headers e idle kind.Headers n is = bounded e.max_section n SkipSection skip_gives is
small_headers e idle kind.Unknown n is = absurd (skipped idle is)
small_headers e idle kind.WebTransport n is = absurd (extension_case e.webtransport (without_content idle Skip) fault.Frame (skipped idle) is)
small_headers e idle kind.PushPromise n is = absurd (promised_gives e.side is)
small_headers e idle other n is = absurd (cc)

small_body : (e : Endpoint) (idle : ℕ) (k : FrameType) (n : ℕ) → in_body e idle k n ≡ Give → n ≤ e.max_section
small_body e idle kind.Headers n is = bounded e.max_section n SkipSection skip_gives is
small_body e idle kind.Data n is = absurd (data_case (n == 0) idle is)
small_body e idle kind.Unknown n is = absurd (skipped idle is)
small_body e idle kind.WebTransport n is = absurd (extension_case e.webtransport (without_content idle Skip) fault.Frame (skipped idle) is)
small_body e idle kind.PushPromise n is = absurd (promised_gives e.side is)
small_body e idle other n is = absurd (cc)

pub trailers_give : (e : Endpoint) (idle : ℕ) (k : FrameType) → after_trailers e idle k ≡ Give → ⊥
trailers_give e idle kind.Unknown is = skipped idle is
trailers_give e idle kind.WebTransport is = extension_case e.webtransport (without_content idle Skip) fault.Frame (skipped idle) is
trailers_give e idle kind.PushPromise is = promised_gives e.side is
trailers_give e idle other is = cc

pub tunnel_gives : (e : Endpoint) (idle : ℕ) (k : FrameType) (n : ℕ) → in_tunnel e idle k n ≡ Give → ⊥
tunnel_gives e idle kind.Data n is = data_case (n == 0) idle is
tunnel_gives e idle kind.Unknown n is = skipped idle is
tunnel_gives e idle kind.WebTransport n is = extension_case e.webtransport (without_content idle Skip) fault.Frame (skipped idle) is
tunnel_gives e idle other n is = cc

small_settings : (k : FrameType) (n : ℕ) → before_settings k n ≡ Give → n ≤ 4096
small_settings kind.Settings n is = bounded 4096 n (Refuse fault.ExcessiveLoad) (refuse_gives fault.ExcessiveLoad) is
small_settings other n is = absurd (cc)

small_number : (n : ℕ) → number_frame n ≡ Give → n ≤ 8
small_number n is = bounded 8 n (Refuse fault.Frame) (refuse_gives fault.Frame) is

small_push : (side : Side) (n : ℕ) → push_limit side n ≡ Give → n ≤ 8
small_push Client n is = absurd (cc)
small_push Server n is = small_number n is

small_control : (e : Endpoint) (k : FrameType) (n : ℕ) → after_settings e k n ≡ Give → n ≤ 8
small_control e kind.GoAway n is = small_number n is
small_control e kind.CancelPush n is = small_number n is
small_control e kind.MaxPushId n is = small_push e.side n is
small_control e kind.WebTransport n is = absurd (extension_case e.webtransport Skip fault.Frame (λ s. cc s) is)
small_control e other n is = absurd (cc)

given_small : (e : Endpoint) (place : Place) (idle : ℕ) (k : FrameType) (n : ℕ) → action_of e place idle k n ≡ Give → n ≤ longest e place
given_small e BeforeHeaders idle k n is = small_headers e idle k n is
given_small e Body idle k n is = small_body e idle k n is
given_small e AfterTrailers idle k n is = absurd (trailers_give e idle k is)
given_small e Tunnel idle k n is = absurd (tunnel_gives e idle k n is)
given_small e BeforeSettings idle k n is = small_settings k n is
given_small e (AfterSettings goaway push) idle k n is = small_control e k n is
given_small e (Failed f) idle k n is = absurd (cc)

-- ---- by the head

pub stuck_payload : (r : Reader) (bytes : List ℕ) (k : FrameType) (id n start : ℕ) → AtHead r → k ≡ type_of id → head_at bytes ≡ Some (id, n, drop start bytes) → start ≤ length bytes → action_at r k n ≡ Give → length bytes - start < n → MoveIs move.Stuck r bytes r
stuck_payload r bytes k id n start z same e w is less =
    let rest : length (drop start bytes) < n = omega (arith, length-drop start bytes, less) in
    record {
      within = waits_payload r bytes (drop start bytes) id n z e (rw same at is) (bytes_missing n (drop start bytes) rest) rest (given_small r.endpoint r.place r.idle k n is);
      endpoint = refl;
      next = record { place = refl; interims = refl };
      gives = gives_nothing r bytes;
      alone = gives_nothing r [];
    }

pub place_end : (n start : ℕ) (bytes : List ℕ) → start ≤ length bytes → n ≤ length bytes - start → bytes_at n (drop start bytes) ≡ Some (slice start (start + n) bytes, drop (start + n) bytes)
place_end n start bytes w l =
    let size : (start + n) - start ≡ n = omega arith in
    bytes_there n (drop start bytes) (omega (arith, length-drop start bytes, w, l)) ∙ rw (size, drop-drop n start bytes) refl

passed : (r : Reader) (bytes : List ℕ) (id n start : ℕ) → head_at bytes ≡ Some (id, n, drop start bytes) → 0 < start
passed r bytes id n start e = omega (arith, head_shorter bytes (drop start bytes) id n e, length-drop start bytes)

some_bytes : (bytes rest : List ℕ) (id n : ℕ) → head_at bytes ≡ Some (id, n, rest) → 0 < length bytes
some_bytes bytes rest id n e = omega (arith, head_shorter bytes rest id n e)

whole_next : (r : Reader) (place : Place) → r.remaining ≡ 0 → moved r place ≡ between r.endpoint r.interims place false 0
whole_next r place e = ap (λ (n : ℕ). record { endpoint = r.endpoint; place = place; remaining = n; streamed = false; idle = 0; interims = r.interims }) e

-- a frame that is given whole, by itself
frame_alone : (n start : ℕ) (bytes : List ℕ) → take (start + n) bytes ≡ take start bytes ++ slice start (start + n) bytes
frame_alone n start bytes =
    let size : (start + n) - start ≡ n = omega arith in
    take-add start n bytes ∙ rw size refl

payload_alone : (n start : ℕ) (bytes : List ℕ) → start ≤ length bytes → n ≤ length bytes - start → bytes_at n (slice start (start + n) bytes) ≡ Some (slice start (start + n) bytes, [])
payload_alone n start bytes w l =
    let payload : List ℕ = slice start (start + n) bytes in
    let size : n ≡ length payload = omega (arith, w, l, length-drop start bytes, length-take ((start + n) - start) (drop start bytes)) in
    ap (λ (k : ℕ). bytes_at k payload) size
    ∙ ap (λ (x : List ℕ). bytes_at (length payload) x) (sym (append-nil payload))
    ∙ bytes_at-append payload []

head_before : (bytes : List ℕ) (id n start : ℕ) → head_at bytes ≡ Some (id, n, drop start bytes) → start ≤ length bytes → head_at (take (start + n) bytes) ≡ Some (id, n, slice start (start + n) bytes)
head_before bytes id n start e w =
    ap head_at (frame_alone n start bytes)
    ∙ head_more (take start bytes) [] (slice start (start + n) bytes) id n (head_alone bytes id n start e w)

pub whole_move : (r : Reader) (bytes : List ℕ) (k : FrameType) (id n start : ℕ) (place : Place) → AtHead r → k ≡ type_of id → head_at bytes ≡ Some (id, n, drop start bytes) → start ≤ length bytes → action_at r k n ≡ Give → n ≤ length bytes - start → accepted r.endpoint.side r.place k (slice start (start + n) bytes) ≡ Ok place → MoveIs (move.Whole k start (start + n)) r bytes (moved r place)
whole_move r bytes k id n start place z same e w is l a = record {
  within = (passed r bytes id n start e, omega arith, omega (arith, w, l));
  endpoint = refl;
  next = record { place = a; reader = whole_next r place z.none };
  gives = rw same (gives_whole r bytes (drop start bytes) (slice start (start + n) bytes) (drop (start + n) bytes) id n place z e (rw same at is) (place_end n start bytes w l) (rw same at a));
  alone = rw same (gives_whole r (take (start + n) bytes) (slice start (start + n) bytes) (slice start (start + n) bytes) [] id n place z (head_before bytes id n start e w) (rw same at is) (payload_alone n start bytes w l) (rw same at a));
}

pub unaccepted_move : (r : Reader) (bytes : List ℕ) (k : FrameType) (id n start : ℕ) (f : Fault) → AtHead r → k ≡ type_of id → head_at bytes ≡ Some (id, n, drop start bytes) → start ≤ length bytes → action_at r k n ≡ Give → n ≤ length bytes - start → accepted r.endpoint.side r.place k (slice start (start + n) bytes) ≡ Err f → MoveIs (move.Failed f) r bytes (failed r f)
unaccepted_move r bytes k id n start f z same e w is l a = record {
  within = some_bytes bytes (drop start bytes) id n e;
  endpoint = refl;
  next = record { place = refl; interims = refl };
  gives = gives_unaccepted r bytes (drop start bytes) (slice start (start + n) bytes) (drop (start + n) bytes) id n f z e (rw same at is) (place_end n start bytes w l) (rw same at a);
  alone = rw (take-length bytes) (gives_unaccepted r bytes (drop start bytes) (slice start (start + n) bytes) (drop (start + n) bytes) id n f z e (rw same at is) (place_end n start bytes w l) (rw same at a));
}

pub streamed_move : (r : Reader) (bytes : List ℕ) (k : FrameType) (id n start : ℕ) → AtHead r → k ≡ type_of id → head_at bytes ≡ Some (id, n, drop start bytes) → start ≤ length bytes → action_at r k n ≡ Stream → MoveIs (move.Passed start) r bytes (streams r n)
streamed_move r bytes k id n start z same e w is = record {
  within = (passed r bytes id n start e, w);
  endpoint = refl;
  next = record { place = refl; interims = refl };
  gives = gives_streamed r bytes (drop start bytes) id n z e (rw same at is);
  alone = gives_streamed r (take start bytes) [] id n z (head_alone bytes id n start e w) (rw same at is);
}

pub skipped_move : (r : Reader) (bytes : List ℕ) (k : FrameType) (id n start : ℕ) → AtHead r → k ≡ type_of id → head_at bytes ≡ Some (id, n, drop start bytes) → start ≤ length bytes → action_at r k n ≡ Skip → MoveIs (move.Passed start) r bytes (skips r n)
skipped_move r bytes k id n start z same e w is = record {
  within = (passed r bytes id n start e, w);
  endpoint = refl;
  next = record { place = refl; interims = refl };
  gives = gives_skipped r bytes (drop start bytes) id n z e (rw same at is);
  alone = gives_skipped r (take start bytes) [] id n z (head_alone bytes id n start e w) (rw same at is);
}

pub too_large_move : (r : Reader) (bytes : List ℕ) (k : FrameType) (id n start : ℕ) → AtHead r → k ≡ type_of id → head_at bytes ≡ Some (id, n, drop start bytes) → start ≤ length bytes → action_at r k n ≡ SkipSection → MoveIs (move.TooLarge n start) r bytes (skips_section r n)
too_large_move r bytes k id n start z same e w is = record {
  within = (passed r bytes id n start e, w);
  endpoint = refl;
  next = record { place = refl; interims = refl };
  gives = gives_too_large r bytes (drop start bytes) id n z e (rw same at is);
  alone = gives_too_large r (take start bytes) [] id n z (head_alone bytes id n start e w) (rw same at is);
}

pub refused_move : (r : Reader) (bytes : List ℕ) (k : FrameType) (id n start : ℕ) (f : Fault) → AtHead r → k ≡ type_of id → head_at bytes ≡ Some (id, n, drop start bytes) → action_at r k n ≡ Refuse f → MoveIs (move.Failed f) r bytes (failed r f)
refused_move r bytes k id n start f z same e is = record {
  within = some_bytes bytes (drop start bytes) id n e;
  endpoint = refl;
  next = record { place = refl; interims = refl };
  gives = gives_refused r bytes (drop start bytes) id n f z e (rw same at is);
  alone = rw (take-length bytes) (gives_refused r bytes (drop start bytes) id n f z e (rw same at is));
}
