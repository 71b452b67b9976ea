-- The first thing that bytes give, move by move.
use Rattle.std.proofs.Common.{◌≡◌, ℕ, zero, suc, ◌+◌, ◌-◌, ◌<◌, ◌≤◌, ◌&&◌, Bool, true, false, cond, ltb, List, [], ◌∷◌, map, length, take, drop, Option, Some, None, Result, Ok, Err, refl, sym, ap, ◌∙◌, arith, length-drop, eq-eqb, inl, inr}
use Rattle.std.proofs.lemmas.Bool.{cases_lt, cases_Bool, ltb-true, le-ltb, lt-ltb, ne_eqb}
use Rattle.std.proofs.lemmas.List.{append-nil, drop-drop}
use Rattle.std.proofs.Math.Seq.{take-length, drop-length}
use Rattle.wtp_core.specs.Varint.{bytes_at}
use Rattle.wtp_frames.specs.declared.frame_type.FrameType.{FrameType}
use Rattle.wtp_frames.specs.declared.fault.Fault.{Fault}
use Rattle.wtp_frames.specs.declared.reader.Place.{Place}
use Rattle.wtp_frames.specs.declared.reader.Reader.{Reader}
use Rattle.wtp_frames.specs.declared.reader.Move.TheVariants as move
use Rattle.wtp_frames.specs.declared.reader.Step.TheVariants as step
use Rattle.wtp_frames.specs.declared.rules.Action.{Action}
use Rattle.wtp_frames.specs.declared.rules.Action.TheVariants.{Give}
use Rattle.wtp_frames.specs.FrameType.{type_of}
use Rattle.wtp_frames.specs.Rules.{accepted}
use Rattle.wtp_frames.specs.Item.{Item, Byte}
use Rattle.wtp_frames.specs.Run.{Run, stays, preceded, pieces, failed, moved, head_at, by_place, by_payload, by_action, action_at, by_head, within_payload, is_failed}
use Rattle.wtp_frames.specs.Reading.{slice, payload_move, all_passed}
use Rattle.wtp_frames.specs.First.{moves, is_none, goes_on, until_given, first_within, first, given, moved_by}
use Rattle.wtp_frames.proofs.HeadLemmas.{head_empty, bytes_missing}
use Rattle.wtp_frames.proofs.RunLemmas.{AtHead, InPayload}
use Rattle.wtp_frames.proofs.MoveLemmas.{place_end}

-- ---- the number of steps does not matter

by_cond : (b : Bool) (x y z : Run) → (b ≡ true → x ≡ y) → cond b x z ≡ cond b y z
by_cond true x y z h = h refl
by_cond false x y z h = refl

both : (a b : Bool) → (a && b) ≡ true → b ≡ true
both true b e = e
both false b e = absurd (cc)

shorter_if : (x : Run) (bytes : List ℕ) → goes_on x bytes ≡ true → length x.left < length bytes
shorter_if x bytes e = ltb-true (length x.left) (length bytes) (both (is_none x.items) (ltb (length x.left) (length bytes)) e)

until_same : (x : Run) (bytes : List ℕ) (f g : Reader → List ℕ → Run) → ((s : Reader) (rest : List ℕ) → length rest < length bytes → f s rest ≡ g s rest) → until_given f x bytes ≡ until_given g x bytes
until_same x bytes f g h = by_cond (goes_on x bytes) (f x.reader x.left) (g x.reader x.left) x (λ e. h x.reader x.left (shorter_if x bytes e))

first_enough : (n m : ℕ) (r : Reader) (bytes : List ℕ) → length bytes < n → length bytes < m → first_within n r bytes ≡ first_within m r bytes
first_enough zero m r bytes hn hm = absurd (omega (arith, hn))
first_enough (suc n) zero r bytes hn hm = absurd (omega (arith, hm))
first_enough (suc n) (suc m) r bytes hn hm = until_same (moves r bytes) bytes (λ s rest. first_within n s rest) (λ s rest. first_within m s rest) (λ s rest l. first_enough n m s rest (omega (arith, l, hn)) (omega (arith, l, hm)))

pub first_step : (r : Reader) (bytes : List ℕ) → first r bytes ≡ until_given (λ s rest. first s rest) (moves r bytes) bytes
unfolding first
first_step r bytes = until_same (moves r bytes) bytes (λ s rest. first_within (length bytes) s rest) (λ s rest. first_within (suc (length rest)) s rest) (λ s rest l. first_enough (length bytes) (suc (length rest)) s rest (omega (arith, l)) (omega arith))

-- a move that gives nothing
pub first_goes : (r s : Reader) (bytes rest : List ℕ) → moves r bytes ≡ stays s rest → length rest < length bytes → first r bytes ≡ first s rest
first_goes r s bytes rest e l =
    first_step r bytes
    ∙ ap (λ (x : Run). until_given (λ s rest. first s rest) x bytes) e
    ∙ ap (λ (b : Bool). cond b (first s rest) (stays s rest)) (lt-ltb (length rest) (length bytes) l)

-- one that gives something
pub first_gives : (r : Reader) (bytes : List ℕ) (x : Run) → moves r bytes ≡ x → is_none x.items ≡ false → first r bytes ≡ x
first_gives r bytes x e some =
    first_step r bytes
    ∙ ap (λ (y : Run). until_given (λ s rest. first s rest) y bytes) e
    ∙ ap (λ (b : Bool). cond (b && ltb (length x.left) (length bytes)) (first x.reader x.left) x) some

-- one that consumes nothing
pub first_stuck : (r s : Reader) (bytes rest : List ℕ) → moves r bytes ≡ stays s rest → length bytes ≤ length rest → first r bytes ≡ stays s rest
first_stuck r s bytes rest e l =
    first_step r bytes
    ∙ ap (λ (x : Run). until_given (λ s rest. first s rest) x bytes) e
    ∙ ap (λ (b : Bool). cond b (first s rest) (stays s rest)) (le-ltb (length rest) (length bytes) l)

-- ---- moves, by the case

pub moves_failed : (r : Reader) (bytes : List ℕ) → is_failed r.place ≡ true → moves r bytes ≡ stays r []
moves_failed r bytes e = rw e refl

pub moves_head : (r : Reader) (bytes : List ℕ) (o : Option (ℕ × ℕ × List ℕ)) → AtHead r → head_at bytes ≡ o → moves r bytes ≡ by_head (λ s rest. stays s rest) r bytes o
moves_head r bytes o z e = rw (z.intact, eq-eqb r.remaining 0 z.none) (ap (λ (x : Option (ℕ × ℕ × List ℕ)). by_head (λ s rest. stays s rest) r bytes x) e)

pub moves_frame : (r : Reader) (bytes rest : List ℕ) (id n : ℕ) (a : Action) → AtHead r → head_at bytes ≡ Some (id, n, rest) → action_at r (type_of id) n ≡ a → moves r bytes ≡ by_action (λ s left. stays s left) r bytes (type_of id) n rest a
moves_frame r bytes rest id n a z e is =
    moves_head r bytes (Some (id, n, rest)) z e ∙ ap (λ (x : Action). by_action (λ s left. stays s left) r bytes (type_of id) n rest x) is

pub moves_given : (r : Reader) (bytes rest : List ℕ) (id n : ℕ) (o : Option (List ℕ × List ℕ)) → AtHead r → head_at bytes ≡ Some (id, n, rest) → action_at r (type_of id) n ≡ Give → bytes_at n rest ≡ o → moves r bytes ≡ by_payload (λ s left. stays s left) r bytes (type_of id) o
moves_given r bytes rest id n o z e is p =
    moves_frame r bytes rest id n Give z e is ∙ ap (λ (x : Option (List ℕ × List ℕ)). by_payload (λ s l. stays s l) r bytes (type_of id) x) p

pub moves_whole : (r : Reader) (bytes rest payload left : List ℕ) (id n : ℕ) (o : Result Place Fault) → AtHead r → head_at bytes ≡ Some (id, n, rest) → action_at r (type_of id) n ≡ Give → bytes_at n rest ≡ Some (payload, left) → accepted r.endpoint.side r.place (type_of id) payload ≡ o → moves r bytes ≡ by_place (λ s l. stays s l) r (type_of id) payload left o
moves_whole r bytes rest payload left id n o z e is p a =
    moves_given r bytes rest id n (Some (payload, left)) z e is p ∙ ap (λ (x : Result Place Fault). by_place (λ s l. stays s l) r (type_of id) payload left x) a

pub moves_within : (r : Reader) (bytes : List ℕ) → InPayload r → length bytes < r.remaining → moves r bytes ≡ within_payload r bytes
moves_within r bytes z few = rw (z.intact, ne_eqb r.remaining 0 (λ e. omega (arith, e, z.some)), lt-ltb (length bytes) r.remaining few) refl

no_more : (items : List Item) (s : Reader) (rest : List ℕ) → preceded items (stays s rest) ≡ record { items = items; reader = s; left = rest }
no_more items s rest = ap (λ (x : List Item). record { items = x; reader = s; left = rest }) (append-nil items)

pub moves_past : (r : Reader) (bytes : List ℕ) → InPayload r → r.remaining ≤ length bytes → moves r bytes ≡ record { items = pieces r.streamed (take r.remaining bytes); reader = record r { remaining = 0 }; left = drop r.remaining bytes }
moves_past r bytes z all = rw (z.intact, ne_eqb r.remaining 0 (λ e. omega (arith, e, z.some)), le-ltb (length bytes) r.remaining all) (no_more (pieces r.streamed (take r.remaining bytes)) (record r { remaining = 0 }) (drop r.remaining bytes))

pieces_none : (b : Bool) → pieces b [] ≡ []
pieces_none true = refl
pieces_none false = refl

within_empty : (r : Reader) → within_payload r [] ≡ stays r []
within_empty r =
    ap (λ (x : List Item). record { items = x; reader = record r { remaining = r.remaining - 0 }; left = [] }) (pieces_none r.streamed)
    ∙ ap (λ (k : ℕ). stays (record r { remaining = k }) []) (omega arith)

pub moves_none : (r : Reader) → moves r [] ≡ stays r []
moves_none r = elim (cases_Bool (is_failed r.place)) [
  | inl broken ↦ moves_failed r [] broken
  | inr whole ↦ elim (cases_lt 0 r.remaining) [
    | inl some ↦ moves_within r [] (record { intact = whole; some = some }) some ∙ within_empty r
    | inr none ↦ moves_head r [] None (record { intact = whole; none = omega (arith, none) }) head_empty
  ]
]

pub first_none : (r : Reader) → first r [] ≡ stays r []
first_none r = first_stuck r r [] [] (moves_none r) (omega arith)

-- ---- what each move of the reader gives

pub no_bytes : (bytes : List ℕ) → length bytes ≡ 0 → bytes ≡ []
no_bytes [] e = refl
no_bytes (b ∷ bytes) e = absurd (omega (arith, e))

pub exact_empty : (r : Reader) (bytes : List ℕ) → length bytes ≡ 0 → moved_by move.Stuck bytes r ≡ moves r bytes
exact_empty r bytes e = rw (no_bytes bytes e) (sym (moves_none r))

pub exact_failed : (r : Reader) (bytes : List ℕ) → is_failed r.place ≡ true → moved_by (all_passed (length bytes)) bytes r ≡ moves r bytes
exact_failed r bytes e = elim (cases_lt 0 (length bytes)) [
  | inl some ↦ rw (ne_eqb (length bytes) 0 (λ z. omega (arith, z, some)), drop-length bytes) (sym (moves_failed r bytes e))
  | inr none ↦ rw (eq-eqb (length bytes) 0 (omega (arith, none))) (exact_empty r bytes (omega (arith, none)))
]

payload_exact : (b : Bool) (n : ℕ) (bytes : List ℕ) (new : Reader) → moved_by (payload_move b n) bytes new ≡ record { items = pieces b (take n bytes); reader = new; left = drop n bytes }
payload_exact true n bytes new = refl
payload_exact false n bytes new = refl

pub exact_all : (r : Reader) (bytes : List ℕ) → InPayload r → length bytes < r.remaining → moved_by (payload_move r.streamed (length bytes)) bytes (record r { remaining = r.remaining - length bytes }) ≡ moves r bytes
exact_all r bytes z few =
    payload_exact r.streamed (length bytes) bytes (record r { remaining = r.remaining - length bytes })
    ∙ rw (take-length bytes, drop-length bytes) (sym (moves_within r bytes z few))

pub exact_rest : (r : Reader) (bytes : List ℕ) → InPayload r → r.remaining ≤ length bytes → moved_by (payload_move r.streamed r.remaining) bytes (record r { remaining = 0 }) ≡ moves r bytes
exact_rest r bytes z all =
    payload_exact r.streamed r.remaining bytes (record r { remaining = 0 })
    ∙ sym (moves_past r bytes z all)

pub exact_head : (r : Reader) (bytes : List ℕ) → AtHead r → head_at bytes ≡ None → moved_by move.Stuck bytes r ≡ moves r bytes
exact_head r bytes z e = sym (moves_head r bytes None z e)

pub exact_payload : (r : Reader) (bytes : List ℕ) (k : FrameType) (id n start : ℕ) → AtHead r → k ≡ type_of id → head_at bytes ≡ Some (id, n, drop start bytes) → start ≤ length bytes → action_at r k n ≡ Give → length bytes - start < n → moved_by move.Stuck bytes r ≡ moves r bytes
exact_payload r bytes k id n start z same e w is less =
    let rest : length (drop start bytes) < n = omega (arith, length-drop start bytes, less) in
    sym (moves_given r bytes (drop start bytes) id n None z e (rw same at is) (bytes_missing n (drop start bytes) rest))

pub exact_whole : (r : Reader) (bytes : List ℕ) (k : FrameType) (id n start : ℕ) (place : Place) → AtHead r → k ≡ type_of id → head_at bytes ≡ Some (id, n, drop start bytes) → start ≤ length bytes → action_at r k n ≡ Give → n ≤ length bytes - start → accepted r.endpoint.side r.place k (slice start (start + n) bytes) ≡ Ok place → moved_by (move.Whole k start (start + n)) bytes (moved r place) ≡ moves r bytes
exact_whole r bytes k id n start place z same e w is l a =
    rw same (sym (moves_whole r bytes (drop start bytes) (slice start (start + n) bytes) (drop (start + n) bytes) id n (Ok place) z e (rw same at is) (place_end n start bytes w l) (rw same at a)))

pub exact_unaccepted : (r : Reader) (bytes : List ℕ) (k : FrameType) (id n start : ℕ) (f : Fault) → AtHead r → k ≡ type_of id → head_at bytes ≡ Some (id, n, drop start bytes) → start ≤ length bytes → action_at r k n ≡ Give → n ≤ length bytes - start → accepted r.endpoint.side r.place k (slice start (start + n) bytes) ≡ Err f → moved_by (move.Failed f) bytes (failed r f) ≡ moves r bytes
exact_unaccepted r bytes k id n start f z same e w is l a =
    sym (moves_whole r bytes (drop start bytes) (slice start (start + n) bytes) (drop (start + n) bytes) id n (Err f) z e (rw same at is) (place_end n start bytes w l) (rw same at a))

pub exact_frame : (r : Reader) (bytes : List ℕ) (k : FrameType) (id n start : ℕ) (a : Action) → AtHead r → k ≡ type_of id → head_at bytes ≡ Some (id, n, drop start bytes) → action_at r k n ≡ a → by_action (λ s left. stays s left) r bytes k n (drop start bytes) a ≡ moves r bytes
exact_frame r bytes k id n start a z same e is = rw same (sym (moves_frame r bytes (drop start bytes) id n a z e (rw same at is)))

-- ---- some moves are a step

pub then_first : (old mid new : Reader) (bytes : List ℕ) (at n : ℕ) → first old bytes ≡ first mid (drop at bytes) → moved_by (move.Passed n) (drop at bytes) new ≡ moves mid (drop at bytes) → 0 < n → n ≤ length (drop at bytes) → first old bytes ≡ first new (drop (at + n) bytes)
then_first old mid new bytes at n e m some w =
    e
    ∙ first_goes mid new (drop at bytes) (drop n (drop at bytes)) (sym m) (omega (arith, some, w, length-drop n (drop at bytes)))
    ∙ ap (λ (l : List ℕ). first new l) (drop-drop n at bytes)

given_first : (old mid : Reader) (bytes : List ℕ) (at : ℕ) (x : Run) → first old bytes ≡ first mid (drop at bytes) → x ≡ moves mid (drop at bytes) → is_none x.items ≡ false → x ≡ first old bytes
given_first old mid bytes at x e m some = sym (e ∙ first_gives mid (drop at bytes) x (sym m) some)

slice_at : (a b at : ℕ) (bytes : List ℕ) → slice a b (drop at bytes) ≡ slice (at + a) (at + b) bytes
slice_at a b at bytes = let size : (at + b) - (at + a) ≡ b - a = omega arith in rw (size, drop-drop a at bytes) refl

pub first_frame : (old mid new : Reader) (bytes : List ℕ) (at : ℕ) (k : FrameType) (a b : ℕ) → first old bytes ≡ first mid (drop at bytes) → moved_by (move.Whole k a b) (drop at bytes) new ≡ moves mid (drop at bytes) → given (step.Frame k (at + a) (at + b)) bytes new ≡ first old bytes
first_frame old mid new bytes at k a b e m =
    rw (← slice_at a b at bytes, ← drop-drop b at bytes) (given_first old mid bytes at (moved_by (move.Whole k a b) (drop at bytes) new) e m refl)

some_items : (n : ℕ) (bytes : List ℕ) → 0 < n → n ≤ length bytes → is_none (map Byte (take n bytes)) ≡ false
some_items zero bytes l m = absurd (omega (arith, l))
some_items (suc n) [] l m = absurd (omega (arith, m))
some_items (suc n) (b ∷ bytes) l m = refl

piece_at : (n at : ℕ) (bytes : List ℕ) → slice at (at + n) bytes ≡ take n (drop at bytes)
piece_at n at bytes = let size : (at + n) - at ≡ n = omega arith in rw size refl

pub first_data : (old mid new : Reader) (bytes : List ℕ) (at n : ℕ) → first old bytes ≡ first mid (drop at bytes) → moved_by (move.Streamed n) (drop at bytes) new ≡ moves mid (drop at bytes) → 0 < n → n ≤ length (drop at bytes) → given (step.Data at (at + n)) bytes new ≡ first old bytes
first_data old mid new bytes at n e m some w =
    rw (piece_at n at bytes, ← drop-drop n at bytes) (given_first old mid bytes at (moved_by (move.Streamed n) (drop at bytes) new) e m (some_items n (drop at bytes) some w))

pub first_too_large : (old mid new : Reader) (bytes : List ℕ) (at size n : ℕ) → first old bytes ≡ first mid (drop at bytes) → moved_by (move.TooLarge size n) (drop at bytes) new ≡ moves mid (drop at bytes) → given (step.TooLarge size (at + n)) bytes new ≡ first old bytes
first_too_large old mid new bytes at size n e m =
    rw (← drop-drop n at bytes) (given_first old mid bytes at (moved_by (move.TooLarge size n) (drop at bytes) new) e m refl)

pub first_more : (old mid new : Reader) (bytes : List ℕ) (at : ℕ) → first old bytes ≡ first mid (drop at bytes) → moved_by move.Stuck (drop at bytes) new ≡ moves mid (drop at bytes) → given (step.More at) bytes new ≡ first old bytes
first_more old mid new bytes at e m = sym (e ∙ first_stuck mid new (drop at bytes) (drop at bytes) (sym m) (omega arith))

pub first_fault : (old mid new : Reader) (bytes : List ℕ) (at : ℕ) (f : Fault) → first old bytes ≡ first mid (drop at bytes) → moved_by (move.Failed f) (drop at bytes) new ≡ moves mid (drop at bytes) → given (step.Fault f) bytes new ≡ first old bytes
first_fault old mid new bytes at f e m = given_first old mid bytes at (moved_by (move.Failed f) (drop at bytes) new) e m refl
