-- The run of bytes goes by the head of its first frame, or by the payload that is still to come.
use Rattle.std.proofs.Common.{◌≡◌, ℕ, zero, suc, ◌-◌, ◌<◌, ◌≤◌, Bool, true, false, List, [], ◌∷◌, length, take, drop, Option, Some, None, Result, Ok, Err, refl, ap, ◌∙◌, arith, length-drop, eq-eqb, inl, inr}
use Rattle.std.proofs.lemmas.Bool.{cases_lt, cases_Bool, le-ltb, lt-ltb, ne_eqb}
use Rattle.wtp_core.specs.Varint.{bytes_at}
use Rattle.wtp_frames.specs.declared.frame_type.FrameType.{FrameType}
use Rattle.wtp_frames.specs.declared.fault.Fault.{Fault}
use Rattle.wtp_frames.specs.declared.reader.Place.{Place}
use Rattle.wtp_frames.specs.declared.reader.Reader.{Reader}
use Rattle.wtp_frames.specs.declared.rules.Action.{Action}
use Rattle.wtp_frames.specs.declared.rules.Action.TheVariants.{Give, Stream, Skip, SkipSection, Refuse}
use Rattle.wtp_frames.specs.FrameType.{type_of}
use Rattle.wtp_frames.specs.Rules.{accepted}
use Rattle.wtp_frames.specs.Item.{Item, Whole, TooLarge}
use Rattle.wtp_frames.specs.Run.{Run, stays, preceded, pieces, streams, skips, skips_section, moved, head_at, by_place, by_payload, by_action, action_at, by_head, within_payload, intact_run, is_failed, next_run, run_within, run}
use Rattle.wtp_frames.proofs.HeadLemmas.{head_shorter, head_empty, bytes_shorter}

-- the reader expects a head
pub record AtHead (r : Reader) : Type 0 where
  pub intact : is_failed r.place ≡ false
  pub none : r.remaining ≡ 0

-- the reader is within a payload
pub record InPayload (r : Reader) : Type 0 where
  pub intact : is_failed r.place ≡ false
  pub some : 0 < r.remaining

-- ---- the number of steps does not matter

place_same : (r : Reader) (k : FrameType) (payload rest : List ℕ) (f g : Reader → List ℕ → Run) (o : Result Place Fault) → ((s : Reader) → f s rest ≡ g s rest) → by_place f r k payload rest o ≡ by_place g r k payload rest o
place_same r k payload rest f g (Ok place) h = ap (λ (x : Run). preceded (Whole k payload ∷ []) x) (h (moved r place))
place_same r k payload rest f g (Err x) h = refl

payload_same : (r : Reader) (bytes : List ℕ) (k : FrameType) (n : ℕ) (rest : List ℕ) (f g : Reader → List ℕ → Run) (o : Option (List ℕ × List ℕ)) → bytes_at n rest ≡ o → ((s : Reader) (left : List ℕ) → length left ≤ length rest → f s left ≡ g s left) → by_payload f r bytes k o ≡ by_payload g r bytes k o
payload_same r bytes k n rest f g None e h = refl
payload_same r bytes k n rest f g (Some p) e h = place_same r k p.0 p.1 f g (accepted r.endpoint.side r.place k p.0) (λ s. h s p.1 (bytes_shorter n rest p.0 p.1 e))

action_same : (r : Reader) (bytes : List ℕ) (k : FrameType) (n : ℕ) (rest : List ℕ) (f g : Reader → List ℕ → Run) (a : Action) → ((s : Reader) (left : List ℕ) → length left ≤ length rest → f s left ≡ g s left) → by_action f r bytes k n rest a ≡ by_action g r bytes k n rest a
action_same r bytes k n rest f g Give h = payload_same r bytes k n rest f g (bytes_at n rest) refl h
action_same r bytes k n rest f g Stream h = h (streams r n) rest (omega arith)
action_same r bytes k n rest f g Skip h = h (skips r n) rest (omega arith)
action_same r bytes k n rest f g SkipSection h = ap (λ (x : Run). preceded (TooLarge n ∷ []) x) (h (skips_section r n) rest (omega arith))
action_same r bytes k n rest f g (Refuse x) h = refl

head_same : (r : Reader) (bytes : List ℕ) (f g : Reader → List ℕ → Run) (o : Option (ℕ × ℕ × List ℕ)) → head_at bytes ≡ o → ((s : Reader) (left : List ℕ) → length left < length bytes → f s left ≡ g s left) → by_head f r bytes o ≡ by_head g r bytes o
head_same r bytes f g None e h = refl
head_same r bytes f g (Some x) e h =
    let less : length x.2 < length bytes = head_shorter bytes x.2 x.0 x.1 e in
    action_same r bytes (type_of x.0) x.1 x.2 f g (action_at r (type_of x.0) x.1) (λ s left l. h s left (omega (arith, l, less)))

intact_same : (r : Reader) (bytes : List ℕ) (f g : Reader → List ℕ → Run) → ((s : Reader) (left : List ℕ) → length left < length bytes → f s left ≡ g s left) → intact_run f r bytes ≡ intact_run g r bytes
intact_same r bytes f g h = elim (cases_lt 0 r.remaining) [
  | inl some ↦ elim (cases_lt (length bytes) r.remaining) [
    | inl few ↦ rw (ne_eqb r.remaining 0 (λ z. omega (arith, z, some)), lt-ltb (length bytes) r.remaining few) refl
    | inr all ↦ rw (ne_eqb r.remaining 0 (λ z. omega (arith, z, some)), le-ltb (length bytes) r.remaining all) (ap (λ (x : Run). preceded (pieces r.streamed (take r.remaining bytes)) x) (h (record r { remaining = 0 }) (drop r.remaining bytes) (omega (arith, some, all, length-drop r.remaining bytes))))
  ]
  | inr none ↦ rw (eq-eqb r.remaining 0 (omega (arith, none))) (head_same r bytes f g (head_at bytes) refl h)
]

next_same : (r : Reader) (bytes : List ℕ) (f g : Reader → List ℕ → Run) → ((s : Reader) (left : List ℕ) → length left < length bytes → f s left ≡ g s left) → next_run f r bytes ≡ next_run g r bytes
next_same r bytes f g h = elim (cases_Bool (is_failed r.place)) [
  | inl broken ↦ rw broken refl
  | inr whole ↦ rw whole (intact_same r bytes f g h)
]

run_enough : (n m : ℕ) (r : Reader) (bytes : List ℕ) → length bytes < n → length bytes < m → run_within n r bytes ≡ run_within m r bytes
run_enough zero m r bytes hn hm = absurd (omega (arith, hn))
run_enough (suc n) zero r bytes hn hm = absurd (omega (arith, hm))
run_enough (suc n) (suc m) r bytes hn hm = next_same r bytes (λ s rest. run_within n s rest) (λ s rest. run_within m s rest) (λ s rest l. run_enough n m s rest (omega (arith, l, hn)) (omega (arith, l, hm)))

pub run_step : (r : Reader) (bytes : List ℕ) → run r bytes ≡ next_run (λ s rest. run s rest) r bytes
unfolding run
run_step r bytes = next_same r bytes (λ s rest. run_within (length bytes) s rest) (λ s rest. run_within (suc (length rest)) s rest) (λ s rest l. run_enough (length bytes) (suc (length rest)) s rest (omega (arith, l)) (omega arith))

-- ---- by the case

pub run_failed : (r : Reader) (bytes : List ℕ) → is_failed r.place ≡ true → run r bytes ≡ stays r []
run_failed r bytes e = run_step r bytes ∙ rw e refl

run_intact : (r : Reader) (bytes : List ℕ) → is_failed r.place ≡ false → run r bytes ≡ intact_run (λ s rest. run s rest) r bytes
run_intact r bytes e = run_step r bytes ∙ rw e refl

pub run_head : (r : Reader) (bytes : List ℕ) (o : Option (ℕ × ℕ × List ℕ)) → AtHead r → head_at bytes ≡ o → run r bytes ≡ by_head (λ s rest. run s rest) r bytes o
run_head r bytes o z e = run_intact r bytes z.intact ∙ rw (eq-eqb r.remaining 0 z.none) (ap (λ (x : Option (ℕ × ℕ × List ℕ)). by_head (λ s rest. run s rest) r bytes x) e)

pub run_frame : (r : Reader) (bytes rest : List ℕ) (id n : ℕ) (a : Action) → AtHead r → head_at bytes ≡ Some (id, n, rest) → action_at r (type_of id) n ≡ a → run r bytes ≡ by_action (λ s left. run s left) r bytes (type_of id) n rest a
run_frame r bytes rest id n a z e is =
    run_head r bytes (Some (id, n, rest)) z e ∙ ap (λ (x : Action). by_action (λ s left. run s left) r bytes (type_of id) n rest x) is

pub run_all : (r : Reader) (bytes : List ℕ) → InPayload r → length bytes < r.remaining → run r bytes ≡ within_payload r bytes
run_all r bytes z few = run_intact r bytes z.intact ∙ rw (ne_eqb r.remaining 0 (λ e. omega (arith, e, z.some)), lt-ltb (length bytes) r.remaining few) refl

pub run_past : (r : Reader) (bytes : List ℕ) → InPayload r → r.remaining ≤ length bytes → run r bytes ≡ preceded (pieces r.streamed (take r.remaining bytes)) (run (record r { remaining = 0 }) (drop r.remaining bytes))
run_past r bytes z all = run_intact r bytes z.intact ∙ rw (ne_eqb r.remaining 0 (λ e. omega (arith, e, z.some)), le-ltb (length bytes) r.remaining all) refl

-- ---- no bytes

pieces_none : (b : Bool) → pieces b [] ≡ []
pieces_none true = refl
pieces_none false = refl

within_empty : (r : Reader) → within_payload r [] ≡ stays r []
within_empty r =
    ap (λ (x : List Item). record { items = x; reader = record r { remaining = r.remaining - 0 }; left = [] }) (pieces_none r.streamed)
    ∙ ap (λ (k : ℕ). stays (record r { remaining = k }) []) (omega arith)

pub run_none : (r : Reader) → run r [] ≡ stays r []
run_none r = elim (cases_Bool (is_failed r.place)) [
  | inl broken ↦ run_failed r [] broken
  | inr whole ↦ elim (cases_lt 0 r.remaining) [
    | inl some ↦ run_all r [] (record { intact = whole; some = some }) some ∙ within_empty r
    | inr none ↦ run_head r [] None (record { intact = whole; none = omega (arith, none) }) head_empty
  ]
]
