-- What is given first, where more bytes follow.
use Rattle.std.proofs.Common.{◌≡◌, ℕ, zero, suc, ◌+◌, ◌-◌, ◌==◌, ◌<◌, ◌≤◌, ◌&&◌, Bool, true, false, cond, List, [], ◌∷◌, ◌++◌, map, length, take, drop, Option, Some, None, Result, Ok, Err, refl, sym, ap, subst, ◌∙◌, arith, length-append, length-drop, inl, inr}
use Rattle.std.proofs.lemmas.Bool.{cases_lt, cases_Bool, lt-ltb}
use Rattle.std.proofs.lemmas.List.{length-take-le, map-append, append-nil, take-append-drop, take-append-le, drop-append-le}
use Rattle.std.proofs.Math.Seq.{take-append-add, drop-append-add}
use Rattle.wtp_core.specs.Varint.{bytes_at}
use Rattle.wtp_frames.specs.declared.frame_type.FrameType.{FrameType}
use Rattle.wtp_frames.specs.declared.fault.Fault.{Fault}
use Rattle.wtp_frames.specs.declared.reader.Place.{Place}
use Rattle.wtp_frames.specs.declared.reader.Reader.{Reader}
use Rattle.wtp_frames.specs.declared.rules.Action.{Action}
use Rattle.wtp_frames.specs.declared.rules.Action.TheVariants.{Give, Stream, Skip, SkipSection, Refuse}
use Rattle.wtp_frames.specs.FrameType.{type_of}
use Rattle.wtp_frames.specs.Rules.{accepted}
use Rattle.wtp_frames.specs.Item.{Item, Whole, Byte, TooLarge, Broken}
use Rattle.wtp_frames.specs.Run.{Run, stays, preceded, pieces, streams, skips, skips_section, moved, breaks, head_at, action_at, is_failed}
use Rattle.wtp_frames.specs.First.{moves, is_none, first, in_piece, left_over, longer, by_given, with_more}
use Rattle.wtp_frames.proofs.HeadLemmas.{head_more, head_shorter, bytes_more}
use Rattle.wtp_frames.proofs.RunLemmas.{AtHead, InPayload}
use Rattle.wtp_frames.proofs.FirstLemmas.{first_goes, first_gives, first_stuck, first_none, moves_failed, moves_head, moves_frame, moves_given, moves_whole, moves_within, moves_past, moves_none, no_bytes}

-- ---- what can be given first

pub data Shape : List Item → Type 0 where
  Nothing : Shape []
  Frame : (k : FrameType) (payload : List ℕ) → Shape (Whole k payload ∷ [])
  Section : (n : ℕ) → Shape (TooLarge n ∷ [])
  Fails : (f : Fault) → Shape (Broken f ∷ [])
  Piece : (bytes : List ℕ) → 0 < length bytes → Shape (map Byte bytes)

-- the first is a byte
abbrev pub is_piece : List Item → Bool
is_piece (Byte b ∷ items) = true
is_piece other = false

-- ---- what one move gives, whatever follows

data Case (r : Reader) (a : List ℕ) : Type 0 where
  Failed : is_failed r.place ≡ true → Case r a
  Stuck : moves r a ≡ stays r a → Case r a
  Goes : (s : Reader) (rest : List ℕ) → ((b : List ℕ) → moves r (a ++ b) ≡ stays s (rest ++ b))
      → length rest < length a → Case r a
  Gives : (i : Item) (s : Reader) (rest : List ℕ)
      → ((b : List ℕ) → moves r (a ++ b) ≡ record { items = i ∷ []; reader = s; left = rest ++ b })
      → ((x : Run) (b : List ℕ) → by_given (i ∷ []) x b ≡ left_over x b) → Shape (i ∷ [])
      → is_piece (i ∷ []) ≡ false → Case r a
  Breaks : (f : Fault) → ((b : List ℕ) → moves r (a ++ b) ≡ breaks r f) → Case r a
  All : InPayload r → 0 < length a → length a < r.remaining → Case r a
  Rest : InPayload r → r.remaining ≤ length a → Case r a

case_place : (r : Reader) (a rest payload left : List ℕ) (id n : ℕ) (o : Result Place Fault) → AtHead r → head_at a ≡ Some (id, n, rest) → action_at r (type_of id) n ≡ Give → bytes_at n rest ≡ Some (payload, left) → accepted r.endpoint.side r.place (type_of id) payload ≡ o → Case r a
case_place r a rest payload left id n (Ok place) z e is p h =
    Gives (Whole (type_of id) payload) (moved r place) left (λ b. moves_whole r (a ++ b) (rest ++ b) payload (left ++ b) id n (Ok place) z (head_more a rest b id n e) is (bytes_more n rest payload left b p) h) (λ x b. refl) (Frame (type_of id) payload) refl
case_place r a rest payload left id n (Err f) z e is p h =
    Breaks f (λ b. moves_whole r (a ++ b) (rest ++ b) payload (left ++ b) id n (Err f) z (head_more a rest b id n e) is (bytes_more n rest payload left b p) h)

case_payload : (r : Reader) (a rest : List ℕ) (id n : ℕ) (o : Option (List ℕ × List ℕ)) → AtHead r → head_at a ≡ Some (id, n, rest) → action_at r (type_of id) n ≡ Give → bytes_at n rest ≡ o → Case r a
case_payload r a rest id n None z e is p = Stuck (moves_given r a rest id n None z e is p)
case_payload r a rest id n (Some x) z e is p = case_place r a rest x.0 x.1 id n (accepted r.endpoint.side r.place (type_of id) x.0) z e is p refl

case_frame : (r : Reader) (a rest : List ℕ) (id n : ℕ) (o : Action) → AtHead r → head_at a ≡ Some (id, n, rest) → action_at r (type_of id) n ≡ o → Case r a
case_frame r a rest id n Give z e is = case_payload r a rest id n (bytes_at n rest) z e is refl
case_frame r a rest id n Stream z e is = Goes (streams r n) rest (λ b. moves_frame r (a ++ b) (rest ++ b) id n Stream z (head_more a rest b id n e) is) (head_shorter a rest id n e)
case_frame r a rest id n Skip z e is = Goes (skips r n) rest (λ b. moves_frame r (a ++ b) (rest ++ b) id n Skip z (head_more a rest b id n e) is) (head_shorter a rest id n e)
case_frame r a rest id n SkipSection z e is = Gives (TooLarge n) (skips_section r n) rest (λ b. moves_frame r (a ++ b) (rest ++ b) id n SkipSection z (head_more a rest b id n e) is) (λ x b. refl) (Section n) refl
case_frame r a rest id n (Refuse f) z e is = Breaks f (λ b. moves_frame r (a ++ b) (rest ++ b) id n (Refuse f) z (head_more a rest b id n e) is)

case_head : (r : Reader) (a : List ℕ) (o : Option (ℕ × ℕ × List ℕ)) → AtHead r → head_at a ≡ o → Case r a
case_head r a None z e = Stuck (moves_head r a None z e)
case_head r a (Some h) z e = case_frame r a h.2 h.0 h.1 (action_at r (type_of h.0) h.1) z e refl

case_of : (r : Reader) (a : List ℕ) → Case r a
case_of r a = elim (cases_Bool (is_failed r.place)) [
  | inl broken ↦ Failed broken
  | inr whole ↦ elim (cases_lt 0 r.remaining) [
    | inl due ↦ elim (cases_lt (length a) r.remaining) [
      | inl few ↦ elim (cases_lt 0 (length a)) [
        | inl some ↦ All (record { intact = whole; some = due }) some few
        | inr none ↦ Stuck (rw (no_bytes a (omega (arith, none))) (moves_none r))
      ]
      | inr all ↦ Rest (record { intact = whole; some = due }) all
    ]
    | inr none ↦ case_head r a (head_at a) (record { intact = whole; none = omega (arith, none) }) refl
  ]
]

-- ---- after a fault

pub first_failed : (r : Reader) (bytes : List ℕ) → is_failed r.place ≡ true → first r bytes ≡ stays r []
first_failed r bytes e = elim (cases_lt 0 (length bytes)) [
  | inl some ↦ first_goes r r bytes [] (moves_failed r bytes e) some ∙ first_none r
  | inr none ↦ first_stuck r r bytes [] (moves_failed r bytes e) (omega (arith, none))
]

-- ---- within a payload

-- the reader after so many bytes of it
abbrev pub after : Reader → ℕ → Reader
after r n = record r { remaining = r.remaining - n }

abbrev done : Reader → Reader
done r = record r { remaining = 0 }

some_bytes : (bytes : List ℕ) → 0 < length bytes → is_none (pieces true bytes) ≡ false
some_bytes [] l = absurd (omega (arith, l))
some_bytes (b ∷ bytes) l = refl

some_taken : (n : ℕ) (bytes : List ℕ) → 0 < n → n ≤ length bytes → is_none (pieces true (take n bytes)) ≡ false
some_taken zero bytes l m = absurd (omega (arith, l))
some_taken (suc n) [] l m = absurd (omega (arith, m))
some_taken (suc n) (b ∷ bytes) l m = refl

taken_some : (n : ℕ) (l : List ℕ) → 0 < n → n ≤ length l → 0 < length (take n l)
taken_some zero l s m = absurd (omega (arith, s))
taken_some (suc n) [] s m = absurd (omega (arith, m))
taken_some (suc n) (c ∷ l) s m = omega arith

-- bytes that are given
stream_all : (r : Reader) (b : List ℕ) → InPayload r → r.streamed ≡ true → length b < r.remaining → first r b ≡ record { items = map Byte b; reader = after r (length b); left = [] }
stream_all r b z e few = elim (cases_lt 0 (length b)) [
  | inl some ↦ first_gives r b (record { items = map Byte b; reader = after r (length b); left = [] }) (moves_within r b z few ∙ rw e refl) (some_bytes b some)
  | inr none ↦ rw (no_bytes b (omega (arith, none))) (first_none r ∙ ap (λ (k : ℕ). stays (record r { remaining = k }) []) (omega arith))
]

stream_rest : (r : Reader) (b : List ℕ) → InPayload r → r.streamed ≡ true → r.remaining ≤ length b → first r b ≡ record { items = map Byte (take r.remaining b); reader = done r; left = drop r.remaining b }
stream_rest r b z e all = first_gives r b (record { items = map Byte (take r.remaining b); reader = done r; left = drop r.remaining b }) (moves_past r b z all ∙ rw e refl) (some_taken r.remaining b z.some all)

-- bytes that are skipped
skip_all : (r : Reader) (b : List ℕ) → InPayload r → r.streamed ≡ false → length b < r.remaining → first r b ≡ stays (after r (length b)) []
skip_all r b z e few = elim (cases_lt 0 (length b)) [
  | inl some ↦ first_goes r (after r (length b)) b [] (moves_within r b z few ∙ rw e refl) some ∙ first_none (after r (length b))
  | inr none ↦ rw (no_bytes b (omega (arith, none))) (first_none r ∙ ap (λ (k : ℕ). stays (record r { remaining = k }) []) (omega arith))
]

skip_rest : (r : Reader) (b : List ℕ) → InPayload r → r.streamed ≡ false → r.remaining ≤ length b → first r b ≡ first (done r) (drop r.remaining b)
skip_rest r b z e all = first_goes r (done r) b (drop r.remaining b) (moves_past r b z all ∙ rw e refl) (omega (arith, z.some, all, length-drop r.remaining b))

-- ---- more bytes after some that do not end a payload

later : (r : Reader) (n : ℕ) → InPayload r → n < r.remaining → InPayload (after r n)
later r n z few = record { intact = z.intact; some = omega (arith, few) }

minus_both : (r : Reader) (a b : List ℕ) → after r (length (a ++ b)) ≡ after (after r (length a)) (length b)
minus_both r a b = ap (λ (k : ℕ). record r { remaining = k }) (omega (arith, length-append a b))

dropped_both : (n : ℕ) (a b : List ℕ) → length a < n → drop n (a ++ b) ≡ drop (n - length a) b
dropped_both n a b few =
    let size : n ≡ length a + (n - length a) = omega (arith, few) in
    ap (λ (k : ℕ). drop k (a ++ b)) size ∙ drop-append-add a b (n - length a)

taken_both : (n : ℕ) (a b : List ℕ) → length a < n → take n (a ++ b) ≡ a ++ take (n - length a) b
taken_both n a b few =
    let size : n ≡ length a + (n - length a) = omega (arith, few) in
    ap (λ (k : ℕ). take k (a ++ b)) size ∙ take-append-add a b (n - length a)

skip_more : (r : Reader) (a b : List ℕ) → InPayload r → r.streamed ≡ false → length a < r.remaining → first r (a ++ b) ≡ first (after r (length a)) b
skip_more r a b z e few = elim (cases_lt (length (a ++ b)) r.remaining) [
  | inl less ↦
      skip_all r (a ++ b) z e less
      ∙ ap (λ (s : Reader). stays s []) (minus_both r a b)
      ∙ sym (skip_all (after r (length a)) b (later r (length a) z few) e (omega (arith, less, length-append a b)))
  | inr all ↦
      skip_rest r (a ++ b) z e all
      ∙ ap (λ (l : List ℕ). first (done r) l) (dropped_both r.remaining a b few)
      ∙ sym (skip_rest (after r (length a)) b (later r (length a) z few) e (omega (arith, all, few, length-append a b)))
]

stream_more : (r : Reader) (a b : List ℕ) → InPayload r → r.streamed ≡ true → length a < r.remaining → first r (a ++ b) ≡ preceded (map Byte a) (first (after r (length a)) b)
stream_more r a b z e few = elim (cases_lt (length (a ++ b)) r.remaining) [
  | inl less ↦
      stream_all r (a ++ b) z e less
      ∙ ap (λ (s : Reader). record { items = map Byte (a ++ b); reader = s; left = [] }) (minus_both r a b)
      ∙ ap (λ (i : List Item). record { items = i; reader = after (after r (length a)) (length b); left = [] }) (map-append Byte a b)
      ∙ ap (λ (x : Run). preceded (map Byte a) x) (sym (stream_all (after r (length a)) b (later r (length a) z few) e (omega (arith, less, length-append a b))))
  | inr all ↦
      stream_rest r (a ++ b) z e all
      ∙ ap (λ (l : List ℕ). record { items = map Byte (take r.remaining (a ++ b)); reader = done r; left = l }) (dropped_both r.remaining a b few)
      ∙ ap (λ (i : List Item). record { items = i; reader = done r; left = drop (r.remaining - length a) b }) (ap (λ (l : List ℕ). map Byte l) (taken_both r.remaining a b few) ∙ map-append Byte a (take (r.remaining - length a) b))
      ∙ ap (λ (x : Run). preceded (map Byte a) x) (sym (stream_rest (after r (length a)) b (later r (length a) z few) e (omega (arith, all, few, length-append a b))))
]

-- ---- the law

longer_if : (x : Run) (b : List ℕ) → in_piece x ≡ true → longer x b ≡ preceded x.items (first x.reader b)
longer_if x b e = ap (λ (k : Bool). cond k (preceded x.items (first x.reader b)) (left_over x b)) e

left_if : (x : Run) (b : List ℕ) → in_piece x ≡ false → longer x b ≡ left_over x b
left_if x b e = ap (λ (k : Bool). cond k (preceded x.items (first x.reader b)) (left_over x b)) e

piece_given : (bytes : List ℕ) (x : Run) (b : List ℕ) → 0 < length bytes → by_given (map Byte bytes) x b ≡ longer x b
piece_given [] x b l = absurd (omega (arith, l))
piece_given (c ∷ bytes) x b l = refl

and_false : (b : Bool) → (b && false) ≡ false
and_false true = refl
and_false false = refl

by_streamed_all : (r : Reader) (a b : List ℕ) → InPayload r → 0 < length a → length a < r.remaining → r.streamed ≡ true → first r (a ++ b) ≡ with_more (first r a) b
by_streamed_all r a b z some few e =
    let x : Run = record { items = map Byte a; reader = after r (length a); left = [] } in
    stream_more r a b z e few
    ∙ sym (longer_if x b (lt-ltb 0 (r.remaining - length a) (omega (arith, few))))
    ∙ sym (piece_given a x b some)
    ∙ ap (λ (y : Run). with_more y b) (sym (stream_all r a z e few))

by_skipped_all : (r : Reader) (a b : List ℕ) → InPayload r → 0 < length a → length a < r.remaining → r.streamed ≡ false → first r (a ++ b) ≡ with_more (first r a) b
by_skipped_all r a b z some few e = skip_more r a b z e few ∙ ap (λ (y : Run). with_more y b) (sym (skip_all r a z e few))

by_streamed_rest : (r : Reader) (a b : List ℕ) → InPayload r → r.remaining ≤ length a → r.streamed ≡ true → first r (a ++ b) ≡ with_more (first r a) b
by_streamed_rest r a b z all e =
    let x : Run = record { items = map Byte (take r.remaining a); reader = done r; left = drop r.remaining a } in
    stream_rest r (a ++ b) z e (omega (arith, all, length-append a b))
    ∙ rw (take-append-le r.remaining a b all, drop-append-le r.remaining a b all) refl
    ∙ sym (left_if x b (and_false (length (drop r.remaining a) == 0)))
    ∙ sym (piece_given (take r.remaining a) x b (taken_some r.remaining a z.some all))
    ∙ ap (λ (y : Run). with_more y b) (sym (stream_rest r a z e all))

-- a move that gives nothing
abbrev HasMore : Reader → List ℕ → List ℕ → Type 0
HasMore r a b = first r (a ++ b) ≡ with_more (first r a) b

goes_more : (r s : Reader) (a rest b : List ℕ) → ((b : List ℕ) → moves r (a ++ b) ≡ stays s (rest ++ b)) → length rest < length a → HasMore s rest b → HasMore r a b
goes_more r s a rest b h l more =
    first_goes r s (a ++ b) (rest ++ b) (h b) (omega (arith, l, length-append a b, length-append rest b))
    ∙ more
    ∙ ap (λ (y : Run). with_more y b) (sym (first_goes r s a rest (rw (append-nil a, append-nil rest) at (h [])) l))

by_skipped_rest : (r : Reader) (a b : List ℕ) → InPayload r → r.remaining ≤ length a → r.streamed ≡ false → HasMore (done r) (drop r.remaining a) b → HasMore r a b
by_skipped_rest r a b z all e more =
    skip_rest r (a ++ b) z e (omega (arith, all, length-append a b))
    ∙ ap (λ (l : List ℕ). first (done r) l) (drop-append-le r.remaining a b all)
    ∙ more
    ∙ ap (λ (y : Run). with_more y b) (sym (skip_rest r a z e all))

by_case : (r : Reader) (a b : List ℕ) → Case r a → ((s : Reader) (rest : List ℕ) → length rest < length a → HasMore s rest b) → HasMore r a b
by_case r a b (Failed e) h = first_failed r (a ++ b) e ∙ sym (first_failed r b e) ∙ ap (λ (y : Run). with_more y b) (sym (first_failed r a e))
by_case r a b (Stuck e) h = ap (λ (y : Run). with_more y b) (sym (first_stuck r r a a e (omega arith)))
by_case r a b (Goes s rest e l) h = goes_more r s a rest b e l (h s rest l)
by_case r a b (Gives i s rest e g w n) h =
    let x : Run = record { items = i ∷ []; reader = s; left = rest } in
    first_gives r (a ++ b) (left_over x b) (e b) refl
    ∙ sym (g x b)
    ∙ ap (λ (y : Run). with_more y b) (sym (first_gives r a x (rw (append-nil a, append-nil rest) at (e [])) refl))
by_case r a b (Breaks f e) h =
    first_gives r (a ++ b) (breaks r f) (e b) refl
    ∙ ap (λ (y : Run). with_more y b) (sym (first_gives r a (breaks r f) (rw (append-nil a) at (e [])) refl))
by_case r a b (All z some few) h = elim (cases_Bool r.streamed) [
  | inl streamed ↦ by_streamed_all r a b z some few streamed
  | inr skipped ↦ by_skipped_all r a b z some few skipped
]
by_case r a b (Rest z all) h = elim (cases_Bool r.streamed) [
  | inl streamed ↦ by_streamed_rest r a b z all streamed
  | inr skipped ↦ by_skipped_rest r a b z all skipped (h (done r) (drop r.remaining a) (omega (arith, z.some, all, length-drop r.remaining a)))
]

more_within : (n : ℕ) (r : Reader) (a b : List ℕ) → length a ≤ n → HasMore r a b
more_within zero r a b l = by_case r a b (case_of r a) (λ s rest less. absurd (omega (arith, less, l)))
more_within (suc n) r a b l = by_case r a b (case_of r a) (λ s rest less. more_within n s rest b (omega (arith, less, l)))

pub first_more : (r : Reader) (a b : List ℕ) → first r (a ++ b) ≡ with_more (first r a) b
first_more r a b = more_within (length a) r a b (omega arith)

-- ---- what can be given first

abbrev HasShape : Reader → List ℕ → Type 0
HasShape r a = Shape (first r a).items

shaped : (x y : Run) → x ≡ y → Shape y.items → Shape x.items
shaped x y e h = subst (λ (z : Run). Shape z.items) (sym e) h

shape_case : (r : Reader) (a : List ℕ) → Case r a → ((s : Reader) (rest : List ℕ) → length rest < length a → HasShape s rest) → HasShape r a
shape_case r a (Failed e) h = shaped (first r a) (stays r []) (first_failed r a e) Nothing
shape_case r a (Stuck e) h = shaped (first r a) (stays r a) (first_stuck r r a a e (omega arith)) Nothing
shape_case r a (Goes s rest e l) h = shaped (first r a) (first s rest) (first_goes r s a rest (rw (append-nil a, append-nil rest) at (e [])) l) (h s rest l)
shape_case r a (Gives i s rest e g w n) h = shaped (first r a) (record { items = i ∷ []; reader = s; left = rest }) (first_gives r a (record { items = i ∷ []; reader = s; left = rest }) (rw (append-nil a, append-nil rest) at (e [])) refl) w
shape_case r a (Breaks f e) h = shaped (first r a) (breaks r f) (first_gives r a (breaks r f) (rw (append-nil a) at (e [])) refl) (Fails f)
shape_case r a (All z some few) h = elim (cases_Bool r.streamed) [
  | inl streamed ↦ shaped (first r a) (record { items = map Byte a; reader = after r (length a); left = [] }) (stream_all r a z streamed few) (Piece a some)
  | inr skipped ↦ shaped (first r a) (stays (after r (length a)) []) (skip_all r a z skipped few) Nothing
]
shape_case r a (Rest z all) h = elim (cases_Bool r.streamed) [
  | inl streamed ↦ shaped (first r a) (record { items = map Byte (take r.remaining a); reader = done r; left = drop r.remaining a }) (stream_rest r a z streamed all) (Piece (take r.remaining a) (taken_some r.remaining a z.some all))
  | inr skipped ↦ shaped (first r a) (first (done r) (drop r.remaining a)) (skip_rest r a z skipped all) (h (done r) (drop r.remaining a) (omega (arith, z.some, all, length-drop r.remaining a)))
]

shape_within : (n : ℕ) (r : Reader) (a : List ℕ) → length a ≤ n → HasShape r a
shape_within zero r a l = shape_case r a (case_of r a) (λ s rest less. absurd (omega (arith, less, l)))
shape_within (suc n) r a l = shape_case r a (case_of r a) (λ s rest less. shape_within n s rest (omega (arith, less, l)))

pub first_shape : (r : Reader) (a : List ℕ) → Shape (first r a).items
first_shape r a = shape_within (length a) r a (omega arith)

-- ---- a piece of DATA that goes on

-- the reader is within a payload that is given
pub record InData (r : Reader) : Type 0 where
  pub payload : InPayload r
  pub streamed : r.streamed ≡ true

abbrev IsData : Run → Type 0
IsData x = is_piece x.items ≡ true → 0 < x.reader.remaining → InData x.reader

data_in : (x y : Run) → x ≡ y → IsData y → IsData x
data_in x y e h = subst (λ (z : Run). IsData z) (sym e) h

no_data : (x y : Run) → x ≡ y → is_piece y.items ≡ false → IsData x
no_data x y e n = data_in x y e (λ p l. absurd (cc (sym n ∙ p)))

data_case : (r : Reader) (a : List ℕ) → Case r a → ((s : Reader) (rest : List ℕ) → length rest < length a → IsData (first s rest)) → IsData (first r a)
data_case r a (Failed e) h = no_data (first r a) (stays r []) (first_failed r a e) refl
data_case r a (Stuck e) h = no_data (first r a) (stays r a) (first_stuck r r a a e (omega arith)) refl
data_case r a (Goes s rest e l) h = data_in (first r a) (first s rest) (first_goes r s a rest (rw (append-nil a, append-nil rest) at (e [])) l) (h s rest l)
data_case r a (Gives i s rest e g w n) h = no_data (first r a) (record { items = i ∷ []; reader = s; left = rest }) (first_gives r a (record { items = i ∷ []; reader = s; left = rest }) (rw (append-nil a, append-nil rest) at (e [])) refl) n
data_case r a (Breaks f e) h = no_data (first r a) (breaks r f) (first_gives r a (breaks r f) (rw (append-nil a) at (e [])) refl) refl
data_case r a (All z some few) h = elim (cases_Bool r.streamed) [
  | inl streamed ↦ data_in (first r a) (record { items = map Byte a; reader = after r (length a); left = [] }) (stream_all r a z streamed few) (λ p l. record { payload = record { intact = z.intact; some = l }; streamed = streamed })
  | inr skipped ↦ no_data (first r a) (stays (after r (length a)) []) (skip_all r a z skipped few) refl
]
data_case r a (Rest z all) h = elim (cases_Bool r.streamed) [
  | inl streamed ↦ data_in (first r a) (record { items = map Byte (take r.remaining a); reader = done r; left = drop r.remaining a }) (stream_rest r a z streamed all) (λ p l. absurd (omega (arith, l)))
  | inr skipped ↦ data_in (first r a) (first (done r) (drop r.remaining a)) (skip_rest r a z skipped all) (h (done r) (drop r.remaining a) (omega (arith, z.some, all, length-drop r.remaining a)))
]

data_within : (n : ℕ) (r : Reader) (a : List ℕ) → length a ≤ n → IsData (first r a)
data_within zero r a l = data_case r a (case_of r a) (λ s rest less. absurd (omega (arith, less, l)))
data_within (suc n) r a l = data_case r a (case_of r a) (λ s rest less. data_within n s rest (omega (arith, less, l)))

pub first_in_data : (r : Reader) (a : List ℕ) → is_piece (first r a).items ≡ true → 0 < (first r a).reader.remaining → InData (first r a).reader
first_in_data r a p l = data_within (length a) r a (omega arith) p l

-- then the next bytes are the next piece
pub record NextPiece (r : Reader) (b : List ℕ) : Type 0 where
  pub piece : List ℕ
  pub rest : List ℕ
  pub some : 0 < length piece
  pub within : length piece ≤ r.remaining
  pub parts : b ≡ piece ++ rest
  pub is : first r b ≡ record { items = map Byte piece; reader = after r (length piece); left = rest }

pub next_piece : (r : Reader) (b : List ℕ) → InData r → 0 < length b → NextPiece r b
next_piece r b h some = elim (cases_lt (length b) r.remaining) [
  | inl few ↦ record { piece = b; rest = []; some = some; within = omega (arith, few); parts = sym (append-nil b); is = stream_all r b h.payload h.streamed few }
  | inr all ↦
      let size : length (take r.remaining b) ≡ r.remaining = length-take-le r.remaining b all in
      record {
        piece = take r.remaining b;
        rest = drop r.remaining b;
        some = taken_some r.remaining b h.payload.some all;
        within = omega (arith, size);
        parts = sym (take-append-drop r.remaining b);
        is = stream_rest r b h.payload h.streamed all ∙ ap (λ (k : ℕ). record { items = map Byte (take r.remaining b); reader = record r { remaining = k }; left = drop r.remaining b }) (omega (arith, size));
      }
]
