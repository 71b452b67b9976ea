-- A run goes on step by step, and so may be cut anywhere.
use Rattle.std.proofs.Common.{◌≡◌, ℕ, zero, suc, ◌-◌, ◌<◌, ◌≤◌, true, List, [], ◌∷◌, ◌++◌, length, take, drop, Option, Some, None, Result, Ok, Err, refl, sym, ap, subst, ◌∙◌, arith, append_assoc, length-drop, inl, inr, ◌⊎◌}
use Rattle.std.proofs.lemmas.Bool.{cases_lt, cases_Bool}
use Rattle.std.proofs.lemmas.List.{append-nil}
use Rattle.wtp_core.specs.Varint.{bytes_at}
use Rattle.wtp_frames.specs.declared.endpoint.Side.{Side}
use Rattle.wtp_frames.specs.declared.fault.Fault.{Fault}
use Rattle.wtp_frames.specs.declared.reader.Place.{Place}
use Rattle.wtp_frames.specs.declared.reader.Place.TheVariants.{BeforeHeaders, Body, AfterTrailers, Tunnel, BeforeSettings, AfterSettings, Failed}
use Rattle.wtp_frames.specs.declared.reader.Reader.{Reader}
use Rattle.wtp_frames.specs.declared.rules.Action.{Action}
use Rattle.wtp_frames.specs.declared.rules.Action.TheVariants.{Give, Stream, Skip, SkipSection, Refuse}
use Rattle.wtp_frames.specs.FrameType.{type_of}
use Rattle.wtp_frames.specs.Item.{Item, Whole, TooLarge, Broken}
use Rattle.wtp_frames.specs.Rules.{accepted}
use Rattle.wtp_frames.specs.Run.{Run, stays, preceded, pieces, failed, streams, skips, skips_section, moved, head_at, by_place, by_payload, action_at, is_failed, run}
use Rattle.wtp_frames.specs.Reading.{Gives}
use Rattle.wtp_frames.specs.Order.{IsAfter, IsReader}
use Rattle.wtp_frames.proofs.HeadLemmas.{head_shorter, bytes_shorter}
use Rattle.wtp_frames.proofs.RunLemmas.{AtHead, InPayload, run_failed, run_none, run_head, run_frame}
use Rattle.wtp_frames.proofs.MoveLemmas.{gives_nothing, gives_streamed, gives_skipped, gives_too_large, gives_refused, gives_whole, gives_unaccepted, gives_rest, gives_all}
use Rattle.wtp_frames.proofs.OrderLemmas.{order_pieces, order_broken, order_section, order_whole, streams_body}

-- nothing more is given
pub record Ends (r : Reader) (bytes : List ℕ) : Type 0 where
  pub items : List Item
  pub reader : Reader
  pub left : List ℕ
  pub ends : run r bytes ≡ record { items = items; reader = reader; left = left }
  pub gives : Gives r bytes items reader left
  pub side : reader.endpoint.side ≡ r.endpoint.side
  pub ordered : IsAfter r.endpoint.side r.place items

-- something is consumed
pub record GoesOn (r : Reader) (bytes : List ℕ) : Type 0 where
  pub items : List Item
  pub reader : Reader
  pub rest : List ℕ
  pub gives : Gives r bytes items reader rest
  pub less : length rest < length bytes
  pub side : reader.endpoint.side ≡ r.endpoint.side
  pub proper : IsReader r → IsReader reader
  pub orders :
      IsReader r → (more : List Item) → IsAfter r.endpoint.side reader.place more
      → IsAfter r.endpoint.side r.place (items ++ more)

after_nothing : (side : Side) (place : Place) → IsAfter side place []
after_nothing side BeforeHeaders = tt
after_nothing side Body = tt
after_nothing side AfterTrailers = tt
after_nothing side Tunnel = tt
after_nothing side BeforeSettings = tt
after_nothing side (AfterSettings goaway push) = tt
after_nothing side (Failed f) = tt

stops : (r : Reader) (bytes : List ℕ) → run r bytes ≡ stays r bytes → Ends r bytes
stops r bytes e = record { items = []; reader = r; left = bytes; ends = e; gives = gives_nothing r bytes; side = refl; ordered = after_nothing r.endpoint.side r.place }

-- ---- a frame

step_place : (r : Reader) (bytes rest payload left : List ℕ) (id n : ℕ) (o : Result Place Fault) → AtHead r → head_at bytes ≡ Some (id, n, rest) → action_at r (type_of id) n ≡ Give → bytes_at n rest ≡ Some (payload, left) → accepted r.endpoint.side r.place (type_of id) payload ≡ o → Ends r bytes ⊎ GoesOn r bytes
step_place r bytes rest payload left id n (Ok place) z e is p a = inr (record {
  items = Whole (type_of id) payload ∷ [];
  reader = moved r place;
  rest = left;
  gives = gives_whole r bytes rest payload left id n place z e is p a;
  less = omega (arith, head_shorter bytes rest id n e, bytes_shorter n rest payload left p);
  side = refl;
  proper = λ h some streamed. absurd (omega (arith, z.none, some));
  orders = λ h more after. order_whole r.endpoint r.place r.idle (type_of id) n place payload is a more after;
})
step_place r bytes rest payload left id n (Err f) z e is p a = inl (record {
  items = Broken f ∷ [];
  reader = failed r f;
  left = [];
  ends =
      run_frame r bytes rest id n Give z e is
      ∙ ap (λ (x : Option (List ℕ × List ℕ)). by_payload (λ s l. run s l) r bytes (type_of id) x) p
      ∙ ap (λ (x : Result Place Fault). by_place (λ s l. run s l) r (type_of id) payload left x) a;
  gives = gives_unaccepted r bytes rest payload left id n f z e is p a;
  side = refl;
  ordered = order_broken r.endpoint.side r.place f z.intact;
})

step_payload : (r : Reader) (bytes rest : List ℕ) (id n : ℕ) (o : Option (List ℕ × List ℕ)) → AtHead r → head_at bytes ≡ Some (id, n, rest) → action_at r (type_of id) n ≡ Give → bytes_at n rest ≡ o → Ends r bytes ⊎ GoesOn r bytes
step_payload r bytes rest id n None z e is p = inl (stops r bytes (
    run_frame r bytes rest id n Give z e is
    ∙ ap (λ (x : Option (List ℕ × List ℕ)). by_payload (λ s l. run s l) r bytes (type_of id) x) p))
step_payload r bytes rest id n (Some x) z e is p = step_place r bytes rest x.0 x.1 id n (accepted r.endpoint.side r.place (type_of id) x.0) z e is p refl

step_frame : (r : Reader) (bytes rest : List ℕ) (id n : ℕ) (a : Action) → AtHead r → head_at bytes ≡ Some (id, n, rest) → action_at r (type_of id) n ≡ a → Ends r bytes ⊎ GoesOn r bytes
step_frame r bytes rest id n Give z e is = step_payload r bytes rest id n (bytes_at n rest) z e is refl
step_frame r bytes rest id n Stream z e is = inr (record {
  items = [];
  reader = streams r n;
  rest = rest;
  gives = gives_streamed r bytes rest id n z e is;
  less = head_shorter bytes rest id n e;
  side = refl;
  proper = λ h some streamed. streams_body r.endpoint r.place r.idle (type_of id) n is;
  orders = λ h more after. after;
})
step_frame r bytes rest id n Skip z e is = inr (record {
  items = [];
  reader = skips r n;
  rest = rest;
  gives = gives_skipped r bytes rest id n z e is;
  less = head_shorter bytes rest id n e;
  side = refl;
  proper = λ h some streamed. absurd (cc streamed);
  orders = λ h more after. after;
})
step_frame r bytes rest id n SkipSection z e is = inr (record {
  items = TooLarge n ∷ [];
  reader = skips_section r n;
  rest = rest;
  gives = gives_too_large r bytes rest id n z e is;
  less = head_shorter bytes rest id n e;
  side = refl;
  proper = λ h some streamed. absurd (cc streamed);
  orders = λ h more after. order_section r.endpoint r.place r.idle (type_of id) n is more after;
})
step_frame r bytes rest id n (Refuse f) z e is = inl (record {
  items = Broken f ∷ [];
  reader = failed r f;
  left = [];
  ends = run_frame r bytes rest id n (Refuse f) z e is;
  gives = gives_refused r bytes rest id n f z e is;
  side = refl;
  ordered = order_broken r.endpoint.side r.place f z.intact;
})

step_head : (r : Reader) (bytes : List ℕ) (o : Option (ℕ × ℕ × List ℕ)) → AtHead r → head_at bytes ≡ o → Ends r bytes ⊎ GoesOn r bytes
step_head r bytes None z e = inl (stops r bytes (run_head r bytes None z e))
step_head r bytes (Some h) z e = step_frame r bytes h.2 h.0 h.1 (action_at r (type_of h.0) h.1) z e refl

-- ---- a payload

step_none : (r : Reader) (bytes : List ℕ) → length bytes ≤ 0 → Ends r bytes
step_none r [] l = stops r [] (run_none r)
step_none r (b ∷ bytes) l = absurd (omega arith)

step_all : (r : Reader) (bytes : List ℕ) → InPayload r → 0 < length bytes → length bytes < r.remaining → GoesOn r bytes
step_all r bytes z some few = record {
  items = pieces r.streamed bytes;
  reader = record r { remaining = r.remaining - length bytes };
  rest = [];
  gives = gives_all r bytes z few;
  less = some;
  side = refl;
  proper = λ h still streamed. h z.some streamed;
  orders = λ h more after. order_pieces r r.streamed bytes refl z.some h more after;
}

step_rest : (r : Reader) (bytes : List ℕ) → InPayload r → r.remaining ≤ length bytes → GoesOn r bytes
step_rest r bytes z all = record {
  items = pieces r.streamed (take r.remaining bytes);
  reader = record r { remaining = 0 };
  rest = drop r.remaining bytes;
  gives = gives_rest r bytes z all;
  less = omega (arith, z.some, all, length-drop r.remaining bytes);
  side = refl;
  proper = λ h still streamed. absurd (omega (arith, still));
  orders = λ h more after. order_pieces r r.streamed (take r.remaining bytes) refl z.some h more after;
}

-- ---- after a fault

step_failed : (r : Reader) (bytes : List ℕ) → is_failed r.place ≡ true → Ends r bytes
step_failed r bytes e = record {
  items = [];
  reader = r;
  left = [];
  ends = run_failed r bytes e;
  gives = λ more. run_failed r (bytes ++ more) e ∙ sym (run_failed r more e);
  side = refl;
  ordered = after_nothing r.endpoint.side r.place;
}

pub steps : (r : Reader) (bytes : List ℕ) → Ends r bytes ⊎ GoesOn r bytes
steps r bytes = elim (cases_Bool (is_failed r.place)) [
  | inl broken ↦ inl (step_failed r bytes broken)
  | inr whole ↦ elim (cases_lt 0 r.remaining) [
    | inl due ↦ elim (cases_lt 0 (length bytes)) [
      | inl some ↦ elim (cases_lt (length bytes) r.remaining) [
        | inl few ↦ inr (step_all r bytes (record { intact = whole; some = due }) some few)
        | inr all ↦ inr (step_rest r bytes (record { intact = whole; some = due }) all)
      ]
      | inr none ↦ inl (step_none r bytes none)
    ]
    | inr none ↦ step_head r bytes (head_at bytes) (record { intact = whole; none = omega (arith, none) }) refl
  ]
]

-- ---- cut anywhere

preceded_twice : (xs ys : List Item) (x : Run) → preceded xs (preceded ys x) ≡ preceded (xs ++ ys) x
preceded_twice xs ys x = ap (λ (items : List Item). record { items = items; reader = x.reader; left = x.left }) (sym (append_assoc xs ys x.items))

-- what follows the run of some bytes, where more of them come
abbrev then : Run → List ℕ → Run
then x b = preceded x.items (run x.reader (x.left ++ b))

cut_ends : (r : Reader) (a b : List ℕ) → Ends r a → run r (a ++ b) ≡ then (run r a) b
cut_ends r a b e = e.gives b ∙ ap (λ (x : Run). then x b) (sym e.ends)

-- the run of all is that of the rest
whole : (r : Reader) (a : List ℕ) (g : GoesOn r a) → run r a ≡ preceded g.items (run g.reader g.rest)
whole r a g =
    ap (λ (x : List ℕ). run r x) (sym (append-nil a))
    ∙ g.gives []
    ∙ ap (λ (x : List ℕ). preceded g.items (run g.reader x)) (append-nil g.rest)

cut_goes : (r : Reader) (a b : List ℕ) (g : GoesOn r a) → run g.reader (g.rest ++ b) ≡ then (run g.reader g.rest) b → run r (a ++ b) ≡ then (run r a) b
cut_goes r a b g h =
    g.gives b
    ∙ ap (λ (x : Run). preceded g.items x) h
    ∙ preceded_twice g.items (run g.reader g.rest).items (run (run g.reader g.rest).reader ((run g.reader g.rest).left ++ b))
    ∙ ap (λ (x : Run). then x b) (sym (whole r a g))

cut_within : (n : ℕ) (r : Reader) (a b : List ℕ) → length a ≤ n → run r (a ++ b) ≡ then (run r a) b
cut_within zero r a b l = elim (steps r a) [
  | inl e ↦ cut_ends r a b e
  | inr g ↦ absurd (omega (arith, g.less, l))
]
cut_within (suc n) r a b l = elim (steps r a) [
  | inl e ↦ cut_ends r a b e
  | inr g ↦ cut_goes r a b g (cut_within n g.reader g.rest b (omega (arith, g.less, l)))
]

pub cut : (r : Reader) (a b : List ℕ) → run r (a ++ b) ≡ preceded (run r a).items (run (run r a).reader ((run r a).left ++ b))
cut r a b = cut_within (length a) r a b (omega arith)

-- ---- in order

order_within : (n : ℕ) (r : Reader) (a : List ℕ) → length a ≤ n → IsReader r → IsAfter r.endpoint.side r.place (run r a).items
order_within zero r a l p = elim (steps r a) [
  | inl e ↦ rw e.ends e.ordered
  | inr g ↦ absurd (omega (arith, g.less, l))
]
order_within (suc n) r a l p = elim (steps r a) [
  | inl e ↦ rw e.ends e.ordered
  | inr g ↦
      let rest : IsAfter g.reader.endpoint.side g.reader.place (run g.reader g.rest).items = order_within n g.reader g.rest (omega (arith, g.less, l)) (g.proper p) in
      let same : IsAfter r.endpoint.side g.reader.place (run g.reader g.rest).items = subst (λ (s : Side). IsAfter s g.reader.place (run g.reader g.rest).items) g.side rest in
      rw (whole r a g) (g.orders p (run g.reader g.rest).items same)
]

pub order : (r : Reader) (a : List ℕ) → IsReader r → IsAfter r.endpoint.side r.place (run r a).items
order r a p = order_within (length a) r a (omega arith) p

-- ---- what is left waits

no_items : (xs ys : List Item) → xs ≡ xs ++ ys → ys ≡ []
no_items [] ys e = sym e
no_items (x ∷ xs) ys e = no_items xs ys (ap (λ (l : List Item). tail_of l) e)
  where
    tail_of : List Item → List Item
    tail_of [] = []
    tail_of (i ∷ l) = l

-- the run of what a run leaves gives nothing
pub left_waits : (r : Reader) (a : List ℕ) → run (run r a).reader (run r a).left ≡ stays (run r a).reader (run r a).left
left_waits r a =
    let x : Run = run r a in
    let same : run r a ≡ preceded (run r a).items (run (run r a).reader (run r a).left) =
    ap (λ (l : List ℕ). run r l) (sym (append-nil a)) ∙ cut r a [] ∙ ap (λ (l : List ℕ). preceded (run r a).items (run (run r a).reader l)) (append-nil (run r a).left) in
    let none : (run (run r a).reader (run r a).left).items ≡ [] = no_items (run r a).items (run (run r a).reader (run r a).left).items (ap (λ (y : Run). y.items) same) in
    let reader : (run r a).reader ≡ (run (run r a).reader (run r a).left).reader = ap (λ (y : Run). y.reader) same in
    let left : (run r a).left ≡ (run (run r a).reader (run r a).left).left = ap (λ (y : Run). y.left) same in
    run_parts (run (run r a).reader (run r a).left) (run r a).reader (run r a).left none (sym reader) (sym left)
  where
    run_parts : (y : Run) (s : Reader) (l : List ℕ) → y.items ≡ [] → y.reader ≡ s → y.left ≡ l → y ≡ stays s l
    run_parts y s l e f g =
        ap (λ (i : List Item). record { items = i; reader = y.reader; left = y.left }) e
        ∙ ap (λ (q : Reader). record { items = []; reader = q; left = y.left }) f
        ∙ ap (λ (k : List ℕ). stays s k) g
