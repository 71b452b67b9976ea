-- The run from a cursor on, whatever follows the bytes.
use Rattle.std.proofs.Common.{◌≡◌, ◌≢◌, ℕ, zero, suc, ◌+◌, ◌-◌, ◌<◌, ◌≤◌, Bool, false, List, [], ◌∷◌, ◌++◌, length, drop, take, refl, sym, ap, subst, ◌∙◌, arith, length-append, Some, None, inl, inr, append_assoc}
use Rattle.std.proofs.lemmas.Bool.{cases_lt, le-ltb, lt-ltb, ne_eqb}
use Rattle.std.proofs.lemmas.List.{drop-append-le, take-append-drop}
use Rattle.std.proofs.Math.Seq.{drop-append_seam}
use Rattle.wtp_core.specs.declared.error.ErrorCode.{ErrorCode}
use Rattle.wtp_core.specs.Varint.{bytes_at, number_at}
use Rattle.wtp_core.specs.Reader.{IsRest}
use Rattle.wtp_core.proofs.EncodingLemmas.{number_at-more}
use Rattle.wtp_core.proofs.RestLemmas.{rest-same, rest-rest}
use Rattle.wtp_wire.specs.Content.{Content, PlainOf, WebTransportOf, content, kind_in, payload_in, session_in}
use Rattle.wtp_wire.specs.Front.{Front, Framed, Unknown, BadId, TooBig, Short, Begins, extended, front}
use Rattle.wtp_wire.specs.Held.{Held, front_held, skip_front}
use Rattle.wtp_wire.proofs.FrontLemmas.{front-more, front_holds, end_is_drop}
use Rattle.wtp_wire.proofs.FramePollLemmas.{front_none, front_due}
use Rattle.wtransport_proto.specs.CutFrame.{due_in}
use Rattle.wtransport_proto.specs.FrameCursor.{run_from, known_from, payload_at, frame_at, Continues, IsFault, IsPlaceOf}
use Rattle.wtransport_proto.specs.HeldRun.{stop_of, count_held, run_held}
use Rattle.wtp_wire.specs.Role.{role_of}
use Rattle.wtp_wire.specs.Rule.{Role, rule}
use Rattle.wtp_wire.specs.Run.{Run, Tail, MayGoOn, Ended, WasReset, Lost, H3, ends, follows, skip_case, skip_within, skip_unknown, run}
use Rattle.wtransport_proto.specs.declared.stream.cursor.FrameCursor.{FrameCursor}
use Rattle.wtransport_proto.specs.declared.stream.cursor.FrameSpan.{FrameSpan}
use Rattle.wtransport_proto.proofs.CutFrameLemmas.{HasNumbers, TooShort, lacks_due, unknown_front}
use Rattle.wtransport_proto.proofs.HeldRunLemmas.{run_case, run_held-run, run_held-skip_remaining, by_same}
use Rattle.wtransport_proto.proofs.ReadingLemmas.{run-unknown}
use Rattle.wtp_wire.proofs.RunLaws.{run-allowed, run-refused, run-bad_id, run-too_big}

abbrev skipping : ℕ → Held
skipping n = record { taken = []; skip_remaining = n }

-- ---- the first frame, whatever follows

more_is : (bytes more : List ℕ) (c : Front) → front bytes ≡ c → c ≢ Short → front (bytes ++ more) ≡ extended c more
more_is bytes more c e n = front-more bytes more (λ s. n (sym e ∙ s)) ∙ ap (λ (x : Front). extended x more) e

-- unknown frames are skipped
past_case : (role : Role) (first : Bool) (bytes more : List ℕ) (tail : Tail) (c : Front) (past : List ℕ → List ℕ) → tail ≢ MayGoOn → front bytes ≡ c → ((rest : List ℕ) → run role first (past rest ++ more) tail ≡ run role first (rest ++ more) tail) → run role first (skip_case past bytes c ++ more) tail ≡ run role first (bytes ++ more) tail
past_case role first bytes more tail (Framed f rest) past t e h = refl
past_case role first bytes more tail (Unknown rest) past t e h = h rest ∙ sym (run-unknown role first (bytes ++ more) (rest ++ more) tail t (more_is bytes more (Unknown rest) e (λ z. cc)))
past_case role first bytes more tail (BadId rest) past t e h = refl
past_case role first bytes more tail (TooBig rest) past t e h = refl
past_case role first bytes more tail Short past t e h = refl

past_run : (n : ℕ) (role : Role) (first : Bool) (bytes more : List ℕ) (tail : Tail) → tail ≢ MayGoOn → run role first (skip_within n bytes ++ more) tail ≡ run role first (bytes ++ more) tail
past_run zero role first bytes more tail t = refl
past_run (suc n) role first bytes more tail t = past_case role first bytes more tail (front bytes) (λ rest. skip_within n rest) t refl (λ rest. past_run n role first rest more tail t)

known_run : (role : Role) (first : Bool) (bytes more : List ℕ) (tail : Tail) → tail ≢ MayGoOn → run role first (skip_unknown bytes ++ more) tail ≡ run role first (bytes ++ more) tail
unfolding skip_unknown
known_run role first bytes more tail t = past_run (length bytes) role first bytes more tail t

none_due : (role : Role) (first : Bool) (n : ℕ) (bytes : List ℕ) (tail : Tail) → tail ≢ MayGoOn → n ≡ 0 → run_held role first (skipping n) bytes tail ≡ run role first bytes tail
none_due role first n bytes tail t z = run_held-run role first (skipping n) bytes tail t z

due_skipped : (role : Role) (first : Bool) (d : ℕ) (bytes more : List ℕ) (tail : Tail) → tail ≢ MayGoOn → d ≤ length bytes → run_held role first (skipping d) (bytes ++ more) tail ≡ run role first (drop d bytes ++ more) tail
due_skipped role first d bytes more tail t l = elim (cases_lt 0 d) [
  | inl some ↦
      run_held-skip_remaining role first (skipping d) (bytes ++ more) tail some (omega (arith, length-append bytes more))
      ∙ ap (λ (b : List ℕ). run role first b tail) (drop-append-le d bytes more l)
  | inr none ↦ let z : d ≡ 0 = omega arith in rw z (none_due role first 0 (bytes ++ more) tail t refl)
]

-- the run from the first frame on that is not skipped
from_known : (c : FrameCursor) (bytes more : List ℕ) (tail : Tail) → tail ≢ MayGoOn → c.skip_remaining ≤ length bytes → run_from c (bytes ++ more) tail ≡ run (role_of c.role) c.first (known_from c bytes ++ more) tail
from_known c bytes more tail t l = due_skipped (role_of c.role) c.first c.skip_remaining bytes more tail t l ∙ sym (known_run (role_of c.role) c.first (drop c.skip_remaining bytes) more tail t)

-- ---- a frame, and a fault

pub continues_framed : (old : FrameCursor) (bytes rest : List ℕ) (f : Content) → old.skip_remaining ≤ length bytes → front (known_from old bytes) ≡ Framed f rest → rule (role_of old.role) old.first (kind_in f) ≡ None → Continues old bytes (record old { first = false; skip_remaining = 0 }) rest (λ r. follows f r)
continues_framed old bytes rest f l e allowed = λ more tail t.
    from_known old bytes more tail t l
    ∙ run-allowed (role_of old.role) old.first (known_from old bytes ++ more) (rest ++ more) tail f (more_is (known_from old bytes) more (Framed f rest) e (λ h. cc)) allowed
    ∙ ap (λ (r : Run). follows f r) (sym (none_due (role_of old.role) false 0 (rest ++ more) tail t refl))

fault_case : (role : Role) (first : Bool) (bytes more : List ℕ) (tail : Tail) (c : ErrorCode) (x : Front) → front bytes ≡ x → IsFault role first x c → run role first (bytes ++ more) tail ≡ ends (H3 c)
fault_case role first bytes more tail c (Framed f rest) e h = run-refused role first (bytes ++ more) (rest ++ more) tail f c (more_is bytes more (Framed f rest) e (λ z. cc)) h
fault_case role first bytes more tail c (Unknown rest) e h = absurd h
fault_case role first bytes more tail c (BadId rest) e h = run-bad_id role first (bytes ++ more) (rest ++ more) tail (more_is bytes more (BadId rest) e (λ z. cc)) ∙ ap (λ (d : ErrorCode). ends (H3 d)) (sym h)
fault_case role first bytes more tail c (TooBig rest) e h = run-too_big role first (bytes ++ more) (rest ++ more) tail (more_is bytes more (TooBig rest) e (λ z. cc)) ∙ ap (λ (d : ErrorCode). ends (H3 d)) (sym h)
fault_case role first bytes more tail c Short e h = absurd h

pub continues_fault : (old new : FrameCursor) (bytes rest : List ℕ) (c : ErrorCode) → old.skip_remaining ≤ length bytes → IsFault (role_of old.role) old.first (front (known_from old bytes)) c → Continues old bytes new rest (λ r. ends (H3 c))
continues_fault old new bytes rest c l h = λ more tail t.
    from_known old bytes more tail t l ∙ fault_case (role_of old.role) old.first (known_from old bytes) more tail c (front (known_from old bytes)) refl h

-- ---- more bytes of an unknown frame

stop_some : (t : Tail) (n m : ℕ) → t ≢ MayGoOn → 0 < n → 0 < m → stop_of n t ≡ stop_of m t
stop_some MayGoOn n m c l k = absurd (c refl)
stop_some Ended n m c l k = rw (ne_eqb n 0 (λ z. omega arith), ne_eqb m 0 (λ z. omega arith)) refl
stop_some WasReset n m c l k = refl
stop_some Lost n m c l k = refl

-- the same first frame, and bytes on both sides
same_run : (role : Role) (first : Bool) (h k : Held) (xs ys : List ℕ) (tail : Tail) → tail ≢ MayGoOn → front_held h xs ≡ front_held k ys → 0 < count_held h xs → 0 < count_held k ys → run_held role first h xs tail ≡ run_held role first k ys tail
same_run role first h k xs ys tail t e l m =
    run_case role first h xs tail (front_held k ys) e
    ∙ by_same role first tail (count_held h xs) (count_held k ys) (front_held k ys) (stop_some tail (count_held h xs) (count_held k ys) t l m)
    ∙ sym (run_case role first k ys tail (front_held k ys) refl)

drop-beyond : (xs more : List ℕ) (n m : ℕ) → n ≡ length xs + m → drop n (xs ++ more) ≡ drop m more
drop-beyond [] more n m e = ap (λ (k : ℕ). drop k more) (omega (arith, e))
drop-beyond (x ∷ xs) more zero m e = absurd (omega (arith, e))
drop-beyond (x ∷ xs) more (suc n) m e = drop-beyond xs more n m (omega (arith, e))

skip_more : (d : ℕ) (xs more : List ℕ) → length xs < d → skip_front d (xs ++ more) ≡ skip_front (d - length xs) more
unfolding bytes_at
skip_more d xs more l = elim (cases_lt (length more) (d - length xs)) [
  | inl few ↦ rw (lt-ltb (length (xs ++ more)) d (omega (arith, length-append xs more)), lt-ltb (length more) (d - length xs) few) refl
  | inr all ↦ rw (le-ltb (length (xs ++ more)) d (omega (arith, length-append xs more)), le-ltb (length more) (d - length xs) all) (ap (λ (b : List ℕ). Unknown b) (drop-beyond xs more d (d - length xs) (omega (arith, l))))
]

-- fewer bytes than are due
pub continues_due : (old : FrameCursor) (bytes : List ℕ) → length bytes < old.skip_remaining → Continues old bytes (record old { skip_remaining = old.skip_remaining - length bytes }) [] (λ r. r)
continues_due old bytes l = λ more tail t.
    same_run (role_of old.role) old.first (skipping old.skip_remaining) (skipping (old.skip_remaining - length bytes)) (bytes ++ more) more tail t
    (front_due [] old.skip_remaining (bytes ++ more) (omega arith) ∙ skip_more old.skip_remaining bytes more l ∙ sym (front_due [] (old.skip_remaining - length bytes) more (omega arith)))
    (omega arith) (omega arith)

lacks_front : (bytes more : List ℕ) (n : ℕ) → TooShort bytes n → 0 < n → front (bytes ++ more) ≡ skip_front n more
lacks_front bytes more n h some =
    let numbers : HasNumbers (bytes ++ more) h.id h.size (h.mid ++ more) (h.rest ++ more) =
    record { first = number_at-more h.id bytes h.mid more h.numbers.first; second = number_at-more h.size h.mid h.rest more h.numbers.second } in
    unknown_front (bytes ++ more) (h.mid ++ more) (h.rest ++ more) h.id h.size numbers h.no_kind
    ∙ skip_more h.size h.rest more (omega (arith, h.skip_remaining, some))
    ∙ ap (λ (k : ℕ). skip_front k more) (omega (arith, h.skip_remaining))

none_empty : (v : ℕ) (rest : List ℕ) → number_at [] ≡ Some (v, rest) → ⊥
unfolding number_at
none_empty v rest e = cc

lacks_some : (bytes : List ℕ) (n : ℕ) → TooShort bytes n → 0 < length bytes
lacks_some [] n h = absurd (none_empty h.id h.mid h.numbers.first)
lacks_some (b ∷ bytes) n h = omega arith

lacks_run : (role : Role) (first : Bool) (bytes more : List ℕ) (n : ℕ) (tail : Tail) → tail ≢ MayGoOn → TooShort bytes n → 0 < n → run role first (bytes ++ more) tail ≡ run_held role first (skipping n) more tail
lacks_run role first bytes more n tail t h some =
    sym (none_due role first 0 (bytes ++ more) tail t refl)
    ∙ same_run role first (skipping 0) (skipping n) (bytes ++ more) more tail t
    (front_none [] 0 (bytes ++ more) refl ∙ lacks_front bytes more n h some ∙ sym (front_due [] n more some))
    (omega (arith, length-append bytes more, lacks_some bytes n h)) (omega arith)

-- an unknown frame begins, which the bytes cut
pub continues_cut : (old : FrameCursor) (bytes : List ℕ) (n : ℕ) → old.skip_remaining ≤ length bytes → n ≡ due_in (known_from old bytes) → 0 < n → Continues old bytes (record old { skip_remaining = n }) [] (λ r. r)
continues_cut old bytes n l d some = λ more tail t.
    from_known old bytes more tail t l
    ∙ lacks_run (role_of old.role) old.first (known_from old bytes) more n tail t (subst (λ (k : ℕ). TooShort (known_from old bytes) k) (sym d) (lacks_due (known_from old bytes) (omega (arith, d, some)))) some

-- another frame begins, or none
pub continues_left : (old : FrameCursor) (bytes : List ℕ) (n : ℕ) → old.skip_remaining ≤ length bytes → n ≡ 0 → Continues old bytes (record old { skip_remaining = n }) (known_from old bytes) (λ r. r)
continues_left old bytes n l z = λ more tail t.
    from_known old bytes more tail t l ∙ sym (none_due (role_of old.role) old.first n (known_from old bytes ++ more) tail t z)

-- ---- places

unknown_rest : (bytes rest : List ℕ) → front bytes ≡ Unknown rest → IsRest rest bytes
unknown_rest bytes rest e = elim (front_holds bytes) [
  | inl short ↦ absurd (cc)
  | inr h ↦ let (s, is, parts) = subst (λ (x : Front). Begins bytes x) e h in record { taken = s; parts = parts }
]

skip_case_rest : (bytes : List ℕ) (c : Front) (past : List ℕ → List ℕ) → front bytes ≡ c → ((rest : List ℕ) → IsRest (past rest) rest) → IsRest (skip_case past bytes c) bytes
skip_case_rest bytes (Framed f rest) past e h = rest-same bytes bytes refl
skip_case_rest bytes (Unknown rest) past e h = rest-rest (past rest) rest bytes (h rest) (unknown_rest bytes rest e)
skip_case_rest bytes (BadId rest) past e h = rest-same bytes bytes refl
skip_case_rest bytes (TooBig rest) past e h = rest-same bytes bytes refl
skip_case_rest bytes Short past e h = rest-same bytes bytes refl

skip_within-rest : (n : ℕ) (bytes : List ℕ) → IsRest (skip_within n bytes) bytes
skip_within-rest zero bytes = rest-same bytes bytes refl
skip_within-rest (suc n) bytes = skip_case_rest bytes (front bytes) (λ rest. skip_within n rest) refl (λ rest. skip_within-rest n rest)

rest-drop : (n : ℕ) (bytes : List ℕ) → IsRest (drop n bytes) bytes
rest-drop n bytes = record { taken = take n bytes; parts = sym (take-append-drop n bytes) }

pub known_rest : (c : FrameCursor) (bytes : List ℕ) → IsRest (known_from c bytes) bytes
unfolding skip_unknown
known_rest c bytes = rest-rest (known_from c bytes) (drop c.skip_remaining bytes) bytes (skip_within-rest (length (drop c.skip_remaining bytes)) (drop c.skip_remaining bytes)) (rest-drop c.skip_remaining bytes)

-- the payload of the frame is right in front of the rest
record Precedes (f : Content) (rest bytes : List ℕ) : Type 0 where
  head : List ℕ
  parts : bytes ≡ head ++ (payload_in f ++ rest)

begins_precedes : (bytes rest : List ℕ) (f : Content) → Begins bytes (Framed f rest) → Precedes f rest bytes
begins_precedes bytes rest (PlainOf kind p) (s, is, parts) = record { head = is.head; parts = parts ∙ ap (λ (x : List ℕ). x ++ rest) is.parts ∙ append_assoc is.head p rest }
begins_precedes bytes rest (WebTransportOf id) (s, is, parts) = record { head = s; parts = parts }

framed_precedes : (bytes rest : List ℕ) (f : Content) → front bytes ≡ Framed f rest → Precedes f rest bytes
framed_precedes bytes rest f e = elim (front_holds bytes) [
  | inl short ↦ absurd (cc)
  | inr h ↦ begins_precedes bytes rest f (subst (λ (x : Front). Begins bytes x) e h)
]

precedes_whole : (whole bytes rest : List ℕ) (f : Content) → IsRest bytes whole → Precedes f rest bytes → Precedes f rest whole
precedes_whole whole bytes rest f r p = record { head = r.taken ++ p.head; parts = r.parts ∙ ap (λ (l : List ℕ). r.taken ++ l) p.parts ∙ sym (append_assoc r.taken p.head (payload_in f ++ rest)) }

-- where the payload of the frame is, by sizes
record IsPlaced (f : Content) (rest bytes : List ℕ) : Type 0 where
  sizes : length (payload_in f) + length rest ≤ length bytes
  payload : take (length (payload_in f)) (drop (length bytes - length rest - length (payload_in f)) bytes) ≡ payload_in f
  left : drop (length bytes - length rest) bytes ≡ rest

taken_front : (a b : List ℕ) → take (length a) (a ++ b) ≡ a
taken_front [] b = refl
taken_front (x ∷ a) b = ap (λ (l : List ℕ). x ∷ l) (taken_front a b)

placed : (f : Content) (rest bytes : List ℕ) → Precedes f rest bytes → IsPlaced f rest bytes
placed f rest bytes p =
    let sum : length bytes ≡ length p.head + (length (payload_in f) + length rest) =
    ap length p.parts ∙ length-append p.head (payload_in f ++ rest) ∙ ap (λ (n : ℕ). length p.head + n) (length-append (payload_in f) rest) in
    let from : drop (length bytes - length rest - length (payload_in f)) bytes ≡ payload_in f ++ rest =
    ap (λ (n : ℕ). drop n bytes) (omega (arith, sum)) ∙ ap (λ (l : List ℕ). drop (length p.head) l) p.parts ∙ drop-append_seam p.head (payload_in f ++ rest) in
    record {
      sizes = omega (arith, sum);
      payload = rw from (taken_front (payload_in f) rest);
      left = (end_is_drop bytes (p.head ++ payload_in f) rest (p.parts ∙ sym (append_assoc p.head (payload_in f) rest))).1;
    }

content_is : (f : Content) → content (kind_in f) (payload_in f) (session_in f) ≡ f
content_is (PlainOf kind payload) = refl
content_is (WebTransportOf id) = refl

-- what a place is of, in these bytes
pub record AtPlace (p : FrameSpan) (f : Content) (bytes rest : List ℕ) : Type 0 where
  pub within : p.end ≤ length bytes
  pub payload : payload_at p bytes ≡ payload_in f
  pub frame : frame_at p bytes ≡ f
  pub left : drop p.end bytes ≡ rest

pub at_place : (p : FrameSpan) (f : Content) (bytes known rest : List ℕ) → IsRest known bytes → front known ≡ Framed f rest → IsPlaceOf p f (length bytes - length rest) → AtPlace p f bytes rest
at_place p f bytes known rest r e h =
    let l = placed f rest bytes (precedes_whole bytes known rest f r (framed_precedes known rest f e)) in
    let size : p.end - p.start ≡ length (payload_in f) = omega (arith, h.start, h.end, l.sizes) in
    let payload : payload_at p bytes ≡ payload_in f = rw (size, h.start) l.payload in
    record {
      within = omega (arith, h.end, l.sizes);
      payload = payload;
      frame = rw (h.kind, payload, h.session) (content_is f);
      left = ap (λ (n : ℕ). drop n bytes) h.end ∙ l.left;
    }

pub place_fits : (f : Content) (bytes known rest : List ℕ) → IsRest known bytes → front known ≡ Framed f rest → (length rest ≤ length bytes) × (length (payload_in f) ≤ length bytes - length rest)
place_fits f bytes known rest r e =
    let l = placed f rest bytes (precedes_whole bytes known rest f r (framed_precedes known rest f e)) in
    (omega (arith, l.sizes), omega (arith, l.sizes))
