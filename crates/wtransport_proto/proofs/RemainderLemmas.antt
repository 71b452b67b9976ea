-- What the frames of a run leave, frame by frame.
use Rattle.std.proofs.Common.{◌≡◌, ◌≢◌, ℕ, zero, suc, ◌≤◌, ◌<◌, Bool, false, List, [], ◌∷◌, length, Option, Some, None, refl, sym, ap, ◌∙◌, arith}
use Rattle.wtp_core.specs.declared.error.ErrorCode.{ErrorCode}
use Rattle.wtp_wire.specs.Content.{Content, kind_in}
use Rattle.wtp_wire.specs.Front.{Front, Framed, Unknown, BadId, TooBig, Short, front}
use Rattle.wtp_wire.proofs.FrontLemmas.{framed-shorter, front-empty}
use Rattle.wtp_wire.specs.Rule.{Role, rule}
use Rattle.wtp_wire.specs.Run.{skip_unknown}
use Rattle.wtransport_proto.specs.Place.{Remainder, if_allowed, remainder_here, next_remainder, remainder_within, remainder, place_after}
use Rattle.wtp_wire.proofs.RunLemmas.{skip_unknown-empty, skip_unknown-shorter, skip_unknown-unknown}

next_same : (c : Front) (f g : Bool → List ℕ → Remainder) (role : Role) (first : Bool) (bytes : List ℕ) → ((x : Content) (rest : List ℕ) → c ≡ Framed x rest → f false rest ≡ g false rest) → next_remainder f role first bytes c ≡ next_remainder g role first bytes c
next_same (Framed x rest) f g role first bytes h = ap (λ (r : Remainder). if_allowed (rule role first (kind_in x)) r (record { first = first; bytes = bytes })) (h x rest refl)
next_same (Unknown rest) f g role first bytes h = refl
next_same (BadId rest) f g role first bytes h = refl
next_same (TooBig rest) f g role first bytes h = refl
next_same Short f g role first bytes h = refl

within_empty : (m : ℕ) (role : Role) (first : Bool) → remainder_within m role first [] ≡ record { first = first; bytes = [] }
within_empty zero role first = refl
within_empty (suc m) role first =
    ap (λ (b : List ℕ). next_remainder (λ f r. remainder_within m role f r) role first [] (front b)) skip_unknown-empty
    ∙ ap (λ (c : Front). next_remainder (λ f r. remainder_within m role f r) role first [] c) front-empty

within_enough : (n m : ℕ) (role : Role) (first : Bool) (bytes : List ℕ) → length bytes ≤ n → length bytes ≤ m → remainder_within n role first bytes ≡ remainder_within m role first bytes
within_enough zero m role first [] hn hm = sym (within_empty m role first)
within_enough zero m role first (b ∷ bytes) hn hm = absurd (omega arith)
within_enough (suc n) zero role first [] hn hm = within_empty (suc n) role first
within_enough (suc n) zero role first (b ∷ bytes) hn hm = absurd (omega arith)
within_enough (suc n) (suc m) role first bytes hn hm =
    next_same (front (skip_unknown bytes)) (λ f r. remainder_within n role f r) (λ f r. remainder_within m role f r) role first bytes
    (λ x rest e.
    let less : length rest < length (skip_unknown bytes) = framed-shorter (skip_unknown bytes) rest x e in
    let past : length (skip_unknown bytes) ≤ length bytes = skip_unknown-shorter bytes in
    within_enough n m role false rest (omega arith) (omega arith))

pub remainder-step : (role : Role) (first : Bool) (bytes : List ℕ) → remainder role first bytes ≡ next_remainder (λ f r. remainder role f r) role first bytes (front (skip_unknown bytes))
unfolding remainder
remainder-step role first bytes =
    within_enough (length bytes) (suc (length bytes)) role first bytes (omega arith) (omega arith)
    ∙ next_same (front (skip_unknown bytes)) (λ f r. remainder_within (length bytes) role f r) (λ f r. remainder_within (length r) role f r) role first bytes
    (λ x rest e.
    let less : length rest < length (skip_unknown bytes) = framed-shorter (skip_unknown bytes) rest x e in
    let past : length (skip_unknown bytes) ≤ length bytes = skip_unknown-shorter bytes in
    within_enough (length bytes) (length rest) role false rest (omega arith) (omega arith))

-- by the first frame of the bytes after the unknown frames
pub remainder-at : (role : Role) (first : Bool) (bytes : List ℕ) (c : Front) → front (skip_unknown bytes) ≡ c → remainder role first bytes ≡ next_remainder (λ f r. remainder role f r) role first bytes c
remainder-at role first bytes c e = remainder-step role first bytes ∙ ap (λ (x : Front). next_remainder (λ f r. remainder role f r) role first bytes x) e

pub remainder-allowed : (role : Role) (first : Bool) (bytes rest : List ℕ) (f : Content) → front (skip_unknown bytes) ≡ Framed f rest → rule role first (kind_in f) ≡ None → remainder role first bytes ≡ remainder role false rest
remainder-allowed role first bytes rest f e allowed =
    remainder-at role first bytes (Framed f rest) e
    ∙ ap (λ (o : Option ErrorCode). if_allowed o (remainder role false rest) (record { first = first; bytes = bytes })) allowed

pub remainder-refused : (role : Role) (first : Bool) (bytes rest : List ℕ) (f : Content) (code : ErrorCode) → front (skip_unknown bytes) ≡ Framed f rest → rule role first (kind_in f) ≡ Some code → remainder role first bytes ≡ record { first = first; bytes = bytes }
remainder-refused role first bytes rest f code e refused =
    remainder-at role first bytes (Framed f rest) e
    ∙ ap (λ (o : Option ErrorCode). if_allowed o (remainder role false rest) (record { first = first; bytes = bytes })) refused

-- ---- the place after it

-- the unknown frames before the bytes are left out
after_same : (first : Bool) (xs ys : List ℕ) → skip_unknown xs ≡ skip_unknown ys → place_after (record { first = first; bytes = xs }) ≡ place_after (record { first = first; bytes = ys })
after_same first xs ys e = ap (λ (l : List ℕ). record { first = first; held = record { taken = []; skip_remaining = 0 }; ahead = l }) e

after_allowed : (o : Option ErrorCode) (first : Bool) (more : Remainder) (xs ys : List ℕ) → skip_unknown xs ≡ skip_unknown ys → place_after (if_allowed o more (record { first = first; bytes = xs })) ≡ place_after (if_allowed o more (record { first = first; bytes = ys }))
after_allowed None first more xs ys e = refl
after_allowed (Some c) first more xs ys e = after_same first xs ys e

after_next : (more : Bool → List ℕ → Remainder) (role : Role) (first : Bool) (xs ys : List ℕ) (c : Front) → skip_unknown xs ≡ skip_unknown ys → place_after (next_remainder more role first xs c) ≡ place_after (next_remainder more role first ys c)
after_next more role first xs ys (Framed f rest) e = after_allowed (rule role first (kind_in f)) first (more false rest) xs ys e
after_next more role first xs ys (Unknown rest) e = after_same first xs ys e
after_next more role first xs ys (BadId rest) e = after_same first xs ys e
after_next more role first xs ys (TooBig rest) e = after_same first xs ys e
after_next more role first xs ys Short e = after_same first xs ys e

pub after-unknown : (role : Role) (first : Bool) (bytes rest : List ℕ) → front bytes ≡ Unknown rest → place_after (remainder role first bytes) ≡ place_after (remainder role first rest)
after-unknown role first bytes rest e =
    let past : skip_unknown bytes ≡ skip_unknown rest = skip_unknown-unknown bytes rest e in
    ap (λ (r : Remainder). place_after r) (remainder-at role first bytes (front (skip_unknown rest)) (ap (λ (l : List ℕ). front l) past))
    ∙ after_next (λ f r. remainder role f r) role first bytes rest (front (skip_unknown rest)) past
    ∙ ap (λ (r : Remainder). place_after r) (sym (remainder-step role first rest))

-- if the input does not start with an unknown frame
pub after-known : (role : Role) (first : Bool) (bytes : List ℕ) (c : Front) → skip_unknown bytes ≡ bytes → front bytes ≡ c → place_after (remainder role first bytes) ≡ place_after (next_remainder (λ f r. remainder role f r) role first bytes c)
after-known role first bytes c known e = ap (λ (r : Remainder). place_after r) (remainder-at role first bytes c (ap (λ (l : List ℕ). front l) known ∙ e))

no_frame_case : (role : Role) (first : Bool) (bytes : List ℕ) (c : Front) → front (skip_unknown bytes) ≡ c → ((f : Content) (rest : List ℕ) → front (skip_unknown bytes) ≢ Framed f rest) → remainder role first bytes ≡ remainder_here first bytes
no_frame_case role first bytes (Framed f rest) e none = absurd (none f rest e)
no_frame_case role first bytes (Unknown rest) e none = remainder-at role first bytes (Unknown rest) e
no_frame_case role first bytes (BadId rest) e none = remainder-at role first bytes (BadId rest) e
no_frame_case role first bytes (TooBig rest) e none = remainder-at role first bytes (TooBig rest) e
no_frame_case role first bytes Short e none = remainder-at role first bytes Short e

pub remainder-no_frame : (role : Role) (first : Bool) (bytes : List ℕ) → ((f : Content) (rest : List ℕ) → front (skip_unknown bytes) ≢ Framed f rest) → remainder role first bytes ≡ remainder_here first bytes
remainder-no_frame role first bytes none = no_frame_case role first bytes (front (skip_unknown bytes)) refl none
