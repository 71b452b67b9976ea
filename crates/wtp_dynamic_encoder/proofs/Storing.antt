-- The bytes of an encoder: the sections that are not acknowledged, and its numbers.
use Rattle.std.proofs.Common.{◌≡◌, ℕ, ◌+◌, ◌*◌, ◌^◌, ◌<◌, ◌≤◌, List, [], ◌∷◌, ◌++◌, length, take, Some, None, refl, sym, ap, subst, ◌∙◌, arith, append_assoc, append-nil, length-append}
use Rattle.std.specs.List.{slice_get}
use Rattle.std.proofs.lemmas.Option.{slice_get-get_or, slice_get_within, get_or_from_slice_get}
use Rattle.std.proofs.lemmas.List.{take_more}
use Rattle.wtp_dynamic.specs.declared.ledger.Sent.{Sent}
use Rattle.wtp_dynamic.specs.declared.stored.Head.{Head}
use Rattle.wtp_dynamic.specs.Stored.{word}
use Rattle.wtp_dynamic.specs.EncoderState.{AreKept}
use Rattle.wtp_dynamic.proofs.Storing.{word_same, word_then}
use Rattle.wtp_dynamic_encoder.specs.declared.encoder.stored.Bounds.{Bounds}
use Rattle.wtp_dynamic_encoder.specs.Stored.{section_bytes, sections_bytes, bounds_bytes, AreStreams, IsWideBounds, IsWideSent, AreWithin, IsNoLedger}

-- ---- sections

section_then : (s : Sent) (rest : List ℕ) → section_bytes s ++ rest ≡ word s.stream ++ (word s.required ++ (word s.lowest ++ rest))
section_then s rest = simp append_assoc

pub section_length : (s : Sent) (rest : List ℕ) → length (section_bytes s ++ rest) ≡ 24 + length rest
section_length s rest =
    let c = word_then s.lowest rest in
    let b = word_then s.required (word s.lowest ++ rest) in
    let a = word_then s.stream (word s.required ++ (word s.lowest ++ rest)) in
    ap (λ (z : List ℕ). length z) (section_then s rest) ∙ omega (arith, a, b, c)

pub sections_length : (xs : List Sent) (rest : List ℕ) → length (sections_bytes xs ++ rest) ≡ 24 * length xs + length rest
sections_length [] rest = omega arith
sections_length (x ∷ xs) rest =
    ap (λ (z : List ℕ). length z) (append_assoc (section_bytes x) (sections_bytes xs) rest)
    ∙ omega (arith, section_length x (sections_bytes xs ++ rest), sections_length xs rest)

pub section_same : (s t : Sent) (a b : List ℕ) → IsWideSent s → IsWideSent t → section_bytes s ++ a ≡ section_bytes t ++ b → (s ≡ t) × (a ≡ b)
section_same s t a b first second same =
    let all = sym (section_then s a) ∙ same ∙ section_then t b in
    let stream = word_same s.stream t.stream (word s.required ++ (word s.lowest ++ a)) (word t.required ++ (word t.lowest ++ b)) first.0 second.0 all in
    let required = word_same s.required t.required (word s.lowest ++ a) (word t.lowest ++ b) first.1 second.1 stream.1 in
    let lowest = word_same s.lowest t.lowest a b first.2 second.2 required.1 in (
      ap (λ (n : ℕ). record { stream = n; required = s.required; lowest = s.lowest }) stream.0
          ∙ ap (λ (n : ℕ). record { stream = t.stream; required = n; lowest = s.lowest }) required.0
          ∙ ap (λ (n : ℕ). record { stream = t.stream; required = t.required; lowest = n }) lowest.0,
      lowest.1,
    )

pub section_put : (s : Sent) (a b c d : List ℕ) → b ≡ a ++ word s.stream → c ≡ b ++ word s.required → d ≡ c ++ word s.lowest → d ≡ a ++ section_bytes s
section_put s a b c d p q r = rw (r, q, p) (simp append_assoc)

-- what is kept of a section fits words
wide_sent : (d n : ℕ) (x : Sent) (xs : List Sent) → n ≤ 2 ^ 62 → AreKept d n (x ∷ xs) → AreStreams (x ∷ xs) → IsWideSent x
wide_sent d n x xs few kept streams = (streams.0, omega (arith, few, kept.2), omega (arith, few, kept.1, kept.2))

-- of sections that follow each other, the first so many are the same
pub sections_begin : (d n : ℕ) (done all : List Sent) (a b : List ℕ) → n ≤ 2 ^ 62 → length done ≤ length all → AreKept d n done → AreStreams done → AreKept d n all → AreStreams all → sections_bytes done ++ a ≡ sections_bytes all ++ b
    → (more : List Sent) × (all ≡ done ++ more) × (a ≡ sections_bytes more ++ b)
sections_begin d n [] all a b few shorter kept streams kept_all streams_all e = (all, refl, e)
sections_begin d n (x ∷ done) [] a b few shorter kept streams kept_all streams_all e = absurd (omega (arith, shorter))
sections_begin d n (x ∷ done) (y ∷ all) a b few shorter kept streams kept_all streams_all e =
    let all_of = sym (append_assoc (section_bytes x) (sections_bytes done) a) ∙ e ∙ append_assoc (section_bytes y) (sections_bytes all) b in
    let first = section_same x y (sections_bytes done ++ a) (sections_bytes all ++ b) (wide_sent d n x done few kept streams) (wide_sent d n y all few kept_all streams_all) all_of in
    let others = sections_begin d n done all a b few (omega (arith, shorter)) kept.3 streams.1 kept_all.3 streams_all.1 first.1 in
    (others.0, ap (λ (z : Sent). z ∷ all) (sym first.0) ∙ ap (λ (zs : List Sent). x ∷ zs) others.1, others.2)

sections_more : (xs : List Sent) (x : Sent) (rest : List ℕ) → sections_bytes xs ++ (section_bytes x ++ rest) ≡ sections_bytes (xs ++ x ∷ []) ++ rest
sections_more [] x rest = simp append_assoc
sections_more (y ∷ ys) x rest = append_assoc (section_bytes y) (sections_bytes ys) (section_bytes x ++ rest) ∙ ap (λ (z : List ℕ). section_bytes y ++ z) (sections_more ys x rest) ∙ sym (append_assoc (section_bytes y) (sections_bytes (ys ++ x ∷ [])) rest)

sections_push : (xs : List Sent) (x : Sent) → sections_bytes (xs ++ x ∷ []) ≡ sections_bytes xs ++ section_bytes x
sections_push xs x = sym (append-nil (sections_bytes (xs ++ x ∷ []))) ∙ sym (sections_more xs x []) ∙ ap (λ (z : List ℕ). sections_bytes xs ++ z) (append-nil (section_bytes x))

pub taken_section : (bytes rest behind : List ℕ) (done : List Sent) (x : Sent) → bytes ≡ sections_bytes done ++ rest → rest ≡ section_bytes x ++ behind → bytes ≡ sections_bytes (done ++ x ∷ []) ++ behind
taken_section bytes rest behind done x front found = front ∙ ap (λ (z : List ℕ). sections_bytes done ++ z) found ∙ sections_more done x behind

pub kept_push : (d n : ℕ) (xs : List Sent) (x : Sent) → AreKept d n xs → AreWithin d n x → AreKept d n (xs ++ x ∷ [])
kept_push d n [] x kept within = (within.0, within.1, within.2, tt)
kept_push d n (y ∷ ys) x kept within = (kept.0, kept.1, kept.2, kept_push d n ys x kept.3 within)

kept_part : (d n : ℕ) (xs ys : List Sent) → AreKept d n (xs ++ ys) → AreKept d n ys
kept_part d n [] ys kept = kept
kept_part d n (x ∷ xs) ys kept = kept_part d n xs ys kept.3

streams_part : (xs ys : List Sent) → AreStreams (xs ++ ys) → AreStreams ys
streams_part [] ys streams = streams
streams_part (x ∷ xs) ys streams = streams_part xs ys streams.1

pub streams_push : (xs : List Sent) (x : Sent) → AreStreams xs → x.stream < 2 ^ 64 → AreStreams (xs ++ x ∷ [])
streams_push [] x streams fits = (fits, tt)
streams_push (y ∷ ys) x streams fits = (streams.0, streams_push ys x streams.1 fits)

-- ---- the sections of a ledger

section_at : (xs : List Sent) (place : ℕ) (s : Sent) → Some s ≡ slice_get xs place → take (place + 1) xs ≡ take place xs ++ s ∷ []
section_at xs place s found =
    let within : place < length xs = slice_get_within xs place s (sym found) in
    take_more xs place s within ∙ ap (λ (x : Sent). take place xs ++ x ∷ []) (get_or_from_slice_get xs place s s (sym found))

-- one more section was appended
pub one_section : (xs : List Sent) (place : ℕ) (s : Sent) (out front after : List ℕ) → Some s ≡ slice_get xs place → front ≡ out ++ sections_bytes (take place xs) → after ≡ front ++ section_bytes s
    → after ≡ out ++ sections_bytes (take (place + 1) xs)
one_section xs place s out front after found was is =
    is ∙ ap (λ (z : List ℕ). z ++ section_bytes s) was ∙ append_assoc out (sections_bytes (take place xs)) (section_bytes s)
    ∙ ap (λ (z : List ℕ). out ++ z) (sym (sections_push (take place xs) s) ∙ ap sections_bytes (sym (section_at xs place s found)))

pub one_stream : (xs : List Sent) (place : ℕ) (s : Sent) → Some s ≡ slice_get xs place → AreStreams (take place xs) → s.stream < 2 ^ 64 → AreStreams (take (place + 1) xs)
one_stream xs place s found streams fits = rw (section_at xs place s found) (streams_push (take place xs) s streams fits)

-- there is a section at each place below the count
pub section_there : (xs : List Sent) (place : ℕ) → place < length xs → None ≡ slice_get xs place → ⊥
section_there [] place within none = omega (arith, within)
section_there (x ∷ xs) place within none = cc (slice_get-get_or (x ∷ xs) place x within, none)

-- ---- sections that are those of no encoder

pub short_sections : (h : Head) (sections : ℕ) (bytes rest : List ℕ) (done : List Sent) → bytes ≡ sections_bytes done ++ rest → length done < sections → length rest < 24 → IsNoLedger h sections bytes
short_sections h sections bytes rest done front few short ledger more has =
    omega (arith, few, short, has.count, sections_length done rest, sections_length ledger.1 more, ap (λ (z : List ℕ). length z) (sym front ∙ has.bytes_are))

pub wrong_section : (h : Head) (sections : ℕ) (bytes rest behind : List ℕ) (done : List Sent) (x : Sent) → h.dropped + h.count ≤ 2 ^ 62 → bytes ≡ sections_bytes done ++ rest → length done < sections
    → AreKept h.dropped (h.dropped + h.count) done → AreStreams done → rest ≡ section_bytes x ++ behind → IsWideSent x → ¬ (AreWithin h.dropped (h.dropped + h.count) x) → IsNoLedger h sections bytes
wrong_section h sections bytes rest behind done x most front few kept streams found wide not ledger more has =
    let n : ℕ = h.dropped + h.count in
    let begins = sections_begin h.dropped n done ledger.1 rest more most (omega (arith, few, has.count)) kept streams has.kept has.streams (sym front ∙ has.bytes_are) in
    by begins.0 begins.1 begins.2
  where
    by : (others : List Sent) → ledger.1 ≡ done ++ others → rest ≡ sections_bytes others ++ more → ⊥
    by [] all is = omega (arith, few, has.count, ap (λ (z : List Sent). length z) all, length-append {A = Sent} done [])
    by (y ∷ ys) all is =
        let n : ℕ = h.dropped + h.count in
        let kept_all : AreKept h.dropped n (y ∷ ys) = kept_part h.dropped n done (y ∷ ys) (subst (λ (z : List Sent). AreKept h.dropped n z) all has.kept) in
        let streams_all : AreStreams (y ∷ ys) = streams_part done (y ∷ ys) (subst (λ (z : List Sent). AreStreams z) all has.streams) in
        let same = section_same x y behind (sections_bytes ys ++ more) wide (wide_sent h.dropped n y ys most kept_all streams_all) (sym found ∙ is ∙ append_assoc (section_bytes y) (sections_bytes ys) more) in
        not (subst (λ (z : Sent). AreWithin h.dropped n z) (sym same.0) (kept_all.0, kept_all.1, kept_all.2))

-- ---- the numbers after those of the table

bounds_then : (b : Bounds) (rest : List ℕ) → bounds_bytes b ++ rest ≡ word b.most ++ (word b.largest ++ (word b.reserved ++ (word b.unacknowledged ++ (word b.sections ++ rest))))
bounds_then b rest = simp append_assoc

pub bounds_put : (h : Bounds) (a b c d e f : List ℕ) → b ≡ a ++ word h.most → c ≡ b ++ word h.largest → d ≡ c ++ word h.reserved → e ≡ d ++ word h.unacknowledged → f ≡ e ++ word h.sections → f ≡ a ++ bounds_bytes h
bounds_put h a b c d e f p q r s t = rw (t, s, r, q, p) (simp append_assoc)

pub bounds_length : (b : Bounds) (rest : List ℕ) → length (bounds_bytes b ++ rest) ≡ 40 + length rest
bounds_length b rest =
    let e = word_then b.sections rest in
    let d = word_then b.unacknowledged (word b.sections ++ rest) in
    let c = word_then b.reserved (word b.unacknowledged ++ (word b.sections ++ rest)) in
    let f = word_then b.largest (word b.reserved ++ (word b.unacknowledged ++ (word b.sections ++ rest))) in
    let a = word_then b.most (word b.largest ++ (word b.reserved ++ (word b.unacknowledged ++ (word b.sections ++ rest)))) in
    ap (λ (z : List ℕ). length z) (bounds_then b rest) ∙ omega (arith, a, f, c, d, e)

pub bounds_same : (h k : Bounds) (a b : List ℕ) → IsWideBounds h → IsWideBounds k → bounds_bytes h ++ a ≡ bounds_bytes k ++ b → (h ≡ k) × (a ≡ b)
bounds_same h k a b wide broad e =
    let all = sym (bounds_then h a) ∙ e ∙ bounds_then k b in
    let most = word_same h.most k.most (word h.largest ++ (word h.reserved ++ (word h.unacknowledged ++ (word h.sections ++ a)))) (word k.largest ++ (word k.reserved ++ (word k.unacknowledged ++ (word k.sections ++ b)))) wide.most broad.most all in
    let largest = word_same h.largest k.largest (word h.reserved ++ (word h.unacknowledged ++ (word h.sections ++ a))) (word k.reserved ++ (word k.unacknowledged ++ (word k.sections ++ b))) wide.largest broad.largest most.1 in
    let reserved = word_same h.reserved k.reserved (word h.unacknowledged ++ (word h.sections ++ a)) (word k.unacknowledged ++ (word k.sections ++ b)) wide.reserved broad.reserved largest.1 in
    let unacknowledged = word_same h.unacknowledged k.unacknowledged (word h.sections ++ a) (word k.sections ++ b) wide.unacknowledged broad.unacknowledged reserved.1 in
    let sections = word_same h.sections k.sections a b wide.sections broad.sections unacknowledged.1 in (
      ap (λ (n : ℕ). record { most = n; largest = h.largest; reserved = h.reserved; unacknowledged = h.unacknowledged; sections = h.sections }) most.0
          ∙ ap (λ (n : ℕ). record { most = k.most; largest = n; reserved = h.reserved; unacknowledged = h.unacknowledged; sections = h.sections }) largest.0
          ∙ ap (λ (n : ℕ). record { most = k.most; largest = k.largest; reserved = n; unacknowledged = h.unacknowledged; sections = h.sections }) reserved.0
          ∙ ap (λ (n : ℕ). record { most = k.most; largest = k.largest; reserved = k.reserved; unacknowledged = n; sections = h.sections }) unacknowledged.0
          ∙ ap (λ (n : ℕ). record { most = k.most; largest = k.largest; reserved = k.reserved; unacknowledged = k.unacknowledged; sections = n }) sections.0,
      sections.1,
    )
