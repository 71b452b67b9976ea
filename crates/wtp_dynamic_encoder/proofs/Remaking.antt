-- An encoder that is made of bytes, and the bytes that are those of none.
use Rattle.std.proofs.Common.{◌≡◌, ℕ, ◌+◌, ◌<◌, ◌≤◌, ◌⊎◌, ◌==◌, if◌then◌else◌, inl, inr, List, [], ◌∷◌, ◌++◌, length, Option, Some, None, refl, sym, ap, subst, ◌∙◌, arith, append_assoc, append-nil, length-append}
use Rattle.wtp_qpack.specs.Field.{Field}
use Rattle.wtp_dynamic.specs.declared.error.DecoderStreamError.{DecoderStreamError}
use Rattle.wtp_dynamic.specs.declared.error.DecoderStreamError.TheVariants as fault
use Rattle.wtp_dynamic.specs.declared.ledger.Sent.{Sent}
use Rattle.wtp_dynamic.specs.declared.stored.Head.{Head}
use Rattle.wtp_dynamic.specs.Stored.{head_bytes, entries_bytes, IsHead, IsWide, HasTable}
use Rattle.wtp_dynamic.specs.Table.{Table, insert_count, table_size}
use Rattle.wtp_dynamic.specs.EncoderState.{Owes, AreKept, FewWait, waiting_streams}
use Rattle.wtp_dynamic.proofs.Storing.{same_parts, entries_begin, entries_few, SameHead, head_same, head_length}
use Rattle.wtp_dynamic_encoder.specs.declared.encoder.stored.Bounds.{Bounds}
use Rattle.wtp_dynamic_encoder.specs.Acknowledging.{Ledger, most_bytes, IsCut}
use Rattle.wtp_dynamic_encoder.specs.Encoding.{State, Progress, Runs, Failed, progress_of, encoder_of}
use Rattle.wtp_dynamic_encoder.specs.Stored.{sections_bytes, bounds_bytes, error_number, fault_number, held_bytes, head_of, bounds_of, encoder_bytes, most_stored, IsWideBounds, IsEncoder, IsStored, IsNone, has_fault, made_of, HasFront, HasLedger, IsNoLedger}
use Rattle.wtp_dynamic_encoder.proofs.Acknowledged.{held_few}
use Rattle.wtp_dynamic_encoder.proofs.Storing.{sections_length, sections_begin, bounds_length, bounds_same}
use Rattle.wtp_dynamic_encoder.proofs.Waiting.{few_listed}

-- ---- the numbers of an encoder

error_few : (e : DecoderStreamError) → (0 < error_number e) × (error_number e ≤ 5)
error_few fault.IntegerOverflow = (omega arith, omega arith)
error_few fault.UnknownSection = (omega arith, omega arith)
error_few fault.ZeroIncrement = (omega arith, omega arith)
error_few fault.IncrementTooLarge = (omega arith, omega arith)
error_few fault.Memory = (omega arith, omega arith)

fault_few : (p : Progress) → fault_number p ≤ 5
fault_few (Runs held) = omega arith
fault_few (Failed e) = (error_few e).1

one_or_none : (p : Progress) → (fault_number p ≡ 0) ⊎ (length (held_bytes p) ≡ 0)
one_or_none (Runs held) = inl refl
one_or_none (Failed e) = inr refl

wide_of : (s : State) → IsEncoder s → IsWide (head_of s)
wide_of s is = record {
  limit = omega (arith, is.limit);
  capacity = omega (arith, is.limit, is.capacity);
  dropped = omega (arith, is.count);
  known = omega (arith, is.owes.known, is.count);
  fault = omega (arith, fault_few s.progress);
  held = omega (arith, held_few (held_bytes s.progress) is.cut);
  count = omega (arith, is.count);
}

-- ---- bytes of an encoder, one part after the other

encoder_then : (s : State) (more : List ℕ) → encoder_bytes s ++ more ≡ head_bytes (head_of s) ++ (bounds_bytes (bounds_of s) ++ (held_bytes s.progress ++ (sections_bytes s.ledger.1 ++ (entries_bytes s.table.live ++ more))))
encoder_then s more =
    let entries = entries_bytes s.table.live in
    let sections = sections_bytes s.ledger.1 in
    let held = held_bytes s.progress in
    let bounds = bounds_bytes (bounds_of s) in
    let head = head_bytes (head_of s) in
    append_assoc head (bounds ++ (held ++ (sections ++ entries))) more
    ∙ ap (λ (z : List ℕ). head ++ z) (append_assoc bounds (held ++ (sections ++ entries)) more
    ∙ ap (λ (z : List ℕ). bounds ++ z) (append_assoc held (sections ++ entries) more
    ∙ ap (λ (z : List ℕ). held ++ z) (append_assoc sections entries more)))

-- the head is that of the encoder, and the others follow
record HeadMatches (h : Head) (rest : List ℕ) (s : State) : Type 0 where
  head : SameHead h (head_of s)
  more : List ℕ
  rest_are : rest ≡ bounds_bytes (bounds_of s) ++ (held_bytes s.progress ++ (sections_bytes s.ledger.1 ++ (entries_bytes s.table.live ++ more)))

head_matches : (bytes rest : List ℕ) (h : Head) (s : State) → IsWide h → bytes ≡ head_bytes h ++ rest → IsStored s bytes → HeadMatches h rest s
head_matches bytes rest h s wide e is =
    let all = sym e ∙ is.bytes_are ∙ encoder_then s is.rest in
    let same = head_same h (head_of s) rest (bounds_bytes (bounds_of s) ++ (held_bytes s.progress ++ (sections_bytes s.ledger.1 ++ (entries_bytes s.table.live ++ is.rest)))) wide (wide_of s is.is) all in
    record { head = same.0; more = is.rest; rest_are = same.1 }

pub too_short : (bytes : List ℕ) → length bytes < 56 → IsNone bytes
too_short bytes short s is =
    omega (arith, short, ap (λ (z : List ℕ). length z) (is.bytes_are ∙ encoder_then s is.rest), head_length (head_of s) (bounds_bytes (bounds_of s) ++ (held_bytes s.progress ++ (sections_bytes s.ledger.1 ++ (entries_bytes s.table.live ++ is.rest)))))

head_is : (h : Head) (s : State) → SameHead h (head_of s) → IsEncoder s → IsHead h
head_is h s same is = record {
  limit = omega (arith, same.limit, is.limit);
  capacity = omega (arith, same.limit, same.capacity, is.capacity);
  count = omega (arith, same.dropped, same.count, is.count);
  known = omega (arith, same.known, same.dropped, same.count, is.owes.known);
  fault = omega (arith, same.fault, fault_few s.progress);
  held = elim (one_or_none s.progress) [ inl z ↦ inl (same.fault ∙ z) | inr z ↦ inr (same.held ∙ z) ];
}

pub no_head : (bytes rest : List ℕ) (h : Head) → IsWide h → bytes ≡ head_bytes h ++ rest → ¬ (IsHead h) → IsNone bytes
no_head bytes rest h wide e not s is = not (head_is h s (head_matches bytes rest h s wide e is).head is.is)

pub not_received : (bytes rest : List ℕ) (h : Head) → IsWide h → bytes ≡ head_bytes h ++ rest → h.known < h.dropped → IsNone bytes
not_received bytes rest h wide e less s is =
    let m = head_matches bytes rest h s wide e is in
    omega (arith, less, m.head.known, m.head.dropped, is.is.owes.received)

pub no_fault : (bytes rest : List ℕ) (h : Head) → IsWide h → bytes ≡ head_bytes h ++ rest → 5 < h.fault → IsNone bytes
no_fault bytes rest h wide e more s is =
    let m = head_matches bytes rest h s wide e is in
    omega (arith, more, m.head.fault, fault_few s.progress)

pub no_bounds : (bytes rest : List ℕ) (h : Head) → IsWide h → bytes ≡ head_bytes h ++ rest → length rest < 40 → IsNone bytes
no_bounds bytes rest h wide e short s is =
    let m = head_matches bytes rest h s wide e is in
    omega (arith, short, ap (λ (z : List ℕ). length z) m.rest_are, bounds_length (bounds_of s) (held_bytes s.progress ++ (sections_bytes s.ledger.1 ++ (entries_bytes s.table.live ++ m.more))))

pub no_held : (bytes rest behind : List ℕ) (h : Head) (b : Bounds) → IsWide h → bytes ≡ head_bytes h ++ rest → IsWideBounds b → rest ≡ bounds_bytes b ++ behind → length behind < h.held → IsNone bytes
no_held bytes rest behind h b wide e broad front short s is =
    let m = head_matches bytes rest h s wide e is in
    let same = bounds_same b (bounds_of s) behind (held_bytes s.progress ++ (sections_bytes s.ledger.1 ++ (entries_bytes s.table.live ++ m.more))) broad is.is.bounds (sym front ∙ m.rest_are) in
    omega (arith, short, m.head.held, ap (λ (z : List ℕ). length z) same.1, length-append (held_bytes s.progress) (sections_bytes s.ledger.1 ++ (entries_bytes s.table.live ++ m.more)))

-- ---- the parts of an encoder with these numbers

record FrontMatches (h : Head) (b : Bounds) (held rest : List ℕ) (s : State) : Type 0 where
  head : SameHead h (head_of s)
  bounds : b ≡ bounds_of s
  held_is : held ≡ held_bytes s.progress
  more : List ℕ
  rest_is : rest ≡ sections_bytes s.ledger.1 ++ (entries_bytes s.table.live ++ more)

front_matches : (bytes : List ℕ) (h : Head) (b : Bounds) (held rest : List ℕ) (s : State) → HasFront bytes h b held rest → IsStored s bytes → FrontMatches h b held rest s
front_matches bytes h b held rest s front is =
    let m = head_matches bytes (bounds_bytes b ++ (held ++ rest)) h s front.wide front.bytes_are is in
    let same = bounds_same b (bounds_of s) (held ++ rest) (held_bytes s.progress ++ (sections_bytes s.ledger.1 ++ (entries_bytes s.table.live ++ m.more))) front.bounds is.is.bounds m.rest_are in
    let parts = same_parts held (held_bytes s.progress) rest (sections_bytes s.ledger.1 ++ (entries_bytes s.table.live ++ m.more)) (front.size ∙ m.head.held) same.1 in
    record { head = m.head; bounds = same.0; held_is = parts.0; more = m.more; rest_is = parts.1 }

kept_at : (d n e m : ℕ) (xs : List Sent) → d ≡ e → n ≡ m → AreKept e m xs → AreKept d n xs
kept_at d n e m xs one two kept = subst (λ (z : ℕ). AreKept z n xs) (sym one) (subst (λ (z : ℕ). AreKept e z xs) (sym two) kept)

-- the sections of the encoder are at the start of the bytes after what is held
ledger_of : (bytes : List ℕ) (h : Head) (b : Bounds) (held rest : List ℕ) (s : State) (is : IsEncoder s) (m : FrontMatches h b held rest s) → HasLedger h b.sections rest s.ledger (entries_bytes s.table.live ++ m.more)
ledger_of bytes h b held rest s is m = record {
  known = sym m.head.known;
  count = sym (ap (λ (z : Bounds). z.sections) m.bounds);
  kept = kept_at h.dropped (h.dropped + h.count) s.table.dropped (insert_count s.table) s.ledger.1 m.head.dropped (omega (arith, m.head.dropped, m.head.count)) is.owes.kept;
  streams = is.streams;
  bytes_are = m.rest_is;
}

pub no_ledger : (bytes : List ℕ) (h : Head) (b : Bounds) (held rest : List ℕ) → HasFront bytes h b held rest → IsNoLedger h b.sections rest → IsNone bytes
no_ledger bytes h b held rest front none s is =
    let m = front_matches bytes h b held rest s front is in
    none s.ledger (entries_bytes s.table.live ++ m.more) (ledger_of bytes h b held rest s is.is m)

no_other : (xs ys more : List Sent) → ys ≡ xs ++ more → length xs ≡ length ys → xs ≡ ys
no_other xs ys [] e size = sym (e ∙ append-nil xs)
no_other xs ys (m ∷ more) e size = absurd (omega (arith, size, ap (λ (z : List Sent). length z) e, length-append xs (m ∷ more)))

nothing : (xs : List Sent) (more : List Sent) (a b : List ℕ) → xs ++ more ≡ xs → a ≡ sections_bytes more ++ b → a ≡ b
nothing xs [] a b e is = is
nothing xs (m ∷ more) a b e is = absurd (omega (arith, ap (λ (z : List Sent). length z) e, length-append xs (m ∷ more)))

-- two ledgers that are at the start of the same bytes
ledger_same : (h : Head) (sections : ℕ) (bytes : List ℕ) (l k : Ledger) (a b : List ℕ) → IsHead h → HasLedger h sections bytes l a → HasLedger h sections bytes k b → (l ≡ k) × (a ≡ b)
ledger_same h sections bytes l k a b is one two =
    let begins = sections_begin h.dropped (h.dropped + h.count) l.1 k.1 a b is.count (omega (arith, one.count, two.count)) one.kept one.streams two.kept two.streams (sym one.bytes_are ∙ two.bytes_are) in
    let same : l.1 ≡ k.1 = no_other l.1 k.1 begins.0 begins.1 (one.count ∙ sym two.count) in
    (ap (λ (z : ℕ). (z, l.1)) (one.known ∙ sym two.known) ∙ ap (λ (z : List Sent). (k.0, z)) same, nothing l.1 begins.0 a b (sym begins.1 ∙ sym same) begins.2)

pub no_room : (bytes : List ℕ) (h : Head) (b : Bounds) (held rest behind : List ℕ) (l : Ledger) → HasFront bytes h b held rest → HasLedger h b.sections rest l behind → b.most < length (waiting_streams l.0 l.1) → IsNone bytes
no_room bytes h b held rest behind l front has many s is =
    let m = front_matches bytes h b held rest s front is in
    let same = ledger_same h b.sections rest l s.ledger behind (entries_bytes s.table.live ++ m.more) front.head has (ledger_of bytes h b held rest s is.is m) in
    omega (arith, many, ap (λ (z : Bounds). z.most) m.bounds, few_listed s.most s.ledger.0 s.ledger.1 is.is.few, ap (λ (z : Ledger). length (waiting_streams z.0 z.1)) same.0)

pub no_entries : (bytes : List ℕ) (h : Head) (b : Bounds) (held rest behind : List ℕ) (l : Ledger) → HasFront bytes h b held rest → HasLedger h b.sections rest l behind
    → ((live : List Field) (more : List ℕ) → length live ≡ h.count → table_size live ≤ h.capacity → ¬ (behind ≡ entries_bytes live ++ more)) → IsNone bytes
no_entries bytes h b held rest behind l front has none s is =
    let m = front_matches bytes h b held rest s front is in
    let same = ledger_same h b.sections rest l s.ledger behind (entries_bytes s.table.live ++ m.more) front.head has (ledger_of bytes h b held rest s is.is m) in
    none s.table.live m.more (sym m.head.count) (omega (arith, m.head.capacity, is.is.size)) same.1

pub no_cut : (bytes : List ℕ) (h : Head) (b : Bounds) (held rest : List ℕ) → HasFront bytes h b held rest → ¬ (IsCut held) → IsNone bytes
no_cut bytes h b held rest front not s is =
    let m = front_matches bytes h b held rest s front is in
    not (subst (λ (z : List ℕ). IsCut z) (sym m.held_is) is.is.cut)

-- ---- an encoder that is made

pub owes_made : (h : Head) (sections : ℕ) (bytes rest behind : List ℕ) (l : Ledger) (t : Table) → IsHead h → h.dropped ≤ h.known → HasLedger h sections bytes l rest → HasTable h behind t → Owes (encoder_of t l)
owes_made h sections bytes rest behind l t is received ledger table = record {
  known = omega (arith, ledger.known, table.dropped, table.count, is.known);
  received = omega (arith, ledger.known, table.dropped, received);
  kept = kept_at t.dropped (insert_count t) h.dropped (h.dropped + h.count) l.1 table.dropped (omega (arith, table.dropped, table.count)) ledger.kept;
}

fault_is : (n : ℕ) (f : Option DecoderStreamError) (held : List ℕ) → has_fault n f → fault_number (progress_of f held) ≡ n
fault_is n None held z = sym z
fault_is n (Some e) held z = sym z

held_is : (h : Head) (f : Option DecoderStreamError) (held : List ℕ) → IsHead h → has_fault h.fault f → length held ≡ h.held → held_bytes (progress_of f held) ≡ held
held_is h None held is z size = refl
held_is h (Some e) [] is z size = refl
held_is h (Some e) (b ∷ held) is z size = absurd (elim is.held [ inl none ↦ omega (arith, none, z, (error_few e).0) | inr none ↦ omega (arith, none, size) ])

pub made : (bytes : List ℕ) (h : Head) (b : Bounds) (held rest behind : List ℕ) (l : Ledger) (t : Table) (f : Option DecoderStreamError) → HasFront bytes h b held rest → HasLedger h b.sections rest l behind
    → FewWait b.most l.0 l.1 → HasTable h behind t → IsCut held → has_fault h.fault f → IsStored (made_of b t l f held) bytes
made bytes h b held rest behind l t f front ledger few table cut number =
    let same : held_bytes (progress_of f held) ≡ held = held_is h f held front.head number front.size in
    let s : State = made_of b t l f held in
    let head : head_bytes h ≡ head_bytes (head_of s) = rw (table.limit, table.capacity, table.dropped, table.count, ledger.known, fault_is h.fault f held number, ap (λ (z : List ℕ). length z) same ∙ front.size) refl in
    let bounds : b ≡ bounds_of s = ap (λ (n : ℕ). record { most = b.most; largest = b.largest; reserved = b.reserved; unacknowledged = b.unacknowledged; sections = n }) (sym ledger.count) in
    let entries : rest ≡ sections_bytes l.1 ++ (entries_bytes t.live ++ table.rest) = ledger.bytes_are ∙ ap (λ (z : List ℕ). sections_bytes l.1 ++ z) table.entries in
    record {
      is = record {
        limit = omega (arith, table.limit, front.head.limit);
        capacity = omega (arith, table.limit, table.capacity, front.head.capacity);
        size = table.size;
        count = omega (arith, table.dropped, table.count, front.head.count);
        owes = owes_made h b.sections rest behind behind l t front.head front.received ledger table;
        few = few;
        cut = subst (λ (z : List ℕ). IsCut z) (sym same) cut;
        streams = ledger.streams;
        bounds = subst (λ (z : Bounds). IsWideBounds z) bounds front.bounds;
      };
      rest = table.rest;
      bytes_are = front.bytes_are
          ∙ ap (λ (z : List ℕ). z ++ (bounds_bytes b ++ (held ++ rest))) head
          ∙ ap (λ (z : Bounds). head_bytes (head_of s) ++ (bounds_bytes z ++ (held ++ rest))) bounds
          ∙ ap (λ (z : List ℕ). head_bytes (head_of s) ++ (bounds_bytes (bounds_of s) ++ (z ++ rest))) (sym same)
          ∙ ap (λ (z : List ℕ). head_bytes (head_of s) ++ (bounds_bytes (bounds_of s) ++ (held_bytes s.progress ++ z))) entries
          ∙ sym (encoder_then s table.rest);
    }

-- the same, of parts that are these
pub made_again : (bytes : List ℕ) (s : State) (b : Bounds) (t u : Table) (l : Ledger) (f : Option DecoderStreamError) (held kept : List ℕ) → s ≡ made_of b u l f kept → u ≡ t → kept ≡ held → IsStored (made_of b t l f held) bytes → IsStored s bytes
made_again bytes s b t u l f held kept is tables helds stored =
    subst (λ (z : State). IsStored z bytes) (sym (is ∙ ap (λ (x : Table). made_of b x l f kept) tables ∙ ap (λ (x : List ℕ). made_of b t l f x) helds)) stored

-- ---- how many bytes they are

pub few_bytes : (s : State) → length (held_bytes s.progress) < most_bytes → table_size s.table.live ≤ s.table.capacity → length (encoder_bytes s) < most_stored s.table.capacity (length s.ledger.1)
few_bytes s few size =
    let entries = entries_bytes s.table.live in
    let sections = sections_bytes s.ledger.1 in
    let held = held_bytes s.progress in
    omega (arith, few, size, head_length (head_of s) (bounds_bytes (bounds_of s) ++ (held ++ (sections ++ entries))), bounds_length (bounds_of s) (held ++ (sections ++ entries)), length-append held (sections ++ entries), sections_length s.ledger.1 entries, entries_few s.table.live)

-- the bytes that were appended, one part after the other
pub written : (s : State) (h : Head) (k : Bounds) (a b c held d e f : List ℕ) → h ≡ head_of s → k ≡ bounds_of s → a ≡ [] → b ≡ a ++ head_bytes h → c ≡ b ++ bounds_bytes k → held ≡ held_bytes s.progress → d ≡ c ++ held → e ≡ d ++ sections_bytes s.ledger.1
    → f ≡ e ++ entries_bytes s.table.live → f ≡ encoder_bytes s
written s h k a b c held d e f head bounds none first second held_are third fourth fifth =
    let entries = entries_bytes s.table.live in
    let sections = sections_bytes s.ledger.1 in
    let all : f ≡ (((head_bytes h ++ bounds_bytes k) ++ held) ++ sections) ++ entries = fifth ∙ ap (λ (z : List ℕ). z ++ entries) (fourth ∙ ap (λ (z : List ℕ). z ++ sections) (third ∙ ap (λ (z : List ℕ). z ++ held) (second ∙ ap (λ (z : List ℕ). z ++ bounds_bytes k) (first ∙ ap (λ (z : List ℕ). z ++ head_bytes h) none)))) in
    all
    ∙ append_assoc ((head_bytes h ++ bounds_bytes k) ++ held) sections entries
    ∙ append_assoc (head_bytes h ++ bounds_bytes k) held (sections ++ entries)
    ∙ append_assoc (head_bytes h) (bounds_bytes k) (held ++ (sections ++ entries))
    ∙ ap (λ (z : Head). head_bytes z ++ (bounds_bytes k ++ (held ++ (sections ++ entries)))) head
    ∙ ap (λ (z : Bounds). head_bytes (head_of s) ++ (bounds_bytes z ++ (held ++ (sections ++ entries)))) bounds
    ∙ ap (λ (z : List ℕ). head_bytes (head_of s) ++ (bounds_bytes (bounds_of s) ++ (z ++ (sections ++ entries)))) held_are

pub few_written : (s : State) (h : Head) (k : Bounds) (a b c held d e f : List ℕ) → h ≡ head_of s → k ≡ bounds_of s → a ≡ [] → b ≡ a ++ head_bytes h → c ≡ b ++ bounds_bytes k → held ≡ held_bytes s.progress → d ≡ c ++ held → e ≡ d ++ sections_bytes s.ledger.1
    → f ≡ e ++ entries_bytes s.table.live → length held < most_bytes → table_size s.table.live ≤ s.table.capacity → length f < most_stored s.table.capacity (length s.ledger.1)
few_written s h k a b c held d e f head bounds none first second held_are third fourth fifth few size =
    rw (written s h k a b c held d e f head bounds none first second held_are third fourth fifth) (few_bytes s (subst (λ (z : List ℕ). length z < most_bytes) held_are few) size)

-- ---- two encoders with the same bytes

error_at : ℕ → DecoderStreamError
error_at n =
    if n == 1 then fault.IntegerOverflow
    else (if n == 2 then fault.UnknownSection
    else (if n == 3 then fault.ZeroIncrement
    else (if n == 4 then fault.IncrementTooLarge
    else fault.Memory)))

error_again : (e : DecoderStreamError) → error_at (error_number e) ≡ e
unfolding error_at
error_again fault.IntegerOverflow = refl
error_again fault.UnknownSection = refl
error_again fault.ZeroIncrement = refl
error_again fault.IncrementTooLarge = refl
error_again fault.Memory = refl

error_same : (e f : DecoderStreamError) → error_number e ≡ error_number f → e ≡ f
error_same e f same = sym (error_again e) ∙ ap error_at same ∙ error_again f

progress_same : (p q : Progress) → fault_number p ≡ fault_number q → held_bytes p ≡ held_bytes q → p ≡ q
progress_same (Runs held) (Runs other) same bytes = ap Runs bytes
progress_same (Runs held) (Failed e) same bytes = absurd (omega (arith, same, (error_few e).0))
progress_same (Failed e) (Runs held) same bytes = absurd (omega (arith, same, (error_few e).0))
progress_same (Failed e) (Failed f) same bytes = ap Failed (error_same e f same)

no_more : (xs ys more : List Field) → ys ≡ xs ++ more → length xs ≡ length ys → xs ≡ ys
no_more xs ys [] e size = sym (e ∙ append-nil xs)
no_more xs ys (m ∷ more) e size = absurd (omega (arith, size, ap (λ (z : List Field). length z) e, length-append xs (m ∷ more)))

front_of : (s : State) (bytes : List ℕ) (is : IsStored s bytes) → HasFront bytes (head_of s) (bounds_of s) (held_bytes s.progress) (sections_bytes s.ledger.1 ++ (entries_bytes s.table.live ++ is.rest))
front_of s bytes is = record {
  head = head_is (head_of s) s (record { limit = refl; capacity = refl; dropped = refl; known = refl; fault = refl; held = refl; count = refl }) is.is;
  wide = wide_of s is.is;
  received = is.is.owes.received;
  fault = fault_few s.progress;
  bounds = is.is.bounds;
  size = refl;
  bytes_are = is.bytes_are ∙ encoder_then s is.rest;
}

table_same : (t u : Table) → t.live ≡ u.live → t.dropped ≡ u.dropped → t.capacity ≡ u.capacity → t.limit ≡ u.limit → t ≡ u
table_same t u live dropped capacity limit =
    ap (λ (x : List Field). record { live = x; dropped = t.dropped; capacity = t.capacity; limit = t.limit }) live
    ∙ ap (λ (x : ℕ). record { live = u.live; dropped = x; capacity = t.capacity; limit = t.limit }) dropped
    ∙ ap (λ (x : ℕ). record { live = u.live; dropped = u.dropped; capacity = x; limit = t.limit }) capacity
    ∙ ap (λ (x : ℕ). record { live = u.live; dropped = u.dropped; capacity = u.capacity; limit = x }) limit

state_same : (s t : State) → s.table ≡ t.table → s.ledger ≡ t.ledger → s.progress ≡ t.progress → bounds_of s ≡ bounds_of t → s ≡ t
state_same s t table ledger progress bounds =
    ap (λ (x : Table). record { table = x; ledger = s.ledger; progress = s.progress; most = s.most; policy = s.policy }) table
    ∙ ap (λ (x : Ledger). record { table = t.table; ledger = x; progress = s.progress; most = s.most; policy = s.policy }) ledger
    ∙ ap (λ (x : Progress). record { table = t.table; ledger = t.ledger; progress = x; most = s.most; policy = s.policy }) progress
    ∙ ap (λ (x : Bounds). record { table = t.table; ledger = t.ledger; progress = t.progress; most = x.most; policy = record { largest = x.largest; reserved = x.reserved; unacknowledged = x.unacknowledged } }) bounds

pub one_encoder : (s t : State) (bytes : List ℕ) → IsStored s bytes → IsStored t bytes → s ≡ t
one_encoder s t bytes one two =
    let front = front_of s bytes one in
    let rest : List ℕ = sections_bytes s.ledger.1 ++ (entries_bytes s.table.live ++ one.rest) in
    let m = front_matches bytes (head_of s) (bounds_of s) (held_bytes s.progress) rest t front two in
    let own : FrontMatches (head_of s) (bounds_of s) (held_bytes s.progress) rest s = record { head = record { limit = refl; capacity = refl; dropped = refl; known = refl; fault = refl; held = refl; count = refl }; bounds = refl; held_is = refl; more = one.rest; rest_is = refl } in
    let ledgers = ledger_same (head_of s) (length s.ledger.1) rest s.ledger t.ledger (entries_bytes s.table.live ++ one.rest) (entries_bytes t.table.live ++ m.more) front.head (ledger_of bytes (head_of s) (bounds_of s) (held_bytes s.progress) rest s one.is own) (ledger_of bytes (head_of s) (bounds_of s) (held_bytes s.progress) rest t two.is m) in
    let begins = entries_begin s.table.live t.table.live one.rest m.more (omega (arith, m.head.count)) (omega (arith, one.is.size, one.is.capacity, one.is.limit)) (omega (arith, two.is.size, two.is.capacity, two.is.limit)) ledgers.1 in
    let live : s.table.live ≡ t.table.live = no_more s.table.live t.table.live begins.0 begins.1 m.head.count in
    state_same s t (table_same s.table t.table live m.head.dropped m.head.capacity m.head.limit) ledgers.0 (progress_same s.progress t.progress m.head.fault m.held_is) m.bounds
