-- A decoder that is made of bytes, and the bytes that are those of none.
use Rattle.std.proofs.Common.{◌≡◌, ℕ, ◌+◌, ◌*◌, ◌^◌, ◌<◌, ◌≤◌, ◌⊎◌, ◌==◌, if◌then◌else◌, inl, inr, List, [], ◌∷◌, ◌++◌, length, take, drop, Option, Some, None, refl, sym, ap, subst, ◌∙◌, arith, append_assoc, append-nil, length-append}
use Rattle.std.proofs.lemmas.List.{take_at, drop_at, take-append-drop, length-take-le}
use Rattle.wtp_qpack.specs.Field.{Field}
use Rattle.wtp_dynamic.specs.declared.error.EncoderStreamError.{EncoderStreamError}
use Rattle.wtp_dynamic.specs.declared.error.EncoderStreamError.TheVariants as fault
use Rattle.wtp_dynamic.specs.Front.{most_bytes}
use Rattle.wtp_dynamic.specs.Stream.{IsCut}
use Rattle.wtp_dynamic.specs.Table.{Table, table_size}
use Rattle.wtp_dynamic.proofs.Streams.{held_few, cut_nothing}
use Rattle.wtp_dynamic_decoder.specs.declared.decoder.Waiting.{Waiting}
use Rattle.wtp_dynamic.specs.declared.stored.Head.{Head}
use Rattle.wtp_dynamic_decoder.specs.Decoder.{Decoder, Progress, Runs, Failed, progress_of}
use Rattle.wtp_dynamic.specs.Stored.{entries_bytes, head_bytes, IsHead, IsWide, HasTable}
use Rattle.wtp_dynamic_decoder.specs.Stored.{error_number, fault_number, held_bytes, head_of, decoder_bytes, most_stored, IsDecoder, IsStored, IsNone, has_fault}
use Rattle.wtp_dynamic.proofs.Storing.{same_parts, entries_begin, entries_few, SameHead, head_same, head_length}

-- ---- the numbers of a decoder

error_few : (e : EncoderStreamError) → (0 < error_number e) × (error_number e ≤ 9)
error_few fault.IntegerOverflow = (omega arith, omega arith)
error_few fault.InstructionTooLong = (omega arith, omega arith)
error_few fault.InvalidString = (omega arith, omega arith)
error_few fault.IndexNotFound = (omega arith, omega arith)
error_few fault.CapacityAboveLimit = (omega arith, omega arith)
error_few fault.EntryTooLarge = (omega arith, omega arith)
error_few fault.EntryNotFound = (omega arith, omega arith)
error_few fault.TooManyInsertions = (omega arith, omega arith)
error_few fault.Memory = (omega arith, omega arith)

fault_few : (p : Progress) → fault_number p ≤ 9
fault_few (Runs held) = omega arith
fault_few (Failed e) = (error_few e).1

one_or_none : (p : Progress) → (fault_number p ≡ 0) ⊎ (length (held_bytes p) ≡ 0)
one_or_none (Runs held) = inl refl
one_or_none (Failed e) = inr refl

wide_of : (d : Decoder) → IsDecoder d → IsWide (head_of d)
wide_of d is = record {
  limit = omega (arith, is.limit);
  capacity = omega (arith, is.limit, is.capacity);
  dropped = omega (arith, is.count);
  known = omega (arith, is.known, is.count);
  fault = omega (arith, fault_few d.progress);
  held = omega (arith, held_few d.table (held_bytes d.progress) is.cut, is.limit);
  count = omega (arith, is.count);
}

-- ---- bytes of a decoder, as their head and the others

pub record Matches (h : Head) (rest : List ℕ) (d : Decoder) : Type 0 where
  pub head : SameHead h (head_of d)
  pub more : List ℕ
  pub rest_are : rest ≡ held_bytes d.progress ++ (entries_bytes d.table.live ++ more)

decoder_then : (d : Decoder) (more : List ℕ) → decoder_bytes d ++ more ≡ head_bytes (head_of d) ++ (held_bytes d.progress ++ (entries_bytes d.table.live ++ more))
decoder_then d more =
    append_assoc (head_bytes (head_of d)) (held_bytes d.progress ++ entries_bytes d.table.live) more
    ∙ ap (λ (z : List ℕ). head_bytes (head_of d) ++ z) (append_assoc (held_bytes d.progress) (entries_bytes d.table.live) more)

pub matches : (bytes rest : List ℕ) (h : Head) (d : Decoder) → IsWide h → bytes ≡ head_bytes h ++ rest → IsStored d bytes → Matches h rest d
matches bytes rest h d wide e is =
    let all = sym e ∙ is.bytes_are ∙ decoder_then d is.rest in
    let same = head_same h (head_of d) rest (held_bytes d.progress ++ (entries_bytes d.table.live ++ is.rest)) wide (wide_of d is.is) all in
    record { head = same.0; more = is.rest; rest_are = same.1 }

pub too_short : (bytes : List ℕ) → length bytes < 56 → IsNone bytes
too_short bytes short d is =
    omega (arith, short, ap (λ (z : List ℕ). length z) (is.bytes_are ∙ decoder_then d is.rest), head_length (head_of d) (held_bytes d.progress ++ (entries_bytes d.table.live ++ is.rest)))

head_is : (h : Head) (d : Decoder) → SameHead h (head_of d) → IsDecoder d → IsHead h
head_is h d same is = record {
  limit = omega (arith, same.limit, is.limit);
  capacity = omega (arith, same.limit, same.capacity, is.capacity);
  count = omega (arith, same.dropped, same.count, is.count);
  known = omega (arith, same.known, same.dropped, same.count, is.known);
  fault = omega (arith, same.fault, fault_few d.progress);
  held = elim (one_or_none d.progress) [ inl z ↦ inl (same.fault ∙ z) | inr z ↦ inr (same.held ∙ z) ];
}

pub no_head : (bytes rest : List ℕ) (h : Head) → IsWide h → bytes ≡ head_bytes h ++ rest → ¬ (IsHead h) → IsNone bytes
no_head bytes rest h wide e not d is = not (head_is h d (matches bytes rest h d wide e is).head is.is)

pub no_held : (bytes rest : List ℕ) (h : Head) → IsWide h → bytes ≡ head_bytes h ++ rest → length rest < h.held → IsNone bytes
no_held bytes rest h wide e short d is =
    let m = matches bytes rest h d wide e is in
    omega (arith, short, m.head.held, ap (λ (z : List ℕ). length z) m.rest_are, length-append (held_bytes d.progress) (entries_bytes d.table.live ++ m.more))

-- what is held, and the entries
parts_of : (rest : List ℕ) (h : Head) (d : Decoder) (m : Matches h rest d) → (take h.held rest ≡ held_bytes d.progress) × (drop h.held rest ≡ entries_bytes d.table.live ++ m.more)
parts_of rest h d m = (
  ap (take h.held) m.rest_are ∙ take_at (held_bytes d.progress) (entries_bytes d.table.live ++ m.more) h.held (sym m.head.held),
  ap (drop h.held) m.rest_are ∙ drop_at (held_bytes d.progress) (entries_bytes d.table.live ++ m.more) h.held (sym m.head.held),
)

pub no_entries : (bytes rest behind : List ℕ) (h : Head) → IsWide h → bytes ≡ head_bytes h ++ rest → behind ≡ drop h.held rest
    → ((live : List Field) (more : List ℕ) → length live ≡ h.count → table_size live ≤ h.capacity → ¬ (behind ≡ entries_bytes live ++ more)) → IsNone bytes
no_entries bytes rest behind h wide e after none d is =
    let m = matches bytes rest h d wide e is in
    none d.table.live m.more (sym m.head.count) (omega (arith, m.head.capacity, is.is.size)) (after ∙ (parts_of rest h d m).1)

pub no_cut : (bytes rest held behind : List ℕ) (h : Head) (t : Table) → IsWide h → bytes ≡ head_bytes h ++ rest → held ≡ take h.held rest → HasTable h behind t → ¬ (IsCut t held) → IsNone bytes
no_cut bytes rest held behind h t wide e front has not d is =
    let m = matches bytes rest h d wide e is in
    let limits : d.table.limit ≡ t.limit = sym m.head.limit ∙ sym has.limit in
    let helds : held_bytes d.progress ≡ held = sym (parts_of rest h d m).0 ∙ sym front in
    not (rw (sym limits, sym helds) is.is.cut)

-- ---- a decoder that is made

fault_is : (n : ℕ) (f : Option EncoderStreamError) (held : List ℕ) → has_fault n f → fault_number (progress_of f held) ≡ n
fault_is n None held z = sym z
fault_is n (Some e) held z = sym z

held_is : (h : Head) (f : Option EncoderStreamError) (held : List ℕ) → IsHead h → has_fault h.fault f → length held ≡ h.held → held_bytes (progress_of f held) ≡ held
held_is h None held is z size = refl
held_is h (Some e) [] is z size = refl
held_is h (Some e) (b ∷ held) is z size = absurd (elim is.held [ inl none ↦ omega (arith, none, z, (error_few e).0) | inr none ↦ omega (arith, none, size) ])

pub made : (bytes rest held behind : List ℕ) (h : Head) (t : Table) (f : Option EncoderStreamError) → IsHead h → bytes ≡ head_bytes h ++ rest → held ≡ take h.held rest → behind ≡ drop h.held rest → h.held ≤ length rest
    → HasTable h behind t → IsCut t held → has_fault h.fault f
    → IsStored (record { table = t; progress = progress_of f held; known = h.known; waiting = []; most = 0 }) bytes
made bytes rest held behind h t f is e front after within has cut number =
    let size : length held ≡ h.held = ap (λ (z : List ℕ). length z) front ∙ length-take-le h.held rest within in
    let same : held_bytes (progress_of f held) ≡ held = held_is h f held is number size in
    let d : Decoder = record { table = t; progress = progress_of f held; known = h.known; waiting = []; most = 0 } in
    let head : head_bytes h ≡ head_bytes (head_of d) = rw (has.limit, has.capacity, has.dropped, has.count, fault_is h.fault f held number, ap (λ (z : List ℕ). length z) same ∙ size) refl in
    let all : rest ≡ held ++ (entries_bytes t.live ++ has.rest) = sym (take-append-drop h.held rest) ∙ ap (λ (z : List ℕ). z ++ drop h.held rest) (sym front) ∙ ap (λ (z : List ℕ). held ++ z) (sym after ∙ has.entries) in
    record {
      is = record {
        limit = omega (arith, has.limit, is.limit);
        capacity = omega (arith, has.limit, has.capacity, is.capacity);
        size = has.size;
        count = omega (arith, has.dropped, has.count, is.count);
        known = omega (arith, has.dropped, has.count, is.known);
        cut = rw same cut;
        waiting = refl;
        most = refl;
      };
      rest = has.rest;
      bytes_are = e ∙ ap (λ (z : List ℕ). z ++ rest) head ∙ ap (λ (z : List ℕ). head_bytes (head_of d) ++ z) (all ∙ ap (λ (z : List ℕ). z ++ (entries_bytes t.live ++ has.rest)) (sym same)) ∙ sym (decoder_then d has.rest);
    }

pub made_view : (bytes : List ℕ) (encoder : Table × List ℕ) (t : Table) (held : List ℕ) (f : Option EncoderStreamError) (known : ℕ) (waiting : List Waiting) → encoder ≡ (t, held) → waiting ≡ []
    → IsStored (record { table = t; progress = progress_of f held; known = known; waiting = []; most = 0 }) bytes
    → IsStored (record { table = encoder.0; progress = progress_of f encoder.1; known = known; waiting = waiting; most = 0 }) bytes
made_view bytes encoder t held f known waiting e none is =
    let one : IsStored (record { table = encoder.0; progress = progress_of f encoder.1; known = known; waiting = []; most = 0 }) bytes =
    subst (λ (x : Table × List ℕ). IsStored (record { table = x.0; progress = progress_of f x.1; known = known; waiting = []; most = 0 }) bytes) (sym e) is in
    subst (λ (x : List Waiting). IsStored (record { table = encoder.0; progress = progress_of f encoder.1; known = known; waiting = x; most = 0 }) bytes) (sym none) one

-- ---- how many bytes they are

pub few_bytes : (d : Decoder) → length (held_bytes d.progress) < most_bytes d.table.limit → table_size d.table.live ≤ d.table.limit → length (decoder_bytes d) < most_stored d.table.limit
few_bytes d few size =
    omega (arith, few, size, head_length (head_of d) (held_bytes d.progress ++ entries_bytes d.table.live), length-append (held_bytes d.progress) (entries_bytes d.table.live), entries_few d.table.live)

-- the bytes that were appended, one part after the other
pub written : (d : Decoder) (h : Head) (a b held c e : List ℕ) → h ≡ head_of d → a ≡ [] → b ≡ a ++ head_bytes h → held ≡ held_bytes d.progress → c ≡ b ++ held → e ≡ c ++ entries_bytes d.table.live → e ≡ decoder_bytes d
written d h a b held c e head none first held_is second third =
    let all : e ≡ (head_bytes h ++ held) ++ entries_bytes d.table.live = third ∙ ap (λ (z : List ℕ). z ++ entries_bytes d.table.live) (second ∙ ap (λ (z : List ℕ). z ++ held) (first ∙ ap (λ (z : List ℕ). z ++ head_bytes h) none)) in
    all ∙ append_assoc (head_bytes h) held (entries_bytes d.table.live) ∙ ap (λ (z : List ℕ). head_bytes h ++ (z ++ entries_bytes d.table.live)) held_is ∙ ap (λ (k : Head). head_bytes k ++ (held_bytes d.progress ++ entries_bytes d.table.live)) head

pub few_written : (d : Decoder) (h : Head) (a b held c e : List ℕ) → h ≡ head_of d → a ≡ [] → b ≡ a ++ head_bytes h → held ≡ held_bytes d.progress → c ≡ b ++ held → e ≡ c ++ entries_bytes d.table.live
    → length held < most_bytes d.table.limit → table_size d.table.live ≤ d.table.limit → length e < most_stored d.table.limit
few_written d h a b held c e head none first held_is second third few size =
    rw (written d h a b held c e head none first held_is second third) (few_bytes d (subst (λ (z : List ℕ). length z < most_bytes d.table.limit) held_is few) size)

-- ---- two decoders with the same bytes

error_at : ℕ → EncoderStreamError
error_at n =
    if n == 1 then fault.IntegerOverflow
    else (if n == 2 then fault.InstructionTooLong
    else (if n == 3 then fault.InvalidString
    else (if n == 4 then fault.IndexNotFound
    else (if n == 5 then fault.CapacityAboveLimit
    else (if n == 6 then fault.EntryTooLarge
    else (if n == 7 then fault.EntryNotFound
    else (if n == 8 then fault.TooManyInsertions
    else fault.Memory)))))))

error_again : (e : EncoderStreamError) → error_at (error_number e) ≡ e
unfolding error_at
error_again fault.IntegerOverflow = refl
error_again fault.InstructionTooLong = refl
error_again fault.InvalidString = refl
error_again fault.IndexNotFound = refl
error_again fault.CapacityAboveLimit = refl
error_again fault.EntryTooLarge = refl
error_again fault.EntryNotFound = refl
error_again fault.TooManyInsertions = refl
error_again fault.Memory = refl

error_same : (e f : EncoderStreamError) → error_number e ≡ error_number f → e ≡ f
error_same e f same = sym (error_again e) ∙ ap error_at same ∙ error_again f

progress_same : (p q : Progress) → fault_number p ≡ fault_number q → held_bytes p ≡ held_bytes q → p ≡ q
progress_same (Runs held) (Runs other) same bytes = ap Runs bytes
progress_same (Runs held) (Failed e) same bytes = absurd (omega (arith, same, (error_few e).0))
progress_same (Failed e) (Runs held) same bytes = absurd (omega (arith, same, (error_few e).0))
progress_same (Failed e) (Failed f) same bytes = ap Failed (error_same e f same)

nothing_more : (xs ys more : List Field) → ys ≡ xs ++ more → length xs ≡ length ys → xs ≡ ys
nothing_more xs ys [] e size = sym (e ∙ append-nil xs)
nothing_more xs ys (m ∷ more) e size = absurd (omega (arith, size, ap (λ (z : List Field). length z) e, length-append xs (m ∷ more)))

pub one_decoder : (d e : Decoder) (bytes : List ℕ) → IsStored d bytes → IsStored e bytes → d ≡ e
one_decoder d e bytes one two =
    let m = matches bytes (held_bytes d.progress ++ (entries_bytes d.table.live ++ one.rest)) (head_of d) e (wide_of d one.is) (one.bytes_are ∙ decoder_then d one.rest) two in
    let parts = same_parts (held_bytes d.progress) (held_bytes e.progress) (entries_bytes d.table.live ++ one.rest) (entries_bytes e.table.live ++ m.more) m.head.held m.rest_are in
    let begins = entries_begin d.table.live e.table.live one.rest m.more (omega (arith, m.head.count)) (omega (arith, one.is.size, one.is.capacity, one.is.limit)) (omega (arith, two.is.size, two.is.capacity, two.is.limit)) parts.1 in
    let live : d.table.live ≡ e.table.live = nothing_more d.table.live e.table.live begins.0 begins.1 m.head.count in
    let progress : d.progress ≡ e.progress = progress_same d.progress e.progress m.head.fault parts.0 in
    let table : d.table ≡ e.table = ap (λ (x : List Field). record { live = x; dropped = d.table.dropped; capacity = d.table.capacity; limit = d.table.limit }) live
    ∙ ap (λ (x : ℕ). record { live = e.table.live; dropped = x; capacity = d.table.capacity; limit = d.table.limit }) m.head.dropped
    ∙ ap (λ (x : ℕ). record { live = e.table.live; dropped = e.table.dropped; capacity = x; limit = d.table.limit }) m.head.capacity
    ∙ ap (λ (x : ℕ). record { live = e.table.live; dropped = e.table.dropped; capacity = e.table.capacity; limit = x }) m.head.limit in
    ap (λ (x : Table). record d { table = x }) table
    ∙ ap (λ (x : Progress). record d { table = e.table; progress = x }) progress
    ∙ ap (λ (x : ℕ). record d { table = e.table; progress = e.progress; known = x }) m.head.known
    ∙ ap (λ (x : List Waiting). record d { table = e.table; progress = e.progress; known = e.known; waiting = x }) (one.is.waiting ∙ sym two.is.waiting)
    ∙ ap (λ (x : ℕ). record e { most = x }) (one.is.most ∙ sym two.is.most)
