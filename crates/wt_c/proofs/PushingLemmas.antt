-- Bytes that are moved and copied in an array.
use Rattle.std.proofs.Common.{◌≡◌, ◌≢◌, ◌==◌, ℕ, zero, suc, ◌+◌, ◌-◌, ◌≤◌, ◌<◌, if◌then◌else◌, min, eq-eqb, Bool, List, [], ◌∷◌, ◌++◌, length, take, drop, refl, sym, ap, ◌∙◌, arith, rules, inl, inr, ◌⊎◌, ℤ, to_z, of_z, w32}
use Rattle.std.specs.List.{copy_within}
use Rattle.std.proofs.lemmas.Grind.{common_steps}
use Rattle.std.proofs.lemmas.Slice.{between_is}
use Rattle.std.proofs.lemmas.List.{take_all, drop-append-le, drop_all, drop_at, drop-drop, take_min, length-take, length-take-le, length-append, append-nil}
use Rattle.std.proofs.lemmas.List.Edits.{take-paste}
use Rattle.wtp_webtransport.specs.Receiving.{Outcome}
use Rattle.wtp_webtransport.proofs.PlaceLemmas.{called_within}
use Rattle.wt_c.specs.declared.status.TheConstants.{OK, BUFFER_TOO_SMALL, INVALID, MEMORY}
use Rattle.wt_c.specs.declared.connections.WtConnection.{WtConnection}
use Rattle.wt_c.specs.declared.connections.events.WtEvent.{WtEvent}
use Rattle.wt_c.specs.declared.connections.hold.WtHold.{WtHold}
use Rattle.wt_c.specs.declared.connections.streams.WtStream.{WtStream}
use Rattle.wt_c.specs.declared.fields.WtField.{WtField}
use Rattle.wtp_webtransport.specs.Events.{NoMemory}
use Rattle.wt_c.specs.Connections.{held_by}
use Rattle.wt_c.specs.ConnectionCalls.{Gives, Leaves, event_from}
use Rattle.wt_c.specs.Pushing.{IsHold, held_of, Holds, read_of, is_whole, AreRead}

pub moved : (xs : List ℕ) (i j : ℕ) → i ≤ j → j ≤ length xs → take (j - i) (copy_within xs i j 0) ≡ take (j - i) (drop i xs)
moved xs i j order within = grind (arith, common_steps, take-paste xs 0 (drop i xs) (j - i))

-- the bytes from c on, of those that are held and a chunk that is whole
rest_whole : (room chunk : List ℕ) (held n c : ℕ) → take (held + n) room ≡ take held room ++ take n chunk → n ≡ length chunk
    → take ((held + n) - c) (drop c room) ≡ drop c (take held room ++ chunk)
rest_whole room chunk held n c e whole = between_is room c (held + n) ∙ ap (drop c) (e ∙ ap (λ (k : List ℕ). take held room ++ k) (take_all n chunk (omega (arith, whole))))

rest_below : (room chunk : List ℕ) (held c : ℕ) → held ≤ length room → c ≤ held
    → take (held - c) (drop c room) ++ chunk ≡ drop c (take held room ++ chunk)
rest_below room chunk held c within below = ap (λ (k : List ℕ). k ++ chunk) (between_is room c held) ∙ sym (drop-append-le c (take held room) chunk (omega (arith, length-take-le held room within)))

rest_above : (room chunk : List ℕ) (held c : ℕ) → held ≤ length room → held ≤ c → drop (c - held) chunk ≡ drop c (take held room ++ chunk)
rest_above room chunk held c within above =
    let back : held + (c - held) ≡ c = omega (arith, above) in
    ap (drop (c - held)) (sym (drop_at (take held room) chunk held (length-take-le held room within))) ∙ drop-drop (c - held) held (take held room ++ chunk) ∙ ap (λ k. drop k (take held room ++ chunk)) back

-- those that are held and the chunk are more than the array has room for
full : (room chunk : List ℕ) (held n c : ℕ) → held ≤ length room → n ≡ min (length chunk) (length room - held) → n < length chunk → c ≡ 0
    → length room < length (drop c (take held room ++ chunk))
full room chunk held n c within size more none = rw none (omega (arith, length-append (take held room) chunk, length-take-le held room within, size, more))

-- all bytes of the chunk are held but those that were consumed
pub holds_all : (old : WtHold) (room chunk : List ℕ) (held n kind c : ℕ) → IsHold old (length room) → held + n ≤ length room → take (held + n) room ≡ take held room ++ take n chunk
    → n ≡ length chunk → c ≤ held + n → kind ≤ 1
    → Holds (take held room) chunk (length room) kind c (record old { start = c; end = held + n; taken = n; in_array = 1 }) room
holds_all old room chunk held n kind c is within e whole below k = record {
  hold = record { order = below; within = within; fin = is.fin; in_array = omega arith; reserved = is.reserved };
  taken = omega (arith, whole);
  rest = ap (λ (l : List ℕ). take ((held + n) - c) (drop c room) ++ l) (drop_all n chunk (omega (arith, whole))) ∙ append-nil _ ∙ rest_whole room chunk held n c e whole;
  alone = λ above. absurd (omega (arith, above, k));
  all = λ _. inl whole;
}

-- no byte of the chunk is held
pub holds_below : (old : WtHold) (room chunk : List ℕ) (held n kind c : ℕ) → IsHold old (length room) → held ≤ length room → c ≤ held → n ≡ min (length chunk) (length room - held)
    → (kind ≤ 1 → (n < length chunk) × (c ≡ 0))
    → Holds (take held room) chunk (length room) kind c (record old { start = c; end = held; taken = 0; in_array = 1 }) room
holds_below old room chunk held n kind c is within below size more = record {
  hold = record { order = below; within = within; fin = is.fin; in_array = omega arith; reserved = is.reserved };
  taken = omega arith;
  rest = rest_below room chunk held c within below;
  alone = λ _. between_is room c held;
  all = λ k. inr (full room chunk held n c within size (more k).0 (more k).1);
}

pub holds_above : (old : WtHold) (room chunk : List ℕ) (held n kind c : ℕ) → IsHold old (length room) → held ≤ length room → held < c → c ≤ held + n → n ≡ min (length chunk) (length room - held)
    → (kind ≤ 1 → (n < length chunk) × (c ≡ 0))
    → Holds (take held room) chunk (length room) kind c (record old { start = 0; end = 0; taken = c - held; in_array = 1 }) room
holds_above old room chunk held n kind c is within above below size more = record {
  hold = record { order = omega arith; within = omega arith; fin = is.fin; in_array = omega arith; reserved = is.reserved };
  taken = omega (arith, above, below, size);
  rest = rest_above room chunk held c within (omega (arith, above));
  alone = λ _. sym (drop_all c (take held room) (omega (arith, above, length-take-le held room within)));
  all = λ k. absurd (omega (arith, (more k).1, above));
}

-- ---- a call

-- what is read are the bytes that are held, and as many of the chunk as there is room for
pub read_is : (held front after chunk bytes : List ℕ) (kept taken size : ℕ) → kept ≡ length held → take kept front ≡ held
    → (kept ≢ 0 → taken ≡ min (length chunk) (size - kept)) → (kept ≢ 0 → take (kept + taken) after ≡ take kept front ++ take taken chunk)
    → (kept ≡ 0 → bytes ≡ chunk) → (kept ≢ 0 → bytes ≡ take (kept + taken) after) → bytes ≡ read_of held size chunk
read_is [] front after chunk bytes kept taken size none held some all of_chunk of_array = of_chunk none
read_is (b ∷ held) front after chunk bytes kept taken size long first some all of_chunk of_array =
    let more : kept ≢ 0 = λ z. omega (arith, z, long) in
    let is : taken ≡ min (size - length (b ∷ held)) (length chunk) = omega (arith, some more, long) in
    let tail : take taken chunk ≡ take (size - length (b ∷ held)) chunk = ap (λ n. take n chunk) is ∙ take_min (size - length (b ∷ held)) chunk in
    of_array more ∙ all more ∙ ap (λ (l : List ℕ). l ++ take taken chunk) first ∙ ap (λ (l : List ℕ). (b ∷ held) ++ l) tail

-- these are all that came exactly if the whole chunk is
pub whole_is : (held chunk : List ℕ) (kept taken size : ℕ) → kept ≡ length held → kept ≤ size → (kept ≡ 0 → taken ≡ length chunk)
    → (kept ≢ 0 → taken ≡ min (length chunk) (size - kept)) → (taken == length chunk) ≡ is_whole held size chunk
whole_is [] chunk kept taken size long within none some = eq-eqb taken (length chunk) (none long)
whole_is (b ∷ held) chunk kept taken size long within none some =
    let is : taken ≡ min (length chunk) (size - length (b ∷ held)) = omega (arith, some (λ z. omega (arith, z, long)), long) in
    grind (arith, is, long, within)

pub are_read : (new : WtHold) (after room chunk bytes read : List ℕ) (kept taken : ℕ) → bytes ≡ read → (kept ≡ 0 → bytes ≡ chunk) → (kept ≢ 0 → bytes ≡ take (kept + taken) after)
    → (kept ≡ 0 → new.in_array ≡ 0) → (kept ≢ 0 → (new.in_array ≡ 1) × (room ≡ after)) → AreRead new room chunk read
are_read new after room chunk bytes read zero taken same of_chunk of_array none some = record {
  chunk_is = λ _. sym same ∙ of_chunk refl;
  array_is = λ array. absurd (array (none refl));
}
are_read new after room chunk bytes read (suc kept) taken same of_chunk of_array none some =
    let more : suc kept ≢ 0 = λ z. omega (arith, z) in
    let is : read ≡ take (suc kept + taken) after = sym same ∙ of_array more in
    record {
      chunk_is = λ z. absurd (omega (arith, z, (some more).0));
      array_is = λ _. rw ((some more).1, is) (ap (λ n. take n after) (length-take (suc kept + taken) after) ∙ take_min (suc kept + taken) after);
    }

-- no more bytes are consumed than are read
pub consumed_within : (connection : WtConnection) (stream : WtStream) (held table bytes : List ℕ) (fin : Bool) (o : Outcome) (event : WtEvent) → Gives connection stream held table bytes fin o
    → event ≡ event_from connection.max_datagram o → event.consumed ≤ length bytes
consumed_within connection stream held table bytes fin o event g e = rw e (called_within connection.max_fields g.c g.s bytes fin o g.receives)

pub consumed_of_chunk : (consumed : ℕ) (bytes chunk : List ℕ) → consumed ≤ length bytes → bytes ≡ chunk → consumed ≤ length chunk
consumed_of_chunk consumed bytes chunk within same = rw (sym same) within

pub consumed_of_array : (consumed n : ℕ) (bytes after : List ℕ) → consumed ≤ length bytes → bytes ≡ take n after → consumed ≤ n
consumed_of_array consumed n bytes after within same = omega (arith, within, ap (λ (l : List ℕ). length l) same, length-take n after)

-- the same of the bytes by another name
pub gives_same : (connection : WtConnection) (stream : WtStream) (held table bytes read : List ℕ) (fin last : Bool) (o : Outcome) → bytes ≡ read → fin ≡ last
    → Gives connection stream held table bytes fin o → Gives connection stream held table read last o
gives_same connection stream held table bytes read fin last o same end g = rw (sym same, sym end) g

pub leaves_same : (o : Outcome) (connection after : WtConnection) (stream : WtStream) (held held_after bytes read : List ℕ) (fields fields_after : List WtField) (out out_after : List ℕ) (event given : WtEvent)
    → bytes ≡ read → event ≡ given → Leaves o connection after stream held held_after bytes fields fields_after out out_after event
    → Leaves o connection after stream held held_after read fields fields_after out out_after given
leaves_same o connection after stream held held_after bytes read fields fields_after out out_after event given same e l = rw (sym same, sym e) l

pub holds_same : (kept held chunk : List ℕ) (n m kind consumed : ℕ) (new : WtHold) (room : List ℕ) → kept ≡ held → n ≡ m
    → Holds kept chunk n kind consumed new room → Holds held chunk m kind consumed new room
holds_same kept held chunk n m kind consumed new room same size h = rw (sym same, sym size) h

-- memory was lacking for bytes that are held, or for what is read
pub memory_same : (connection : WtConnection) (stream : WtStream) (held table bytes read : List ℕ) (fin last : Bool) → bytes ≡ read → fin ≡ last
    → (held_by stream held ≢ []) ⊎ ((table ≢ []) ⊎ ((o : Outcome) × Gives connection stream held table bytes fin o × (o.1 ≡ NoMemory)))
    → (held_by stream held ≢ []) ⊎ ((table ≢ []) ⊎ ((o : Outcome) × Gives connection stream held table read last o × (o.1 ≡ NoMemory)))
memory_same connection stream held table bytes read fin last same end m = rw (sym same, sym end) m

-- ---- what wt_receive returns

abbrev pub IsAnswer : ℤ → Type 0
IsAnswer r = (r ≡ OK) ⊎ ((r ≡ BUFFER_TOO_SMALL) ⊎ ((r ≡ INVALID) ⊎ (r ≡ MEMORY)))

-- it is the same after it was stored
pub same_answer : (r : ℤ) → IsAnswer r → to_z w32 (of_z w32 r) ≡ r
same_answer r (inl e) = rw e refl
same_answer r (inr (inl e)) = rw e refl
same_answer r (inr (inr (inl e))) = rw e refl
same_answer r (inr (inr (inr e))) = rw e refl

pub is_ok : (r : ℤ) → IsAnswer r → of_z w32 r ≡ 0 → r ≡ OK
is_ok r (inl e) z = e
is_ok r (inr (inl e)) z = absurd (omega (arith, rw e at z))
is_ok r (inr (inr (inl e))) z = absurd (omega (arith, rw e at z))
is_ok r (inr (inr (inr e))) z = absurd (omega (arith, rw e at z))
