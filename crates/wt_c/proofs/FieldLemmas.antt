-- Field lines that are stored in arrays one after the other.
use Rattle.std.proofs.Common.{◌≡◌, ℕ, zero, suc, ◌+◌, ◌-◌, ◌^◌, ◌<◌, ◌≤◌, inl, inr, List, [], ◌∷◌}
use Rattle.std.proofs.Common.{◌++◌, map, length, take, drop, refl, sym, ap, ◌∙◌, arith}
use Rattle.std.proofs.Common.{length-append, append_assoc, slice_set, Ok}
use Rattle.std.proofs.lemmas.Bool.{cases_lt, lt-ltb, le-ltb}
use Rattle.std.proofs.lemmas.List.{take_more_set, length-set, drop-set-lt, drop-drop, drop_at}
use Rattle.std.proofs.lemmas.Grind.{flat_map-append}
use Rattle.std.proofs.lemmas.List.{append-nil}
use Rattle.std.proofs.Math.Seq.{take-add}
use Rattle.std.specs.List.{flat_map}
use Rattle.wtp_fields.specs.Field.{Field}
use Rattle.wtp_fields.specs.FieldLines.{octet_line_at, AreOctetLines}
use Rattle.wt_c.specs.Fields.{field_in, IsWithin, AreWithin, texts_size, line_texts, HoldLines, capped}
use Rattle.wt_c.specs.Fields.{place_of, LinePut}
use Rattle.wt_c.specs.declared.fields.WtField.{WtField}

-- ---- parts of a list

part_is : (off len k : ℕ) (a b : List ℕ) → off + len ≤ k → take k a ≡ take k b → take len (drop off a) ≡ take len (drop off b)
part_is off len k a b l e = sym (inner off len k a l) ∙ ap (λ (s : List ℕ). take len (drop off s)) e ∙ inner off len k b l
  where
    front : (len k : ℕ) (a : List ℕ) → len ≤ k → take len (take k a) ≡ take len a
    front zero k a l = refl
    front (suc len) zero a l = absurd (omega arith)
    front (suc len) (suc k) [] l = refl
    front (suc len) (suc k) (x ∷ a) l = ap (λ (s : List ℕ). x ∷ s) (front len k a (omega arith))

    inner : (off len k : ℕ) (a : List ℕ) → off + len ≤ k → take len (drop off (take k a)) ≡ take len (drop off a)
    inner zero len k a l = front len k a (omega arith)
    inner (suc off) len zero a l = absurd (omega arith)
    inner (suc off) len (suc k) [] l = refl
    inner (suc off) len (suc k) (x ∷ a) l = inner off len k a (omega arith)

-- ---- one text

pub text_after : (at : ℕ) (out front room text copied tail : List ℕ) → length front ≡ at → room ≡ drop at out → copied ≡ text → tail ≡ drop (length text) room
    → drop (at + length text) (front ++ (copied ++ tail)) ≡ drop (at + length text) out
text_after at out front room text copied tail f r t e =
    ap (λ (s : List ℕ). drop (at + length text) (front ++ (s ++ tail))) t
    ∙ ap (λ (s : List ℕ). drop (at + length text) s) (sym (append_assoc front text tail))
    ∙ drop_at (front ++ text) tail (at + length text) (length-append front text ∙ ap (λ (n : ℕ). n + length text) f)
    ∙ e ∙ ap (λ (s : List ℕ). drop (length text) s) r ∙ drop-drop (length text) at out

-- lists that are equal from n on are equal from n + k on
pub later : {A : Type 0} → (n k : ℕ) (a b : List A) → drop n a ≡ drop n b → drop (n + k) a ≡ drop (n + k) b
later {A} n k a b e = sym (drop-drop k n a) ∙ ap (λ (s : List A). drop k s) e ∙ drop-drop k n b

pub record PutsText (out new : List ℕ) (at : ℕ) (text : List ℕ) : Type 0 where
  pub front : take at new ≡ take at out
  pub text_is : take (length text) (drop at new) ≡ text
  pub after : drop (at + length text) new ≡ drop (at + length text) out

-- this text was stored after the first `at` bytes
pub put_is : (out new : List ℕ) (at : ℕ) (text : List ℕ) → take at new ≡ take at out → take (length text) (drop at new) ≡ text → drop (at + length text) new ≡ drop (at + length text) out → PutsText out new at text
put_is out new at text f t a = record { front = f; text_is = t; after = a }

-- a name was stored in the texts, followed by a value
pub line_put : (old : List WtField) (out mid new : List ℕ) (n at to : ℕ) (name value : List ℕ)
    → to ≡ at + length name → PutsText out mid at name → PutsText mid new to value
    → LinePut old out n at name value (slice_set old n (record { name_offset = at; name_len = length name; value_offset = to; value_len = length value })) new
line_put old out mid new n at to name value e one two =
    let front : take (at + length name) new ≡ take (at + length name) mid = rw e at two.front in
    let after : drop ((at + length name) + length value) new ≡ drop ((at + length name) + length value) mid = rw e at two.after in
    record {
      fields_are = rw e refl;
      front = part_is 0 at (at + length name) new mid (omega arith) front ∙ one.front;
      name_is = part_is at (length name) (at + length name) new mid (omega arith) front ∙ one.text_is;
      value_is = rw e at two.text_is;
      after = after ∙ later (at + length name) (length value) mid out one.after;
    }

-- ---- one more field

same_fields : (ws : List WtField) (at : ℕ) (a b : List ℕ) → take at a ≡ take at b → AreWithin at ws → map (λ w. field_in a w) ws ≡ map (λ w. field_in b w) ws
same_fields [] at a b e h = refl
same_fields (w ∷ ws) at a b e (one, more) =
    ap (λ (n : List ℕ). ((n, take w.value_len (drop w.value_offset a)) ∷ map (λ v. field_in a v) ws)) (part_is w.name_offset w.name_len at a b one.name e)
    ∙ ap (λ (n : List ℕ). ((take w.name_len (drop w.name_offset b), n) ∷ map (λ v. field_in a v) ws)) (part_is w.value_offset w.value_len at a b one.value e)
    ∙ ap (λ (r : List Field). field_in b w ∷ r) (same_fields ws at a b e more)

within_more : (ws : List WtField) (w : WtField) (at to : ℕ) → at ≤ to → IsWithin to w → AreWithin at ws → AreWithin to (ws ++ w ∷ [])
within_more [] w at to l one h = (one, tt)
within_more (v ∷ ws) w at to l one (is, more) = (record { name = let a = is.name in omega (arith, a, l); value = let a = is.value in omega (arith, a, l) }, within_more ws w at to l one more)

map_more : (a : List ℕ) (ws : List WtField) (w : WtField) → map (λ v. field_in a v) (ws ++ w ∷ []) ≡ map (λ v. field_in a v) ws ++ (field_in a w ∷ [])
map_more a [] w = refl
map_more a (v ∷ ws) w = ap (λ (r : List Field). field_in a v ∷ r) (map_more a ws w)

size_more : (lines : List Field) (line : Field) → texts_size (lines ++ line ∷ []) ≡ texts_size lines + (length line.0 + length line.1)
size_more [] line = omega arith
size_more (first ∷ lines) line = let e = size_more lines line in omega (arith, e)

hold_more : (first : List WtField) (first_texts : List ℕ) (fields new : List WtField) (old texts : List ℕ) (n at to : ℕ) (name value : List ℕ) (lines : List Field)
    → HoldLines first first_texts fields old n at lines → n < length fields → to ≡ (at + length name) + length value → to ≤ length texts
    → LinePut fields old n at name value new texts
    → HoldLines first first_texts new texts (n + 1) to (lines ++ (name, value) ∷ [])
hold_more first first_texts fields new old texts n at to name value lines p l to_is room put = rw put.fields_are (record {
  count_is = let c = p.count_is in omega (arith, c, length-append lines ((name, value) ∷ []));
  used_is = let u = p.used_is in omega (arith, u, to_is, size_more lines (name, value));
  room = omega (arith, l, length-set fields n w);
  texts_room = room;
  within = rw taken (within_more (take n fields) w at to (omega (arith, to_is)) (record { name = omega (arith, to_is); value = omega (arith, to_is) }) p.within);
  says = rw taken (map_more texts (take n fields) w
      ∙ ap (λ (r : List Field). r ++ (field_in texts w ∷ [])) (same_fields (take n fields) at texts old put.front p.within ∙ p.says)
      ∙ ap (λ (f : Field). lines ++ (f ∷ [])) same);
  texts_are = ap (λ (k : ℕ). take k texts) to_is
      ∙ take-add (at + length name) (length value) texts
      ∙ ap (λ (s : List ℕ). take (at + length name) texts ++ s) put.value_is
      ∙ ap (λ (s : List ℕ). s ++ value) (take-add at (length name) texts ∙ ap (λ (s : List ℕ). take at texts ++ s) put.name_is ∙ ap (λ (s : List ℕ). s ++ name) (put.front ∙ p.texts_are))
      ∙ append_assoc (flat_map line_texts lines) name value
      ∙ sym (flat_map-append line_texts lines ((name, value) ∷ []) ∙ ap (λ (s : List ℕ). flat_map line_texts lines ++ s) (append-nil (name ++ value)));
  fields_after = drop-set-lt (n + 1) fields n w (omega arith) ∙ later {A = WtField} n 1 fields first p.fields_after;
  texts_after = let more : to ≡ at + (length name + length value) = omega (arith, to_is) in
      rw (← to_is) at put.after ∙ rw more (later {A = ℕ} at (length name + length value) old first_texts p.texts_after);
})
  where
    w : WtField
    w = place_of at name value

    taken : take (n + 1) (slice_set fields n w) ≡ take n fields ++ w ∷ []
    taken = take_more_set fields n w l

    same : field_in texts w ≡ (name, value)
    same = ap (λ (t : List ℕ). (t, take (length value) (drop (at + length name) texts))) put.name_is
        ∙ ap (λ (t : List ℕ). (name, t)) put.value_is

-- ---- the lines that were read so far

octets_more : (bytes rest behind : List ℕ) (done : List Field) (line : Field) → AreOctetLines bytes done rest → octet_line_at rest ≡ Ok (line, behind) → AreOctetLines bytes (done ++ line ∷ []) behind
octets_more bytes rest behind [] line e o = (behind, ap octet_line_at e ∙ o, refl)
octets_more bytes rest behind (first ∷ done) line (others, e, more) o = (others, e, octets_more others rest behind done line more o)

pub exact : (n m : ℕ) → capped n ≤ m → m < 2 ^ 63 → capped n ≡ n
exact n m l small = elim (cases_lt n (2 ^ 64)) [
  | inl less ↦ rw (lt-ltb n (2 ^ 64) less) refl
  | inr more ↦ absurd (let top : 2 ^ 64 - 1 ≤ m = rw (le-ltb n (2 ^ 64) more) at l in omega (arith, top, small))
]

pub again : (n k : ℕ) → capped (capped n + k) ≡ capped (n + k)
again n k = elim (cases_lt n (2 ^ 64)) [
  | inl less ↦ rw (lt-ltb n (2 ^ 64) less) refl
  | inr more ↦ rw (le-ltb n (2 ^ 64) more, le-ltb (n + k) (2 ^ 64) (omega (arith, more))) (elim (cases_lt ((2 ^ 64 - 1) + k) (2 ^ 64)) [
    | inl less ↦ rw (lt-ltb ((2 ^ 64 - 1) + k) (2 ^ 64) less) (omega (arith, less))
    | inr over ↦ rw (le-ltb ((2 ^ 64 - 1) + k) (2 ^ 64) over) refl
  ])
]

pub record IsRead (start rest : List ℕ) (first : List WtField) (first_texts : List ℕ) (fields : List WtField) (texts : List ℕ) (count used : ℕ) : Type 0 where
  pub done : List Field
  pub lines : AreOctetLines start done rest
  pub count_is : count ≡ capped (length done)
  pub used_is : used ≡ capped (texts_size done)
  pub held : count ≤ length fields → used ≤ length texts → HoldLines first first_texts fields texts count used done

-- capping a number that is at most m, for m below 2^63, keeps it at most m
low_enough : (n m : ℕ) → n ≤ m → m < 2 ^ 63 → capped n ≤ m
low_enough n m l small = rw (lt-ltb n (2 ^ 64) (omega (arith, l, small))) l

-- ---- the fields of a list

-- these fields are stored, as far as they fit
pub record AreStored (first : List WtField) (first_texts : List ℕ) (fields : List WtField) (texts : List ℕ) (count used : ℕ) (done : List Field) : Type 0 where
  pub count_is : count ≡ capped (length done)
  pub used_is : used ≡ capped (texts_size done)
  pub held : count ≤ length fields → used ≤ length texts → HoldLines first first_texts fields texts count used done

-- the length of the texts of one more field
pub sized_more : (done : List Field) (used end to : ℕ) (name value : List ℕ) → used ≡ capped (texts_size done)
    → end ≡ capped (used + length name) → to ≡ capped (end + length value) → to ≡ capped (texts_size (done ++ (name, value) ∷ []))
sized_more done used end to name value u e t =
    let more : (texts_size done + length name) + length value ≡ texts_size (done ++ (name, value) ∷ []) = omega (arith, size_more done (name, value)) in
    t ∙ ap (λ (k : ℕ). capped (k + length value)) (e ∙ ap (λ (k : ℕ). capped (k + length name)) u)
    ∙ ap (λ (k : ℕ). capped (k + length value)) (again (texts_size done) (length name))
    ∙ again (texts_size done + length name) (length value) ∙ ap capped more

pub stored_more : (first : List WtField) (first_texts : List ℕ) (fields new : List WtField) (old texts : List ℕ) (count used next end to : ℕ) (name value : List ℕ) (done : List Field)
    → AreStored first first_texts fields old count used done
    → next ≡ capped (count + 1) → end ≡ capped (used + length name) → to ≡ capped (end + length value)
    → length new ≡ length fields → length fields < 2 ^ 63 → length texts ≡ length old → length old < 2 ^ 63
    → (count < length fields → (used + length name) + length value ≤ length old → LinePut fields old count used name value new texts)
    → AreStored first first_texts new texts next to (done ++ (name, value) ∷ [])
stored_more first first_texts fields new old texts count used next end to name value done p next_is end_is to_is same_room few same_texts small put = record {
  count_is = let e : length done + 1 ≡ length (done ++ (name, value) ∷ []) = omega (arith, length-append done ((name, value) ∷ [])) in next_sum ∙ ap capped e;
  used_is = sized_more done used end to name value p.used_is end_is to_is;
  held = λ a b. holds a b;
}
  where
    next_sum : next ≡ capped (length done + 1)
    next_sum = next_is ∙ ap (λ (k : ℕ). capped (k + 1)) p.count_is ∙ again (length done) 1

    sum : to ≡ capped ((texts_size done + length name) + length value)
    sum = to_is ∙ ap (λ (k : ℕ). capped (k + length value)) (end_is ∙ ap (λ (k : ℕ). capped (k + length name)) p.used_is)
        ∙ ap (λ (k : ℕ). capped (k + length value)) (again (texts_size done) (length name))
        ∙ again (texts_size done + length name) (length value)

    holds : next ≤ length new → to ≤ length texts → HoldLines first first_texts new texts next to (done ++ (name, value) ∷ [])
    holds a b =
        let fit : length new < 2 ^ 63 = omega (arith, same_room, few) in
        let fit_texts : length texts < 2 ^ 63 = omega (arith, same_texts, small) in
        let n : next ≡ length done + 1 = next_sum ∙ exact (length done + 1) (length new) (rw (← next_sum) a) fit in
        let t : to ≡ (texts_size done + length name) + length value = sum ∙ exact ((texts_size done + length name) + length value) (length texts) (rw (← sum) b) fit_texts in
        let c : count ≡ length done = p.count_is ∙ exact (length done) (length new) (low_enough (length done) (length new) (omega (arith, n, a)) fit) fit in
        let u : used ≡ texts_size done = p.used_is ∙ exact (texts_size done) (length texts) (low_enough (texts_size done) (length texts) (omega (arith, t, b)) fit_texts) fit_texts in
        let l : count < length fields = omega (arith, a, n, c, same_room) in
        let k : (used + length name) + length value ≤ length old = omega (arith, u, t, b, same_texts) in
        let to_end : to ≡ (used + length name) + length value = omega (arith, u, t) in
        let one_more : next ≡ count + 1 = omega (arith, n, c) in
        let old_count : count ≤ length fields = omega (arith, l) in
        let old_used : used ≤ length old = omega (arith, k) in
        rw one_more (hold_more first first_texts fields new old texts count used to name value done (p.held old_count old_used) l to_end b (put l k))

-- ---- the lines of a section

pub read_more : (start rest behind : List ℕ) (first : List WtField) (first_texts : List ℕ) (fields new : List WtField) (old texts : List ℕ) (count used next end to : ℕ) (name value : List ℕ)
    → IsRead start rest first first_texts fields old count used
    → octet_line_at rest ≡ Ok ((name, value), behind)
    → next ≡ capped (count + 1) → end ≡ capped (used + length name) → to ≡ capped (end + length value)
    → length new ≡ length fields → length fields < 2 ^ 63 → length texts ≡ length old → length old < 2 ^ 63
    → (count < length fields → (used + length name) + length value ≤ length old → LinePut fields old count used name value new texts)
    → IsRead start behind first first_texts new texts next to
read_more start rest behind first first_texts fields new old texts count used next end to name value p o next_is end_is to_is same_room few same_texts small put =
    let all = stored_more first first_texts fields new old texts count used next end to name value p.done (record { count_is = p.count_is; used_is = p.used_is; held = p.held }) next_is end_is to_is same_room few same_texts small put in
    record {
      done = p.done ++ (name, value) ∷ [];
      lines = octets_more start rest behind p.done (name, value) p.lines o;
      count_is = all.count_is;
      used_is = all.used_is;
      held = all.held;
    }
