-- The head of a frame, whatever follows.
use Rattle.std.proofs.Common.{◌≡◌, ℕ, ◌+◌, ◌<◌, ◌≤◌, Bool, true, false, cond, List, [], ◌++◌, length, get_or, take, drop, Option, Some, None, refl, sym, ap, ◌∙◌, append_assoc, arith, length-append, length-drop}
use Rattle.std.proofs.lemmas.Bool.{ltb-true, le-ltb, lt-ltb}
use Rattle.std.proofs.lemmas.List.{drop-drop, append-nil}
use Rattle.std.proofs.Math.Seq.{take-append_seam}
use Rattle.std.specs.Int.{byte_len}
use Rattle.wtp_core.specs.Varint.{number_at, bytes_at, width_of}
use Rattle.wtp_core.specs.VarintLenNeeded.{byte_len_range}
use Rattle.wtp_core.proofs.EncodingLemmas.{number_at-encodes, number_at-encoding, number_at-more, bytes_at-parts, bytes_at-append, encoding_not_empty}
use Rattle.wtp_frames.specs.Run.{with_length, with_type, head_at}

some_is : {A : Type 0} (x y : A) → Some x ≡ Some y → x ≡ y
some_is x y e = cc

-- ---- one number

pub number-shorter : (v : ℕ) (bytes rest : List ℕ) → number_at bytes ≡ Some (v, rest) → length rest < length bytes
number-shorter v bytes rest e =
    let (s, encoded, parts) = number_at-encodes v bytes rest e in
    let some : 0 < length s = encoding_not_empty v s encoded in
    omega (arith, ap length parts, length-append s rest)

pub number_size : (v : ℕ) (bytes rest : List ℕ) → number_at bytes ≡ Some (v, rest) → length bytes ≤ 8 + length rest
number_size v bytes rest e =
    let (s, encoded, parts) = number_at-encodes v bytes rest e in
    omega (arith, ap length parts, length-append s rest, encoded.size, (byte_len_range (get_or s 0 0)).1)

chosen_none : {A : Type 0} (b : Bool) (x : A) → cond b None (Some x) ≡ None → b ≡ true
chosen_none true x e = refl
chosen_none false x e = absurd (cc)

pub number_none : (bytes : List ℕ) → number_at bytes ≡ None → length bytes < 8
unfolding number_at
number_none bytes e =
    let less : length bytes < byte_len (width_of (get_or bytes 0 0)) = ltb-true (length bytes) (byte_len (width_of (get_or bytes 0 0))) (chosen_none _ _ e) in
    omega (arith, less, (byte_len_range (get_or bytes 0 0)).1)

-- ---- two numbers

length_parts : (id : ℕ) (o : Option (ℕ × List ℕ)) (h : ℕ × ℕ × List ℕ) → with_length id o ≡ Some h → (id ≡ h.0) × (o ≡ Some (h.1, h.2))
length_parts id None h e = absurd (cc)
length_parts id (Some n) h e =
    let same : (id, n.0, n.1) ≡ h = some_is (id, n.0, n.1) h e in
    (ap (λ (p : ℕ × ℕ × List ℕ). p.0) same, ap (λ (p : ℕ × ℕ × List ℕ). Some (p.1, p.2)) same)

type_parts : (o : Option (ℕ × List ℕ)) (h : ℕ × ℕ × List ℕ) → with_type o ≡ Some h → (mid : List ℕ) × (o ≡ Some (h.0, mid)) × (number_at mid ≡ Some (h.1, h.2))
type_parts None h e = absurd (cc)
type_parts (Some id) h e =
    let p = length_parts id.0 (number_at id.1) h e in
    (id.1, ap (λ (x : ℕ). Some (x, id.1)) p.0, p.1)

head_parts : (bytes rest : List ℕ) (id n : ℕ) → head_at bytes ≡ Some (id, n, rest) → (mid : List ℕ) × (number_at bytes ≡ Some (id, mid)) × (number_at mid ≡ Some (n, rest))
unfolding head_at
head_parts bytes rest id n e = type_parts (number_at bytes) (id, n, rest) e

pub head_of : (bytes mid rest : List ℕ) (id n : ℕ) → number_at bytes ≡ Some (id, mid) → number_at mid ≡ Some (n, rest) → head_at bytes ≡ Some (id, n, rest)
unfolding head_at
head_of bytes mid rest id n e f = ap with_type e ∙ ap (with_length id) f

pub head_more : (bytes rest more : List ℕ) (id n : ℕ) → head_at bytes ≡ Some (id, n, rest) → head_at (bytes ++ more) ≡ Some (id, n, rest ++ more)
head_more bytes rest more id n e =
    let (mid, first, second) = head_parts bytes rest id n e in
    head_of (bytes ++ more) (mid ++ more) (rest ++ more) id n (number_at-more id bytes mid more first) (number_at-more n mid rest more second)

pub head_shorter : (bytes rest : List ℕ) (id n : ℕ) → head_at bytes ≡ Some (id, n, rest) → length rest < length bytes
head_shorter bytes rest id n e =
    let (mid, first, second) = head_parts bytes rest id n e in
    omega (arith, number-shorter id bytes mid first, number-shorter n mid rest second)

pub head_size : (bytes rest : List ℕ) (id n : ℕ) → head_at bytes ≡ Some (id, n, rest) → length bytes ≤ 16 + length rest
head_size bytes rest id n e =
    let (mid, first, second) = head_parts bytes rest id n e in
    omega (arith, number_size id bytes mid first, number_size n mid rest second)

length_none : (id : ℕ) (o : Option (ℕ × List ℕ)) → with_length id o ≡ None → o ≡ None
length_none id None e = refl
length_none id (Some n) e = absurd (cc)

type_none : (bytes : List ℕ) (o : Option (ℕ × List ℕ)) → number_at bytes ≡ o → with_type o ≡ None → length bytes < 16
type_none bytes None f e = omega (arith, number_none bytes f)
type_none bytes (Some id) f e = omega (arith, number_size id.0 bytes id.1 f, number_none id.1 (length_none id.0 (number_at id.1) e))

pub head_none : (bytes : List ℕ) → head_at bytes ≡ None → length bytes < 16
unfolding head_at
head_none bytes e = type_none bytes (number_at bytes) refl e

-- the bytes of a head are enough for it
parts_alone : (bytes rest s u : List ℕ) (start : ℕ) → start ≤ length bytes → rest ≡ drop start bytes → bytes ≡ (s ++ u) ++ rest → take start bytes ≡ s ++ u
parts_alone bytes rest s u start w e parts =
    let size : start ≡ length (s ++ u) = omega (arith, w, ap length e, ap length parts, length-drop start bytes, length-append (s ++ u) rest) in
    ap (λ (k : ℕ). take k bytes) size
    ∙ ap (λ (l : List ℕ). take (length (s ++ u)) l) parts
    ∙ take-append_seam (s ++ u) rest

pub head_alone : (bytes : List ℕ) (id n start : ℕ) → head_at bytes ≡ Some (id, n, drop start bytes) → start ≤ length bytes → head_at (take start bytes) ≡ Some (id, n, [])
head_alone bytes id n start e w =
    let (mid, first, second) = head_parts bytes (drop start bytes) id n e in
    let (s, typed, before) = number_at-encodes id bytes mid first in
    let (u, sized, after) = number_at-encodes n mid (drop start bytes) second in
    let parts : bytes ≡ (s ++ u) ++ drop start bytes = before ∙ ap (λ (l : List ℕ). s ++ l) after ∙ sym (append_assoc s u (drop start bytes)) in
    ap head_at (
    parts_alone bytes (drop start bytes) s u start w refl parts
    ∙ ap (λ (l : List ℕ). s ++ l) (sym (append-nil u)))
    ∙ head_of (s ++ (u ++ [])) (u ++ []) [] id n (number_at-encoding id s (u ++ []) typed) (number_at-encoding n u [] sized)

pub head_empty : head_at [] ≡ None
unfolding head_at number_at
head_empty = refl

-- ---- as it is read

pub head_dropped : (bytes mid : List ℕ) (id n a b : ℕ) → number_at bytes ≡ Some (id, drop a bytes) → mid ≡ drop a bytes → number_at mid ≡ Some (n, drop b mid) → head_at bytes ≡ Some (id, n, drop (a + b) bytes)
head_dropped bytes mid id n a b e m f = head_of bytes mid (drop (a + b) bytes) id n (e ∙ ap (λ (l : List ℕ). Some (id, l)) (sym m)) (f ∙ ap (λ (l : List ℕ). Some (n, l)) (ap (λ (l : List ℕ). drop b l) m ∙ drop-drop b a bytes))

pub head_cut : (bytes mid : List ℕ) (id a : ℕ) → number_at bytes ≡ Some (id, drop a bytes) → mid ≡ drop a bytes → number_at mid ≡ None → head_at bytes ≡ None
unfolding head_at
head_cut bytes mid id a e m f = ap with_type e ∙ ap (with_length id) (ap number_at (sym m) ∙ f)

pub head_missing : (bytes : List ℕ) → number_at bytes ≡ None → head_at bytes ≡ None
unfolding head_at
head_missing bytes e = ap with_type e

pub ruleset heads = (head_dropped, head_cut, head_missing)

-- ---- a payload

pub bytes_more : (n : ℕ) (bytes s rest more : List ℕ) → bytes_at n bytes ≡ Some (s, rest) → bytes_at n (bytes ++ more) ≡ Some (s, rest ++ more)
bytes_more n bytes s rest more e =
    let (size, parts) = bytes_at-parts n bytes s rest e in
    rw (parts, append_assoc s rest more, ← size) (bytes_at-append s (rest ++ more))

pub bytes_shorter : (n : ℕ) (bytes s rest : List ℕ) → bytes_at n bytes ≡ Some (s, rest) → length rest ≤ length bytes
bytes_shorter n bytes s rest e =
    let (size, parts) = bytes_at-parts n bytes s rest e in
    omega (arith, ap length parts, length-append s rest)

pub bytes_there : (n : ℕ) (bytes : List ℕ) → n ≤ length bytes → bytes_at n bytes ≡ Some (take n bytes, drop n bytes)
unfolding bytes_at
bytes_there n bytes l = rw (le-ltb (length bytes) n l) refl

pub bytes_missing : (n : ℕ) (bytes : List ℕ) → length bytes < n → bytes_at n bytes ≡ None
unfolding bytes_at
bytes_missing n bytes l = rw (lt-ltb (length bytes) n l) refl
