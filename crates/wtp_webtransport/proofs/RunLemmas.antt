-- The calls of a stream, one after the other, and those on bytes that are cut elsewhere.
use Rattle.std.proofs.Common.{◌≡◌, ◌⊎◌, ℕ, ◌+◌, ◌≤◌, Bool, false, List, [], ◌∷◌, ◌++◌, length, drop, refl, sym, ap, subst, ◌∙◌, arith, append_assoc, inl, inr}
use Rattle.std.proofs.lemmas.List.{drop-drop, drop-append-le}
use Rattle.std.proofs.Math.Seq.{drop-length}
use Rattle.wtp_webtransport.specs.declared.connection.Connection.{Connection}
use Rattle.wtp_webtransport.specs.declared.stream.Stream.{Stream}
use Rattle.wtp_webtransport.specs.Events.{Told, Data, StreamData, Malformed}
use Rattle.wtp_messages.specs.declared.malformed.Malformed.TheVariants.{ContentTooLong}
use Rattle.wtp_webtransport.specs.Receiving.{Outcome, Receives}
use Rattle.wtp_webtransport.specs.Calls.{ruleless, Course, Stops, Finishes, Continues, course_of, at_length, plain, moved, HasMemory, IsPiece, spread, joined_told, Joins, Rests, Whole, Longer, IsCall, Reads, told_before, told_all, left_of, SaysTo}
use Rattle.wtp_webtransport.proofs.CallLemmas.{receives_again}
use Rattle.wtp_webtransport.proofs.StopLemmas.{calls_stop}
use Rattle.wtp_webtransport.proofs.GivenLemmas.{calls_give}
use Rattle.wtp_webtransport.proofs.PieceLemmas.{calls_give_pieces}
use Rattle.wtp_webtransport.proofs.PlaceLemmas.{received_within}

-- ---- one call beside another

course_ruleless : (t : Told) → course_of t ≡ course_of (ruleless t)
course_ruleless (Malformed rule) = refl
course_ruleless other = refl

spread_ruleless : (t : Told) → spread t ≡ spread (ruleless t)
spread_ruleless (Malformed rule) = refl
spread_ruleless other = refl

record Beside (n : ℕ) (p q : Outcome) : Type 0 where
  course : course_of q.1 ≡ course_of p.1
  told : spread q.1 ≡ spread p.1
  connection : q.2 ≡ p.2
  stream : q.3 ≡ p.3
  consumed : course_of p.1 ≡ Continues → q.0 ≡ n + p.0

beside : (n len : ℕ) (p q : Outcome) → plain q ≡ moved n len p → Beside n p q
beside n len p q e =
    let same : ruleless q.1 ≡ ruleless p.1 = ap (λ (z : Outcome). z.1) e in
    record {
      course = course_ruleless q.1 ∙ ap course_of same ∙ sym (course_ruleless p.1);
      told = spread_ruleless q.1 ∙ ap spread same ∙ sym (spread_ruleless p.1);
      connection = ap (λ (z : Outcome). z.2) e;
      stream = ap (λ (z : Outcome). z.3) e;
      consumed = λ g. ap (λ (z : Outcome). z.0) e ∙ ap (λ (k : Course). at_length k n len p.0) g;
    }

-- the first call
abbrev first_of : List Outcome → Outcome → Outcome
first_of [] z = z
first_of (o ∷ os) z = o

first_call : (limit : ℕ) (os : List Outcome) (z : Outcome) (c : Connection) (s : Stream) (bytes : List ℕ) (fin : Bool) → Reads limit os z c s bytes fin → IsCall limit c s bytes fin (first_of os z)
first_call limit [] z c s bytes fin h = h.0
first_call limit (o ∷ os) z c s bytes fin h = h.0

last_memory : (z : Outcome) → (course_of z.1 ≡ Stops) ⊎ (course_of z.1 ≡ Finishes) → HasMemory z
last_memory z (inl e) m = cc (sym e ∙ m)
last_memory z (inr e) m = cc (sym e ∙ m)

first_memory : (limit : ℕ) (os : List Outcome) (z : Outcome) (c : Connection) (s : Stream) (bytes : List ℕ) (fin : Bool) → Reads limit os z c s bytes fin → HasMemory (first_of os z)
first_memory limit [] z c s bytes fin h = last_memory z h.1
first_memory limit (o ∷ os) z c s bytes fin h = λ m. cc (sym h.1 ∙ m)

last_goes : (z : Outcome) → (course_of z.1 ≡ Stops) ⊎ (course_of z.1 ≡ Finishes) → course_of z.1 ≡ Continues → ⊥
last_goes z (inl e) m = cc (sym e ∙ m)
last_goes z (inr e) m = cc (sym e ∙ m)

-- the calls after it, from its states
after_first : (limit : ℕ) (os : List Outcome) (z : Outcome) (c d : Connection) (s t : Stream) (x y : List ℕ) (fin : Bool) → c ≡ d → s ≡ t → x ≡ y → Reads limit os z c s x fin → Reads limit os z d t y fin
after_first limit os z c d s t x y fin e f g h =
    subst (λ (k : List ℕ). Reads limit os z d t k fin) g (
    subst (λ (k : Stream). Reads limit os z d k x fin) f (
    subst (λ (k : Connection). Reads limit os z k s x fin) e h))

says_more : (f g : Outcome) (fs gs : List Outcome) (w y : Outcome) → spread g.1 ≡ spread f.1 → SaysTo (told_all fs w) w gs y → SaysTo (told_all (f ∷ fs) w) w (g ∷ gs) y
says_more f g fs gs w y e h = record {
  told =
      append_assoc (spread g.1) (told_before gs) (spread y.1)
      ∙ ap (λ (k : List Told). spread g.1 ++ k) h.told
      ∙ ap (λ (k : List Told). k ++ told_all fs w) e
      ∙ sym (append_assoc (spread f.1) (told_before fs) (spread w.1));
  connection = h.connection;
  stream = h.stream;
}

-- ---- the same calls twice

mutual_says : (limit : ℕ) (fs gs : List Outcome) (w y : Outcome) (c : Connection) (s : Stream) (x : List ℕ) (fin : Bool) → Reads limit fs w c s x fin → Reads limit gs y c s x fin → SaysTo (told_all fs w) w gs y
mutual_says limit [] [] w y c s x fin h g =
    let b : Beside 0 w y = beside 0 (length x) w y (receives_again limit c s x fin w y h.0.ordinary (last_memory w h.1) (last_memory y g.1) h.0.gives g.0.gives) in
    record { told = b.told; connection = b.connection; stream = b.stream }
mutual_says limit [] (q ∷ gs) w y c s x fin h g =
    let b : Beside 0 w q = beside 0 (length x) w q (receives_again limit c s x fin w q h.0.ordinary (last_memory w h.1) (λ m. cc (sym g.1 ∙ m)) h.0.gives g.0.gives) in
    absurd (last_goes w h.1 (sym b.course ∙ g.1))
mutual_says limit (p ∷ fs) [] w y c s x fin h g =
    let b : Beside 0 p y = beside 0 (length x) p y (receives_again limit c s x fin p y h.0.ordinary (λ m. cc (sym h.1 ∙ m)) (last_memory y g.1) h.0.gives g.0.gives) in
    absurd (last_goes y g.1 (b.course ∙ h.1))
mutual_says limit (p ∷ fs) (q ∷ gs) w y c s x fin h g =
    let b : Beside 0 p q = beside 0 (length x) p q (receives_again limit c s x fin p q h.0.ordinary (λ m. cc (sym h.1 ∙ m)) (λ m. cc (sym g.1 ∙ m)) h.0.gives g.0.gives) in
    let same : q.0 ≡ p.0 = b.consumed h.1 ∙ omega arith in
    says_more p q fs gs w y b.told (mutual_says limit fs gs w y p.2 p.3 (drop p.0 x) fin h.2 (after_first limit gs y q.2 p.2 q.3 p.3 (drop q.0 x) (drop p.0 x) fin b.connection b.stream (ap (λ (k : ℕ). drop k x) same) g.2))

-- ---- calls that begin beside others

begins_beside : (limit : ℕ) (fs gs : List Outcome) (w y : Outcome) (c d : Connection) (s t : Stream) (x z : List ℕ) (n : ℕ) (fin : Bool) → x ≡ drop n z → Reads limit fs w c s x fin → Reads limit gs y d t z fin → Beside n (first_of fs w) (first_of gs y) → SaysTo (told_all fs w) w gs y
begins_beside limit [] [] w y c d s t x z n fin e h g b = record { told = b.told; connection = b.connection; stream = b.stream }
begins_beside limit [] (q ∷ gs) w y c d s t x z n fin e h g b = absurd (last_goes w h.1 (sym b.course ∙ g.1))
begins_beside limit (p ∷ fs) [] w y c d s t x z n fin e h g b = absurd (last_goes y g.1 (b.course ∙ h.1))
begins_beside limit (p ∷ fs) (q ∷ gs) w y c d s t x z n fin e h g b =
    let rest : drop q.0 z ≡ drop p.0 x = ap (λ (k : ℕ). drop k z) (b.consumed h.1) ∙ sym (drop-drop p.0 n z) ∙ ap (λ (k : List ℕ). drop p.0 k) (sym e) in
    says_more p q fs gs w y b.told (mutual_says limit fs gs w y p.2 p.3 (drop p.0 x) fin h.2 (after_first limit gs y q.2 p.2 q.3 p.3 (drop q.0 z) (drop p.0 x) fin b.connection b.stream rest g.2))

-- ---- the law

piece_or_not : (t : Told) → IsPiece t ⊎ (IsPiece t → ⊥)
piece_or_not (Data x) = inl tt
piece_or_not (StreamData x) = inl tt
piece_or_not (Malformed ContentTooLong) = inl tt
piece_or_not other = inr (λ i. i)

-- what is said before, and then
says_after : (f g : Outcome) (told : List Told) (w y : Outcome) (gs : List Outcome) → spread g.1 ≡ spread f.1 → SaysTo told w gs y → SaysTo (spread f.1 ++ told) w (g ∷ gs) y
says_after f g told w y gs e h = record {
  told =
      append_assoc (spread g.1) (told_before gs) (spread y.1)
      ∙ ap (λ (k : List Told). spread g.1 ++ k) h.told
      ∙ ap (λ (k : List Told). k ++ told) e;
  connection = h.connection;
  stream = h.stream;
}

abbrev Stopped : ℕ → List Outcome → Outcome → Connection → Stream → List ℕ → List ℕ → Bool → Type 0
Stopped limit os z c s a b fin =
    (fs gs : List Outcome) (w y : Outcome) → Reads limit fs w z.2 z.3 (left_of os z a ++ b) fin → Reads limit gs y c s (a ++ b) fin → SaysTo (told_before os ++ told_all fs w) w gs y

first_stops : (limit : ℕ) (z : Outcome) (c : Connection) (s : Stream) (a b : List ℕ) (fin : Bool) → IsCall limit c s a false z → course_of z.1 ≡ Stops → Stopped limit [] z c s a b fin
first_stops limit z c s a b fin h e fs gs w y f g =
    let p : IsCall limit z.2 z.3 (drop z.0 a ++ b) fin (first_of fs w) = first_call limit fs w z.2 z.3 (drop z.0 a ++ b) fin f in
    let q : IsCall limit c s (a ++ b) fin (first_of gs y) = first_call limit gs y c s (a ++ b) fin g in
    begins_beside limit fs gs w y z.2 c z.3 s (drop z.0 a ++ b) (a ++ b) z.0 fin (sym (drop-append-le z.0 a b (received_within limit c s a false z h.gives))) f g
    (beside z.0 (length (a ++ b)) (first_of fs w) (first_of gs y) (calls_stop limit c s a b fin z (first_of fs w) (first_of gs y) h.ordinary h.gives e p.gives (first_memory limit fs w z.2 z.3 (drop z.0 a ++ b) fin f) q.gives (first_memory limit gs y c s (a ++ b) fin g)))

-- a call after which the caller goes on, and its like
goes_beside : (limit : ℕ) (o : Outcome) (os gs : List Outcome) (y w : Outcome) (told : List Told) (c : Connection) (s : Stream) (a b : List ℕ) (fin : Bool) → o.0 ≤ length a → course_of o.1 ≡ Continues → Beside 0 o (first_of gs y) → Reads limit gs y c s (a ++ b) fin → ((hs : List Outcome) → Reads limit hs y o.2 o.3 (drop o.0 a ++ b) fin → SaysTo told w hs y) → SaysTo (spread o.1 ++ told) w gs y
goes_beside limit o os [] y w told c s a b fin l e k g more = absurd (last_goes y g.1 (k.course ∙ e))
goes_beside limit o os (q ∷ gs) y w told c s a b fin l e k g more =
    let rest : drop q.0 (a ++ b) ≡ drop o.0 a ++ b = ap (λ (i : ℕ). drop i (a ++ b)) (k.consumed e ∙ omega arith) ∙ drop-append-le o.0 a b l in
    says_after o q told w y gs k.told (more gs (after_first limit gs y q.2 o.2 q.3 o.3 (drop q.0 (a ++ b)) (drop o.0 a ++ b) fin k.connection k.stream rest g.2))

joined_course : (t u : Told) → course_of t ≡ Continues → course_of (joined_told t u) ≡ Continues
joined_course (Data x) (Data y) e = refl
joined_course (StreamData x) (StreamData y) e = refl
joined_course t u e = e

-- a piece that is longer in all bytes
piece_longer : (limit : ℕ) (o z : Outcome) (os fs gs : List Outcome) (w y : Outcome) (c : Connection) (s : Stream) (a b : List ℕ) (fin : Bool) → course_of o.1 ≡ Continues → course_of z.1 ≡ Stops → o.0 ≡ length a → ((p : Outcome) → Receives limit o.2 o.3 b fin p → Joins o p (first_of gs y)) → ((r : Outcome) → Receives limit o.2 o.3 [] false r → Rests o r) → Reads limit os z o.2 o.3 [] false → Reads limit fs w z.2 z.3 (left_of os z [] ++ b) fin → Reads limit gs y c s (a ++ b) fin → SaysTo (spread o.1 ++ (told_before os ++ told_all fs w)) w gs y
piece_longer limit o z (r ∷ os) fs gs w y c s a b fin e st all joins rests h f g = absurd (cc (sym (rests r h.0.gives).stops ∙ h.1))
piece_longer limit o z [] fs gs w y c s a b fin e st all joins rests h f g =
    let still : Rests o z = rests z h.0.gives in
    let left : drop z.0 [] ++ b ≡ b = ap (λ (k : ℕ). drop k [] ++ b) still.none in
    next_joined fs gs (after_first limit fs w z.2 o.2 z.3 o.3 (drop z.0 [] ++ b) b fin still.connection still.stream left f) g joins
  where
    next_joined : (fs gs : List Outcome) → Reads limit fs w o.2 o.3 b fin → Reads limit gs y c s (a ++ b) fin → ((p : Outcome) → Receives limit o.2 o.3 b fin p → Joins o p (first_of gs y)) → SaysTo (spread o.1 ++ told_all fs w) w gs y
    next_joined [] gs f g joins = absurd (last_goes w f.1 (joins w f.0.gives).goes)
    next_joined (p ∷ fs) [] f g joins = absurd (last_goes y g.1 (ap (λ (x : Outcome). course_of x.1) (joins p f.0.gives).is ∙ joined_course o.1 p.1 e))
    next_joined (p ∷ fs) (q ∷ gs) f g joins =
        let j : Joins o p q = joins p f.0.gives in
        let rest : drop q.0 (a ++ b) ≡ drop p.0 b =
        ap (λ (x : Outcome). drop x.0 (a ++ b)) j.is
        ∙ ap (λ (k : ℕ). drop (k + p.0) (a ++ b)) all
        ∙ sym (drop-drop p.0 (length a) (a ++ b))
        ∙ ap (λ (k : List ℕ). drop p.0 k) (drop-append-le (length a) a b (omega arith) ∙ ap (λ (k : List ℕ). k ++ b) (drop-length a)) in
        let same : SaysTo (told_all fs w) w gs y = mutual_says limit fs gs w y p.2 p.3 (drop p.0 b) fin f.2 (after_first limit gs y q.2 p.2 q.3 p.3 (drop q.0 (a ++ b)) (drop p.0 b) fin (ap (λ (x : Outcome). x.2) j.is) (ap (λ (x : Outcome). x.3) j.is) rest g.2) in
        record {
          told =
              append_assoc (spread q.1) (told_before gs) (spread y.1)
              ∙ ap (λ (k : List Told). spread q.1 ++ k) same.told
              ∙ ap (λ (k : List Told). k ++ told_all fs w) j.bytes
              ∙ append_assoc (spread o.1) (spread p.1) (told_all fs w)
              ∙ ap (λ (k : List Told). spread o.1 ++ k) (sym (append_assoc (spread p.1) (told_before fs) (spread w.1)));
          connection = same.connection;
          stream = same.stream;
        }

all_left : (limit : ℕ) (o z : Outcome) (os : List Outcome) (a : List ℕ) → o.0 ≡ length a → drop o.0 a ≡ []
all_left limit o z os a e = ap (λ (k : ℕ). drop k a) e ∙ drop-length a

regrouped : (o : Outcome) (os gs : List Outcome) (w y : Outcome) (said : List Told) → SaysTo (spread o.1 ++ (told_before os ++ said)) w gs y → SaysTo (told_before (o ∷ os) ++ said) w gs y
regrouped o os gs w y said h = record { told = h.told ∙ sym (append_assoc (spread o.1) (told_before os) said); connection = h.connection; stream = h.stream }

pub run_stops : (limit : ℕ) (os : List Outcome) (z : Outcome) (c : Connection) (s : Stream) (a b : List ℕ) (fin : Bool) → Reads limit os z c s a false → course_of z.1 ≡ Stops → Stopped limit os z c s a b fin
run_stops limit [] z c s a b fin h e fs gs w y f g = first_stops limit z c s a b fin h.0 e fs gs w y f g
run_stops limit (o ∷ os) z c s a b fin h e fs gs w y f g =
    let q : IsCall limit c s (a ++ b) fin (first_of gs y) = first_call limit gs y c s (a ++ b) fin g in
    let m : HasMemory (first_of gs y) = first_memory limit gs y c s (a ++ b) fin g in
    let goes : Beside 0 o (first_of gs y) → SaysTo (told_before (o ∷ os) ++ told_all fs w) w gs y =
    λ k. regrouped o os gs w y (told_all fs w) (goes_beside limit o os gs y w (told_before os ++ told_all fs w) c s a b fin (received_within limit c s a false o h.0.gives) h.1 k g (λ hs r. run_stops limit os z o.2 o.3 (drop o.0 a) b fin h.2 e fs hs w y f r)) in
    elim (piece_or_not o.1) [
      | inr whole ↦ goes (beside 0 (length (a ++ b)) o (first_of gs y) (calls_give limit c s a b fin o (first_of gs y) h.0.ordinary (λ x. cc (sym h.1 ∙ x)) h.0.gives (λ x. cc (sym h.1 ∙ x)) whole q.gives m))
      | inl piece ↦ elim (calls_give_pieces limit c s a b fin o (first_of gs y) h.0.ordinary h.0.frames h.0.gives piece (h.0.free piece) q.gives m) [
        | Whole k ↦ goes (beside 0 (length (a ++ b)) o (first_of gs y) k)
        | Longer all on joins still ↦
            let none : drop o.0 a ≡ [] = all_left limit o z os a all in
            regrouped o os gs w y (told_all fs w) (piece_longer limit o z os fs gs w y c s a b fin h.1 e all joins still
            (subst (λ (k : List ℕ). Reads limit os z o.2 o.3 k false) none h.2)
            (subst (λ (k : List ℕ). Reads limit fs w z.2 z.3 (left_of os z k ++ b) fin) none f) g)
      ]
    ]

-- a call with which the stream is finished
last_beside : (limit : ℕ) (z y : Outcome) (gs : List Outcome) (c : Connection) (s : Stream) (x : List ℕ) (fin : Bool) → course_of z.1 ≡ Finishes → Beside 0 z (first_of gs y) → Reads limit gs y c s x fin → SaysTo (spread z.1) z gs y
last_beside limit z y [] c s x fin e b g = record { told = b.told; connection = b.connection; stream = b.stream }
last_beside limit z y (q ∷ gs) c s x fin e b g = absurd (cc (sym e ∙ sym b.course ∙ g.1))

-- no call finishes a stream within a piece
none_finishes : (limit : ℕ) (o z : Outcome) (os : List Outcome) → Reads limit os z o.2 o.3 [] false → course_of z.1 ≡ Finishes → ((r : Outcome) → Receives limit o.2 o.3 [] false r → Rests o r) → ⊥
none_finishes limit o z [] h e rests = cc (sym e ∙ (rests z h.0.gives).stops)
none_finishes limit o z (r ∷ os) h e rests = cc (sym h.1 ∙ (rests r h.0.gives).stops)

pub run_ends : (limit : ℕ) (os gs : List Outcome) (z y : Outcome) (c : Connection) (s : Stream) (a b : List ℕ) (fin : Bool) → Reads limit os z c s a false → course_of z.1 ≡ Finishes → Reads limit gs y c s (a ++ b) fin → SaysTo (told_all os z) z gs y
run_ends limit [] gs z y c s a b fin h e g =
    let q : IsCall limit c s (a ++ b) fin (first_of gs y) = first_call limit gs y c s (a ++ b) fin g in
    let m : HasMemory (first_of gs y) = first_memory limit gs y c s (a ++ b) fin g in
    elim (piece_or_not z.1) [
      | inr whole ↦ last_beside limit z y gs c s (a ++ b) fin e (beside 0 (length (a ++ b)) z (first_of gs y) (calls_give limit c s a b fin z (first_of gs y) h.0.ordinary (λ x. cc (sym e ∙ x)) h.0.gives (λ x. cc (sym e ∙ x)) whole q.gives m)) g
      | inl piece ↦ elim (calls_give_pieces limit c s a b fin z (first_of gs y) h.0.ordinary h.0.frames h.0.gives piece (h.0.free piece) q.gives m) [
        | Whole k ↦ last_beside limit z y gs c s (a ++ b) fin e (beside 0 (length (a ++ b)) z (first_of gs y) k) g
        | Longer all on joins still ↦ absurd (cc (sym e ∙ on))
      ]
    ]
run_ends limit (o ∷ os) gs z y c s a b fin h e g =
    let q : IsCall limit c s (a ++ b) fin (first_of gs y) = first_call limit gs y c s (a ++ b) fin g in
    let m : HasMemory (first_of gs y) = first_memory limit gs y c s (a ++ b) fin g in
    let goes : Beside 0 o (first_of gs y) → SaysTo (told_all (o ∷ os) z) z gs y =
    λ k. regrouped o os gs z y (spread z.1) (goes_beside limit o os gs y z (told_all os z) c s a b fin (received_within limit c s a false o h.0.gives) h.1 k g (λ hs r. run_ends limit os hs z y o.2 o.3 (drop o.0 a) b fin h.2 e r)) in
    elim (piece_or_not o.1) [
      | inr whole ↦ goes (beside 0 (length (a ++ b)) o (first_of gs y) (calls_give limit c s a b fin o (first_of gs y) h.0.ordinary (λ x. cc (sym h.1 ∙ x)) h.0.gives (λ x. cc (sym h.1 ∙ x)) whole q.gives m))
      | inl piece ↦ elim (calls_give_pieces limit c s a b fin o (first_of gs y) h.0.ordinary h.0.frames h.0.gives piece (h.0.free piece) q.gives m) [
        | Whole k ↦ goes (beside 0 (length (a ++ b)) o (first_of gs y) k)
        | Longer all on joins still ↦ absurd (none_finishes limit o z os (subst (λ (k : List ℕ). Reads limit os z o.2 o.3 k false) (all_left limit o z os a all) h.2) e still)
      ]
    ]
