-- Reading the pairs of a settings payload one after the other.
use Rattle.std.proofs.Common.{◌≡◌, ◌≢◌, ℕ, suc, zero, ◌<◌, ◌≤◌, List, [], ◌∷◌, ◌++◌, length, Option, Some, None, Result, Ok, Err, refl, sym, ap, ◌∙◌, append_assoc, append-nil, arith, inl, inr, length-append}
use Rattle.std.specs.Ordering.{nat_cmp, match_ordering}
use Rattle.std.specs.declared.cmp.Ordering.{Ordering}
use Rattle.std.specs.declared.cmp.Ordering.TheVariants.{Less, Equal, Greater}
use Rattle.wtp_core.specs.declared.error.ErrorCode.{ErrorCode}
use Rattle.wtp_core.specs.declared.error.ErrorCode.TheVariants.{Frame}
use Rattle.wtp_core.specs.declared.error.Refused.{Refused}
use Rattle.wtp_core.specs.declared.error.Refused.TheVariants.{Code, Memory}
use Rattle.wtp_core.specs.Varint.{number_at}
use Rattle.wtp_core.proofs.EncodingLemmas.{number_at-encoding, number_at-encodes}
use Rattle.wtp_wire.specs.Front.{EncodesPair}
use Rattle.wtp_wire.specs.Settings.{pair_at, kept_with, settings_from, settings_in, or_fault, with_setting, StartsWithSettings, KeepsSetting, AnswersSettings}
use Rattle.wtp_wire.proofs.FrontLemmas.{found, head_not_empty}

-- ---- one pair

pub pair_at-some : (bytes mid more : List ℕ) (n v : ℕ) → number_at bytes ≡ Some (n, mid) → number_at mid ≡ Some (v, more) → pair_at bytes ≡ Some ((n, v), more)
unfolding pair_at
pair_at-some bytes mid more n v first second = rw (first, second) refl

pub pair_at-no_number : (bytes : List ℕ) → number_at bytes ≡ None → pair_at bytes ≡ None
unfolding pair_at
pair_at-no_number bytes e = rw e refl

pub pair_at-no_value : (bytes mid : List ℕ) (n : ℕ) → number_at bytes ≡ Some (n, mid) → number_at mid ≡ None → pair_at bytes ≡ None
unfolding pair_at
pair_at-no_value bytes mid n first second = rw (first, second) refl

pub pair_at-encoded : (n v : ℕ) (s more : List ℕ) → EncodesPair n v s → pair_at (s ++ more) ≡ Some ((n, v), more)
pair_at-encoded n v s more h =
    pair_at-some (s ++ more) (h.second ++ more) more n v (rw (h.parts, append_assoc h.first h.second more) (number_at-encoding n h.first (h.second ++ more) h.type_number)) (number_at-encoding v h.second more h.number)

pub ruleset pair_steps = (pair_at-some, pair_at-no_number, pair_at-no_value)

-- the bytes start with the encoding of a pair
pub record BeginsWithPair (bytes : List ℕ) (n v : ℕ) (more : List ℕ) : Type 0 where
  pub s : List ℕ
  pub encoded : EncodesPair n v s
  pub parts : bytes ≡ s ++ more

pair_of_two : (bytes mid more : List ℕ) (n v : ℕ) → number_at bytes ≡ Some (n, mid) → number_at mid ≡ Some (v, more) → BeginsWithPair bytes n v more
pair_of_two bytes mid more n v first second =
    let (s, encoded, parts) = number_at-encodes n bytes mid first in
    let (t, value, behind) = number_at-encodes v mid more second in
    record {
      s = s ++ t;
      encoded = record { first = s; second = t; parts = refl; type_number = encoded; number = value };
      parts = parts ∙ ap (λ (x : List ℕ). s ++ x) behind ∙ sym (append_assoc s t more);
    }

not_none : (x : (ℕ × ℕ) × List ℕ) (o : Option ((ℕ × ℕ) × List ℕ)) → o ≡ None → o ≡ Some x → ⊥
not_none x o d e = cc

some_pair : (x y : (ℕ × ℕ) × List ℕ) → Some x ≡ Some y → x ≡ y
some_pair x y e = cc

pub pair_at-begins : (bytes more : List ℕ) (n v : ℕ) → pair_at bytes ≡ Some ((n, v), more) → BeginsWithPair bytes n v more
pair_at-begins bytes more n v e = elim (found (number_at bytes)) [
  | inl none ↦ absurd (not_none ((n, v), more) (pair_at bytes) (pair_at-no_number bytes none) e)
  | inr ((i, mid), first) ↦ elim (found (number_at mid)) [
    | inl none ↦ absurd (not_none ((n, v), more) (pair_at bytes) (pair_at-no_value bytes mid i first none) e)
    | inr ((w, behind), second) ↦
        let same = some_pair ((i, w), behind) ((n, v), more) (sym (pair_at-some bytes mid behind i w first second) ∙ e) in
        rw (← ap (λ (x : (ℕ × ℕ) × List ℕ). x.0.0) same, ← ap (λ (x : (ℕ × ℕ) × List ℕ). x.0.1) same, ← ap (λ (x : (ℕ × ℕ) × List ℕ). x.1) same) (pair_of_two bytes mid behind i w first second)
  ]
]

pub pair_at-shorter : (bytes more : List ℕ) (n v : ℕ) → pair_at bytes ≡ Some ((n, v), more) → length more < length bytes
pair_at-shorter bytes more n v e =
    let h = pair_at-begins bytes more n v e in
    omega (arith, ap length h.parts ∙ length-append h.s more, head_not_empty n v h.s h.encoded)

pub pair_at-more : (bytes more rest : List ℕ) (n v : ℕ) → pair_at bytes ≡ Some ((n, v), more) → pair_at (bytes ++ rest) ≡ Some ((n, v), more ++ rest)
pair_at-more bytes more rest n v e =
    let h = pair_at-begins bytes more n v e in
    rw (h.parts, append_assoc h.s more rest) (pair_at-encoded n v h.s (more ++ rest) h.encoded)

-- ---- all pairs

-- m and the pairs that the bytes encode
abbrev pub read_from : List (ℕ × ℕ) → List ℕ → Result (List (ℕ × ℕ)) ErrorCode
read_from m bytes = settings_from (length bytes) m bytes

from-some : (n : ℕ) (m : List (ℕ × ℕ)) (b : ℕ) (bs more : List ℕ) (p : ℕ × ℕ) → pair_at (b ∷ bs) ≡ Some (p, more) → settings_from (suc n) m (b ∷ bs) ≡ or_fault (kept_with m p) (λ kept. settings_from n kept more)
unfolding settings_from
from-some n m b bs more p e = rw e refl

from-none : (n : ℕ) (m : List (ℕ × ℕ)) (b : ℕ) (bs : List ℕ) → pair_at (b ∷ bs) ≡ None → settings_from (suc n) m (b ∷ bs) ≡ Err Frame
unfolding settings_from
from-none n m b bs e = rw e refl

from-nil : (n : ℕ) (m : List (ℕ × ℕ)) → settings_from n m [] ≡ Ok m
unfolding settings_from
from-nil n m = refl

or_fault-same : (r : Result (List (ℕ × ℕ)) ErrorCode) (f g : List (ℕ × ℕ) → Result (List (ℕ × ℕ)) ErrorCode) → ((m : List (ℕ × ℕ)) → f m ≡ g m) → or_fault r f ≡ or_fault r g
or_fault-same (Ok m) f g h = h m
or_fault-same (Err code) f g h = refl

-- more steps than bytes do not change the result
from-enough : (n k : ℕ) (m : List (ℕ × ℕ)) (bytes : List ℕ) → length bytes ≤ n → length bytes ≤ k → settings_from n m bytes ≡ settings_from k m bytes
from-enough n k m [] h i = from-nil n m ∙ sym (from-nil k m)
from-enough zero k m (b ∷ bs) h i = absurd (omega arith)
from-enough (suc n) zero m (b ∷ bs) h i = absurd (omega arith)
from-enough (suc n) (suc k) m (b ∷ bs) h i = elim (found (pair_at (b ∷ bs))) [
  | inl none ↦ from-none n m b bs none ∙ sym (from-none k m b bs none)
  | inr ((p, more), e) ↦
      let short : length more < length (b ∷ bs) = pair_at-shorter (b ∷ bs) more p.0 p.1 e in
      from-some n m b bs more p e ∙ or_fault-same (kept_with m p) (λ kept. settings_from n kept more) (λ kept. settings_from k kept more) (λ kept. from-enough n k kept more (omega arith) (omega arith)) ∙ sym (from-some k m b bs more p e)
]

pub read_from-nil : (m : List (ℕ × ℕ)) → read_from m [] ≡ Ok m
read_from-nil m = from-nil 0 m

pub read_from-pair : (m : List (ℕ × ℕ)) (bytes more : List ℕ) (n v : ℕ) → pair_at bytes ≡ Some ((n, v), more) → read_from m bytes ≡ or_fault (kept_with m (n, v)) (λ kept. read_from kept more)
read_from-pair m [] more n v e = let short : length more < length {A = ℕ} [] = pair_at-shorter [] more n v e in absurd (omega arith)
read_from-pair m (b ∷ bs) more n v e =
    let short : length more < length (b ∷ bs) = pair_at-shorter (b ∷ bs) more n v e in
    from-some (length bs) m b bs more (n, v) e ∙ or_fault-same (kept_with m (n, v)) (λ kept. settings_from (length bs) kept more) (λ kept. read_from kept more) (λ kept. from-enough (length bs) (length more) kept more (omega arith) (omega arith))

pub read_from-cut : (m : List (ℕ × ℕ)) (bytes : List ℕ) → bytes ≢ [] → pair_at bytes ≡ None → read_from m bytes ≡ Err Frame
read_from-cut m [] h e = absurd (h refl)
read_from-cut m (b ∷ bs) h e = from-none (length bs) m b bs e

or_fault-ok : (r : Result (List (ℕ × ℕ)) ErrorCode) (f : List (ℕ × ℕ) → Result (List (ℕ × ℕ)) ErrorCode) (m : List (ℕ × ℕ)) → or_fault r f ≡ Ok m → (k : List (ℕ × ℕ)) × (r ≡ Ok k) × (f k ≡ Ok m)
or_fault-ok (Ok k) f m e = (k, refl, e)
or_fault-ok (Err code) f m e = absurd cc

ok_is : (x y : List (ℕ × ℕ)) (r : Result (List (ℕ × ℕ)) ErrorCode) → r ≡ Ok x → r ≡ Ok y → x ≡ y
ok_is x y r d e = cc

-- reading the bytes after a prefix without an error
read_after : (n : ℕ) (j m : List (ℕ × ℕ)) (front rest : List ℕ) → length front ≤ n → read_from j front ≡ Ok m → read_from j (front ++ rest) ≡ read_from m rest
read_after n j m [] rest h e = ap (λ (x : List (ℕ × ℕ)). read_from x rest) (ok_is j m (read_from j []) (read_from-nil j) e)
read_after zero j m (b ∷ bs) rest h e = absurd (omega arith)
read_after (suc n) j m (b ∷ bs) rest h e = elim (found (pair_at (b ∷ bs))) [
  | inl none ↦ absurd (not_ok (sym (from-none (length bs) j b bs none) ∙ e))
  | inr ((p, more), read) ↦
      let short : length more < length (b ∷ bs) = pair_at-shorter (b ∷ bs) more p.0 p.1 read in
      let (k, kept, left) = or_fault-ok (kept_with j p) (λ kept. read_from kept more) m (sym (read_from-pair j (b ∷ bs) more p.0 p.1 read) ∙ e) in
      read_from-pair j ((b ∷ bs) ++ rest) (more ++ rest) p.0 p.1 (pair_at-more (b ∷ bs) more rest p.0 p.1 read) ∙ ap (λ (r : Result (List (ℕ × ℕ)) ErrorCode). or_fault r (λ kept. read_from kept (more ++ rest))) kept ∙ read_after n k m more rest (omega arith) left
]
  where
    not_ok : Err Frame ≡ Ok m → ⊥
    not_ok x = cc

-- ---- a payload with a prefix that was read

-- m are the settings of the bytes before the rest
pub record ReadSoFar (payload rest : List ℕ) (m : List (ℕ × ℕ)) : Type 0 where
  pub front : List ℕ
  pub parts : payload ≡ front ++ rest
  pub read : settings_in front ≡ Ok m

pub settings_in-from : (bytes : List ℕ) → settings_in bytes ≡ read_from [] bytes
unfolding settings_in
settings_in-from bytes = refl

settings_in-rest : (payload rest : List ℕ) (m : List (ℕ × ℕ)) (h : ReadSoFar payload rest m) → settings_in payload ≡ read_from m rest
settings_in-rest payload rest m h = settings_in-from payload ∙ ap (λ (x : List ℕ). read_from [] x) h.parts ∙ read_after (length h.front) [] m h.front rest (omega arith) (sym (settings_in-from h.front) ∙ h.read)

pub so_far-none : (payload : List ℕ) → ReadSoFar payload payload []
so_far-none payload = record { front = []; parts = refl; read = settings_in-from [] ∙ read_from-nil [] }

pub so_far-all : (payload rest : List ℕ) (m : List (ℕ × ℕ)) (h : ReadSoFar payload rest m) → rest ≡ [] → settings_in payload ≡ Ok m
so_far-all payload rest m h e = settings_in-rest payload rest m h ∙ ap (λ (x : List ℕ). read_from m x) e ∙ read_from-nil m

pub so_far-cut : (payload rest : List ℕ) (m : List (ℕ × ℕ)) (h : ReadSoFar payload rest m) → 0 < length rest → pair_at rest ≡ None → settings_in payload ≡ Err Frame
so_far-cut payload rest m h some e = settings_in-rest payload rest m h ∙ read_from-cut m rest (λ none. absurd (omega (arith, ap length none))) e

pub so_far-fault : (payload rest more : List ℕ) (m : List (ℕ × ℕ)) (n v : ℕ) (code : ErrorCode) (h : ReadSoFar payload rest m) → pair_at rest ≡ Some ((n, v), more) → kept_with m (n, v) ≡ Err code → settings_in payload ≡ Err code
so_far-fault payload rest more m n v code h e fault = settings_in-rest payload rest m h ∙ read_from-pair m rest more n v e ∙ ap (λ (r : Result (List (ℕ × ℕ)) ErrorCode). or_fault r (λ kept. read_from kept more)) fault

pub so_far-pair : (payload rest more : List ℕ) (m k : List (ℕ × ℕ)) (n v : ℕ) (h : ReadSoFar payload rest m) → pair_at rest ≡ Some ((n, v), more) → kept_with m (n, v) ≡ Ok k → ReadSoFar payload more k
so_far-pair payload rest more m k n v h e kept =
    let p = pair_at-begins rest more n v e in
    let alone : pair_at p.s ≡ Some ((n, v), []) = rw append-nil at (pair_at-encoded n v p.s [] p.encoded) in
    record {
      front = h.front ++ p.s;
      parts = h.parts ∙ ap (λ (x : List ℕ). h.front ++ x) p.parts ∙ sym (append_assoc h.front p.s more);
      read = settings_in-rest (h.front ++ p.s) p.s m (record { front = h.front; parts = refl; read = h.read }) ∙ read_from-pair m p.s [] n v alone ∙ ap (λ (r : Result (List (ℕ × ℕ)) ErrorCode). or_fault r (λ kept. read_from kept [])) kept ∙ read_from-nil k;
    }

chosen-some : (o : Ordering) (a b c : ℕ × ℕ) (xs ys zs : List (ℕ × ℕ)) → match_ordering o (a ∷ xs) (b ∷ ys) (c ∷ zs) ≢ []
chosen-some Less a b c xs ys zs e = cc
chosen-some Equal a b c xs ys zs e = cc
chosen-some Greater a b c xs ys zs e = cc

with_setting-some : (m : List (ℕ × ℕ)) (n v : ℕ) → with_setting m n v ≢ []
with_setting-some [] n v e = cc
with_setting-some (p ∷ m) n v e = chosen-some (nat_cmp n p.0) (n, v) (p.0, v) p (p ∷ m) m (with_setting m n v) e

-- allocation failed for a setting
pub so_far-memory : (payload rest more : List ℕ) (m : List (ℕ × ℕ)) (n v : ℕ) (h : ReadSoFar payload rest m) → pair_at rest ≡ Some ((n, v), more) → kept_with m (n, v) ≡ Ok (with_setting m n v) → StartsWithSettings payload
so_far-memory payload rest more m n v h e kept =
    let s = so_far-pair payload rest more m (with_setting m n v) n v h e kept in
    record { front = s.front; rest = more; m = with_setting m n v; parts = s.parts; read = s.read; some = with_setting-some m n v }

-- a pair was not stored
pub so_far-refused : (payload rest more : List ℕ) (m k : List (ℕ × ℕ)) (n v : ℕ) (e : Refused) (h : ReadSoFar payload rest m) → pair_at rest ≡ Some ((n, v), more) → KeepsSetting m (n, v) (Err e) k → AnswersSettings payload (Err e)
so_far-refused payload rest more m k n v (Code code) h e fault = so_far-fault payload rest more m n v code h e fault
so_far-refused payload rest more m k n v Memory h e kept = so_far-memory payload rest more m n v h e kept
