-- Parts that a loop writes in order.
use Rattle.std.proofs.Common.{ℕ, Bool, List, [], ◌∷◌, Option, Result, Ok, Err, Some, None, refl, sym, append-nil, arith}
use Rattle.wtp_core.specs.declared.bytes.writer.PutError.{PutError}
use Rattle.wtp_core.specs.Writer.{WritesPrefix, PutsParts}
use Rattle.wtp_core.proofs.WriterLemmas.{put-none, put-more}

-- some of the parts are written: writing the rest has the effect of writing all
pub record PutsAfter (grows : Bool) (all rest : List (List ℕ)) (old : List ℕ) (room : Option (List ℕ)) (new : List ℕ) (left : Option (List ℕ)) : Type 0 where
  pub whole : (r : Result (Unit {0}) PutError) (last : List ℕ) (behind : Option (List ℕ)) → PutsParts grows rest r new left last behind → PutsParts grows all r old room last behind

pub puts-start : (grows : Bool) (all : List (List ℕ)) (old : List ℕ) (room : Option (List ℕ)) → PutsAfter grows all all old room old room
puts-start grows all old room = record { whole = λ r last behind h. h }

-- one more part
pub puts-part : (grows : Bool) (all rest : List (List ℕ)) (p old new last : List ℕ) (room left behind : Option (List ℕ)) (u : Unit {0}) (h : PutsAfter grows all (p ∷ rest) old room new left) → WritesPrefix grows p (Ok u) new left last behind → PutsAfter grows all rest old room last behind
puts-part grows all rest p old new last room left behind u h taken = record { whole = λ r end place k. h.whole r end place (put-more grows p rest r u new last end left behind place taken k) }

pub puts-pair : (grows : Bool) (all rest : List (List ℕ)) (p q old new mid last : List ℕ) (room left place behind : Option (List ℕ)) (h : PutsAfter grows all (p ∷ q ∷ rest) old room new left) → WritesPrefix grows p (Ok tt) new left mid place → WritesPrefix grows q (Ok tt) mid place last behind → PutsAfter grows all rest old room last behind
puts-pair grows all rest p q old new mid last room left place behind h first second = puts-part grows all rest q old mid last room place behind tt (puts-part grows all (q ∷ rest) p old new mid room left place tt h first) second

-- writing a part failed
pub puts-refused : (grows : Bool) (all rest : List (List ℕ)) (p old new last : List ℕ) (room left behind : Option (List ℕ)) (e : PutError) (h : PutsAfter grows all (p ∷ rest) old room new left) → WritesPrefix grows p (Err e) new left last behind → PutsParts grows all (Err e) old room last behind
puts-refused grows all rest p old new last room left behind e h refused = h.whole (Err e) last behind (put-none grows p rest e new left last behind refused)

pub puts-refused_second : (grows : Bool) (all rest : List (List ℕ)) (p q old new mid last : List ℕ) (room left place behind : Option (List ℕ)) (e : PutError) (h : PutsAfter grows all (p ∷ q ∷ rest) old room new left) → WritesPrefix grows p (Ok tt) new left mid place → WritesPrefix grows q (Err e) mid place last behind → PutsParts grows all (Err e) old room last behind
puts-refused_second grows all rest p q old new mid last room left place behind e h first refused = puts-refused grows all rest q old mid last room place behind e (puts-part grows all (q ∷ rest) p old new mid room left place tt h first) refused

puts-nothing : (grows : Bool) (new : List ℕ) (left : Option (List ℕ)) (u : Unit {0}) → PutsParts grows [] (Ok u) new left new left
puts-nothing grows new None u = (sym (append-nil new), refl, tt)
puts-nothing grows new (Some place) u = (sym (append-nil new), refl, omega arith)

-- no part is left
pub puts-end : (grows : Bool) (all : List (List ℕ)) (old new : List ℕ) (room left : Option (List ℕ)) (u : Unit {0}) (h : PutsAfter grows all [] old room new left) → PutsParts grows all (Ok u) old room new left
puts-end grows all old new room left u h = h.whole (Ok u) new left (puts-nothing grows new left u)
