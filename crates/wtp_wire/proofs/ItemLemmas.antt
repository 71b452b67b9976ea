-- The parts of an item, written in order.
use Rattle.std.proofs.Common.{◌≡◌, ℕ, Bool, List, [], ◌∷◌, length, Option, Result, Ok, Err}
use Rattle.wtp_core.specs.Varint.{shortest}
use Rattle.wtp_core.specs.Writer.{WritesPrefix, PutsParts}
use Rattle.wtp_core.specs.declared.bytes.writer.PutError.{PutError}
use Rattle.wtp_core.proofs.WriterLemmas.{put-none, put-more, put-last}
use Rattle.wtp_wire.specs.declared.item.Tail.{Tail}
use Rattle.wtp_wire.specs.declared.item.Tail.TheVariants.{Nothing, Session, Payload}
use Rattle.wtp_wire.specs.Item.{item_parts}

-- writing the type failed
pub puts-no_type : (grows : Bool) (number : ℕ) (tail : Tail) (parts : List (List ℕ)) (e : PutError) (old new : List ℕ) (room left : Option (List ℕ))
    → parts ≡ item_parts number tail
    → WritesPrefix grows (shortest number) (Err e) old room new left
    → PutsParts grows parts (Err e) old room new left
puts-no_type grows number Nothing parts e old new room left is h = rw is (put-none grows (shortest number) [] e old room new left h)
puts-no_type grows number (Session id) parts e old new room left is h = rw is (put-none grows (shortest number) (shortest id ∷ []) e old room new left h)
puts-no_type grows number (Payload bytes) parts e old new room left is h = rw is (put-none grows (shortest number) (shortest (length bytes.now) ∷ bytes.now ∷ []) e old room new left h)

-- the type was written, and the session ID or not
pub puts-session : (grows : Bool) (number id : ℕ) (tail : Tail) (parts : List (List ℕ)) (r : Result (Unit {0}) PutError) (u : Unit {0}) (old mid new : List ℕ) (room place left : Option (List ℕ))
    → parts ≡ item_parts number tail
    → tail ≡ Session id
    → WritesPrefix grows (shortest number) (Ok u) old room mid place
    → WritesPrefix grows (shortest id) r mid place new left
    → PutsParts grows parts r old room new left
puts-session grows number id tail parts r u old mid new room place left is tail_is first second =
    rw (is, tail_is) (put-more grows (shortest number) (shortest id ∷ []) r u old mid new room place left first (put-last grows (shortest id) r mid place new left second))

-- the type was written, and writing the length failed
pub puts-no_length : (grows : Bool) (number n : ℕ) (bytes : List ℕ) (parts : List (List ℕ)) (e : PutError) (u : Unit {0}) (old mid new : List ℕ) (room place left : Option (List ℕ))
    → parts ≡ shortest number ∷ shortest (length bytes) ∷ bytes ∷ []
    → n ≡ length bytes
    → WritesPrefix grows (shortest number) (Ok u) old room mid place
    → WritesPrefix grows (shortest n) (Err e) mid place new left
    → PutsParts grows parts (Err e) old room new left
puts-no_length grows number n bytes parts e u old mid new room place left is n_is first second =
    rw (is, ← n_is) (put-more grows (shortest number) (shortest n ∷ bytes ∷ []) (Err e) u old mid new room place left first (put-none grows (shortest n) (bytes ∷ []) e mid place new left second))

-- the type and the length were written, and the payload or not
pub puts-payload : (grows : Bool) (number n : ℕ) (bytes : List ℕ) (parts : List (List ℕ)) (r : Result (Unit {0}) PutError) (u v : Unit {0}) (old mid next new : List ℕ) (room place more left : Option (List ℕ))
    → parts ≡ shortest number ∷ shortest (length bytes) ∷ bytes ∷ []
    → n ≡ length bytes
    → WritesPrefix grows (shortest number) (Ok u) old room mid place
    → WritesPrefix grows (shortest n) (Ok v) mid place next more
    → WritesPrefix grows bytes r next more new left
    → PutsParts grows parts r old room new left
puts-payload grows number n bytes parts r u v old mid next new room place more left is n_is first second third =
    rw (is, ← n_is) (put-more grows (shortest number) (shortest n ∷ bytes ∷ []) r u old mid new room place left first (put-more grows (shortest n) (bytes ∷ []) r v mid next new place more left second (put-last grows bytes r next more new left third)))
