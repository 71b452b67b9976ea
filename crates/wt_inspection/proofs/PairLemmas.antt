-- A number at the start of bytes.
use Rattle.std.proofs.Common.{◌≡◌, ℕ, ◌<◌, List, length, drop, Some, arith, length-drop}
use Rattle.wtp_core.specs.Varint.{number_at}
use Rattle.wtp_wire.proofs.CapsuleFrontLemmas.{number_shorter}

pub some_is : {A : Type 0} (x y : A) → Some x ≡ Some y → x ≡ y
some_is x y e = cc e

-- it has at least one byte
pub number_some : (bytes : List ℕ) (size v : ℕ) → number_at bytes ≡ Some (v, drop size bytes) → 0 < size
number_some bytes size v e =
    let less : length (drop size bytes) < length bytes = number_shorter bytes (drop size bytes) v e in
    omega (arith, length-drop size bytes)
