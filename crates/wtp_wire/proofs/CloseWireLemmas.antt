-- A written close capsule is read back.
use Rattle.std.proofs.Common.{◌≡◌, ℕ, ◌+◌, ◌^◌, ◌≤◌, ◌<◌, List, ◌++◌, length, Some, IsUtf8, refl, sym, ap, ◌∙◌, append_assoc, append-nil, length-append, arith, lit<}
use Rattle.std.specs.Int.{w32, to_be_bytes}
use Rattle.std.proofs.lemmas.Nat.{from_be_bytes-to_be_bytes_4}
use Rattle.wtp_core.specs.Varint.{shortest}
use Rattle.wtp_core.proofs.ShortLemmas.{shortest-encodes}
use Rattle.wtp_wire.specs.declared.capsule.CapsuleKind.TheVariants.{CloseWebTransportSession}
use Rattle.wtp_wire.specs.Capsule.{capsule_in}
use Rattle.wtp_wire.specs.CapsuleFront.{Found, IsCapsule, capsule_front}
use Rattle.wtp_wire.specs.CapsuleStream.{next_capsule}
use Rattle.wtp_wire.specs.CloseSession.{close_value, close_wire, close_in}
use Rattle.wtp_wire.specs.Front.{EncodesPair}
use Rattle.wtp_wire.proofs.CapsuleFrontLemmas.{starts-front}
use Rattle.wtp_wire.proofs.CapsuleLemmas.{capsule_in-begins}
use Rattle.wtp_wire.proofs.CapsuleStreamLemmas.{next-by}
use Rattle.wtp_wire.proofs.CloseLemmas.{close_in-is}

value_size : (code : ℕ) (reason : List ℕ) → length (close_value (code, reason)) ≡ 4 + length reason
value_size code reason = length-append (to_be_bytes w32 code) reason

wire_parts : (code : ℕ) (reason : List ℕ) → close_wire (code, reason) ≡ (shortest 0x2843 ++ shortest (4 + length reason)) ++ close_value (code, reason)
wire_parts code reason =
    ap (λ (x : List ℕ). shortest 0x2843 ++ (shortest (4 + length reason) ++ (to_be_bytes w32 code ++ x))) (append-nil reason)
    ∙ sym (append_assoc (shortest 0x2843) (shortest (4 + length reason)) (close_value (code, reason)))

head_encoded : (n m : ℕ) → n < 2 ^ 62 → n ≡ m → EncodesPair 0x2843 m (shortest 0x2843 ++ shortest n)
head_encoded n m l e = record { first = shortest 0x2843; second = shortest n; parts = refl; type_number = shortest-encodes 0x2843 (lit< tt); number = rw (← e) (shortest-encodes n l) }

is_capsule : (code : ℕ) (reason : List ℕ) → length reason ≤ 1024 → IsCapsule CloseWebTransportSession (close_value (code, reason)) (close_wire (code, reason))
is_capsule code reason l = record {
  head = shortest 0x2843 ++ shortest (4 + length reason);
  encoded = head_encoded (4 + length reason) (length (close_value (code, reason))) (omega arith) (sym (value_size code reason));
  small = omega (arith, value_size code reason);
  parts = wire_parts code reason;
}

pub front-written : (code : ℕ) (reason rest : List ℕ) → length reason ≤ 1024 → capsule_front (close_wire (code, reason) ++ rest) ≡ Found CloseWebTransportSession (close_value (code, reason)) rest
front-written code reason rest l = starts-front (close_wire (code, reason) ++ rest) (Found CloseWebTransportSession (close_value (code, reason)) rest) (close_wire (code, reason), is_capsule code reason l, refl)

pub next-written : (code : ℕ) (reason rest : List ℕ) → length reason ≤ 1024 → next_capsule (close_wire (code, reason) ++ rest) ≡ Found CloseWebTransportSession (close_value (code, reason)) rest
next-written code reason rest l = next-by (close_wire (code, reason) ++ rest) (Found CloseWebTransportSession (close_value (code, reason)) rest) (front-written code reason rest l)

pub whole-written : (code : ℕ) (reason rest : List ℕ) → length reason ≤ 1024 → capsule_in (close_wire (code, reason) ++ rest) ≡ Some (CloseWebTransportSession, close_value (code, reason))
whole-written code reason rest l =
    let is = is_capsule code reason l in
    capsule_in-begins (close_wire (code, reason) ++ rest) CloseWebTransportSession (close_value (code, reason)) (record {
      head = is.head;
      rest = rest;
      encoded = is.encoded;
      parts = ap (λ (x : List ℕ). x ++ rest) is.parts ∙ append_assoc is.head (close_value (code, reason)) rest;
    })

pub value-written : (code : ℕ) (reason : List ℕ) → code < 2 ^ 32 → length reason ≤ 1024 → IsUtf8 reason → close_in (close_value (code, reason)) ≡ Some (code, reason)
value-written code reason c l text = close_in-is code reason (close_value (code, reason)) (record {
  head = to_be_bytes w32 code;
  parts = refl;
  size = refl;
  number = sym (from_be_bytes-to_be_bytes_4 code c);
  short = l;
  text = text;
})
