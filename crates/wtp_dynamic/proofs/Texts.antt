-- The text of a string that was appended.
use Rattle.std.proofs.Common.{◌≡◌, ℕ, Bool, true, List, ◌++◌, length, drop, sym, ap, refl, Ok, Err}
use Rattle.std.proofs.Transfers.{drop-appended}
use Rattle.wtp_huffman.specs.Huffman.{IsHuffman}
use Rattle.wtp_qpack.proofs.StringBits.{huffman_only, huffman_none}
use Rattle.wtp_dynamic.specs.declared.error.EncoderStreamError.TheVariants.{InvalidString}
use Rattle.wtp_dynamic.specs.Steps.{text_of}

pub text_found : (flag : Bool) (bytes old new t : List ℕ) → flag ≡ true → IsHuffman t bytes → new ≡ old ++ t → text_of (flag, bytes) ≡ Ok (drop (length old) new)
text_found flag bytes old new t is_huffman h same = rw (is_huffman, huffman_only t bytes h) (ap Ok (sym (drop-appended _ _ _ same)))

pub text_none : (flag : Bool) (bytes : List ℕ) → flag ≡ true → ((t : List ℕ) → IsHuffman t bytes → ⊥) → text_of (flag, bytes) ≡ Err InvalidString
text_none flag bytes is_huffman h = rw (is_huffman, huffman_none bytes h) refl
