use Rattle.std.proofs.Common.{◌≡◌, ℕ, ◌+◌, ◌-◌, ◌≤◌, List, ◌++◌, length, take, drop, Some, ap, sym, ◌∙◌, arith}
use Rattle.std.proofs.lemmas.List.{drop-drop}
use Rattle.std.proofs.lemmas.Slice.{take-put_mid, drop-put_mid}
use Rattle.wtp_core.proofs.bytes.buffer_writer.BufferWriterBytesWriter.put_bytes.Goals as goal

pub returns-clause-puts : goal.returns-clause-puts
returns-clause-puts c =
    let a : ℕ = c.args.self.now.offset in
    let n : ℕ = length c.args.bytes.now in
    let whole : List ℕ = c.args.self.now.buffer.now in
    let within : a ≤ length whole = c.args.self.now.within in
    let copied : c.copy_from_slice.new.self ≡ c.args.bytes.now = c.copy_from_slice.ensures.after in
    let size : length c.copy_from_slice.new.self ≡ (a + n) - a = ap length copied ∙ omega arith in
    let room : n ≤ length (drop a whole) = omega arith in (
      take-put_mid a ((a + n) - a) whole c.copy_from_slice.new.self (a + n) (omega arith) within ∙ ap (λ (x : List ℕ). take a whole ++ x) copied,
      ap (λ (x : List ℕ). Some x) (drop-put_mid a ((a + n) - a) whole c.copy_from_slice.new.self (a + n) (omega arith) within size ∙ sym (drop-drop n a whole)),
      room,
    )
