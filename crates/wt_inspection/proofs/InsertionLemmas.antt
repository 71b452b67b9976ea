-- Encoder streams, one more byte at a time.
use Rattle.std.proofs.Common.{◌≡◌, ◌<◌, ◌≤◌, ◌+◌, ◌-◌, ℕ, List, [], ◌++◌, length, take, drop, refl, sym, subst, arith}
use Rattle.std.proofs.Math.Seq.{take-add}
use Rattle.wtp_dynamic.specs.Stream.{Stands}
use Rattle.wtp_dynamic.specs.Table.{Table, empty_table, insert_count}
use Rattle.wtp_dynamic.proofs.Streams.{cut_nothing, stands_join}
use Rattle.wt_inspection.specs.Insertions.{HasFewer}

-- no byte was read
pub stands_none : (table : Table) → Stands table [] table []
stands_none table = record { instructions = []; leads = (refl, refl); cut = cut_nothing table }

-- what is known after some bytes
abbrev pub Reached : (limit : ℕ) → List ℕ → (count i : ℕ) → Table → List ℕ → Type 0
Reached limit bytes count i table held =
    (i ≤ length bytes) × Stands (empty_table limit) (take i bytes) table held
    × (0 < i → HasFewer limit (take (i - 1) bytes) count)

-- one more byte, before which there were too few insertions
pub one_more : (limit count i : ℕ) (bytes piece held left : List ℕ) (table next : Table) → Reached limit bytes count i table held → i < length bytes → piece ≡ take (i + 1 - i) (drop i bytes) → insert_count table < count → Stands table (held ++ piece) next left → Reached limit bytes count (i + 1) next left
one_more limit count i bytes piece held left table next (within, stands, first) some is fewer step =
    let one : i + 1 - i ≡ 1 = omega arith in
    let back : i + 1 - 1 ≡ i = omega arith in
    let joined : Stands (empty_table limit) (take i bytes ++ piece) next left = stands_join (empty_table limit) (take i bytes) table held piece next left stands step in
    let same : take i bytes ++ piece ≡ take (i + 1) bytes = rw (is, one) (sym (take-add i 1 bytes)) in
    (omega (arith, some), subst (λ (b : List ℕ). Stands (empty_table limit) b next left) same joined, λ positive. (table, held, rw back stands, fewer))
