-- What is done with a value follows from the row of its type.
use Rattle.std.proofs.Common.{arith, ◌≡◌, ℕ}
use Rattle.vesgrauf_registry.specs.Capsules.{capsules, capsule_of}
use Rattle.vesgrauf_registry.specs.Table.{AtEach, IsOther}
use Rattle.vesgrauf_registry.proofs.TableLemmas.{by_entries}
use Rattle.wtp_webtransport.specs.Capsules.{sort_of}
use Rattle.wtp_webtransport.specs.CapsuleRows.{sort_row}

at_each : (len : ℕ) → AtEach (λ n. sort_row n len ≡ sort_of n len) capsules
unfolding capsule_of capsules
at_each len = search

others : (len n : ℕ) → IsOther n capsules → sort_row n len ≡ sort_of n len
unfolding capsule_of capsules
others len n h = grind (arith, h)

pub sort_is : (n len : ℕ) → sort_row n len ≡ sort_of n len
sort_is n len = by_entries (λ m. sort_row m len ≡ sort_of m len) capsules n (at_each len) (others len n)
