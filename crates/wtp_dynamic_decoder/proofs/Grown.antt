-- The table grows as its stream is read.
use Rattle.std.proofs.Common.{ℕ, ◌≤◌, List}
use Rattle.wtp_dynamic.specs.Table.{Table, insert_count}
use Rattle.wtp_dynamic.specs.Stream.{Stands, Reaches}
use Rattle.wtp_dynamic.proofs.Entries.{leads_later}

pub stands_grow : (t : Table) (bytes : List ℕ) (u : Table) (held : List ℕ) → Stands t bytes u held → insert_count t ≤ insert_count u
stands_grow t bytes u held stands = (leads_later stands.instructions t bytes u held stands.leads).count

pub reaches_grow : (t : Table) (bytes : List ℕ) (u : Table) → Reaches t bytes u → insert_count t ≤ insert_count u
reaches_grow t bytes u (is, rest, leads) = (leads_later is t bytes u rest leads).count
