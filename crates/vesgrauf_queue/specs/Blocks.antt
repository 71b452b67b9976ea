-- The bytes that blocks have.
use Rattle.std.specs.Prelude.{ℕ, List}
use Rattle.vesgrauf_queue.specs.declared.blocks.Blocks.{Blocks}
use Rattle.vesgrauf_queue.specs.Layout.{parts, pieces_in, kept_in}

-- the pieces that were not given
abbrev pub pieces : Blocks → List (List ℕ)
pieces b = pieces_in (parts b.sealed.items) b.last.items b.lent b.used

-- the bytes that were given and are kept
abbrev pub kept : Blocks → List ℕ
kept b = kept_in (parts b.sealed.items) b.last.items b.lent b.used b.freed
