-- The first thing that the bytes of a stream give: the run of the bytes as far as the first frame, the
-- first piece of DATA that came, or the first fault. Where nothing is given it is the whole run.
use Rattle.std.specs.Prelude.{ℕ, zero, suc, nat_lt, ◌==◌, ◌&&◌, if◌then◌else◌, Bool, true, false, List, [], ◌∷◌, ◌++◌, length}
use Rattle.wtp_frames.specs.declared.reader.Reader.{Reader}
use Rattle.wtp_frames.specs.declared.reader.Move.{Move}
use Rattle.wtp_frames.specs.declared.reader.Step.{Step}
use Rattle.wtp_frames.specs.Item.{Item, Byte, Broken}
use Rattle.wtp_frames.specs.Run.{Run, stays, preceded, next_run}
use Rattle.wtp_frames.specs.Reading.{items_of, left_after, moved_items, moved_left}

-- one head, one frame, or the bytes of one payload
abbrev pub moves : Reader → List ℕ → Run
moves r bytes = next_run (λ s rest. stays s rest) r bytes

abbrev pub is_none : List Item → Bool
is_none [] = true
is_none (i ∷ items) = false

-- nothing is given, and some of these bytes are consumed
abbrev pub goes_on : Run → List ℕ → Bool
goes_on x bytes = is_none x.items && nat_lt (length x.left) (length bytes)

abbrev pub until_given : (Reader → List ℕ → Run) → Run → List ℕ → Run
until_given more x bytes = if goes_on x bytes then more x.reader x.left else x

-- with at most n steps
abbrev pub first_within : ℕ → Reader → List ℕ → Run
first_within zero r bytes = stays r bytes
first_within (suc n) r bytes =
    until_given (λ s rest. first_within n s rest) (moves r bytes) bytes

unfoldable pub first : Reader → List ℕ → Run
first r bytes = first_within (suc (length bytes)) r bytes

-- ---- what a step and a move give, with the reader after them

abbrev pub given : Step → List ℕ → Reader → Run
given s bytes new = record { items = items_of s bytes; reader = new; left = left_after s bytes }

abbrev pub moved_by : Move → List ℕ → Reader → Run
moved_by m bytes new =
    record { items = moved_items m bytes; reader = new; left = moved_left m bytes }

-- ---- what is given first, where more bytes follow

-- Nothing: then what is left and those bytes say. A piece of DATA is longer, if it reached the end of
-- the bytes and not that of its frame. A fault consumes them too.
abbrev pub in_piece : Run → Bool
in_piece x = length x.left == 0 && nat_lt 0 x.reader.remaining

abbrev pub left_over : Run → List ℕ → Run
left_over x more = record { items = x.items; reader = x.reader; left = x.left ++ more }

abbrev pub longer : Run → List ℕ → Run
longer x more =
    if in_piece x then preceded x.items (first x.reader more) else left_over x more

abbrev pub by_given : List Item → Run → List ℕ → Run
by_given [] x more = first x.reader (x.left ++ more)
by_given (Byte b ∷ items) x more = longer x more
by_given (Broken f ∷ items) x more = x
by_given other x more = left_over x more

abbrev pub with_more : Run → List ℕ → Run
with_more x more = by_given x.items x more
