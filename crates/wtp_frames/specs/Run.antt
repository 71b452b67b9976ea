-- What the bytes of a stream are, and how far they lead.
--
-- By the head of the first frame: too few bytes for it are left; a frame that is refused breaks the
-- stream, after which its bytes mean nothing; of one that is streamed or skipped the payload
-- follows, as far as it has come; one that is given whole waits for its payload. The law
-- `run_goes_by_head` states exactly that.
use Rattle.std.specs.Prelude.{ℕ, zero, suc, ◌+◌, ◌-◌, ◌==◌, nat_lt, if◌then◌else◌, Bool, true, false, List, [], ◌∷◌, ◌++◌, map, length, take, drop, Option, Some, None, Result, Ok, Err}
use Rattle.wtp_core.specs.Varint.{number_at, bytes_at}
use Rattle.wtp_frames.specs.declared.frame_type.FrameType.{FrameType}
use Rattle.wtp_frames.specs.declared.fault.Fault.{Fault}
use Rattle.wtp_frames.specs.declared.reader.Place.{Place}
use Rattle.wtp_frames.specs.declared.reader.Place.TheVariants.{Failed}
use Rattle.wtp_frames.specs.declared.reader.Reader.{Reader}
use Rattle.wtp_frames.specs.declared.rules.Action.{Action}
use Rattle.wtp_frames.specs.declared.rules.Action.TheVariants.{Give, Stream, Skip, SkipSection, Refuse}
use Rattle.wtp_frames.specs.FrameType.{type_of}
use Rattle.wtp_frames.specs.Item.{Item, Whole, Byte, TooLarge, Broken}
use Rattle.wtp_frames.specs.Rules.{action_of, accepted, after_section}

-- the items; the reader after them; and the bytes that are left, which wait for more
pub record Run : Type 0 where
  pub items : List Item
  pub reader : Reader
  pub left : List ℕ

abbrev pub stays : Reader → List ℕ → Run
stays r bytes = record { items = []; reader = r; left = bytes }

abbrev pub preceded : List Item → Run → Run
preceded items r = record { items = items ++ r.items; reader = r.reader; left = r.left }

-- payload bytes, which are given or skipped
abbrev pub pieces : Bool → List ℕ → List Item
pieces true bytes = map Byte bytes
pieces false bytes = []

-- ---- the reader after a head

abbrev pub failed : Reader → Fault → Reader
failed r f = record r { place = Failed f }

-- one more frame without content; no more than 1024 are counted
abbrev pub counted : ℕ → ℕ
counted idle = if nat_lt idle 1024 then idle + 1 else idle

abbrev pub after_data : ℕ → ℕ → ℕ
after_data idle n = if n == 0 then counted idle else 0

abbrev pub streams : Reader → ℕ → Reader
streams r n = record r { remaining = n; streamed = true; idle = after_data r.idle n }

abbrev pub skips : Reader → ℕ → Reader
skips r n = record r { remaining = n; streamed = false; idle = counted r.idle }

abbrev pub skips_section : Reader → ℕ → Reader
skips_section r n =
    record r { place = after_section r.place; remaining = n; streamed = false; idle = 0 }

abbrev pub moved : Reader → Place → Reader
moved r place = record r { place = place; streamed = false; idle = 0 }

-- the fault is given, and what follows means nothing
abbrev pub breaks : Reader → Fault → Run
breaks r f = record { items = Broken f ∷ []; reader = failed r f; left = [] }

-- ---- by the first frame

-- the type, the length, and the bytes after both
abbrev pub with_length : ℕ → Option (ℕ × List ℕ) → Option (ℕ × ℕ × List ℕ)
with_length id None = None
with_length id (Some n) = Some (id, n.0, n.1)

abbrev pub with_type : Option (ℕ × List ℕ) → Option (ℕ × ℕ × List ℕ)
with_type None = None
with_type (Some id) = with_length id.0 (number_at id.1)

unfoldable pub head_at : List ℕ → Option (ℕ × ℕ × List ℕ)
head_at bytes = with_type (number_at bytes)

-- the reader goes on after a frame that is given whole
abbrev pub by_place : (Reader → List ℕ → Run) → Reader → FrameType → List ℕ → List ℕ → Result Place Fault → Run
by_place more r k payload rest (Ok place) =
    preceded (Whole k payload ∷ []) (more (moved r place) rest)
by_place more r k payload rest (Err f) = breaks r f

abbrev pub by_payload : (Reader → List ℕ → Run) → Reader → List ℕ → FrameType → Option (List ℕ × List ℕ) → Run
by_payload more r bytes k None = stays r bytes
by_payload more r bytes k (Some p) =
    by_place more r k p.0 p.1 (accepted r.endpoint.side r.place k p.0)

abbrev pub by_action : (Reader → List ℕ → Run) → Reader → List ℕ → FrameType → ℕ → List ℕ → Action → Run
by_action more r bytes k n rest Give = by_payload more r bytes k (bytes_at n rest)
by_action more r bytes k n rest Stream = more (streams r n) rest
by_action more r bytes k n rest Skip = more (skips r n) rest
by_action more r bytes k n rest SkipSection =
    preceded (TooLarge n ∷ []) (more (skips_section r n) rest)
by_action more r bytes k n rest (Refuse f) = breaks r f

-- what the reader does with a frame of this type and length
abbrev pub action_at : Reader → FrameType → ℕ → Action
action_at r k n = action_of r.endpoint r.place r.idle k n

abbrev pub by_head : (Reader → List ℕ → Run) → Reader → List ℕ → Option (ℕ × ℕ × List ℕ) → Run
by_head more r bytes None = stays r bytes
by_head more r bytes (Some h) =
    by_action more r bytes (type_of h.0) h.1 h.2 (action_at r (type_of h.0) h.1)

-- ---- by the payload that is still to come

-- all of the bytes are of the payload
abbrev pub within_payload : Reader → List ℕ → Run
within_payload r bytes = record {
  items = pieces r.streamed bytes;
  reader = record r { remaining = r.remaining - length bytes };
  left = [];
}

abbrev pub intact_run : (Reader → List ℕ → Run) → Reader → List ℕ → Run
intact_run more r bytes =
    if r.remaining == 0
    then by_head more r bytes (head_at bytes)
    else (if nat_lt (length bytes) r.remaining
    then within_payload r bytes
    else preceded
    (pieces r.streamed (take r.remaining bytes))
    (more (record r { remaining = 0 }) (drop r.remaining bytes)))

-- ---- after a fault

abbrev pub is_failed : Place → Bool
is_failed (Failed f) = true
is_failed other = false

abbrev pub next_run : (Reader → List ℕ → Run) → Reader → List ℕ → Run
next_run more r bytes = if is_failed r.place then stays r [] else intact_run more r bytes

-- ---- the run

-- with at most n steps
abbrev pub run_within : ℕ → Reader → List ℕ → Run
run_within zero r bytes = stays r []
run_within (suc n) r bytes = next_run (λ s rest. run_within n s rest) r bytes

-- the run of the bytes from a reader on
unfoldable pub run : Reader → List ℕ → Run
run r bytes = run_within (suc (length bytes)) r bytes
