-- The frames that a stream finds in its bytes, and the ending (RFC 9114, sections 7.1 and 9).
--
-- The run is given by `front`, the first frame of the bytes. An unknown frame is skipped. A frame
-- that the rules allow is found, and the run continues with the bytes after it. A frame that they
-- do not allow, an invalid session ID and a payload that is too big end the run with their error
-- code. If the bytes are too few, the run ends as they end. The laws `run_goes_by_front` and
-- `run_passes_unknown` state exactly this.
use Rattle.std.specs.Prelude.{ℕ, zero, suc, Bool, false, List, [], ◌∷◌, length, Option, Some, None}
use Rattle.wtp_core.specs.declared.error.ErrorCode.{ErrorCode}
use Rattle.wtp_core.specs.declared.error.ErrorCode.TheVariants.{Id, ExcessiveLoad}
use Rattle.wtp_core.specs.declared.error.ErrorCode.TheVariants as code
use Rattle.wtp_wire.specs.Content.{Content, kind_in}
use Rattle.wtp_wire.specs.Front.{Front, Framed, Unknown, BadId, TooBig, Short, front}
use Rattle.wtp_wire.specs.Rule.{Role, rule}

-- How the bytes end: more may follow, or the stream ended, was reset or was lost.
pub data Tail : Type 0 where
  MayGoOn : Tail
  Ended : Tail
  WasReset : Tail
  Lost : Tail

-- How a run ends: with this many bytes after its last frame if more may follow, with an error code,
-- or as the stream ended.
pub data Ending : Type 0 where
  Open : ℕ → Ending
  H3 : ErrorCode → Ending
  ImmediateFin : Ending
  Reset : Ending
  NotConnected : Ending

-- the frames found, and the ending
pub record Run : Type 0 where
  pub frames : List Content
  pub ending : Ending

-- a run without frames and with this ending
abbrev pub ends : Ending → Run
ends e = record { frames = []; ending = e }

-- a frame, followed by a run
abbrev pub follows : Content → Run → Run
follows f r = record { frames = f ∷ r.frames; ending = r.ending }

-- ---- unknown frames are skipped

-- the bytes after an unknown frame, continued by more, or all bytes if their first frame is not
-- unknown
abbrev pub skip_case : (List ℕ → List ℕ) → List ℕ → Front → List ℕ
skip_case more bytes (Framed f rest) = bytes
skip_case more bytes (Unknown rest) = more rest
skip_case more bytes (BadId rest) = bytes
skip_case more bytes (TooBig rest) = bytes
skip_case more bytes Short = bytes

-- the bytes after the unknown frames at the start, of which at most n are skipped
abbrev pub skip_within : ℕ → List ℕ → List ℕ
skip_within zero bytes = bytes
skip_within (suc n) bytes = skip_case (λ rest. skip_within n rest) bytes (front bytes)

-- the bytes after all unknown frames at the start
unfoldable pub skip_unknown : List ℕ → List ℕ
skip_unknown bytes = skip_within (length bytes) bytes

-- ---- the run

-- the ending if rest starts with no complete frame; bytes are all those after the last frame
abbrev pub run_stop : List ℕ → List ℕ → Tail → Ending
run_stop bytes rest MayGoOn = Open (length bytes)
run_stop bytes [] Ended = ImmediateFin
run_stop bytes (b ∷ rest) Ended = H3 code.Frame
run_stop bytes rest WasReset = Reset
run_stop bytes rest Lost = NotConnected

-- a frame that is allowed and the run after it, or the error code
abbrev pub judged : Option ErrorCode → Content → Run → Run
judged None f r = follows f r
judged (Some c) f r = ends (H3 c)

-- the run, given the first frame that is not unknown; more is the run of the bytes after it
abbrev pub next_run : (Bool → List ℕ → Run) → Role → Bool → List ℕ → List ℕ → Tail → Front → Run
next_run more role first bytes rest tail (Framed f behind) =
    judged (rule role first (kind_in f)) f (more false behind)
next_run more role first bytes rest tail (Unknown behind) = ends (run_stop bytes rest tail)
next_run more role first bytes rest tail (BadId behind) = ends (H3 Id)
next_run more role first bytes rest tail (TooBig behind) = ends (H3 ExcessiveLoad)
next_run more role first bytes rest tail Short = ends (run_stop bytes rest tail)

-- the run of the bytes, with at most n frames
abbrev pub run_within : ℕ → Role → Tail → Bool → List ℕ → Run
run_within zero role tail first bytes = ends (run_stop bytes bytes tail)
run_within (suc n) role tail first bytes =
    next_run (λ f rest. run_within n role tail f rest) role first bytes (skip_unknown bytes) tail
    (front (skip_unknown bytes))

-- the run of the bytes on a stream with this role; the flag is whether no frame came before them
unfoldable pub run : Role → Bool → List ℕ → Tail → Run
run role first bytes tail = run_within (length bytes) role tail first bytes

-- the same ending, with the length of these bytes as the number of bytes after the last frame
abbrev pub counted_end : List ℕ → Ending → Ending
counted_end bytes (Open n) = Open (length bytes)
counted_end bytes (H3 code) = H3 code
counted_end bytes ImmediateFin = ImmediateFin
counted_end bytes Reset = Reset
counted_end bytes NotConnected = NotConnected

-- the run with these frames; if there are none, the length of these bytes is the number of bytes
-- after the last frame
abbrev pub counted_run : List ℕ → List Content → Ending → Run
counted_run bytes [] ending = ends (counted_end bytes ending)
counted_run bytes (f ∷ frames) ending = record { frames = f ∷ frames; ending = ending }

-- the same run; if it has no frame, the number of bytes after the last frame is the length of these
-- bytes
abbrev pub counted : List ℕ → Run → Run
counted bytes r = counted_run bytes r.frames r.ending
