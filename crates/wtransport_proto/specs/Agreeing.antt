-- The ending of a run, given the bytes after its frames; and how the run of bytes after which more
-- may follow agrees with that of the same bytes with an end.
use Rattle.std.specs.Prelude.{◌≡◌, ℕ, Bool, List, Some}
use Rattle.wtp_core.specs.declared.error.ErrorCode.{ErrorCode}
use Rattle.wtp_core.specs.declared.error.ErrorCode.TheVariants.{Id, ExcessiveLoad}
use Rattle.wtp_core.specs.Reader.{IsRest}
use Rattle.wtp_wire.specs.Content.{kind_in}
use Rattle.wtp_wire.specs.Front.{Front, Framed, Unknown, BadId, TooBig, Short, front}
use Rattle.wtp_wire.specs.Rule.{Role, rule}
use Rattle.wtp_wire.specs.Run.{Run, Tail, MayGoOn, Ending, H3, skip_unknown, run_stop}
use Rattle.wtransport_proto.specs.Place.{Remainder, remainder}

-- The ending, given the first frame of the bytes left that is not unknown: the error code of a
-- frame that the stream does not allow, of an invalid session ID or of a payload that is too big;
-- or, if the bytes are too few, the run ends as they end.
abbrev pub EndsBy : Role → Tail → Remainder → Front → Ending → Type 0
EndsBy role tail left (Framed f rest) ending =
    (code : ErrorCode) × (rule role left.first (kind_in f) ≡ Some code) × (ending ≡ H3 code)
EndsBy role tail left (Unknown rest) ending = ⊥
EndsBy role tail left (BadId rest) ending = ending ≡ H3 Id
EndsBy role tail left (TooBig rest) ending = ending ≡ H3 ExcessiveLoad
EndsBy role tail left Short ending = ending ≡ run_stop left.bytes (skip_unknown left.bytes) tail

-- the same for the remainder of a run
abbrev pub EndsAfter : Role → Tail → Remainder → Ending → Type 0
EndsAfter role tail left ending = EndsBy role tail left (front (skip_unknown left.bytes)) ending

-- Both runs have the same frames, and end at the bytes left after these: with the same error code;
-- or, if the bytes are too few, the first run is open with exactly these left, and the second ends
-- as the stream does.
pub record Agrees (role : Role) (first : Bool) (tail : Tail) (bytes : List ℕ) (going_on ended : Run)
    : Type 0 where
  pub frames : ended.frames ≡ going_on.frames
  pub left : IsRest (remainder role first bytes).bytes bytes
  pub open_end : EndsAfter role MayGoOn (remainder role first bytes) going_on.ending
  pub closed_end : EndsAfter role tail (remainder role first bytes) ended.ending
