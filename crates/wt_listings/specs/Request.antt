-- The listing of a session request, which is the first frame of a stream that the peer opened
-- (WebTransport over HTTP/3, "Creating a New Session").
use Rattle.std.specs.Prelude.{true, ℕ, List, [], ◌∷◌, ◌++◌, length, codes, Result, Ok, Err}
use Rattle.std.specs.List.{flat_map}
use Rattle.wt_listings.specs.Lines.{ListingText, with_ending}
use Rattle.wtransport_proto.specs.declared.error.Refused.{Refused}
use Rattle.wtransport_proto.specs.declared.error.Refused.TheVariants.{Code, Memory}
use Rattle.wtransport_proto.specs.Content.{Content}
use Rattle.wtransport_proto.specs.Field.{Field}
use Rattle.wtransport_proto.specs.Front.{Front, Framed, Unknown, BadId, TooBig, Short, front}
use Rattle.wtransport_proto.specs.Rule.{RemoteBi}
use Rattle.wtransport_proto.specs.Run.{Ending, Open, H3, MayGoOn, skip_unknown, run}
use Rattle.wtransport_proto.specs.SessionRequest.{request_in}

-- the line of a field
abbrev pub field_line : Field → List ℕ
field_line field = codes "FIELD " ++ field.0 ++ codes "=" ++ field.1 ++ codes "\n"

-- the lines of a header map, followed by the ending
abbrev pub fields_listing : List Field → Ending → ListingText
fields_listing fields ending = with_ending (flat_map field_line fields) ending

-- the listing of a decoded request with this many bytes after its frame, or of the error code (a
-- request in a frame never fails for lack of memory)
abbrev pub result_listing : Result (List Field) Refused → ℕ → ListingText
result_listing (Ok fields) rest = fields_listing fields (Open rest)
result_listing (Err (Code code)) rest = fields_listing [] (H3 code)
result_listing (Err Memory) rest = record { text = []; status = 4 }

-- the number of bytes after the first frame
abbrev pub size_after : Front → ℕ
size_after (Framed f rest) = length rest
size_after (Unknown rest) = length rest
size_after (BadId rest) = length rest
size_after (TooBig rest) = length rest
size_after Short = 0

-- the listing of the request in the first frame or, if there is no frame, of the ending of the
-- run
abbrev pub first_frame_listing : List Content → Ending → ℕ → ListingText
first_frame_listing [] ending rest = fields_listing [] ending
first_frame_listing (f ∷ frames) ending rest = result_listing (request_in f) rest

-- the listing of the request at the start of this input, which may continue
unfoldable pub request_listing : List ℕ → ListingText
request_listing input =
    let found = run RemoteBi true input MayGoOn in
    first_frame_listing found.frames found.ending (size_after (front (skip_unknown input)))
