-- The lines of a listing, and the exit status of the program.
use Rattle.std.specs.Prelude.{ℕ, List, [], ◌++◌, length, codes}
use Rattle.std.specs.Fmt.{decimal}
use Rattle.std.specs.List.{flat_map}
use Rattle.wtransport_proto.specs.declared.frame.FrameKind.TheVariants.{Data, Headers}
use Rattle.wtransport_proto.specs.declared.frame.FrameKind.TheVariants.{Settings, WebTransport, Exercise}
use Rattle.wtransport_proto.specs.Content.{Content, PlainOf, WebTransportOf}
use Rattle.wtransport_proto.specs.ErrorCodes.{name_of, code_number}
use Rattle.wtransport_proto.specs.Run.{Run, Ending, Open, H3, ImmediateFin, Reset, NotConnected}

-- the line of a frame: its kind and the length of its payload, or its session ID
abbrev pub line : Content → List ℕ
line (PlainOf Data payload) = codes "DATA " ++ decimal (length payload) ++ codes "\n"
line (PlainOf Headers payload) = codes "HEADERS " ++ decimal (length payload) ++ codes "\n"
line (PlainOf Settings payload) = codes "SETTINGS " ++ decimal (length payload) ++ codes "\n"
line (PlainOf WebTransport payload) = []
line (WebTransportOf id) = codes "WEBTRANSPORT " ++ decimal id ++ codes "\n"
line (PlainOf (Exercise number) payload) =
    codes "EXERCISE " ++ decimal number ++ codes " " ++ decimal (length payload) ++ codes "\n"

-- the last line: the number of bytes after the last frame, or the error code; none for a stream
-- that was reset or lost
abbrev pub last_line : Ending → List ℕ
last_line (Open rest) = codes "END " ++ decimal rest ++ codes "\n"
last_line (H3 code) =
    codes "FAULT " ++ name_of code ++ codes " " ++ decimal (code_number code) ++ codes "\n"
last_line ImmediateFin = codes "END 0\n"
last_line Reset = []
last_line NotConnected = []

-- the exit status for a listing with this ending
abbrev pub ending_status : Ending → ℕ
ending_status (Open rest) = 0
ending_status (H3 code) = 2
ending_status ImmediateFin = 0
ending_status Reset = 3
ending_status NotConnected = 3

-- the text of a listing and its exit status
pub record ListingText : Type 0 where
  pub text : List ℕ
  pub status : ℕ

-- the listing with these lines and the last line of this ending
abbrev pub with_ending : List ℕ → Ending → ListingText
with_ending lines ending =
    record { text = lines ++ last_line ending; status = ending_status ending }

-- the listing of a run
abbrev pub run_listing : Run → ListingText
run_listing r = with_ending (flat_map line r.frames) r.ending

-- the text of a run: all its lines
abbrev pub text_of : Run → List ℕ
text_of r = (run_listing r).text
