-- What the arguments of the program mean.
use Rattle.std.specs.Prelude.{◌≡◌, ℕ, Bool, true, false, ◌&&◌, not, if◌then◌else◌, List, codes, Option, Some, None}
use Rattle.std.specs.Str.{bytes_eq}
use Rattle.clap.specs.Matches.{one_text}
use Rattle.clap.specs.declared.parser.matches.Found.{Found}
use Rattle.wt_inspection.specs.declared.reading.Recorded.{Recorded}
use Rattle.wt_inspection.specs.declared.reading.Recorded.TheVariants as recorded-is
use Rattle.wt_inspect.specs.declared.arguments.Output.{Output}
use Rattle.wt_inspect.specs.declared.arguments.Output.TheVariants as output-is

-- the name of a kind of recording
abbrev pub kind_name : Recorded → List ℕ
kind_name recorded-is.Bi = codes "bi"
kind_name recorded-is.Response = codes "response"
kind_name recorded-is.SessionResponse = codes "session-response"
kind_name recorded-is.Uni = codes "uni"
kind_name recorded-is.Datagram = codes "datagram"
kind_name recorded-is.Capsules = codes "capsules"
kind_name recorded-is.Section = codes "section"
kind_name recorded-is.Settings = codes "settings"

-- a name, if it is that of a kind, is the name of this one
abbrev pub Names : Option (List ℕ) → Recorded → Type 0
Names given found = (kind : Recorded) → given ≡ Some (kind_name kind) → found ≡ kind

-- a name, if there is one, is that of a connection
abbrev pub names_connection : Option (List ℕ) → Bool
names_connection (Some name) = bytes_eq name (codes "connection")
names_connection None = false

-- the format of the output, by the flags for JSON and HTML
abbrev pub output_of : Bool → Bool → Output
output_of true html = output-is.Json
output_of false true = output-is.Html
output_of false false = output-is.Text

-- text has colours, by the value of the option: always, never, or if the output is for people
abbrev pub has_colors : Option (List ℕ) → Bool → Bool
has_colors None auto = auto
has_colors (Some when) auto =
    if bytes_eq when (codes "always") then true else
    if bytes_eq when (codes "never") then false else auto

-- the output is for people: a terminal that is not dumb, of a person who wants colours
abbrev pub is_for_people : Bool → Bool → Bool → Bool
is_for_people terminal unwanted dumb = terminal && not unwanted && not dumb

-- a flag is set if its value is "true", and not if that is "false" or there is none
pub record IsFlag (found : Found) (name : List ℕ) (flag : Bool) : Type 0 where
  pub none : one_text found name ≡ None → flag ≡ false
  pub set : one_text found name ≡ Some (codes "true") → flag ≡ true
  pub unset : one_text found name ≡ Some (codes "false") → flag ≡ false
