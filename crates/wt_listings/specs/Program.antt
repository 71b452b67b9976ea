-- The arguments of the program, its faults and statuses, and what it writes.
use Rattle.std.specs.Prelude.{◌≡◌, ◌≢◌, ◌⊎◌, ℕ, ◌+◌, ◌≤◌, ◌<◌, List, [], ◌∷◌, ◌++◌, length, map, Option, IfSome, codes}
use Rattle.std.specs.Prelude.{String, string_bytes}
use Rattle.std.specs.Global.{Global}
use Rattle.std.specs.Io.KnownBytes.{Appends, Consumes, IsAtEnd}
use Rattle.std.specs.Str.Parse.{IsNumeral, digits_value}
use Rattle.wt_listings.specs.declared.listing.ListKind.{ListKind}
use Rattle.wt_listings.specs.declared.listing.ListKind.TheVariants.{BiRemote, BiLocal, Control}
use Rattle.wt_listings.specs.declared.program.arguments.Command.{Command}
use Rattle.wt_listings.specs.declared.program.arguments.Command.TheVariants.{Buffer, Stepped}
use Rattle.wt_listings.specs.declared.program.arguments.Command.TheVariants.{Request}
use Rattle.wt_listings.specs.declared.program.Fault.{Fault}
use Rattle.wt_listings.specs.declared.program.Fault.TheVariants.{Usage, InputTooLong, ReadFault}
use Rattle.wt_listings.specs.declared.program.Fault.TheVariants.{WriteFault, NoMemory}
use Rattle.wt_listings.specs.Lines.{ListingText, run_listing}
use Rattle.wt_listings.specs.Frames.{recorded_run}
use Rattle.wt_listings.specs.Stepped.{stepped_run}
use Rattle.wt_listings.specs.Request.{request_listing}

-- the status of a fault
abbrev pub fault_status : Fault → ℕ
fault_status Usage = 1
fault_status InputTooLong = 3
fault_status ReadFault = 3
fault_status WriteFault = 3
fault_status NoMemory = 4

-- the text of a fault
abbrev pub fault_text : Fault → List ℕ
fault_text Usage = codes "wt_frames: usage"
fault_text InputTooLong = codes "wt_frames: input too long"
fault_text ReadFault = codes "wt_frames: read fault"
fault_text WriteFault = codes "wt_frames: write fault"
fault_text NoMemory = codes "wt_frames: no memory"

-- the line of a fault
abbrev pub fault_line : Fault → List ℕ
fault_line fault = fault_text fault ++ codes "\n"

-- the arguments as texts
abbrev pub texts_of : List (String Global) → List (List ℕ)
texts_of arguments = map (λ argument. string_bytes argument) arguments

-- the name of a listing
abbrev pub kind_name : ListKind → List ℕ
kind_name BiRemote = codes "bi-remote"
kind_name BiLocal = codes "bi-local"
kind_name Control = codes "control"

-- the argument writes this number of bytes, from 1 to 1048576, in decimal digits and nothing else
pub record WritesSize (argument : List ℕ) (k : ℕ) : Type 0 where
  pub digits : IsNumeral 10 argument
  pub value : k ≡ digits_value 10 argument
  pub some : 1 ≤ k
  pub few : k ≤ 1048576

-- the arguments name this command; none, and "buffer" alone, name the listing of BiRemote
abbrev pub Names : List (List ℕ) → Command → Type 0
Names arguments (Buffer kind) =
    (arguments ≡ codes "buffer" ∷ kind_name kind ∷ [])
    ⊎ ((kind ≡ BiRemote) × ((arguments ≡ []) ⊎ (arguments ≡ codes "buffer" ∷ [])))
Names arguments (Stepped k) =
    (size : List ℕ) × (arguments ≡ codes "stepped" ∷ size ∷ []) × WritesSize size k
Names arguments Request = arguments ≡ codes "request" ∷ []

-- no command has these arguments
abbrev pub NamesNone : List (List ℕ) → Type 0
NamesNone arguments = (command : Command) → Names arguments command → ⊥

-- a command has these arguments
abbrev pub NamesOne : List (List ℕ) → Type 0
NamesOne arguments = (command : Command) × Names arguments command

-- a stream gives at least one byte a call
abbrev pub CanList : Command → Type 0
CanList (Buffer kind) = Unit {0}
CanList (Stepped k) = 1 ≤ k
CanList Request = Unit {0}

-- what the command lists of this input
abbrev pub listing_of : Command → List ℕ → ListingText
listing_of (Buffer kind) input = run_listing (recorded_run kind input)
listing_of (Stepped k) input = run_listing (stepped_run input)
listing_of Request input = request_listing input

-- the bytes of an input or an output, where they are known
abbrev pub Known : Type 0
Known = Option (List ℕ)

-- the listing of this input was written, and its status returned, as far as the bytes of input and
-- output are known
abbrev pub Lists : Command → Known → Known → Known → ℕ → Type 0
Lists command input output written status = IfSome input (λ bytes.
    (status ≡ (listing_of command bytes).status)
    × (length bytes ≤ 1048576)
    × Appends output written (listing_of command bytes).text)

-- what a run of the program without a fault did
abbrev pub ListsArguments : List (List ℕ) → Known → Known → Known → ℕ → Type 0
ListsArguments arguments input output written status =
    (command : Command) × Names arguments command × Lists command input output written status

-- the arguments name a command, and all of the input was read and is short enough to be listed
abbrev pub ReadsWhole : List (List ℕ) → Known → Known → Type 0
ReadsWhole arguments input left =
    (command : Command) × Names arguments command
    × IfSome input (λ bytes. length bytes ≤ 1048576)
    × IsAtEnd left

-- as far as the bytes written are known, these were appended, or only the first of them
abbrev pub AppendsStart : List ℕ → Known → Known → Type 0
AppendsStart text old new =
    (start : List ℕ) × (rest : List ℕ) × (text ≡ start ++ rest) × Appends old new start

-- the arguments name a command, all of the input was read and is short enough to be listed, and of
-- its listing the first bytes were written, or all
abbrev pub WritesStart : List (List ℕ) → Known → Known → Known → Known → Type 0
WritesStart arguments input left output written =
    (command : Command) × Names arguments command
    × IfSome input (λ bytes. (length bytes ≤ 1048576)
    × AppendsStart (listing_of command bytes).text output written)
    × IsAtEnd left

-- ---- faults

-- as far as the bytes of the input are known, the first of them were taken, and their number has
-- this property
abbrev pub Takes : (ℕ → Type 0) → Known → Known → Type 0
Takes Number input left = (taken : List ℕ) × Consumes input left taken × Number (length taken)

-- bytes of the input were taken, no more than 1048576 and one piece of 4096
abbrev pub TakesSome : Known → Known → Type 0
TakesSome input left = Takes (λ n. (0 < n) × (n ≤ 1048576 + 4096)) input left

abbrev pub TakesTooMany : Known → Known → Type 0
TakesTooMany input left = Takes (λ n. (1048576 < n) × (n ≤ 1048576 + 4096)) input left

abbrev pub TakesFew : Known → Known → Type 0
TakesFew input left = Takes (λ n. n ≤ 1048576) input left

-- what was taken of an input that could not be read
abbrev pub ReadFails : Fault → Known → Known → Type 0
ReadFails Usage input left = ⊥
ReadFails InputTooLong input left = TakesTooMany input left
ReadFails ReadFault input left = TakesFew input left
ReadFails WriteFault input left = ⊥
ReadFails NoMemory input left = TakesSome input left

-- what holds after a run with this fault: memory is needed for bytes that were taken, and for the
-- listing of all of them
abbrev pub FailsBy : Fault → List (List ℕ) → Known → Known → Known → Known → Type 0
FailsBy Usage arguments input left output written = NamesNone arguments
FailsBy InputTooLong arguments input left output written =
    NamesOne arguments
    × TakesTooMany input left
    × IfSome input (λ bytes. 1048576 < length bytes)
FailsBy ReadFault arguments input left output written = NamesOne arguments × TakesFew input left
FailsBy WriteFault arguments input left output written =
    WritesStart arguments input left output written
FailsBy NoMemory arguments input left output written =
    NamesOne arguments × (TakesSome input left ⊎ ReadsWhole arguments input left)

-- A run ended with the status of a fault. Its line was appended to the errors and nothing else, or
-- only the start of the line. Unwritten says that nothing was written to the output.
pub record EndsFailed
    (arguments : List (List ℕ)) (input left output written errors reported : Known)
    (Unwritten : Type 0) (status : ℕ) : Type 0 where
  pub fault : Fault
  pub ends : status ≡ fault_status fault
  pub line : AppendsStart (fault_line fault) errors reported
  pub why : FailsBy fault arguments input left output written
  pub quiet : fault ≢ WriteFault → Unwritten
