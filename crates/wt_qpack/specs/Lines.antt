-- The lines of output.
use Rattle.std.specs.Prelude.{ℕ, Bool, true, false, List, [], ◌++◌, ◌∷◌, Option, Some, None, Result, Ok, Err, codes, map}
use Rattle.std.specs.Fmt.{decimal}
use Rattle.hex.specs.Hex.{encode_lower}
use Rattle.wt_qpack.specs.declared.command.Field as command
use Rattle.wtp_qpack.specs.Field.{Field}
use Rattle.wtp_dynamic.specs.declared.error.EncoderStreamError.{EncoderStreamError}
use Rattle.wtp_dynamic.specs.declared.error.DecoderStreamError.{DecoderStreamError}
use Rattle.wtp_dynamic.specs.Faults.{encoder_stream_code, decoder_stream_code}

-- bytes in hexadecimal; no bytes are a hyphen
abbrev pub bytes_text : List ℕ → List ℕ
bytes_text [] = codes "-"
bytes_text (byte ∷ rest) = encode_lower (byte ∷ rest)

abbrev pub fault_line : ℕ → List ℕ
fault_line code = codes "fault " ++ decimal code ++ codes "\n"

-- the line of an error; a failed allocation has no code and no line
abbrev pub error_line : Option ℕ → List ℕ
error_line None = []
error_line (Some code) = fault_line code

-- the line of a capacity, which was set by an instruction or not
abbrev pub capacity_line : Bool → List ℕ → List ℕ
capacity_line true instruction = codes "set " ++ bytes_text instruction ++ codes "\n"
capacity_line false instruction = codes "unset\n"

abbrev pub sent_line : (instructions section : List ℕ) → List ℕ
sent_line instructions section =
    codes "sent " ++ bytes_text instructions ++ codes " " ++ bytes_text section ++ codes "\n"

abbrev pub known_line : ℕ → List ℕ
known_line known = codes "known " ++ decimal known ++ codes "\n"

abbrev pub count_line : (count held : ℕ) → List ℕ
count_line count held = codes "count " ++ decimal count ++ codes " " ++ decimal held ++ codes "\n"

-- what was read of the decoder stream, and of the encoder stream
abbrev pub heard_line : Result (Unit {0}) DecoderStreamError → (known : ℕ) → List ℕ
heard_line (Ok _) known = known_line known
heard_line (Err e) known = error_line (decoder_stream_code e)

abbrev pub read_line : Result (Unit {0}) EncoderStreamError → (count held : ℕ) → List ℕ
read_line (Ok _) count held = count_line count held
read_line (Err e) count held = error_line (encoder_stream_code e)

abbrev pub blocked_line : ℕ → List ℕ
blocked_line required = codes "blocked " ++ decimal required ++ codes "\n"

abbrev pub told_line : List ℕ → List ℕ
told_line bytes = codes "told " ++ bytes_text bytes ++ codes "\n"

-- a field of a section, which is never indexed or is
abbrev pub never_text : Bool → List ℕ
never_text true = codes ":n"
never_text false = []

abbrev pub field_text : (name value : List ℕ) → Bool → List ℕ
field_text name value never =
    codes " " ++ bytes_text name ++ codes ":" ++ bytes_text value ++ never_text never

-- the fields of a command as a list, and the line of its section
abbrev pub list_in : List command.Field → List Field
list_in fields = map (λ field. (field.name.items, field.value.items)) fields

abbrev pub section_line : List ℕ → List ℕ
section_line section = codes "section " ++ bytes_text section ++ codes "\n"
