-- The list of what was recorded of a connection: a line for each direction of a stream, and for each
-- datagram.
use Rattle.std.specs.Prelude.{◌≡◌, ℕ, ◌+◌, ◌-◌, ◌<◌, ◌≤◌, ◌^◌, ◌/◌, ◌%◌, ◌==◌, ◌&&◌, ◌||◌, ◌⊎◌, Bool, true, false}
use Rattle.std.specs.Prelude.{List, [], ◌∷◌, ◌++◌, zero, suc, length, take, slice_index, codes}
use Rattle.std.specs.Prelude.{Option, Some, None, if◌then◌else◌}
use Rattle.std.specs.List.{list_any, before_first, after_first}
use Rattle.std.specs.Str.Parse.{IsNumeral, digits_value}
use Rattle.wt_inspect_connection.specs.declared.list.Sender.{Sender}
use Rattle.wt_inspect_connection.specs.declared.list.Sender.TheVariants as sender-is
use Rattle.wt_inspect_connection.specs.declared.list.Channel.{Channel}
use Rattle.wt_inspect_connection.specs.declared.list.Channel.TheVariants as channel-is
use Rattle.wt_inspect_connection.specs.declared.list.Entry.{Entry}
use Rattle.wt_inspect_connection.specs.declared.list.LineError.{LineError}
use Rattle.wt_inspect_connection.specs.declared.list.LineError.TheVariants as wrong-is
use Rattle.wt_inspect_connection.specs.declared.list.ListError.{ListError}
use Rattle.wt_inspect_connection.specs.declared.list.ListError.TheVariants as error-is

-- ---- streams

-- a stream is bidirectional: the second lowest bit of its ID is 0 (RFC 9000, section 2.1)
abbrev pub is_bidirectional : ℕ → Bool
is_bidirectional id = id / 2 % 2 == 0

-- this end opened the stream: the lowest bit is 0 for the client, and 1 for the server
abbrev pub has_opened : Sender → ℕ → Bool
has_opened sender-is.Client id = id % 2 == 0
has_opened sender-is.Server id = id % 2 == 1

-- this end may send there: on a unidirectional stream, only the end that opened it
abbrev pub may_send : Sender → Channel → Bool
may_send sender (channel-is.Stream id) = is_bidirectional id || has_opened sender id
may_send _ channel-is.Datagram = true

-- ---- entries

-- the two are the same end
abbrev pub is_same_sender : Sender → Sender → Bool
is_same_sender sender-is.Client sender-is.Client = true
is_same_sender sender-is.Server sender-is.Server = true
is_same_sender _ _ = false

-- both are the same stream
abbrev pub is_same_stream : Channel → Channel → Bool
is_same_stream (channel-is.Stream one) (channel-is.Stream other) = one == other
is_same_stream _ _ = false

-- both are the same direction of the same stream; each datagram is one of its own
abbrev pub is_same : Entry → Entry → Bool
is_same one other =
    is_same_stream one.channel other.channel && is_same_sender one.sender other.sender

-- the line of the first of these entries that is the same direction of the same stream, if one is
abbrev pub line_of_same : Entry → List Entry → Option ℕ
line_of_same entry [] = None
line_of_same entry (other ∷ rest) =
    if is_same entry other then Some other.line else line_of_same entry rest

-- ---- lines

abbrev pub is_blank : ℕ → Bool
is_blank c = c == 32

abbrev pub is_line_end : ℕ → Bool
is_line_end c = c == 10

abbrev pub is_tab : ℕ → Bool
is_tab c = c == 9

-- what comes before the first blank, which may be all, and after it, which may be nothing
abbrev pub first_word : List ℕ → List ℕ
first_word = before_first is_blank

abbrev pub more_words : List ℕ → List ℕ
more_words = after_first is_blank

-- a line without the carriage return at its end, if it has one there
abbrev pub without_return : List ℕ → List ℕ
without_return line =
    if slice_index line (length line - 1) == 13 then take (length line - 1) line else line

-- the first line without its end, which is a line feed, or a carriage return and a line feed; and the
-- text after it
abbrev pub first_line : List ℕ → List ℕ
first_line text = without_return (before_first is_line_end text)

abbrev pub more_lines : List ℕ → List ℕ
more_lines = after_first is_line_end

-- the word is `datagrams`, or the ID of a stream in decimal digits, which is below 2^62 (RFC 9000,
-- section 2.1)
abbrev pub IsChannel : Channel → List ℕ → Type 0
IsChannel channel-is.Datagram word = word ≡ codes "datagrams"
IsChannel (channel-is.Stream id) word =
    IsNumeral 10 word × (digits_value 10 word ≡ id) × (id < 2 ^ 62)

-- the word is the name of this end
abbrev pub IsSender : Sender → List ℕ → Type 0
IsSender sender-is.Client word = word ≡ codes "client"
IsSender sender-is.Server word = word ≡ codes "server"

-- the text begins with a blank or a tab
abbrev pub begins_blank : List ℕ → Bool
begins_blank [] = false
begins_blank (c ∷ _) = is_blank c || is_tab c

-- the three fields of a line
abbrev pub stream_in : List ℕ → List ℕ
stream_in = first_word

abbrev pub direction_in : List ℕ → List ℕ
direction_in line = first_word (more_words line)

abbrev pub file_in : List ℕ → List ℕ
file_in line = more_words (more_words line)

-- the line is this entry: a channel, a blank, who sent there, a blank, and the name of a file, which
-- does not begin with a blank or a tab
pub record IsLineOf (entry : Entry) (line : List ℕ) : Type 0 where
  pub channel : IsChannel entry.channel (stream_in line)
  pub sender : IsSender entry.sender (direction_in line)
  pub file : file_in line ≡ entry.file.now
  pub named : 0 < length entry.file.now
  pub near : begins_blank entry.file.now ≡ false

-- the line, which has this number, is an entry that may follow these
pub record AddsEntry (number : ℕ) (line : List ℕ) (old new : List Entry) : Type 0 where
  pub entry : Entry
  pub is : IsLineOf entry line
  pub numbered : entry.line ≡ number
  pub allowed : may_send entry.sender entry.channel ≡ true
  pub first : line_of_same entry old ≡ None
  pub added : new ≡ old ++ entry ∷ []

-- the line is empty, or an entry that follows those before it
abbrev pub AddsLine : ℕ → List ℕ → List Entry → List Entry → Type 0
AddsLine number line old new =
    ((length line ≡ 0) × (new ≡ old)) ⊎ AddsEntry number line old new

-- the first n lines of a text, which so many lines precede, follow these entries; these are the
-- entries then, and the rest of the text
abbrev pub Reads : ℕ → ℕ → List Entry → List ℕ → List Entry → List ℕ → Type 0
Reads zero before old text new rest = (new ≡ old) × (rest ≡ text)
Reads (suc n) before old text new rest =
    (mid : List Entry) × (0 < length text) × AddsLine (before + 1) (first_line text) old mid
    × Reads n (before + 1) mid (more_lines text) new rest

-- the lines of a text have these entries, each with the number of its line, counted from 1
abbrev pub IsList : List ℕ → List Entry → Type 0
IsList text entries = (n : ℕ) × Reads n 0 [] text entries []

-- ---- errors

-- the word that is wrong, if it is one
abbrev pub word_of : LineError → Option (List ℕ)
word_of (wrong-is.Stream word) = Some word.now
word_of (wrong-is.LargeId word) = Some word.now
word_of (wrong-is.Direction word) = Some word.now
word_of _ = None

abbrev pub word_in : ListError → Option (List ℕ)
word_in (error-is.Line n wrong) = word_of wrong
word_in _ = None

-- no channel is this word, or an end
abbrev pub IsNoChannel : List ℕ → Type 0
IsNoChannel word = (channel : Channel) → IsChannel channel word → ⊥

abbrev pub IsNoSender : List ℕ → Type 0
IsNoSender word = (sender : Sender) → IsSender sender word → ⊥

-- the word of a field is empty, or has a tab: there is not one blank alone between two fields
abbrev pub is_torn : List ℕ → Bool
is_torn [] = true
is_torn (c ∷ word) = list_any is_tab (c ∷ word)

-- why the first field of a line is wrong
abbrev pub IsWrongStream : LineError → List ℕ → Type 0
IsWrongStream wrong-is.Gap word = is_torn word ≡ true
IsWrongStream (wrong-is.LargeId shown) word =
    (shown.now ≡ word) × IsNumeral 10 word × (2 ^ 62 ≤ digits_value 10 word)
IsWrongStream (wrong-is.Stream shown) word =
    (shown.now ≡ word) × (is_torn word ≡ false) × (IsNumeral 10 word → ⊥)
IsWrongStream _ word = ⊥

-- why the second field of a line is wrong; nothing follows the first one, if the flag is set
abbrev pub IsWrongDirection : LineError → Bool → List ℕ → Type 0
IsWrongDirection wrong-is.NoDirection ends word = ends ≡ true
IsWrongDirection wrong-is.Gap ends word = (ends ≡ false) × (is_torn word ≡ true)
IsWrongDirection (wrong-is.Direction shown) ends word =
    (ends ≡ false) × (is_torn word ≡ false) × (shown.now ≡ word)
IsWrongDirection _ ends word = ⊥

-- why the third field of a line is wrong
abbrev pub IsWrongFile : LineError → List ℕ → Type 0
IsWrongFile wrong-is.NoFile file = length file ≡ 0
IsWrongFile wrong-is.Gap file = begins_blank file ≡ true
IsWrongFile _ file = ⊥

-- why a line is no entry: the first of its fields that is wrong
abbrev pub IsWrong : LineError → List ℕ → Type 0
IsWrong wrong line =
    (IsNoChannel (stream_in line) × IsWrongStream wrong (stream_in line))
    ⊎ ((IsNoSender (direction_in line) × (channel : Channel) × IsChannel channel (stream_in line)
    × IsWrongDirection wrong (length (more_words line) == 0) (direction_in line))
    ⊎ ((channel : Channel) × IsChannel channel (stream_in line) × (sender : Sender)
    × IsSender sender (direction_in line) × IsWrongFile wrong (file_in line)))

-- no entry is this line
abbrev pub IsNoEntry : List ℕ → Type 0
IsNoEntry line = (entry : Entry) → IsLineOf entry line → ⊥

-- why a line, which has this number, is no entry that may follow these
abbrev pub FailsAt : ℕ → List ℕ → List Entry → ListError → Type 0
FailsAt number line old (error-is.Line n wrong) =
    (n ≡ number) × (0 < length line) × IsNoEntry line × IsWrong wrong line
FailsAt number line old (error-is.NotSent n) =
    (n ≡ number) × ((entry : Entry) × IsLineOf entry line
    × (may_send entry.sender entry.channel ≡ false))
FailsAt number line old (error-is.Twice n first) =
    (n ≡ number) × ((entry : Entry) × IsLineOf entry line
    × (may_send entry.sender entry.channel ≡ true) × (line_of_same entry old ≡ Some first))
FailsAt number line old error-is.Memory = Unit {0}
FailsAt number line old error-is.Empty = ⊥

-- the lines before one are entries, and that one is not
abbrev pub BreaksAt : List ℕ → ListError → Type 0
BreaksAt text error =
    (n : ℕ) × (entries : List Entry) × (rest : List ℕ) × Reads n 0 [] text entries rest
    × (0 < length rest) × FailsAt (n + 1) (first_line rest) entries error

-- why a text is no list
abbrev pub ListFails : List ℕ → ListError → Type 0
ListFails text error-is.Empty = IsList text []
ListFails text error = BreaksAt text error
