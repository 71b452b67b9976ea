-- The states of what is sent in numbers of a fixed size, as a caller in C keeps them: 1 and 0 for true
-- and false, and 0 where a variant has no number. The variants of a place are counted from 1 on, so that
-- a struct of zeros is that of no state.
use Rattle.std.specs.Prelude.{◌≡◌, ℕ, ◌<◌, ◌^◌, ◌==◌, if◌then◌else◌, Bool, true, false, Option, Some, None}
use Rattle.wtp_core.specs.Ids.{IsSession}
use Rattle.wtp_frames.specs.declared.endpoint.Side.{Side}
use Rattle.wtp_frames.specs.Words.{flag_number, flag_at, side_number, side_at, optional_words, optional_at}
use Rattle.wtp_messages.specs.Words.{role_number, role_at, message_words, message_at}
use Rattle.wtp_sending.specs.declared.control.ControlSending.{ControlSending}
use Rattle.wtp_sending.specs.declared.control.words.ControlWords.{ControlWords}
use Rattle.wtp_sending.specs.declared.peer.Peer.{Peer}
use Rattle.wtp_sending.specs.declared.message.Place.{Place}
use Rattle.wtp_sending.specs.declared.message.Place.TheVariants as place
use Rattle.wtp_sending.specs.declared.message.Sending.{Sending}
use Rattle.wtp_sending.specs.declared.message.words.PeerWords.{PeerWords}
use Rattle.wtp_sending.specs.declared.message.words.PlaceWords.{PlaceWords}
use Rattle.wtp_sending.specs.declared.message.words.SendingWords.{SendingWords}

-- ---- the words of the stream of a message

abbrev pub peer_words : Peer → PeerWords
peer_words p = record {
  max_section = p.max_section;
  extended_connect = flag_number p.extended_connect;
  sessions = flag_number p.sessions;
  reserved = 0;
  reserved_half = 0;
}

abbrev pub bare_place : ℕ → PlaceWords
bare_place k = record { kind = k; interims = 0; session = 0 }

abbrev pub place_words : Place → PlaceWords
place_words (place.Head k) = record { kind = 1; interims = k; session = 0 }
place_words place.Content = bare_place 2
place_words (place.Connecting session) =
    record { kind = 3; interims = 0; session = flag_number session }
place_words place.Tunnel = bare_place 4
place_words place.Session = bare_place 5
place_words place.Trailers = bare_place 6
place_words place.Ended = bare_place 7

abbrev pub sending_words : Sending → SendingWords
sending_words s = record {
  id = s.id;
  owed = s.owed;
  message = message_words s.message;
  peer = peer_words s.peer;
  place = place_words s.place;
  role = role_number s.role;
  reserved = 0;
}

-- the ID of the stream of a request, as of every state
abbrev pub IsOfRequest : ℕ → Type 0
IsOfRequest id = (id < 2 ^ 62) × IsSession id

-- ---- the state of words, if they are those of one

abbrev pub peer_at : PeerWords → Peer
peer_at w = record {
  extended_connect = flag_at w.extended_connect;
  sessions = flag_at w.sessions;
  max_section = w.max_section;
}

abbrev pub place_at : PlaceWords → Place
place_at w =
    if w.kind == 1 then place.Head w.interims
    else (if w.kind == 2 then place.Content
    else (if w.kind == 3 then place.Connecting (flag_at w.session)
    else (if w.kind == 4 then place.Tunnel
    else (if w.kind == 5 then place.Session
    else (if w.kind == 6 then place.Trailers
    else place.Ended)))))

abbrev pub sending_at : SendingWords → Sending
sending_at w = record {
  id = w.id;
  role = role_at w.role;
  peer = peer_at w.peer;
  message = message_at w.message;
  place = place_at w.place;
  owed = w.owed;
}

-- ---- the control stream

-- before SETTINGS, and after them
abbrev pub settled_number : Bool → ℕ
settled_number false = 1
settled_number true = 2

abbrev pub settled_at : ℕ → Bool
settled_at n = n == 2

abbrev pub control_words : ControlSending → ControlWords
control_words c = record {
  goaway = optional_words c.goaway;
  to = side_number c.to;
  settled = settled_number c.settled;
  reserved = 0;
  reserved_half = 0;
}

abbrev pub control_at : ControlWords → ControlSending
control_at w = record {
  to = side_at w.to;
  settled = settled_at w.settled;
  goaway = optional_at w.goaway;
}

-- the ID of a GOAWAY, as of every state
abbrev pub IsGoAway : Option ℕ → Type 0
IsGoAway None = Unit {0}
IsGoAway (Some id) = id < 2 ^ 62
