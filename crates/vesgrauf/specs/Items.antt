-- What is read of the peer's half of a stream, and told, item by item.
use Rattle.std.specs.Prelude.{ℕ, Bool, true, false, List, [], ◌∷◌, Option, None, Some}
use Rattle.wtp_qpack.specs.Field.{Field}
use Rattle.wtp_webtransport.specs.declared.event.HeadersKind.{HeadersKind}
use Rattle.wtp_webtransport.specs.declared.event.HeadersKind.TheVariants as headers
use Rattle.wtp_webtransport.specs.Events.{Told as Say}
use Rattle.wtp_webtransport.specs.Events as say
use Rattle.vesgrauf_stream.specs.declared.heard.Heard.{Heard}
use Rattle.vesgrauf_stream.specs.declared.reading.Found.{Found}
use Rattle.vesgrauf_stream.specs.declared.reading.Found.TheVariants as found
use Rattle.vesgrauf_stream.specs.Reading.{bytes_of, told_in as said_in}
use Rattle.vesgrauf.specs.declared.event.EventKind.{EventKind}
use Rattle.vesgrauf.specs.declared.event.EventKind.TheVariants as event
use Rattle.vesgrauf.specs.declared.event.Tunnel.{Tunnel}
use Rattle.vesgrauf.specs.declared.event.Tunnel.TheVariants as tunnel

-- Byte: one of content, or of a stream of a session. Section: a field section of a message, of this kind (RFC 9114, section
-- 4.1). Asks: the header section of a request for a session (draft-ietf-webtrans-http3-02, section 3.3). Drains: the peer
-- asks to end the session soon. Ends: the end of the half.
pub data Item : Type 0 where
  Byte : ℕ → Item
  Section : HeadersKind → List Field → Item
  Asks : List Field → Item
  Drains : Item
  Ends : Item

-- bytes, one after the other
abbrev pub content : List ℕ → List Item
content [] = []
content (b ∷ bytes) = Byte b ∷ content bytes

-- the items that the layer below says
abbrev pub items_of : Say → List Item
items_of (say.Data bytes) = content bytes
items_of (say.StreamData bytes) = content bytes
items_of (say.Headers kind fields) = Section kind fields ∷ []
items_of (say.SessionRequested fields) = Asks fields ∷ []
items_of (say.SessionReady status fields) = Section (headers.Response status) fields ∷ []
items_of (say.Rejected status fields) = Section (headers.Response status) fields ∷ []
items_of say.Draining = Drains ∷ []
items_of say.End = Ends ∷ []
items_of other = []

-- a CONNECT request, for this
abbrev pub asked_by : Tunnel → List Field → Item
asked_by tunnel.Session fields = Asks fields
asked_by tunnel.Other fields = Section headers.Request fields

-- the items that an event tells
abbrev pub items_told : EventKind → List Item
items_told (event.Data bytes) = content (bytes_of bytes)
items_told (event.Request fields) = Section headers.Request fields ∷ []
items_told (event.Connect tunnel fields) = asked_by tunnel fields ∷ []
items_told (event.Interim status fields) = Section (headers.Interim status) fields ∷ []
items_told (event.Response status fields) = Section (headers.Response status) fields ∷ []
items_told (event.Trailers fields) = Section headers.Trailers fields ∷ []
items_told event.Draining = Drains ∷ []
items_told event.End = Ends ∷ []
items_told other = []

-- the end is among them
abbrev pub has_end : List Item → Bool
has_end [] = false
has_end (Ends ∷ items) = true
has_end (i ∷ items) = has_end items

-- those that were heard
abbrev pub items_in : Heard → List Item
items_in h = items_of (said_in h)

abbrev pub items_by : Option Heard → List Item
items_by None = []
items_by (Some h) = items_in h

abbrev pub items_found : Found → List Item
items_found (found.Heard h) = items_in h
items_found found.Again = []

abbrev pub items_if : Option Found → List Item
items_if None = []
items_if (Some f) = items_found f
