-- A message on its stream: header sections, content and trailers, in their order (RFC 9114, section
-- 4.1).
use Rattle.std.specs.Prelude.{◌≡◌, ℕ, nat_lt, Bool, true, false, List, Option, Some, Result, Ok, Err, ⊤}
use Rattle.wtp_qpack.specs.Field.{Field}
use Rattle.wtp_messages.specs.declared.section.SectionKind.TheVariants as section
use Rattle.wtp_messages.specs.declared.content.Content.{Content}
use Rattle.wtp_messages.specs.declared.malformed.Malformed.{Malformed}
use Rattle.wtp_messages.specs.declared.malformed.Malformed.TheVariants.{MissingHead}
use Rattle.wtp_messages.specs.declared.response.Asked.{Asked}
use Rattle.wtp_messages.specs.declared.response.Response.{Response}
use Rattle.wtp_messages.specs.declared.message.Message.{Message}
use Rattle.wtp_messages.specs.declared.message.Role.{Role}
use Rattle.wtp_messages.specs.declared.message.Role.TheVariants as role
use Rattle.wtp_messages.specs.declared.message.Stage.{Stage}
use Rattle.wtp_messages.specs.declared.message.Stage.TheVariants as stage
use Rattle.wtp_messages.specs.declared.message.Section.{Section}
use Rattle.wtp_messages.specs.declared.message.Section.TheVariants as found
use Rattle.wtp_messages.specs.Section.{section_breaks, IsSection}
use Rattle.wtp_messages.specs.Content.{content_of, complete}
use Rattle.wtp_messages.specs.Request.{request_breaks, IsRequest}
use Rattle.wtp_messages.specs.Response.{response_breaks, IsResponse}

-- a message of which nothing has come
abbrev pub message_of : Role → Message
message_of r = record { role = r; stage = stage.Head; content = content_of (Some 0) }

-- no header section but those of interim responses came
abbrev pub is_head_stage : Stage → Bool
is_head_stage stage.Head = true
is_head_stage other = false

-- the message after its head, which announces this content
abbrev pub with_head : Message → Content → Message
with_head m content = record { role = m.role; stage = stage.Body; content = content }

-- the message after its trailers
abbrev pub with_trailers : Message → Message
with_trailers m = record { role = m.role; stage = stage.End; content = m.content }

-- the response is interim
abbrev pub is_interim : Response → Bool
is_interim response = nat_lt response.status 200

-- The section of a message that follows, and the message after it; a malformed one changes nothing.
abbrev pub RequestComes : Bool → Message → List Field → Result Section Malformed → Message → Type 0
RequestComes extended m fields (Ok (found.Request request)) n =
    IsRequest extended fields request × (n ≡ with_head m request.content)
RequestComes extended m fields (Ok _) n = ⊥
RequestComes extended m fields (Err rule) n =
    (request_breaks extended fields rule ≡ true) × (n ≡ m)

abbrev pub ResponseComes : Asked → Message → List Field → Result Section Malformed → Message → Type 0
ResponseComes asked m fields (Ok (found.Interim response)) n =
    IsResponse asked fields response × (is_interim response ≡ true) × (n ≡ m)
ResponseComes asked m fields (Ok (found.Response response)) n =
    IsResponse asked fields response
    × (is_interim response ≡ false)
    × (n ≡ with_head m response.content)
ResponseComes asked m fields (Ok _) n = ⊥
ResponseComes asked m fields (Err rule) n =
    (response_breaks asked fields rule ≡ true) × (n ≡ m)

abbrev pub TrailersCome : Message → List Field → Result Section Malformed → Message → Type 0
TrailersCome m fields (Ok found.Trailers) n =
    IsSection section.Trailers fields × (n ≡ with_trailers m)
TrailersCome m fields (Ok _) n = ⊥
TrailersCome m fields (Err rule) n =
    (section_breaks section.Trailers fields rule ≡ true) × (n ≡ m)

-- the head of a message in this role
abbrev pub HeadComes : Role → Message → List Field → Result Section Malformed → Message → Type 0
HeadComes (role.Request extended) m fields r n = RequestComes extended m fields r n
HeadComes (role.Response asked) m fields r n = ResponseComes asked m fields r n

abbrev pub SectionComes : Stage → Message → List Field → Result Section Malformed → Message → Type 0
SectionComes stage.Head m fields r n = HeadComes m.role m fields r n
SectionComes stage.Body m fields r n = TrailersCome m fields r n
SectionComes stage.End m fields r n = TrailersCome m fields r n

-- the result of ending a message here
abbrev pub end_of : Stage → Option ℕ → Result ⊤ Malformed
end_of stage.Head left = Err MissingHead
end_of stage.Body left = complete left
end_of stage.End left = complete left
