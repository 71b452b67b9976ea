-- The sections that are sent are never malformed to the receiver.
use Rattle.std.proofs.Common.{◌≡◌, ℕ, nat_lt, Bool, true, false, List, Some, IsOk, Result, Ok, Err, refl, sym, ap, ◌∙◌}
use Rattle.wtp_qpack.specs.Field.{Field}
use Rattle.wtp_messages.specs.declared.content.Content.{Content}
use Rattle.wtp_messages.specs.declared.malformed.Malformed.{Malformed}
use Rattle.wtp_messages.specs.declared.message.Message.{Message}
use Rattle.wtp_messages.specs.declared.message.Role.{Role}
use Rattle.wtp_messages.specs.declared.message.Role.TheVariants as role
use Rattle.wtp_messages.specs.declared.message.Section.{Section}
use Rattle.wtp_messages.specs.declared.message.Section.TheVariants as found
use Rattle.wtp_messages.specs.declared.message.Stage.{Stage}
use Rattle.wtp_messages.specs.declared.message.Stage.TheVariants as stage
use Rattle.wtp_messages.specs.declared.response.Asked.{Asked}
use Rattle.wtp_messages.specs.declared.response.Response.{Response}
use Rattle.wtp_messages.specs.declared.section.SectionKind.TheVariants as section
use Rattle.wtp_messages.specs.Content.{content_of}
use Rattle.wtp_messages.specs.Length.{content_length}
use Rattle.wtp_messages.specs.Message.{with_head, is_interim, RequestComes, ResponseComes, TrailersCome, HeadComes, SectionComes}
use Rattle.wtp_messages.specs.Request.{request_breaks}
use Rattle.wtp_messages.specs.Response.{response_breaks, expected, IsResponse}
use Rattle.wtp_messages.specs.Section.{section_breaks}
use Rattle.wtp_sending.specs.Sent.{Takes}

-- the result is a section and leads there
pub record Agree (result : Result Section Malformed) (n new : Message) : Type 0 where
  pub ok : IsOk result
  pub same : n ≡ new

pub both : {A : Type 0} (b : Bool) → b ≡ true → b ≡ false → A
both b t f = absurd cc

some_is : (x y : ℕ) → Some x ≡ Some y → x ≡ y
some_is x y h = cc

request_agrees : (extended : Bool) (m : Message) (fields : List Field) (first : Section) (new : Message) (result : Result Section Malformed) (n : Message) → RequestComes extended m fields (Ok first) new → RequestComes extended m fields result n → Agree result n new
request_agrees extended m fields (found.Request a) new (Ok (found.Request b)) n (x, p) (y, q) =
    let same : b.content ≡ a.content = sym y.content ∙ x.content in
    record { ok = refl; same = q ∙ ap (λ (c : Content). with_head m c) same ∙ sym p }
request_agrees extended m fields (found.Request a) new (Ok (found.Interim b)) n h k = absurd k
request_agrees extended m fields (found.Request a) new (Ok (found.Response b)) n h k = absurd k
request_agrees extended m fields (found.Request a) new (Ok found.Trailers) n h k = absurd k
request_agrees extended m fields (found.Request a) new (Err rule) n (x, p) (y, q) = both (request_breaks extended fields rule) y (x.well_formed rule)
request_agrees extended m fields (found.Interim a) new result n h k = absurd h
request_agrees extended m fields (found.Response a) new result n h k = absurd h
request_agrees extended m fields found.Trailers new result n h k = absurd h

pub same_status : (asked : Asked) (fields : List Field) (a b : Response) → IsResponse asked fields a → IsResponse asked fields b → b.status ≡ a.status
same_status asked fields a b x y = some_is b.status a.status (sym y.status ∙ x.status)

same_content : (asked : Asked) (fields : List Field) (a b : Response) → IsResponse asked fields a → IsResponse asked fields b → b.content ≡ a.content
same_content asked fields a b x y =
    sym y.content
    ∙ ap (λ (s : ℕ). content_of (expected asked s (content_length fields))) (same_status asked fields a b x y)
    ∙ x.content

same_interim : (asked : Asked) (fields : List Field) (a b : Response) → IsResponse asked fields a → IsResponse asked fields b → is_interim b ≡ is_interim a
same_interim asked fields a b x y = ap (λ (s : ℕ). nat_lt s 200) (same_status asked fields a b x y)

response_agrees : (asked : Asked) (m : Message) (fields : List Field) (first : Section) (new : Message) (result : Result Section Malformed) (n : Message) → ResponseComes asked m fields (Ok first) new → ResponseComes asked m fields result n → Agree result n new
response_agrees asked m fields (found.Request a) new result n h k = absurd h
response_agrees asked m fields (found.Interim a) new (Ok (found.Request b)) n h k = absurd k
response_agrees asked m fields (found.Interim a) new (Ok (found.Interim b)) n (x, i, p) (y, j, q) = record { ok = refl; same = q ∙ sym p }
response_agrees asked m fields (found.Interim a) new (Ok (found.Response b)) n (x, i, p) (y, j, q) = both (is_interim b) (same_interim asked fields a b x y ∙ i) j
response_agrees asked m fields (found.Interim a) new (Ok found.Trailers) n h k = absurd k
response_agrees asked m fields (found.Interim a) new (Err rule) n (x, i, p) (y, q) = both (response_breaks asked fields rule) y (x.well_formed rule)
response_agrees asked m fields (found.Response a) new (Ok (found.Request b)) n h k = absurd k
response_agrees asked m fields (found.Response a) new (Ok (found.Interim b)) n (x, i, p) (y, j, q) = both (is_interim b) j (same_interim asked fields a b x y ∙ i)
response_agrees asked m fields (found.Response a) new (Ok (found.Response b)) n (x, i, p) (y, j, q) = record { ok = refl; same = q ∙ ap (λ (c : Content). with_head m c) (same_content asked fields a b x y) ∙ sym p }
response_agrees asked m fields (found.Response a) new (Ok found.Trailers) n h k = absurd k
response_agrees asked m fields (found.Response a) new (Err rule) n (x, i, p) (y, q) = both (response_breaks asked fields rule) y (x.well_formed rule)
response_agrees asked m fields found.Trailers new result n h k = absurd h

trailers_agree : (m : Message) (fields : List Field) (first : Section) (new : Message) (result : Result Section Malformed) (n : Message) → TrailersCome m fields (Ok first) new → TrailersCome m fields result n → Agree result n new
trailers_agree m fields (found.Request a) new result n h k = absurd h
trailers_agree m fields (found.Interim a) new result n h k = absurd h
trailers_agree m fields (found.Response a) new result n h k = absurd h
trailers_agree m fields found.Trailers new (Ok (found.Request b)) n h k = absurd k
trailers_agree m fields found.Trailers new (Ok (found.Interim b)) n h k = absurd k
trailers_agree m fields found.Trailers new (Ok (found.Response b)) n h k = absurd k
trailers_agree m fields found.Trailers new (Ok found.Trailers) n (x, p) (y, q) = record { ok = refl; same = q ∙ sym p }
trailers_agree m fields found.Trailers new (Err rule) n (x, p) (y, q) = both (section_breaks section.Trailers fields rule) y (x rule)

head_agrees : (r : Role) (m : Message) (fields : List Field) (first : Section) (new : Message) (result : Result Section Malformed) (n : Message) → HeadComes r m fields (Ok first) new → HeadComes r m fields result n → Agree result n new
head_agrees (role.Request extended) m fields first new result n h k = request_agrees extended m fields first new result n h k
head_agrees (role.Response asked) m fields first new result n h k = response_agrees asked m fields first new result n h k

pub section_agrees : (s : Stage) (m : Message) (fields : List Field) (first : Section) (new : Message) (result : Result Section Malformed) (n : Message) → SectionComes s m fields (Ok first) new → SectionComes s m fields result n → Agree result n new
section_agrees stage.Head m fields first new result n h k = head_agrees m.role m fields first new result n h k
section_agrees stage.Body m fields first new result n h k = trailers_agree m fields first new result n h k
section_agrees stage.End m fields first new result n h k = trailers_agree m fields first new result n h k

pub taken : (m : Message) (fields : List Field) (first : Section) (new : Message) → SectionComes m.stage m fields (Ok first) new → Takes m fields new
taken m fields first new h = λ result n k. let a = section_agrees m.stage m fields first new result n h k in (a.ok, a.same)
