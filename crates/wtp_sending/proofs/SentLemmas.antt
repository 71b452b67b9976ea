-- What each call wrote is read as it was meant.
use Rattle.std.proofs.Common.{◌≡◌, ℕ, ◌+◌, ◌-◌, ◌^◌, ◌<◌, ◌≤◌, Bool, true, false, cond, ltb, eqb, List, [], ◌∷◌, ◌++◌, length, Some, Result, Ok, Err, refl, sym, ap, subst, ◌∙◌, arith, lit<, length-append}
use Rattle.std.proofs.lemmas.Bool.{ltb-true, ltb-false, eqb-false}
use Rattle.std.specs.Int.{w32, to_be_bytes}
use Rattle.wtp_core.specs.Varint.{shortest}
use Rattle.wtp_core.proofs.EncodingLemmas.{encoding_not_empty}
use Rattle.wtp_core.proofs.LeastLemmas.{at_most_8}
use Rattle.wtp_core.proofs.ShortLemmas.{shortest-encodes}
use Rattle.wtp_wire.specs.CloseSession.{close_wire}
use Rattle.wtp_qpack.specs.Field.{Field}
use Rattle.wtp_qpack.specs.FieldSection.{shortest_section}
use Rattle.wtp_messages.specs.declared.message.Role.{Role}
use Rattle.wtp_messages.specs.declared.message.Role.TheVariants as role
use Rattle.wtp_messages.specs.declared.message.Section.{Section}
use Rattle.wtp_messages.specs.declared.message.Section.TheVariants as found
use Rattle.wtp_messages.specs.declared.response.Asked.TheVariants as asked
use Rattle.wtp_messages.specs.declared.malformed.Malformed.TheVariants.{ContentTooLong}
use Rattle.wtp_messages.specs.declared.malformed.Malformed.{Malformed}
use Rattle.wtp_messages.specs.Message.{end_of}
use Rattle.wtp_messages.specs.Content.{fits}
use Rattle.wtp_messages.specs.Request.{is_connect, asks_for_session}
use Rattle.wtp_messages.specs.Response.{is_success}
use Rattle.wtp_frames.specs.declared.endpoint.Endpoint.{Endpoint}
use Rattle.wtp_frames.specs.declared.reader.Place.{Place as Reading}
use Rattle.wtp_frames.specs.declared.reader.Place.TheVariants as reading
use Rattle.wtp_frames.specs.declared.reader.Reader.{Reader}
use Rattle.wtp_frames.specs.Grammar.{section_item}
use Rattle.wtp_frames.specs.Interim.{after_interim}
use Rattle.wtp_frames.specs.Reading.{by_end}
use Rattle.wtp_frames.specs.Run.{run, preceded}
use Rattle.wtp_frames.proofs.InterimLemmas.{no_section, one_more}
use Rattle.wtp_sending.specs.declared.error.SendError.{SendError}
use Rattle.wtp_sending.specs.declared.error.SendError.TheVariants as error
use Rattle.wtp_sending.specs.declared.message.Place.{Place}
use Rattle.wtp_sending.specs.declared.message.Place.TheVariants.{Head, Content, Connecting, Tunnel, Session, Trailers, Ended}
use Rattle.wtp_sending.specs.declared.message.Sending.{Sending}
use Rattle.wtp_sending.specs.Message.{SendsHead, SendsTrailers, IsAllowed, interims_of, after_response, after_head, data_head, announces, with_content, with_data, data_at, after_data, after_bytes, ended, by_rule, end_at, after_end, opens, placed}
use Rattle.wtp_sending.specs.Encoded.{section_wire, SendsHeadAs, SendsTrailersAs, ReadsSection}
use Rattle.wtp_sending.specs.Session.{in_session, drain_wire, close_data, by_reason, after_close}
use Rattle.wtp_sending.specs.Writing.{two_numbers}
use Rattle.wtp_sending.specs.Sent.{Sent, SentHeaders, SentDataHead, SentBytes, SentTrailers, SentDrain, SentClose, Connected, SentEnd, Leads, bytes_of, items_of, reads_data, IsInBody, IsAt, IsAfter, IsRead}
use Rattle.wtp_sending.proofs.ReadLemmas.{head_read, trailers_read, data_head_read, data_read, bytes_read}

-- ---- conditions of a verdict

pub ok_then : {A E : Type 0} (b : Bool) (x : Result A E) (e : E) (y : A) → cond b x (Err e) ≡ Ok y → (b ≡ true) × (x ≡ Ok y)
ok_then true x e y h = (refl, h)
ok_then false x e y h = absurd cc

pub ok_else : {A E : Type 0} (b : Bool) (x : Result A E) (e : E) (y : A) → cond b (Err e) x ≡ Ok y → (b ≡ false) × (x ≡ Ok y)
ok_else true x e y h = absurd cc
ok_else false x e y h = (refl, h)

abbrev ok_state : Sending → Result Sending SendError
ok_state s = Ok s

ok_is : (x y : Sending) → ok_state x ≡ Ok y → x ≡ y
ok_is x y h = cc

-- ---- places

at_after : (e : Endpoint) (place : Place) (owed : ℕ) (r : Reader) → IsAt e place owed r → IsAfter e place owed r
at_after e (Head k) owed r (is, none) = (none, λ c. ap after_interim is ∙ no_section e k reading.BeforeHeaders false 0 refl)
at_after e Content owed r h = h
at_after e (Connecting session) owed r h = h
at_after e Tunnel owed r h = h
at_after e Session owed r h = h
at_after e Trailers owed r h = h
at_after e Ended owed r h = h

read_at : (e : Endpoint) (x : Sent) (new : Sending) (r next : Reader) (place : Place) (owed : ℕ) → new.place ≡ place → new.owed ≡ owed → ((more : List ℕ) → run r (bytes_of x ++ more) ≡ preceded (items_of e.max_section x) (run next more)) → IsAfter e place owed next → IsRead e x new r
read_at e x new r next place owed p o gives at = record {
  next = next;
  gives = gives;
  at = subst (λ (q : Place). IsAfter e q new.owed next) (sym p) (subst (λ (n : ℕ). IsAfter e place n next) (sym o) at);
}

section_at : (e : Endpoint) (section : List ℕ) (new : Sending) (r next : Reader) (place : Place) (owed : ℕ) → new.place ≡ place → new.owed ≡ owed → ((more : List ℕ) → run r (section_wire section ++ more) ≡ preceded (section_item e.max_section section ∷ []) (run next more)) → IsAfter e place owed next → ReadsSection e section new r
section_at e section new r next place owed p o gives at = record {
  next = next;
  gives = gives;
  at = subst (λ (q : Place). IsAfter e q new.owed next) (sym p) (subst (λ (n : ℕ). IsAfter e place n next) (sym o) at);
}

in_body : (e : Endpoint) (k : ℕ) (place : Reading) (b : Bool) (owed : ℕ) → (0 < owed → b ≡ true) → IsInBody e place owed (reads_data e k place b owed)
in_body e k place b owed given = record { interims = k; streamed = b; is = refl; given = given }

none_owed : {A : Type 0} → 0 < 0 → A
none_owed h = absurd (omega arith)

empty_body : (e : Endpoint) (k : ℕ) (place : Reading) (b : Bool) → IsInBody e place 0 (reads_data e k place b 0)
empty_body e k place b = in_body e k place b 0 (λ h. none_owed h)

-- ---- the head

request_leads : (e : Endpoint) (k : ℕ) (b session : Bool) → IsAfter e (cond b (Connecting session) Content) 0 (reads_data e k reading.Body false 0)
request_leads e k true session = (empty_body e k reading.Body false, refl)
request_leads e k false session = empty_body e k reading.Body false

tunnel_leads : (e : Endpoint) (k : ℕ) (b : Bool) → IsAfter e (cond b Tunnel Content) 0 (reads_data e k reading.Body false 0)
tunnel_leads e k true = empty_body e k reading.Body false
tunnel_leads e k false = empty_body e k reading.Body false

session_leads : (e : Endpoint) (k : ℕ) (b : Bool) → IsAfter e (cond b Session Content) 0 (reads_data e k reading.Body false 0)
session_leads e k true = (empty_body e k reading.Body false, refl)
session_leads e k false = empty_body e k reading.Body false

response_leads : (e : Endpoint) (k : ℕ) (r : Role) (status : ℕ) → IsAfter e (after_response r status) 0 (reads_data e k reading.Body false 0)
response_leads e k (role.Request extended) status = empty_body e k reading.Body false
response_leads e k (role.Response asked.Head) status = empty_body e k reading.Body false
response_leads e k (role.Response asked.Connect) status = tunnel_leads e k (is_success (Some status))
response_leads e k (role.Response asked.Session) status = session_leads e k (is_success (Some status))
response_leads e k (role.Response asked.Other) status = empty_body e k reading.Body false

section_leads : (e : Endpoint) (s : Sending) (k : ℕ) (fields : List Field) (section : Section) → IsAllowed s.peer k fields section → IsAfter e (after_head s.role k fields section) 0 (reads_data e k reading.Body false 0)
section_leads e s k fields (found.Request request) a = request_leads e k (is_connect fields) (asks_for_session fields)
section_leads e s k fields (found.Interim response) a = (refl, λ c. one_more e k c a)
section_leads e s k fields (found.Response response) a = response_leads e k s.role response.status
section_leads e s k fields found.Trailers a = absurd a

-- in any section
pub head_sent : (e : Endpoint) (section : List ℕ) (fields : List Field) (old new : Sending) (r : Reader) → IsAt e old.place old.owed r → SendsHeadAs section old fields new → ReadsSection e section new r
head_sent e section fields old new r at h =
    let k : ℕ = interims_of old.place in
    let is : IsAt e (Head k) old.owed r = subst (λ (p : Place). IsAt e p old.owed r) h.at at in
    section_at e section new r (reads_data e k reading.Body false 0) (after_head old.role k fields h.head.found) 0
    (sym h.head.leads)
    (ap (λ (s : Sending). s.owed) h.others ∙ is.1)
    (λ more. ap (λ (x : Reader). run x (section_wire section ++ more)) is.0 ∙ head_read e k section more h.framed)
    (section_leads e old k fields h.head.found h.head.allowed)

pub tail_sent : (e : Endpoint) (section : List ℕ) (fields : List Field) (old new : Sending) (r : Reader) → IsAt e old.place old.owed r → SendsTrailersAs section old fields new → ReadsSection e section new r
tail_sent e section fields old new r at h =
    let is : IsInBody e reading.Body 0 r = subst (λ (n : ℕ). IsInBody e reading.Body n r) h.none (subst (λ (p : Place). IsAt e p old.owed r) h.at at) in
    section_at e section new r (reads_data e is.interims reading.AfterTrailers false 0) Trailers 0
    (ap (λ (s : Sending). s.place) h.others)
    (ap (λ (s : Sending). s.owed) h.others ∙ h.none)
    (λ more. ap (λ (x : Reader). run x (section_wire section ++ more)) is.is ∙ trailers_read e is.interims is.streamed section more h.framed)
    (empty_body e is.interims reading.AfterTrailers false, refl)

-- in a section of the static table alone
pub headers_sent : (e : Endpoint) (fields : List Field) (old new : Sending) (r : Reader) → IsAt e old.place old.owed r → SendsHead old fields new → IsRead e (SentHeaders fields) new r
headers_sent e fields old new r at h =
    let s = head_sent e (shortest_section fields) fields old new r at (record { at = h.at; fits = h.fits; framed = h.framed; head = h.head; others = h.others }) in
    record { next = s.next; gives = s.gives; at = s.at }

pub trailers_sent : (e : Endpoint) (fields : List Field) (old new : Sending) (r : Reader) → IsAt e old.place old.owed r → SendsTrailers old fields new → IsRead e (SentTrailers fields) new r
trailers_sent e fields old new r at h =
    let s = tail_sent e (shortest_section fields) fields old new r at (record { at = h.at; none = h.none; fits = h.fits; framed = h.framed; are = h.are; others = h.others }) in
    record { next = s.next; gives = s.gives; at = s.at }

-- ---- DATA

record DataSent (s : Sending) (n : ℕ) (new : Sending) : Type 0 where
  fits : n < 2 ^ 62
  none : s.owed ≡ 0
  some : 0 < n
  placed : with_data s.place s n ≡ Ok new

data_sent : (s : Sending) (n : ℕ) (new : Sending) → after_data s n ≡ Ok new → DataSent s n new
data_sent s n new h =
    let a = ok_then (ltb n (2 ^ 62)) (data_at s n) error.TooLarge new h in
    let b = ok_else (ltb 0 s.owed) (cond (eqb n 0) (Err error.EmptyData) (with_data s.place s n)) error.DataMissing new a.1 in
    let c = ok_else (eqb n 0) (with_data s.place s n) error.EmptyData new b.1 in
    record {
      fits = ltb-true n (2 ^ 62) a.0;
      none = omega (arith, ltb-false 0 s.owed b.0);
      some = above n (eqb-false n 0 c.0);
      placed = c.1;
    }
  where
    above : (m : ℕ) → (m ≡ 0 → ⊥) → 0 < m
    above m f = omega (arith, f)

data_in_body : (e : Endpoint) (n : ℕ) (place : Place) (new : Sending) (r : Reader) (is : IsInBody e reading.Body 0 r) → 0 < n → n < 2 ^ 62 → new.place ≡ place → new.owed ≡ n → IsAfter e place n (reads_data e (is.interims) reading.Body true n) → IsRead e (SentDataHead n) new r
data_in_body e n place new r is some fits p o at =
    read_at e (SentDataHead n) new r (reads_data e (is.interims) reading.Body true n) place n p o
    (λ more. ap (λ (x : Reader). run x (data_head n ++ more)) (is.is) ∙ data_head_read e (is.interims) n (is.streamed) more some fits)
    at

data_by_place : (e : Endpoint) (n : ℕ) (s new : Sending) (r : Reader) (place : Place) → s.place ≡ place → IsAt e place 0 r → with_data place s n ≡ Ok new → 0 < n → n < 2 ^ 62 → IsRead e (SentDataHead n) new r
data_by_place e n s new r (Head k) p at h some few = absurd cc
data_by_place e n s new r Content p at h some few =
    let counted : Sending = record s { message = with_content s.message n; owed = n } in
    let a = ok_then (fits s.message.content.left n) (ok_state counted) (error.Malformed ContentTooLong) new h in
    let is = ok_is counted new (a.1) in
    data_in_body e n Content new r at some few (ap (λ (x : Sending). x.place) (sym is) ∙ p) (ap (λ (x : Sending). x.owed) (sym is)) (in_body e (at.interims) reading.Body true n (λ _. refl))
data_by_place e n s new r (Connecting session) p at h some few = absurd cc
data_by_place e n s new r Tunnel p at h some few =
    let is = ok_is (announces s n) new h in
    data_in_body e n Tunnel new r at some few (ap (λ (x : Sending). x.place) (sym is) ∙ p) (ap (λ (x : Sending). x.owed) (sym is)) (in_body e (at.interims) reading.Body true n (λ _. refl))
data_by_place e n s new r Session p at h some few = absurd cc
data_by_place e n s new r Trailers p at h some few = absurd cc
data_by_place e n s new r Ended p at h some few = absurd cc

pub data_head_sent : (e : Endpoint) (n : ℕ) (old new : Sending) (r : Reader) → IsAt e old.place old.owed r → after_data old n ≡ Ok new → IsRead e (SentDataHead n) new r
data_head_sent e n old new r at h =
    let d = data_sent old n new h in
    data_by_place e n old new r old.place refl (subst (λ (m : ℕ). IsAt e old.place m r) d.none at) d.placed d.some d.fits

-- ---- bytes of DATA

bytes_in_body : (e : Endpoint) (bytes : List ℕ) (place : Place) (owed : ℕ) (new : Sending) (r : Reader) (is : IsInBody e reading.Body owed r) → 0 < length bytes → length bytes ≤ owed → new.place ≡ place → new.owed ≡ owed - length bytes → IsAfter e place (owed - length bytes) (reads_data e (is.interims) reading.Body true (owed - length bytes)) → IsRead e (SentBytes bytes) new r
bytes_in_body e bytes place owed new r is some few p o at =
    let given : is.streamed ≡ true = is.given (omega arith) in
    let same : r ≡ reads_data e (is.interims) reading.Body true owed = is.is ∙ ap (λ (b : Bool). reads_data e (is.interims) reading.Body b owed) given in
    read_at e (SentBytes bytes) new r (reads_data e (is.interims) reading.Body true (owed - length bytes)) place (owed - length bytes) p o
    (λ more. ap (λ (x : Reader). run x (bytes ++ more)) same ∙ bytes_read e (is.interims) owed bytes more few)
    at

bytes_by_place : (e : Endpoint) (bytes : List ℕ) (owed : ℕ) (new : Sending) (r : Reader) (place : Place) → IsAt e place owed r → 0 < length bytes → length bytes ≤ owed → new.place ≡ place → new.owed ≡ owed - length bytes → IsRead e (SentBytes bytes) new r
bytes_by_place e bytes owed new r (Head k) (is, none) some few p o = absurd (omega arith)
bytes_by_place e bytes owed new r Content at some few p o = bytes_in_body e bytes Content owed new r at some few p o (in_body e (at.interims) reading.Body true (owed - length bytes) (λ _. refl))
bytes_by_place e bytes owed new r (Connecting session) (is, none) some few p o = absurd (omega arith)
bytes_by_place e bytes owed new r Tunnel at some few p o = bytes_in_body e bytes Tunnel owed new r at some few p o (in_body e (at.interims) reading.Body true (owed - length bytes) (λ _. refl))
bytes_by_place e bytes owed new r Session (is, none) some few p o = absurd (omega arith)
bytes_by_place e bytes owed new r Trailers (is, none) some few p o = absurd (omega arith)
bytes_by_place e bytes owed new r Ended (is, none) some few p o = absurd (omega arith)

after_some : (s : Sending) (n : ℕ) (new : Sending) → after_bytes s n ≡ Ok new → (n ≤ s.owed) × (new.place ≡ s.place) × (new.owed ≡ s.owed - n)
after_some s n new h =
    let a = ok_else (ltb s.owed n) (Ok (record s { owed = s.owed - n })) error.DataExceeded new h in
    let is = ok_is (record s { owed = s.owed - n }) new (a.1) in
    (ltb-false s.owed n (a.0), ap (λ (x : Sending). x.place) (sym is), ap (λ (x : Sending). x.owed) (sym is))

pub bytes_sent : (e : Endpoint) (bytes : List ℕ) (old new : Sending) (r : Reader) → IsAt e old.place old.owed r → after_bytes old (length bytes) ≡ Ok new → IsRead e (SentBytes bytes) new r
bytes_sent e [] old new r at h =
    let a = after_some old 0 new h in
    let same : new.owed ≡ old.owed = omega (arith, a.2) in
    read_at e (SentBytes []) new r r old.place old.owed (a.1) same (λ more. refl) (at_after e old.place old.owed r at)
bytes_sent e (x ∷ xs) old new r at h =
    let a = after_some old (length (x ∷ xs)) new h in
    bytes_by_place e (x ∷ xs) old.owed new r old.place at (omega arith) (a.0) (a.1) (a.2)

-- ---- capsules

session_is : (place : Place) → in_session place ≡ Ok tt → place ≡ Session
session_is (Head k) h = absurd cc
session_is Content h = absurd cc
session_is (Connecting session) h = absurd cc
session_is Tunnel h = absurd cc
session_is Session h = refl
session_is Trailers h = absurd cc
session_is Ended h = absurd cc

-- a DATA frame on the stream of an open session
in_session_body : (e : Endpoint) (s : Sending) (r : Reader) → IsAt e s.place s.owed r → s.place ≡ Session → IsInBody e reading.Body 0 r
in_session_body e s r at p =
    let is : IsAt e Session s.owed r = subst (λ (q : Place). IsAt e q s.owed r) p at in
    subst (λ (n : ℕ). IsInBody e reading.Body n r) (is.1) (is.0)

some_number : (n : ℕ) (more : List ℕ) → n < 2 ^ 62 → 0 < length (shortest n ++ more)
some_number n more l = omega (arith, length-append (shortest n) more, encoding_not_empty n (shortest n) (shortest-encodes n l))

few_numbers : (a b : ℕ) → length (two_numbers a b) < 2 ^ 62
few_numbers a b = omega (arith, length-append (shortest a) (shortest b), at_most_8 a, at_most_8 b)

pub drain_sent : (e : Endpoint) (old new : Sending) (r : Reader) → IsAt e old.place old.owed r → in_session old.place ≡ Ok tt → new ≡ old → IsRead e SentDrain new r
drain_sent e old new r at h same =
    let p = session_is old.place h in
    let is = in_session_body e old r at p in
    let none : old.owed ≡ 0 = (subst (λ (q : Place). IsAt e q old.owed r) p at).1 in
    read_at e SentDrain new r (reads_data e (is.interims) reading.Body true 0) Session 0
    (ap (λ (x : Sending). x.place) same ∙ p) (ap (λ (x : Sending). x.owed) same ∙ none)
    (λ more. ap (λ (x : Reader). run x (drain_wire ++ more)) (is.is) ∙ data_read e (is.interims) (is.streamed) (two_numbers 0x78ae 0) more (some_number 0x78ae (shortest 0) (lit< tt)) (few_numbers 0x78ae 0))
    (empty_body e (is.interims) reading.Body true, refl)

record Closes (s : Sending) (reason : List ℕ) (new : Sending) : Type 0 where
  open_at : s.place ≡ Session
  few : length reason ≤ 1024
  is : ended s ≡ new

closes_at : (place : Place) (s : Sending) (reason : List ℕ) (new : Sending) → s.place ≡ place → by_reason s reason (in_session place) ≡ Ok new → Closes s reason new
closes_at (Head k) s reason new p h = absurd cc
closes_at Content s reason new p h = absurd cc
closes_at (Connecting session) s reason new p h = absurd cc
closes_at Tunnel s reason new p h = absurd cc
closes_at Session s reason new p h =
    let a = ok_else (ltb 1024 (length reason)) (ok_state (ended s)) error.TooLarge new h in
    record { open_at = p; few = ltb-false 1024 (length reason) (a.0); is = ok_is (ended s) new (a.1) }
closes_at Trailers s reason new p h = absurd cc
closes_at Ended s reason new p h = absurd cc

close_size : (code : ℕ) (reason : List ℕ) → length reason ≤ 1024 → length (close_wire (code, reason)) < 2 ^ 62
close_size code reason few =
    let four : length (to_be_bytes w32 code) ≡ 4 = refl in
    let last : length (to_be_bytes w32 code ++ (reason ++ [])) ≡ 4 + length reason = omega (arith, four, length-append (to_be_bytes w32 code) (reason ++ []), length-append reason []) in
    let tail : List ℕ = to_be_bytes w32 code ++ (reason ++ []) in
    omega (arith, last, length-append (shortest 0x2843) (shortest (4 + length reason) ++ tail), length-append (shortest (4 + length reason)) tail, at_most_8 0x2843, at_most_8 (4 + length reason))

end_in_body : (e : Endpoint) (place : Reading) (r : Reader) (is : IsInBody e place 0 r) → by_end e.side place 0 ≡ Ok tt → by_end e.side r.place r.remaining ≡ Ok tt
end_in_body e place r is h = ap (λ (x : Reader). by_end e.side x.place x.remaining) (is.is) ∙ h

pub close_sent : (e : Endpoint) (code : ℕ) (reason : List ℕ) (old new : Sending) (r : Reader) → IsAt e old.place old.owed r → after_close old reason ≡ Ok new → IsRead e (SentClose code reason) new r
close_sent e code reason old new r at h =
    let c = closes_at old.place old reason new refl h in
    let is = in_session_body e old r at (c.open_at) in
    let none : old.owed ≡ 0 = (subst (λ (q : Place). IsAt e q old.owed r) (c.open_at) at).1 in
    read_at e (SentClose code reason) new r (reads_data e (is.interims) reading.Body true 0) Ended 0
    (ap (λ (x : Sending). x.place) (sym (c.is))) (ap (λ (x : Sending). x.owed) (sym (c.is)) ∙ none)
    (λ more. ap (λ (x : Reader). run x (close_data code reason ++ more)) (is.is) ∙ data_read e (is.interims) (is.streamed) (close_wire (code, reason)) more (some_number 0x2843 (shortest (4 + length reason) ++ (to_be_bytes w32 code ++ (reason ++ []))) (lit< tt)) (close_size code reason (c.few)))
    (refl, refl)

-- ---- without bytes

opens_at : (e : Endpoint) (session : Bool) (owed : ℕ) (r : Reader) → IsAt e (Connecting session) owed r → IsAfter e (cond session Session Tunnel) owed r
opens_at e true owed r at = at
opens_at e false owed r at = at.0

connects_at : (e : Endpoint) (place : Place) (old new : Sending) (r : Reader) → IsAt e place old.owed r → placed old (opens place) ≡ Ok new → IsRead e Connected new r
connects_at e (Head k) old new r at h = absurd cc
connects_at e Content old new r at h = absurd cc
connects_at e (Connecting session) old new r at h =
    let is = ok_is (record old { place = cond session Session Tunnel }) new h in
    read_at e Connected new r r (cond session Session Tunnel) old.owed (ap (λ (x : Sending). x.place) (sym is)) (ap (λ (x : Sending). x.owed) (sym is)) (λ more. refl) (opens_at e session old.owed r at)
connects_at e Tunnel old new r at h = absurd cc
connects_at e Session old new r at h = absurd cc
connects_at e Trailers old new r at h = absurd cc
connects_at e Ended old new r at h = absurd cc

pub connected : (e : Endpoint) (old new : Sending) (r : Reader) → IsAt e old.place old.owed r → placed old (opens old.place) ≡ Ok new → IsRead e Connected new r
connected e old new r at h = connects_at e old.place old new r at h

rule_is : (s new : Sending) (v : Result (Unit {0}) Malformed) → by_rule s v ≡ Ok new → ended s ≡ new
rule_is s new (Ok u) h = ok_is (ended s) new h
rule_is s new (Err rule) h = absurd cc

ends_as : (e : Endpoint) (old new : Sending) (r : Reader) → old.owed ≡ 0 → ended old ≡ new → by_end e.side r.place r.remaining ≡ Ok tt → IsRead e SentEnd new r
ends_as e old new r none is h = read_at e SentEnd new r r Ended 0 (ap (λ (x : Sending). x.place) (sym is)) (ap (λ (x : Sending). x.owed) (sym is) ∙ none) (λ more. refl) (h, refl)

ends_at : (e : Endpoint) (place : Place) (old new : Sending) (r : Reader) → IsAt e place 0 r → old.owed ≡ 0 → end_at place old ≡ Ok new → IsRead e SentEnd new r
ends_at e (Head k) old new r at none h = absurd cc
ends_at e Content old new r at none h = ends_as e old new r none (rule_is old new (end_of old.message.stage old.message.content.left) h) (end_in_body e reading.Body r at refl)
ends_at e (Connecting session) old new r at none h = ends_as e old new r none (ok_is (ended old) new h) (end_in_body e reading.Body r (at.0) refl)
ends_at e Tunnel old new r at none h = ends_as e old new r none (ok_is (ended old) new h) (end_in_body e reading.Body r at refl)
ends_at e Session old new r at none h = ends_as e old new r none (ok_is (ended old) new h) (end_in_body e reading.Body r (at.0) refl)
ends_at e Trailers old new r at none h = ends_as e old new r none (rule_is old new (end_of old.message.stage old.message.content.left) h) (end_in_body e reading.AfterTrailers r (at.0) refl)
ends_at e Ended old new r at none h = absurd cc

pub end_sent : (e : Endpoint) (old new : Sending) (r : Reader) → IsAt e old.place old.owed r → after_end old ≡ Ok new → IsRead e SentEnd new r
end_sent e old new r at h =
    let a = ok_else (ltb 0 old.owed) (end_at old.place old) error.DataMissing new h in
    let none : old.owed ≡ 0 = omega (arith, ltb-false 0 old.owed (a.0)) in
    ends_at e old.place old new r (subst (λ (n : ℕ). IsAt e old.place n r) none at) none (a.1)

-- ---- every call

pub sent_read : (e : Endpoint) (x : Sent) (old new : Sending) (r : Reader) → IsAt e old.place old.owed r → Leads x old new → IsRead e x new r
sent_read e (SentHeaders fields) old new r at h = headers_sent e fields old new r at h
sent_read e (SentDataHead n) old new r at h = data_head_sent e n old new r at h
sent_read e (SentBytes bytes) old new r at h = bytes_sent e bytes old new r at h
sent_read e (SentTrailers fields) old new r at h = trailers_sent e fields old new r at h
sent_read e SentDrain old new r at h = drain_sent e old new r at (h.0) (h.1)
sent_read e (SentClose code reason) old new r at h = close_sent e code reason old new r at h
sent_read e Connected old new r at h = connected e old new r at h
sent_read e SentEnd old new r at h = end_sent e old new r at h
