-- The start of the stream of a message.
use Rattle.std.proofs.Common.{◌≡◌, ℕ, ◌<◌, Bool, false, List, [], ◌∷◌, ◌++◌, length, Some, refl, sym, ap, subst, ◌∙◌, arith, lit<, append_assoc}
use Rattle.wtp_core.specs.Varint.{shortest, number_at}
use Rattle.wtp_core.proofs.EncodingLemmas.{number_at-encoding}
use Rattle.wtp_core.proofs.ShortLemmas.{shortest-encodes}
use Rattle.wtp_qpack.specs.Field.{Field}
use Rattle.wtp_qpack.specs.FieldSection.{shortest_section}
use Rattle.wtp_frames.specs.declared.endpoint.Endpoint.{Endpoint}
use Rattle.wtp_frames.specs.declared.endpoint.Side.{Side}
use Rattle.wtp_frames.specs.declared.endpoint.Side.TheVariants.{Server}
use Rattle.wtp_frames.specs.Start.{message_reader}
use Rattle.wtp_connection.specs.declared.connection.Connection.{Connection as Streams}
use Rattle.wtp_connection.specs.declared.stream.Purpose.TheVariants as «for»
use Rattle.wtp_connection.specs.declared.stream.Stream.TheVariants as frames
use Rattle.wtp_connection.proofs.OpeningLemmas.{bi_open, server_allows}
use Rattle.wtp_connection.specs.Opening.{frames_purpose, bi_by, bi_at}
use Rattle.wtp_connection.specs.Streams.{Opened, StreamRun, rests, followed}
use Rattle.wtp_connection.specs.First.{first_opening, first_seen}
use Rattle.wtp_connection.proofs.FirstLemmas.{first_open}
use Rattle.wtp_messages.specs.declared.message.Role.TheVariants as role
use Rattle.wtp_messages.specs.declared.response.Asked.{Asked}
use Rattle.wtp_sending.specs.declared.peer.Peer.{Peer}
use Rattle.wtp_sending.specs.Message.{sending_of, headers_wire}
use Rattle.wtp_webtransport.specs.declared.connection.Connection.{Connection}
use Rattle.wtp_webtransport.specs.Events.{Opened as OpenedFor}
use Rattle.wtp_webtransport.specs.Streams.{stream_of, request_stream}
use Rattle.wtp_webtransport.specs.Receiving.{Outcome, Receives}
use Rattle.wtp_webtransport.proofs.CallLemmas.{goes_of}
use Rattle.wtp_pairs.specs.Reads.{IsGoing}
use Rattle.wtp_pairs.specs.Messages.{Agrees, request_opened}
use Rattle.wtp_pairs.proofs.CallLemmas.{Finds, found_some}
use Rattle.wtp_pairs.proofs.ReaderLemmas.{headers_wire_is}

-- ---- at a server

-- HEADERS begin with their type, which is one byte
begins : (payload : List ℕ) → shortest 1 ++ payload ≡ 1 ∷ payload
unfolding shortest
begins payload = refl

first_byte : (a b all : List ℕ) → 0 < length a → a ++ b ≡ 1 ∷ all → (rest : List ℕ) × (a ≡ 1 ∷ rest)
first_byte [] b all l e = absurd (omega (arith, l))
first_byte (x ∷ a) b all l e = (a, ap (λ (y : ℕ). y ∷ a) (head_is x 1 (a ++ b) all e))
  where
    head_is : (x y : ℕ) (a b : List ℕ) → x ∷ a ≡ y ∷ b → x ≡ y
    head_is x y a b e = cc

one_at : (rest : List ℕ) → number_at (1 ∷ rest) ≡ Some (1, rest)
one_at rest = ap number_at (sym (begins rest)) ∙ number_at-encoding 1 (shortest 1) rest (shortest-encodes 1 (lit< tt))

request_at : (e : Endpoint) (rest : List ℕ) → e.side ≡ Server → bi_at e (1 ∷ rest) ≡ Some («for».Message, 1 ∷ rest)
request_at e rest side =
    bi_open e (1 ∷ rest) (server_allows e side)
    ∙ ap (bi_by e (1 ∷ rest)) (one_at rest)
    ∙ ap (λ (s : Side). Some (frames_purpose s, 1 ∷ rest)) side

abbrev opened_run : Streams → List ℕ → StreamRun
opened_run c bytes = followed (Opened «for».Message ∷ []) (rests c (frames.Frames (message_reader c.endpoint) false) bytes)

request_seen : (c : Streams) (rest : List ℕ) → c.over ≡ false → c.endpoint.side ≡ Server → first_seen c frames.Bi (1 ∷ rest) ≡ opened_run c (1 ∷ rest)
request_seen c rest over side = first_open c frames.Bi (1 ∷ rest) over ∙ ap (first_opening c frames.Bi (1 ∷ rest)) (request_at c.endpoint rest side)

opened_one : (limit : ℕ) (c : Connection) (rest : List ℕ) (fin : Bool) (o : Outcome) → IsGoing c → c.streams.endpoint.side ≡ Server → Receives limit c (stream_of frames.Bi) (1 ∷ rest) fin o → o ≡ (0, OpenedFor «for».Message, c, request_opened c)
opened_one limit c rest fin o going side h =
    let f : Finds limit c (stream_of frames.Bi) (1 ∷ rest) (opened_run c.streams (1 ∷ rest)) o =
    found_some limit c (stream_of frames.Bi) (1 ∷ rest) fin (opened_run c.streams (1 ∷ rest)) o (goes_of limit c (stream_of frames.Bi) (1 ∷ rest) fin o h going.events refl refl) (request_seen c.streams rest going.streams side) refl in
    f.gives ∙ ap (λ (n : ℕ). (n, OpenedFor «for».Message, c, request_opened c)) (omega arith)

rest_of : List Field → List ℕ → List ℕ
rest_of fields more = (shortest (length (shortest_section fields)) ++ shortest_section fields) ++ more

starts : (fields : List Field) (more : List ℕ) → headers_wire fields ++ more ≡ 1 ∷ rest_of fields more
unfolding rest_of
starts fields more =
    ap (λ (l : List ℕ). l ++ more) (headers_wire_is (shortest_section fields))
    ∙ append_assoc (shortest 1) (shortest (length (shortest_section fields)) ++ shortest_section fields) more
    ∙ begins ((shortest (length (shortest_section fields)) ++ shortest_section fields) ++ more)

pub opened : (limit : ℕ) (c : Connection) (fields : List Field) (a b : List ℕ) (fin : Bool) (o : Outcome) → IsGoing c → c.streams.endpoint.side ≡ Server → 0 < length a → (more : List ℕ) → a ++ b ≡ headers_wire fields ++ more → Receives limit c (stream_of frames.Bi) a fin o → o ≡ (0, OpenedFor «for».Message, c, request_opened c)
opened limit c fields a b fin o going side some more parts h =
    let x = first_byte a b (rest_of fields more) some (parts ∙ starts fields more) in
    opened_one limit c (x.0) fin o going side (subst (λ (l : List ℕ). Receives limit c (stream_of frames.Bi) l fin o) (x.1) h)

pub asked : (c : Connection) (id : ℕ) (peer : Peer) → Agrees c.streams.endpoint (sending_of id (role.Request c.extended) peer) (request_opened c)
asked c id peer = record {
  own = refl;
  read = refl;
  asked = tt;
  at = (record { given = false; frames = refl; part = refl }, refl);
}

-- ---- at a client

pub answered : (e : Endpoint) (a : Asked) (id : ℕ) (peer : Peer) → Agrees e (sending_of id (role.Response a) peer) (request_stream e a)
answered e a id peer = record {
  own = refl;
  read = refl;
  asked = refl;
  at = (record { given = false; frames = refl; part = refl }, refl);
}
