-- The first bytes of a session's streams and datagrams are read.
use Rattle.std.proofs.Common.{◌≡◌, ℕ, ◌%◌, ◌/◌, ◌^◌, ◌<◌, List, [], ◌∷◌, ◌++◌, Option, Some, refl, sym, ap, ◌∙◌, arith}
use Rattle.std.proofs.lemmas.List.{append-nil}
use Rattle.wtp_core.specs.Varint.{shortest}
use Rattle.wtp_wire.specs.Content.{WebTransportOf}
use Rattle.wtp_wire.specs.Datagram.{datagram_in, datagram_wire}
use Rattle.wtp_wire.specs.Front.{Framed, front}
use Rattle.wtp_wire.specs.Header.{WebTransportHeader}
use Rattle.wtp_wire.specs.HeaderFront.{Headed, header_front}
use Rattle.wtp_wire.proofs.DatagramLemmas as datagram
use Rattle.wtp_wire.proofs.HeaderFrontLemmas.{header_front-wire}
use Rattle.wtp_wire.proofs.WireLemmas.{front-wire}
use Rattle.wtp_sending.specs.Session.{uni_head, bi_head, datagram_head}

pub uni_read : (id : ℕ) (more : List ℕ) → id < 2 ^ 62 → id % 4 ≡ 0 → header_front (uni_head id ++ more) ≡ Headed (WebTransportHeader id) more
uni_read id more fits session =
    ap (λ (l : List ℕ). header_front ((shortest 0x54 ++ l) ++ more)) (sym (append-nil (shortest id)))
    ∙ header_front-wire (WebTransportHeader id) more (fits, session)

pub bi_read : (id : ℕ) (more : List ℕ) → id < 2 ^ 62 → id % 4 ≡ 0 → front (bi_head id ++ more) ≡ Framed (WebTransportOf id) more
bi_read id more fits session =
    ap (λ (l : List ℕ). front ((shortest 0x41 ++ l) ++ more)) (sym (append-nil (shortest id)))
    ∙ front-wire (WebTransportOf id) more (fits, session)

pub datagram_read : (id : ℕ) (payload : List ℕ) → id < 2 ^ 62 → datagram_in (datagram_head id ++ payload) ≡ Some (id / 4, payload)
unfolding datagram_wire
datagram_read id payload fits = datagram.written (id / 4) payload (omega arith)
