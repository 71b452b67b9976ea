-- All that many calls wrote is read.
use Rattle.std.proofs.Common.{◌≡◌, ℕ, Bool, true, false, List, [], ◌∷◌, ◌++◌, refl, sym, ap, subst, ◌∙◌}
use Rattle.std.proofs.lemmas.List.{append-nil}
use Rattle.wtp_frames.specs.declared.endpoint.Endpoint.{Endpoint}
use Rattle.wtp_frames.specs.declared.reader.Reader.{Reader}
use Rattle.wtp_frames.specs.Item.{Item}
use Rattle.wtp_frames.specs.Run.{Run, run, preceded, stays}
use Rattle.wtp_frames.proofs.RunLemmas.{run_none}
use Rattle.wtp_sending.specs.declared.message.Place.{Place}
use Rattle.wtp_sending.specs.declared.message.Place.TheVariants.{Head, Content, Connecting, Tunnel, Session, Trailers, Ended}
use Rattle.wtp_sending.specs.declared.message.Sending.{Sending}
use Rattle.wtp_sending.specs.Message.{is_head}
use Rattle.wtp_sending.specs.Sent.{Sent, LeadsAll, bytes_of, all_bytes, items_of, all_items, IsAt, IsAfter, IsRead, AreRead}
use Rattle.wtp_sending.proofs.SentLemmas.{sent_read}

after_no_head : (e : Endpoint) (place : Place) (owed : ℕ) (r : Reader) → is_head place ≡ false → IsAfter e place owed r → IsAt e place owed r
after_no_head e (Head k) owed r h at = absurd cc
after_no_head e Content owed r h at = at
after_no_head e (Connecting session) owed r h at = at
after_no_head e Tunnel owed r h at = at
after_no_head e Session owed r h at = at
after_no_head e Trailers owed r h at = at
after_no_head e Ended owed r h at = at

pub all_read : (e : Endpoint) (xs : List Sent) (old new : Sending) (r : Reader) → IsAt e old.place old.owed r → LeadsAll xs old new → AreRead e xs new r
all_read e [] old new r at same = record {
  next = r;
  gives = run_none r;
  at = subst (λ (s : Sending). IsAt e s.place s.owed r) (sym same) at;
}
all_read e (x ∷ xs) old new r at (mid, one, whole, others) =
    let a : IsRead e x mid r = sent_read e x old mid r at one in
    let b : AreRead e xs new (a.next) = all_read e xs mid new (a.next) (after_no_head e mid.place mid.owed (a.next) whole (a.at)) others in
    record {
      next = b.next;
      gives = a.gives (all_bytes xs) ∙ ap (λ (y : Run). preceded (items_of e.max_section x) y) (b.gives);
      at = b.at;
    }
