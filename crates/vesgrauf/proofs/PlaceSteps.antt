-- Streams that may be sent from.
use Rattle.std.proofs.Common.{◌≡◌, ◌&&◌, Bool, true, false, refl}
use Rattle.vesgrauf.specs.declared.entry.Entry.{Entry}
use Rattle.vesgrauf.specs.Places.{has_more, is_sending}
use Rattle.vesgrauf.specs.Streams.{may_send}

-- nothing waits on one
pub not_sending : (e : Entry) → has_more e.writing.queue ≡ false → is_sending e ≡ false
not_sending e h = by (may_send e) (has_more e.writing.queue) h
  where
    by : (a b : Bool) → b ≡ false → (a && b) ≡ false
    by true b h = h
    by false b h = refl

-- QUIC takes bytes of it, and some wait, or the end
pub sending : (e : Entry) → may_send e ≡ true → has_more e.writing.queue ≡ true → is_sending e ≡ true
sending e m h = by (may_send e) (has_more e.writing.queue) m h
  where
    by : (a b : Bool) → a ≡ true → b ≡ true → (a && b) ≡ true
    by true b m h = h
    by false b m h = absurd (let bad : false ≡ true = m in cc)
