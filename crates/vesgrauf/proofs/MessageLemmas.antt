-- What calls queue on the own half of a stream.
use Rattle.std.proofs.Common.{◌≡◌, ℕ, List, Option, None, Some, refl, sym, ap, subst, ◌∙◌}
use Rattle.std.specs.Prelude.{Result, Ok, Err, OnOk}
use Rattle.std.specs.Ordering.{nat_cmp}
use Rattle.std.specs.Map.{lookup, set_value}
use Rattle.std.specs.BTreeMap.{is_at}
use Rattle.wtp_sending.specs.declared.peer.Peer.{Peer as Allows}
use Rattle.vesgrauf_stream.specs.declared.tools.Tools.{Tools}
use Rattle.vesgrauf_stream.specs.declared.writing.Writing.{Writing}
use Rattle.vesgrauf.specs.declared.connection.Connection.{Connection}
use Rattle.vesgrauf.specs.declared.entry.Entry.{Entry}
use Rattle.vesgrauf.specs.declared.output.StreamKind.{StreamKind}
use Rattle.vesgrauf.specs.declared.refused.Refused.{Refused}
use Rattle.vesgrauf.specs.Own.{own_of, own_at, entry_at, IsUntouched, Untouched}
use Rattle.vesgrauf.specs.State.{view_of, with_own, with_stream, stream_at, Of, Changes, IsStill, IsStillBut, Instructs, SaysOrWaits}
use Rattle.vesgrauf.specs.Messages.{allowed, allowed_by, IsSameBut, Encodes, ChangesBy, ChangesThen, IsRequest, IsStreamHead, IsMember}
use Rattle.vesgrauf.proofs.OwnLemmas.{own_set}

-- ---- one stream

of_same : (o : Option Entry) (P Q : Entry → Type 0) → ((e : Entry) → o ≡ Some e → P e → Q e) → Of o P → Of o Q
of_same None P Q f p = p
of_same (Some e) P Q f p = f e refl p

-- what is so of the stream that there is, is so of the same
of_map : (o x : Option Entry) (P Q : Entry → Type 0) → o ≡ x → ((e : Entry) → o ≡ Some e → P e → Q e) → Of o P → Of x Q
of_map o x P Q h f p = subst (λ y. Of y Q) h (of_same o P Q f p)

pub same_stream : (c d : Connection) (id : ℕ) → IsStill c d → stream_at d id ≡ stream_at c id
same_stream c d id h = ap (λ v. lookup (is_at (nat_cmp id)) v.streams) h

-- ---- sections

pub changes_by : (c p q d : Connection) (id : ℕ) (How : Tools → Tools → Writing → Writing → Type 0)
    → IsStill c p → IsSameBut c.tools p.tools → Changes id (How p.tools q.tools) p q → Instructs SaysOrWaits q d
    → ChangesBy id How c d
changes_by c p q d id How s t h i = of_map (stream_at p id) (stream_at c id) _ _ (same_stream c p id s)
    (λ e at x.
    let view : view_of q ≡ with_stream (view_of c) id (record e { writing = x.0 })
    = x.2 ∙ ap (λ v. with_stream v id (record e { writing = x.0 })) s in
    let encoder : q.encoder ≡ c.encoder = ap (λ v. v.encoder) view in (
      x.0,
      record {
        from = p.tools;
        to = q.tools;
        begins = t;
        does = x.1;
        ends = i.table;
        queued = subst (λ y. SaysOrWaits q.tools.instructions.items d.tools.instructions.items y d.encoder) encoder i.encoder;
      },
      i.others ∙ ap (λ v. with_own d v) view,
    )) h

-- ---- what follows of a call adds or takes no byte

pub changes_then : (c q : Connection) (d : Connection) (id : ℕ) (How : Writing → Writing → Type 0) → Changes id How c q
    → Untouched q.streams.entries d.streams.entries → ChangesThen id How c d
changes_then c q d id How h u = of_map (stream_at c id) (stream_at c id) _ _ refl
    (λ e at x.
    let streams : q.streams.entries ≡ set_value (is_at (nat_cmp id)) c.streams.entries (record e { writing = x.0 })
    = ap (λ v. v.streams) x.2 in
    let own : own_at q.streams.entries id ≡ own_of x.0
    = ap (λ es. own_at es id) streams ∙ own_set c.streams.entries id e (record e { writing = x.0 }) at in
    (x.0, x.1, subst (λ y. IsUntouched y (own_at d.streams.entries id)) own (u.each id))) h

-- nothing changes, then that
pub still_then : (c p d : Connection) (id : ℕ) (How : Writing → Writing → Type 0) → IsStill c p → ChangesThen id How p d
    → ChangesThen id How c d
still_then c p d id How s h = of_map (stream_at p id) (stream_at c id) _ _ (same_stream c p id s) (λ e at x. x) h

-- HEADERS of a response: this says how, by what the peer allows
pub responds : (c p q m d : Connection) (id : ℕ) (How : Allows → Tools → Tools → Writing → Writing → Type 0) → IsStill c p
    → IsSameBut c.tools p.tools → Changes id (How (allowed p) p.tools q.tools) p q
    → IsStillBut q m → Untouched m.streams.entries d.streams.entries
    → (s : Tools) × (t : Tools) × IsSameBut c.tools s × ChangesThen id (How (allowed c) s t) c d
responds c p q m d id How s t h i u =
    let streams : m.streams.entries ≡ q.streams.entries = ap (λ v. v.streams) i in
    let peer : allowed p ≡ allowed c = ap (λ v. allowed_by v.shared) s in (
      p.tools,
      q.tools,
      t,
      still_then c p d id _ s
          (subst (λ a. ChangesThen id (How a p.tools q.tools) p d) peer
          (changes_then p q d id _ h (subst (λ es. Untouched es d.streams.entries) streams u))),
    )

-- ---- requests

pub requests : (c p q r m d : Connection) (id : ℕ) (How : Allows → Tools → Tools → Writing → Writing → Type 0)
    → IsStill c p → IsSameBut c.tools p.tools
    → Of (stream_at q id) (IsRequest p.config (How (allowed p) p.tools q.tools))
    → view_of q ≡ record (view_of p) { streams = q.streams.entries }
    → r.streams ≡ q.streams → r.tools ≡ q.tools → r.encoder ≡ q.encoder
    → Instructs SaysOrWaits r m → d.streams ≡ m.streams → d.tools ≡ m.tools → d.encoder ≡ m.encoder
    → Of (stream_at d id) (λ e. Encodes (λ s t. IsRequest c.config (How (allowed c) s t) e) c d)
requests c p q r m d id How s t h view kept tools coder i same last end =
    let one : stream_at d id ≡ stream_at m id = ap (λ x. lookup (is_at (nat_cmp id)) x.entries) same in
    let two : stream_at m id ≡ stream_at r id = ap (λ v. lookup (is_at (nat_cmp id)) v.streams) i.others in
    let three : stream_at r id ≡ stream_at q id = ap (λ x. lookup (is_at (nat_cmp id)) x.entries) kept in
    let peer : allowed p ≡ allowed c = ap (λ v. allowed_by v.shared) s in
    let config : p.config ≡ c.config = ap (λ v. v.config) s in
    let encoder : r.encoder ≡ c.encoder = coder ∙ (ap (λ v. v.encoder) view ∙ ap (λ v. v.encoder) s) in
    of_map (stream_at q id) (stream_at d id) _ _ (sym (one ∙ (two ∙ three)))
    (λ e at x. record {
      from = p.tools;
      to = q.tools;
      begins = t;
      does = subst (λ a. IsRequest c.config (How a p.tools q.tools) e) peer
          (subst (λ g. IsRequest g (How (allowed p) p.tools q.tools) e) config x);
      ends = ap (λ y. y.encoder) last ∙ (i.table ∙ ap (λ y. y.encoder) tools);
      queued = rw (last, end)
          (subst (λ y. SaysOrWaits y m.tools.instructions.items c.encoder m.encoder) (ap (λ y. y.instructions.items) tools)
          (subst (λ y. SaysOrWaits r.tools.instructions.items m.tools.instructions.items y m.encoder) encoder i.encoder));
    }) h

-- ---- calls

pub same_but : (c b p : Connection) → b.tools ≡ c.tools
    → p.tools.encoder ≡ record b.tools.encoder { policy = p.tools.encoder.policy }
    → p.tools.instructions ≡ b.tools.instructions → IsSameBut c.tools p.tools
same_but c b p t e i = record {
  encoder = subst (λ x. p.tools.encoder ≡ record x.encoder { policy = p.tools.encoder.policy }) t e;
  instructions = ap (λ v. v.items) i ∙ ap (λ x. x.instructions.items) t;
}

pub changes_by_ok : (c p q d : Connection) (id : ℕ) (How : Tools → Tools → Writing → Writing → Type 0)
    (r : Result (Unit {0}) Refused) → IsStill c p → IsSameBut c.tools p.tools
    → OnOk r (Changes id (How p.tools q.tools) p q) → Instructs SaysOrWaits q d → OnOk r (ChangesBy id How c d)
changes_by_ok c p q d id How (Ok u) s t h i = changes_by c p q d id How s t h i
changes_by_ok c p q d id How (Err e) s t h i = tt

pub member_begins : (c k d : Connection) (id session : ℕ) (kind : StreamKind) (head bytes : List ℕ) (e : Entry)
    → IsStill c k → Of (stream_at k session) (IsStreamHead kind head) → bytes ≡ head
    → IsMember k.config session kind bytes e → entry_at d.streams.entries id ≡ Some e
    → (h : List ℕ) × Of (stream_at c session) (IsStreamHead kind h)
    × Of (stream_at d id) (IsMember c.config session kind h)
member_begins c k d id session kind head bytes e s h b m at = (
  head,
  subst (λ o. Of o (IsStreamHead kind head)) (same_stream c k session s) h,
  subst (λ o. Of o (IsMember c.config session kind head)) (sym at)
      (subst (λ x. IsMember c.config session kind x e) b
      (subst (λ g. IsMember g session kind bytes e) (ap (λ v. v.config) s) m)),
)
