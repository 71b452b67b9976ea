-- After a fault a reader gives nothing.
use Rattle.std.proofs.Common.{◌≡◌, ℕ, zero, suc, ◌==◌, nat_lt, Bool, true, false, cond, List, [], ◌∷◌, ◌++◌, length, take, drop, Option, Some, None, Result, Ok, Err, refl, sym, ◌∙◌}
use Rattle.std.proofs.lemmas.Bool.{false≢true}
use Rattle.wtp_core.specs.Varint.{bytes_at}
use Rattle.wtp_frames.specs.declared.fault.Fault.{Fault}
use Rattle.wtp_frames.specs.declared.frame_type.FrameType.{FrameType}
use Rattle.wtp_frames.specs.declared.reader.Place.{Place}
use Rattle.wtp_frames.specs.declared.reader.Reader.{Reader}
use Rattle.wtp_frames.specs.declared.rules.Action.{Action}
use Rattle.wtp_frames.specs.declared.rules.Action.TheVariants.{Give, Stream, Skip, SkipSection, Refuse}
use Rattle.wtp_frames.specs.FrameType.{type_of}
use Rattle.wtp_frames.specs.Item.{Item, Whole, Byte, TooLarge, Broken}
use Rattle.wtp_frames.specs.Rules.{accepted}
use Rattle.wtp_frames.specs.Run.{Run, stays, preceded, pieces, streams, skips, skips_section, moved, head_at, by_place, by_payload, by_action, action_at, by_head, within_payload, intact_run, is_failed, next_run, run_within, run}

-- whether a fault is among the items
abbrev pub has_broken : List Item → Bool
has_broken [] = false
has_broken (Whole k payload ∷ items) = has_broken items
has_broken (Byte b ∷ items) = has_broken items
has_broken (TooLarge n ∷ items) = has_broken items
has_broken (Broken f ∷ items) = true

-- if it is, the reader reads nothing after it
pub record FailsLast (x : Run) : Type 0 where
  pub last : has_broken x.items ≡ true → is_failed x.reader.place ≡ true

none_broken : (r : Reader) (left : List ℕ) → FailsLast (stays r left)
none_broken r left = record { last = λ e. absurd (false≢true e) }

pieces_whole : (b : Bool) (bytes : List ℕ) → has_broken (pieces b bytes) ≡ false
pieces_whole true [] = refl
pieces_whole true (x ∷ bytes) = pieces_whole true bytes
pieces_whole false bytes = refl

pieces_then : (b : Bool) (bytes : List ℕ) (items : List Item) → has_broken (pieces b bytes ++ items) ≡ has_broken items
pieces_then true [] items = refl
pieces_then true (x ∷ bytes) items = pieces_then true bytes items
pieces_then false bytes items = refl

if_fails : (b : Bool) (x y : Run) → FailsLast x → FailsLast y → FailsLast (cond b x y)
if_fails true x y f g = f
if_fails false x y f g = g

place_fails : (more : Reader → List ℕ → Run) (r : Reader) (k : FrameType) (payload rest : List ℕ) (o : Result Place Fault) → ((s : Reader) (l : List ℕ) → FailsLast (more s l)) → FailsLast (by_place more r k payload rest o)
place_fails more r k payload rest (Ok place) h = record { last = (h (moved r place) rest).last }
place_fails more r k payload rest (Err f) h = record { last = λ e. refl }

payload_fails : (more : Reader → List ℕ → Run) (r : Reader) (bytes : List ℕ) (k : FrameType) (o : Option (List ℕ × List ℕ)) → ((s : Reader) (l : List ℕ) → FailsLast (more s l)) → FailsLast (by_payload more r bytes k o)
payload_fails more r bytes k None h = none_broken r bytes
payload_fails more r bytes k (Some p) h = place_fails more r k p.0 p.1 (accepted r.endpoint.side r.place k p.0) h

action_fails : (more : Reader → List ℕ → Run) (r : Reader) (bytes : List ℕ) (k : FrameType) (n : ℕ) (rest : List ℕ) (a : Action) → ((s : Reader) (l : List ℕ) → FailsLast (more s l)) → FailsLast (by_action more r bytes k n rest a)
action_fails more r bytes k n rest Give h = payload_fails more r bytes k (bytes_at n rest) h
action_fails more r bytes k n rest Stream h = h (streams r n) rest
action_fails more r bytes k n rest Skip h = h (skips r n) rest
action_fails more r bytes k n rest SkipSection h = record { last = (h (skips_section r n) rest).last }
action_fails more r bytes k n rest (Refuse f) h = record { last = λ e. refl }

head_fails : (more : Reader → List ℕ → Run) (r : Reader) (bytes : List ℕ) (o : Option (ℕ × ℕ × List ℕ)) → ((s : Reader) (l : List ℕ) → FailsLast (more s l)) → FailsLast (by_head more r bytes o)
head_fails more r bytes None h = none_broken r bytes
head_fails more r bytes (Some x) h = action_fails more r bytes (type_of x.0) x.1 x.2 (action_at r (type_of x.0) x.1) h

payload_left_fails : (r : Reader) (bytes : List ℕ) → FailsLast (within_payload r bytes)
payload_left_fails r bytes = record { last = λ e. absurd (false≢true (sym (pieces_whole r.streamed bytes) ∙ e)) }

pieces_fail : (b : Bool) (bytes : List ℕ) (x : Run) → FailsLast x → FailsLast (preceded (pieces b bytes) x)
pieces_fail b bytes x f = record { last = λ e. f.last (sym (pieces_then b bytes x.items) ∙ e) }

next_fails : (more : Reader → List ℕ → Run) (r : Reader) (bytes : List ℕ) → ((s : Reader) (l : List ℕ) → FailsLast (more s l)) → FailsLast (next_run more r bytes)
next_fails more r bytes h =
    if_fails (is_failed r.place) (stays r []) (intact_run more r bytes) (none_broken r []) (
    if_fails (r.remaining == 0) (by_head more r bytes (head_at bytes)) (cond (nat_lt (length bytes) r.remaining) (within_payload r bytes) (preceded (pieces r.streamed (take r.remaining bytes)) (more (record r { remaining = 0 }) (drop r.remaining bytes)))) (head_fails more r bytes (head_at bytes) h) (
    if_fails (nat_lt (length bytes) r.remaining) (within_payload r bytes) (preceded (pieces r.streamed (take r.remaining bytes)) (more (record r { remaining = 0 }) (drop r.remaining bytes))) (payload_left_fails r bytes) (
    pieces_fail r.streamed (take r.remaining bytes) (more (record r { remaining = 0 }) (drop r.remaining bytes)) (h (record r { remaining = 0 }) (drop r.remaining bytes)))))

within_fails : (n : ℕ) (r : Reader) (bytes : List ℕ) → FailsLast (run_within n r bytes)
within_fails zero r bytes = none_broken r []
within_fails (suc n) r bytes = next_fails (λ s l. run_within n s l) r bytes (λ s l. within_fails n s l)

pub run_fails : (r : Reader) (bytes : List ℕ) → FailsLast (run r bytes)
unfolding run
run_fails r bytes = within_fails (suc (length bytes)) r bytes
