-- The words of a state are read as that state.
use Rattle.std.proofs.Common.{◌≡◌, ℕ, ◌<◌, ◌^◌, Bool, true, false, Option, Some, None, refl, ap, sym, subst, ◌∙◌}
use Rattle.wtp_core.specs.Ids.{IsSession}
use Rattle.wtp_frames.specs.declared.endpoint.Side.{Side}
use Rattle.wtp_frames.specs.declared.endpoint.Side.TheVariants.{Client, Server}
use Rattle.wtp_frames.specs.Words.{side_number, side_at, optional_at}
use Rattle.wtp_frames.proofs.WordLemmas.{flag_is, optional_is}
use Rattle.wtp_messages.specs.declared.message.Role.{Role}
use Rattle.wtp_messages.specs.declared.message.Role.TheVariants.{Request, Response}
use Rattle.wtp_messages.specs.declared.response.Asked.TheVariants as asked
use Rattle.wtp_messages.specs.Words.{role_number, role_at}
use Rattle.wtp_messages.proofs.WordLemmas.{message_is_read}
use Rattle.wtp_sending.specs.declared.control.ControlSending.{ControlSending}
use Rattle.wtp_sending.specs.declared.control.words.ControlWords.{ControlWords}
use Rattle.wtp_sending.specs.declared.peer.Peer.{Peer}
use Rattle.wtp_sending.specs.declared.message.Place.{Place}
use Rattle.wtp_sending.specs.declared.message.Place.TheVariants as place
use Rattle.wtp_sending.specs.declared.message.Sending.{Sending}
use Rattle.wtp_sending.specs.declared.message.words.SendingWords.{SendingWords}
use Rattle.wtp_sending.specs.Words.{peer_words, peer_at, place_words, place_at, sending_words, sending_at, IsOfRequest, settled_number, settled_at, control_words, control_at, IsGoAway}

role_is : (r : Role) → role_at (role_number r) ≡ r
role_is (Request false) = refl
role_is (Request true) = refl
role_is (Response asked.Head) = refl
role_is (Response asked.Connect) = refl
role_is (Response asked.Session) = refl
role_is (Response asked.Other) = refl

place_is : (p : Place) → place_at (place_words p) ≡ p
place_is (place.Head k) = refl
place_is place.Content = refl
place_is (place.Connecting session) = rw (flag_is session) refl
place_is place.Tunnel = refl
place_is place.Session = refl
place_is place.Trailers = refl
place_is place.Ended = refl

peer_is : (p : Peer) → peer_at (peer_words p) ≡ p
peer_is p = rw (flag_is p.extended_connect, flag_is p.sessions) refl

pub sending_is_read : (s : Sending) → sending_at (sending_words s) ≡ s
sending_is_read s = rw (role_is s.role, peer_is s.peer, message_is_read s.message, place_is s.place) refl

-- words that are not those of the state that they give are those of none
pub no_sending : (w : SendingWords) → ¬ (sending_words (sending_at w) ≡ w) → (s : Sending) → IsOfRequest s.id → ¬ (sending_words s ≡ w)
no_sending w differ s of e = differ (subst (λ x. sending_words (sending_at x) ≡ x) e (ap sending_words (sending_is_read s)))

pub no_number : (w : SendingWords) → ¬ (w.id < 2 ^ 62) → (s : Sending) → IsOfRequest s.id → ¬ (sending_words s ≡ w)
no_number w large s of e = large (subst (λ (x : SendingWords). x.id < 2 ^ 62) e of.0)

pub no_request : (w : SendingWords) → ¬ (IsSession w.id) → (s : Sending) → IsOfRequest s.id → ¬ (sending_words s ≡ w)
no_request w other s of e = other (subst (λ (x : SendingWords). IsSession x.id) e of.1)

side_is : (s : Side) → side_at (side_number s) ≡ s
side_is Client = refl
side_is Server = refl

settled_is : (b : Bool) → settled_at (settled_number b) ≡ b
settled_is true = refl
settled_is false = refl

pub control_is_read : (c : ControlSending) → control_at (control_words c) ≡ c
control_is_read c = rw (side_is c.to, settled_is c.settled, optional_is c.goaway) refl

pub no_control : (w : ControlWords) → ¬ (control_words (control_at w) ≡ w) → (c : ControlSending) → IsGoAway c.goaway → ¬ (control_words c ≡ w)
no_control w differ c of e = differ (subst (λ x. control_words (control_at x) ≡ x) e (ap control_words (control_is_read c)))

goaway_of : (w : ControlWords) (c : ControlSending) → control_words c ≡ w → c.goaway ≡ optional_at w.goaway
goaway_of w c e = sym (optional_is c.goaway) ∙ ap (λ (x : ControlWords). optional_at x.goaway) e

pub no_goaway : (w : ControlWords) (n : ℕ) → optional_at w.goaway ≡ Some n → ¬ (n < 2 ^ 62) → (c : ControlSending) → IsGoAway c.goaway → ¬ (control_words c ≡ w)
no_goaway w n is large c of e = large (subst (λ o. IsGoAway o) (goaway_of w c e ∙ is) of)
