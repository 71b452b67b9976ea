-- The frames that streams allow.
use Rattle.std.proofs.Common.{◌≡◌, ◌≢◌, ℕ, Bool, None, refl}
use Rattle.wtp_wire.specs.declared.frame.kind.FrameKind.{FrameKind}
use Rattle.wtp_wire.specs.declared.frame.kind.FrameKind.TheVariants.{WebTransport, Exercise}
use Rattle.wtp_wire.specs.Rule.{Role, RemoteBi, LocalBi, RemoteUni, InSession, request_rule, rule}

-- a frame of another kind than WebTransport
pub rule-request : (first : Bool) (kind : FrameKind) → kind ≢ WebTransport → rule RemoteBi first kind ≡ request_rule kind
rule-request first WebTransport plain = absurd (plain refl)
rule-request first kind plain = refl

-- every stream allows frames of reserved types
pub rule-exercise : (role : Role) (first : Bool) (number : ℕ) → rule role first (Exercise number) ≡ None
rule-exercise RemoteBi first number = refl
rule-exercise LocalBi first number = refl
rule-exercise RemoteUni first number = refl
rule-exercise InSession first number = refl

-- only a bidirectional stream that the peer opened distinguishes the first frame
pub rule_first : (role : Role) (f g : Bool) (kind : FrameKind) → role ≢ RemoteBi → rule role f kind ≡ rule role g kind
rule_first RemoteBi f g kind h = absurd (h refl)
rule_first LocalBi f g kind h = refl
rule_first RemoteUni f g kind h = refl
rule_first InSession f g kind h = refl

pub ruleset rules_of_kinds = (rule-request, rule-exercise)
