use Rattle.std.proofs.Common.{inl, inr}
use Rattle.wtp_wire.proofs.FrontLemmas.{front_holds, front-short}
use Rattle.wtp_wire.proofs.laws.front_is_unique.Goals as goal

pub returns : goal.returns
returns c = λ bytes. elim (front_holds bytes) [ inl short ↦ inr (short, front-short bytes short) | inr h ↦ inl h ]
