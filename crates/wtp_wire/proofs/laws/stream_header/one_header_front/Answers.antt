use Rattle.std.proofs.Common.{inl, inr}
use Rattle.wtp_wire.proofs.HeaderFrontLemmas.{header_front_holds, header_front-short}
use Rattle.wtp_wire.proofs.laws.stream_header.one_header_front.Goals as goal

pub returns : goal.returns
returns c = λ bytes. elim (header_front_holds bytes) [ inl short ↦ inr (short, header_front-short bytes short) | inr h ↦ inl h ]
