use Rattle.std.proofs.Common.{rules, refl}
use Rattle.wtp_dynamic.specs.SectionView.{prefix_of}
use Rattle.wtp_dynamic_decoder.proofs.decoder.QpackDecoder.open.Goals as goal

pub returns : goal.returns
returns c = record {
  prefix = prefix_of c.in_ok-prefix.prefix;
  is = search rules;
  needs = refl;
  blocked = search rules;
  few = search rules;
  same = search rules;
}
