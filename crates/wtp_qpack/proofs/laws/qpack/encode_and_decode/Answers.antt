use Rattle.std.proofs.Common.{◌≡◌, map, sym, ◌∙◌, ap, subst}
use Rattle.std.proofs.lemmas.List.{map-id}
use Rattle.std.proofs.lemmas.Iterator.{items_from_drains, YieldsList-from_slice}
use Rattle.std.proofs.lemmas.Iterator.Consumers.{YieldsList-from_copied}
use Rattle.wtp_qpack.specs.Field.{AreTexts, field_map, fields_of_texts, fields_of}
use Rattle.wtp_qpack.specs.FieldSection.{map_at, section_of}
use Rattle.wtp_qpack.proofs.RoundTrip.{map_again}
use Rattle.wtp_qpack.proofs.SectionWriting.{read_back}
use Rattle.wtp_qpack.proofs.laws.qpack.encode_and_decode.Goals as goal

pub returns : goal.returns
returns c =
    let given = c.in_ok-section.ensures in
    let rest : c.copied.result.iter.rest.now ≡ c.args.pairs.now = cc (c.copied.ensures.source, c.iter.ensures.rest) in
    let listed = YieldsList-from_copied (YieldsList-from_slice c.args.pairs.now rest) in
    let same : map (λ x. x) given.0 ≡ c.args.pairs.now = items_from_drains given.0 (given.1.1.0, given.1.1.1, λ _. (given.1.0, given.1.1.2)) listed in
    let pairs : given.0 ≡ c.args.pairs.now = sym (map-id given.0) ∙ same in
    let texts : AreTexts (fields_of_texts c.args.pairs.now) = subst (λ z. AreTexts (fields_of_texts z)) pairs given.2 in
    let bytes = c.as_slice.ensures.value ∙ given.3 ∙ ap (λ z. section_of (fields_of_texts z)) pairs in
    read_back fields_of c.decode.result _ (field_map (fields_of_texts c.args.pairs.now)) (ap map_at bytes ∙ map_again (fields_of_texts c.args.pairs.now) texts) c.decode.ensures.read
