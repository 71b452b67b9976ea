use Rattle.std.proofs.Common.{◌≡◌, ◌∙◌, ◌+◌, length, refl, ap, arith}
use Rattle.wtp_dynamic_encoder.specs.Chains.{bucket_of}
use Rattle.wtp_dynamic_encoder.proofs.Chained.{chain_push, any_default}
use Rattle.wtp_dynamic_encoder.proofs.chain.Chain.push.Goals as goal

pub returns-clause-chain : goal.returns-clause-chain
returns-clause-chain c =
    let buckets : c.len.result ≡ length c.args.self.now.heads.items = omega arith in
    chain_push c.args.self.now _ (record { hash = c.args.hash; earlier = c.index-earlier.result.now }) c.bucket_of-bucket.result (c.args.self.now.dropped + c.len-2.result + 1) c.requires.chain
    (c.bucket_of-bucket.ensures.value ∙ ap (λ n. bucket_of n c.args.hash) buckets) (omega (arith, c.bucket_of-bucket.ensures.within, buckets))
    (any_default c.args.self.now.heads.items c.bucket_of-bucket.result c.index-earlier.result.now (omega (arith, c.bucket_of-bucket.ensures.within, buckets)) c.index-earlier.ensures)
    (omega arith) refl c.push_back_reserved.ensures.items refl
