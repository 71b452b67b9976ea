use Rattle.std.proofs.Common.{arith}
use Rattle.wtp_dynamic_encoder.proofs.Chained.{settle_start, settle_within, settle_found, settle_less, settle_on, settle_end}
use Rattle.wtp_dynamic_encoder.proofs.chain.Chain.settle.Goals as goal

pub loop-at-init : goal.loop-at-init
loop-at-init c = settle_start c.args.self.now c.args.hash c.args.start c.requires.bucket

pub index-link-requires : goal.index-link-requires
index-link-requires c = omega (arith, settle_within c.args.self.now c.args.hash c.args.start c.loop-at.at c.loop-at.invariant c.loop-at-test.true)

pub returns-then-link-hash : goal.returns-then-link-hash
returns-then-link-hash c =
    settle_found c.args.self.now c.args.hash c.args.start c.loop-at.at c.index-link.result.now c.loop-at.invariant c.loop-at-test.true c.index-link.ensures c.if-link-hash.true

pub loop-at-smaller : goal.loop-at-smaller
loop-at-smaller c =
    settle_less c.args.self.now c.args.hash c.args.start c.loop-at.at c.index-link.result.now c.requires.chain c.loop-at.invariant c.loop-at-test.true c.index-link.ensures

pub loop-at-preserved : goal.loop-at-preserved
loop-at-preserved c =
    settle_on c.args.self.now c.args.hash c.args.start c.loop-at.at c.index-link.result.now c.requires.chain c.loop-at.invariant c.loop-at-test.true c.index-link.ensures c.if-link-hash.false

pub returns : goal.returns
returns c = settle_end c.args.self.now c.args.hash c.args.start c.loop-at.at c.loop-at.invariant c.loop-at-test.false
