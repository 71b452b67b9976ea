use Rattle.std.proofs.Common.{arith, []}
use Rattle.wtp_core.specs.VarintLenNeeded.{varint_need_range}
use Rattle.wtp_wire.specs.HeaderNeed.{header_need_is}
use Rattle.wtp_wire.proofs.stream_header.reading.HeaderReading.new.Goals as goal

pub invariant_of-result : goal.invariant_of-result
invariant_of-result c = (omega arith, omega (arith, header_need_is [], (varint_need_range []).0))
