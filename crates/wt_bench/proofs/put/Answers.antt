use Rattle.std.proofs.Common.{◌<◌, ◌^◌, length, refl, rules, arith}
use Rattle.std.proofs.lemmas.Int.{of_z-to_z, to_z_pos}
use Rattle.std.specs.Int.{w64}
use Rattle.wt_bench.proofs.put.Goals as goal

pub returns-in-Some-clause-count : goal.returns-in-Some-clause-count
returns-in-Some-clause-count c = λ room.
    let small : length c.args.bytes.now < 2 ^ 63 = search rules in
    let wide : length c.args.bytes.now < 2 ^ 64 = omega (arith, small) in
    rw (c.cast_signed.ensures, of_z-to_z w64 (length c.args.bytes.now) wide, to_z_pos w64 (length c.args.bytes.now) small) refl
