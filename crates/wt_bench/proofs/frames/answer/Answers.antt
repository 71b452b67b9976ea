use Rattle.std.proofs.Common.{◌<◌, ◌^◌, refl, arith}
use Rattle.std.proofs.lemmas.Int.{of_z-to_z, to_z_pos}
use Rattle.std.specs.Int.{w64}
use Rattle.wt_bench.proofs.frames.answer.Goals as goal

pub returns : goal.returns
returns c =
    let wide : c.args.frames < 2 ^ 64 = omega (arith, c.requires) in
    rw (c.cast_signed.ensures, of_z-to_z w64 c.args.frames wide, to_z_pos w64 c.args.frames c.requires) refl
