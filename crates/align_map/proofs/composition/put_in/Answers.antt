use Rattle.std.proofs.Common.{rules, FitsSigned, to_z, of_z}
use Rattle.std.proofs.lemmas.Int.{to_z-of_z}
use Rattle.std.specs.Int.{w64}
use Rattle.align_map.proofs.ComposedLaws.{put_in_linear}
use Rattle.align_map.proofs.composition.put_in.Goals as goal

pub returns-in-Linear : goal.returns-in-Linear
returns-in-Linear c =
    let a-fits : FitsSigned w64 c.in-Linear.a = search rules in
    let b-fits : FitsSigned w64 c.in-Linear.b = search rules in
    put_in_linear c.args.align.now c.args.outer.now c.in-Linear.dim c.in-Linear.a c.in-Linear.b (to_z w64 (of_z w64 c.in-Linear.a))
    (to_z w64 (of_z w64 c.in-Linear.b)) _ c.through.result c.through.ensures (to_z-of_z w64 c.in-Linear.a a-fits)
    (to_z-of_z w64 c.in-Linear.b b-fits) c.in-Linear.is c.requires.align
