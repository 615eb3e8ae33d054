use Rattle.std.proofs.Common.{◌<◌, ◌∷◌, [], length, pos, rules}
use Rattle.std.specs.Prelude.{slice_index_or}
use Rattle.array_meaning.specs.Elementals.{operated}
use Rattle.strip_operators.proofs.Puts.{put_more}
use Rattle.strip_operators.proofs.kernels.any_over.Goals as goal

pub loop-i-preserved : goal.loop-i-preserved
loop-i-preserved c =
    let lt : c.loop-i.i < length c.loop-i.out = search rules in
    put_more (λ k x. operated c.args.op (x ∷ slice_index_or c.args.b.now k (pos 0) ∷ [])) c.args.out.now c.loop-i.out c.put_value.new.out c.loop-i.i c.in-Some.v.value lt c.put_value.ensures
    c.in-Some.ensures c.loop-i.invariant.0 c.loop-i.invariant.1
