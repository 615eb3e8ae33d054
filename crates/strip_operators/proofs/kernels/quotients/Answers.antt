use Rattle.std.proofs.Common.{◌<◌, ◌∷◌, [], length, rules}
use Rattle.op_tables.specs.declared.op.Op.TheVariants.{Div}
use Rattle.array_meaning.specs.Elementals.{operated}
use Rattle.strip_operators.proofs.Puts.{put_more}
use Rattle.strip_operators.proofs.kernels.quotients.Goals as goal

pub loop-i-preserved : goal.loop-i-preserved
loop-i-preserved c =
    let lt : c.loop-i.i < length c.loop-i.out = search rules in
    put_more (λ k x. operated Div (x ∷ c.args.b.now ∷ [])) c.args.out.now c.loop-i.out c.put_value.new.out c.loop-i.i c.quotient-v.result.value lt c.put_value.ensures
    c.quotient-v.ensures c.loop-i.invariant.0 c.loop-i.invariant.1
