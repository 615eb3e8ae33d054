use Rattle.std.proofs.Common.{ap, ◌∙◌, ℤ, pos, negsuc, ◌+ℤ◌, ◌-ℤ◌, ◌≤ℤ◌, ◌^◌, FitsSigned, w64, arith, rules}
use Rattle.std.proofs.lemmas.Int.{ints, to_z-of_z}
use mir.Syntax.{w128}
use Rattle.interference.proofs.limits.last.Goals as goal

few_fit : (z : ℤ) → negsuc 0 ≤ℤ z → z ≤ℤ pos (2 ^ 43) → FitsSigned w64 z
few_fit (pos n) least most = record { sfits = omega (arith, ints) }
few_fit (negsuc n) least most = record { sfits = omega (arith, ints) }

pub returns : goal.returns
returns c =
    let fewer : FitsSigned w64 (c.args.count -ℤ pos 1) = few_fit (c.args.count -ℤ pos 1) (omega (arith, ints)) (omega (arith, ints)) in
    let way : FitsSigned w128 c.steps.result = search rules in
    to_z-of_z w128 c.sum.result (search rules)
    ∙ simp (to_z-of_z w64 c.args.first c.ranges.first, to_z-of_z w128 c.steps.result way) at c.sum.ensures
    ∙ ap (λ z. c.args.first +ℤ z)
    (simp (to_z-of_z w64 c.args.count c.ranges.count, to_z-of_z w64 c.args.step c.ranges.step, to_z-of_z w64 (c.args.count -ℤ pos 1) fewer) at c.steps.ensures.value)
