use Rattle.std.proofs.Common.{◌≡◌, ◌<◌, ◌+◌, ℕ, List, arith, drop, length, pos}
use Rattle.std.proofs.lemmas.List.{at_drop_more}
use Rattle.expression_rules.specs.declared.dims.Dim.{Dim}
use Rattle.array_meaning.specs.Resolution.{whole}
use Rattle.program_code.specs.ExpressionCode.{subscripts_slots}
use Rattle.node_codegen.proofs.array_bounds.bounds_slots.Goals as goal

-- one dimension more
next_slots : (ds : List Dim) (n sum next all : ℕ) → n < length ds → next ≡ sum + 3 → sum + subscripts_slots (whole (drop n ds)) ≡ all →
    next + subscripts_slots (whole (drop (n + 1) ds)) ≡ all
next_slots ds n sum next all within is so_far =
    let three : subscripts_slots (whole (drop n ds)) ≡ 3 + subscripts_slots (whole (drop (n + 1) ds)) =
    at_drop_more (λ l. subscripts_slots (whole l)) ds n (record { lower = pos 0; upper = pos 0 }) within in
    omega (arith, is, three, so_far)

pub loop-d-preserved : goal.loop-d-preserved
loop-d-preserved c = next_slots c.args.dims.now c.loop-d._d-index c.loop-d.sum c.in_ok-sum.sum _ c.loop-d-test.true c.in_ok-sum.ensures c.loop-d.invariant
