use Rattle.std.proofs.Common.{◌+ℤ◌, ◌∙◌, arith, w64}
use Rattle.std.proofs.lemmas.Int.{to_z-of_z}
use Rattle.aligned_copies.specs.Beside.{is_in}
use Rattle.copy_anchors.proofs.BoundLaws.{second-out}
use Rattle.copy_anchors.proofs.bounds.inside_along.Goals as goal
use mir.Syntax.{w128}

pub returns-then-not-is_next_in : goal.returns-then-not-is_next_in
returns-then-not-is_next_in c =
    let lower = to_z-of_z w64 c.args.lower c.ranges.lower in
    let extent = to_z-of_z w64 c.args.extent c.ranges.extent in
    let first = to_z-of_z w128 c.args.first c.ranges.first in
    let step = to_z-of_z w128 c.args.step c.ranges.step in
    second-out c.args.axis c.args.count c.args.lower c.args.extent c.args.first c.args.step (omega (arith, c.requires.some, c.if-count-eq1.false))
    (c.if-not-is_next_in.ensures ∙ (λ i. is_in (lower i) (extent i) (first i +ℤ step i)))
