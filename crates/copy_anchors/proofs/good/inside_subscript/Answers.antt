use Rattle.std.proofs.Common.{◌∙◌, FitsSigned, get_or, rules, w64}
use Rattle.std.proofs.lemmas.Int.{to_z-of_z}
use Rattle.copy_anchors.specs.Settled.{inside_along}
use Rattle.copy_anchors.proofs.BoundLaws.{along-inside}
use Rattle.copy_anchors.proofs.good.inside_subscript.Goals as goal
use mir.Syntax.{w128}

pub returns-then-axis-extents : goal.returns-then-axis-extents
returns-then-axis-extents c =
    let s = c.args.subscript.now in
    let ns = c.args.extents.now in
    let axis = c.in-Some.axis in
    let first-fits : FitsSigned w128 s.first = search rules in
    let step-fits : FitsSigned w128 s.step = search rules in
    let lower = to_z-of_z w64 c.args.lower c.ranges.lower in
    let extent = to_z-of_z w64 c.args.extent c.ranges.extent in
    let first = to_z-of_z w128 s.first first-fits in
    let step = to_z-of_z w128 s.step step-fits in
    c.inside_along.ensures ∙ (λ i. inside_along axis (get_or ns axis 0) (lower i) (extent i) (first i) (step i))
    ∙ along-inside ns c.args.lower c.args.extent s.first s.step axis s.axis c.in-Some.is c.if-axis-extents.true
