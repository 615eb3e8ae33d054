use Rattle.std.proofs.Common.{◌≡◌, ◌&&◌, ◌-◌, sym, ◌∙◌, ap, FitsSigned, of_z, rules, to_z}
use Rattle.std.proofs.lemmas.Int.{to_z-of_z}
use Rattle.std.specs.Int.{w64, w128}
use Rattle.courses.specs.AxisTables.{subscript_on}
use Rattle.courses.specs.Subscripts.{in_dim}
use Rattle.owned_places.proofs.AllInside.{by-ends}
use Rattle.owned_places.proofs.inside.is_moving_inside.Goals as goal

pub returns : goal.returns
returns c =
    let dims = c.args.dims.now in
    let k = c.args.k in
    let first = c.args.first in
    let step = c.args.step in
    let first-is : to_z w64 (of_z w64 first) ≡ first = to_z-of_z w64 first c.ranges.first in
    let step-is : to_z w64 (of_z w64 step) ≡ step = to_z-of_z w64 step c.ranges.step in
    let fits : FitsSigned w128 c.subscript_on.result = search rules in
    let fits-last : FitsSigned w128 c.subscript_on-2.result = search rules in
    let at-first : c.in_dim.result ≡ in_dim dims k (subscript_on first step 0) =
    c.in_dim.ensures.value ∙ ap (in_dim dims k) (to_z-of_z w128 c.subscript_on.result fits ∙ c.subscript_on.ensures ∙ (λ i. subscript_on (first-is i) (step-is i) 0)) in
    let at-last : c.in_dim-2.result ≡ in_dim dims k (subscript_on first step (c.args.extent - 1)) =
    c.in_dim-2.ensures.value
    ∙ ap (in_dim dims k) (to_z-of_z w128 c.subscript_on-2.result fits-last ∙ c.subscript_on-2.ensures ∙ (λ i. subscript_on (first-is i) (step-is i) (c.args.extent - 1))) in
    λ held. by-ends dims k first step c.args.extent ((λ i. sym at-first i && sym at-last i) ∙ held)
