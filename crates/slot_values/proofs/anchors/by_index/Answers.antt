use Rattle.std.proofs.Common.{rules, ◌≡◌, ◌∙◌, ◌+ℤ◌, ◌*ℤ◌, ◌-ℤ◌, SFits, ap, of_z, to_z}
use Rattle.std.proofs.lemmas.Int.{to_z-of_z}
use Rattle.std.specs.Int.{w64, w128}
use Rattle.mappings.specs.declared.mapping.AlignDim.TheVariants.{Linear}
use Rattle.slot_values.proofs.AnchorSteps.{from_first}
use Rattle.slot_values.proofs.anchors.by_index.Goals as goal

pub returns : goal.returns
returns c =
    let p = c.args.p.now in
    let factor = c.args.factor in
    let fits_first : SFits w64 p.first = search rules in
    let fits_step : SFits w64 p.step = search rules in
    let first : to_z w64 (of_z w64 p.first) ≡ p.first = to_z-of_z w64 p.first fits_first in
    let step : to_z w64 (of_z w64 p.step) ≡ p.step = to_z-of_z w64 p.step fits_step in
    let by : to_z w64 (of_z w64 factor) ≡ factor = to_z-of_z w64 factor c.ranges.factor in
    let offset : to_z w64 (of_z w64 c.args.offset) ≡ c.args.offset = to_z-of_z w64 c.args.offset c.ranges.offset in
    let start : c.linear-first.result ≡ (factor *ℤ p.first) +ℤ c.args.offset = c.linear-first.ensures ∙ (λ i. (by i *ℤ first i) +ℤ offset i) in
    let more : c.product-step.result ≡ factor *ℤ p.step = c.product-step.ensures ∙ (λ i. by i *ℤ step i) in
    let wide_start : SFits w128 c.linear-first.result = search rules in
    let wide_more : SFits w128 c.product-step.result = search rules in
    let same_start : to_z w128 (of_z w128 c.linear-first.result) ≡ c.linear-first.result = to_z-of_z w128 c.linear-first.result wide_start in
    let same_more : to_z w128 (of_z w128 c.product-step.result) ≡ c.product-step.result = to_z-of_z w128 c.product-step.result wide_more in
    c.along_axis.ensures
    ∙ (λ i. Linear c.args.k ((same_more ∙ more) i) ((same_start ∙ start) i -ℤ (same_more ∙ more) i))
    ∙ ap (Linear c.args.k (factor *ℤ p.step)) (from_first factor p.first p.step c.args.offset)
