use Rattle.std.proofs.Common.{◌≡◌, ◌+◌, ◌<◌, ◌++◌, ◌∷◌, [], pos, get_or, take, map, length, sym, ◌∙◌, ap, subst, arith, to_z, FitsSigned, rules}
use Rattle.std.proofs.lemmas.Int.{to_z-of_z}
use Rattle.std.proofs.lemmas.List.{map_more, take_more}
use Rattle.std.specs.Int.{w64}
use Rattle.expression_rules.specs.declared.dims.Dim.{Dim}
use Rattle.expression_rules.specs.Dims.{extent}
use Rattle.owned_places.proofs.laid.has_dims.Goals as goal

abbrev zero_dim : Dim
zero_dim = record { lower = pos 0; upper = pos 0 }

pub loop-k-preserved : goal.loop-k-preserved
loop-k-preserved c =
    let lower = c.numbers-lower.result.now in
    let extents = c.numbers-extents.result.now in
    let dims = c.args.dims.now in
    let k = c.loop-k.k in
    let lower-fits : FitsSigned w64 (get_or lower k (pos 0)) = search rules in
    let dim-fits : FitsSigned w64 (get_or dims k zero_dim).lower = search rules in
    let extent-fits : FitsSigned w64 (get_or extents k (pos 0)) = search rules in
    let found-fits : FitsSigned w64 c.extent_of.result = search rules in
    let same-lower : get_or lower k (pos 0) ≡ (get_or dims k zero_dim).lower =
    sym (to_z-of_z w64 (get_or lower k (pos 0)) lower-fits) ∙ ap (to_z w64) c.if-lower-k.false ∙ to_z-of_z w64 (get_or dims k zero_dim).lower dim-fits in
    let same-extent : get_or extents k (pos 0) ≡ pos (extent (get_or dims k zero_dim)) =
    sym (to_z-of_z w64 (get_or extents k (pos 0)) extent-fits) ∙ ap (to_z w64) c.if-extents-k.false ∙ to_z-of_z w64 c.extent_of.result found-fits ∙ c.extent_of.ensures in
    let lower-is = c.numbers-lower.ensures.value in
    let extent-is = c.numbers-extents.ensures.value in
    let lower-below : k < length lower = omega (arith, c.loop-k-test.true, c.if-lower-dims.false) in
    let extent-below : k < length extents = omega (arith, lower-below, ap length lower-is, ap length extent-is, c.requires.shape.rank) in (
      subst (λ ls. take (k + 1) ls ≡ map (λ d. d.lower) (take (k + 1) dims)) lower-is
          (take_more lower k (pos 0) lower-below ∙ ap (λ ls. ls ++ get_or lower k (pos 0) ∷ []) (ap (take k) lower-is ∙ c.loop-k.invariant.0)
          ∙ ap (λ l. map (λ d. d.lower) (take k dims) ++ l ∷ []) same-lower ∙ sym (map_more (λ d. d.lower) dims k zero_dim c.loop-k-test.true)),
      subst (λ es. take (k + 1) es ≡ map (λ d. pos (extent d)) (take (k + 1) dims)) extent-is
          (take_more extents k (pos 0) extent-below ∙ ap (λ es. es ++ get_or extents k (pos 0) ∷ []) (ap (take k) extent-is ∙ c.loop-k.invariant.1)
          ∙ ap (λ e. map (λ d. pos (extent d)) (take k dims) ++ e ∷ []) same-extent ∙ sym (map_more (λ d. pos (extent d)) dims k zero_dim c.loop-k-test.true)),
    )
