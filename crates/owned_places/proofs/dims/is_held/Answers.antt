use Rattle.std.proofs.Common.{All, rules, FitsSigned, sym, ◌∙◌, subst}
use Rattle.std.proofs.lemmas.Int.{to_z-of_z}
use Rattle.std.specs.Int.{w64}
use Rattle.mappings.specs.Mapping.{InLine}
use Rattle.owned_places.specs.Dims.{given_along}
use Rattle.owned_places.proofs.Entries.{along-inside}
use Rattle.owned_places.proofs.dims.is_held.Goals as goal

pub agree_along-requires-clause-inside : goal.agree_along-requires-clause-inside
agree_along-requires-clause-inside c =
    let fits : FitsSigned w64 c.narrow.result = search rules in
    subst (λ i. All (λ e. InLine e.line (given_along c.args.k i e.align)) c.args.mapping.now.dims) (sym (to_z-of_z w64 c.narrow.result fits ∙ c.narrow.ensures))
    (along-inside c.args.dims.now c.args.mapping.now c.args.k _ c.requires.lie c.requires.dim (sym c.in_dim.ensures.value ∙ c.if-in_dim.true))
