use Rattle.std.proofs.Common.{◌≤◌, ◌^◌, sym, ap, subst, ◌∙◌, map}
use Rattle.hpf_base.specs.ElementOrder.{product}
use Rattle.expression_rules.specs.Dims.{extent}
use Rattle.pair_messages.proofs.OwnRows.{own-few}
use Rattle.pair_messages.proofs.rows.extents_of.Goals as goal

pub returns-clause-few : goal.returns-clause-few
returns-clause-few c =
    subst (λ es. product es ≤ 2 ^ 32) (sym (c.in_ok-extents.ensures ∙ ap (map extent) c.as_slice.ensures.value)) (own-few c.args.dims.now c.as_slice.ensures.valid)
