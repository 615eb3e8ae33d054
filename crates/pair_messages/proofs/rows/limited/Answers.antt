use Rattle.std.proofs.Common.{ap, ◌∙◌, arith, map}
use Rattle.hpf_base.specs.ElementOrder.{product}
use Rattle.expression_rules.specs.Dims.{extent}
use Rattle.pair_messages.specs.Counts.{saturated}
use Rattle.pair_messages.proofs.OwnRows.{are-dims}
use Rattle.pair_messages.proofs.rows.limited.Goals as goal

pub new-requires : goal.new-requires
new-requires c =
    are-dims c.args.dims.items c.count_of.result c.requires (c.count_of.ensures ∙ ap (λ es. saturated (product es)) (c.deref-2.ensures.value ∙ c.in_ok-extents.ensures ∙ ap (map extent) c.deref.ensures.value)) (omega arith)
