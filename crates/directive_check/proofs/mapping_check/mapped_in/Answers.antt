use Rattle.std.proofs.Common.{[], subst, sym, ap, ◌∙◌}
use Rattle.std.specs.Prelude.{All}
use Rattle.expression_rules.specs.Symbols.{find}
use Rattle.directive_check.specs.MappedSteps.{IsListed}
use Rattle.directive_check.proofs.ListedNames.{all_listed}
use Rattle.directive_check.proofs.mapping_check.mapped_in.Goals as goal

pub mapped_objects-requires : goal.mapped_objects-requires
mapped_objects-requires c =
    subst (All IsListed) (sym c.deref.ensures.value)
    (all_listed c.args.tree.now (ap (find []) (sym c.requires.names ∙ sym c.table.ensures) ∙ c.valid.ensures) c.requires.resolved)
