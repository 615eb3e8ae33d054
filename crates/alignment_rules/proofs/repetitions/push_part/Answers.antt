use Rattle.std.proofs.Common.{◌++◌, ap, sym, ◌∙◌}
use Rattle.std.specs.List.{flat_map}
use Rattle.syntax_tree.specs.Expression.{subscript}
use Rattle.expression_rules.specs.Partial.{maybe_of}
use Rattle.name_table.specs.Directives.{maybe_expressions, part_expressions}
use Rattle.linear_subscripts.specs.LinearForms.{dummies_in}
use Rattle.linear_subscripts.proofs.FoundNames.{triplet_is}
use Rattle.alignment_rules.proofs.PairReasons.{flat_three}
use Rattle.alignment_rules.proofs.repetitions.push_part.Goals as goal

pub returns-in_ok-push_if_any-in-Triplet-3 : goal.returns-in_ok-push_if_any-in-Triplet-3
returns-in_ok-push_if_any-in-Triplet-3 c =
    let names = dummies_in c.args.dummies.now in
    flat_three names c.args.found.now.items c.push_if_any.new.found.items c.push_if_any-in-Triplet.new.found.items
    c.push_if_any-in-Triplet-2.new.found.items (maybe_expressions (maybe_of c.in-Triplet.first)) (maybe_expressions (maybe_of c.in-Triplet.last))
    (maybe_expressions (maybe_of c.in-Triplet.step))
    c.in_ok-push_if_any-in-Triplet.ensures c.in_ok-push_if_any-in-Triplet-2.ensures c.in_ok-push_if_any-in-Triplet-3.ensures
    ∙ sym (ap (λ t. c.args.found.now.items ++ flat_map names (part_expressions t))
    (ap subscript c.in-Triplet.is ∙ triplet_is c.in-Triplet.first c.in-Triplet.last c.in-Triplet.step))
