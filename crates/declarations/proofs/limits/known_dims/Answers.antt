use Rattle.std.proofs.Common.{map, sym, ap, ◌∙◌}
use Rattle.std.specs.Prelude.{option_map}
use Rattle.syntax_tree.specs.Directive.{bound}
use Rattle.declarations.specs.Declarations.{dims}
use Rattle.declarations.proofs.ArrayLimits.{are_dims}
use Rattle.declarations.proofs.limits.known_dims.Goals as goal

pub new-requires : goal.new-requires
new-requires c =
    are_dims c.args.names.now (map bound c.args.bounds.now) c.in-Some.dims.items (sym c.in_ok-past.ensures ∙ c.if-past.false)
    (ap (λ t. dims t (map bound c.args.bounds.now)) (sym (c.new-scope.ensures ∙ c.table.ensures)) ∙ sym c.in_ok-dims.ensures ∙ ap (option_map (λ v. v.items)) c.in-Some.is)
