use Rattle.std.proofs.Common.{map, sym, ◌∙◌}
use Rattle.std.specs.List.{flat_map}
use Rattle.syntax_tree.specs.Directive.{arrangement, directive_of}
use Rattle.syntax_tree.specs.MainProgram.{Directed}
use Rattle.declarations.specs.Declarations.{bounds_of}
use Rattle.declarations.specs.Declaring.{least_reason}
use Rattle.distribution_rules.specs.SpaceRules.{arrangement_reasons, space_reasons}
use Rattle.distribution_rules.proofs.spaces.bad_space.Goals as goal

pub returns-in_ok-found-in-Processors : goal.returns-in_ok-found-in-Processors
returns-in_ok-found-in-Processors c =
    let s = c.args.setting.now in
    c.in_ok-found-in-Processors.ensures
    ∙ (λ i. least_reason (flat_map (λ e. arrangement_reasons s.grid s.names (bounds_of e.bounds)) (map arrangement (c.deref-in-Processors.ensures.value i))))
    ∙ (λ i. least_reason (space_reasons s (Directed (directive_of (sym c.in-Processors.is i)))))
