use Rattle.std.proofs.Common.{map, ◌∙◌}
use Rattle.std.specs.List.{flat_map}
use Rattle.syntax_tree.specs.Directive.{Entity, arrangement}
use Rattle.declarations.specs.Declarations.{bounds_of}
use Rattle.declarations.specs.Declaring.{least_reason}
use Rattle.hpf_base.specs.declared.refusal.Reason.{Reason}
use Rattle.std.specs.Prelude.{List}
use Rattle.distribution_rules.specs.SpaceRules.{arrangement_reasons}
use Rattle.declarations.proofs.LeastReasons.{least_reason_append, lesser_next}
use Rattle.distribution_rules.proofs.spaces.bad_arrangements.Goals as goal

pub loop-entity-preserved : goal.loop-entity-preserved
loop-entity-preserved c =
    let reasons : Entity → List Reason = λ e. arrangement_reasons c.args.setting.now.grid c.args.setting.now.names (bounds_of e.bounds) in
    lesser_next (λ es. least_reason (flat_map reasons (map arrangement es))) (λ e. least_reason (reasons (arrangement e)))
    (λ e es. least_reason_append (reasons (arrangement e)) (flat_map reasons (map arrangement es)))
    c.args.entities.now c.loop-entity.entity-index c.entity-item.result c.loop-entity.least c.in_ok-found.found c.lesser-least.result
    c.loop-entity-test.true c.entity-item.is
    (c.in_ok-found.ensures ∙ (λ i. least_reason (arrangement_reasons (c.grid.ensures i) (c.table.ensures i) (c.space_bounds.ensures i))))
    c.lesser-least.ensures c.loop-entity.invariant
