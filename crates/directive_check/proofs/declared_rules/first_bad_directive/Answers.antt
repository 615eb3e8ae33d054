use Rattle.std.proofs.Common.{[], ◌∷◌, map, refl}
use Rattle.syntax_tree.specs.MainProgram.{declaration, declared_of}
use Rattle.declarations.specs.Reasons.{at}
use Rattle.expression_rules.proofs.Turns.{first_next}
use Rattle.directive_check.specs.MappingRules.{declared_reasons}
use Rattle.directive_check.proofs.MappingBreaches.{first_of_line}
use Rattle.directive_check.proofs.declared_rules.first_bad_directive.Goals as goal

pub loop-decl-preserved : goal.loop-decl-preserved
loop-decl-preserved c =
    let s = c.args.setting.now in
    let d = c.decl-item.result in
    first_next (λ d. at d.line (declared_reasons s d.what)) (map declaration) (λ d. declaration d ∷ []) (λ d ds. refl)
    c.args.decls.now c.loop-decl.decl-index d c.loop-decl.first c.at_line.result c.earlier-first.result c.loop-decl-test.true c.decl-item.is
    (first_of_line d.line (declared_reasons s (declared_of d.what)) c.in_ok-reason.reason c.at_line.result c.in_ok-reason.ensures c.at_line.ensures)
    c.earlier-first.ensures c.loop-decl.invariant
