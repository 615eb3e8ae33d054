use Rattle.std.proofs.Common.{[], ◌∷◌, map, refl, sym, ap, ◌∙◌}
use Rattle.std.proofs.lemmas.List.{append-nil}
use Rattle.hpf_base.specs.FirstBreach.{least}
use Rattle.syntax_tree.specs.MainProgram.{declaration}
use Rattle.name_table.specs.RankRules.{declaration_breaches_at}
use Rattle.expression_rules.proofs.Turns.{first_next}
use Rattle.name_table.proofs.declaration_ranks.first_bad_declaration.Goals as goal

pub loop-decl-preserved : goal.loop-decl-preserved
loop-decl-preserved c =
    let breaches = declaration_breaches_at c.args.table.now in
    first_next breaches (map declaration) (λ d. declaration d ∷ []) (λ d ds. refl)
    c.args.decls.now c.loop-decl.decl-index c.decl-item.result c.loop-decl.first c.in_ok-found.found c.earlier-first.result c.loop-decl-test.true c.decl-item.is
    (c.in_ok-found.ensures ∙ ap least (sym (append-nil (breaches (declaration c.decl-item.result))))) c.earlier-first.ensures c.loop-decl.invariant
