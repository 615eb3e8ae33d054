use Rattle.std.proofs.Common.{map, ◌∙◌}
use Rattle.std.specs.List.{flat_map}
use Rattle.hpf_base.specs.FirstBreach.{least}
use Rattle.syntax_tree.specs.MainProgram.{declaration}
use Rattle.syntax_tree.specs.Statement.{block_of}
use Rattle.declarations.specs.Declarations.{symbol_table}
use Rattle.statement_walk.specs.Heads.{all_heads}
use Rattle.name_table.specs.RankRules.{declaration_breaches_at, rank_breaches_at}
use Rattle.name_table.proofs.ProgramBreaches.{earliest_of_two}
use Rattle.name_table.proofs.resolution.first_of_ranks.Goals as goal

pub returns : goal.returns
returns c =
    let ds = map declaration c.args.tree.now.decls.items in
    earliest_of_two (flat_map (declaration_breaches_at (symbol_table ds)) ds) (flat_map (rank_breaches_at (symbol_table ds)) (all_heads (block_of c.args.tree.now.body.items)))
    c.in_ok-declared.declared c.in_ok-ranked.ranked c.earlier.result
    (c.in_ok-declared.ensures ∙ (λ i. least (flat_map (declaration_breaches_at (c.requires i)) (map declaration (c.deref.ensures.value i)))))
    (c.in_ok-ranked.ensures ∙ (λ i. least (flat_map (rank_breaches_at (c.requires i)) (all_heads (block_of (c.deref-2.ensures.value i))))))
    c.earlier.ensures
