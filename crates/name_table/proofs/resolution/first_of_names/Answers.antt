use Rattle.std.proofs.Common.{[], map, ap, ◌∙◌}
use Rattle.std.specs.List.{flat_map}
use Rattle.hpf_base.specs.FirstBreach.{least}
use Rattle.syntax_tree.specs.MainProgram.{declaration, main_program}
use Rattle.syntax_tree.specs.Statement.{block_of}
use Rattle.declarations.specs.Declarations.{items, symbol_table}
use Rattle.statement_walk.specs.Heads.{all_heads}
use Rattle.name_table.specs.NameRules.{directive_breaches_at, end_breaches, name_breaches_at, nest_breaches}
use Rattle.declarations.specs.DeclarationRules.{item_breaches}
use Rattle.statement_walk.specs.Nests.{nests}
use Rattle.name_table.proofs.ProgramBreaches.{earliest_of_five}
use Rattle.name_table.proofs.resolution.first_of_names.Goals as goal

pub returns : goal.returns
returns c =
    let ds = map declaration c.args.tree.now.decls.items in
    let body = block_of c.args.tree.now.body.items in
    earliest_of_five (item_breaches [] (items ds)) (flat_map (directive_breaches_at (symbol_table ds)) ds) (flat_map (name_breaches_at (symbol_table ds)) (all_heads body))
    (flat_map nest_breaches (nests body)) (end_breaches (main_program c.args.tree.now))
    c.args.first c.in_ok-directed.directed c.in_ok-named.named c.first_deep_nest.result c.bad_end_name.result
    c.earlier-after.result c.earlier.result c.earlier-2.result c.earlier-3.result
    c.requires.first
    (c.in_ok-directed.ensures ∙ (λ i. least (flat_map (directive_breaches_at (c.requires.table i)) (map declaration (c.deref.ensures.value i)))))
    (c.in_ok-named.ensures ∙ (λ i. least (flat_map (name_breaches_at (c.requires.table i)) (all_heads (block_of (c.deref-2.ensures.value i))))))
    (c.first_deep_nest.ensures ∙ ap (λ l. least (flat_map nest_breaches (nests (block_of l)))) c.deref-3.ensures.value)
    c.bad_end_name.ensures
    c.earlier-after.ensures c.earlier.ensures c.earlier-2.ensures c.earlier-3.ensures
