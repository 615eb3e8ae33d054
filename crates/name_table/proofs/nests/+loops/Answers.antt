use Rattle.std.proofs.Common.{slice_get, sym, ap, ◌∙◌}
use Rattle.std.specs.Prelude.{option_map, ◌-◌}
use Rattle.syntax_tree.specs.Statement.{block_of}
use Rattle.statement_walk.specs.Nests.{nest_in}
use Rattle.name_table.proofs.NestSteps.{later_loop, other_loops}
use Rattle.name_table.proofs.nests.+loops.Goals as goal

pub loop_of-returns-else-stmts-eq1 : goal.loop_of-returns-else-stmts-eq1
loop_of-returns-else-stmts-eq1 t c = sym (ap (λ l. option_map (λ l. l.line) (slice_get l c.args.place)) (other_loops c.args.stmts.now c.if-stmts-eq1.false))

pub loop_of_do-returns-else-place-eq0 : goal.loop_of_do-returns-else-place-eq0
loop_of_do-returns-else-place-eq0 t c =
    c.loop_of.ensures
    ∙ ap (λ l. option_map (λ l. l.line) (slice_get (nest_in (block_of l)).loops (c.args.place - 1))) c.deref.ensures.value
    ∙ ap (option_map (λ l. l.line)) (sym (later_loop c.args.line c.args.inner.now c.in-Some.field-0 c.args.place c.in-Some.is c.if-place-eq0.false))
