use Rattle.std.proofs.Common.{sym, subst}
use Rattle.syntax_tree.specs.Statement as syntax
use Rattle.array_meaning.specs.Resolution.{resolved_block}
use Rattle.program_plan.specs.Nests.{IsNestOf}
use Rattle.program_plan.proofs.StatementForms.{other_count}
use Rattle.program_plan.proofs.NestLaws.{marked_nest}
use Rattle.program_plan.proofs.NoLoops.{no_loop}
use Rattle.program_plan.proofs.nests.+nest.Goals as goal

pub nest_in-returns-else-stmts-eq1 : goal.nest_in-returns-else-stmts-eq1
nest_in-returns-else-stmts-eq1 t c = sym (other_count c.args.names.now c.args.stmts.now c.if-stmts-eq1.false).1

pub nest_of-returns-in_ok-nest-in-Some : goal.nest_of-returns-in_ok-nest-in-Some
nest_of-returns-in_ok-nest-in-Some t c = λ line.
    marked_nest c.args.names.now c.args.inner.now c.in-Some.mark c.in_ok-within-in-Some.within c.in_ok-nest-in-Some.nest line c.in-Some.is
    (subst (λ l. IsNestOf c.in_ok-within-in-Some.within (resolved_block c.args.names.now (syntax.block_of l))) c.deref.ensures.value c.in_ok-within-in-Some.ensures)
    c.in_ok-nest-in-Some.ensures.line c.in_ok-nest-in-Some.ensures.count c.in_ok-nest-in-Some.ensures.new c.in_ok-nest-in-Some.ensures.reduction

pub nest_of_one-returns-in_default : goal.nest_of_one-returns-in_default
nest_of_one-returns-in_default t c = (no_loop c.args.names.now c.args.stmt.now.line c.args.stmt.now.what c.in_default.not-Do).0 c.args.stmt.now.line
