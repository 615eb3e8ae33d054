use Rattle.std.proofs.Common.{ap, ◌∙◌}
use Rattle.resolved_program.specs.Resolved.{statement}
use Rattle.resolved_program.proofs.Rows.{do_vec}
use Rattle.resolved_program.specs.InnerLoops.{innermost_in, loops_of}
use Rattle.node_codegen.proofs.nest_loops.loop_in.Goals as goal

pub returns-in-Do-clause-loops : goal.returns-in-Do-clause-loops
returns-in-Do-clause-loops c = λ n. ap (λ a. loops_of n (statement a)) c.in-Do.is ∙ ap (loops_of n) (do_vec c.in-Do.field-0 c.in-Do.head c.in-Do.body)

pub returns-in-Do-clause-inside : goal.returns-in-Do-clause-inside
returns-in-Do-clause-inside c = λ n block.
    ap (λ a. innermost_in n (statement a) block) c.in-Do.is ∙ ap (λ st. innermost_in n st block) (do_vec c.in-Do.field-0 c.in-Do.head c.in-Do.body)
