use Rattle.std.proofs.Common.{◌∙◌}
use Rattle.resolved_program.specs.Resolved.{block_of}
use Rattle.term_values.specs.States.{state_of}
use Rattle.interference.specs.IterationSpaces.{iterations_in, touches_at}
use Rattle.interference.proofs.Scanned.{rows_tell}
use Rattle.interference.proofs.clashes.first_clash.Goals as goal

pub returns-clause-clash : goal.returns-clause-clash
returns-clause-clash c =
    let touches = touches_at c.args.nest.now c.args.space.now (block_of c.args.innermost.now.items) (state_of c.args.s.now) in
    c.first_met.ensures.first
    ∙ rows_tell touches (iterations_in c.args.space.now) c.in_ok-w.w.visits c.in_ok-w.ensures.visits (c.scans_find.ensures touches (iterations_in c.args.space.now))
