use Rattle.std.proofs.Common.{◌∙◌, ap}
use Rattle.array_meaning.specs.Iterations.{with_indices}
use Rattle.term_values.specs.States.{state_of}
use Rattle.interference.proofs.StateKept.{state_kept}
use Rattle.interference.proofs.clashes.note_iteration.Goals as goal

pub returns-clause-unchanged : goal.returns-clause-unchanged
returns-clause-unchanged c =
    state_kept (state_of c.args.s.now) (state_of c.set_iteration.new.s) (state_of c.note_block-done.new.s) (state_of c.set_back.new.s) c.args.space.now c.args.w.now.iteration c.args.indices.now
    c.requires.kept c.set_iteration.ensures c.note_block-done.ensures.unchanged
    (c.set_back.ensures ∙ ap (λ xs. with_indices xs c.args.indices.now (state_of c.note_block-done.new.s)) c.deref.ensures.value)
