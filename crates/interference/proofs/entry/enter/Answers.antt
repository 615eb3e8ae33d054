use Rattle.std.proofs.Common.{◌≡◌, Ok, IfOk, IfErr, ap, subst, ◌∙◌}
use Rattle.term_values.specs.States.{state_of}
use Rattle.term_values.specs.Stops.{IsStop}
use Rattle.hpf_base.specs.ElementOrder.{product}
use Rattle.array_meaning.specs.Forall.{index_extents}
use Rattle.interference.specs.Entry.{check_space}
use Rattle.interference.specs.IterationSpaces.{innermost_of}
use Rattle.interference.specs.Limits.{saturated}
use Rattle.interference.proofs.AtEntry.{check_is}
use Rattle.interference.proofs.entry.enter.Goals as goal

pub returns-clause-entered : goal.returns-clause-entered
returns-clause-entered c =
    subst (λ r. IfOk c.check_space.result (λ x. r ≡ Ok (state_of c.args.s.now)))
    (ap (λ b. check_space c.args.nest.now c.in_ok-space.space b (state_of c.args.s.now)) c.innermost.ensures
    ∙ check_is c.args.nest.now c.args.outermost.now c.args.body.now.items (innermost_of c.args.nest.now c.args.body.now.items) c.in_ok-space.space (state_of c.args.s.now)
    c.tuples.result c.in_ok-space.ensures (c.tuples.ensures ∙ ap (λ axes. saturated (product (index_extents axes))) c.deref.ensures.value) c.if-tuples-eq0.false)
    c.check_space.ensures.entered

pub returns-clause-stopped : goal.returns-clause-stopped
returns-clause-stopped c =
    subst (λ r. IfErr c.check_space.result (IsStop r))
    (ap (λ b. check_space c.args.nest.now c.in_ok-space.space b (state_of c.args.s.now)) c.innermost.ensures
    ∙ check_is c.args.nest.now c.args.outermost.now c.args.body.now.items (innermost_of c.args.nest.now c.args.body.now.items) c.in_ok-space.space (state_of c.args.s.now)
    c.tuples.result c.in_ok-space.ensures (c.tuples.ensures ∙ ap (λ axes. saturated (product (index_extents axes))) c.deref.ensures.value) c.if-tuples-eq0.false)
    c.check_space.ensures.stopped
