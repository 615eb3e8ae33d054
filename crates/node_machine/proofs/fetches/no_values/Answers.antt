use Rattle.std.proofs.Common.{◌≡◌, refl, sym, ◌∙◌, arith}
use Rattle.node_machine.proofs.Picks.{no_values-length, no_values-more}
use Rattle.node_machine.proofs.fetches.no_values.Goals as goal

pub loop-preserved : goal.loop-preserved
loop-preserved c = (
  c.in_ok-push.ensures.items ∙ rw (c.loop.invariant.0, c.new.ensures) (sym (no_values-more c.loop.counter)),
  omega (arith, c.loop-test.true),
)

pub returns-clause-items : goal.returns-clause-items
returns-clause-items c =
    let e : c.loop.counter ≡ c.args.nodes = omega (arith, c.loop-test.false, c.loop.invariant.1) in
    c.loop.invariant.0 ∙ rw e refl

pub returns-clause-len : goal.returns-clause-len
returns-clause-len c =
    let e : c.loop.counter ≡ c.args.nodes = omega (arith, c.loop-test.false, c.loop.invariant.1) in
    no_values-length c.args.nodes c.loop.bodies.items (c.loop.invariant.0 ∙ rw e refl)
