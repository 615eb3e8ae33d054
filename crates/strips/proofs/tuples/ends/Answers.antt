use Rattle.std.proofs.Common.{◌≡◌, ◌+◌, ◌-◌, ◌<◌, ◌∷◌, suc, pos, arith, Ok}
use Rattle.term_values.specs.States.{state_of}
use Rattle.strips.specs.Places.{tuple_place}
use Rattle.strips.proofs.Runs.{run_by_ends}
use Rattle.strips.proofs.tuples.ends.Goals as goal

pub returns : goal.returns
returns c =
    let second : tuple_place (state_of c.args.s.now) c.args.a c.args.ds.now (pos (suc (c.args.u + 1)) ∷ c.args.rest.now) ≡ Ok c.in-Some.second = rw c.in-Some.is at c.in_ok-second.ensures in
    let last : tuple_place (state_of c.args.s.now) c.args.a c.args.ds.now (pos (suc (c.args.u + (c.args.n - 1))) ∷ c.args.rest.now) ≡ Ok c.in-Some-2._last = rw c.in-Some-2.is at c.in_ok-_last.ensures in
    let up : c.args.first < c.in-Some.second = omega (arith, c.if-first-second.false) in
    let step : c.in-Some.second - c.args.first ≡ 1 = omega (arith, up, c.if-second-first-ne1.false) in
    run_by_ends (state_of c.args.s.now) c.args.a c.args.ds.now c.args.u c.args.rest.now c.args.n c.args.first c.in-Some.second c.in-Some-2._last c.requires.slow c.requires.few c.requires.two
    c.requires.first second last up step
