use Rattle.std.proofs.Common.{◌≡◌, suc, ◌-◌, IfOk, subst, arith}
use Rattle.code_meaning.specs.FaultNumbers.{location_by}
use Rattle.term_values.specs.Stops.{location}
use Rattle.slot_values.proofs.numbered_faults.place_past_one.Goals as goal

pub returns : goal.returns
returns c =
    let two_more : suc (suc (c.args.which - 2)) ≡ c.args.which = omega (arith, c.requires.past) in
    subst (λ n. IfOk c.place_between.result (λ p. location p ≡ location_by n c.args.numbers.now)) two_more (c.place_between.ensures (c.args.which - 2))
