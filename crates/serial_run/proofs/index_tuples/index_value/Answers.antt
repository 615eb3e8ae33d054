use Rattle.std.proofs.Common.{◌≡◌, ap, ◌∙◌, suc, pos, ◌+ℤ◌, FitsSigned, to_z, of_z, w64, arith, rules}
use Rattle.std.proofs.lemmas.Int.{ints, to_z-of_z}
use Rattle.op_tables.specs.Operators.{wrapped}
use Rattle.array_meaning.specs.Sections.{nth}
use Rattle.serial_run.proofs.index_tuples.index_value.Goals as goal

pub returns : goal.returns
returns c =
    let fits : FitsSigned w64 c.nth.result.value = search rules in
    let at : to_z w64 (of_z w64 (to_z w64 c.args.place +ℤ pos 1)) ≡ pos (suc c.args.place) = omega (arith, ints) in
    to_z-of_z w64 c.nth.result.value fits ∙ c.nth.ensures ∙ ap (λ x. wrapped (nth c.args.p.now x)) at
