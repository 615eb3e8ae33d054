use Rattle.std.proofs.Common.{All, subst}
use Rattle.std.proofs.lemmas.List.{take_all}
use Rattle.courses.specs.References.{IsAlongAxes}
use Rattle.course_forms.specs.Views.{named_of, names_of}
use Rattle.pair_cases.proofs.Items.{all-next}
use Rattle.pair_cases.proofs.spaces.all_along.Goals as goal

pub loop-reference-preserved : goal.loop-reference-preserved
loop-reference-preserved c =
    all-next (IsAlongAxes c.args.axes) named_of c.args.references.now c.loop-reference.reference-index c.reference-item.result
    c.loop-reference-test.true c.reference-item.is c.loop-reference.invariant (c.is_along.ensures c.if-not-is_along.false)

pub returns : goal.returns
returns c t = subst (λ rs. All (IsAlongAxes c.args.axes) (names_of rs))
    (take_all c.loop-reference.reference-index c.args.references.now c.loop-reference-test.false) c.loop-reference.invariant
