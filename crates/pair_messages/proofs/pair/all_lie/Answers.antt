use Rattle.std.proofs.Common.{All, length, subst}
use Rattle.std.proofs.lemmas.List.{take_all}
use Rattle.courses.specs.References.{IsAlongAxes}
use Rattle.course_forms.specs.Views.{named_of, names_of}
use Rattle.visited_tuples.specs.Owned.{Lies}
use Rattle.pair_messages.proofs.Items.{all-item, all-next}
use Rattle.pair_messages.proofs.pair.all_lie.Goals as goal

pub lies-requires : goal.lies-requires
lies-requires c =
    all-item (IsAlongAxes (length c.args.extents.now)) named_of c.args.references.now c.loop-reference.reference-index c.reference-item.result
    c.requires c.loop-reference-test.true c.reference-item.is

pub loop-reference-preserved : goal.loop-reference-preserved
loop-reference-preserved c =
    all-next (Lies c.args.extents.now c.args.owners.now.layouts) named_of c.args.references.now c.loop-reference.reference-index c.reference-item.result
    c.loop-reference-test.true c.reference-item.is c.loop-reference.invariant (c.lies.ensures c.if-not-lies.false)

pub returns : goal.returns
returns c t = subst (λ rs. All (Lies c.args.extents.now c.args.owners.now.layouts) (names_of rs))
    (take_all c.loop-reference.reference-index c.args.references.now c.loop-reference-test.false) c.loop-reference.invariant
