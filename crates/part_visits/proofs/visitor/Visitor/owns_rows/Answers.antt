use Rattle.std.proofs.Common.{All, subst}
use Rattle.std.proofs.lemmas.List.{take_all}
use Rattle.course_forms.specs.Views.{named_of, names_of}
use Rattle.visited_tuples.specs.Owned.{Lies, OwnsRow}
use Rattle.part_visits.proofs.Items.{all-item, all-next}
use Rattle.part_visits.proofs.visitor.Visitor.owns_rows.Goals as goal

pub owns_row-requires : goal.owns_row-requires
owns_row-requires c =
    all-item (Lies c.args.self.now.extents.now c.args.self.now.owners.now.layouts) named_of c.args.references.now c.loop-reference.reference-index c.reference-item.result
    c.requires c.loop-reference-test.true c.reference-item.is

pub loop-reference-preserved : goal.loop-reference-preserved
loop-reference-preserved c =
    all-next (OwnsRow c.args.self.now.extents.now c.args.self.now.owners.now.layouts c.args.self.now.id) named_of c.args.references.now c.loop-reference.reference-index c.reference-item.result
    c.loop-reference-test.true c.reference-item.is c.loop-reference.invariant (c.owns_row.ensures c.if-not-owns_row.false)

pub returns : goal.returns
returns c t = subst (λ rs. All (OwnsRow c.args.self.now.extents.now c.args.self.now.owners.now.layouts c.args.self.now.id) (names_of rs))
    (take_all c.loop-reference.reference-index c.args.references.now c.loop-reference-test.false) c.loop-reference.invariant
