use Rattle.std.proofs.Common.{sym}
use Rattle.course_forms.specs.Views.{named_of}
use Rattle.owned_places.specs.Holdings.{test_of}
use Rattle.part_visits.proofs.OwningLaws.{kept-owned}
use Rattle.part_visits.proofs.visitor.Visitor.kept_owned.Goals as goal

pub returns : goal.returns
returns c a is =
    kept-owned c.args.self.now.owners.now.layouts c.args.self.now.id (named_of c.args.reference.now) c.in-Some.table.now.layout (test_of c.in-Some-new.holding)
    (sym c.in-Some.ensures.layout) c.in-Some-new.ensures.some.0 c.in-Some-new.ensures.some.1 a (λ v. v.items) c.in_ok-kept.kept.items c.args.self.now.extents.now
    (c.in_ok-kept.ensures a c.args.self.now.extents.now is)
