use Rattle.std.proofs.Common.{◌==◌, inl}
use Rattle.course_forms.specs.Views.{names_of}
use Rattle.part_visits.proofs.visits.root_visits.Goals as goal

pub returns : goal.returns
returns c = c.visits.ensures (λ node t. node == 0) c.in_ok-own.ensures (names_of c.args.reads.now) (λ t spot small named. inl named)
