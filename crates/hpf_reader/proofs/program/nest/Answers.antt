use Rattle.std.proofs.Common.{ap, subst}
use Rattle.hpf_base.specs.FirstBreach.{IsFirstOrNone}
use Rattle.construct_rules.specs.Breaches.{IsNestBreach}
use Rattle.construct_rules.specs.ProgramLine.{lines_of}
use Rattle.hpf_reader.proofs.program.nest.Goals as goal

pub read_nest-requires : goal.read_nest-requires
read_nest-requires c = (
  c.args.last,
  subst (λ o. IsFirstOrNone (IsNestBreach c.args.last (lines_of c.args.forms.items)) o) c.in_default.is
      (subst (λ ss. IsFirstOrNone (IsNestBreach c.args.last ss) c.in_ok-refusal.field-0) (ap lines_of c.deref.ensures.value) c.in_ok-refusal.ensures),
)
