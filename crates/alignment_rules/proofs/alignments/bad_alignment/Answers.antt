use Rattle.std.proofs.Common.{sym, ap, ◌∙◌}
use Rattle.std.specs.Prelude.{◌&&◌, not}
use Rattle.name_table.specs.Uses.{repeats}
use Rattle.distribution_rules.specs.Setting.{has_kind, is_mapped_kind, object}
use Rattle.alignment_rules.proofs.AlignmentParts.{alignment_parts}
use Rattle.alignment_rules.proofs.alignments.bad_alignment.Goals as goal

pub returns : goal.returns
returns c =
    let a = c.args.spec.now in
    let good = c.is_good-good.ensures
    ∙ ap (λ ds. not (repeats ds) && has_kind is_mapped_kind (object c.args.setting.now a.target)) (c.deref.ensures.value ∙ sym c.deref-in-Some.ensures.value) in
    alignment_parts c.args.setting.now a c.deref-in-Some.result.now c.in-Some.targets c.deref-in-Some-2.result.now c.is_good-good.result c.in_ok-least-in-Some.least
    c.in-Some.is c.deref-in-Some-2.ensures.value (c.deref-in-Some.ensures.value ∙ c.in_ok-dummies.ensures) good c.in_ok-least-in-Some.ensures
