use Rattle.std.proofs.Common.{◌≡◌, ◌+◌, drop}
use Rattle.node_code.specs.Texts.{forms_of}
use Rattle.tuple_values.specs.FormStrips.{all_section_counts}
use Rattle.tuple_values.proofs.form_strips.+section_count.Given as goal

-- with those of the forms that are left it is all of them
abbrev pub invariant-all_section_counts-loop-f : goal.invariant-all_section_counts-loop-f
invariant-all_section_counts-loop-f l = l.sum + all_section_counts (forms_of (drop l.f-index l.f-items)) ≡ all_section_counts (forms_of l.f-items)
