use Rattle.std.proofs.Common.{sym}
use Rattle.fixed_lines.specs.FreeText.{free_text}
use Rattle.hpf_reader.specs.declared.source_form.SourceForm.TheVariants.{Fixed, Free}
use Rattle.hpf_reader.proofs.SourceForms.{fine_on, meant_on, refused_on}
use Rattle.hpf_reader.proofs.promises.fixed_as_free.Goals as goal

pub returns-clause-fine : goal.returns-clause-fine
returns-clause-fine c text clean =
    let same = c.free_lines_are_fixed.ensures.lines text clean in
    let count = c.free_lines_are_fixed.ensures.count text clean in
    let free = c.free_lines_are_fixed.ensures.fine text clean in (
      fine_on Fixed Free text (free_text text) (sym same) (sym count) clean free,
      fine_on Free Fixed (free_text text) text same count free clean,
    )

pub returns-clause-meant : goal.returns-clause-meant
returns-clause-meant c text p clean =
    let same = c.free_lines_are_fixed.ensures.lines text clean in
    let count = c.free_lines_are_fixed.ensures.count text clean in (
      meant_on Fixed Free text (free_text text) (sym same) (sym count) p,
      meant_on Free Fixed (free_text text) text same count p,
    )

pub returns-clause-refused : goal.returns-clause-refused
returns-clause-refused c text r clean =
    let same = c.free_lines_are_fixed.ensures.lines text clean in
    let count = c.free_lines_are_fixed.ensures.count text clean in
    let free = c.free_lines_are_fixed.ensures.fine text clean in (
      refused_on Fixed Free text (free_text text) (sym same) (sym count) clean free r,
      refused_on Free Fixed (free_text text) text same count free clean r,
    )
