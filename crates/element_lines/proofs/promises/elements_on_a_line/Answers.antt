use Rattle.element_lines.proofs.Lines.{on_a_line}
use Rattle.element_lines.proofs.promises.elements_on_a_line.Goals as goal

pub returns : goal.returns
returns c = on_a_line
