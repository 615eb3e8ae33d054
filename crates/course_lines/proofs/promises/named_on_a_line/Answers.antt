use Rattle.course_lines.proofs.NamedLines.{named_line}
use Rattle.course_lines.proofs.promises.named_on_a_line.Goals as goal

pub returns : goal.returns
returns c = named_line
