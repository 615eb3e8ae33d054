use Rattle.fixed_lines.proofs.Whole.{same_lines, same_count}
use Rattle.fixed_lines.proofs.NoBreaches.{no_breach}
use Rattle.fixed_lines.proofs.promises.free_lines_are_fixed.Goals as goal

pub returns-clause-lines : goal.returns-clause-lines
returns-clause-lines c text fine = same_lines text fine

pub returns-clause-fine : goal.returns-clause-fine
returns-clause-fine c text fine = no_breach text fine

pub returns-clause-count : goal.returns-clause-count
returns-clause-count c text fine = same_count text fine
