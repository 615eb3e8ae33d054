use Rattle.array_meaning.specs.Sections.{positions}
use Rattle.strips.specs.Strips.{space_value}
use Rattle.strips.proofs.InOrder.{strip_each}
use Rattle.strips.proofs.promises.law_of_values.Goals as goal

pub returns : goal.returns
returns c = λ s ns x n vs strip. strip_each (positions ns) (space_value s ns x) n vs strip
