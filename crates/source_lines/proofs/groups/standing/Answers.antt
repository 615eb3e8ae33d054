use Rattle.std.proofs.Common.{rules}
use Rattle.std.specs.Prelude.{not}
use Rattle.std.proofs.lemmas.Fn.{filter_same}
use Rattle.source_lines.specs.Breaches.{is_passed}
use Rattle.source_lines.specs.PhysicalLines.{PhysicalLine}
use Rattle.source_lines.proofs.groups.standing.Goals as goal

pub returns : goal.returns
returns c = filter_same _ (λ (line : PhysicalLine). not (is_passed line.kind)) _ (λ x b f' k. search rules) _ _ c.retain.ensures.filtered
