use Rattle.std.proofs.Common.{rules}
use Rattle.gap_table.proofs.Spans.{span_test}
use Rattle.owned_places.proofs.spans.span_between.Goals as goal

pub returns-clause-places : goal.returns-clause-places
returns-clause-places c = λ x inside. span_test c.args.near c.args.far c.args.size c.args.extent x _ _ c.requires inside (search rules) (search rules)
