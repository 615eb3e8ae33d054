use Rattle.std.proofs.Common.{rules, tests, ◌∙◌}
use Rattle.std.specs.Prelude.{is_some}
use Rattle.std.proofs.lemmas.Iterator.{YieldsList-from_slice}
use Rattle.std.proofs.lemmas.Iterator.Search.{any_from_yields_List}
use Rattle.statement_reader.proofs.Bounds.{bounds_viewed}
use Rattle.statement_reader.proofs.constant_array.any_bounds.Goals as goal

pub returns : goal.returns
returns c =
    let entities = c.args.entities.now in
    any_from_yields_List (λ e. is_some e.dims) _ _ _ c.any.ensures.ran (YieldsList-from_slice entities cc) (λ x b q k. search (rules, tests)) ∙ bounds_viewed entities
