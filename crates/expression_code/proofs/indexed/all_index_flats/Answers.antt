use Rattle.std.proofs.Common.{ap, ◌∙◌}
use Rattle.resolved_program.specs.Resolved.{terms_of}
use Rattle.expression_code.proofs.Lists.{flat_list, index_list, list_of_flats}
use Rattle.expression_code.proofs.indexed.all_index_flats.Goals as goal

pub returns : goal.returns
returns c = list_of_flats c.in_ok-flats.flats.items ∙ ap flat_list c.in_ok-flats.ensures ∙ index_list (terms_of c.args.terms.now)
