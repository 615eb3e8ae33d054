use Rattle.std.proofs.Common.{sym, ◌∙◌}
use Rattle.syntax_tree.specs.MainProgram.{main_program}
use Rattle.name_table.proofs.ProgramBreaches.{refused_by_names, refused_by_ranks}
use Rattle.name_table.proofs.resolution.first_breach.Goals as goal

pub returns-in-Some : goal.returns-in-Some
returns-in-Some c = refused_by_names (main_program c.args.tree.now) c.in-Some.refusal (sym c.in-Some.is ∙ c.in_ok-named.ensures)

pub returns-in_ok-ranked-in-None : goal.returns-in_ok-ranked-in-None
returns-in_ok-ranked-in-None c =
    refused_by_ranks (main_program c.args.tree.now) c.in_ok-ranked-in-None.ranked (sym c.in-None.is ∙ c.in_ok-named.ensures) c.in_ok-ranked-in-None.ensures
