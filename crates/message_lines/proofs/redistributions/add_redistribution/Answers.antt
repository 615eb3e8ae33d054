use Rattle.std.proofs.Common.{List, All, sym, subst}
use Rattle.letters.specs.declared.pair.Pair.{Pair}
use Rattle.redistribute_rounds.specs.Rounds.{IsBetween}
use Rattle.message_lines.proofs.Rounds.{rounds-between}
use Rattle.message_lines.proofs.redistributions.add_redistribution.Goals as goal

pub add_rounds-requires : goal.add_rounds-requires
add_rounds-requires c =
    let owners = c.args.rows.now.owners in
    subst (λ (rounds : List (List Pair)). All (All (IsBetween owners.nodes)) rounds) (sym c.in_ok-rounds.ensures)
    (rounds-between owners.nodes owners.layouts c.args.after.now.layouts)
