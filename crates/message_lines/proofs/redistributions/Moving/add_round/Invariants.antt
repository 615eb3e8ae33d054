use Rattle.std.proofs.Common.{◌≡◌, ℕ, ◌++◌, List, drop}
use Rattle.std.specs.List.{flat_map}
use Rattle.letters.specs.declared.pair.Pair.{Pair}
use Rattle.message_lines.specs.RowLines.{pair_line}
use Rattle.message_lines.proofs.redistributions.Moving.add_round.Given as goal

-- what is added, before what is left
abbrev pub invariant-loop-pair : goal.invariant-loop-pair
invariant-loop-pair l =
    let line : Pair → List ℕ = pair_line l.self.rows.now l.self.after.now.layouts l.head in
    l.text.items ++ flat_map line (drop l.pair-index l.pairs) ≡ l.fn.text.items ++ flat_map line l.pairs
