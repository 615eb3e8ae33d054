use Rattle.std.proofs.Common.{◌≡◌, get_or, map, take}
use Rattle.owner_tables.proofs.alike.leaders.Given as goal

-- the first nodes of the lists so far
abbrev pub invariant-loop-row : goal.invariant-loop-row
invariant-loop-row l = l.firsts.items ≡ map (λ v. get_or v.items 0 0) (take l.row-index l.rows)
