use Rattle.std.proofs.Common.{◌≡◌, take}
use Rattle.part_visits.proofs.alike.same_dims.Given as goal

-- the first ones are the same
abbrev pub invariant-loop-k : goal.invariant-loop-k
invariant-loop-k l = take l.k l.one ≡ take l.k l.other
