use Rattle.std.proofs.Common.{◌≡◌, drop}
use Rattle.statement_trail.specs.NestParts.{index_in}
use Rattle.anchor_code.proofs.axes.index_in.Given as goal

-- it is among those that are left
abbrev pub invariant-loop-i : goal.invariant-loop-i
invariant-loop-i l = index_in (drop l.i l.list) l.i l.k ≡ index_in l.list 0 l.k
