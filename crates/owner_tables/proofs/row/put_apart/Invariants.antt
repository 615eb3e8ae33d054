use Rattle.std.proofs.Common.{◌≡◌, drop}
use Rattle.owner_tables.specs.Lines.{with_line}
use Rattle.owner_tables.proofs.row.put_apart.Given as goal

-- what is left is put into the row so far
abbrev pub invariant-loop-value : goal.invariant-loop-value
invariant-loop-value l = with_line l.row l.place l.step (drop l.value-index l.values) ≡ with_line l.initial.row l.initial.place l.step l.values
