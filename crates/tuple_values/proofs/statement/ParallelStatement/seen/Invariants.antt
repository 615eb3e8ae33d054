use Rattle.std.proofs.Common.{◌≡◌, ◌++◌, drop}
use Rattle.courses.specs.Entries.{axes_in}
use Rattle.tuple_values.specs.Statements.{copied_by}
use Rattle.tuple_values.specs.Views.{statement}
use Rattle.tuple_values.proofs.statement.ParallelStatement.seen.Given as goal

-- the values so far, before those of the copies that are left
abbrev pub invariant-loop-row : goal.invariant-loop-row
invariant-loop-row g l =
    axes_in (statement l.self).indices l.x ++ copied_by (g.E.Elements.get l.elements) (statement l.self).copies l.tuple
    ≡ l.vs.items ++ copied_by (g.E.Elements.get l.elements) (drop l.row-index (statement l.self).copies) l.tuple
