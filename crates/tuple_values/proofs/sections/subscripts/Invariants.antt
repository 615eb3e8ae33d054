use Rattle.std.proofs.Common.{◌≡◌, ◌++◌, drop}
use Rattle.array_meaning.specs.Sections.{subscripts_at}
use Rattle.code_meaning.specs.Forms.{selections_at}
use Rattle.node_code.specs.Texts.{subs}
use Rattle.tuple_values.specs.Here.{subscripts_here}
use Rattle.tuple_values.proofs.sections.subscripts.Given as goal

-- the subscripts so far, before those that are left
abbrev pub invariant-loop-d : goal.invariant-loop-d
invariant-loop-d l =
    subscripts_here l.here (subs l.section) ≡ l.is.items ++ subscripts_at (selections_at l.here.slots.now l.here.axes.now (subs (drop l.d-index l.section))) l.positions
