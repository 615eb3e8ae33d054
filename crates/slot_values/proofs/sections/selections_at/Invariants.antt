use Rattle.std.proofs.Common.{◌≡◌, ◌++◌, drop}
use Rattle.code_meaning.specs.Forms.{selections_at}
use Rattle.node_code.specs.Texts.{subs}
use Rattle.slot_values.proofs.sections.selections_at.Given as goal

-- the selections so far, before those that are left
abbrev pub invariant-loop-d : goal.invariant-loop-d
invariant-loop-d l = selections_at l.slots l.axes (subs l.section) ≡ l.ds.items ++ selections_at l.slots l.axes (subs (drop l.d-index l.section))
