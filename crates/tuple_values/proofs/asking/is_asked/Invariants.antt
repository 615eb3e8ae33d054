use Rattle.std.proofs.Common.{◌≡◌, drop, map}
use Rattle.node_code.specs.Texts.{when}
use Rattle.tuple_values.specs.Statements.{asked_by}
use Rattle.tuple_values.proofs.asking.is_asked.Given as goal

-- those that are left decide
abbrev pub invariant-loop-w : goal.invariant-loop-w
invariant-loop-w g l = asked_by (g.E.Elements.get l.elements) (map when l.whens) l.tuple ≡ asked_by (g.E.Elements.get l.elements) (map when (drop l.w-index l.whens)) l.tuple
