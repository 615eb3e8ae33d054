use Rattle.std.proofs.Common.{◌≡◌, drop}
use Rattle.std.specs.Prelude.{◌&&◌}
use Rattle.std.specs.List.{list_all}
use Rattle.syntax_tree.specs.Expression.{parts_of}
use Rattle.body_forms.specs.Subscripts.{is_linear, items}
use Rattle.body_forms.proofs.linear_forms.are_linear.Given as goal

abbrev pub invariant-loop-part : goal.invariant-loop-part
invariant-loop-part l = (l.all && list_all (is_linear l.names) (items (parts_of (drop l.part-index l.parts)))) ≡ list_all (is_linear l.names) (items (parts_of l.parts))
