use Rattle.std.proofs.Common.{◌≡◌, drop, bytes_eq}
use Rattle.std.specs.Prelude.{◌&&◌}
use Rattle.std.specs.List.{list_all}
use Rattle.linear_subscripts.proofs.linear_forms.are_all.Given as goal

abbrev pub invariant-loop-other : goal.invariant-loop-other
invariant-loop-other l = (l.all && list_all (bytes_eq l.name) (drop l.other-index l.others)) ≡ list_all (bytes_eq l.name) l.others
