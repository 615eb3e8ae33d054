use Rattle.std.proofs.Common.{◌≡◌, drop, map, not}
use Rattle.std.specs.List.{list_all}
use Rattle.mappings.specs.Mapping.{moves_along}
use Rattle.aligned_copies.specs.Beside.{is_one_axis}
use Rattle.copy_anchors.specs.Anchors.{align_of}
use Rattle.copy_anchors.proofs.axes.are_off.Given as goal

-- those that are left decide
abbrev pub invariant-loop-subscript : goal.invariant-loop-subscript
invariant-loop-subscript l =
    list_all (λ y. not (is_one_axis l.axis (moves_along y))) (map align_of l.subscripts)
    ≡ list_all (λ y. not (is_one_axis l.axis (moves_along y))) (map align_of (drop l.subscript-index l.subscripts))
