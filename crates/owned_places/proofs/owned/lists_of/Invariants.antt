use Rattle.std.proofs.Common.{◌≡◌, ◌++◌, drop, map}
use Rattle.axis_products.specs.Products.{passing}
use Rattle.courses.specs.Subscripts.{axis_pass}
use Rattle.course_forms.specs.Views.{courses_of}
use Rattle.owned_places.specs.Dims.{held_dim}
use Rattle.owned_places.proofs.owned.lists_of.Given as goal

-- the lists so far, before those that are left
abbrev pub invariant-loop-axis : goal.invariant-loop-axis
invariant-loop-axis l =
    map (λ v. v.items) l.lists.items ++ passing (axis_pass (held_dim l.dims l.mapping l.node) 0 (courses_of l.courses)) l.axis (drop l.axis l.extents)
    ≡ passing (axis_pass (held_dim l.dims l.mapping l.node) 0 (courses_of l.courses)) 0 l.extents
