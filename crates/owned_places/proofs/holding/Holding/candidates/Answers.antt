use Rattle.std.proofs.Common.{◌≡◌, ℕ, Bool, subst}
use Rattle.hpf_base.specs.Grid.{node_coordinates}
use Rattle.courses.specs.Subscripts.{along_dims, axis_pass, in_dim}
use Rattle.course_forms.specs.Views.{courses_of}
use Rattle.owned_places.specs.Candidates.{AreCandidates}
use Rattle.owned_places.specs.Dims.{held_dim}
use Rattle.owned_places.specs.Holdings.{test_of}
use Rattle.owned_places.proofs.HeldDims.{axis-and}
use Rattle.owned_places.proofs.holding.Holding.candidates.Goals as goal

pub returns : goal.returns
returns c =
    let self = c.args.self.now in
    let courses = courses_of self.courses.now in
    let same : axis_pass (held_dim self.dims.now self.mapping.now self.node) 0 courses c.args.axis ≡ (test_of self).at c.args.axis =
    λ i place. axis-and (in_dim self.dims.now) (along_dims (node_coordinates self.mapping.now.grid self.node) self.mapping.now.dims) 0 courses c.args.axis place i in
    subst (λ (passes : ℕ → Bool). AreCandidates passes c.args.extent c.in_ok-candidates.candidates) same c.in_ok-candidates.ensures
