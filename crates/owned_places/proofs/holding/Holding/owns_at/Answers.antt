use Rattle.std.proofs.Common.{◌∙◌}
use Rattle.hpf_base.specs.Grid.{node_coordinates}
use Rattle.courses.specs.Subscripts.{along_dims, in_dim}
use Rattle.course_forms.specs.Views.{courses_of}
use Rattle.owned_places.proofs.HeldDims.{axis-and}
use Rattle.owned_places.proofs.holding.Holding.owns_at.Goals as goal

pub returns : goal.returns
returns c =
    let self = c.args.self.now in
    c.are_held_at.ensures
    ∙ axis-and (in_dim self.dims.now) (along_dims (node_coordinates self.mapping.now.grid self.node) self.mapping.now.dims) 0 (courses_of self.courses.now) c.args.axis c.args.place
