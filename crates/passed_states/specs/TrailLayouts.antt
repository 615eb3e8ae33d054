-- Of the claim.
-- How the declared names lie on nodes after a trail.
use Rattle.std.specs.Prelude.{ℕ, List, [], ◌∷◌}
use Rattle.machine_steps.specs.Instr.{Remapping}
use Rattle.machine_steps.specs.Layout.{Layout}
use Rattle.machine_steps.specs.Machine.{remapped}
use Rattle.statement_trail.specs.Trail.{Event, Redistributed, Trail}

-- where `moves` says of a line which arrays its REDISTRIBUTE gives new mappings
module _ (moves : ℕ → List Remapping) where
  -- no part moves an array (HPF 2.0, 8.3)
  abbrev pub layouts_after : ℕ → Event → List Layout → List Layout
  layouts_after line Redistributed layouts = remapped (moves line) layouts
  layouts_after line event layouts = layouts

  abbrev pub trail_layouts : Trail → List Layout → List Layout
  trail_layouts [] layouts = layouts
  trail_layouts (e ∷ es) layouts = trail_layouts es (layouts_after e.line e.event layouts)
