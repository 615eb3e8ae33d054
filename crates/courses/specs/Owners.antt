-- Of a promise.
-- Which node owns what is named at a tuple, as tests of each axis by itself.
use Rattle.std.specs.Prelude.{◌≡◌, ℕ, ◌<◌, ◌==◌, true, ◌&&◌, List, length, All, slice_get, Some}
use Rattle.mappings.specs.declared.mapping.Mapping.{Mapping}
use Rattle.mappings.specs.Mapping.{IsAlign}
use Rattle.hpf_base.specs.Grid.{node_coordinates}
use Rattle.expression_rules.specs.declared.dims.Dim.{Dim}
use Rattle.storage.specs.Storage.{Spot}
use Rattle.machine_steps.specs.Layout.{Layout, owns_spot, least_owner_of}
use Rattle.axis_products.specs.Tests.{Test, and_test}
use Rattle.courses.specs.Courses.{Course}
use Rattle.courses.specs.References.{Named}
use Rattle.courses.specs.Subscripts.{AxesBelow, shape_of_dims, fixed_pass, axis_pass, in_dim, alone, along_dims}

-- the subscripts are in bounds, by their courses
abbrev pub bounds_test : List Dim → List Course → Test
bounds_test ds cs = record { always = fixed_pass (in_dim ds) 0 cs; at = axis_pass (in_dim ds) 0 cs }

-- the node owns the element with these subscripts
abbrev pub owner_test : Mapping → ℕ → List Course → Test
owner_test mapping node cs = record {
  always = alone (node_coordinates mapping.grid node) mapping.dims && fixed_pass (along_dims (node_coordinates mapping.grid node) mapping.dims) 0 cs;
  at = axis_pass (along_dims (node_coordinates mapping.grid node) mapping.dims) 0 cs;
}

-- what is named is in bounds, and the node's
abbrev pub held_test : Named → Layout → ℕ → Test
held_test r layout node = and_test (bounds_test r.dims r.courses) (owner_test layout.mapping node r.courses)

-- the layout of its row, where the courses fit it
pub record IsLaidOut (ns : List ℕ) (layouts : List Layout) (r : Named) (layout : Layout) : Type 0 where
  pub row : slice_get layouts r.row ≡ Some layout
  pub shape : layout.shape ≡ shape_of_dims r.dims
  pub rank : length r.courses ≡ length r.dims
  pub align : All (λ e. IsAlign (length r.dims) e.align) layout.mapping.dims
  pub axes : AxesBelow (length ns) r.courses

-- the least owner of an element is the leader of each of its owners
pub record AreLed (nodes : ℕ) (layouts : List Layout) (spot : Spot) (lead : ℕ → ℕ) : Type 0 where
  pub led : (node : ℕ) → node < nodes → (least_owner_of nodes layouts spot == lead node) ≡ owns_spot layouts node spot
  pub owned : owns_spot layouts (least_owner_of nodes layouts spot) spot ≡ true

-- the node is the least owner
abbrev pub least_test : Mapping → (lead : ℕ → ℕ) → ℕ → List Course → Test
least_test mapping lead node cs = and_test (record { always = lead node == node; at = λ axis place. true }) (owner_test mapping node cs)
