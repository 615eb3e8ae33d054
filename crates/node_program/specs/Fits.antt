-- Of a promise.
-- Programs that fit rows.
use Rattle.std.specs.Prelude.{◌≡◌, ℕ, ◌==◌, ◌&&◌, nat_le, nat_lt, Bool, true, List, length, map, Option, Some, None}
use Rattle.std.specs.List.{list_all, slice_get}
use Rattle.hpf_base.specs.declared.index.Shape.{Shape}
use Rattle.hpf_base.specs.declared.limits.TheConstants.{MAX_RANK}
use Rattle.machine_steps.specs.Layout.{Layout}
use Rattle.machine_steps.specs.SameLayouts.{is_same_shape}
use Rattle.node_code.specs.Instructions.{Instruction, NewMapping, Par, ParForall, ParNest, MakeCopies, ParCopy, ParForallCopy, Reduce, MakeCopy, Remap}
use Rattle.node_code.specs.Texts.{instructions}
use Rattle.owner_tables.specs.Views.{TableView}
use Rattle.node_program.specs.declared.program.NodeProgram.{NodeProgram}

-- the shapes of rows
abbrev pub shapes_of : List Layout → List Shape
shapes_of layouts = map (λ layout. layout.shape) layouts

-- a row has the shape of a table, where there are both
abbrev pub is_shaped_by : Option TableView → Option Shape → Bool
is_shaped_by None row = true
is_shaped_by (Some table) None = true
is_shaped_by (Some table) (Some shape) = is_same_shape shape table.layout.shape

-- the row of an array has the shape of the table by which the array is mapped anew
abbrev pub fits_row : List TableView → List Shape → NewMapping → Bool
fits_row tables rows new = is_shaped_by (slice_get tables new.map) (slice_get rows new.array)

-- each space has 7 dimensions at most; the row of a copy stands after those of the declared names, of which there are so many; an array
-- that is mapped anew is a declared name, and its row fits
abbrev pub fits_rows : ℕ → List TableView → List Shape → Instruction → Bool
fits_rows declared tables rows (Par p) = nat_le (length p.over) MAX_RANK
fits_rows declared tables rows (ParForall p) = nat_le (length p.over) MAX_RANK
fits_rows declared tables rows (ParNest p) = nat_le (length p.over) MAX_RANK
fits_rows declared tables rows (MakeCopies copy over start beside) = nat_le declared copy && nat_le (length over) MAX_RANK
fits_rows declared tables rows (ParCopy copy p) = nat_le (length p.over) MAX_RANK
fits_rows declared tables rows (ParForallCopy copy p) = nat_le (length p.over) MAX_RANK
fits_rows declared tables rows (Reduce p r x) = nat_le (length p.over) MAX_RANK
fits_rows declared tables rows (MakeCopy copy p) = nat_le declared copy && nat_le (length p.over) MAX_RANK
fits_rows declared tables rows (Remap line new) = list_all (λ n. nat_lt n.array declared) new && list_all (fits_row tables rows) new
fits_rows declared tables rows i = true

-- a program fits rows that lie so: each instruction does, and its tables are for as many nodes
pub record FitsRows (p : NodeProgram) (layouts : List Layout) : Type 0 where
  pub nodes : list_all (λ t. t.nodes == p.nodes) p.tables.items ≡ true
  pub code : list_all (fits_rows (length p.shapes.items) p.tables.items (shapes_of layouts)) (instructions p.code.items) ≡ true
