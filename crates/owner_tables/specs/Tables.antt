-- Of private clauses.
-- What the tables of a row hold.
use Rattle.std.specs.Prelude.{◌≡◌, ◌≤◌, map, replicate}
use Rattle.std.specs.List.{range_with_len}
use Rattle.hpf_base.specs.declared.limits.TheConstants.{MAX_NODES}
use Rattle.hpf_base.specs.ElementOrder.{extents_of}
use Rattle.local_address.specs.Runs.{fixed_subscript}
use Rattle.machine_steps.specs.Layout.{Layout, count_passing, owned_by, size_of}
use Rattle.owner_tables.specs.declared.tables.Tables.TheInside.{Inside}
use Rattle.owner_tables.specs.Alike.{alike_nodes, leader}
use Rattle.owner_tables.specs.Columns.{asked_number, columns_of}
use Rattle.owner_tables.specs.Layouts.{IsLaid}
use Rattle.owner_tables.specs.Views.{TableView}

abbrev pub layout_of : Inside → Layout
layout_of t = record { shape = t.shape; mapping = t.mapping }

abbrev pub view_of : Inside → TableView
view_of t = record { layout = layout_of t; nodes = t.nodes }

-- the base and the columns are such where there is an element
pub record AreTables (t : Inside) : Type 0 where
  pub some : 1 ≤ t.nodes
  pub few : t.nodes ≤ MAX_NODES
  pub laid : IsLaid t.nodes (layout_of t)
  pub alike : map (λ v. v.items) t.alike.items ≡ map (alike_nodes t.mapping t.nodes) (range_with_len 0 t.nodes)
  pub leaders : t.leaders.items ≡ map (leader t.mapping t.nodes) (range_with_len 0 t.nodes)
  pub size : t.size ≡ size_of (layout_of t)
  pub base : 1 ≤ size_of (layout_of t) → t.numbers.base ≡ asked_number t.mapping.grid fixed_subscript t.mapping.dims
  pub columns : 1 ≤ size_of (layout_of t) → t.numbers.columns.items ≡ columns_of t.mapping t.shape.lower 0 (extents_of t.shape) (replicate t.nodes 1)
  pub owned : t.numbers.owned.items ≡ map (λ node. count_passing (owned_by (layout_of t) node) 0 (size_of (layout_of t))) (range_with_len 0 t.nodes)
