-- Of the claim.
-- What contracts see of the tables.
use Rattle.std.specs.Prelude.{ℕ, List}
use Rattle.machine_steps.specs.Layout.{Layout}

-- of the table of one row: how its elements lie, on how many nodes
pub record TableView : Type 0 where
  pub layout : Layout
  pub nodes : ℕ

-- of the tables of all rows
pub record OwnersView : Type 0 where
  pub layouts : List Layout
  pub nodes : ℕ
