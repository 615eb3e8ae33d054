-- Of a promise.
-- Parts: statements with who computes their tuples.
use Rattle.std.specs.Prelude.{ℕ, ◌==◌, Bool, List}
use Rattle.machine_steps.specs.Layout.{Layout, in_bounds}
use Rattle.machine_steps.specs.Message.{Part, computes_left, first_read, least_or_zero}
use Rattle.tuple_values.specs.Statements.{Statement, tuple_count, tuple_reads, tuple_left}
use Rattle.part_steps.specs.declared.who.Who.{Who}
use Rattle.part_steps.specs.declared.who.Who.TheVariants.{Left, First, Root}

-- the least owner of the first element that a tuple reads, and node 0 where there is none
abbrev pub computing_node : ℕ → List Layout → Statement → ℕ → ℕ
computing_node nodes layouts w t = least_or_zero nodes layouts (in_bounds layouts (first_read (tuple_reads w t)))

-- who computes a tuple
abbrev pub computed_by : Who → ℕ → List Layout → Statement → (node tuple : ℕ) → Bool
computed_by Left nodes layouts w node t = computes_left layouts node (in_bounds layouts (tuple_left w t))
computed_by First nodes layouts w node t = computing_node nodes layouts w t == node
computed_by Root nodes layouts w node t = node == 0

-- a statement with who computes its tuples, and how the rows lie on so many nodes
pub record PartView : Type 0 where
  pub who : Who
  pub nodes : ℕ
  pub layouts : List Layout
  pub statement : Statement

abbrev pub part_of : PartView → Part
part_of v = record { tuples = tuple_count v.statement; reads = tuple_reads v.statement; computes = computed_by v.who v.nodes v.layouts v.statement }
