-- Of a promise.
-- What a node makes of a part after its phase.
use Rattle.std.specs.Prelude.{ℕ, ℤ, List, [], map, slice_index_or, Option, None, if◌then◌else◌}
use Rattle.storage.specs.Storage.{Storage, Spot}
use Rattle.op_tables.specs.declared.join.Join.{Join}
use Rattle.op_tables.specs.Joins.{join}
use Rattle.array_meaning.specs.Faults.{Fault}
use Rattle.machine_steps.specs.Instr.{Outcome, Nothing}
use Rattle.machine_steps.specs.Layout.{least_owner_of}
use Rattle.machine_steps.specs.Machine.{Kept, value_by, effect_by, keep, element_values}
use Rattle.machine_steps.specs.Message.{message, lookup, first_read}
use Rattle.machine_steps.specs.Node.{held_or_received, local_apply, local_scatter, join_below, outcome_value}
use Rattle.tuple_values.specs.Statements.{tuple_count, tuple_reads, tuple_left, tuple_outcome}
use Rattle.part_steps.specs.Parts.{PartView, part_of}

-- the node `id` after the phase of a part, with its pieces and what it received from each node
pub record After : Type 0 where
  pub part : PartView
  pub id : ℕ
  pub pieces : Storage
  pub received : List (List ℤ)

abbrev pub after : PartView → ℕ → Storage → List (List ℤ) → After
after part id pieces received = record { part = part; id = id; pieces = pieces; received = received }

module _ (b : After) where
  -- the value that it received of an element; 0 where it received none
  abbrev pub received_value : Spot → ℤ
  received_value spot = lookup (message b.part.nodes b.part.layouts (part_of b.part) (least_owner_of b.part.nodes b.part.layouts spot) b.id)
      (slice_index_or b.received (least_owner_of b.part.nodes b.part.layouts spot) []) spot

  -- the value of an element: its own, or received
  abbrev pub value_of : Spot → ℤ
  value_of = held_or_received b.part.nodes b.part.layouts (λ p. message b.part.nodes b.part.layouts (part_of b.part) p b.id) b.id b.pieces b.received

  -- what a tuple comes to: nothing where the node doesn't compute it
  abbrev pub outcome_of : ℕ → Outcome Fault
  outcome_of t =
      if (part_of b.part).computes b.id t then tuple_outcome b.part.statement t (map (value_by value_of) (tuple_reads b.part.statement t)) else Nothing

  -- pieces after what a tuple comes to
  abbrev pub applied : ℕ → Outcome Fault → Storage → Storage
  applied t outcome pieces = local_apply b.part.layouts b.id (effect_by (tuple_left b.part.statement t) outcome) pieces

  -- pieces with what the first tuples store
  abbrev pub stored_below : ℕ → Storage → Storage
  stored_below count pieces = local_scatter b.part.layouts b.id (λ t. effect_by (tuple_left b.part.statement t) (outcome_of t)) count pieces

  -- the first fault of the first tuples, where the part has this number
  abbrev pub fault_below : (number count : ℕ) → Option (Kept Fault)
  fault_below number count = keep outcome_of number count None

  -- the values of the first tuples, joined
  abbrev pub joined_below : Join → ℕ → Option ℤ
  joined_below op count = join_below (join op) (λ t. outcome_value (outcome_of t)) count

  -- the values of the elements that the first tuples read, in order
  abbrev pub elements_below : ℕ → List ℤ
  elements_below count = element_values value_of (λ t. first_read (tuple_reads b.part.statement t)) count

  abbrev pub tuples : ℕ
  tuples = tuple_count b.part.statement
