-- Of a promise.
-- What a node has after a round of a tree.
use Rattle.std.specs.Prelude.{ℕ, ◌+◌, ◌-◌, ◌*◌, ◌%◌, ◌^◌, ◌==◌, ℤ, List, [], slice_index_or, nat_lt, if◌then◌else◌}
use Rattle.machine_steps.specs.Machine.{earlier}
use Rattle.machine_steps.specs.Node.{kept_values, values_kept, join_options, option_values, values_option, later, positioned_values, values_positioned}
use Rattle.code_meaning.specs.FaultValues.{fault_values}
use Rattle.op_tables.specs.Joins.{join}
use Rattle.tree_steps.specs.Rounds.{up_round}
use Rattle.tree_steps.specs.declared.joining.Joining.{Joining}
use Rattle.tree_steps.specs.declared.joining.Joining.TheVariants.{Kept, Later, Options}

-- two that go round, joined
abbrev pub joined_values : Joining → List ℤ → List ℤ → List ℤ
joined_values Kept a b = kept_values fault_values (earlier (values_kept fault_values a) (values_kept fault_values b))
joined_values (Options j) a b = option_values (join_options (join j) (values_option a) (values_option b))
joined_values Later a b = positioned_values (later (values_positioned a) (values_positioned b))

-- going down: what came, where the node takes in the round up that is undone, else what it has
abbrev pub passed_down : (up id : ℕ) → (own : List ℤ) → (received : List (List ℤ)) → List ℤ
passed_down up id own received = if id % (2 ^ up * 2) == 2 ^ up then slice_index_or received (id - 2 ^ up) [] else own

-- going up: what it has, joined with what came
abbrev pub absorbed_values : (List ℤ → List ℤ → List ℤ) → (levels round id : ℕ) → (own : List ℤ) → (received : List (List ℤ)) → List ℤ
absorbed_values join levels round id own received =
    if nat_lt round levels then join own (slice_index_or received (id + 2 ^ round) []) else passed_down (up_round levels round) id own received
