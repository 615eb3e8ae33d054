use Rattle.std.proofs.Common.{◌≡◌}
use Rattle.storage.specs.Storage.{read}
use Rattle.machine_steps.specs.Machine.{is_one, last_passing}
use Rattle.whole_machine.proofs.folds.last_set.Given as goal

-- the last one of the first elements
abbrev pub invariant-loop-at : goal.invariant-loop-at
invariant-loop-at l = l.last ≡ last_passing (λ at. is_one (read l.rows (record { row = l.set; at = at }))) (λ at. read l.rows (record { row = l.copy; at = at })) l.at
