use Rattle.std.proofs.Common.{◌≡◌, ◌++◌, drop}
use Rattle.distribution_rules.specs.Setting.{arrays}
use Rattle.distribution_rules.proofs.program_objects.arrays.Given as goal

-- the arrays so far, and those of the rest after them, are all
abbrev pub invariant-loop-place : goal.invariant-loop-place
invariant-loop-place l = l.objects.items ++ arrays (drop l.place l.names) ≡ arrays l.names
