use Rattle.std.proofs.Common.{◌≡◌, ◌++◌, drop, map}
use Rattle.resolved_program.specs.Resolved.{control}
use Rattle.resolved_program.proofs.copies.copied_controls.Given as goal

-- what is made so far, before what is left, is all
abbrev pub invariant-loop-c : goal.invariant-loop-c
invariant-loop-c l = map control l.made.items ++ map control (drop l.c-index l.controls) ≡ map control l.controls
