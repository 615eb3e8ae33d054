use Rattle.std.proofs.Common.{◌≡◌, take}
use Rattle.slot_values.proofs.spaces.narrowed.Given as goal

abbrev pub invariant-loop-n : goal.invariant-loop-n
invariant-loop-n l = l.narrow.items ≡ take l.n-index l.ns
