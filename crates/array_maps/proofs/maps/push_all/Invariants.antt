use Rattle.std.proofs.Common.{◌≡◌, ◌++◌, drop, map}
use Rattle.array_maps.proofs.maps.push_all.Given as goal

abbrev pub invariant-loop-new : goal.invariant-loop-new
invariant-loop-new l = map (λ new. new.now) l.found.items ++ drop l.new-index l.maps ≡ map (λ new. new.now) l.fn.found.items ++ l.maps
