use Rattle.std.proofs.Common.{◌≡◌, ◌++◌, drop, map}
use Rattle.node_code.specs.Texts.{flat}
use Rattle.anchor_code.proofs.copies.+copied_flat.Given as goal

-- what is made so far, before what is left, is all
abbrev pub invariant-copied_flats-loop-f : goal.invariant-copied_flats-loop-f
invariant-copied_flats-loop-f l = map flat l.made.items ++ map flat (drop l.f-index l.flats) ≡ map flat l.flats
