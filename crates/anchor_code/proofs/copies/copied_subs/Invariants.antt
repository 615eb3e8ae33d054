use Rattle.std.proofs.Common.{◌≡◌, ◌++◌, drop, map}
use Rattle.node_code.specs.Texts.{anchor_sub}
use Rattle.anchor_code.proofs.copies.copied_subs.Given as goal

-- what is made so far, before what is left, is all
abbrev pub invariant-loop-d : goal.invariant-loop-d
invariant-loop-d l = map anchor_sub l.made.items ++ map anchor_sub (drop l.d-index l.subscripts) ≡ map anchor_sub l.subscripts
