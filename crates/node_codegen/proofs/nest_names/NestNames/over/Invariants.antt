use Rattle.std.proofs.Common.{◌≡◌, ◌++◌, drop, map}
use Rattle.node_code.specs.Forms.{SubAlong}
use Rattle.node_code.specs.Texts.{subs}
use Rattle.node_codegen.proofs.nest_names.NestNames.over.Given as goal

-- those so far, before those that are left
abbrev pub invariant-loop-v : goal.invariant-loop-v
invariant-loop-v l = subs l.over.items ++ map SubAlong (drop l.v-index l.v-items) ≡ map SubAlong l.v-items
