use Rattle.std.proofs.Common.{◌≡◌, ◌++◌, drop, map}
use Rattle.node_codegen.specs.NestNames.{place_by}
use Rattle.node_codegen.proofs.nest_terms.places.Given as goal

-- the rows so far, before those of the names that are left
abbrev pub invariant-loop-k : goal.invariant-loop-k
invariant-loop-k l = l.rows.items ++ map (place_by l.w) (drop l.k-index l.names) ≡ map (place_by l.w) l.names
