use Rattle.std.proofs.Common.{◌≡◌, List, ℕ, ◌++◌, length}
use Rattle.std.specs.Prelude.{◌||◌}
use Rattle.std.specs.List.{list_any}
use Rattle.source_lines.specs.PhysicalLines.{code_of, is_bad_part, parts}
use Rattle.source_lines.proofs.parts.code_of.Given as goal

-- what was passed is code and stands in front of the rest, and its bad parts are seen
abbrev pub invariant-loop-part : goal.invariant-loop-part
invariant-loop-part l = record {
  code : List ℕ;
  whole : l.bytes ≡ code ++ l.rest;
  stands : code_of l.bytes ≡ code ++ code_of l.rest;
  seen : list_any (is_bad_part l.kind) (parts l.bytes) ≡ (l.bad || list_any (is_bad_part l.kind) (parts l.rest));
}

abbrev pub decreases-loop-part : goal.decreases-loop-part
decreases-loop-part l = length l.rest
