-- Of private clauses.
-- What private contracts see of the limits of declared names. No public clause cites this file.
use Rattle.std.specs.Prelude.{⊤, ◌≤◌, length}
use Rattle.hpf_base.specs.declared.limits.TheConstants.{MAX_RANK}
use Rattle.name_table.specs.declared.names.What.{What}
use Rattle.name_table.specs.declared.names.What.TheVariants.{Array}

-- an array has no more dimensions than an index has subscripts
abbrev pub HasFewDims : What → Type 0
HasFewDims (Array ds n) = length ds ≤ MAX_RANK
HasFewDims w = ⊤
