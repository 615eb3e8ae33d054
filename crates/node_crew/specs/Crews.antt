-- Of private clauses.
-- Crews.
use Rattle.std.specs.Prelude.{List, flat_map}

-- the crews joined, in order
abbrev pub joined : {A : Type 0} → List (List A) → List A
joined crews = flat_map (λ crew. crew) crews
