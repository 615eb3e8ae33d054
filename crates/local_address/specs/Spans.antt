-- Of the claim.
-- What a node owns of an array, told by how many elements and by the first and the last of them.
use Rattle.std.specs.Prelude.{ℤ, List, [], ◌∷◌, length, map, Option, Some, None}
use Rattle.std.specs.List.{range_with_len}
use Rattle.hpf_base.specs.declared.index.Shape.{Shape}
use Rattle.mappings.specs.declared.mapping.Mapping.{Mapping}
use Rattle.hpf_base.specs.ElementOrder.{product}
use Rattle.mappings.specs.LocalOrder.{local_elements}
use Rattle.local_address.specs.declared.spans.Span.{Span}

-- the last of a list that begins with x
abbrev pub last_of : {X : Type 0} → X → List X → X
last_of x [] = x
last_of x (y ∷ ys) = last_of y ys

-- the number of elements, the first and the last; None where there are none
abbrev pub span_of : List (List ℤ) → Option Span
span_of [] = None
span_of (x ∷ xs) = Some record { count = length (x ∷ xs); first = x; last = last_of x xs }

-- what each node owns of an array, by the numbers of the nodes
abbrev pub owned_spans : Mapping → Shape → List (Option Span)
owned_spans mapping shape = map (λ node. span_of (local_elements mapping shape node)) (range_with_len 0 (product mapping.grid))
