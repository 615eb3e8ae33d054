-- Of private clauses.
-- What private contracts see of the REDISTRIBUTEs among statements. No public clause cites this file.
use Rattle.std.specs.Prelude.{ℕ, List, [], ◌∷◌, map}
use Rattle.std.specs.List.{flat_map}
use Rattle.syntax_tree.specs.Directive.{Distribution, distribution}
use Rattle.directive_check.specs.declared.redistributes.Redistribute.{Redistribute}
use Rattle.statement_walk.specs.Head.{Head}
use Rattle.statement_walk.specs.Head as head
use Rattle.statement_walk.specs.Heads.{PlacedHead}

abbrev pub redistribute_of : ℕ → Head → List (ℕ × Distribution)
redistribute_of line (head.Redistribute d) = (line, d) ∷ []
redistribute_of line h = []

-- the REDISTRIBUTEs, in order, each with its line
abbrev pub redistributes : List PlacedHead → List (ℕ × Distribution)
redistributes hs = flat_map (λ h. redistribute_of h.line h.what) hs

-- what the REDISTRIBUTEs of a tree say, and in which lines
abbrev pub said : List Redistribute → List (ℕ × Distribution)
said rs = map (λ r. (r.line, distribution r.spec.now)) rs
