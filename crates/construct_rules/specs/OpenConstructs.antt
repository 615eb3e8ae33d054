-- Of private clauses.
-- No public clause cites this file. Open constructs as they are held, with what is open round each of them.
use Rattle.std.specs.Prelude.{◌≡◌, false, List, [], ◌∷◌, ◌++◌, map, reverse, Option, option_to_list}
use Rattle.construct_rules.specs.declared.role.Construct.{Construct}
use Rattle.construct_rules.specs.declared.open_constructs.Level.{Level}
use Rattle.construct_rules.specs.NestState.{Open, in_where_or_forall, in_do}

abbrev pub open_of : Level → Open
open_of l = record { construct = l.construct; otherwise = l.otherwise }

abbrev pub opens_in : List Level → List Open
opens_in ls = map open_of ls

-- the innermost one first, where the others are held with the outermost one first
abbrev pub all_levels : Option Level → List Level → List Level
all_levels innermost outer = option_to_list innermost ++ reverse outer

-- each level says what it is in
abbrev pub HasFlags : List Level → Type 0
HasFlags [] = Unit {0}
HasFlags (l ∷ ls) = (l.in_where_or_forall ≡ in_where_or_forall (opens_in (l ∷ ls))) × (l.in_do ≡ in_do (opens_in (l ∷ ls))) × HasFlags ls

-- with one more that is open
abbrev pub opened : Construct → List Open → List Open
opened c os = record { construct = c; otherwise = false } ∷ os
