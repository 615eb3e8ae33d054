-- A dimension in blocks of the sizes 3, 0, 5 and 4, one a processor: the second has none of the 12 positions. Who owns which follows from the
-- sizes in their order (HPF 2.0, approved extensions, GEN_BLOCK), and not from these definitions.
use Rattle.std.specs.Prelude.{◌≡◌, refl, List, [], ◌∷◌, ℕ, map, pos}
use Rattle.mappings.specs.declared.mapping.Form.TheVariants.{Gen}
use Rattle.mappings.specs.declared.mapping.Line.{Line}
use Rattle.mappings.specs.GenBlock.{block_ends}
use Rattle.mappings.specs.LocalOrder.{owned}
use Rattle.mappings.specs.Owner.{coordinate}
use Rattle.mappings.specs.Positions.{positions}

abbrev sizes : List ℕ
sizes = 3 ∷ 0 ∷ 5 ∷ 4 ∷ []

abbrev line : Line
line = record { lower = pos 1; extent = 12; form = Gen sizes; procs = 4 }

ends : block_ends sizes ≡ 3 ∷ 3 ∷ 8 ∷ 12 ∷ []
ends = refl

owners : map (coordinate line) (positions 12) ≡ 0 ∷ 0 ∷ 0 ∷ 2 ∷ 2 ∷ 2 ∷ 2 ∷ 2 ∷ 3 ∷ 3 ∷ 3 ∷ 3 ∷ []
owners = refl

of_first : owned line 0 ≡ 1 ∷ 2 ∷ 3 ∷ []
of_first = refl

of_second : owned line 1 ≡ []
of_second = refl

of_third : owned line 2 ≡ 4 ∷ 5 ∷ 6 ∷ 7 ∷ 8 ∷ []
of_third = refl

of_fourth : owned line 3 ≡ 9 ∷ 10 ∷ 11 ∷ 12 ∷ []
of_fourth = refl
