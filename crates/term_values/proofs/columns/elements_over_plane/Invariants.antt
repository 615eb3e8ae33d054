use Rattle.std.proofs.Common.{◌≡◌, ◌+◌, ◌*◌, ◌∷◌, [], Ok}
use Rattle.array_meaning.specs.Elementals.{Selected, values_over}
use Rattle.array_meaning.specs.declared.sections.Selection.TheVariants.{Along}
use Rattle.term_values.specs.States.{state_of}
use Rattle.term_values.proofs.columns.elements_over_plane.Given as goal

-- the values at the tuples so far
abbrev pub invariant-loop-y : goal.invariant-loop-y
invariant-loop-y l = values_over (state_of l.s) (l.first ∷ l.second ∷ []) (Selected l.a (Along l.p ∷ Along l.q ∷ [])) (l.y * l.first) ≡ Ok l.vs.items

abbrev pub invariant-loop-x : goal.invariant-loop-x
invariant-loop-x l = values_over (state_of l.s) (l.first ∷ l.second ∷ []) (Selected l.a (Along l.p ∷ Along l.q ∷ [])) (l.y * l.first + l.x) ≡ Ok l.vs.items
