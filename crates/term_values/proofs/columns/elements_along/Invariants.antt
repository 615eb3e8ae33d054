use Rattle.std.proofs.Common.{◌≡◌, ◌∷◌, [], Ok}
use Rattle.array_meaning.specs.Elementals.{Selected, values_over}
use Rattle.array_meaning.specs.declared.sections.Selection.TheVariants.{Along}
use Rattle.term_values.specs.States.{state_of}
use Rattle.term_values.proofs.columns.elements_along.Given as goal

-- the values at the tuples so far
abbrev pub invariant-loop-t : goal.invariant-loop-t
invariant-loop-t l = values_over (state_of l.s) (l.n ∷ []) (Selected l.a (Along l.p ∷ [])) l.t ≡ Ok l.vs.items
