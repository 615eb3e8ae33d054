-- What is passed moves arrays as the trail that it is.
use Rattle.std.proofs.Common.{◌≡◌, ℕ, List, [], ◌∷◌, ℤ, refl, sym, ap, ◌∙◌, ⊎_elim}
use Rattle.mappings.specs.declared.mapping.Mapping.{Mapping}
use Rattle.machine_steps.specs.Layout.{Layout}
use Rattle.machine_steps.specs.Machine.{remapped}
use Rattle.node_code.specs.Instructions.{Instruction, NewMapping, Par, ParForall, ParNest, ParCopy, ParForallCopy, Reduce, Remap}
use Rattle.code_meaning.specs.Instructions.{remappings}
use Rattle.statement_trail.specs.Trail.{Event, Trail}
use Rattle.passed_states.specs.TrailLayouts as trail
use Rattle.passed_states.specs.TrailLayouts.{trail_layouts}
use Rattle.lowered_expressions.specs.Passed.{IsTrail, IsEvent, Passed}
use Rattle.passed_states.specs.PassedLayouts.{layouts_after, passed_layouts}

module _ (maps : List Mapping) (moves : ℕ → List NewMapping) where
  abbrev Moved : ℕ → Event → List Layout → List Layout
  Moved line event layouts = trail.layouts_after (λ line. remappings maps (moves line)) line event layouts

  one-moves : (n : ℕ) (i : Instruction) (slots : List ℤ) (line : ℕ) (event : Event) (layouts : List Layout) → IsEvent moves n i slots line event
      → layouts_after maps i layouts ≡ Moved line event layouts
  one-moves n (Par p) slots line event layouts h = ap (λ e. Moved line e layouts) (sym h.1.1)
  one-moves n (ParCopy copy p) slots line event layouts h = ap (λ e. Moved line e layouts) (sym h.1.1)
  one-moves n (Reduce p r x) slots line event layouts h = ap (λ e. Moved line e layouts) (sym h.1.1)
  one-moves n (ParForall p) slots line event layouts h = ap (λ e. Moved line e layouts) (sym h.1.4)
  one-moves n (ParForallCopy copy p) slots line event layouts h = ap (λ e. Moved line e layouts) (sym h.1.3)
  one-moves n (ParNest p) slots line event layouts h = ⊎_elim (λ g. ap (λ e. Moved line e layouts) (sym g.3)) (λ g. ap (λ e. Moved line e layouts) (sym g.4)) h.1
  one-moves n (Remap l new) slots line event layouts h = ap (λ new. remapped (remappings maps new) layouts) h.2 ∙ ap (λ e. Moved line e layouts) (sym h.1)
  one-moves n i slots line event layouts h = absurd h

  pub trail-moves : (ps : List Passed) (entries : Trail) (layouts : List Layout) → IsTrail moves ps entries
      → passed_layouts maps ps layouts ≡ trail_layouts (λ line. remappings maps (moves line)) entries layouts
  trail-moves [] [] layouts h = refl
  trail-moves [] (e ∷ es) layouts h = absurd h
  trail-moves (p ∷ ps) [] layouts h = absurd h
  trail-moves (p ∷ ps) (e ∷ es) layouts h =
      trail-moves ps es (layouts_after maps p.instruction layouts) h.1
      ∙ ap (trail_layouts (λ line. remappings maps (moves line)) es) (one-moves _ p.instruction p.slots e.line e.event layouts h.0.event)
