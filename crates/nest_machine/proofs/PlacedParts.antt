-- A single part of a body's trace does over the machine's rows what its act does over the nest's.
use Rattle.std.proofs.Common.{◌≡◌, ℕ, ◌+◌, ◌<◌, ◌&&◌, List, [], ◌∷◌, map, ℤ, pos, Bool, true, false, Option, Some, None, Result, Ok, Err, refl, sym, ap, ◌∙◌, slice_index_or, if◌then◌else◌}
use Rattle.storage.specs.Storage.{Storage, Spot, row_of, read}
use Rattle.storage.specs.Truth.{is_set, number_for}
use Rattle.storage.specs.Effect.{Effect, Skip, Put}
use Rattle.nest_order.specs.Items.{holds_in}
use Rattle.nest_order.specs.Parts.{IsBelow, guard_holds, is_tested}
use Rattle.nest_order.specs.Nest.{Interpretation, evaluated, conditions_in, put_truth}
use Rattle.machine_steps.specs.Layout.{Layout}
use Rattle.machine_steps.specs.Instr.{Outcome, Value}
use Rattle.machine_steps.specs.Machine.{effect_by, effect_of, value_by}
use Rattle.nest_machine.specs.Counting.{Counting}
use Rattle.nest_syntax.specs.Asked.{Asked, guard_asked, tested_asked}
use Rattle.nest_machine.specs.Asked.{as_asked, outcome_where}
use Rattle.nest_machine.specs.BodyCode.{Texts, copy_spot, text_tuples, test_tuples}
use Rattle.nest_machine.specs.Slots.{SameSlots}
use Rattle.nest_machine.specs.ItemsAt.{test_at, truth_outcome}
use Rattle.nest_machine.specs.Placed.{Placed, placed_effect, IsOfRow, PlacedMean, PlacedTexts}
use Rattle.nest_machine.proofs.Asked.{asked_in, asked-is, after-is, guard-asked, tested-asked, AskedBelow, EarlierBelow, guard-below, tested-below}

module _ {A C F P Q : Type 0} (texts : Texts A C F) (counting : Counting F) (size : List ℤ → ℕ) (layout : List Layout → List ℤ → Layout) (stored row count : ℕ)
    (interpretation : Interpretation P Q F) (action_at : A → List ℤ → ℕ → P) (condition_at : C → List ℤ → ℕ → Q)
    (place : ℕ → ℕ) (is_row is_index : ℕ → Bool) (start : Storage) (n b0 : ℕ) (entry : List ℤ)
    (mean : PlacedMean texts interpretation action_at condition_at place is_row is_index b0 entry)
    (fit : PlacedTexts texts size layout stored row count place is_row is_index start n b0 entry) where
  asked-placed : (ws : List Asked) (i : ℕ) (m rows : Storage) → AskedBelow count ws → Placed place is_row m rows → asked_in stored i rows ws ≡ asked_in row i m ws
  asked-placed [] i m rows below h = refl
  asked-placed (w ∷ ws) i m rows below h =
      let c = fit.conditions w.number below.0 in
      let same : row_of rows (stored + w.number) ≡ row_of m (row + w.number) = ap (row_of rows) (sym c.0) ∙ h (row + w.number) c.1 in
      λ k. as_asked w.value (is_set (slice_index_or (same k) i (pos 0))) && asked-placed ws i m rows below.1 h k

  where-placed : (t : Bool) (left : Option Spot) (o : Outcome F) (e : Effect F) → effect_by left o ≡ placed_effect place e → effect_by left (outcome_where t o) ≡ placed_effect place (if t then e else Skip)
  where-placed true left o e h = h
  where-placed false left o e h = refl

  where-row : (t : Bool) (e : Effect F) → IsOfRow is_row e → IsOfRow is_row (if t then e else Skip)
  where-row true e h = h
  where-row false e h = tt

  pub text-does : (guard : Option ℕ) (a : A) (s : List ℤ) → SameSlots is_index b0 entry s → IsBelow guard count → (i : ℕ) (m rows : Storage) → Placed place is_row m rows
      → (effect_of (text_tuples texts size stored guard a) (texts.left a) s (read rows) i
      ≡ placed_effect place (if guard_holds guard (conditions_in interpretation row i m) then interpretation.effect (action_at a s i) m else Skip))
      × IsOfRow is_row (if guard_holds guard (conditions_in interpretation row i m) then interpretation.effect (action_at a s i) m else Skip)
  text-does guard a s same below i m rows h =
      let ws : List Asked = guard_asked guard in
      let e : Effect F = interpretation.effect (action_at a s i) m in
      let asked : asked_in stored i rows ws ≡ guard_holds guard (conditions_in interpretation row i m) = asked-placed ws i m rows (guard-below count guard below) h ∙ guard-asked row i m guard in
      let does = mean.action a s same i m rows h in (
        (λ j. effect_by (texts.left a s i) (outcome_where (asked-is stored i rows ws (texts.reads a s i) j) (texts.outcome a s i (after-is stored i rows ws (texts.reads a s i) j))))
            ∙ where-placed (asked_in stored i rows ws) (texts.left a s i) (texts.outcome a s i (map (value_by (read rows)) (texts.reads a s i))) e does.0
            ∙ ap (λ t. placed_effect place (if t then e else Skip)) asked,
        where-row (guard_holds guard (conditions_in interpretation row i m)) e does.1,
      )

  truth-placed : (k i : ℕ) (r : Result Bool F) → place (row + k) ≡ stored + k
      → effect_by (Some (record { row = stored + k; at = i })) (truth_outcome r) ≡ placed_effect place (put_truth interpretation row i (record { row = row + k; at = i }) r)
  truth-placed k i (Ok t) e = λ j. Put (record { row = sym e j; at = i }) (number_for t)
  truth-placed k i (Err f) e = refl

  truth-row : (k i : ℕ) (r : Result Bool F) → is_row (row + k) ≡ true → IsOfRow is_row (put_truth interpretation row i (record { row = row + k; at = i }) r)
  truth-row k i (Ok t) e = e
  truth-row k i (Err f) e = tt

  pub test-does : (guard : Option ℕ) (earlier : List ℕ) (k : ℕ) (test : Option C) (s : List ℤ) → SameSlots is_index b0 entry s → IsBelow guard count → EarlierBelow count earlier → k < count
      → (i : ℕ) (m rows : Storage) → Placed place is_row m rows
      → let e = if is_tested guard earlier (conditions_in interpretation row i m)
      then put_truth interpretation row i (record { row = row + k; at = i })
      (holds_in (evaluated interpretation) (test_at condition_at i test s) m) else Skip in
      (effect_of (test_tuples texts size stored guard earlier test) (copy_spot (stored + k)) s (read rows) i ≡ placed_effect place e) × IsOfRow is_row e
  test-does guard earlier k None s same below all lt i m rows h =
      let ws : List Asked = tested_asked guard earlier in
      let c = fit.conditions k lt in
      let truth : Result Bool F = Ok true in
      let e : Effect F = put_truth interpretation row i (record { row = row + k; at = i }) truth in
      let asked : asked_in stored i rows ws ≡ is_tested guard earlier (conditions_in interpretation row i m) =
      asked-placed ws i m rows (tested-below count guard earlier below all) h ∙ tested-asked row i m guard earlier in (
        (λ j. effect_by (Some (record { row = stored + k; at = i })) (outcome_where (asked-is stored i rows ws [] j) (Value (pos 1))))
            ∙ where-placed (asked_in stored i rows ws) (Some (record { row = stored + k; at = i })) (Value (pos 1)) e (truth-placed k i truth c.0)
            ∙ ap (λ t. placed_effect place (if t then e else Skip)) asked,
        where-row (is_tested guard earlier (conditions_in interpretation row i m)) e (truth-row k i truth c.1),
      )
  test-does guard earlier k (Some q) s same below all lt i m rows h =
      let ws : List Asked = tested_asked guard earlier in
      let c = fit.conditions k lt in
      let truth : Result Bool F = interpretation.condition (condition_at q s i) m in
      let e : Effect F = put_truth interpretation row i (record { row = row + k; at = i }) truth in
      let spot : Option Spot = Some (record { row = stored + k; at = i }) in
      let asked : asked_in stored i rows ws ≡ is_tested guard earlier (conditions_in interpretation row i m) =
      asked-placed ws i m rows (tested-below count guard earlier below all) h ∙ tested-asked row i m guard earlier in (
        (λ j. effect_by spot (outcome_where (asked-is stored i rows ws (texts.condition_reads q s i) j) (texts.condition q s i (after-is stored i rows ws (texts.condition_reads q s i) j))))
            ∙ where-placed (asked_in stored i rows ws) spot (texts.condition q s i (map (value_by (read rows)) (texts.condition_reads q s i))) e
            (ap (effect_by spot) (mean.condition q s same i m rows h) ∙ truth-placed k i truth c.0)
            ∙ ap (λ t. placed_effect place (if t then e else Skip)) asked,
        where-row (is_tested guard earlier (conditions_in interpretation row i m)) e (truth-row k i truth c.1),
      )

  pub test-size : (guard : Option ℕ) (earlier : List ℕ) (test : Option C) (s : List ℤ) → size s ≡ n → (test_tuples texts size stored guard earlier test).count s ≡ n
  test-size guard earlier None s e = e
  test-size guard earlier (Some c) s e = e
