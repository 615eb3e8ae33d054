-- An array item of a PRINT.
use Rattle.node_code.specs.Instructions.{NewMapping, Instruction, OwnLimits, Inside}
use Rattle.code_meaning.specs.Instructions.{go_on_if, all_inside, ArrayTable}
use Rattle.std.proofs.Common.{◌≡◌, ℕ, zero, suc, ◌+◌, ◌<◌, ◌≤◌, List, [], ◌∷◌, ◌++◌, length, ℤ, pos, Option, Some, None, Result, Ok, Err, refl, sym, ap, ◌∙◌, subst, arith, length-append, slice_index_or, option_map}
use Rattle.array_meaning.specs.Elementals.{ArrayValue, Selected, each, values_over, array_value}
use Rattle.array_meaning.specs.Execution.{decimals, item_bytes}
use Rattle.array_meaning.specs.Expressions.{selections}
use Rattle.array_meaning.specs.Faults.{Cause, ◌>>=◌, at_tuple}
use Rattle.array_meaning.specs.Sections.{extents, subscripts_at, positions, space_size}
use Rattle.array_meaning.specs.State.{State, array, element, element_place, if_in_bounds}
use Rattle.array_meaning.specs.Statements.{Elements}
use Rattle.array_meaning.specs.Terms.{SectionSubscripts}
use Rattle.array_meaning.specs.declared.sections.Selection.{Selection}
use Rattle.hpf_base.specs.ElementOrder.{product}
use Rattle.lowering.proofs.Parts.{SubsGive, subscripts-come}
use Rattle.statement_trail.specs.Trail.{selections_trail}
use Rattle.lowered_expressions.proofs.Reach.{still, comes-last, HasAt, has-front, has-back, SameBelow, same-refl, Reaches, stands, one, Comes, comes-on, comes-at}
use Rattle.lowered_expressions.proofs.Scatter.{space-size, space-counted}
use Rattle.lowered_expressions.proofs.Terms.{HoldsScalars, HoldsArrays}
use Rattle.program_code.specs.ExpressionCode.{own_evaluation, subscripts_slots, subs_of, subscripts_code}
use Rattle.lowered_expressions.specs.WellFormed.{AreScalarSubscripts}
use Rattle.program_code.specs.StatementCode.{item_code}
use Rattle.machine_steps.specs.Instr.{Running}
use Rattle.machine_steps.specs.Space.{space_count}
use Rattle.machine_steps.specs.Machine.{element_values, value_or_none}
use Rattle.storage.specs.Storage.{Storage, read}
use Rattle.node_code.specs.Forms.{SectionForm, Sub}
use Rattle.code_meaning.specs.Forms.{selections_in}
use Rattle.code_meaning.specs.Parallel.{at_line, shape_of, spot_of, evaluation_size}
use Rattle.node_code.specs.Parallel.{Evaluation}

module _ (table : ArrayTable) (row_count : ℕ) (moves : ℕ → List NewMapping) (code : List Instruction) (line n : ℕ) (s : State) (rows : Storage) (out : List ℕ) (arrays : HoldsArrays n table.shapes s rows) where
  -- elements are in bounds, or the first that isn't is the fault
  elements-are : (a : ℕ) (tuple : ℕ → List ℤ) (subscripts : ℕ → List ℤ) (t : ℕ) → a < n
      → each tuple (λ t. element s a (subscripts t)) t
      ≡ (each tuple (λ t. if_in_bounds (element_place (shape_of table.shapes a) (subscripts t))) t >>=
      (λ ks. Ok (element_values (read rows) (λ t. spot_of table.shapes a (subscripts t)) t)))
  elements-are a tuple subscripts zero lt = refl
  elements-are a tuple subscripts (suc t) lt =
      ap (λ r. r >>= (λ vs. at_tuple (tuple t) (element s a (subscripts t)) >>= (λ v. Ok (vs ++ v ∷ [])))) (elements-are a tuple subscripts t lt)
      ∙ ap (λ d. each tuple (λ t. if_in_bounds (element_place (shape_of table.shapes a) (subscripts t))) t >>= (λ ks. Ok (before t)) >>=
      (λ vs. at_tuple (tuple t) (if_in_bounds (element_place d (subscripts t)) >>= (λ k. Ok (slice_index_or (array s a).elements k (pos 0)))) >>= (λ v. Ok (vs ++ v ∷ []))))
      (arrays.shape a lt)
      ∙ by_results (each tuple (λ t. if_in_bounds (element_place (shape_of table.shapes a) (subscripts t))) t) (element_place (shape_of table.shapes a) (subscripts t)) (before t)
    where
      before : ℕ → List ℤ
      before t = element_values (read rows) (λ t. spot_of table.shapes a (subscripts t)) t

      by_results : (q : Result (List ℕ) Cause) (p : Option ℕ) (vs : List ℤ)
          → (q >>= (λ ks. Ok vs) >>= (λ vs. at_tuple (tuple t) (if_in_bounds p >>= (λ k. Ok (slice_index_or (array s a).elements k (pos 0)))) >>= (λ v. Ok (vs ++ v ∷ []))))
          ≡ (q >>= (λ ks. at_tuple (tuple t) (if_in_bounds p) >>= (λ k. Ok (ks ++ k ∷ []))) >>=
          (λ ks. Ok (vs ++ value_or_none (read rows) (option_map (λ k. record { row = a; at = k }) p))))
      by_results (Err c) p vs = refl
      by_results (Ok ks) None vs = refl
      by_results (Ok ks) (Some k) vs = ap (λ r. Ok (vs ++ slice_index_or r k (pos 0) ∷ [])) (sym (arrays.elements a lt))

  -- the bytes of a section's elements
  abbrev pub spread : ℕ → List Selection → List ℕ
  spread a ds = decimals (element_values (read rows) (λ t. spot_of table.shapes a (subscripts_at ds (positions (extents ds) t))) (space_count (extents ds)))

  abbrev pub SpreadGives : ℕ → ℕ → List Sub → List ℤ → List ℕ → Type 0
  SpreadGives b a subs slots bytes = (later : List ℤ) → SameBelow b slots later → spread a (selections_in later subs) ≡ bytes

  spread-comes : (pc b a : ℕ) (subs : List Sub) (slots : List ℤ) (ds : List Selection) → a < n
      → HasAt code pc (OwnLimits (own_evaluation line (SectionForm a subs)) ∷ Inside line a subs ∷ []) → SubsGive b subs slots ds
      → Comes table row_count moves code line rows out [] pc (pc + 2) b slots (SpreadGives b a subs) (array_value s (Selected a ds) >>= (λ v. Ok (decimals v.elements)))
  spread-comes pc b a subs slots ds la has gives = by_limits (space_size ns (ds ∷ [])) refl
    where
      p : Evaluation
      p = own_evaluation line (SectionForm a subs)

      ns : List ℕ
      ns = extents ds

      here : selections_in slots subs ≡ ds
      here = gives slots (same-refl b slots)

      pair : List ℤ → Result ArrayValue Cause
      pair vs = Ok record { extents = ns; elements = vs }

      second : ArrayValue → Result (List ℕ) Cause
      second v = Ok (decimals v.elements)

      limits : evaluation_size p slots ≡ space_size ns (ds ∷ [])
      limits = ap (λ x. space_size (extents x) (x ∷ [])) here

      in_bounds : ℕ → Result (List ℕ) Cause
      in_bounds count = each (positions ns) (λ t. if_in_bounds (element_place (shape_of table.shapes a) (subscripts_at ds (positions ns t)))) count

      listed : ℕ → List ℕ
      listed count = decimals (element_values (read rows) (λ t. spot_of table.shapes a (subscripts_at ds (positions ns t))) count)

      by_inside : space_count ns ≡ product ns → (q : Result (List ℕ) Cause) → in_bounds (product ns) ≡ q → Comes table row_count moves code line rows out [] (pc + 1) (pc + 2) b slots (SpreadGives b a subs)
          (q >>= (λ ks. Ok (element_values (read rows) (λ t. spot_of table.shapes a (subscripts_at ds (positions ns t))) (product ns))) >>= pair >>= second)
      by_inside all (Ok ks) e =
          let at : pc + 1 + 1 ≡ pc + 2 = omega arith in (
            slots,
            subst (λ to. Reaches table row_count moves code [] (stands table row_count moves code (pc + 1) slots rows out) (stands table row_count moves code to slots rows out)) at
                (λ i. (
                  1,
                  i,
                  one table row_count moves code (pc + 1) slots rows out (Inside line a subs) has.1.0 i
                      ∙ ap (λ q. record (stands table row_count moves code (pc + 1) slots rows out i)
                      { control = go_on_if {A = List ℕ} (at_line line q) (record { at = pc + 1; slots = slots; status = Running }) }) (ap (all_inside table.shapes a) here ∙ ap in_bounds all ∙ e),
                  still table row_count moves code (pc + 1) slots rows out (Inside line a subs) has.1.0 refl i,
                )),
            same-refl b slots,
            (λ later same. ap (spread a) (gives later same) ∙ ap listed all),
          )
      by_inside all (Err c) e =
          λ i. (
            _,
            (
              1,
              one table row_count moves code (pc + 1) slots rows out (Inside line a subs) has.1.0 i
                  ∙ ap (λ q. record (stands table row_count moves code (pc + 1) slots rows out i)
                  { control = go_on_if {A = List ℕ} (at_line line q) (record { at = pc + 1; slots = slots; status = Running }) }) (ap (all_inside table.shapes a) here ∙ ap in_bounds all ∙ e),
              still table row_count moves code (pc + 1) slots rows out (Inside line a subs) has.1.0 refl i,
            ),
            refl,
            refl,
            refl,
          )

      by_limits : (q : Result ℕ Cause) → space_size ns (ds ∷ []) ≡ q → Comes table row_count moves code line rows out [] pc (pc + 2) b slots (SpreadGives b a subs)
          (q >>= (λ k. values_over s ns (Selected a ds) k >>= pair) >>= second)
      by_limits (Ok k) e =
          comes-on table row_count moves code line rows out [] [] pc (pc + 1) (pc + 2) b b slots slots (SpreadGives b a subs) (values_over s ns (Selected a ds) k >>= pair >>= second) (omega arith)
          (λ i. (
            1,
            i,
            one table row_count moves code pc slots rows out (OwnLimits p) has.0 i
                ∙ ap (λ q. record (stands table row_count moves code pc slots rows out i) { control = go_on_if {A = ℕ} (at_line line q) (record { at = pc; slots = slots; status = Running }) })
                (limits ∙ e),
            still table row_count moves code pc slots rows out (OwnLimits p) has.0 refl i,
          ))
          (same-refl b slots)
          (subst (λ k. Comes table row_count moves code line rows out [] (pc + 1) (pc + 2) b slots (SpreadGives b a subs) (values_over s ns (Selected a ds) k >>= pair >>= second))
          (sym (space-size ns (ds ∷ []) k e))
          (subst (λ r. Comes table row_count moves code line rows out [] (pc + 1) (pc + 2) b slots (SpreadGives b a subs) (r >>= pair >>= second))
          (sym (elements-are a (positions ns) (λ t. subscripts_at ds (positions ns t)) (product ns) la))
          (by_inside (space-counted ns (ds ∷ []) k e) (in_bounds (product ns)) refl)))
      by_limits (Err c) e =
          λ i. (
            _,
            (
              1,
              one table row_count moves code pc slots rows out (OwnLimits p) has.0 i
                  ∙ ap (λ q. record (stands table row_count moves code pc slots rows out i) { control = go_on_if {A = ℕ} (at_line line q) (record { at = pc; slots = slots; status = Running }) })
                  (limits ∙ e),
              still table row_count moves code pc slots rows out (OwnLimits p) has.0 refl i,
            ),
            refl,
            refl,
            refl,
          )

  pub elements-come : (a : ℕ) (rs : SectionSubscripts) (pc b : ℕ) (slots : List ℤ) → a < n → AreScalarSubscripts n rs → HasAt code pc (item_code line b (Elements a rs))
      → HoldsScalars n s slots → n ≤ b → b + subscripts_slots rs ≤ length slots
      → Comes table row_count moves code line rows out (selections_trail line s rs) pc (pc + length (item_code line b (Elements a rs))) b slots (SpreadGives (b + subscripts_slots rs) a (subs_of b rs))
      (item_bytes s (Elements a rs))
  elements-come a rs pc b slots la ok has holds le few =
      let c = subscripts_code line b rs in
      let b1 : ℕ = b + subscripts_slots rs in
      let subs = subs_of b rs in
      let p : Evaluation = own_evaluation line (SectionForm a subs) in
      let last = OwnLimits p ∷ Inside line a subs ∷ [] in
      let pc1 : ℕ = pc + length c in
      let long : pc1 + 2 ≡ pc + length (c ++ last) = omega (arith, length-append c last) in
      comes-at table row_count moves code line rows out (selections_trail line s rs) pc (pc1 + 2) (pc + length (c ++ last)) b slots (SpreadGives b1 a subs) (item_bytes s (Elements a rs)) long
      (comes-last table row_count moves code line rows out (selections_trail line s rs) pc pc1 (pc1 + 2) b b1 slots (SubsGive b1 subs) (SpreadGives b1 a subs) (selections [] s rs)
      (λ ds. array_value s (Selected a ds) >>= (λ v. Ok (decimals v.elements))) (omega arith)
      (subscripts-come table row_count moves code line n s rows out arrays rs pc b slots ok (has-front code pc c last has) holds le few)
      (λ slots1 ds e same gives. spread-comes pc1 b1 a subs slots1 ds la (has-back code pc c last has) gives))
