-- A nest that stands is begun: it is entered, and its storage lies among the machine's rows.
use Rattle.std.proofs.Common.{◌≡◌, ℕ, ◌+◌, ◌-◌, ◌<◌, ◌≤◌, ◌⊎◌, inl, inr, nat_lt, List, [], ◌∷◌, length, replicate, ℤ, Bool, true, false, Some, if◌then◌else◌, refl, sym, ap, ap₂, ◌∙◌, subst, arith}
use Rattle.std.specs.List.{Contains}
use Rattle.std.proofs.lemmas.Bool.Decides.{nat_tests}
use Rattle.op_tables.specs.Joins.{unit}
use Rattle.storage.specs.Storage.{Storage, row_of}
use Rattle.array_meaning.specs.Faults.{Fault}
use Rattle.array_meaning.specs.State.{State, scalar, array}
use Rattle.array_meaning.specs.Statements.{Loop, Nest, Block}
use Rattle.array_meaning.specs.Iterations.{iteration_count}
use Rattle.code_meaning.specs.Flat.{slot}
use Rattle.node_code.specs.Forms.{Sub}
use Rattle.node_code.specs.Instructions.{Instruction, NewMapping}
use Rattle.code_meaning.specs.Instructions.{ArrayTable}
use Rattle.code_meaning.specs.NestStatements.{copies_extents}
use Rattle.code_meaning.specs.Anchors.{anchor_in}
use Rattle.nest_syntax.specs.NestKinds.{Kind, Shared, New, Assigned, Reduced, has_copies}
use Rattle.nest_order.specs.Copies.{entry_copies}
use Rattle.nest_order.proofs.Copying.{shared_of}
use Rattle.lowered_expressions.specs.Anchors.{IsAnchorText}
use Rattle.lowered_expressions.proofs.Anchors.{anchor-below}
use Rattle.lowered_expressions.proofs.Reach.{Idle}
use Rattle.nest_items.proofs.Storing.{if_so, if_not, by_cases}
use Rattle.nest_machine.specs.Trace.{Data}
use Rattle.nest_machine.specs.Entries.{Entry, at_zero, final_entries, nest_entries, NotMade}
use Rattle.nest_machine.specs.PlacedEntry.{IsPlacedMemory}
use Rattle.nest_join.specs.NestBodies.{nest_layout}
use Rattle.statement_trail.specs.NestParts.{index_in, nest_anchor}
use Rattle.nest_join.specs.NestNames.{NestNames}
use Rattle.program_code.specs.Places.{AreScalars, place_by, final_by}
use Rattle.nest_join.proofs.RowPlaces.{condition-place}
use Rattle.nest_join.proofs.MadeRows.{made-rows, names-unmade}
use Rattle.program_code.specs.NestCode.{nest_beside, scalars, conditions, kinds_in, stored, finals, along}
use Rattle.lowered_nests.proofs.NestRuns.{HasCopies, NestStands}
use Rattle.lowered_nests.proofs.CodedBody.{array-row}
use Rattle.lowered_nests.proofs.Standing.{below-of, entries-below, condition-made, final-made}
use Rattle.lowered_nests.proofs.Begun as begun

module _ (table : ArrayTable) (row_count : ℕ) (moves : ℕ → List NewMapping) (code : List Instruction) (n many : ℕ) (lie : HasCopies table n)
    (line pc v : ℕ) (nest : Nest) (loop : Loop) (block body : Block) (s : State) (slots : List ℤ) (rows : Storage)
    (h : NestStands table row_count moves code n many line pc v nest loop block body s slots rows) (some : iteration_count nest s ≡ 0 → ⊥) where
  abbrev kinds : ℕ → Kind
  kinds = kinds_in n nest body

  abbrev N : ℕ
  N = iteration_count nest s

  abbrev ks : List ℕ
  ks = scalars n nest body

  abbrev conds : ℕ
  conds = conditions n nest body

  abbrev over : List Sub
  over = along v nest.loops

  abbrev w : NestNames
  w = begun.w table row_count moves code n many lie line pc v nest loop block body s slots rows h some

  abbrev start : Storage
  start = begun.start table row_count moves code n many lie line pc v nest loop block body s slots rows h some

  abbrev d : Idle row_count → Data Fault
  d = begun.machine_data table row_count moves code n many lie line pc v nest loop block body s slots rows h some

  abbrev es : List Entry
  es = nest_entries (finals n nest body) (stored n nest body) conds

  row-is : (k : ℕ) → k < n → row_of start k ≡ (if has_copies (kinds k) then scalar s k ∷ [] else (array s k).elements)
  row-is = begun.row-is table row_count moves code n many lie line pc v nest loop block body s slots rows h some

  are : AreScalars n ks
  are = begun.are table row_count moves code n many lie line pc v nest loop block body s slots rows h some

  -- ---- rows

  abbrev Made : ℕ → Type 0
  Made r = ((e : Entry) × Contains es e × (e.row ≡ w.place r) × (entry_copies (kinds r) N (row_of start r) ≡ replicate N (e.start slots)))
      ⊎ (NotMade (w.place r) es × (entry_copies (kinds r) N (row_of start r) ≡ row_of rows (w.place r)))

  copied-row : (r : ℕ) → r < n → has_copies (kinds r) ≡ true → row_of start r ≡ slot slots r ∷ []
  copied-row r lt e = row-is r lt ∙ if_so (has_copies (kinds r)) (scalar s r ∷ []) (array s r).elements e ∙ ap (λ x. x ∷ []) (sym (h.holds.scalars r lt))

  place-at : (r j : ℕ) → index_in ks 0 r ≡ Some j → w.place r ≡ n + j
  place-at r j e = ap (λ o. place_by n ks conds o r) e

  made-copies : (r : ℕ) → r < n → has_copies (kinds r) ≡ true → Made r
  made-copies r lt has =
      let z = begun.listed table row_count moves code n many lie line pc v nest loop block body s slots rows h some r has in
      by_kind z.0 z.1 (kinds r) refl
    where
      lasts : (j : ℕ) → Entry
      lasts j = record { row = n + j; start = λ x. slot x r }

      by_kind : (j : ℕ) → index_in ks 0 r ≡ Some j → (kind : Kind) → kinds r ≡ kind → Made r
      by_kind j at Shared is = let y : has_copies Shared ≡ true = ap has_copies (sym is) ∙ has in absurd cc
      by_kind j at New is =
          inl (
            lasts j,
            final-made n ks conds kinds r j (lasts j) at (subst (λ kind. Contains (final_entries (final_by n ks conds kind j r)) (lasts j)) (sym is) (0, omega arith, refl)),
            sym (place-at r j at),
            ap₂ (λ kind x. entry_copies kind N x) is (copied-row r lt has),
          )
      by_kind j at Assigned is =
          inl (
            lasts j,
            final-made n ks conds kinds r j (lasts j) at (subst (λ kind. Contains (final_entries (final_by n ks conds kind j r)) (lasts j)) (sym is) (0, omega arith, refl)),
            sym (place-at r j at),
            ap₂ (λ kind x. entry_copies kind N x) is (copied-row r lt has),
          )
      by_kind j at (Reduced op) is =
          let e : Entry = record { row = n + j; start = λ x. unit op } in
          inl (
            e,
            final-made n ks conds kinds r j e at (subst (λ kind. Contains (final_entries (final_by n ks conds kind j r)) e) (sym is) (0, omega arith, refl)),
            sym (place-at r j at),
            ap₂ (λ kind x. entry_copies kind N x) is (copied-row r lt has),
          )

  kept-row : (r : ℕ) → r < n → has_copies (kinds r) ≡ false → Made r
  kept-row r lt off =
      let z = array-row table n nest body over h.form.all s h.fits.scalars
      (begun.formed table row_count moves code n many lie line pc v nest loop block body s slots rows h some).quiet
      (begun.inside table row_count moves code n many lie line pc v nest loop block body s slots rows h some).named r lt off in
      inr (
        subst (λ x. NotMade x es) (sym z.1) (names-unmade n ks conds kinds r lt),
        ap (λ kind. entry_copies kind N (row_of start r)) (shared_of (kinds r) off)
            ∙ row-is r lt ∙ if_not (has_copies (kinds r)) (scalar s r ∷ []) (array s r).elements off ∙ sym (h.holds.arrays.elements r lt) ∙ ap (row_of rows) (sym z.1),
      )

  condition-row : (k : ℕ) → k < conds → Made (n + k)
  condition-row k lt =
      inl (
        at_zero (stored n nest body + k),
        condition-made n ks conds kinds k lt,
        sym (condition-place n ks conds are k),
        ap (λ kind. entry_copies kind N (row_of start (n + k))) (begun.condition-shared table row_count moves code n many lie line pc v nest loop block body s slots rows h some k lt)
            ∙ begun.later-row table row_count moves code n many lie line pc v nest loop block body s slots rows h some k lt,
      )

  every-row : (r : ℕ) → w.is_row r ≡ true → Made r
  every-row r of_row =
      let small : r < n + conds = grind (arith, nat_tests, of_row) in
      by_test (nat_lt r n) refl small
    where
      by_test : (t : Bool) → nat_lt r n ≡ t → r < n + conds → Made r
      by_test true e small =
          let lt : r < n = grind (arith, nat_tests, e) in
          by_cases (has_copies (kinds r)) (made-copies r lt) (kept-row r lt)
      by_test false e small =
          let le : n ≤ r = grind (arith, nat_tests, e) in
          let same : n + (r - n) ≡ r = omega (arith, le) in
          subst Made same (condition-row (r - n) (omega (arith, le, small)))

  anchored : IsAnchorText n (nest_anchor nest body)
  anchored = begun.anchored table row_count moves code n many lie line pc v nest loop block body s slots rows h some

  pub memory : (i : Idle row_count) → IsPlacedMemory (nest_layout table over (nest_beside nest body)) slots w.place w.is_row kinds N start es (d i)
  memory i = record {
    apart = made-rows n ks conds kinds;
    as_many = i.laid ∙ sym h.holds.more_rows;
    few = λ e has. let z = below-of (n + (length ks + conds + length ks)) es e (entries-below n ks conds kinds) has in
        let y = h.room in let x = h.holds.more_rows in omega (arith, z, y, x);
    steady = λ layouts same. lie.steady layouts i.layouts (anchor_in slots over (nest_beside nest body)) (copies_extents over slots)
        (λ r lt. same r (names-unmade n ks conds kinds r lt)) (anchor-below n slots over (nest_anchor nest body) anchored);
    inside = λ r of_row. (let z = begun.start-long table row_count moves code n many lie line pc v nest loop block body s slots rows h some in
        let small : r < n + conds = grind (arith, nat_tests, of_row) in omega (arith, z, small));
    rows = every-row;
  }
