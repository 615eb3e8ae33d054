-- A nest that stands is entered and begun.
use Rattle.std.proofs.Common.{◌≡◌, ℕ, zero, suc, ◌+◌, ◌*◌, ◌<◌, ◌≤◌, nat_eq, List, [], ◌∷◌, length, slice_index_or, ℤ, Bool, true, false, None, w64, refl, sym, ap, ◌∙◌, subst, arith}
use Rattle.std.specs.Prelude.{◌||◌}
use Rattle.std.specs.List.{Contains}
use Rattle.std.proofs.lemmas.Bool.Decides.{nat_tests}
use Rattle.std.proofs.lemmas.Int.{int_wrap_fits}
use Rattle.storage.specs.Storage.{Storage, row_of}
use Rattle.array_meaning.specs.Faults.{Fault}
use Rattle.array_meaning.specs.State.{State}
use Rattle.array_meaning.specs.Statements.{Loop, Nest, Block}
use Rattle.array_meaning.specs.Iterations.{is_in, values_of, iteration_count, at_iteration}
use Rattle.fitting_states.proofs.Values.{values_of_fit}
use Rattle.node_code.specs.Forms.{Sub}
use Rattle.node_code.specs.Instructions.{Instruction, NewMapping}
use Rattle.code_meaning.specs.Instructions.{ArrayTable, meaning_of}
use Rattle.code_meaning.specs.NestStatements.{iterations_at}
use Rattle.nest_order.specs.Items.{Items}
use Rattle.nest_order.specs.Nest.{effects, nest_effects}
use Rattle.nest_order.specs.Parts.{count_items, flat}
use Rattle.nest_syntax.specs.NestKinds.{Kind, Shared, has_copies}
use Rattle.nest_order.specs.Copies.{InIteration, items_in, copied}
use Rattle.lowered_expressions.proofs.Reach.{Idle}
use Rattle.nest_items.specs.NestItems.{one, iteration_items, Action, Condition}
use Rattle.nest_items.proofs.FormStands.{nest_stands}
use Rattle.nest_join.specs.NestParts.{IsGood, HasRoom, IsEntered}
use Rattle.nest_join.proofs.Opening.{opening, condition_rows, opened_fits}
use Rattle.nest_machine.specs.Body.{count_body, body_slots}
use Rattle.nest_machine.specs.ItemsAt.{items_at}
use Rattle.nest_machine.specs.Stands.{HasAt}
use Rattle.nest_machine.specs.Trace.{Data}
use Rattle.nest_syntax.specs.Finals.{Final}
use Rattle.nest_machine.specs.Finals.{final_slot}
use Rattle.nest_machine.specs.Entries.{nest_entries}
use Rattle.nest_machine.specs.PlacedEntry.{IsPlacedMemory}
use Rattle.nest_machine.proofs.Slots.{same-refl}
use Rattle.nest_machine.proofs.Counts as counts
use Rattle.nest_join.specs.NestLoops.{counting_at}
use Rattle.nest_join.specs.NestBodies.{nest_layout}
use Rattle.program_code.specs.NestInstructions.{slots_of_nest}
use Rattle.nest_join.specs.NestNames.{NestNames}
use Rattle.nest_join.specs.NestTexts.{text_of, test_of, texts_of, action_at, condition_at}
use Rattle.nest_join.specs.CodedBlocks.{IsCodedBlock, coded}
use Rattle.program_code.specs.Places.{final_by, finals_from}
use Rattle.nest_join.specs.NestRuns.{NestCode, machine_body, code_of, acts_of, IsBegun}
use Rattle.nest_join.proofs.SameItems.{items-block}
use Rattle.nest_join.proofs.RowPlaces.{places-apart, scalars-apart, slot-is}
use Rattle.program_code.specs.NestCode.{nest_beside, plain, text_in, test_in, scalars, conditions, kinds_in, stored, finals, along}
use Rattle.lowered_nests.proofs.NestRuns.{HasCopies, NestStands}
use Rattle.lowered_nests.proofs.PlainCode.{same-slots}
use Rattle.lowered_nests.proofs.CodedTexts.{same-block}
use Rattle.lowered_nests.proofs.Listed.{in-some}
use Rattle.lowered_nests.proofs.Layouts.{layout-itself}
use Rattle.lowered_nests.proofs.Counted.{slots-of, block-below}
use Rattle.lowered_nests.proofs.ManyActs.{as-many}
use Rattle.lowered_nests.proofs.Begun as begun
use Rattle.lowered_nests.proofs.Entered.{memory}

module _ (table : ArrayTable) (row_count : ℕ) (moves : ℕ → List NewMapping) (code : List Instruction) (n many : ℕ) (lie : HasCopies table n)
    (line pc v : ℕ) (nest : Nest) (loop : Loop) (block body : Block) (s : State) (slots : List ℤ) (rows : Storage)
    (h : NestStands table row_count moves code n many line pc v nest loop block body s slots rows) (some : iteration_count nest s ≡ 0 → ⊥) where
  abbrev kinds : ℕ → Kind
  kinds = kinds_in n nest body

  abbrev N : ℕ
  N = iteration_count nest s

  abbrev ks : List ℕ
  ks = scalars n nest body

  abbrev conds : ℕ
  conds = conditions n nest body

  abbrev over : List Sub
  over = along v nest.loops

  abbrev b : ℕ
  b = v + 4 * length nest.loops

  abbrev w : NestNames
  w = begun.w table row_count moves code n many lie line pc v nest loop block body s slots rows h some

  abbrev c : NestCode
  c = begun.c table row_count moves code n many lie line pc v nest loop block body s slots rows h some

  abbrev start : Storage
  start = begun.start table row_count moves code n many lie line pc v nest loop block body s slots rows h some

  abbrev d : Idle row_count → Data Fault
  d = begun.machine_data table row_count moves code n many lie line pc v nest loop block body s slots rows h some

  abbrev ok : IsCodedBlock w s [] body
  ok = begun.ok table row_count moves code n many lie line pc v nest loop block body s slots rows h some

  count-is : count_body (machine_body w c s body ok) ≡ conds
  count-is = begun.count-is table row_count moves code n many lie line pc v nest loop block body s slots rows h some

  off : (x : ℕ) → b ≤ x → w.is_index x ≡ false
  off x le = begun.outside table row_count moves code n many lie line pc v nest loop block body s slots rows h some x (let z = h.from in omega (arith, z, le))

  there : (k : ℕ) → has_copies (kinds k) ≡ true → k < length s.arrays
  there = begun.copied-there table row_count moves code n many lie line pc v nest loop block body s slots rows h some

  even : length s.scalars ≡ length s.arrays
  even = h.holds.places ∙ sym h.holds.more_places

  enough-slots : b + body_slots (machine_body w c s body ok) ≤ length slots
  enough-slots =
      let e : body_slots (machine_body w c s body ok) ≡ slots_of_nest (plain body) =
      slots-of (coded w s [] body ok)
      ∙ same-slots (text_of w) (text_in n nest body) (test_of w) (test_in n nest body) (coded w s [] body ok) (plain body) (same-block table n nest body over w.is_index s [] body ok) in
      let few = h.few in
      let size = h.holds.size in
      omega (arith, e, few, size)

  abbrev ItemsOf : ℕ → Items (InIteration Action) (InIteration Condition)
  ItemsOf i = items_at (counting_at line) (action_at w s) (condition_at w s) i (machine_body w c s body ok) b slots

  same-items : (i : ℕ) → ItemsOf i ≡ items_in i (iteration_items nest body s i)
  same-items i = items-block w line b slots s (begun.entry-held table row_count moves code n many lie line pc v nest loop block body s slots rows h some) off i [] body ok
      (at_iteration nest s i) b slots (omega arith) (record { same = same-refl w.is_index b slots; state = refl; off = tt }) enough-slots

  good : IsGood kinds s
  good = record { fit = h.fits.scalars; there = λ k e. subst (λ m. k < m) (sym even) (there k e) }

  has-room : HasRoom kinds s nest body start n N
  has-room = record {
    rows = λ i number lt few.
        let e : count_items (items_in i (iteration_items nest body s i)) ≡ conds =
        ap count_items (sym (same-items i)) ∙ counts.count-is (counting_at line) (action_at w s) (condition_at w s) i (machine_body w c s body ok) b slots ∙ count-is in
        let small : number < conds = subst (λ m. number < m) e few in
        let r = condition_rows kinds s even there conds N number small in
        (subst (λ m. kinds (m + number) ≡ Shared) h.holds.more_places r.0, subst (λ m. length (row_of start (m + number)) ≡ N) h.holds.more_places r.1);
    below = block-below n h.form.all body (begun.inside table row_count moves code n many lie line pc v nest loop block body s slots rows h some).named h.form.texts;
  }

  pub entered : IsEntered kinds h.form.all s nest loop block body start n (acts_of w c s body ok slots)
  entered = record {
    stands = nest_stands kinds h.form.all nest loop block body (begun.formed table row_count moves code n many lie line pc v nest loop block body s slots rows h some)
        s h.fits.scalars h.known (int_wrap_fits w64 (values_of s loop).first (values_of_fit s h.fits loop h.control).0);
    kinds_are = begun.kinds-are table row_count moves code n many lie line pc v nest loop block body s slots rows h some;
    passed = h.passed;
    opening = opening kinds s even there conds N;
    fit = opened_fits kinds s even there conds N good h.fits.elements;
    good = good;
    paths = begun.paths-are table row_count moves code n many lie line pc v nest loop block body s slots rows h some;
    room = has-room;
    enough = λ i lt.
        let e : length (nest_effects (copied kinds (one kinds)) n (λ x. items_in x (iteration_items nest body s x)) i) ≡ acts_of w c s body ok slots =
        ap (λ x. length (effects (copied kinds (one kinds)) n i (flat x None 0))) (sym (same-items i))
        ∙ as-many (texts_of w) (counting_at line) (iterations_at over) (stored n nest body) (copied kinds (one kinds)) n (action_at w s) (condition_at w s) i
        (machine_body w c s body ok) None None 0 0 b slots in
        omega (arith, e);
  }

  or-true : (t : Bool) → (t || true) ≡ true
  or-true true = refl
  or-true false = refl

  few-finals : (f : Final) → Contains (finals n nest body) f → final_slot f < b
  few-finals f has = at ks 0 declared has.0 has.1 has.2
    where
      declared : (k : ℕ) → is_in k ks ≡ true → k < n
      declared k e =
          let z = in-some ks 0 k e in
          (begun.are table row_count moves code n many lie line pc v nest loop block body s slots rows h some).below k z.0 z.1

      at : (xs : List ℕ) (j : ℕ) → ((k : ℕ) → is_in k xs ≡ true → k < n) → (q : ℕ) → q < length (finals_from n ks conds kinds j xs)
          → slice_index_or (finals_from n ks conds kinds j xs) q f ≡ f → final_slot f < b
      at [] j below q lt e = absurd (omega (arith, lt))
      at (x ∷ xs) j below zero lt e =
          let own : x < n = below x (ap (λ t. t || is_in x xs) (let z : nat_eq x x ≡ true = grind (arith, nat_tests) in z)) in
          let le = begun.from table row_count moves code n many lie line pc v nest loop block body s slots rows h some in
          let is : final_slot (final_by n ks conds (kinds x) j x) ≡ x =
          slot-is n ks conds (begun.are table row_count moves code n many lie line pc v nest loop block body s slots rows h some) kinds (kinds x) j x in
          subst (λ g. final_slot g < b) e (subst (λ y. y < b) (sym is) (omega (arith, own, le)))
      at (x ∷ xs) j below (suc q) lt e = at xs (suc j) (λ k g. below k (ap (λ t. nat_eq k x || t) g ∙ or-true (nat_eq k x))) q (omega (arith, lt)) e

  -- the nest is begun, where its code lies at its place
  pub begins : (is_quiet : ℕ → Bool) (i : Idle row_count) → HasAt (meaning_of table) code is_quiet pc (code_of w c s body ok)
      → IsBegun (meaning_of table) code is_quiet w c h.form.all s loop block body ok start slots (d i)
  begins is_quiet i has = record {
    enters = entered;
    holds = begun.entry-held table row_count moves code n many lie line pc v nest loop block body s slots rows h some;
    has = has;
    room = enough-slots;
    outside = off;
    fit = begun.texts-fit table row_count moves code n many lie line pc v nest loop block body s slots rows h some;
    one_place = places-apart n ks conds (begun.are table row_count moves code n many lie line pc v nest loop block body s slots rows h some);
    memory = subst (λ m. IsPlacedMemory (nest_layout table over (nest_beside nest body)) slots w.place w.is_row kinds N start (nest_entries (finals n nest body) (stored n nest body) m) (d i)) (sym count-is)
        (memory table row_count moves code n many lie line pc v nest loop block body s slots rows h some i);
    empty = refl;
    apart = scalars-apart n ks conds (begun.are table row_count moves code n many lie line pc v nest loop block body s slots rows h some) kinds;
    few = few-finals;
    itself = layout-itself;
  }
