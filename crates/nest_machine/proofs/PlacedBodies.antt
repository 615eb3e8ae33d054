-- A body's trace does over the machine's rows what the acts of its items do over the nest's.
use Rattle.std.proofs.Common.{◌≡◌, ℕ, zero, suc, ◌+◌, ◌<◌, ◌≤◌, ◌⊎◌, inl, inr, List, [], ◌∷◌, ◌++◌, length, drop, ℤ, pos, Bool, true, false, Option, Some, None, refl, sym, ap, ◌∙◌, subst, arith, slice_get, if◌then◌else◌}
use Rattle.std.proofs.lemmas.List.{append_assoc}
use Rattle.storage.specs.Storage.{Storage, Spot, read}
use Rattle.storage.specs.Effect.{Effect, Skip, Put}
use Rattle.nest_order.specs.Turns.{joined_up_to}
use Rattle.nest_order.specs.Items.{Items, Branches, holds_in}
use Rattle.nest_order.specs.Parts.{most, IsBelow, guard_holds, is_tested, NestPart, Acts, Tests, flat, flat_branches, count_items, count_branches}
use Rattle.nest_order.specs.Nest.{Interpretation, evaluated, conditions_in, put_truth, effects, effect_at}
use Rattle.machine_steps.specs.Layout.{Layout}
use Rattle.machine_steps.specs.Instr.{Nothing, Value, Tuples}
use Rattle.machine_steps.specs.Machine.{effect_of}
use Rattle.nest_machine.specs.Counting.{Counting, trips_at}
use Rattle.nest_machine.specs.Body.{Body, NoText, AndText, AndIf, AndLoop, Arms, NoArm, AndArm, count_body, count_arms, TakeSteps, ArmsTakeSteps}
use Rattle.nest_machine.specs.Asked.{are_asked, outcome_where}
use Rattle.nest_syntax.specs.Asked.{guard_asked}
use Rattle.nest_machine.specs.BodyCode.{Texts, copy_spot, text_tuples, test_tuples}
use Rattle.nest_machine.specs.Slots.{SameSlots, headed, trip_slots, first_trip, left_slots, slots_after, slots_after_arms}
use Rattle.nest_machine.specs.Trace.{Traced, acts, mark_trace, trace, trace_arms}
use Rattle.nest_machine.specs.ItemsAt.{items_at, branches_at, test_at}
use Rattle.nest_machine.specs.Placed.{Placed, placed_effect, IsOfRow, PlacedMean, PlacedTexts}
use Rattle.nest_machine.proofs.Slots.{same-on, same-headed, same-first, same-trip, same-left, same-after, same-after-arms}
use Rattle.nest_machine.proofs.Asked.{EarlierBelow}
use Rattle.nest_machine.proofs.Counts.{most-same, count-is, count-arms-is}
use Rattle.nest_machine.proofs.PlacedActs.{DoesAs, DoAll, acts-many, do-append}
use Rattle.nest_machine.proofs.PlacedParts.{text-does, test-does, test-size}

-- ---- lists by what is left of them

head-at : {T : Type 0} (xs : List T) (j : ℕ) (e : T) (r : List T) → drop j xs ≡ e ∷ r → (slice_get xs j ≡ Some e) × (drop (suc j) xs ≡ r)
head-at [] zero e r h = cc
head-at [] (suc j) e r h = cc
head-at (x ∷ xs) zero e r h = (ap Some (let z : x ≡ e = cc in z), let z : xs ≡ r = cc in z)
head-at (x ∷ xs) (suc j) e r h = head-at xs j e r h

module _ {P Q F : Type 0} (interpretation : Interpretation P Q F) (row i : ℕ) where
  abbrev EffectsAt : List (NestPart P Q) → List (Storage → Effect F)
  EffectsAt = effects interpretation row i

  effects-append : (ps qs : List (NestPart P Q)) → EffectsAt (ps ++ qs) ≡ EffectsAt ps ++ EffectsAt qs
  effects-append [] qs = refl
  effects-append (Acts g a ∷ ps) qs = ap (λ es. (λ m. if guard_holds g (conditions_in interpretation row i m) then interpretation.effect a m else Skip) ∷ es) (effects-append ps qs)
  effects-append (Tests number g es test ∷ ps) qs = ap (λ xs. (λ m. Put (record { row = row + number; at = i }) (pos 0))
      ∷ (λ m. if is_tested g es (conditions_in interpretation row i m) then put_truth interpretation row i (record { row = row + number; at = i }) (holds_in (evaluated interpretation) test m) else Skip)
      ∷ xs) (effects-append ps qs)

module _ {A C F P Q : Type 0} (texts : Texts A C F) (counting : Counting F) (size : List ℤ → ℕ) (layout : List Layout → List ℤ → Layout) (stored row count : ℕ)
    (interpretation : Interpretation P Q F) (action_at : A → List ℤ → ℕ → P) (condition_at : C → List ℤ → ℕ → Q)
    (place : ℕ → ℕ) (is_row is_index : ℕ → Bool) (start : Storage) (n b0 : ℕ) (entry : List ℤ)
    (mean : PlacedMean texts interpretation action_at condition_at place is_row is_index b0 entry)
    (fit : PlacedTexts texts size layout stored row count place is_row is_index start n b0 entry)
    (es : ℕ → List (Storage → Effect F)) where
  abbrev ItemsOf : ℕ → Body A C → ℕ → List ℤ → Items P Q
  ItemsOf i = items_at counting action_at condition_at i

  abbrev BranchesOf : ℕ → Arms A C → ℕ → List ℤ → Branches P Q
  BranchesOf i = branches_at counting action_at condition_at i

  abbrev Effects : ℕ → List (NestPart P Q) → List (Storage → Effect F)
  Effects i = effects interpretation row i

  abbrev act : ℕ → ℕ → Storage → Effect F
  act i j m = effect_at (slice_get (es i) j) m

  abbrev Do : ℕ → List (Traced F) → Type 0
  Do = DoAll place is_row layout start n act

  -- what is left of each iteration's acts from j on
  abbrev Next : ℕ → (ℕ → List (Storage → Effect F)) → Type 0
  Next j l = (i : ℕ) → drop j (es i) ≡ l i

  -- an act by its place in the list
  does-at : (t : Tuples F) (l : List ℤ → ℕ → Option Spot) (s : List ℤ) (j : ℕ) (e : ℕ → Storage → Effect F) → ((i : ℕ) → slice_get (es i) j ≡ Some (e i))
      → ((i : ℕ) (m rows : Storage) → Placed place is_row m rows → (effect_of t l s (read rows) i ≡ placed_effect place (e i m)) × IsOfRow is_row (e i m))
      → DoesAs place is_row layout start n t l s (λ i. act i j)
  does-at t l s j e at h i m rows p =
      let r = h i m rows p in
      (r.0 ∙ ap (λ o. placed_effect place (effect_at o m)) (sym (at i)), subst (λ o. IsOfRow is_row (effect_at o m)) (sym (at i)) r.1)

  marks-do : (guard : Option ℕ) (o : Option ℕ) (s : List ℤ) (j : ℕ) (xs : List (Traced F)) → size s ≡ n → ((q : ℕ) → o ≡ Some q → (r : ℕ) → is_row r ≡ true → place r ≡ q → ⊥) → Do j xs
      → Do j (mark_trace texts size stored guard o s ++ xs) × (length (acts (mark_trace texts size stored guard o s ++ xs)) ≡ length (acts xs))
  marks-do guard None s j xs sized off h = (h, refl)
  marks-do guard (Some q) s j xs sized off h = (((sized, off q refl, λ i values. one_or_none (are_asked (guard_asked guard) values)), h), refl)
    where
      one_or_none : (t : Bool) → (outcome_where {F = F} t (Value (pos 1)) ≡ Nothing) ⊎ (outcome_where {F = F} t (Value (pos 1)) ≡ Value (pos 1))
      one_or_none true = inr refl
      one_or_none false = inl refl

  turns-do : (t : ℕ) (xs : ℕ → List (Traced F)) (ps : ℕ → ℕ → List (NestPart P Q)) (j : ℕ) (suf : ℕ → List (Storage → Effect F))
      → ((x j' : ℕ) (suf' : ℕ → List (Storage → Effect F)) → Next j' (λ i. Effects i (ps i x) ++ suf' i) → Do j' (xs x) × Next (j' + length (acts (xs x))) suf')
      → Next j (λ i. Effects i (joined_up_to t (ps i)) ++ suf i) → Do j (joined_up_to t xs) × Next (j + length (acts (joined_up_to t xs))) suf
  turns-do zero xs ps j suf each h = (tt, λ i. let e : j + 0 ≡ j = omega arith in ap (λ k. drop k (es i)) e ∙ h i)
  turns-do (suc t) xs ps j suf each h =
      let first = turns-do t xs ps j (λ i. Effects i (ps i t) ++ suf i) each
      (λ i. h i ∙ ap (λ l. l ++ suf i) (effects-append interpretation row i (joined_up_to t (ps i)) (ps i t))
      ∙ append_assoc (Effects i (joined_up_to t (ps i))) (Effects i (ps i t)) (suf i)) in
      let second = each t (j + length (acts (joined_up_to t xs))) suf first.1 in (
        do-append place is_row layout start n act j (joined_up_to t xs) (xs t) first.0 second.0,
        λ i. (let m = acts-many (joined_up_to t xs) (xs t) in let e : j + length (acts (joined_up_to t xs ++ xs t)) ≡ j + length (acts (joined_up_to t xs)) + length (acts (xs t)) = omega (arith, m) in
            ap (λ k. drop k (es i)) e) ∙ second.1 i,
      )

  both-do : (j : ℕ) (xs ys : List (Traced F)) (ps qs : ℕ → List (NestPart P Q)) (suf : ℕ → List (Storage → Effect F))
      → ((suf' : ℕ → List (Storage → Effect F)) → Next j (λ i. Effects i (ps i) ++ suf' i) → Do j xs × Next (j + length (acts xs)) suf')
      → (Next (j + length (acts xs)) (λ i. Effects i (qs i) ++ suf i) → Do (j + length (acts xs)) ys × Next (j + length (acts xs) + length (acts ys)) suf)
      → Next j (λ i. Effects i (ps i ++ qs i) ++ suf i) → Do j (xs ++ ys) × Next (j + length (acts (xs ++ ys))) suf
  both-do j xs ys ps qs suf one two h =
      let first = one (λ i. Effects i (qs i) ++ suf i)
      (λ i. h i ∙ ap (λ l. l ++ suf i) (effects-append interpretation row i (ps i) (qs i)) ∙ append_assoc (Effects i (ps i)) (Effects i (qs i)) (suf i)) in
      let second = two first.1 in (
        do-append place is_row layout start n act j xs ys first.0 second.0,
        λ i. (let m = acts-many xs ys in let e : j + length (acts (xs ++ ys)) ≡ j + length (acts xs) + length (acts ys) = omega (arith, m) in ap (λ k. drop k (es i)) e) ∙ second.1 i,
      )

  mutual
    pub do-body : (body : Body A C) → TakeSteps counting is_index body → (guard : Option ℕ) (k b : ℕ) (s : List ℤ) (j : ℕ) (suf : ℕ → List (Storage → Effect F))
        → IsBelow guard count → k + count_body body ≤ count → b0 ≤ b → SameSlots is_index b0 entry s
        → Next j (λ i. Effects i (flat (ItemsOf i body b s) guard k) ++ suf i)
        → Do j (trace texts counting size stored body guard k b s) × Next (j + length (acts (trace texts counting size stored body guard k b s))) suf
    do-body NoText ok guard k b s j suf below few le same h = (tt, λ i. let e : j + 0 ≡ j = omega arith in ap (λ z. drop z (es i)) e ∙ h i)
    do-body (AndText a rest) ok guard k b s j suf below few le same h =
        let e : ℕ → Storage → Effect F = λ i m. if guard_holds guard (conditions_in interpretation row i m) then interpretation.effect (action_at a s i) m else Skip in
        let tail : ℕ → List (Storage → Effect F) = λ i. Effects i (flat (ItemsOf i rest b s) guard k) ++ suf i in
        let xs : List (Traced F) = trace texts counting size stored rest guard k b s in
        let r = do-body rest ok guard k b s (suc j) suf below few le same (λ i. (head-at (es i) j (e i) (tail i) (h i)).1) in
        let m = marks-do guard (texts.mark a) s (suc j) xs (fit.sized s same) (fit.marks a) r.0 in (
          ((fit.sized s same, does-at (text_tuples texts size stored guard a) (texts.left a) s j e (λ i. (head-at (es i) j (e i) (tail i) (h i)).0) (text-does texts counting size layout stored row count interpretation action_at condition_at place is_row is_index start n b0 entry mean fit guard a s same below)), m.0),
          (λ i. (let c = m.1 in let z : j + suc (length (acts (mark_trace texts size stored guard (texts.mark a) s ++ xs))) ≡ suc j + length (acts xs) = omega (arith, c) in
              ap (λ y. drop y (es i)) z) ∙ r.1 i),
        )
    do-body (AndIf arms rest) ok guard k b s j suf below few le same h =
        let s1 : List ℤ = slots_after_arms counting arms b s in
        let same1 : SameSlots is_index b0 entry s1 = same-on is_index b0 b0 b entry s s1 (omega arith) le same (same-after-arms counting is_index arms ok.0 b s) in
        both-do j (trace_arms texts counting size stored arms guard [] k b s) (trace texts counting size stored rest guard (k + count_arms arms) b s1)
        (λ i. flat_branches (BranchesOf i arms b s) guard [] k) (λ i. flat (ItemsOf i rest b s1) guard (k + count_branches (BranchesOf i arms b s))) suf
        (λ suf' g. do-arms arms ok.0 guard [] k b s j suf' below tt (omega (arith, few)) le same g)
        (λ g. do-body rest ok.1 guard (k + count_arms arms) b s1 (j + length (acts (trace_arms texts counting size stored arms guard [] k b s))) suf below (omega (arith, few)) le same1
        (λ i. g i ∙ ap (λ c. Effects i (flat (ItemsOf i rest b s1) guard (k + c)) ++ suf i) (count-arms-is counting action_at condition_at i arms b s)))
        h
    do-body (AndLoop bounds inner rest) ok guard k b s j suf below few le same h =
        let f = slots_after counting inner (b + 4) in
        let hd : List ℤ = headed bounds b s in
        let t : ℕ = trips_at counting b hd in
        let first : List ℤ = first_trip counting b hd t in
        let s1 : List ℤ = left_slots counting f bounds.index b hd t in
        let at : ℕ → List ℤ = trip_slots counting f bounds.index b first in
        let keeps = λ (z : List ℤ). same-after counting is_index inner ok.1 (b + 4) z in
        let same_h : SameSlots is_index b0 entry hd = same-on is_index b0 b0 b entry s hd (omega arith) le same (same-headed counting is_index bounds b s ok.0.1) in
        let same_f : SameSlots is_index b0 entry first = same-on is_index b0 b0 b entry hd first (omega arith) le same_h (same-first counting is_index b hd t) in
        let same1 : SameSlots is_index b0 entry s1 = same-on is_index b0 b0 b entry hd s1 (omega arith) le same_h
        (same-left counting is_index f bounds.index b ok.0.1 keeps hd t) in
        let xs : List (Traced F) = joined_up_to t (λ x. trace texts counting size stored inner guard k (b + 4) (at x)) in
        both-do j xs (trace texts counting size stored rest guard (k + count_body inner) b s1)
        (λ i. joined_up_to t (λ x. flat (ItemsOf i inner (b + 4) (at x)) guard k))
        (λ i. flat (ItemsOf i rest b s1) guard (k + most (suc t) (λ x. count_items (ItemsOf i inner (b + 4) (at x))))) suf
        (λ suf' g. turns-do t (λ x. trace texts counting size stored inner guard k (b + 4) (at x)) (λ i x. flat (ItemsOf i inner (b + 4) (at x)) guard k) j suf'
        (λ x j' suf'' g'. do-body inner ok.1 guard k (b + 4) (at x) j' suf'' below (omega (arith, few)) (omega (arith, le))
        (same-on is_index b0 b0 b entry first (at x) (omega arith) le same_f (same-trip counting is_index f bounds.index b ok.0.1 keeps first x)) g') g)
        (λ g. do-body rest ok.2 guard (k + count_body inner) b s1 (j + length (acts xs)) suf below (omega (arith, few)) le same1
        (λ i. g i ∙ ap (λ c. Effects i (flat (ItemsOf i rest b s1) guard (k + c)) ++ suf i)
        (most-same t (λ x. count_items (ItemsOf i inner (b + 4) (at x))) (count_body inner) (λ x. count-is counting action_at condition_at i inner (b + 4) (at x)))))
        h

    pub do-arms : (arms : Arms A C) → ArmsTakeSteps counting is_index arms → (guard : Option ℕ) (earlier : List ℕ) (k b : ℕ) (s : List ℤ) (j : ℕ) (suf : ℕ → List (Storage → Effect F))
        → IsBelow guard count → EarlierBelow count earlier → k + count_arms arms ≤ count → b0 ≤ b → SameSlots is_index b0 entry s
        → Next j (λ i. Effects i (flat_branches (BranchesOf i arms b s) guard earlier k) ++ suf i)
        → Do j (trace_arms texts counting size stored arms guard earlier k b s) × Next (j + length (acts (trace_arms texts counting size stored arms guard earlier k b s))) suf
    do-arms NoArm ok guard earlier k b s j suf below all few le same h = (tt, λ i. let e : j + 0 ≡ j = omega arith in ap (λ z. drop z (es i)) e ∙ h i)
    do-arms (AndArm test body others) ok guard earlier k b s j suf below all few le same h =
        let s1 : List ℤ = slots_after counting body b s in
        let same1 : SameSlots is_index b0 entry s1 = same-on is_index b0 b0 b entry s s1 (omega arith) le same (same-after counting is_index body ok.0 b s) in
        let lt : k < count = omega (arith, few) in
        let c = fit.conditions k lt in
        let made : ℕ → Storage → Effect F = λ i m. Put (record { row = row + k; at = i }) (pos 0) in
        let tested : ℕ → Storage → Effect F = λ i m. if is_tested guard earlier (conditions_in interpretation row i m)
        then put_truth interpretation row i (record { row = row + k; at = i }) (holds_in (evaluated interpretation) (test_at condition_at i test s) m) else Skip in
        let inside : ℕ → List (NestPart P Q) = λ i. flat (ItemsOf i body b s) (Some k) (k + 1) in
        let later : ℕ → List (NestPart P Q) = λ i. flat_branches (BranchesOf i others b s1) guard (k ∷ earlier) (k + 1 + count_items (ItemsOf i body b s)) in
        let tail : ℕ → List (Storage → Effect F) = λ i. Effects i (inside i ++ later i) ++ suf i in
        let n1 = λ (i : ℕ). head-at (es i) j (made i) (tested i ∷ tail i) (h i) in
        let n2 = λ (i : ℕ). head-at (es i) (suc j) (tested i) (tail i) (n1 i).1 in
        let xs : List (Traced F) = trace texts counting size stored body (Some k) (k + 1) b s in
        let ys : List (Traced F) = trace_arms texts counting size stored others guard (k ∷ earlier) (k + 1 + count_body body) b s1 in
        let rest = both-do (suc (suc j)) xs ys inside later suf
        (λ suf' g. do-body body ok.0 (Some k) (k + 1) b s (suc (suc j)) suf' lt (omega (arith, few)) le same g)
        (λ g. do-arms others ok.1 guard (k ∷ earlier) (k + 1 + count_body body) b s1 (suc (suc j) + length (acts xs)) suf below (lt, all) (omega (arith, few)) le same1
        (λ i. g i ∙ ap (λ z. Effects i (flat_branches (BranchesOf i others b s1) guard (k ∷ earlier) (k + 1 + z)) ++ suf i)
        (count-is counting action_at condition_at i body b s)))
        (λ i. (n2 i).1) in (
          (
            (row + k, sym c.0, c.1, (λ layouts. fit.laid layouts s same), c.2, (λ i m. ap (λ o. effect_at o m) (n1 i).0)),
            (
              (
                test-size texts counting size layout stored row count interpretation action_at condition_at place is_row is_index start n b0 entry mean fit guard earlier test s (fit.sized s same),
                does-at (test_tuples texts size stored guard earlier test) (copy_spot (stored + k)) s (suc j) tested (λ i. (n2 i).0)
                    (test-does texts counting size layout stored row count interpretation action_at condition_at place is_row is_index start n b0 entry mean fit guard earlier k test s same below all lt),
              ),
              rest.0,
            ),
          ),
          (λ i. (let z : j + suc (suc (length (acts (xs ++ ys)))) ≡ suc (suc j) + length (acts (xs ++ ys)) = omega arith in ap (λ y. drop y (es i)) z) ∙ rest.1 i),
        )
