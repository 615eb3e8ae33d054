-- A nest's trace has as many acts as the parts of an iteration.
use Rattle.std.proofs.Common.{◌≡◌, ℕ, zero, suc, ◌+◌, List, [], ◌∷◌, ◌++◌, length, ℤ, Option, Some, None, refl, sym, ap, ◌∙◌, arith}
use Rattle.storage.specs.Storage.{Storage}
use Rattle.storage.specs.Effect.{Effect}
use Rattle.nest_order.specs.Turns.{joined_up_to}
use Rattle.nest_order.specs.Parts.{NestPart, Acts, Tests, flat, flat_branches}
use Rattle.nest_order.specs.Nest.{Interpretation, effects}
use Rattle.nest_machine.specs.Counting.{Counting, trips_at}
use Rattle.nest_machine.specs.Body.{Body, NoText, AndText, AndIf, AndLoop, Arms, NoArm, AndArm, count_body, count_arms}
use Rattle.nest_machine.specs.BodyCode.{Texts}
use Rattle.nest_machine.specs.Slots.{headed, trip_slots, first_trip, left_slots, slots_after, slots_after_arms}
use Rattle.nest_machine.specs.Trace.{Traced, acts, mark_trace, trace, trace_arms}
use Rattle.nest_machine.specs.ItemsAt.{items_at, branches_at}
use Rattle.nest_machine.proofs.PlacedActs.{acts-many}

module _ {A C F P Q : Type 0} (texts : Texts A C F) (counting : Counting F) (size : List ℤ → ℕ) (stored : ℕ) (interpretation : Interpretation P Q F) (row : ℕ)
    (action_at : A → List ℤ → ℕ → P) (condition_at : C → List ℤ → ℕ → Q) (i : ℕ) where
  abbrev Effects : List (NestPart P Q) → List (Storage → Effect F)
  Effects = effects interpretation row i

  effects-many : (xs ys : List (NestPart P Q)) → length (Effects (xs ++ ys)) ≡ length (Effects xs) + length (Effects ys)
  effects-many [] ys = let e : length (Effects ys) ≡ 0 + length (Effects ys) = omega arith in e
  effects-many (Acts g a ∷ xs) ys = let r = effects-many xs ys in omega (arith, r)
  effects-many (Tests k g e t ∷ xs) ys = let r = effects-many xs ys in omega (arith, r)

  both-many : (xs ys : List (NestPart P Q)) (us vs : List (Traced F)) → length (Effects xs) ≡ length (acts us) → length (Effects ys) ≡ length (acts vs)
      → length (Effects (xs ++ ys)) ≡ length (acts (us ++ vs))
  both-many xs ys us vs e f = effects-many xs ys ∙ (λ j. e j + f j) ∙ sym (acts-many us vs)

  joined-many : (t : ℕ) (p : ℕ → List (NestPart P Q)) (q : ℕ → List (Traced F)) → ((x : ℕ) → length (Effects (p x)) ≡ length (acts (q x)))
      → length (Effects (joined_up_to t p)) ≡ length (acts (joined_up_to t q))
  joined-many zero p q h = refl
  joined-many (suc t) p q h = both-many (joined_up_to t p) (p t) (joined_up_to t q) (q t) (joined-many t p q h) (h t)

  unmarked : (guard : Option ℕ) (o : Option ℕ) (s : List ℤ) (xs : List (Traced F)) → length (acts (mark_trace texts size stored guard o s ++ xs)) ≡ length (acts xs)
  unmarked guard None s xs = refl
  unmarked guard (Some r) s xs = refl

  mutual
    pub as-many : (body : Body A C) (guard guard' : Option ℕ) (k k' b : ℕ) (s : List ℤ)
        → length (Effects (flat (items_at counting action_at condition_at i body b s) guard k)) ≡ length (acts (trace texts counting size stored body guard' k' b s))
    as-many NoText guard guard' k k' b s = refl
    as-many (AndText a rest) guard guard' k k' b s =
        ap suc (as-many rest guard guard' k k' b s ∙ sym (unmarked guard' (texts.mark a) s (trace texts counting size stored rest guard' k' b s)))
    as-many (AndIf arms rest) guard guard' k k' b s =
        both-many (flat_branches (branches_at counting action_at condition_at i arms b s) guard [] k) _
        (trace_arms texts counting size stored arms guard' [] k' b s) _
        (arms-many arms guard guard' [] [] k k' b s)
        (as-many rest guard guard' _ (k' + count_arms arms) b (slots_after_arms counting arms b s))
    as-many (AndLoop bounds inner rest) guard guard' k k' b s =
        let h = headed bounds b s in
        let n = trips_at counting b h in
        let after = slots_after counting inner (b + 4) in
        let at : ℕ → List ℤ = λ x. trip_slots counting after bounds.index b (first_trip counting b h n) x in
        both-many (joined_up_to n (λ x. flat (items_at counting action_at condition_at i inner (b + 4) (at x)) guard k)) _
        (joined_up_to n (λ x. trace texts counting size stored inner guard' k' (b + 4) (at x))) _
        (joined-many n (λ x. flat (items_at counting action_at condition_at i inner (b + 4) (at x)) guard k)
        (λ x. trace texts counting size stored inner guard' k' (b + 4) (at x)) (λ x. as-many inner guard guard' k k' (b + 4) (at x)))
        (as-many rest guard guard' _ (k' + count_body inner) b (left_slots counting after bounds.index b h n))

    arms-many : (arms : Arms A C) (guard guard' : Option ℕ) (earlier earlier' : List ℕ) (k k' b : ℕ) (s : List ℤ)
        → length (Effects (flat_branches (branches_at counting action_at condition_at i arms b s) guard earlier k))
        ≡ length (acts (trace_arms texts counting size stored arms guard' earlier' k' b s))
    arms-many NoArm guard guard' earlier earlier' k k' b s = refl
    arms-many (AndArm test body others) guard guard' earlier earlier' k k' b s =
        ap (λ m. suc (suc m)) (both-many (flat (items_at counting action_at condition_at i body b s) (Some k) (k + 1)) _
        (trace texts counting size stored body (Some k') (k' + 1) b s) _
        (as-many body (Some k) (Some k') (k + 1) (k' + 1) b s)
        (arms-many others guard guard' (k ∷ earlier) (k' ∷ earlier') _ (k' + 1 + count_body body) b (slots_after counting body b s)))
