-- How many stored conditions the statements of an iteration have: as many as their body.
use Rattle.std.proofs.Common.{◌≡◌, ℕ, zero, suc, ◌+◌, List, ℤ, refl, arith}
use Rattle.nest_order.specs.Items.{Items, Branches}
use Rattle.nest_order.specs.Parts.{most, count_items, count_branches}
use Rattle.nest_machine.specs.Counting.{Counting, trips_at}
use Rattle.nest_machine.specs.Body.{Body, NoText, AndText, AndIf, AndLoop, Arms, NoArm, AndArm, count_body, count_arms}
use Rattle.nest_machine.specs.Slots.{headed, trip_slots, first_trip, left_slots, slots_after, slots_after_arms}
use Rattle.nest_machine.specs.ItemsAt.{items_at, branches_at}

pub most-same : (n : ℕ) (f : ℕ → ℕ) (c : ℕ) → ((x : ℕ) → f x ≡ c) → most (suc n) f ≡ c
most-same zero f c h = let e : f 0 ≡ c = h 0 in omega (arith, e)
most-same (suc n) f c h = let e : f (suc n) ≡ c = h (suc n) in let r : most (suc n) f ≡ c = most-same n f c h in omega (arith, e, r)

module _ {A C F P Q : Type 0} (counting : Counting F) (action_at : A → List ℤ → ℕ → P) (condition_at : C → List ℤ → ℕ → Q) (i : ℕ) where
  abbrev ItemsOf : Body A C → ℕ → List ℤ → Items P Q
  ItemsOf = items_at counting action_at condition_at i

  abbrev BranchesOf : Arms A C → ℕ → List ℤ → Branches P Q
  BranchesOf = branches_at counting action_at condition_at i

  mutual
    pub count-is : (body : Body A C) (b : ℕ) (s : List ℤ) → count_items (ItemsOf body b s) ≡ count_body body
    count-is NoText b s = refl
    count-is (AndText a rest) b s = count-is rest b s
    count-is (AndIf arms rest) b s =
        λ j. count-arms-is arms b s j + count-is rest b (slots_after_arms counting arms b s) j
    count-is (AndLoop bounds inner rest) b s =
        let f = slots_after counting inner (b + 4) in
        let h = headed bounds b s in
        let n = trips_at counting b h in
        let first = first_trip counting b h n in
        λ j. most-same n (λ x. count_items (ItemsOf inner (b + 4) (trip_slots counting f bounds.index b first x))) (count_body inner)
        (λ x. count-is inner (b + 4) (trip_slots counting f bounds.index b first x)) j
        + count-is rest b (left_slots counting f bounds.index b h n) j

    pub count-arms-is : (arms : Arms A C) (b : ℕ) (s : List ℤ) → count_branches (BranchesOf arms b s) ≡ count_arms arms
    count-arms-is NoArm b s = refl
    count-arms-is (AndArm test body others) b s =
        λ j. 1 + count-is body b s j + count-arms-is others b (slots_after counting body b s) j
