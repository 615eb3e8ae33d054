-- The example nest meets the premises of the laws.
use Rattle.std.proofs.Common.{◌≡◌, ℕ, zero, suc, ◌+◌, ◌<◌, ◌≤◌, List, [], ◌∷◌, length, Bool, true, false, refl, ap, sym, ◌∙◌, subst, arith, ◌⊎◌, inl, inr, ⊎_elim, ℤ, pos, true≢false}
use Rattle.std.specs.Prelude.{if◌then◌else◌, Ok, ◌+ℤ◌, int_lt, int_div}
use Rattle.std.specs.Int.{int_wrap}
use mir.Syntax.{w64}
use Rattle.std.specs.List.{Contains, AllByRecursion}
use Rattle.std.proofs.lemmas.List.Elements.{All-contains, All-from_recursion}
use Rattle.storage.specs.Storage.{Storage, Spot, row_of, read}
use Rattle.storage.specs.Effect.{Effect, Skip, Put, Fail}
use Rattle.storage.specs.Parted.{kept, IsLeastKept}
use Rattle.nest_order.specs.Items.{EachIn}
use Rattle.nest_order.specs.Listed.{listed}
use Rattle.nest_order.specs.Nest.{nest_effects, nest_act, writes, IsNamed, IsNear, IsParallel}
use Rattle.storage.specs.Truth.{is_set}
use Rattle.nest_order.specs.Example.{Assignment, Set, Add, Divide, Comparison, Exceeds, interpretation, names, spots_written, a_at, b_at, x_at, s_at, body, entry, faulty}

first_of_two : (x y : Spot) → Contains (x ∷ y ∷ []) x
first_of_two x y = (0, omega arith, refl)

second_of_two : (x y : Spot) → Contains (x ∷ y ∷ []) y
second_of_two x y = (1, omega arith, refl)

stored_in : (to from spot : Spot) → to ≡ spot → Contains (to ∷ []) spot × Contains (to ∷ from ∷ []) spot
stored_in to from spot e = subst (λ s. Contains (to ∷ []) s × Contains (to ∷ from ∷ []) s) e ((0, omega arith, refl), first_of_two to from)

named : (start : Storage) (a : Assignment) → IsNamed interpretation names spots_written start a
named start (Set to from) = record {
  near = λ m m' h g agree. ap (Put to) (agree from (second_of_two to from));
  stores = λ m spot value put. stored_in to from spot cc;
}
named start (Add to from) = record {
  near = λ m m' h g agree.
      ap (λ v. Put to (int_wrap w64 (v +ℤ read m from))) (agree to (first_of_two to from))
      ∙ ap (λ v. Put to (int_wrap w64 (read m' to +ℤ v))) (agree from (second_of_two to from));
  stores = λ m spot value put. stored_in to from spot cc;
}
named start (Divide line to from) = record {
  near = λ m m' h g agree.
      ap (λ d. if is_set d then Put to (int_wrap w64 (int_div (read m to) d)) else Fail line) (agree from (second_of_two to from))
      ∙ ap (λ v. if is_set (read m' from) then Put to (int_wrap w64 (int_div v (read m' from))) else Fail line) (agree to (first_of_two to from));
  stores = λ m spot value put. stored_in to from spot (divided (is_set (read m from)) (int_wrap w64 (int_div (read m to) (read m from))) spot value put);
}
  where
    divided : (b : Bool) (v : ℤ) (spot : Spot) (value : ℤ) → (if b then Put to v else Fail line) ≡ Put spot value → to ≡ spot
    divided true v spot value h = cc
    divided false v spot value h = absurd cc

near : (start : Storage) (c : Comparison) → IsNear interpretation names spots_written start c
near start (Exceeds element bound) = λ m m' h g agree. ap (λ v. Ok (int_lt bound v)) (agree element (0, omega arith, refl))

each_named : (start : Storage) (i : ℕ) → EachIn (IsNamed interpretation names spots_written start) (IsNear interpretation names spots_written start) (body i)
each_named start i =
    let set = named start (Set (x_at i) (b_at i)) in
    let first = named start (Divide 4 (a_at i) (b_at (i + 1))) in
    let second = named start (Divide 6 (a_at i) (b_at (i + 1))) in
    let add = named start (Add (s_at i) (b_at i)) in
    ((near start (Exceeds (b_at i) (pos 1)), (set, (first, tt)), (tt, (second, tt), tt)), ((λ k lt. (add, tt)), tt))

-- an iteration names B, and else its own position alone, in the rows before the conditions
abbrev IsOwn : ℕ → Spot → Type 0
IsOwn i spot = (spot.row < 4) × ((spot.row ≡ 1) ⊎ (spot.at ≡ i))

abbrev IsOwnWritten : ℕ → Spot → Type 0
IsOwnWritten i spot = (spot.row ≡ 1 → ⊥) × (spot.at ≡ i)

all_own : (i : ℕ) → AllByRecursion (IsOwn i) (listed names (body i))
all_own i =
    let a : IsOwn i (a_at i) = (omega arith, inr refl) in
    let b : IsOwn i (b_at i) = (omega arith, inl refl) in
    let next : IsOwn i (b_at (i + 1)) = (omega arith, inl refl) in
    let x : IsOwn i (x_at i) = (omega arith, inr refl) in
    let s : IsOwn i (s_at i) = (omega arith, inr refl) in
    (b, (x, (b, (a, (next, (a, (next, (s, (b, (s, (b, tt)))))))))))

all_own_written : (i : ℕ) → AllByRecursion (IsOwnWritten i) (listed (writes names spots_written) (body i))
all_own_written i =
    let a : IsOwnWritten i (a_at i) = (λ e. omega arith, refl) in
    let x : IsOwnWritten i (x_at i) = (λ e. omega arith, refl) in
    let s : IsOwnWritten i (s_at i) = (λ e. omega arith, refl) in
    (x, (a, (a, (s, (s, tt)))))

pub is_parallel : (b : List ℤ) → IsParallel interpretation names spots_written (entry b) 4 3 body
is_parallel b = record {
  named = λ i lt. each_named (entry b) i;
  known = λ i lt. (((λ v e. absurd cc), (tt, (tt, tt)), (tt, (tt, tt), tt)), ((λ k ltk. (tt, tt)), tt));
  rows = λ i number lt ltn. in_row i number lt ltn;
  below = λ i spot lt h. (own i spot h).0;
  apart = λ i i' spot lt lt' other w h. ⊎_elim
      (λ is_b. (written i spot w).0 is_b)
      (λ at. other (sym (written i spot w).1 ∙ at))
      (own i' spot h).1;
}
  where
    own : (i : ℕ) (spot : Spot) → Contains (listed names (body i)) spot → IsOwn i spot
    own i spot h = All-contains (IsOwn i) (listed names (body i)) spot (All-from_recursion (IsOwn i) (listed names (body i)) (all_own i)) h

    written : (i : ℕ) (spot : Spot) → Contains (listed (writes names spots_written) (body i)) spot → IsOwnWritten i spot
    written i spot h =
        All-contains (IsOwnWritten i) (listed (writes names spots_written) (body i)) spot
        (All-from_recursion (IsOwnWritten i) (listed (writes names spots_written) (body i)) (all_own_written i)) h

    in_row : (i number : ℕ) → i < 3 → number < 2 → i < length (row_of (entry b) (4 + number))
    in_row i zero lt ltn = lt
    in_row i (suc zero) lt ltn = lt
    in_row i (suc (suc number)) lt ltn = absurd (omega arith)

pub nine_acts : (i : ℕ) → i < 3 → length (nest_effects interpretation 4 body i) ≤ 9
nine_acts i lt = omega arith

-- an effect that isn't a fault
abbrev goes_on : Effect ℕ → Bool
goes_on Skip = true
goes_on (Put spot value) = true
goes_on (Fail fault) = false

none_sooner : (j : ℕ) → j < 6 → goes_on (kept (nest_act interpretation 4 body) faulty 3 0 j) ≡ true
none_sooner zero lt = refl
none_sooner (suc zero) lt = refl
none_sooner (suc (suc zero)) lt = refl
none_sooner (suc (suc (suc zero))) lt = refl
none_sooner (suc (suc (suc (suc zero)))) lt = refl
none_sooner (suc (suc (suc (suc (suc zero))))) lt = refl
none_sooner (suc (suc (suc (suc (suc (suc j)))))) lt = absurd (omega arith)

pub least_fault : IsLeastKept (nest_act interpretation 4 body) faulty 3 9 0 6 6
least_fault = record {
  iteration = omega arith;
  part = omega arith;
  here = refl;
  sooner = λ i j other lt ltj before is. ⊎_elim
      (λ less. let z : i < 0 = less in absurd (omega arith))
      (λ same. absurd (true≢false (sym (subst (λ x. goes_on (kept (nest_act interpretation 4 body) faulty 3 x j) ≡ true) (sym same.0) (none_sooner j same.1)) ∙ ap goes_on is)))
      before;
}
