-- Turns of loops over lists.
use Rattle.std.proofs.Common.{◌≡◌, ℕ, ◌+◌, ◌<◌, Bool, true, false, cond, All, List, [], ◌∷◌, ◌++◌, append_assoc}
use Rattle.std.proofs.Common.{drop, length, get_or, drop-cons, add-one, Option, Some, None, refl, sym, ap, subst, ◌∙◌}
use Rattle.std.specs.Prelude.{find, option_map}
use Rattle.std.proofs.lemmas.List.Elements.{All-head, All-tail}
use Rattle.std.proofs.lemmas.Option.{same_Some}
use Rattle.distribution_rules.specs.Distributed.{all_or_none, and_more}

-- what is left of a list from an item on
pub drop_at : {X : Type 0} (xs : List X) (n : ℕ) (z : X) → n < length xs → drop n xs ≡ get_or xs n z ∷ drop (n + 1) xs
drop_at xs n z within = drop-cons xs n z within ∙ ap (λ m. get_or xs n z ∷ drop m xs) (sym (add-one n))

-- a turn of a loop that puts what an item gives after the rest
pub push_next : {X A : Type 0} (F : List X → List A) (g : X → List A) → ((x : X) (xs : List X) → F (x ∷ xs) ≡ g x ++ F xs) →
    (xs : List X) (n : ℕ) (z : X) (before after all : List A) → n < length xs → after ≡ before ++ g (get_or xs n z) →
    before ++ F (drop n xs) ≡ all → after ++ F (drop (n + 1) xs) ≡ all
push_next F g step xs n z before after all within more so_far =
    let x = get_or xs n z in
    ap (λ l. l ++ F (drop (n + 1) xs)) more
    ∙ append_assoc before (g x) (F (drop (n + 1) xs))
    ∙ ap (λ l. before ++ l) (sym (step x (drop (n + 1) xs)) ∙ ap F (sym (drop_at xs n z within)))
    ∙ so_far

pub push_item : {X A : Type 0} (F : List X → List A) (g : X → List A) → ((x : X) (xs : List X) → F (x ∷ xs) ≡ g x ++ F xs) →
    (xs : List X) (n : ℕ) (x : X) (before after all : List A) → n < length xs → x ≡ get_or xs n x → after ≡ before ++ g x →
    before ++ F (drop n xs) ≡ all → after ++ F (drop (n + 1) xs) ≡ all
push_item F g step xs n x before after all within is more so_far =
    push_next F g step xs n x before after all within (more ∙ ap (λ y. before ++ g y) is) so_far

-- an item that isn't looked for
pub find_next : {X : Type 0} (test : X → Bool) (xs : List X) (n : ℕ) (z : X) → n < length xs → test (get_or xs n z) ≡ false →
    find test (drop n xs) ≡ find test xs → find test (drop (n + 1) xs) ≡ find test xs
find_next test xs n z within fails so_far =
    let rest = drop (n + 1) xs in
    sym (ap (find test) (drop_at xs n z within) ∙ ap (λ b. cond b (Some (get_or xs n z)) (find test rest)) fails) ∙ so_far

-- the item that is found
pub found_item : {X : Type 0} (P : X → Type 0) (test : X → Bool) (xs : List X) (x : X) → All P xs → Some x ≡ find test xs → P x
found_item P test [] x all is = absurd cc
found_item P test (y ∷ ys) x all is = by (test y) (found_item P test ys x (All-tail P y ys all)) is
  where
    by : (b : Bool) → (Some x ≡ find test ys → P x) → Some x ≡ cond b (Some y) (find test ys) → P x
    by true later found = subst P (sym (same_Some x y found)) (All-head P y ys all)
    by false later found = later found

-- ---- what is made of each, where it is made of all

abbrev pub prepended : {A : Type 0} → List A → Option (List A) → Option (List A)
prepended made rest = option_map (λ l. made ++ l) rest

nothing_more : {A : Type 0} (made : List A) (rest : Option (List A)) → prepended made (and_more None rest) ≡ None
nothing_more made None = refl
nothing_more made (Some l) = refl

pub made_stop : {X A : Type 0} (f : X → Option A) (xs : List X) (n : ℕ) (z : X) (made : List A) → n < length xs →
    None ≡ f (get_or xs n z) → prepended made (all_or_none f (drop n xs)) ≡ all_or_none f xs → None ≡ all_or_none f xs
made_stop f xs n z made within is so_far =
    let rest = all_or_none f (drop (n + 1) xs) in
    sym (nothing_more made rest) ∙ ap (prepended made) (ap (λ o. and_more o rest) is ∙ ap (all_or_none f) (sym (drop_at xs n z within))) ∙ so_far
