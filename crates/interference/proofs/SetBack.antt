-- A scalar that is set and set back leaves the state as it was, also where no name has its place.
use Rattle.std.proofs.Common.{◌≡◌, ℕ, zero, suc, List, [], ◌∷◌, map, set, refl, sym, ap, ◌∙◌, ⊎_elim, ℤ, pos}
use Rattle.std.proofs.lemmas.Bool.{cases_eq}
use Rattle.std.proofs.lemmas.List.{set_comm, set-get_or}
use Rattle.array_meaning.specs.State.{State, scalar, set_scalar}
use Rattle.array_meaning.specs.Iterations.{with_indices}
use Rattle.array_meaning.specs.NestLimits.{with_all}

set_again_list : (xs : List ℤ) (k : ℕ) (v w : ℤ) → set (set xs k v) k w ≡ set xs k w
set_again_list [] k v w = refl
set_again_list (x ∷ xs) zero v w = refl
set_again_list (x ∷ xs) (suc k) v w = ap (λ ys. x ∷ ys) (set_again_list xs k v w)

pub set_again : (s : State) (k : ℕ) (v w : ℤ) → set_scalar (set_scalar s k v) k w ≡ set_scalar s k w
set_again s k v w = ap (λ xs. record s { scalars = xs }) (set_again_list s.scalars k v w)

set_own : (s : State) (k : ℕ) → set_scalar s k (scalar s k) ≡ s
set_own s k = ap (λ xs. record s { scalars = xs }) (set-get_or s.scalars k (pos 0))

pub set_back_one : (s : State) (k : ℕ) (v : ℤ) → set_scalar (set_scalar s k v) k (scalar s k) ≡ s
set_back_one s k v = set_again s k v (scalar s k) ∙ set_own s k

-- what was set before others and is set again after them
overwritten : (xs : List ℕ) (us : List ℤ) (s : State) (k : ℕ) (v w : ℤ) →
    set_scalar (with_indices xs us (set_scalar s k v)) k w ≡ set_scalar (with_indices xs us s) k w
overwritten [] us s k v w = set_again s k v w
overwritten (x ∷ xs) [] s k v w = set_again s k v w
overwritten (x ∷ xs) (u ∷ us) s k v w =
    let before = with_indices xs us (set_scalar s k v) in
    let after = with_indices xs us s in
    ⊎_elim
    (λ e. ap (λ y. set_scalar (set_scalar before y u) k w) e
    ∙ set_again before k u w
    ∙ overwritten xs us s k v w
    ∙ sym (set_again after k u w)
    ∙ ap (λ y. set_scalar (set_scalar after y u) k w) (sym e))
    (λ n. ap (λ zs. record before { scalars = zs }) (set_comm before.scalars x k u w n)
    ∙ ap (λ r. set_scalar r x u) (overwritten xs us s k v w)
    ∙ ap (λ zs. record after { scalars = zs }) (sym (set_comm after.scalars x k u w n)))
    (cases_eq x k)

all_own : (xs : List ℕ) (s : State) → with_indices xs (map (scalar s) xs) s ≡ s
all_own [] s = refl
all_own (x ∷ xs) s = ap (λ r. set_scalar r x (scalar s x)) (all_own xs s) ∙ set_own s x

pub set_back : (xs : List ℕ) (vs : List ℤ) (s : State) → with_indices xs (map (scalar s) xs) (with_indices xs vs s) ≡ s
set_back [] vs s = refl
set_back (x ∷ xs) [] s = all_own (x ∷ xs) s
set_back (x ∷ xs) (v ∷ vs) s =
    overwritten xs (map (scalar s) xs) (with_indices xs vs s) x v (scalar s x)
    ∙ ap (λ r. set_scalar r x (scalar s x)) (set_back xs vs s)
    ∙ set_own s x

-- one value for all, the first one set first or last
set_all_after : (xs : List ℕ) (v : ℤ) (s : State) (x : ℕ) → with_all xs v (set_scalar s x v) ≡ set_scalar (with_all xs v s) x v
set_all_after [] v s x = refl
set_all_after (y ∷ ys) v s x = ap (with_all ys v) (both s x y v) ∙ set_all_after ys v (set_scalar s y v) x where
  both : (s : State) (x y : ℕ) (v : ℤ) → set_scalar (set_scalar s x v) y v ≡ set_scalar (set_scalar s y v) x v
  both s x y v = ⊎_elim
      (λ e. ap (λ z. set_scalar (set_scalar s z v) y v) e ∙ ap (λ z. set_scalar (set_scalar s y v) z v) (sym e))
      (λ n. ap (λ zs. record s { scalars = zs }) (set_comm s.scalars x y v v n))
      (cases_eq x y)

as_indices : (xs : List ℕ) (v : ℤ) (s : State) → with_all xs v s ≡ with_indices xs (map (λ x. v) xs) s
as_indices [] v s = refl
as_indices (x ∷ xs) v s = set_all_after xs v s x ∙ ap (λ r. set_scalar r x v) (as_indices xs v s)

pub set_all_back : (xs : List ℕ) (v : ℤ) (s : State) → with_indices xs (map (scalar s) xs) (with_all xs v s) ≡ s
set_all_back xs v s = ap (with_indices xs (map (scalar s) xs)) (as_indices xs v s) ∙ set_back xs (map (λ x. v) xs) s
