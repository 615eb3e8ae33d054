-- What is noted tuple by tuple.
use Rattle.std.proofs.Common.{◌≡◌, ℕ, suc, ◌+◌, ◌&&◌, ◌||◌, Bool, true, false, refl, sym, ◌∙◌, ap, arith}
use Rattle.storage.specs.Storage.{Spot, is_same_spot}
use Rattle.machine_steps.specs.Message.{any_below}
use Rattle.message_elements.proofs.Ascending.{same-true}
use Rattle.message_elements.proofs.AllSpots.{both-tests}

pub or-assoc : (a b c : Bool) → (a || (b || c)) ≡ ((a || b) || c)
or-assoc true b c = refl
or-assoc false b c = refl

-- one number more, where something holds beside
pub one-below : (P : ℕ → Bool) (n : ℕ) (b : Bool) → ((P n && b) || (any_below P n && b)) ≡ (any_below P (n + 1) && b)
one-below P n b = let next : suc n ≡ n + 1 = omega arith in both-tests (P n) (any_below P n) b ∙ ap (λ m. any_below P m && b) next

-- a test of the element itself
pub same-test : (P : Spot → Bool) (one s : Spot) (b : Bool) → P one ≡ b → (is_same_spot one s && P s) ≡ (is_same_spot one s && b)
same-test P one s b is = by_case (is_same_spot one s) refl
  where
    by_case : (same : Bool) → is_same_spot one s ≡ same → (same && P s) ≡ (same && b)
    by_case true same = ap P (sym (same-true one s same)) ∙ is
    by_case false same = refl

pub same-passes : (P : Spot → Bool) (one s : Spot) → P one ≡ true → (is_same_spot one s && P s) ≡ is_same_spot one s
same-passes P one s is = same-test P one s true is ∙ and-true (is_same_spot one s)
  where
    and-true : (b : Bool) → (b && true) ≡ b
    and-true true = refl
    and-true false = refl

pub same-fails : (P : Spot → Bool) (one s : Spot) → P one ≡ false → (is_same_spot one s && P s) ≡ false
same-fails P one s is = same-test P one s false is ∙ and-false (is_same_spot one s)
  where
    and-false : (b : Bool) → (b && false) ≡ false
    and-false true = refl
    and-false false = refl
