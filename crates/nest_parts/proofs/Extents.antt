-- The statements of loops keep the extents of all rows.
use Rattle.std.proofs.Common.{◌≡◌, ℕ, zero, suc, Bool, true, false, Result, Ok, Err, if◌then◌else◌, subst}
use Rattle.storage.specs.Storage.{Storage, Alike}
use Rattle.storage.specs.Effect.{Effect, Skip, Put, Fail, then_apply}
use Rattle.nest_order.specs.Turns.{◌>>=◌, in_turn}
use Rattle.nest_order.specs.Items.{Items, Done, Then, If, Repeat, Branches, EndIf, Branch, exec, exec_branches, holds_in}
use Rattle.nest_order.specs.Nest.{Interpretation, evaluated, plain_loops}
use Rattle.storage.proofs.StorageLemmas.{Alike-write, Alike-trans, Alike-refl}

module _ {F : Type 0} where
  abbrev StaysAlike : Storage → Result Storage F → Type 0
  StaysAlike m (Ok m') = Alike m' m
  StaysAlike m (Err f) = Unit {0}

  alike-more : (m m' : Storage) (r : Result Storage F) → Alike m' m → StaysAlike m' r → StaysAlike m r
  alike-more m m' (Ok m2) h g = Alike-trans m2 m' m g h
  alike-more m m' (Err f) h g = tt

  alike-bind : (m : Storage) (r : Result Storage F) (f : Storage → Result Storage F) → StaysAlike m r → ((m' : Storage) → StaysAlike m' (f m')) → StaysAlike m (r >>= f)
  alike-bind m (Ok m') f h g = alike-more m m' (f m') h (g m')
  alike-bind m (Err e) f h g = tt

  alike-turns : (t : ℕ) (f : ℕ → Storage → Result Storage F) (m : Storage) → ((x : ℕ) (m' : Storage) → StaysAlike m' (f x m')) → StaysAlike m (in_turn t f m)
  alike-turns zero f m h = Alike-refl m
  alike-turns (suc t) f m h = alike-bind m (in_turn t f m) (f t) (alike-turns t f m h) (h t)

  alike-apply : (e : Effect F) (m : Storage) → StaysAlike m (then_apply e m)
  alike-apply Skip m = Alike-refl m
  alike-apply (Put spot v) m = Alike-write m spot v
  alike-apply (Fail f) m = tt

  module _ {P Q : Type 0} (one : Interpretation P Q F) where
    alike-if : (m : Storage) (r : Result Bool F) (x y : Result Storage F) → StaysAlike m x → StaysAlike m y → StaysAlike m (r >>= (λ holds. if holds then x else y))
    alike-if m (Ok true) x y h g = h
    alike-if m (Ok false) x y h g = g
    alike-if m (Err f) x y h g = tt

    mutual
      exec-alike : (items : Items P Q) (m : Storage) → StaysAlike m (exec (evaluated one) items m)
      exec-alike Done m = Alike-refl m
      exec-alike (Then a rest) m = alike-bind m (then_apply (one.effect a m) m) (exec (evaluated one) rest) (alike-apply (one.effect a m) m) (exec-alike rest)
      exec-alike (If branches rest) m = alike-bind m (exec_branches (evaluated one) branches m) (exec (evaluated one) rest) (branches-alike branches m) (exec-alike rest)
      exec-alike (Repeat t body rest) m =
          alike-bind m (in_turn t (λ x. exec (evaluated one) (body x)) m) (exec (evaluated one) rest) (alike-turns t (λ x. exec (evaluated one) (body x)) m (λ x m'. exec-alike (body x) m')) (exec-alike rest)

      branches-alike : (branches : Branches P Q) (m : Storage) → StaysAlike m (exec_branches (evaluated one) branches m)
      branches-alike EndIf m = Alike-refl m
      branches-alike (Branch test body others) m =
          alike-if m (holds_in (evaluated one) test m) (exec (evaluated one) body m) (exec_branches (evaluated one) others m) (exec-alike body m) (branches-alike others m)

    pub loops-alike : (items : ℕ → Items P Q) (start m : Storage) (n : ℕ) → plain_loops one items start n ≡ Ok m → Alike m start
    loops-alike items start m n e = subst (StaysAlike start) e (alike-turns n (λ i. exec (evaluated one) (items i)) start (λ i m'. exec-alike (items i) m'))
