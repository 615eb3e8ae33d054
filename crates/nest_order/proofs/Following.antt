-- The plain order of the parts of a nest follows its plain loops.
use Rattle.std.proofs.Common.{ℤ, ◌≡◌, ℕ, zero, suc, ◌<◌, ◌≤◌, List, length, Some, None, Result, Ok, Err, Bool, true, false, refl, ap, sym, subst, arith}
use Rattle.std.specs.Prelude.{if◌then◌else◌}
use Rattle.nest_order.specs.Turns.{◌>>=◌, in_turn}
use Rattle.storage.specs.Storage.{Storage, Spot}
use Rattle.storage.specs.Effect.{Effect, Skip, Put, Fail, then_apply}
use Rattle.nest_order.specs.Orders.{plain}
use Rattle.storage.specs.Parted.{parted, kept, NoneKept, IsLeastKept}
use Rattle.nest_order.specs.Items.{Done, Then, If, Repeat, Branches, EndIf, Branch, exec_branches, Items, exec}
use Rattle.nest_order.specs.Listed.{Names}
use Rattle.nest_order.specs.Nest.{Interpretation, evaluated, nest_effects, nest_act, IsParallel, EndAlike, plain_loops}
use Rattle.nest_order.proofs.Parting.{fission_finishes, fission_faults}
use Rattle.nest_order.specs.Stores.{noted, noted_by_all, Observed, observed, observed_loops}
use Rattle.nest_order.proofs.Observing.{NotedAt, loops_noted}
use Rattle.nest_order.proofs.Acting.{touches, parts_apart}

module _ {A C F V : Type 0} (S : Interpretation A C F) where
  -- the same end, without what was noted
  abbrev EndsSame : Result (Observed V) F → Result Storage F → Type 0
  EndsSame (Ok o) r = r ≡ Ok o.storage
  EndsSame (Err f) r = r ≡ Err f

  same_then : (q : Result (Observed V) F) (r : Result Storage F) (f : Observed V → Result (Observed V) F) (g : Storage → Result Storage F)
      → EndsSame q r → ((o : Observed V) → EndsSame (f o) (g o.storage)) → EndsSame (q >>= f) (r >>= g)
  same_then (Ok o) r f g h next = subst (λ r. EndsSame (f o) (r >>= g)) (sym h) (next o)
  same_then (Err e) r f g h next = ap (λ r. r >>= g) h

  same_turns : (f : ℕ → Observed V → Result (Observed V) F) (g : ℕ → Storage → Result Storage F)
      → ((x : ℕ) (o : Observed V) → EndsSame (f x o) (g x o.storage)) → (t : ℕ) (o : Observed V) → EndsSame (in_turn t f o) (in_turn t g o.storage)
  same_turns f g each zero o = refl
  same_turns f g each (suc t) o = same_then (in_turn t f o) (in_turn t g o.storage) (f t) (g t) (same_turns f g each t o) (each t)

  same_effect : (e : Effect F) (m : Storage) (v : V) → EndsSame (then_apply e m >>= (λ x. Ok (record { storage = x; noted_so_far = v }))) (then_apply e m)
  same_effect Skip m v = refl
  same_effect (Put spot w) m v = refl
  same_effect (Fail f) m v = refl

  module _ (note : Spot → ℤ → V → V) where
    mutual
      -- statements whose stores are noted do the same
      same_items : (items : Items A C) (o : Observed V) → EndsSame (exec (observed S note) items o) (exec (evaluated S) items o.storage)
      same_items Done o = refl
      same_items (Then a rest) o =
          let e = S.effect a o.storage in
          same_then (then_apply e o.storage >>= (λ x. Ok (record { storage = x; noted_so_far = noted note e o.noted_so_far })))
          (then_apply e o.storage) (exec (observed S note) rest) (exec (evaluated S) rest)
          (same_effect e o.storage (noted note e o.noted_so_far)) (λ o. same_items rest o)
      same_items (If branches rest) o =
          same_then (exec_branches (observed S note) branches o) (exec_branches (evaluated S) branches o.storage) (exec (observed S note) rest)
          (exec (evaluated S) rest) (same_branches branches o) (λ o. same_items rest o)
      same_items (Repeat t body rest) o =
          same_then (in_turn t (λ x. exec (observed S note) (body x)) o) (in_turn t (λ x. exec (evaluated S) (body x)) o.storage)
          (exec (observed S note) rest) (exec (evaluated S) rest)
          (same_turns (λ x. exec (observed S note) (body x)) (λ x. exec (evaluated S) (body x)) (λ x o. same_items (body x) o) t o) (λ o. same_items rest o)

      same_branches : (branches : Branches A C) (o : Observed V) → EndsSame (exec_branches (observed S note) branches o) (exec_branches (evaluated S) branches o.storage)
      same_branches EndIf o = refl
      same_branches (Branch None body others) o = same_items body o
      same_branches (Branch (Some c) body others) o = cases (same_items body o) (same_branches others o) (S.condition c o.storage)
        where
          cases : EndsSame (exec (observed S note) body o) (exec (evaluated S) body o.storage)
              → EndsSame (exec_branches (observed S note) others o) (exec_branches (evaluated S) others o.storage) → (r : Result Bool F) →
              EndsSame (r >>= (λ b. if b then exec (observed S note) body o else exec_branches (observed S note) others o))
              (r >>= (λ b. if b then exec (evaluated S) body o.storage else exec_branches (evaluated S) others o.storage))
          cases taken later (Ok true) = taken
          cases taken later (Ok false) = later
          cases taken later (Err f) = refl

module _ {A C F : Type 0} (S : Interpretation A C F) (N : Names A C Spot) (W : A → List Spot) (start : Storage) (row n : ℕ) (items : ℕ → Items A C)
    (free : IsParallel S N W start row n items)
    (parts : ℕ) (enough : (i : ℕ) → i < n → length (nest_effects S row items i) ≤ parts) where
  abbrev nothing : ℕ → Spot → ℤ → Unit {0} → Unit {0}
  nothing i spot value before = before

  pub plain_follows : EndAlike row (plain_loops S items start n) (plain (nest_act S row items) start parts n)
  plain_follows =
      cases (observed_loops S nothing items start tt n) (plain (nest_act S row items) start parts n)
      (loops_noted S N W start row n items free parts enough nothing (λ i spot w v le. refl) tt n (omega arith))
      (same_turns S (λ i. exec (observed S (nothing i)) (items i)) (λ i. exec (evaluated S) (items i)) (λ i o. same_items S (nothing i) (items i) o) n
      (record { storage = start; noted_so_far = tt }))
    where
      cases : (q : Result (Observed (Unit {0})) F) (r : Result Storage F)
          → NotedAt start row (noted_by_all nothing (kept (nest_act S row items) start n) parts tt n) q r → EndsSame S q (plain_loops S items start n)
          → EndAlike row (plain_loops S items start n) r
      cases q (Ok m) ends same =
          subst (λ p. EndAlike row p (Ok m)) (sym (subst (λ q. EndsSame S q (plain_loops S items start n)) ends.1 same)) ends.2.same
      cases q (Err f) ends same =
          subst (λ p. EndAlike row p (Err f)) (sym (subst (λ q. EndsSame S q (plain_loops S items start n)) ends same)) refl

  pub nest_finishes : NoneKept (nest_act S row items) start n parts → EndAlike row (plain_loops S items start n) (Ok (parted (nest_act S row items) start n parts))
  nest_finishes none =
      subst (EndAlike row (plain_loops S items start n))
      (fission_finishes (nest_act S row items) start n parts (touches S N W start row n items free) (parts_apart S N W start row n items free parts) none) plain_follows

  same_fault : (q : Result Storage F) (f : F) → EndAlike row q (Err f) → q ≡ Err f
  same_fault (Ok x) f h = absurd h
  same_fault (Err e) f h = ap Err h

  pub nest_faults : (i j : ℕ) (f : F) → IsLeastKept (nest_act S row items) start n parts i j f → plain_loops S items start n ≡ Err f
  nest_faults i j f least =
      same_fault (plain_loops S items start n) f
      (subst (EndAlike row (plain_loops S items start n))
      (fission_faults (nest_act S row items) start n parts (touches S N W start row n items free) (parts_apart S N W start row n items free parts) i j f least) plain_follows)
