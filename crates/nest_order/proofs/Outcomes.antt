-- An act faults exactly where its part does.
use Rattle.std.proofs.Common.{◌≡◌, ℕ, ◌+◌, ◌<◌, List, length, Option, Result, Ok, Err, Bool, true, false, refl, sym, ◌∙◌, subst, arith, ◌⊎◌, inl, inr, pos}
use Rattle.std.specs.Prelude.{if◌then◌else◌, IfSome}
use Rattle.std.specs.List.{Contains}
use Rattle.nest_order.specs.Turns.{◌>>=◌}
use Rattle.storage.specs.Storage.{Storage, Spot, row_of, write}
use Rattle.storage.specs.Effect.{Effect, Skip, Put, Fail, apply, then_apply}
use Rattle.nest_order.specs.Items.{Evaluation, holds_in}
use Rattle.nest_order.specs.Parts.{set_condition, guard_holds, IsBelow, Iteration, NestPart, Acts, Tests, do_part, is_tested}
use Rattle.nest_order.specs.Listed.{value_or, Names, names_in, go_on}
use Rattle.nest_order.specs.Nest.{Interpretation, evaluated, condition_at, conditions_in, put_truth, IsNamed, IsNear}
use Rattle.nest_order.proofs.Flattening.{AllBelow, set_other, Kept, holds_kept, tested_kept}
use Rattle.nest_order.proofs.Touching.{AllIn}
use Rattle.nest_order.proofs.Acting.{Beside, beside_stored, holds_near, test_act}

-- a part that doesn't fault does what it does going on past faults
pub do_or_stop : {A C M F : Type 0} (E : Evaluation A C M F) (p : NestPart A C) (s : Iteration M) → (do_part E p s ≡ Ok (go_on E p s)) ⊎ ((f : F) × (do_part E p s ≡ Err f))
do_or_stop {M = M} {F = F} E (Acts g a) s = cases (guard_holds g s.conditions) (E.action a s.storage)
  where
    cases : (b : Bool) (r : Result M F) →
        ((if b then r else Ok s.storage) >>= (λ m. Ok (record s { storage = m })) ≡ Ok (record s { storage = if b then value_or r s.storage else s.storage }))
        ⊎ ((f : F) × ((if b then r else Ok s.storage) >>= (λ m. let x : Result (Iteration M) F = Ok (record s { storage = m }) in x) ≡ Err f))
    cases true (Ok m) = inl refl
    cases true (Err f) = inr (f, refl)
    cases false r = inl refl
do_or_stop {M = M} {F = F} E (Tests k g es test) s = cases (is_tested g es s.conditions) (holds_in E test s.storage)
  where
    cases : (b : Bool) (r : Result Bool F) →
        ((if b then r else Ok false) >>= (λ v. Ok (record s { conditions = set_condition s.conditions k v }))
        ≡ Ok (record s { conditions = set_condition s.conditions k (if b then value_or r false else false) }))
        ⊎ ((f : F) × ((if b then r else Ok false) >>= (λ v. let x : Result (Iteration M) F = Ok (record s { conditions = set_condition s.conditions k v }) in x) ≡ Err f))
    cases true (Ok v) = inl refl
    cases true (Err f) = inr (f, refl)
    cases false r = inl refl

module _ {A C F : Type 0} (S : Interpretation A C F) (N : Names A C Spot) (W : A → List Spot) (start : Storage) (row i count : ℕ)
    (rows : (c : ℕ) → c < count → i < length (row_of start (row + c)))
    (T listed_all listed_writes : List Spot) (in_T : AllIn listed_all T) (conditions_in_T : (c : ℕ) → c < count → Contains T (condition_at S row i c))
    (low : (spot : Spot) → Contains listed_all spot → spot.row < row) where
  abbrev E : Evaluation A C Storage F
  E = evaluated S

  abbrev pub Next : Iteration Storage → Storage → Type 0
  Next s m = Beside S N W start row i count rows s m

  -- an act faults exactly where the part does
  pub acts_outcome : (g : Option ℕ) (a : A) (s : Iteration Storage) (m : Storage) → IsBelow g count → IsNamed S N W start a → Next s m
      → (guard_holds g s.conditions ≡ true → AllIn (N.of_action a) listed_all) →
      (b : Bool) → guard_holds g s.conditions ≡ b →
      (let e = if guard_holds g (conditions_in S row i m) then S.effect a m else Skip in
      then_apply e m ≡ do_part E (let p : NestPart A C = Acts g a in p) s >>= (λ t. Ok (apply e m)))
  acts_outcome g a s m below named h names b is =
      let on = holds_kept g count s.conditions (conditions_in S row i m) below h.stored ∙ is in
      cases b (λ q. named.near s.storage m h.alike_s h.alike_m (λ l c. h.same l (low l (names (is ∙ q) l c)))) is on
    where
      outcome : (e e' : Effect F) → e' ≡ e
          → then_apply e m
          ≡ (then_apply e' s.storage >>= (λ x. let y : Result (Iteration Storage) F = Ok (record s { storage = x }) in y)) >>= (λ t. Ok (apply e m))
      outcome e e' same =
          subst
          (λ x.
          then_apply e m
          ≡ (then_apply x s.storage >>= (λ x. let y : Result (Iteration Storage) F = Ok (record s { storage = x }) in y))
          >>= (λ t. Ok (apply e m))) (sym same) (of_effect e)
        where
          of_effect : (e : Effect F)
              → then_apply e m
              ≡ (then_apply e s.storage >>= (λ x. let y : Result (Iteration Storage) F = Ok (record s { storage = x }) in y))
              >>= (λ t. Ok (apply e m))
          of_effect Skip = refl
          of_effect (Put spot v) = refl
          of_effect (Fail f) = refl

      both : (c d b : Bool) → c ≡ b → d ≡ b
          → (let e = if b then S.effect a m else Skip in
          then_apply e m
          ≡ ((if b then then_apply (S.effect a s.storage) s.storage else Ok s.storage)
          >>= (λ x. let y : Result (Iteration Storage) F = Ok (record s { storage = x }) in y)) >>= (λ t. Ok (apply e m))) →
          (let e = if c then S.effect a m else Skip in
          then_apply e m
          ≡ ((if d then then_apply (S.effect a s.storage) s.storage else Ok s.storage)
          >>= (λ x. let y : Result (Iteration Storage) F = Ok (record s { storage = x }) in y)) >>= (λ t. Ok (apply e m)))
      both c d b p q h =
          subst
          (λ c.
          let e = if c then S.effect a m else Skip in
          then_apply e m
          ≡ ((if d then then_apply (S.effect a s.storage) s.storage else Ok s.storage)
          >>= (λ x. let y : Result (Iteration Storage) F = Ok (record s { storage = x }) in y)) >>= (λ t. Ok (apply e m))) (sym p)
          (subst
          (λ d.
          let e = if b then S.effect a m else Skip in
          then_apply e m
          ≡ ((if d then then_apply (S.effect a s.storage) s.storage else Ok s.storage)
          >>= (λ x. let y : Result (Iteration Storage) F = Ok (record s { storage = x }) in y)) >>= (λ t. Ok (apply e m))) (sym q) h)

      cases : (b : Bool) → (b ≡ true → S.effect a s.storage ≡ S.effect a m) → guard_holds g s.conditions ≡ b → guard_holds g (conditions_in S row i m) ≡ b →
          (let e = if guard_holds g (conditions_in S row i m) then S.effect a m else Skip in
          then_apply e m ≡ do_part E (let p : NestPart A C = Acts g a in p) s >>= (λ t. Ok (apply e m)))
      cases true same is on = both (guard_holds g (conditions_in S row i m)) (guard_holds g s.conditions) true on is (outcome (S.effect a m) (S.effect a s.storage) (same refl))
      cases false same is on = both (guard_holds g (conditions_in S row i m)) (guard_holds g s.conditions) false on is refl

  pub tests_outcome : (k : ℕ) (g : Option ℕ) (es : List ℕ) (test : Option C) (s : Iteration Storage) (m : Storage) → k < count → IsBelow g k
      → AllBelow es k → IfSome test (IsNear S N W start) → Next s m → (is_tested g es s.conditions ≡ true → AllIn (names_in N test) listed_all) →
      (let m1 = write m (condition_at S row i k) (pos 0) in let e = test_act S N W start row i count rows T listed_all listed_writes in_T conditions_in_T low k g es test m1 in
      then_apply e m1 ≡ do_part E (let p : NestPart A C = Tests k g es test in p) s >>= (λ t. Ok (apply e m1)))
  tests_outcome k g es test s m lt below all near h names =
      let m1 = write m (condition_at S row i k) (pos 0) in
      let h1 = beside_stored S N W start row i count rows s m k false lt h in
      let kept : Kept k s.conditions (conditions_in S row i m1) = λ x ltx. h1.stored x (omega arith) ∙ set_other s.conditions k x false (omega arith) in
      outcome m1 (is_tested g es (conditions_in S row i m1)) (is_tested g es s.conditions) (holds_in E test m1) (holds_in E test s.storage)
      (tested_kept g es k s.conditions (conditions_in S row i m1) below all kept)
      (λ on. holds_near S N W start row i count rows test near m1 s.storage h1.alike_m h.alike_s (λ l c. sym (h1.same l (low l (names on l c)))))
    where
      outcome : (m1 : Storage) (b d : Bool) (r q : Result Bool F) → b ≡ d → (d ≡ true → r ≡ q) →
          (let e = if b then put_truth S row i (condition_at S row i k) r else Skip in
          then_apply e m1
          ≡ ((if d then q else Ok false)
          >>= (λ v. let y : Result (Iteration Storage) F = Ok (record s { conditions = set_condition s.conditions k v }) in y))
          >>= (λ t. Ok (apply e m1)))
      outcome m1 true true r (Ok v) same is = let z = is refl in subst (λ x. let e = put_truth S row i (condition_at S row i k) x in then_apply e m1 ≡ Ok (apply e m1)) (sym z) refl
      outcome m1 true true r (Err f) same is = let z = is refl in subst (λ x. let e = put_truth S row i (condition_at S row i k) x in then_apply e m1 ≡ Err f) (sym z) refl
      outcome m1 false false r q same is = refl
      outcome m1 true false r q same is = absurd cc
      outcome m1 false true r q same is = absurd cc
