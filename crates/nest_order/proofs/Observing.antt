-- The stores of the plain loops are those of the parted order.
use Rattle.std.proofs.Common.{◌≡◌, ℕ, zero, suc, ◌+◌, ◌<◌, ◌≤◌, List, [], ◌∷◌, length, Option, Some, None, Result, Ok, Err, Bool, true, false, refl, ap, sym, ◌∙◌, subst, arith, ⊎_elim, ℤ, pos}
use Rattle.std.specs.Prelude.{if◌then◌else◌, slice_get}
use Rattle.std.specs.List.{Contains}
use Rattle.std.proofs.lemmas.List.Elements.{Contains-append_left}
use Rattle.nest_order.specs.Turns.{◌>>=◌, in_turn, joined_up_to}
use Rattle.storage.specs.Storage.{Storage, Spot, row_of, write, Alike}
use Rattle.storage.specs.Effect.{Effect, Skip, Put, Fail, apply, then_apply}
use Rattle.nest_order.specs.Orders.{plain_parts, plain}
use Rattle.storage.specs.Parted.{parted, kept, NoneKept, IsLeastKept}
use Rattle.nest_order.specs.Items.{Items, Evaluation, holds_in, exec}
use Rattle.nest_order.specs.Parts.{Conditions, set_condition, guard_holds, IsBelow, Iteration, NestPart, Acts, Tests, count_items, flat, do_part, do_parts, Matches, is_tested}
use Rattle.nest_order.specs.Listed.{Names, go_on, touched, listed}
use Rattle.nest_order.specs.Nest.{Interpretation, evaluated, condition_at, conditions_in, put_truth, effects, effect_at, nest_effects, nest_act, writes, IsNamed, IsParallel, SameBelow}
use Rattle.storage.specs.Truth.{number_for}
use Rattle.nest_order.specs.Stores.{noted, noted_by_parts, noted_by_all, Observed, observed, observed_loops}
use Rattle.storage.proofs.StorageLemmas.{Alike-trans, Alike-sym, Alike-refl}
use Rattle.nest_order.proofs.Flattening.{holds_kept, items_taken}
use Rattle.nest_order.proofs.Touching.{AllIn, touched_listed}
use Rattle.nest_order.proofs.Numbering.{in_turn-add, in_turn-same}
use Rattle.nest_order.proofs.Parting.{plain_kept, fission_finishes, fission_faults}
use Rattle.nest_order.proofs.Acting.{AreGood, all_good, test_act, acts_proper, tests_proper, first_named, others_named, condition_touched, touches, parts_apart}
use Rattle.nest_order.proofs.Outcomes.{Next, do_or_stop, acts_outcome, tests_outcome}

module _ {A C F V : Type 0} (S : Interpretation A C F) (note : Spot → ℤ → V → V) where
  -- an iteration's storage with what is noted
  abbrev lift : Iteration Storage → V → Iteration (Observed V)
  lift s v = record { storage = record { storage = s.storage; noted_so_far = v }; conditions = s.conditions }

  abbrev noted_after : NestPart A C → Iteration Storage → V → V
  noted_after (Acts g a) s v = if guard_holds g s.conditions then noted note (S.effect a s.storage) v else v
  noted_after (Tests k g es test) s v = v

  -- a part does the same where its stores are noted
  same_part : (p : NestPart A C) (s : Iteration Storage) (v : V) → do_part (observed S note) p (lift s v) ≡ do_part (evaluated S) p s >>= (λ t. Ok (lift t (noted_after p s v)))
  same_part (Acts g a) s v = cases (guard_holds g s.conditions) (S.effect a s.storage)
    where
      cases : (b : Bool) (e : Effect F) →
          ((if b
          then then_apply e s.storage >>= (λ m. Ok (record { storage = m; noted_so_far = noted note e v }))
          else Ok (record { storage = s.storage; noted_so_far = v })) >>= (λ o. Ok (record { storage = o; conditions = s.conditions })))
          ≡ ((if b then then_apply e s.storage else Ok s.storage) >>= (λ m. Ok (record s { storage = m }))) >>= (λ t. Ok (lift t (if b then noted note e v else v)))
      cases true Skip = refl
      cases true (Put spot w) = refl
      cases true (Fail f) = refl
      cases false e = refl
  same_part (Tests k g es test) s v = same_test test
    where
      cases : (b : Bool) (r : Result Bool F) →
          ((if b then r else Ok false) >>= (λ h. Ok (record { storage = record { storage = s.storage; noted_so_far = v }; conditions = set_condition s.conditions k h })))
          ≡ ((if b then r else Ok false)
          >>= (λ h. let x : Result (Iteration Storage) F = Ok (record s { conditions = set_condition s.conditions k h }) in x))
          >>= (λ t. Ok (lift t v))
      cases true (Ok h) = refl
      cases true (Err f) = refl
      cases false r = refl

      same_test : (test : Option C) → do_part (observed S note) (Tests k g es test) (lift s v) ≡ do_part (evaluated S) (Tests k g es test) s >>= (λ t. Ok (lift t v))
      same_test None = cases (is_tested g es s.conditions) (Ok true)
      same_test (Some c) = cases (is_tested g es s.conditions) (S.condition c s.storage)

  -- acts in order with their stores noted, up to the first fault
  abbrev in_list : List (Storage → Effect F) → Observed V → Result (Observed V) F
  in_list [] o = Ok o
  in_list (e ∷ es) o = then_apply (e o.storage) o.storage >>= (λ m. in_list es (record { storage = m; noted_so_far = noted note (e o.storage) o.noted_so_far }))

  abbrev one_act : (Storage → Effect F) → Observed V → Result (Observed V) F
  one_act e o = then_apply (e o.storage) o.storage >>= (λ m. Ok (record { storage = m; noted_so_far = noted note (e o.storage) o.noted_so_far }))

  idle : (k : ℕ) (o : Observed V) → in_turn k (λ j. one_act (effect_at (slice_get [] j))) o ≡ Ok o
  idle zero o = refl
  idle (suc k) o = ap (λ r. r >>= one_act (effect_at (slice_get [] k))) (idle k o)

  by_number : (es : List (Storage → Effect F)) (k : ℕ) → length es ≤ k → (o : Observed V) → in_turn k (λ j. one_act (effect_at (slice_get es j))) o ≡ in_list es o
  by_number [] k le o = idle k o
  by_number (e ∷ es) zero le o = absurd (omega arith)
  by_number (e ∷ es) (suc k) le o =
      let f = λ (j : ℕ). one_act (effect_at (slice_get (e ∷ es) j)) in
      let z : suc k ≡ 1 + k = omega arith in
      ap (λ c. in_turn c f o) z ∙ in_turn-add 1 k f o
      ∙ same (then_apply (e o.storage) o.storage) (noted note (e o.storage) o.noted_so_far) (in_turn k (λ x. f (1 + x)))
      (λ x. ap (λ g. g x) (in_turn-same k (λ y. f (1 + y)) (λ y. f (suc y)) (λ y lt. let s : 1 + y ≡ suc y = omega arith in ap f s)) ∙ by_number es k (omega arith) x)
    where
      same : (r : Result Storage F) (v : V) (g : Observed V → Result (Observed V) F) → ((x : Observed V) → g x ≡ in_list es x) →
          (r >>= (λ m. let x : Result (Observed V) F = Ok (record { storage = m; noted_so_far = v }) in x)) >>= g
          ≡ r >>= (λ m. in_list es (record { storage = m; noted_so_far = v }))
      same (Ok m) v g h = h (record { storage = m; noted_so_far = v })
      same (Err f) v g h = refl

-- the plain loops have come to x, and the plain order of the parts to m
pub record At (start : Storage) (row : ℕ) (x m : Storage) : Type 0 where
  pub alike : Alike x start
  pub same : SameBelow row x m

-- statements end as the plain order of the parts does, where what its acts note is w
abbrev pub NotedAt : {V F : Type 0} → Storage → ℕ → V → Result (Observed V) F → Result Storage F → Type 0
NotedAt start row w q (Ok m) = (x : Storage) × (q ≡ Ok (record { storage = x; noted_so_far = w })) × At start row x m
NotedAt start row w q (Err f) = q ≡ Err f

module _ {A C F V : Type 0} (S : Interpretation A C F) (N : Names A C Spot) (W : A → List Spot) (start : Storage) (row i count : ℕ)
    (rows : (c : ℕ) → c < count → i < length (row_of start (row + c)))
    (T listed_all listed_writes : List Spot) (in_T : AllIn listed_all T) (conditions_in_T : (c : ℕ) → c < count → Contains T (condition_at S row i c))
    (low : (spot : Spot) → Contains listed_all spot → spot.row < row)
    (note : Spot → ℤ → V → V) (unnoted : (spot : Spot) (w : ℤ) (v : V) → row ≤ spot.row → note spot w v ≡ v) where
  abbrev E : Evaluation A C Storage F
  E = evaluated S

  abbrev O : Evaluation A C (Observed V) F
  O = observed S note

  abbrev Beside : Iteration Storage → Storage → Type 0
  Beside = Next S N W start row i count rows T listed_all listed_writes in_T conditions_in_T low

  abbrev Follows : Result (Iteration (Observed V)) F → Result (Observed V) F → Type 0
  Follows (Ok t) r =
      (m : Storage) × (r ≡ Ok (record { storage = m; noted_so_far = t.storage.noted_so_far }))
      × Beside (record { storage = t.storage.storage; conditions = t.conditions }) m
  Follows (Err f) r = r ≡ Err f

  one_part : (p : NestPart A C) (ps : List (NestPart A C)) (s : Iteration Storage) (v w : V) (e : Effect F) (m : Storage) (es : List (Storage → Effect F)) →
      then_apply e m ≡ do_part E p s >>= (λ t. Ok (apply e m)) → w ≡ noted_after S note p s v →
      Follows (do_parts O ps (lift S note (go_on E p s) (noted_after S note p s v))) (in_list S note es (record { storage = apply e m; noted_so_far = noted_after S note p s v })) →
      Follows (do_parts O (p ∷ ps) (lift S note s v)) (then_apply e m >>= (λ x. in_list S note es (record { storage = x; noted_so_far = w })))
  one_part p ps s v w e m es outcome is rest = ⊎_elim
      (λ done.
      subst (λ q. Follows (q >>= do_parts O ps) (then_apply e m >>= (λ x. in_list S note es (record { storage = x; noted_so_far = w }))))
      (sym (same_part S note p s v ∙ ap (λ q. q >>= (λ t. Ok (lift S note t (noted_after S note p s v)))) done))
      (subst (λ r. Follows (do_parts O ps (lift S note (go_on E p s) (noted_after S note p s v))) (r >>= (λ x. in_list S note es (record { storage = x; noted_so_far = w }))))
      (sym (outcome ∙ ap (λ q. q >>= (λ t. Ok (apply e m))) done))
      (subst
      (λ w.
      Follows (do_parts O ps (lift S note (go_on E p s) (noted_after S note p s v)))
      (in_list S note es (record { storage = apply e m; noted_so_far = w }))) (sym is) rest)))
      (λ stop.
      subst (λ q. Follows (q >>= do_parts O ps) (then_apply e m >>= (λ x. in_list S note es (record { storage = x; noted_so_far = w }))))
      (sym (same_part S note p s v ∙ ap (λ q. q >>= (λ t. Ok (lift S note t (noted_after S note p s v)))) stop.1))
      (ap (λ r. r >>= (λ x. in_list S note es (record { storage = x; noted_so_far = w }))) (outcome ∙ ap (λ q. q >>= (λ t. Ok (apply e m))) stop.1)))
      (do_or_stop E p s)

  -- what an assignment's act notes
  acts_noted : (g : Option ℕ) (a : A) (s : Iteration Storage) (m : Storage) (v : V) → IsBelow g count → IsNamed S N W start a → Beside s m
      → (guard_holds g s.conditions ≡ true → AllIn (N.of_action a) listed_all) →
      noted note (if guard_holds g (conditions_in S row i m) then S.effect a m else Skip) v ≡ noted_after S note (Acts g a) s v
  acts_noted g a s m v below named h names =
      cases (guard_holds g (conditions_in S row i m)) (guard_holds g s.conditions) (holds_kept g count s.conditions (conditions_in S row i m) below h.stored)
      (λ on. named.near m s.storage h.alike_m h.alike_s (λ l c. sym (h.same l (low l (names on l c)))))
    where
      cases : (b d : Bool) → b ≡ d → (d ≡ true → S.effect a m ≡ S.effect a s.storage)
          → noted note (if b then S.effect a m else Skip) v ≡ (if d then noted note (S.effect a s.storage) v else v)
      cases true true e same = ap (λ x. noted note x v) (same refl)
      cases false false e same = refl
      cases true false e same = absurd cc
      cases false true e same = absurd cc

  -- a test's acts note nothing
  tests_noted : (k : ℕ) (b : Bool) (r : Result Bool F) (v : V)
      → noted note (if b then put_truth S row i (condition_at S row i k) r else Skip) (note (condition_at S row i k) (pos 0) v) ≡ v
  tests_noted k true (Ok h) v =
      unnoted (condition_at S row i k) (number_for h) (note (condition_at S row i k) (pos 0) v) (omega arith) ∙ unnoted (condition_at S row i k) (pos 0) v (omega arith)
  tests_noted k true (Err f) v = unnoted (condition_at S row i k) (pos 0) v (omega arith)
  tests_noted k false r v = unnoted (condition_at S row i k) (pos 0) v (omega arith)

  parts_follow : (ps : List (NestPart A C)) → AreGood S N W start row i count ps → (s : Iteration Storage) (m : Storage) (v : V) → Beside s m
      → AllIn (touched E N ps s) listed_all → AllIn (touched E (writes N W) ps s) listed_writes →
      Follows (do_parts O ps (lift S note s v)) (in_list S note (effects S row i ps) (record { storage = m; noted_so_far = v }))
  parts_follow [] good s m v h names written = (m, refl, h)
  parts_follow (Acts g a ∷ ps) good s m v h names written =
      let p : NestPart A C = Acts g a in
      let first = first_named S N W start row i count rows T listed_all listed_writes in_T conditions_in_T low N p ps s listed_all names in
      let e = if guard_holds g (conditions_in S row i m) then S.effect a m else Skip in
      let r = acts_proper S N W start row i count rows T listed_all listed_writes in_T conditions_in_T low g a s m good.0.0 good.0.1 h first
      (first_named S N W start row i count rows T listed_all listed_writes in_T conditions_in_T low (writes N W) p ps s listed_writes written) (guard_holds g s.conditions) refl in
      one_part p ps s v (noted note e v) e m (effects S row i ps)
      (acts_outcome S N W start row i count rows T listed_all listed_writes in_T conditions_in_T low g a s m good.0.0 good.0.1 h first (guard_holds g s.conditions) refl)
      (acts_noted g a s m v good.0.0 good.0.1 h first)
      (parts_follow ps good.1 (go_on E p s) (apply e m) (noted_after S note p s v) r.1
      (others_named S N W start row i count rows T listed_all listed_writes in_T conditions_in_T low N p ps s listed_all names)
      (others_named S N W start row i count rows T listed_all listed_writes in_T conditions_in_T low (writes N W) p ps s listed_writes written))
  parts_follow (Tests k g es test ∷ ps) good s m v h names written =
      let p : NestPart A C = Tests k g es test in
      let m1 = write m (condition_at S row i k) (pos 0) in
      let first = first_named S N W start row i count rows T listed_all listed_writes in_T conditions_in_T low N p ps s listed_all names in
      let e = test_act S N W start row i count rows T listed_all listed_writes in_T conditions_in_T low k g es test m1 in
      let r =
      tests_proper S N W start row i count rows T listed_all listed_writes in_T conditions_in_T low k g es test s m good.0.0 good.0.1 good.0.2
      good.0.3 h first (is_tested g es s.conditions) refl in
      one_part p ps s v (noted note e (note (condition_at S row i k) (pos 0) v)) e m1 (effects S row i ps)
      (tests_outcome S N W start row i count rows T listed_all listed_writes in_T conditions_in_T low k g es test s m good.0.0 good.0.1 good.0.2 good.0.3 h first)
      (tests_noted k (is_tested g es (conditions_in S row i m1)) (holds_in E test m1) v)
      (parts_follow ps good.1 (go_on E p s) (apply e m1) v r.1
      (others_named S N W start row i count rows T listed_all listed_writes in_T conditions_in_T low N p ps s listed_all names)
      (others_named S N W start row i count rows T listed_all listed_writes in_T conditions_in_T low (writes N W) p ps s listed_writes written))

  ends_noted : (c : Conditions) (w : V) (q : Result (Observed V) F) (r : Result (Iteration (Observed V)) F) (l : Result (Observed V) F)
      (plain : Result Storage F) → Matches 0 c r q → Follows r l →
      l ≡ plain >>= (λ m. Ok (record { storage = m; noted_so_far = w })) → NotedAt start row w q plain
  ends_noted c w (Ok y) r l (Ok m) matches follows is =
      let h = subst (λ r. Follows r l) matches.1 follows in
      let e : Ok (record { storage = m; noted_so_far = w }) ≡ Ok (record { storage = h.0; noted_so_far = y.noted_so_far }) = sym is ∙ h.1 in
      let o = ok_same (record { storage = m; noted_so_far = w }) (record { storage = h.0; noted_so_far = y.noted_so_far }) e in
      let same : h.0 ≡ m = ap (λ (x : Observed V). x.storage) (sym o) in (
        y.storage,
        ap (λ v. Ok (record { storage = y.storage; noted_so_far = v })) (ap (λ (x : Observed V). x.noted_so_far) (sym o)),
        subst (At start row y.storage) same
            (record {
              alike = h.2.alike_s;
              same = record { alike = Alike-trans y.storage start h.0 h.2.alike_s (Alike-sym h.0 start h.2.alike_m); same = h.2.same };
            }),
      )
    where
      ok_same : (a b : Observed V) → (let x : Result (Observed V) F = Ok a in x) ≡ Ok b → a ≡ b
      ok_same a b h = cc
  ends_noted c w (Ok y) r l (Err f) matches follows is =
      let h = subst (λ r. Follows r l) matches.1 follows in
      let e : (let x : Result (Observed V) F = Err f in x) ≡ Ok (record { storage = h.0; noted_so_far = y.noted_so_far }) = sym is ∙ h.1 in absurd cc
  ends_noted c w (Err g) r l (Ok m) matches follows is =
      let e : (let x : Result (Observed V) F = Ok (record { storage = m; noted_so_far = w }) in x) ≡ Err g = sym is ∙ subst (λ r. Follows r l) matches follows in absurd cc
  ends_noted c w (Err g) r l (Err f) matches follows is =
      let e : (let x : Result (Observed V) F = Err f in x) ≡ Err g = sym is ∙ subst (λ r. Follows r l) matches follows in
      sym (ap Err (err_same f g e))
    where
      err_same : (a b : F) → (let x : Result (Observed V) F = Err a in x) ≡ Err b → a ≡ b
      err_same a b h = cc

module _ {A C F V : Type 0} (S : Interpretation A C F) (N : Names A C Spot) (W : A → List Spot) (start : Storage) (row n : ℕ) (items : ℕ → Items A C)
    (free : IsParallel S N W start row n items)
    (parts : ℕ) (enough : (i : ℕ) → i < n → length (nest_effects S row items i) ≤ parts)
    (note : ℕ → Spot → ℤ → V → V) (unnoted : (i : ℕ) (spot : Spot) (w : ℤ) (v : V) → row ≤ spot.row → note i spot w v ≡ v) (first : V) where
  abbrev act : ℕ → ℕ → Storage → Effect F
  act = nest_act S row items

  abbrev effect : ℕ → ℕ → Effect F
  effect = kept act start n

  abbrev with : Storage → V → Observed V
  with m v = record { storage = m; noted_so_far = v }

  -- the plain order of an iteration's acts, with their stores noted
  plain_noted : (i : ℕ) → i < n → (before : Storage) → plain act start parts i ≡ Ok before → (v : V) (j : ℕ) → j ≤ parts →
      in_turn j (λ j. one_act S (note i) (act i j)) (with before v) ≡ plain_parts act start i j before >>= (λ m. Ok (with m (noted_by_parts note effect i j v)))
  plain_noted i lt before come v zero le = refl
  plain_noted i lt before come v (suc j) le =
      ap (λ r. r >>= one_act S (note i) (act i j)) (plain_noted i lt before come v j (omega arith))
      ∙ cases (plain_parts act start i j before)
      (λ m at.
      plain_kept act start n parts (touches S N W start row n items free) (parts_apart S N W start row n items free parts) i j before m lt
      (omega arith) come at)
    where
      cases : (r : Result Storage F) → ((m : Storage) → r ≡ Ok m → act i j m ≡ effect i j) →
          (r >>= (λ m. Ok (with m (noted_by_parts note effect i j v)))) >>= one_act S (note i) (act i j)
          ≡ (r >>= (λ m. then_apply (act i j m) m)) >>= (λ m. Ok (with m (noted_by_parts note effect i (suc j) v)))
      cases (Ok m) same =
          ap
          (λ e.
          then_apply (act i j m) m
          >>= (λ x. let y : Result (Observed V) F = Ok (with x (noted (note i) e (noted_by_parts note effect i j v))) in y)) (same m refl)
      cases (Err f) same = refl

  one_iteration : (i : ℕ) → i < n → (x m : Storage) (v : V) → plain act start parts i ≡ Ok m → At start row x m →
      NotedAt start row (noted_by_parts note effect i parts v) (exec (observed S (note i)) (items i) (with x v)) (plain_parts act start i parts m)
  one_iteration i lt x m v come h =
      let E = evaluated S in
      let O = observed S (note i) in
      let count = count_items (items i) in
      let all = listed N (items i) in
      let written = listed (writes N W) (items i) in
      let c = conditions_in S row i m in
      let s : Iteration Storage = record { storage = x; conditions = c } in
      let rows = λ (c : ℕ) (ltc : c < count). free.rows i c lt ltc in
      let in_T = λ (l : Spot) (t : Contains all l). Contains-append_left all (joined_up_to count (λ c. condition_at S row i c ∷ [])) l t in
      let conditions_in_T = condition_touched S N W start row n items free i in
      let low = λ (l : Spot) (t : Contains all l). free.below i l lt t in
      ends_noted S N W start row i count rows (touches S N W start row n items free i) all written in_T conditions_in_T low (note i) (unnoted i) c
      (noted_by_parts note effect i parts v)
      (exec O (items i) (with x v)) (do_parts O (flat (items i) None 0) (lift S (note i) s v))
      (in_list S (note i) (nest_effects S row items i) (with m v)) (plain_parts act start i parts m)
      (items_taken O (items i) None 0 (with x v) c tt refl)
      (parts_follow S N W start row i count rows (touches S N W start row n items free i) all written in_T conditions_in_T low (note i) (unnoted i) (flat (items i) None 0)
      (all_good S N W start row i count (items i) None 0 (free.named i lt) tt (omega arith)) s m v
      (record { alike_s = h.alike; alike_m = Alike-trans m x start (Alike-sym x m h.same.alike) h.alike; same = h.same.same; stored = λ y lty. refl })
      (λ l t. touched_listed E N (items i) None 0 s l (free.known i lt) tt refl t)
      (λ l t. touched_listed E (writes N W) (items i) None 0 s l (free.known i lt) tt refl t))
      (sym (by_number S (note i) (nest_effects S row items i) parts (enough i lt) (with m v)) ∙ plain_noted i lt m come v parts (omega arith))

  pub loops_noted : (k : ℕ) → k ≤ n → NotedAt start row (noted_by_all note effect parts first k) (observed_loops S note items start first k) (plain act start parts k)
  loops_noted zero le = (start, refl, record { alike = Alike-refl start; same = record { alike = Alike-refl start; same = λ l lt. refl } })
  loops_noted (suc k) le = cases (plain act start parts k) refl (loops_noted k (omega arith))
    where
      cases : (r : Result Storage F) → plain act start parts k ≡ r → NotedAt start row (noted_by_all note effect parts first k) (observed_loops S note items start first k) r →
          NotedAt start row (noted_by_all note effect parts first (suc k)) (observed_loops S note items start first (suc k)) (plain act start parts (suc k))
      cases (Ok m) come h =
          subst
          (λ r.
          NotedAt start row (noted_by_all note effect parts first (suc k)) (observed_loops S note items start first (suc k))
          (r >>= plain_parts act start k parts)) (sym come)
          (subst (λ q. NotedAt start row (noted_by_all note effect parts first (suc k)) (q >>= exec (observed S (note k)) (items k)) (plain_parts act start k parts m)) (sym h.1)
          (one_iteration k (omega arith) h.0 m (noted_by_all note effect parts first k) come h.2))
      cases (Err f) come h =
          subst
          (λ r.
          NotedAt start row (noted_by_all note effect parts first (suc k)) (observed_loops S note items start first (suc k))
          (r >>= plain_parts act start k parts)) (sym come)
          (ap (λ q. q >>= exec (observed S (note k)) (items k)) h)

  pub stores_noted : NoneKept act start n parts →
      (m : Storage) × (observed_loops S note items start first n ≡ Ok (record { storage = m; noted_so_far = noted_by_all note effect parts first n }))
      × SameBelow row m (parted act start n parts)
  stores_noted none =
      let h = subst (NotedAt start row (noted_by_all note effect parts first n) (observed_loops S note items start first n))
      (fission_finishes act start n parts (touches S N W start row n items free) (parts_apart S N W start row n items free parts) none) (loops_noted n (omega arith)) in
      (h.0, h.1, h.2.same)

  pub faults_noted : (i j : ℕ) (f : F) → IsLeastKept act start n parts i j f → observed_loops S note items start first n ≡ Err f
  faults_noted i j f least =
      subst (NotedAt start row (noted_by_all note effect parts first n) (observed_loops S note items start first n))
      (fission_faults act start n parts (touches S N W start row n items free) (parts_apart S N W start row n items free parts) i j f least) (loops_noted n (omega arith))
