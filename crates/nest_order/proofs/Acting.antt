-- A nest whose iterations don't interfere has parts that are apart.
use Rattle.std.proofs.Common.{◌≡◌, ℕ, zero, suc, ◌+◌, ◌<◌, ◌≤◌, List, [], ◌∷◌, ◌++◌, length, Option, Some, None, Result, Ok, Err, Bool, true, false, refl, ap, sym, ◌∙◌, subst, arith, ◌⊎◌, inl, inr, ⊎_elim, ℤ, pos}
use Rattle.std.specs.Prelude.{if◌then◌else◌, IfSome, slice_get, slice_index_or}
use Rattle.std.specs.List.{Contains}
use Rattle.std.proofs.lemmas.Bool.{cases_eq, cases_lt}
use Rattle.std.proofs.lemmas.Option.{slice_get_past}
use Rattle.std.proofs.lemmas.List.Elements.{Contains-append_left, Contains-append_right, Contains-append_cases}
use Rattle.storage.specs.Storage.{Storage, Spot, row_of, read, write, Alike}
use Rattle.storage.specs.Effect.{Effect, Skip, Put, Fail, apply, then_apply}
use Rattle.nest_order.specs.Orders.{alone, Apart}
use Rattle.nest_order.specs.Turns.{joined_up_to}
use Rattle.nest_order.specs.Items.{Items, Done, Then, If, Repeat, Branches, EndIf, Branch, Evaluation, holds_in, EachIn, EachInBranches}
use Rattle.nest_order.specs.Parts.{most, Conditions, set_condition, guard_holds, IsBelow, Iteration, NestPart, Acts, Tests, count_items, count_branches, flat, flat_branches, is_evaluated, is_tested}
use Rattle.nest_order.specs.Listed.{value_or, Names, names_in, names_of, go_on, touched, listed}
use Rattle.nest_order.specs.Nest.{Interpretation, evaluated, condition_at, conditions_in, put_truth, effects, effect_at, nest_effects, nest_act, writes, AgreeOn, IsNamed, IsNear, IsParallel, touches_of}
use Rattle.storage.specs.Truth.{is_set, number_for}
use Rattle.storage.proofs.StorageLemmas.{Alike-write, Alike-trans, Alike-sym, Alike-refl, read-write_other, read-write_both, read-write_at}
use Rattle.nest_order.proofs.Flattening.{set_at, set_other, Kept, AllBelow, below-more, all_below-more, holds_kept, tested_kept}
use Rattle.nest_order.proofs.Touching.{AllIn, in_turn_of, touched_listed}

is_set-number_for : (b : Bool) → is_set (number_for b) ≡ b
is_set-number_for true = refl
is_set-number_for false = refl

value_or-then_apply : {F : Type 0} (e : Effect F) (m : Storage) → value_or (then_apply e m) m ≡ apply e m
value_or-then_apply Skip m = refl
value_or-then_apply (Put spot v) m = refl
value_or-then_apply (Fail f) m = refl

-- an element of lists one after another is one of one of them
of_turn : {L : Type 0} (lists : ℕ → List L) (t : ℕ) (name : L) → Contains (joined_up_to t lists) name → (x : ℕ) × (x < t) × Contains (lists x) name
of_turn lists zero name h = absurd (let z : h.0 < 0 = h.1 in omega arith)
of_turn lists (suc t) name h = ⊎_elim
    (λ before. let r = of_turn lists t name before in (r.0, (let z : r.0 < t = r.1 in omega arith), r.2))
    (λ last. (t, omega arith, last))
    (Contains-append_cases (joined_up_to t lists) (lists t) name h)

of_one : {L : Type 0} (x name : L) → Contains (x ∷ []) name → x ≡ name
of_one {L = L} x name h = at h.0 h.1 h.2
  where
    at : (k : ℕ) → k < length (x ∷ []) → (let xs : List L = x ∷ [] in slice_index_or xs k name) ≡ name → x ≡ name
    at zero lt is = is
    at (suc k) lt is = absurd (omega arith)

below_most : (t : ℕ) (f : ℕ → ℕ) (x : ℕ) → x < t → f x ≤ most t f
below_most zero f x lt = absurd (omega arith)
below_most (suc t) f x lt = ⊎_elim
    (λ same. subst (λ y. f y ≤ most (suc t) f) (sym same) (omega arith))
    (λ ne. let z : f x ≤ most t f = below_most t f x (omega arith) in omega arith)
    (cases_eq x t)

module _ {A C F : Type 0} (S : Interpretation A C F) (N : Names A C Spot) (W : A → List Spot) (start : Storage) (row i count : ℕ) where
  abbrev pub E : Evaluation A C Storage F
  E = evaluated S

  abbrev pub at : ℕ → Spot
  at c = condition_at S row i c

  abbrev pub conditions : Storage → Conditions
  conditions m = conditions_in S row i m

  -- what is known of a part: its numbers are among the first, and it depends on what it names
  abbrev pub IsGood : NestPart A C → Type 0
  IsGood (Acts g a) = IsBelow g count × IsNamed S N W start a
  IsGood (Tests k g es test) = (k < count) × IsBelow g k × AllBelow es k × IfSome test (IsNear S N W start)

  abbrev pub AreGood : List (NestPart A C) → Type 0
  AreGood [] = Unit {0}
  AreGood (p ∷ ps) = IsGood p × AreGood ps

  good_append : (ps qs : List (NestPart A C)) → AreGood ps → AreGood qs → AreGood (ps ++ qs)
  good_append [] qs h g = g
  good_append (p ∷ ps) qs h g = (h.0, good_append ps qs h.1 g)

  good_turns : (lists : ℕ → List (NestPart A C)) (t : ℕ) → ((x : ℕ) → x < t → AreGood (lists x)) → AreGood (joined_up_to t lists)
  good_turns lists zero each = tt
  good_turns lists (suc t) each = good_append (joined_up_to t lists) (lists t) (good_turns lists t (λ x lt. each x (omega arith))) (each t (omega arith))

  mutual
    pub all_good : (items : Items A C) (g : Option ℕ) (k : ℕ) → EachIn (IsNamed S N W start) (IsNear S N W start) items → IsBelow g k
        → k + count_items items ≤ count → AreGood (flat items g k)
    all_good Done g k each below le = tt
    all_good (Then a rest) g k each below le = ((below-more g k count (omega arith) below, each.0), all_good rest g k each.1 below le)
    all_good (If branches rest) g k each below le =
        let k' = k + count_branches branches in
        good_append (flat_branches branches g [] k) (flat rest g k') (all_branches_good branches g [] k each.0 below tt (omega arith))
        (all_good rest g k' each.1 (below-more g k k' (omega arith) below) (omega arith))
    all_good (Repeat t body rest) g k each below le =
        let k' = k + most (suc t) (λ x. count_items (body x)) in
        good_append (joined_up_to t (λ x. flat (body x) g k)) (flat rest g k')
        (good_turns (λ x. flat (body x) g k) t (λ x lt. all_good (body x) g k (each.0 x lt) below (let z = below_most (suc t) (λ y. count_items (body y)) x (omega (arith, lt)) in omega arith)))
        (all_good rest g k' each.1 (below-more g k k' (omega arith) below) (omega arith))

    all_branches_good : (branches : Branches A C) (g : Option ℕ) (es : List ℕ) (k : ℕ)
        → EachInBranches (IsNamed S N W start) (IsNear S N W start) branches → IsBelow g k → AllBelow es k → k + count_branches branches ≤ count
        → AreGood (flat_branches branches g es k)
    all_branches_good EndIf g es k each below all le = tt
    all_branches_good (Branch test body others) g es k each below all le =
        let k' = k + 1 + count_items body in (
          (omega arith, below, all, each.0),
          good_append (flat body (Some k) (k + 1)) (flat_branches others g (k ∷ es) k') (all_good body (Some k) (k + 1) each.1 (omega arith) (omega arith))
              (all_branches_good others g (k ∷ es) k' each.2 (below-more g k k' (omega arith) below) (omega arith, all_below-more es k k' (omega arith) all) (omega arith)),
        )

  module _ (rows : (c : ℕ) → c < count → i < length (row_of start (row + c))) where
    -- an iteration's storage and conditions, and the one storage that has both
    pub record Beside (s : Iteration Storage) (m : Storage) : Type 0 where
      pub alike_s : Alike s.storage start
      pub alike_m : Alike m start
      pub same : (spot : Spot) → spot.row < row → read s.storage spot ≡ read m spot
      pub stored : Kept count s.conditions (conditions m)

    beside_effect : (s : Iteration Storage) (m : Storage) (e : Effect F) → ((spot : Spot) (v : ℤ) → e ≡ Put spot v → spot.row < row) → Beside s m
        → Beside (record s { storage = apply e s.storage }) (apply e m)
    beside_effect s m Skip low h = h
    beside_effect s m (Fail f) low h = h
    beside_effect s m (Put spot v) low h = record {
      alike_s = Alike-trans (write s.storage spot v) s.storage start (Alike-write s.storage spot v) h.alike_s;
      alike_m = Alike-trans (write m spot v) m start (Alike-write m spot v) h.alike_m;
      same = λ l lt. read-write_both s.storage m spot l v (Alike-trans s.storage start m h.alike_s (Alike-sym m start h.alike_m)) (h.same l lt);
      stored = λ x lt.
          ap is_set (read-write_other m spot (at x) v (λ e. let z : spot.row ≡ row + x = ap (λ t. t.row) e in let y : spot.row < row = low spot v refl in omega arith))
          ∙ h.stored x lt;
    }

    pub beside_stored : (s : Iteration Storage) (m : Storage) (c : ℕ) (b : Bool) → c < count → Beside s m
        → Beside (record s { conditions = set_condition s.conditions c b }) (write m (at c) (number_for b))
    beside_stored s m c b lt h = record {
      alike_s = h.alike_s;
      alike_m = Alike-trans (write m (at c) (number_for b)) m start (Alike-write m (at c) (number_for b)) h.alike_m;
      same = λ l low. h.same l low ∙ sym (read-write_other m (at c) l (number_for b) (λ e. let z : row + c ≡ l.row = ap (λ t. t.row) e in omega arith));
      stored = λ x ltx. ⊎_elim
          (λ is. subst (λ y. conditions (write m (at c) (number_for b)) y ≡ set_condition s.conditions c b y) is
          (ap is_set (read-write_at m (at c) (number_for b) (let z = rows c lt in omega (arith, h.alike_m.extent (row + c)))) ∙ is_set-number_for b
          ∙ sym (set_at s.conditions c b)))
          (λ ne.
          ap is_set (read-write_other m (at c) (at x) (number_for b) (λ e. let z : row + c ≡ row + x = ap (λ t. t.row) e in ne (omega arith)))
          ∙ h.stored x ltx ∙ sym (set_other s.conditions c x b (λ e. ne (sym e))))
          (cases_eq c x);
    }

    beside_again : (s : Iteration Storage) (m : Storage) (c : ℕ) (a b : Bool)
        → Beside (record s { conditions = set_condition (set_condition s.conditions c a) c b }) m
        → Beside (record s { conditions = set_condition s.conditions c b }) m
    beside_again s m c a b h = record {
      alike_s = h.alike_s;
      alike_m = h.alike_m;
      same = h.same;
      stored = λ x lt. h.stored x lt ∙ ⊎_elim
          (λ is.
          subst (λ y. set_condition (set_condition s.conditions c a) c b y ≡ set_condition s.conditions c b y) is
          (set_at (set_condition s.conditions c a) c b ∙ sym (set_at s.conditions c b)))
          (λ ne.
          set_other (set_condition s.conditions c a) c x b (λ e. ne (sym e)) ∙ set_other s.conditions c x a (λ e. ne (sym e))
          ∙ sym (set_other s.conditions c x b (λ e. ne (sym e))))
          (cases_eq c x);
    }

    pub holds_near : (test : Option C) → IfSome test (IsNear S N W start) → (m m' : Storage) → Alike m start → Alike m' start
        → AgreeOn (names_in N test) m m' → holds_in E test m ≡ holds_in E test m'
    holds_near None near m m' h g agree = refl
    holds_near (Some c) near m m' h g agree = near m m' h g agree

    module _ (T listed_all listed_writes : List Spot) (in_T : AllIn listed_all T) (conditions_in_T : (c : ℕ) → c < count → Contains T (at c))
        (low : (spot : Spot) → Contains listed_all spot → spot.row < row) where
      -- an act where the iteration alone comes to it: it depends on what is touched, and stores what is listed or a condition
      pub record Proper (e : Storage → Effect F) (m : Storage) : Type 0 where
        pub local : (m' : Storage) → Alike m' start → AgreeOn T m' m → e m' ≡ e m
        pub stores : (spot : Spot) (v : ℤ) → e m ≡ Put spot v → (Contains listed_writes spot × Contains listed_all spot) ⊎ ((c : ℕ) × (c < count) × (at c ≡ spot))

      abbrev AllProper : List (Storage → Effect F) → Storage → Type 0
      AllProper [] m = Unit {0}
      AllProper (e ∷ es) m = Proper e m × AllProper es (apply (e m) m)

      -- the conditions of two storages that agree on what is touched
      conditions_agree : (m m' : Storage) → AgreeOn T m' m → Kept count (conditions m) (conditions m')
      conditions_agree m m' agree = λ x lt. ap is_set (agree (at x) (conditions_in_T x lt))

      pub acts_proper : (g : Option ℕ) (a : A) (s : Iteration Storage) (m : Storage) → IsBelow g count → IsNamed S N W start a → Beside s m →
          (guard_holds g s.conditions ≡ true → AllIn (N.of_action a) listed_all) → (guard_holds g s.conditions ≡ true → AllIn (W a) listed_writes) →
          (b : Bool) → guard_holds g s.conditions ≡ b
          → (let e = λ (m : Storage). if guard_holds g (conditions m) then S.effect a m else Skip in
          Proper e m × Beside (go_on E (let p : NestPart A C = Acts g a in p) s) (apply (e m) m))
      acts_proper g a s m below named h names written true on =
          let names_in_T : AllIn (N.of_action a) T = λ l c. in_T l (names on l c) in
          let on_m = holds_kept g count s.conditions (conditions m) below h.stored ∙ on in
          let is : (if guard_holds g (conditions m) then S.effect a m else Skip) ≡ S.effect a m = ap (λ t. if t then S.effect a m else Skip) on_m in
          let memory_is : (if guard_holds g s.conditions then value_or (then_apply (S.effect a s.storage) s.storage) s.storage else s.storage) ≡ apply (S.effect a m) s.storage =
          ap (λ t. if t then value_or (then_apply (S.effect a s.storage) s.storage) s.storage else s.storage) on
          ∙ value_or-then_apply (S.effect a s.storage) s.storage
          ∙ ap (λ e. apply e s.storage) (named.near s.storage m h.alike_s h.alike_m (λ l c. h.same l (low l (names on l c)))) in (
            record {
              local = λ m' alike agree.
                  ap (λ t. if t then S.effect a m' else Skip) (holds_kept g count (conditions m) (conditions m') below (conditions_agree m m' agree) ∙ on_m)
                  ∙ named.near m' m alike h.alike_m (λ l c. agree l (names_in_T l c)) ∙ sym is;
              stores = λ spot v put. let r = named.stores m spot v (sym is ∙ put) in inl (written on spot r.0, names on spot r.1);
            },
            subst (λ x. Beside (record s { storage = x }) (apply (if guard_holds g (conditions m) then S.effect a m else Skip) m)) (sym memory_is)
                (subst (λ e. Beside (record s { storage = apply (S.effect a m) s.storage }) (apply e m)) (sym is)
                (beside_effect s m (S.effect a m) (λ spot v put. low spot (names on spot (named.stores m spot v put).1)) h)),
          )
      acts_proper g a s m below named h names written false off =
          let off_m = holds_kept g count s.conditions (conditions m) below h.stored ∙ off in
          let is : (if guard_holds g (conditions m) then S.effect a m else Skip) ≡ Skip = ap (λ t. if t then S.effect a m else Skip) off_m in
          let memory_is : (if guard_holds g s.conditions then value_or (then_apply (S.effect a s.storage) s.storage) s.storage else s.storage) ≡ s.storage =
          ap (λ t. if t then value_or (then_apply (S.effect a s.storage) s.storage) s.storage else s.storage) off in (
            record {
              local =
                  λ m' alike agree.
                  ap (λ t. if t then S.effect a m' else Skip)
                  (holds_kept g count (conditions m) (conditions m') below (conditions_agree m m' agree) ∙ off_m) ∙ sym is;
              stores = λ spot v put. let z : Skip ≡ Put spot v = sym is ∙ put in absurd cc;
            },
            subst (λ x. Beside (record s { storage = x }) (apply (if guard_holds g (conditions m) then S.effect a m else Skip) m)) (sym memory_is)
                (subst (λ e. Beside s (apply e m)) (sym is) h),
          )

      put_at : (c : ℕ) (r : Result Bool F) (spot : Spot) (v : ℤ) → put_truth S row i (at c) r ≡ Put spot v → at c ≡ spot
      put_at c (Ok b) spot v h = cc
      put_at c (Err f) spot v h = absurd cc

      stored_truth : (s : Iteration Storage) (m : Storage) (c : ℕ) (r : Result Bool F) → c < count → Beside s m
          → Beside (record s { conditions = set_condition s.conditions c (value_or r false) })
          (apply (put_truth S row i (at c) r) (write m (at c) (pos 0)))
      stored_truth s m c (Ok b) lt h =
          beside_again s (write (write m (at c) (pos 0)) (at c) (number_for b)) c false b
          (beside_stored (record s { conditions = set_condition s.conditions c false }) (write m (at c) (pos 0)) c b lt (beside_stored s m c false lt h))
      stored_truth s m c (Err f) lt h = beside_stored s m c false lt h

      -- the second act of a test
      abbrev pub test_act : ℕ → Option ℕ → List ℕ → Option C → Storage → Effect F
      test_act k g es test m = if is_tested g es (conditions m) then put_truth S row i (at k) (holds_in E test m) else Skip

      pub tests_proper : (k : ℕ) (g : Option ℕ) (es : List ℕ) (test : Option C) (s : Iteration Storage) (m : Storage) → k < count → IsBelow g k
          → AllBelow es k → IfSome test (IsNear S N W start) → Beside s m →
          (is_tested g es s.conditions ≡ true → AllIn (names_in N test) listed_all) → (b : Bool) → is_tested g es s.conditions ≡ b →
          (let m1 = write m (at k) (pos 0) in
          Proper (test_act k g es test) m1
          × Beside (go_on E (let p : NestPart A C = Tests k g es test in p) s) (apply (test_act k g es test m1) m1))
      tests_proper k g es test s m lt below all near h names b is =
          let m1 = write m (at k) (pos 0) in
          let h1 = beside_stored s m k false lt h in
          let kept : Kept k s.conditions (conditions m1) = λ x ltx. h1.stored x (omega arith) ∙ set_other s.conditions k x false (omega arith) in
          let on = tested_kept g es k s.conditions (conditions m1) below all kept ∙ is in
          cases b h1 on is
        where
          of_storage : (b : Bool) (m : Storage) → is_tested g es (conditions m) ≡ b → test_act k g es test m ≡ (if b then put_truth S row i (at k) (holds_in E test m) else Skip)
          of_storage b m on = ap (λ t. if t then put_truth S row i (at k) (holds_in E test m) else Skip) on

          tested_too : (b : Bool) (m m' : Storage) → AgreeOn T m' m → is_tested g es (conditions m) ≡ b → is_tested g es (conditions m') ≡ b
          tested_too b m m' agree on = tested_kept g es k (conditions m) (conditions m') below all (λ x ltx. conditions_agree m m' agree x (omega arith)) ∙ on

          cases : (b : Bool) → Beside (record s { conditions = set_condition s.conditions k false }) (write m (at k) (pos 0))
              → is_tested g es (conditions (write m (at k) (pos 0))) ≡ b → is_tested g es s.conditions ≡ b →
              (let m1 = write m (at k) (pos 0) in
              Proper (test_act k g es test) m1
              × Beside (go_on E (let p : NestPart A C = Tests k g es test in p) s) (apply (test_act k g es test m1) m1))
          cases true h1 on is =
              let m1 = write m (at k) (pos 0) in
              let r = holds_in E test s.storage in
              let same : holds_in E test m1 ≡ r = holds_near test near m1 s.storage h1.alike_m h.alike_s (λ l c. sym (h1.same l (low l (names is l c)))) in
              let act_is : test_act k g es test m1 ≡ put_truth S row i (at k) r = of_storage true m1 on ∙ ap (put_truth S row i (at k)) same in
              let stores_is : (if is_tested g es s.conditions then value_or r false else false) ≡ value_or r false = ap (λ t. if t then value_or r false else false) is in (
                record {
                  local = λ m' alike agree.
                      of_storage true m' (tested_too true m1 m' agree on)
                      ∙ ap (put_truth S row i (at k)) (holds_near test near m' m1 alike h1.alike_m (λ l c. agree l (in_T l (names is l c))))
                      ∙ sym (of_storage true m1 on);
                  stores = λ spot v put. inr (k, lt, put_at k r spot v (sym act_is ∙ put));
                },
                subst (λ b. Beside (record s { conditions = set_condition s.conditions k b }) (apply (test_act k g es test m1) m1)) (sym stores_is)
                    (subst (λ e. Beside (record s { conditions = set_condition s.conditions k (value_or r false) }) (apply e m1)) (sym act_is) (stored_truth s m k r lt h)),
              )
          cases false h1 on is =
              let m1 = write m (at k) (pos 0) in
              let r = holds_in E test s.storage in
              let act_is = of_storage false m1 on in
              let stores_is : (if is_tested g es s.conditions then value_or r false else false) ≡ false = ap (λ t. if t then value_or r false else false) is in (
                record {
                  local = λ m' alike agree. of_storage false m' (tested_too false m1 m' agree on) ∙ sym act_is;
                  stores = λ spot v put. let z : Skip ≡ Put spot v = sym act_is ∙ put in absurd cc;
                },
                subst (λ b. Beside (record s { conditions = set_condition s.conditions k b }) (apply (test_act k g es test m1) m1)) (sym stores_is)
                    (subst (λ e. Beside (record s { conditions = set_condition s.conditions k false }) (apply e m1)) (sym act_is) h1),
              )

      -- what the first of the parts names where it is evaluated, and what the others touch
      pub first_named : (names : Names A C Spot) (p : NestPart A C) (ps : List (NestPart A C)) (s : Iteration Storage) (all : List Spot)
          → AllIn (touched E names (p ∷ ps) s) all → is_evaluated p s.conditions ≡ true → AllIn (names_of names p) all
      first_named names p ps s all h on l c =
          h l
          (Contains-append_left (if is_evaluated p s.conditions then names_of names p else []) (touched E names ps (go_on E p s)) l
          (subst (λ t. Contains (if t then names_of names p else []) l) (sym on) c))

      pub others_named : (names : Names A C Spot) (p : NestPart A C) (ps : List (NestPart A C)) (s : Iteration Storage) (all : List Spot)
          → AllIn (touched E names (p ∷ ps) s) all → AllIn (touched E names ps (go_on E p s)) all
      others_named names p ps s all h l c = h l (Contains-append_right (if is_evaluated p s.conditions then names_of names p else []) (touched E names ps (go_on E p s)) l c)

      parts_proper : (ps : List (NestPart A C)) → AreGood ps → (s : Iteration Storage) (m : Storage) → Beside s m
          → AllIn (touched E N ps s) listed_all → AllIn (touched E (writes N W) ps s) listed_writes → AllProper (effects S row i ps) m
      parts_proper [] good s m h names written = tt
      parts_proper (Acts g a ∷ ps) good s m h names written =
          let p : NestPart A C = Acts g a in
          let r =
          acts_proper g a s m good.0.0 good.0.1 h (first_named N p ps s listed_all names) (first_named (writes N W) p ps s listed_writes written)
          (guard_holds g s.conditions) refl in (
            r.0,
            parts_proper ps good.1 (go_on E p s) (apply (if guard_holds g (conditions m) then S.effect a m else Skip) m) r.1
                (others_named N p ps s listed_all names) (others_named (writes N W) p ps s listed_writes written),
          )
      parts_proper (Tests k g es test ∷ ps) good s m h names written =
          let p : NestPart A C = Tests k g es test in
          let m1 = write m (at k) (pos 0) in
          let lt : k < count = good.0.0 in
          let r = tests_proper k g es test s m lt good.0.1 good.0.2 good.0.3 h (first_named N p ps s listed_all names) (is_tested g es s.conditions) refl in (
            record { local = λ m' alike agree. refl; stores = λ spot v put. inr (k, lt, cc) },
            (
              r.0,
              parts_proper ps good.1 (go_on E p s) (apply (test_act k g es test m1) m1) r.1 (others_named N p ps s listed_all names)
                  (others_named (writes N W) p ps s listed_writes written),
            ),
          )

      -- the acts of a list, as the acts of an iteration by number
      abbrev acts : List (Storage → Effect F) → ℕ → ℕ → Storage → Effect F
      acts es x j m = effect_at (slice_get es j) m

      alone_after : (e : Storage → Effect F) (es : List (Storage → Effect F)) (m : Storage) (j : ℕ) → alone (acts es) (apply (e m) m) i j ≡ alone (acts (e ∷ es)) m i (suc j)
      alone_after e es m zero = refl
      alone_after e es m (suc j) = ap (λ x. apply (acts es i j x) x) (alone_after e es m j)

      proper_at : (es : List (Storage → Effect F)) (m : Storage) → AllProper es m → (j : ℕ) → j < length es → Proper (acts es i j) (alone (acts es) m i j)
      proper_at [] m all j lt = absurd (omega arith)
      proper_at (e ∷ es) m all zero lt = all.0
      proper_at (e ∷ es) m all (suc j) lt = subst (Proper (acts es i j)) (alone_after e es m j) (proper_at es (apply (e m) m) all.1 j (omega arith))

module _ {A C F : Type 0} (S : Interpretation A C F) (N : Names A C Spot) (W : A → List Spot) (start : Storage) (row n : ℕ) (items : ℕ → Items A C)
    (free : IsParallel S N W start row n items) where
  abbrev pub act : ℕ → ℕ → Storage → Effect F
  act = nest_act S row items

  abbrev pub touches : ℕ → List Spot
  touches = touches_of S N W start row n items

  abbrev pub listed_all : ℕ → List Spot
  listed_all i = listed N (items i)

  abbrev pub listed_writes : ℕ → List Spot
  listed_writes i = listed (writes N W) (items i)

  abbrev pub spots_of : ℕ → ℕ → List Spot
  spots_of i c = condition_at S row i c ∷ []

  pub condition_touched : (i c : ℕ) → c < count_items (items i) → Contains (touches i) (condition_at S row i c)
  condition_touched i c lt = Contains-append_right (listed_all i) (joined_up_to (count_items (items i)) (spots_of i)) (condition_at S row i c)
      (in_turn_of (spots_of i) (count_items (items i)) c lt (condition_at S row i c) (0, omega arith, refl))

  abbrev ProperAt : ℕ → (Storage → Effect F) → Storage → Type 0
  ProperAt i e m = (lt : i < n) →
      Proper S N W start row i (count_items (items i)) (λ c ltc. free.rows i c lt ltc) (touches i) (listed_all i) (listed_writes i)
      (λ l c. Contains-append_left (listed_all i) (joined_up_to (count_items (items i)) (spots_of i)) l c) (condition_touched i) (λ l c. free.below i l lt c) e m

  proper : (i j : ℕ) → j < length (nest_effects S row items i) → ProperAt i (act i j) (alone (λ x j m. effect_at (slice_get (nest_effects S row items i) j) m) start i j)
  proper i j lt' lt =
      let count = count_items (items i) in
      let s : Iteration Storage = record { storage = start; conditions = conditions_in S row i start } in
      let rows = λ (c : ℕ) (ltc : c < count). free.rows i c lt ltc in
      let in_T = λ (l : Spot) (c : Contains (listed_all i) l). Contains-append_left (listed_all i) (joined_up_to count (spots_of i)) l c in
      let low = λ (l : Spot) (c : Contains (listed_all i) l). free.below i l lt c in
      proper_at S N W start row i count rows (touches i) (listed_all i) (listed_writes i) in_T (condition_touched i) low (nest_effects S row items i) start
      (parts_proper S N W start row i count rows (touches i) (listed_all i) (listed_writes i) in_T (condition_touched i) low (flat (items i) None 0)
      (all_good S N W start row i count (items i) None 0 (free.named i lt) tt (omega arith)) s start
      (record { alike_s = Alike-refl start; alike_m = Alike-refl start; same = λ l b. refl; stored = λ x ltx. refl })
      (λ l c. touched_listed (evaluated S) N (items i) None 0 s l (free.known i lt) tt refl c)
      (λ l c. touched_listed (evaluated S) (writes N W) (items i) None 0 s l (free.known i lt) tt refl c))
      j lt'

  same_alone : (i j : ℕ) → alone (λ x j m. effect_at (slice_get (nest_effects S row items i) j) m) start i j ≡ alone act start i j
  same_alone i zero = refl
  same_alone i (suc j) = ap (λ m. apply (act i j m) m) (same_alone i j)

  proper_alone : (i j : ℕ) → j < length (nest_effects S row items i) → ProperAt i (act i j) (alone act start i j)
  proper_alone i j lt = subst (ProperAt i (act i j)) (same_alone i j) (proper i j lt)

  -- there are no further parts
  no_part : (i j : ℕ) → length (nest_effects S row items i) ≤ j → (m : Storage) → act i j m ≡ Skip
  no_part i j le m = ap (λ o. effect_at o m) (slice_get_past (nest_effects S row items i) j le)

  stored : (i j : ℕ) (spot : Spot) (v : ℤ) → i < n → act i j (alone act start i j) ≡ Put spot v →
      (Contains (listed_writes i) spot × Contains (listed_all i) spot) ⊎ ((c : ℕ) × (c < count_items (items i)) × (condition_at S row i c ≡ spot))
  stored i j spot v lt put = ⊎_elim
      (λ in_list. (proper_alone i j in_list lt).stores spot v put)
      (λ past. let z : Skip ≡ Put spot v = sym (no_part i j past (alone act start i j)) ∙ put in absurd cc)
      (cases_lt j (length (nest_effects S row items i)))

  touched_spot : (i : ℕ) (spot : Spot) → Contains (touches i) spot → Contains (listed_all i) spot ⊎ ((c : ℕ) × (condition_at S row i c ≡ spot))
  touched_spot i spot h = ⊎_elim
      (λ l. inl l)
      (λ r. let c = of_turn (spots_of i) (count_items (items i)) spot r in inr (c.0, of_one (condition_at S row i c.0) spot c.2))
      (Contains-append_cases (listed_all i) (joined_up_to (count_items (items i)) (spots_of i)) spot h)

  pub parts_apart : (parts : ℕ) → Apart act start n parts touches
  parts_apart parts = record {
    local = λ i j m lt lt' alike agree. ⊎_elim
        (λ in_list. (proper_alone i j in_list lt).local m alike agree)
        (λ past. no_part i j past m ∙ sym (no_part i j past (alone act start i j)))
        (cases_lt j (length (nest_effects S row items i)));
    stores = λ i j spot v lt lt' put. ⊎_elim
        (λ l. Contains-append_left (listed_all i) (joined_up_to (count_items (items i)) (spots_of i)) spot l.1)
        (λ c. subst (Contains (touches i)) c.2 (condition_touched i c.0 c.1))
        (stored i j spot v lt put);
    apart = λ i i' j spot v lt lt' ltj other put touched. ⊎_elim
        (λ w. ⊎_elim
        (λ l. free.apart i i' spot lt lt' other w.0 l)
        (λ c. let low : spot.row < row = free.below i spot lt w.1 in let z : row + c.0 ≡ spot.row = ap (λ s. s.row) c.1 in absurd (omega arith))
        (touched_spot i' spot touched))
        (λ w. ⊎_elim
        (λ l. let low : spot.row < row = free.below i' spot lt' l in let z : row + w.0 ≡ spot.row = ap (λ s. s.row) w.2 in absurd (omega arith))
        (λ c. other (ap (λ s. s.at) w.2 ∙ sym (ap (λ s. s.at) c.1)))
        (touched_spot i' spot touched))
        (stored i j spot v lt put);
  }
