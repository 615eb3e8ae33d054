-- An iteration of Fortran's loops beside the same iteration with copies.
use Rattle.std.proofs.Common.{◌≡◌, ℕ, zero, suc, ◌+◌, ◌<◌, ◌≤◌, List, length, get_or, take, fold, Result, Ok, Err, Option, Some, None, Bool, true, false, if◌then◌else◌, refl, ap, sym, ◌∙◌, subst, arith, ℤ, pos, ◌⊎◌, inl, inr, ⊎_elim}
use Rattle.std.specs.Prelude.{◌&&◌, ◌||◌, nat_eq, FitsSigned}
use Rattle.std.specs.Int.{w64}
use Rattle.std.specs.List.{Contains, list_all}
use Rattle.std.proofs.lemmas.Bool.{cases_eq, cases_lt, or_cases, and_parts}
use Rattle.std.proofs.lemmas.Bool.Decides.{nat_tests}
use Rattle.std.proofs.lemmas.List.Elements.{Contains-append_left, Contains-append_right}
use Rattle.std.proofs.lemmas.List.Sums.{AllPass-from_list_all, fold_more}
use Rattle.std.proofs.lemmas.List.{get_or_past, take_all}
use Rattle.nest_order.specs.Turns.{◌>>=◌, in_turn, joined_up_to, after_turns}
use Rattle.storage.specs.Storage.{Storage, Spot, row_of, read, write, Alike}
use Rattle.storage.specs.Effect.{Effect, Skip, Put, Fail, then_apply}
use Rattle.nest_order.specs.Items.{Items, Done, Then, If, Repeat, Branches, EndIf, Branch, Evaluation, exec, exec_branches, EachIn, EachInBranches}
use Rattle.nest_order.specs.Listed.{counted, Names, listed, listed_branches, AreKnown}
use Rattle.nest_order.specs.Nest.{Interpretation, evaluated, writes, AgreeOn, plain_loops}
use Rattle.nest_order.specs.LastValue.{copy_at}
use Rattle.op_tables.specs.declared.join.Join.{Join}
use Rattle.op_tables.specs.declared.join.Join.TheVariants.{Or}
use Rattle.op_tables.specs.Joins.{IsJoin, IsOverNumbers, join, unit}
use Rattle.op_tables.proofs.Joins.{joins, numbers_join}
use Rattle.nest_order.specs.Reduction.{Statement, assigned}
use Rattle.nest_syntax.specs.NestKinds.{Kind, Shared, New, Assigned, Reduced, has_copies}
use Rattle.nest_order.specs.Copies.{scalar_at, InIteration, in_iteration, items_in, branches_in, seen_by, own_spot, own_effect, with_copies, copied}
use Rattle.nest_order.specs.Scalars.{assigns_row, assigned_by, assigned_by_branches, AreAssigned, ReadsLate, ReadsLateBranches, MayName, MayNameAll, AllFit, Reducing, reduced_effect, IsPlain, IsReduction, IsPlainOr, IsAction, IsCondition, Touches, MayCopy, CopiesAgree}
use Rattle.storage.proofs.StorageLemmas.{Alike-trans, Alike-refl, Alike-write, spots, read-write_other, read-write_rows, read-write_at}
use Rattle.nest_order.proofs.Reducing.{numbers_reduce}
use Rattle.nest_order.proofs.Touching.{AllIn, in_turn_of, taken_in, later_in}
use Rattle.nest_order.proofs.Copying.{seen-shared, seen-copy, own-shared, own-copy, copies-shared, copies-length, copies-value, entry_value, alike-seen}

pub spot-scalar : (spot : Spot) → spot.at ≡ 0 → spot ≡ scalar_at spot.row
spot-scalar spot z i = record { row = spot.row; at = z i }

other_rows : (a b : Spot) → (a.row ≡ b.row → ⊥) → a ≡ b → ⊥
other_rows a b n e = n (ap (λ s. s.row) e)

-- an assignment that may write nothing but a row assigns it
assigns : (spots : List Spot) (row : ℕ) (spot : Spot) → list_all (λ s. nat_eq s.row row) spots ≡ true → Contains spots spot → spot.row ≡ row
assigns spots row spot all c =
    let t : nat_eq spot.row row ≡ true = subst (λ s. nat_eq s.row row ≡ true) c.2 (AllPass-from_list_all (λ s. nat_eq s.row row) spots all c.0 spot c.1) in
    grind (arith, nat_tests)

zero_fits : FitsSigned w64 (pos 0)
zero_fits = (joins Or).unit_in

-- a store of a value of 64 bits leaves values of 64 bits
fit-write : (m : Storage) (l : Spot) (v : ℤ) → AllFit m → FitsSigned w64 v → AllFit (write m l v)
fit-write m l v fit fits l' = ⊎_elim
    (λ same. subst (λ q. FitsSigned w64 (read (write m l v) q)) same (⊎_elim
    (λ lt. subst (FitsSigned w64) (sym (read-write_at m l v lt)) fits)
    (λ le. subst (FitsSigned w64) (sym (get_or_past (row_of (write m l v) l.row) l.at (pos 0) (omega (arith, le, (Alike-write m l v).extent l.row)))) zero_fits)
    (cases_lt l.at (length (row_of m l.row)))))
    (λ d. subst (FitsSigned w64) (sym (read-write_other m l l' v d)) (fit l'))
    (spots l l')

-- `y` is the storage with copies and what is kept beside it: it holds the storage `store y`, and `put` stores a value in it
module _ {A C F M : Type 0} (one : Interpretation A C F) (kinds : ℕ → Kind) (reads : Names A C Spot) (written : A → List Spot)
    (reducing : A → Option (Reducing F)) (start : Storage) (n : ℕ)
    (scalars : (row : ℕ) → has_copies (kinds row) ≡ true → length (row_of start row) ≡ 1)
    (numbers : (row : ℕ) (op : Join) → kinds row ≡ Reduced op → IsOverNumbers op)
    (store : M → Storage) (put : ℕ → Spot → ℤ → M → M) (puts : (i : ℕ) (spot : Spot) (v : ℤ) (y : M) → store (put i spot v y) ≡ write (store y) spot v)
    (Holds : Storage → M → Type 0)
    (keeps : (i : ℕ) (spot : Spot) (v : ℤ) (s : Storage) (y : M) → i < n → Alike s start → MayName (kinds spot.row) spot → Holds s y
    → Holds (write s spot v) (put i (own_spot kinds i spot) v y))
    (keeps_reduced : (i row : ℕ) (op : Join) (v w : ℤ) (s : Storage) (y : M) → i < n → kinds row ≡ Reduced op → Holds s y
    → Holds (write s (scalar_at row) v) (put i (copy_at row i) w y)) where
  abbrev copies0 : Storage
  copies0 = with_copies kinds n start

  abbrev pub does : ℕ → Effect F → M → Result M F
  does i Skip y = Ok y
  does i (Put spot v) y = Ok (put i spot v y)
  does i (Fail f) y = Err f

  -- iteration i, with what is listed for it as read and as written, from the storages at its beginning
  module _ (i : ℕ) (lt : i < n) (listed_reads listed_writes : List Spot) (s0 m0 : Storage) (fit0 : AllFit s0) where
    abbrev Touched : Spot → Type 0
    Touched spot = Contains listed_reads spot ⊎ Contains listed_writes spot

    -- the storages in the middle of the iteration, where these rows were assigned in it
    pub record Beside (before : ℕ → Bool) (s : Storage) (y : M) : Type 0 where
      pub alike_s : Alike s start
      pub alike_m : Alike (store y) copies0
      pub fit : AllFit s
      pub shared : (spot : Spot) → kinds spot.row ≡ Shared → read s spot ≡ read (store y) spot
      pub new : (row : ℕ) → kinds row ≡ New → before row ≡ true → read s (scalar_at row) ≡ read (store y) (copy_at row i)
      pub assigned : (row : ℕ) → kinds row ≡ Assigned → Touched (scalar_at row) → read s (scalar_at row) ≡ read (store y) (copy_at row i)
      pub kept : (row : ℕ) → kinds row ≡ Assigned → (Contains listed_writes (scalar_at row) → ⊥) → read s (scalar_at row) ≡ read s0 (scalar_at row)
      pub reduced : (row : ℕ) (op : Join) → kinds row ≡ Reduced op → read s (scalar_at row) ≡ join op (read s0 (scalar_at row)) (read (store y) (copy_at row i))
      pub fits : (row : ℕ) (op : Join) → kinds row ≡ Reduced op → FitsSigned w64 (read (store y) (copy_at row i))
      pub others : (row i' : ℕ) → has_copies (kinds row) ≡ true → (i ≡ i' → ⊥) → read (store y) (copy_at row i') ≡ read m0 (copy_at row i')
      pub holds : Holds s y

    pub fewer : (before after : ℕ → Bool) (s : Storage) (y : M) → ((row : ℕ) → after row ≡ true → before row ≡ true) → Beside before s y → Beside after s y
    fewer before after s y less h = record {
      alike_s = h.alike_s;
      alike_m = h.alike_m;
      fit = h.fit;
      shared = h.shared;
      new = λ row k t. h.new row k (less row t);
      assigned = h.assigned;
      kept = h.kept;
      reduced = h.reduced;
      fits = h.fits;
      others = h.others;
      holds = h.holds;
    }

    -- what the two sides read is the same
    agree : (spots : List Spot) (before : ℕ → Bool) (s : Storage) (y : M) → MayNameAll kinds spots → AreAssigned kinds reads written spots before
        → ((spot : Spot) → Contains spots spot → Contains listed_reads spot) →
        Beside before s y → AgreeOn spots s (seen_by kinds i (store y))
    agree spots before s y may late names h spot c = go (kinds spot.row) refl (may spot c)
      where
        whole : spot.at ≡ 0 → has_copies (kinds spot.row) ≡ true → read s (scalar_at spot.row) ≡ read (store y) (copy_at spot.row i)
            → read s spot ≡ read (seen_by kinds i (store y)) spot
        whole z e same = subst (λ l. read s l ≡ read (seen_by kinds i (store y)) l) (sym (spot-scalar spot z)) (same ∙ sym (seen-copy kinds i (store y) spot.row e))

        go : (k : Kind) → kinds spot.row ≡ k → MayName k spot → read s spot ≡ read (seen_by kinds i (store y)) spot
        go Shared e m = h.shared spot e ∙ sym (seen-shared kinds i (store y) spot e)
        go New e m = whole m (ap has_copies e) (h.new spot.row e (late spot c e))
        go Assigned e m = whole m (ap has_copies e) (h.assigned spot.row e (inl (subst (Contains listed_reads) (spot-scalar spot m) (names spot c))))
        go (Reduced op) e m = absurd m

    -- a store to what is shared
    put_shared : (before after : ℕ → Bool) (spot : Spot) (v : ℤ) (s : Storage) (y : M) → kinds spot.row ≡ Shared → FitsSigned w64 v
        → ((row : ℕ) → after row ≡ true → (before row ≡ true) ⊎ (spot.row ≡ row)) →
        Beside before s y → Beside after (write s spot v) (put i (own_spot kinds i spot) v y)
    put_shared before after spot v s y e fits flags h =
        let here : store (put i (own_spot kinds i spot) v y) ≡ write (store y) spot v =
        puts i (own_spot kinds i spot) v y ∙ ap (λ l. write (store y) l v) (own-shared kinds i spot e) in
        let apart : (row : ℕ) → has_copies (kinds row) ≡ true → spot.row ≡ row → ⊥ =
        λ row c same.
        let z : has_copies (kinds spot.row) ≡ true = ap (λ r. has_copies (kinds r)) same ∙ c in
        let z2 : false ≡ true = sym (ap has_copies e) ∙ z in absurd cc in
        let one_side : (row : ℕ) → has_copies (kinds row) ≡ true → read (write s spot v) (scalar_at row) ≡ read s (scalar_at row) =
        λ row c. read-write_other s spot (scalar_at row) v (other_rows spot (scalar_at row) (apart row c)) in
        let other_side : (row i' : ℕ) → has_copies (kinds row) ≡ true → read (store (put i (own_spot kinds i spot) v y)) (copy_at row i') ≡ read (store y) (copy_at row i') =
        λ row i' c. ap (λ m. read m (copy_at row i')) here ∙ read-write_other (store y) spot (copy_at row i') v (other_rows spot (copy_at row i') (apart row c)) in
        record {
          alike_s = Alike-trans (write s spot v) s start (Alike-write s spot v) h.alike_s;
          alike_m = subst (λ m. Alike m copies0) (sym here) (Alike-trans (write (store y) spot v) (store y) copies0 (Alike-write (store y) spot v) h.alike_m);
          fit = fit-write s spot v h.fit fits;
          shared =
              λ l k.
              read-write_rows s (store y) spot l v
              (h.alike_s.extent spot.row ∙ sym (ap length (copies-shared kinds n start spot.row e)) ∙ sym (h.alike_m.extent spot.row))
              (h.shared l k) ∙ ap (λ m. read m l) (sym here);
          new = λ row k t. let c : has_copies (kinds row) ≡ true = ap has_copies k in one_side row c
              ∙ ⊎_elim (λ b. h.new row k b) (λ same. absurd (apart row c same)) (flags row t) ∙ sym (other_side row i c);
          assigned = λ row k t. let c : has_copies (kinds row) ≡ true = ap has_copies k in one_side row c ∙ h.assigned row k t ∙ sym (other_side row i c);
          kept = λ row k none. one_side row (ap has_copies k) ∙ h.kept row k none;
          reduced =
              λ row op k.
              let c : has_copies (kinds row) ≡ true = ap has_copies k in
              one_side row c ∙ h.reduced row op k ∙ ap (join op (read s0 (scalar_at row))) (sym (other_side row i c));
          fits = λ row op k. subst (FitsSigned w64) (sym (other_side row i (ap has_copies k))) (h.fits row op k);
          others = λ row i' c different. other_side row i' c ∙ h.others row i' c different;
          holds = keeps i spot v s y lt h.alike_s (subst (λ k. MayName k spot) (sym e) tt) h.holds;
        }

    -- a store to a scalar, and to its copy
    put_copy : (before after : ℕ → Bool) (r : ℕ) (v w : ℤ) (s : Storage) (y : M) → has_copies (kinds r) ≡ true → FitsSigned w64 v
        → ((row : ℕ) → after row ≡ true → (before row ≡ true) ⊎ (r ≡ row)) →
        (kinds r ≡ New → v ≡ w) → (kinds r ≡ Assigned → (v ≡ w) × Contains listed_writes (scalar_at r)) →
        ((op : Join) → kinds r ≡ Reduced op → (v ≡ join op (read s0 (scalar_at r)) w) × FitsSigned w64 w) →
        Holds (write s (scalar_at r) v) (put i (copy_at r i) w y) →
        Beside before s y → Beside after (write s (scalar_at r) v) (put i (copy_at r i) w y)
    put_copy before after r v w s y e fits flags is_new is_assigned is_reduced holds h =
        let here : store (put i (copy_at r i) w y) ≡ write (store y) (copy_at r i) w = puts i (copy_at r i) w y in
        let at_one : (row : ℕ) → r ≡ row → read (write s (scalar_at r) v) (scalar_at row) ≡ v =
        λ row same. subst (λ q. read (write s (scalar_at r) v) (scalar_at q) ≡ v) same (read-write_at s (scalar_at r) v (omega (arith, h.alike_s.extent r, scalars r e))) in
        let at_copy : (row : ℕ) → r ≡ row → read (store (put i (copy_at r i) w y)) (copy_at row i) ≡ w =
        λ row same.
        ap (λ m. read m (copy_at row i)) here
        ∙ subst (λ q. read (write (store y) (copy_at r i) w) (copy_at q i) ≡ w) same
        (read-write_at (store y) (copy_at r i) w (omega (arith, lt, h.alike_m.extent r, copies-length kinds n start scalars r e))) in
        let one_other : (l : Spot) → (r ≡ l.row → ⊥) → read (write s (scalar_at r) v) l ≡ read s l = λ l d. read-write_other s (scalar_at r) l v (other_rows (scalar_at r) l d) in
        let copy_other : (l : Spot) → (r ≡ l.row → ⊥) → read (store (put i (copy_at r i) w y)) l ≡ read (store y) l =
        λ l d. ap (λ m. read m l) here ∙ read-write_other (store y) (copy_at r i) l w (other_rows (copy_at r i) l d) in
        record {
          alike_s = Alike-trans (write s (scalar_at r) v) s start (Alike-write s (scalar_at r) v) h.alike_s;
          alike_m = subst (λ m. Alike m copies0) (sym here) (Alike-trans (write (store y) (copy_at r i) w) (store y) copies0 (Alike-write (store y) (copy_at r i) w) h.alike_m);
          fit = fit-write s (scalar_at r) v h.fit fits;
          shared = λ l k.
              let d : r ≡ l.row → ⊥ = λ same. let z : false ≡ true = sym (ap has_copies k) ∙ ap (λ q. has_copies (kinds q)) (sym same) ∙ e in absurd cc in
              one_other l d ∙ h.shared l k ∙ sym (copy_other l d);
          new = λ row k t. ⊎_elim
              (λ same. at_one row same ∙ is_new (ap kinds same ∙ k) ∙ sym (at_copy row same))
              (λ d. one_other (scalar_at row) d ∙ ⊎_elim (λ b. h.new row k b) (λ same. absurd (d same)) (flags row t) ∙ sym (copy_other (copy_at row i) d))
              (cases_eq r row);
          assigned = λ row k t. ⊎_elim
              (λ same. at_one row same ∙ (is_assigned (ap kinds same ∙ k)).0 ∙ sym (at_copy row same))
              (λ d. one_other (scalar_at row) d ∙ h.assigned row k t ∙ sym (copy_other (copy_at row i) d))
              (cases_eq r row);
          kept = λ row k none. ⊎_elim
              (λ same. absurd (none (subst (λ q. Contains listed_writes (scalar_at q)) same (is_assigned (ap kinds same ∙ k)).1)))
              (λ d. one_other (scalar_at row) d ∙ h.kept row k none)
              (cases_eq r row);
          reduced = λ row op k. ⊎_elim
              (λ same.
              at_one row same ∙ (is_reduced op (ap kinds same ∙ k)).0 ∙ ap (λ q. join op (read s0 (scalar_at q)) w) same
              ∙ ap (join op (read s0 (scalar_at row))) (sym (at_copy row same)))
              (λ d. one_other (scalar_at row) d ∙ h.reduced row op k ∙ ap (join op (read s0 (scalar_at row))) (sym (copy_other (copy_at row i) d)))
              (cases_eq r row);
          fits = λ row op k. ⊎_elim
              (λ same. subst (FitsSigned w64) (sym (at_copy row same)) (is_reduced op (ap kinds same ∙ k)).1)
              (λ d. subst (FitsSigned w64) (sym (copy_other (copy_at row i) d)) (h.fits row op k))
              (cases_eq r row);
          others = λ row i' c different.
              ap (λ m. read m (copy_at row i')) here
              ∙ read-write_other (store y) (copy_at r i) (copy_at row i') w (λ same. different (ap (λ l. l.at) same)) ∙ h.others row i' c different;
          holds = holds;
        }

    -- the one side ends, and the other beside it; or both end with one fault
    abbrev pub Follows : (ℕ → Bool) → Result Storage F → Result M F → Type 0
    Follows before (Ok s) r = (y : M) × (r ≡ Ok y) × Beside before s y
    Follows before (Err f) r = r ≡ Err f

    pub follows_then : (before after : ℕ → Bool) (x : Result Storage F) (r : Result M F) (next : Storage → Result Storage F) (copied_next : M → Result M F) → Follows before x r →
        ((s : Storage) (y : M) → Beside before s y → Follows after (next s) (copied_next y)) → Follows after (x >>= next) (r >>= copied_next)
    follows_then before after (Ok s) r next copied_next h step = subst (λ q. Follows after (next s) (q >>= copied_next)) (sym h.1) (step s h.0 h.2)
    follows_then before after (Err f) r next copied_next h step = ap (λ q. q >>= copied_next) h

    -- one assignment
    module _ (E : Evaluation (InIteration A) (InIteration C) M F)
        (acts : (a : A) (y : M) → E.action (in_iteration i a) y ≡ does i ((copied kinds one).effect (in_iteration i a) (store y)) y)
        (tests : (c : C) (y : M) → E.condition (in_iteration i c) y ≡ one.condition c (seen_by kinds i (store y))) where
      abbrev assigned_too : (ℕ → Bool) → A → ℕ → Bool
      assigned_too before a row = before row || assigns_row kinds reads written a row

      module _ (a : A) (before : ℕ → Bool) (s : Storage) (y : M) (may : MayNameAll kinds (reads.of_action a)) (late : AreAssigned kinds reads written (reads.of_action a) before)
          (in_reads : (spot : Spot) → Contains (reads.of_action a) spot → Contains listed_reads spot)
          (in_writes : (spot : Spot) → Contains (written a) spot → Contains listed_writes spot) (h : Beside before s y) where
        abbrev seen : Storage
        seen = seen_by kinds i (store y)

        like : Alike seen start
        like = alike-seen kinds n start scalars i (store y) h.alike_m

        same_reads : AgreeOn (reads.of_action a) s seen
        same_reads = agree (reads.of_action a) before s y may late in_reads h

        flags : (spot : Spot) → Contains (written a) spot → (row : ℕ) → assigned_too before a row ≡ true → (before row ≡ true) ⊎ (spot.row ≡ row)
        flags spot c row t = ⊎_elim (λ b. inl b) (λ all. inr (assigns (written a) row spot all c)) (or_cases (before row) (assigns_row kinds reads written a row) t)

        plain_put : (spot : Spot) (v : ℤ) → Contains (written a) spot → FitsSigned w64 v → MayNameAll kinds (written a)
            → Beside (assigned_too before a) (write s spot v) (put i (own_spot kinds i spot) v y)
        plain_put spot v c fits writable = go (kinds spot.row) refl (writable spot c)
          where
            scalar : spot.at ≡ 0 → has_copies (kinds spot.row) ≡ true → MayName (kinds spot.row) spot
                → ((op : Join) → kinds spot.row ≡ Reduced op → ⊥)
                → Beside (assigned_too before a) (write s spot v) (put i (own_spot kinds i spot) v y)
            scalar z e m not_reduced =
                let at : spot ≡ scalar_at spot.row = spot-scalar spot z in
                let own : own_spot kinds i spot ≡ copy_at spot.row i = ap (own_spot kinds i) at ∙ own-copy kinds i spot.row e in
                let kept : Holds (write s (scalar_at spot.row) v) (put i (copy_at spot.row i) v y) =
                subst (λ l. Holds (write s (scalar_at spot.row) v) (put i l v y)) own
                (subst (λ l. Holds (write s l v) (put i (own_spot kinds i spot) v y)) at (keeps i spot v s y lt h.alike_s m h.holds)) in
                subst (λ l. Beside (assigned_too before a) (write s l v) (put i (own_spot kinds i spot) v y)) (sym at)
                (subst (λ l. Beside (assigned_too before a) (write s (scalar_at spot.row) v) (put i l v y)) (sym own)
                (put_copy before (assigned_too before a) spot.row v v s y e fits (flags spot c) (λ k. refl)
                (λ k. (refl, subst (Contains listed_writes) at (in_writes spot c))) (λ op k. absurd (not_reduced op k)) kept h))

            go : (k : Kind) → kinds spot.row ≡ k → MayName k spot → Beside (assigned_too before a) (write s spot v) (put i (own_spot kinds i spot) v y)
            go Shared e m = put_shared before (assigned_too before a) spot v s y e fits (flags spot c) h
            go New e m = scalar m (ap has_copies e) (subst (λ k. MayName k spot) (sym e) m) (λ op k. let z : New ≡ Reduced op = sym e ∙ k in absurd cc)
            go Assigned e m = scalar m (ap has_copies e) (subst (λ k. MayName k spot) (sym e) m) (λ op k. let z : Assigned ≡ Reduced op = sym e ∙ k in absurd cc)
            go (Reduced op) e m = absurd m

        plain_action : IsPlain one kinds reads written reducing start a → Follows (assigned_too before a) (then_apply (one.effect a s) s) (E.action (in_iteration i a) y)
        plain_action plain =
            subst (Follows (assigned_too before a) (then_apply (one.effect a s) s))
            (sym (acts a y ∙ ap (λ e. does i (own_effect kinds i e) y) (sym (plain.near s seen h.alike_s like same_reads))))
            (go (one.effect a s) refl)
          where
            go : (e : Effect F) → one.effect a s ≡ e → Follows (assigned_too before a) (then_apply e s) (does i (own_effect kinds i e) y)
            go Skip e = absurd (plain.ends s e)
            go (Put spot v) e = (put i (own_spot kinds i spot) v y, refl, plain_put spot v (plain.stores s spot v e) (plain.fits s spot v h.fit e) plain.writable)
            go (Fail f) e = refl

        reduction : (by : Reducing F) → IsReduction one kinds reads written reducing start a by
            → Follows (assigned_too before a) (then_apply (one.effect a s) s) (E.action (in_iteration i a) y)
        reduction by red =
            let e : has_copies (kinds by.row) ≡ true = ap has_copies red.kind in
            let copy : read seen (scalar_at by.row) ≡ read (store y) (copy_at by.row i) = seen-copy kinds i (store y) by.row e in
            subst (Follows (assigned_too before a) (then_apply (one.effect a s) s))
            (sym
            (acts a y
            ∙ ap (λ f. does i (own_effect kinds i f) y)
            (red.is seen (subst (FitsSigned w64) (sym copy) (h.fits by.row red.op red.kind)) (λ st e'. (red.good s st h.fit (red.near s seen h.alike_s like same_reads ∙ e')).1)
            ∙ ap (λ st. reduced_effect by.row red.op st (read seen (scalar_at by.row))) (sym (red.near s seen h.alike_s like same_reads))
            ∙ ap (reduced_effect by.row red.op (by.statement s)) copy)))
            (subst
            (λ f. Follows (assigned_too before a) (then_apply f s)
            (does i (own_effect kinds i (reduced_effect by.row red.op (by.statement s) (read (store y) (copy_at by.row i)))) y)) (sym (red.is s (h.fit (scalar_at by.row)) (λ st e'. (red.good s st h.fit e').1)))
            (go (by.statement s) refl))
          where
            go : (st : Result Statement F) → by.statement s ≡ st →
                Follows (assigned_too before a) (then_apply (reduced_effect by.row red.op st (read s (scalar_at by.row))) s)
                (does i (own_effect kinds i (reduced_effect by.row red.op st (read (store y) (copy_at by.row i)))) y)
            go (Err f) e = refl
            go (Ok st) e =
                let op = red.op in
                let r = by.row in
                let b : ℤ = read (store y) (copy_at r i) in
                let acc : ℤ = read s0 (scalar_at r) in
                let step = numbers_reduce op (numbers r op red.kind) st (red.good s st h.fit e) in
                let has : has_copies (kinds r) ≡ true = ap has_copies red.kind in
                let v : ℤ = assigned op st (read s (scalar_at r)) in
                let w : ℤ = assigned op st b in
                let passes : v ≡ join op acc w = ap (assigned op st) (h.reduced r op red.kind) ∙ step.passes acc b (fit0 (scalar_at r)) (h.fits r op red.kind) in
                let same_op : (op' : Join) → kinds r ≡ Reduced op' → op ≡ op' = λ op' k. let z : Reduced op ≡ Reduced op' = sym red.kind ∙ k in cc in (
                  put i (own_spot kinds i (scalar_at r)) w y,
                  refl,
                  subst (λ l. Beside (assigned_too before a) (write s (scalar_at r) v) (put i l w y)) (sym (own-copy kinds i r has))
                      (put_copy before (assigned_too before a) r v w s y has (step.stays (read s (scalar_at r)) (h.fit (scalar_at r))) (flags (scalar_at r) red.stores)
                      (λ k. let z : New ≡ Reduced op = sym k ∙ red.kind in absurd cc)
                      (λ k. let z : Assigned ≡ Reduced op = sym k ∙ red.kind in absurd cc)
                      (λ op' k. (subst (λ o. v ≡ join o acc w) (same_op op' k) passes, step.stays b (h.fits r op red.kind)))
                      (keeps_reduced i r op v w s y lt red.kind h.holds) h),
                )

        pub action_follows : IsPlainOr one kinds reads written reducing start a (reducing a)
            → Follows (assigned_too before a) (then_apply (one.effect a s) s) (E.action (in_iteration i a) y)
        action_follows = go (reducing a)
          where
            go : (o : Option (Reducing F)) → IsPlainOr one kinds reads written reducing start a o
                → Follows (assigned_too before a) (then_apply (one.effect a s) s) (E.action (in_iteration i a) y)
            go None plain = plain_action plain
            go (Some by) red = reduction by red

      -- a condition is the same on both sides
      pub condition_same : (c : C) (before : ℕ → Bool) (s : Storage) (y : M) → IsCondition one kinds reads written reducing start c
          → AreAssigned kinds reads written (reads.of_condition c) before →
          ((spot : Spot) → Contains (reads.of_condition c) spot → Contains listed_reads spot) → Beside before s y → E.condition (in_iteration i c) y ≡ one.condition c s
      condition_same c before s y is late in_reads h =
          tests c y
          ∙ sym
          (is.near s (seen_by kinds i (store y)) h.alike_s (alike-seen kinds n start scalars i (store y) h.alike_m)
          (agree (reads.of_condition c) before s y is.readable late in_reads h))

      turns_follow : (turns trips : ℕ) (flags : ℕ → (ℕ → Bool) → ℕ → Bool) (before : ℕ → Bool) (turn : ℕ → Storage → Result Storage F)
          (copied_turn : ℕ → M → Result M F) → turns ≤ trips →
          ((x : ℕ) → x < trips → (s : Storage) (y : M) → Beside (after_turns x flags before) s y → Follows (after_turns (suc x) flags before) (turn x s) (copied_turn x y)) →
          (s : Storage) (y : M) → Beside before s y → Follows (after_turns turns flags before) (in_turn turns turn s) (in_turn turns copied_turn y)
      turns_follow zero trips flags before turn copied_turn le each s y h = (y, refl, h)
      turns_follow (suc t) trips flags before turn copied_turn le each s y h =
          follows_then (after_turns t flags before) (after_turns (suc t) flags before) (in_turn t turn s) (in_turn t copied_turn y) (turn t) (copied_turn t)
          (turns_follow t trips flags before turn copied_turn (omega arith) each s y h) (each t (omega arith))

      follows_fewer : (before after : ℕ → Bool) (x : Result Storage F) (r : Result M F) → ((row : ℕ) → after row ≡ true → before row ≡ true)
          → Follows before x r → Follows after x r
      follows_fewer before after (Ok s) r less h = (h.0, h.1, fewer before after s h.0 less h.2)
      follows_fewer before after (Err f) r less h = h

      -- the two ways that a condition goes
      branch : (b1 b2 : ℕ → Bool) (r : Result Bool F) (X1 X2 : Result Storage F) (Y1 Y2 : Result M F) → (r ≡ Ok true → Follows b1 X1 Y1) → (r ≡ Ok false → Follows b2 X2 Y2) →
          Follows (λ row. b1 row && b2 row) (r >>= (λ holds. if holds then X1 else X2)) (r >>= (λ holds. if holds then Y1 else Y2))
      branch b1 b2 (Ok true) X1 X2 Y1 Y2 first second = follows_fewer b1 (λ row. b1 row && b2 row) X1 Y1 (λ row t. (and_parts (b1 row) (b2 row) t).0) (first refl)
      branch b1 b2 (Ok false) X1 X2 Y1 Y2 first second = follows_fewer b2 (λ row. b1 row && b2 row) X2 Y2 (λ row t. (and_parts (b1 row) (b2 row) t).1) (second refl)
      branch b1 b2 (Err f) X1 X2 Y1 Y2 first second = refl

      known_way : (c : C) (s : Storage) (way v : Bool) → ((holds : Bool) → reads.known c ≡ Some holds → (m : Storage) → one.condition c m ≡ Ok holds)
          → one.condition c s ≡ Ok way → reads.known c ≡ Some v → v ≡ way
      known_way c s way v known is e = let z : (let q : Result Bool F = Ok v in q) ≡ Ok way = sym (known v e s) ∙ is in cc

      mutual
        pub items_follow : (items : Items A C) (before : ℕ → Bool) (s : Storage) (y : M)
            → EachIn (IsAction one kinds reads written reducing start) (IsCondition one kinds reads written reducing start) items →
            AreKnown (evaluated one) reads items → ReadsLate kinds reads written items before → AllIn (listed reads items) listed_reads
            → AllIn (listed (writes reads written) items) listed_writes → Beside before s y →
            Follows (assigned_by kinds reads written items before) (exec (evaluated one) items s) (exec E (items_in i items) y)
        items_follow Done before s y texts known late in_reads in_writes h = (y, refl, h)
        items_follow (Then a rest) before s y texts known late in_reads in_writes h =
            follows_then (assigned_too before a) (assigned_by kinds reads written rest (assigned_too before a)) (then_apply (one.effect a s) s)
            (E.action (in_iteration i a) y) (exec (evaluated one) rest) (exec E (items_in i rest))
            (action_follows a before s y texts.0.0 late.0
            (λ l c. in_reads l (Contains-append_left (reads.of_action a) (listed reads rest) l c))
            (λ l c. in_writes l (Contains-append_left (written a) (listed (writes reads written) rest) l c)) h texts.0.1)
            (λ s' y' h'. items_follow rest (assigned_too before a) s' y' texts.1 known.1 late.1
            (λ l c. in_reads l (Contains-append_right (reads.of_action a) (listed reads rest) l c))
            (λ l c. in_writes l (Contains-append_right (written a) (listed (writes reads written) rest) l c)) h')
        items_follow (If branches rest) before s y texts known late in_reads in_writes h =
            let after = assigned_by_branches kinds reads written branches before in
            follows_then after (assigned_by kinds reads written rest after) (exec_branches (evaluated one) branches s)
            (exec_branches E (branches_in i branches) y) (exec (evaluated one) rest) (exec E (items_in i rest))
            (branches_follow branches before s y texts.0 known.0 late.0
            (λ l c. in_reads l (Contains-append_left (listed_branches reads branches) (listed reads rest) l c))
            (λ l c. in_writes l (Contains-append_left (listed_branches (writes reads written) branches) (listed (writes reads written) rest) l c)) h)
            (λ s' y' h'. items_follow rest after s' y' texts.1 known.1 late.1
            (λ l c. in_reads l (Contains-append_right (listed_branches reads branches) (listed reads rest) l c))
            (λ l c. in_writes l (Contains-append_right (listed_branches (writes reads written) branches) (listed (writes reads written) rest) l c)) h')
        items_follow (Repeat trips body rest) before s y texts known late in_reads in_writes h =
            let flags : ℕ → (ℕ → Bool) → ℕ → Bool = λ x. assigned_by kinds reads written (body x) in
            let all_reads = joined_up_to trips (λ x. listed reads (body x)) in
            let all_writes = joined_up_to trips (λ x. listed (writes reads written) (body x)) in
            follows_then (after_turns trips flags before) (assigned_by kinds reads written rest (after_turns trips flags before))
            (in_turn trips (λ x. exec (evaluated one) (body x)) s) (in_turn trips (λ x. exec E (items_in i (body x))) y)
            (exec (evaluated one) rest) (exec E (items_in i rest))
            (turns_follow trips trips flags before (λ x. exec (evaluated one) (body x)) (λ x. exec E (items_in i (body x))) (omega arith)
            (λ x lt s' y' h'. items_follow (body x) (after_turns x flags before) s' y' (texts.0 x lt) (known.0 x lt) (late.0 x lt)
            (λ l c. in_reads l (Contains-append_left all_reads (listed reads rest) l (in_turn_of (λ x. listed reads (body x)) trips x lt l c)))
            (λ l c. in_writes l (Contains-append_left all_writes (listed (writes reads written) rest) l
            (in_turn_of (λ x. listed (writes reads written) (body x)) trips x lt l c))) h') s y h)
            (λ s' y' h'. items_follow rest (after_turns trips flags before) s' y' texts.1 known.1 late.1
            (λ l c. in_reads l (Contains-append_right all_reads (listed reads rest) l c))
            (λ l c. in_writes l (Contains-append_right all_writes (listed (writes reads written) rest) l c)) h')

        branches_follow : (branches : Branches A C) (before : ℕ → Bool) (s : Storage) (y : M)
            → EachInBranches (IsAction one kinds reads written reducing start) (IsCondition one kinds reads written reducing start) branches →
            EachInBranches (λ action. Unit {0}) (λ condition. (holds : Bool) → reads.known condition ≡ Some holds → (m : Storage) → one.condition condition m ≡ Ok holds) branches →
            ReadsLateBranches kinds reads written branches before → AllIn (listed_branches reads branches) listed_reads
            → AllIn (listed_branches (writes reads written) branches) listed_writes → Beside before s y →
            Follows (assigned_by_branches kinds reads written branches before) (exec_branches (evaluated one) branches s) (exec_branches E (branches_in i branches) y)
        branches_follow EndIf before s y texts known late in_reads in_writes h = (y, refl, h)
        branches_follow (Branch None body others) before s y texts known late in_reads in_writes h = items_follow body before s y texts.1 known.1 late.1 in_reads in_writes h
        branches_follow (Branch (Some c) body others) before s y texts known late in_reads in_writes h =
            let b1 = assigned_by kinds reads written body before in
            let b2 = assigned_by_branches kinds reads written others before in
            let one_body = listed reads body in
            let one_others = listed_branches reads others in
            let written_body = listed (writes reads written) body in
            let written_others = listed_branches (writes reads written) others in
            subst
            (λ q.
            Follows (λ row. b1 row && b2 row) (exec_branches (evaluated one) (Branch (Some c) body others) s)
            (q >>= (λ holds. if holds then exec E (items_in i body) y else exec_branches E (branches_in i others) y)))
            (sym (condition_same c before s y texts.0 late.0 (λ l t. in_reads l (Contains-append_left (reads.of_condition c) (counted (reads.known c) one_body one_others) l t)) h))
            (branch b1 b2 (one.condition c s) (exec (evaluated one) body s) (exec_branches (evaluated one) others s) (exec E (items_in i body) y)
            (exec_branches E (branches_in i others) y)
            (λ is. items_follow body before s y texts.1 known.1 late.1
            (λ l t.
            in_reads l
            (Contains-append_right (reads.of_condition c) (counted (reads.known c) one_body one_others) l
            (taken_in (reads.known c) one_body one_others (λ v e. known_way c s true v known.0 is e) l t)))
            (λ l t. in_writes l (taken_in (reads.known c) written_body written_others (λ v e. known_way c s true v known.0 is e) l t)) h)
            (λ is. branches_follow others before s y texts.2 known.2 late.2
            (λ l t.
            in_reads l
            (Contains-append_right (reads.of_condition c) (counted (reads.known c) one_body one_others) l
            (later_in (reads.known c) one_body one_others (λ v e. known_way c s false v known.0 is e) l t)))
            (λ l t. in_writes l (later_in (reads.known c) written_body written_others (λ v e. known_way c s false v known.0 is e) l t)) h))

  -- the copies of the first iterations joined from the left
  abbrev pub up : Join → ℕ → Storage → ℤ → ℕ → ℤ
  up op row m a zero = a
  up op row m a (suc k) = join op (up op row m a k) (read m (copy_at row k))

  up-same : (op : Join) (row : ℕ) (m m' : Storage) (a : ℤ) (k : ℕ) → ((i : ℕ) → i < k → read m (copy_at row i) ≡ read m' (copy_at row i)) → up op row m a k ≡ up op row m' a k
  up-same op row m m' a zero same = refl
  up-same op row m m' a (suc k) same =
      ap (λ x. join op x (read m (copy_at row k))) (up-same op row m m' a k (λ i lt. same i (omega arith)))
      ∙ ap (join op (up op row m' a k)) (same k (omega arith))

  up-fits : (op : Join) → IsJoin (FitsSigned w64) (join op) (unit op) → (row : ℕ) (m : Storage) (a : ℤ) (k : ℕ) → FitsSigned w64 a → ((i : ℕ) → i < k → FitsSigned w64 (read m (copy_at row i)))
      → FitsSigned w64 (up op row m a k)
  up-fits op over row m a zero fits each = fits
  up-fits op over row m a (suc k) fits each =
      over.closed (up op row m a k) (read m (copy_at row k)) (up-fits op over row m a k fits (λ i lt. each i (omega arith)))
      (each k (omega arith))

  up-joined : (op : Join) → IsJoin (FitsSigned w64) (join op) (unit op) → (row : ℕ) (m : Storage) (a b : ℤ) (k : ℕ) → FitsSigned w64 a → FitsSigned w64 b → ((i : ℕ) → i < k → FitsSigned w64 (read m (copy_at row i))) →
      up op row m (join op a b) k ≡ join op a (up op row m b k)
  up-joined op over row m a b zero fits_a fits_b each = refl
  up-joined op over row m a b (suc k) fits_a fits_b each =
      let earlier : (i : ℕ) → i < k → FitsSigned w64 (read m (copy_at row i)) = λ i lt. each i (omega arith) in
      ap (λ x. join op x (read m (copy_at row k))) (up-joined op over row m a b k fits_a fits_b earlier)
      ∙ over.associative a (up op row m b k) (read m (copy_at row k)) fits_a (up-fits op over row m b k fits_b earlier) (each k (omega arith))

  up-fold : (op : Join) (row : ℕ) (m : Storage) (a : ℤ) (k : ℕ) → k ≤ length (row_of m row) → up op row m a k ≡ fold (join op) a (take k (row_of m row))
  up-fold op row m a zero le = refl
  up-fold op row m a (suc k) le =
      let on : k + 1 ≡ suc k = omega arith in
      ap (λ x. join op x (read m (copy_at row k))) (up-fold op row m a k (omega arith))
      ∙ sym (fold_more (join op) a (row_of m row) k (pos 0) (omega arith)) ∙ ap (λ j. fold (join op) a (take j (row_of m row))) on

  -- the loops beside those with copies
  module _ (items : ℕ → Items A C) (free : MayCopy one kinds reads written reducing start n items) (E : ℕ → Evaluation (InIteration A) (InIteration C) M F)
      (acts : (i : ℕ) (a : A) (y : M) → (E i).action (in_iteration i a) y ≡ does i ((copied kinds one).effect (in_iteration i a) (store y)) y)
      (tests : (i : ℕ) (c : C) (y : M) → (E i).condition (in_iteration i c) y ≡ one.condition c (seen_by kinds i (store y))) where
    -- before iteration k: who touches a scalar later finds its entry value, and has its copy as it was
    pub record Between (k : ℕ) (s : Storage) (y : M) : Type 0 where
      pub alike_s : Alike s start
      pub alike_m : Alike (store y) copies0
      pub shared : (spot : Spot) → kinds spot.row ≡ Shared → read s spot ≡ read (store y) spot
      pub entry : (row i : ℕ) → kinds row ≡ Assigned → k ≤ i → i < n → Touches one kinds reads written reducing start (items i) (scalar_at row)
          → read s (scalar_at row) ≡ read start (scalar_at row)
      pub copies : (row i : ℕ) → has_copies (kinds row) ≡ true → k ≤ i → i < n → read (store y) (copy_at row i) ≡ read copies0 (copy_at row i)
      pub reduced : (row : ℕ) (op : Join) → kinds row ≡ Reduced op → read s (scalar_at row) ≡ up op row (store y) (read start (scalar_at row)) k
      pub fit : AllFit s
      pub fits : (row : ℕ) (op : Join) → kinds row ≡ Reduced op → (i : ℕ) → i < n → FitsSigned w64 (read (store y) (copy_at row i))
      pub holds : Holds s y

    unit_at : (row i : ℕ) (op : Join) → kinds row ≡ Reduced op → i < n → read copies0 (copy_at row i) ≡ unit op
    unit_at row i op e lt = copies-value kinds n start scalars row i (ap has_copies e) lt ∙ ap (λ k. entry_value kinds n start k (row_of start row)) e

    pub at_start : (y : M) → store y ≡ copies0 → Holds start y → Between 0 start y
    at_start y is holds = record {
      alike_s = Alike-refl start;
      alike_m = subst (λ m. Alike m copies0) (sym is) (Alike-refl copies0);
      shared = λ l e. ap (λ r. get_or r l.at (pos 0)) (sym (copies-shared kinds n start l.row e)) ∙ ap (λ m. read m l) (sym is);
      entry = λ row i e le lt t. refl;
      copies = λ row i e le lt. ap (λ m. read m (copy_at row i)) is;
      reduced = λ row op e. refl;
      fit = free.fit;
      fits = λ row op e i lt. subst (FitsSigned w64) (sym (ap (λ m. read m (copy_at row i)) is ∙ unit_at row i op e lt)) (numbers_join op (numbers row op e)).unit_in;
      holds = holds;
    }

    module _ (k : ℕ) (lt : k < n) (s : Storage) (y : M) (b : Between k s y) where
      abbrev all_reads : List Spot
      all_reads = listed reads (items k)

      abbrev all_writes : List Spot
      all_writes = listed (writes reads written) (items k)

      abbrev BesideHere : (ℕ → Bool) → Storage → M → Type 0
      BesideHere = Beside k lt all_reads all_writes s (store y) b.fit

      at_first : BesideHere (λ row. false) s y
      at_first = record {
        alike_s = b.alike_s;
        alike_m = b.alike_m;
        fit = b.fit;
        shared = b.shared;
        new = λ row e t. absurd cc;
        assigned = λ row e t.
            b.entry row k e (omega arith) lt t
            ∙ sym
            (b.copies row k (ap has_copies e) (omega arith) lt ∙ copies-value kinds n start scalars row k (ap has_copies e) lt
            ∙ ap (λ kind. entry_value kinds n start kind (row_of start row)) e);
        kept = λ row e none. refl;
        reduced =
            λ row op e.
            sym
            (ap (join op (read s (scalar_at row))) (b.copies row k (ap has_copies e) (omega arith) lt ∙ unit_at row k op e lt)
            ∙ (numbers_join op (numbers row op e)).neutral (read s (scalar_at row)) (b.fit (scalar_at row)));
        fits = λ row op e. b.fits row op e k lt;
        others = λ row i e d. refl;
        holds = b.holds;
      }

      at_last : (flags : ℕ → Bool) (s' : Storage) (y' : M) → BesideHere flags s' y' → Between (suc k) s' y'
      at_last flags s' y' h = record {
        alike_s = h.alike_s;
        alike_m = h.alike_m;
        shared = h.shared;
        entry = λ row i e le lti t. h.kept row e (λ c. free.apart k i row lt lti (λ same. omega arith) e c t) ∙ b.entry row i e (omega arith) lti t;
        copies = λ row i e le lti. h.others row i e (λ same. omega arith) ∙ b.copies row i e (omega arith) lti;
        reduced = λ row op e.
            h.reduced row op e
            ∙ ap (λ x. join op x (read (store y') (copy_at row k)))
            (b.reduced row op e
            ∙ up-same op row (store y) (store y') (read start (scalar_at row)) k
            (λ i lti. sym (h.others row i (ap has_copies e) (λ same. omega arith))));
        fit = h.fit;
        fits = λ row op e i lti. ⊎_elim
            (λ same. subst (λ j. FitsSigned w64 (read (store y') (copy_at row j))) same (h.fits row op e))
            (λ d. subst (FitsSigned w64) (sym (h.others row i (ap has_copies e) d)) (b.fits row op e i lti))
            (cases_eq k i);
        holds = h.holds;
      }

    abbrev pub LoopsFollow : ℕ → Result Storage F → Result M F → Type 0
    LoopsFollow k (Ok s) r = (y : M) × (r ≡ Ok y) × Between k s y
    LoopsFollow k (Err f) r = r ≡ Err f

    one_iteration : (k : ℕ) (lt : k < n) (s : Storage) (y : M) → Between k s y → LoopsFollow (suc k) (exec (evaluated one) (items k) s) (exec (E k) (items_in k (items k)) y)
    one_iteration k lt s y b =
        go (assigned_by kinds reads written (items k) (λ row. false)) (exec (evaluated one) (items k) s) (exec (E k) (items_in k (items k)) y)
        (items_follow k lt (all_reads k lt s y b) (all_writes k lt s y b) s (store y) b.fit (E k) (acts k) (tests k) (items k) (λ row. false) s y
        (free.texts k lt) (free.known k lt) (free.late k lt) (λ l c. c) (λ l c. c) (at_first k lt s y b))
      where
        go : (flags : ℕ → Bool) (x : Result Storage F) (r : Result M F)
            → Follows k lt (all_reads k lt s y b) (all_writes k lt s y b) s (store y) b.fit flags x r → LoopsFollow (suc k) x r
        go flags (Ok s') r h = (h.0, h.1, at_last k lt s y b flags s' h.0 h.2)
        go flags (Err f) r h = h

    pub loops_follow : (y : M) → Between 0 start y → (k : ℕ) → k ≤ n → LoopsFollow k (plain_loops one items start k) (in_turn k (λ i. exec (E i) (items_in i (items i))) y)
    loops_follow y b zero le = (y, refl, b)
    loops_follow y b (suc k) le = go (plain_loops one items start k) (in_turn k (λ i. exec (E i) (items_in i (items i))) y) (loops_follow y b k (omega arith))
      where
        go : (x : Result Storage F) (r : Result M F) → LoopsFollow k x r → LoopsFollow (suc k) (x >>= exec (evaluated one) (items k)) (r >>= exec (E k) (items_in k (items k)))
        go (Ok s) r h =
            subst (λ q. LoopsFollow (suc k) (exec (evaluated one) (items k) s) (q >>= exec (E k) (items_in k (items k)))) (sym h.1)
            (one_iteration k (omega arith) s h.0 h.2)
        go (Err f) r h = ap (λ q. q >>= exec (E k) (items_in k (items k))) h

    -- after the last iteration
    pub copies_agree : (s : Storage) (y : M) → Between n s y → CopiesAgree kinds start s (store y)
    copies_agree s y b = record {
      shared = b.shared;
      reduced = λ row op e.
          let entry : ℤ = read start (scalar_at row) in
          let long : length (row_of (store y) row) ≡ n = b.alike_m.extent row ∙ copies-length kinds n start scalars row (ap has_copies e) in
          let over = numbers_join op (numbers row op e) in
          b.reduced row op e
          ∙ ap (λ a. up op row (store y) a n) (sym (over.neutral entry (free.fit (scalar_at row))))
          ∙ up-joined op over row (store y) entry (unit op) n (free.fit (scalar_at row)) over.unit_in (b.fits row op e)
          ∙ ap (join op entry)
          (up-fold op row (store y) (unit op) n (omega (arith, long))
          ∙ ap (fold (join op) (unit op)) (take_all n (row_of (store y) row) (omega (arith, long))));
    }
