-- Fortran's loops of a nest end as its parted order does.
use Rattle.std.proofs.Common.{◌≡◌, ℕ, ◌<◌, ◌≤◌, List, length, Option, Result, Ok, Err, true, refl, ap, sym, ◌∙◌, arith, ℤ, pos, ◌⊎◌, ⊎_elim}
use Rattle.std.proofs.lemmas.List.{ext_get_or}
use Rattle.storage.specs.Storage.{Storage, Spot, row_of, read}
use Rattle.storage.specs.Effect.{Effect}
use Rattle.storage.specs.Parted.{parted, kept, NoneKept, IsLeastKept}
use Rattle.nest_order.specs.Items.{Items}
use Rattle.nest_order.specs.Listed.{Names}
use Rattle.nest_order.specs.Nest.{Interpretation, nest_effects, nest_act, plain_loops, EndAlike, SameBelow, IsParallel, touches_of}
use Rattle.nest_order.specs.LastValue.{note_scalar, last_value}
use Rattle.nest_order.specs.Stores.{Observed}
use Rattle.op_tables.specs.Joins.{join, unit}
use Rattle.nest_order.specs.Reduction.{folded}
use Rattle.nest_syntax.specs.NestKinds.{Kind, New, Assigned, has_copies}
use Rattle.nest_order.specs.Copies.{scalar_at, InIteration, items_in, with_copies, copied}
use Rattle.nest_order.specs.Scalars.{Reducing, MayCopy, CopiesAgree, EndWithCopies, PartedAgrees}
use Rattle.nest_order.proofs.Acting.{parts_apart}
use Rattle.nest_order.proofs.Copying.{copies-length}
use Rattle.nest_order.proofs.Following.{nest_finishes, nest_faults}
use Rattle.nest_order.proofs.LastCopy.{last_copy, not_noted}
use Rattle.nest_order.proofs.Observing.{stores_noted}
use Rattle.nest_order.proofs.ScalarLaws.{loops_end, noted_end}

module _ {A C F : Type 0} (one : Interpretation A C F) (kinds : ℕ → Kind) (reads : Names A C Spot) (written : A → List Spot)
    (reducing : A → Option (Reducing F)) (start : Storage) (n : ℕ) (items : ℕ → Items A C)
    (may : MayCopy one kinds reads written reducing start n items) where
  abbrev S : Interpretation (InIteration A) (InIteration C) F
  S = copied kinds one

  abbrev its : ℕ → Items (InIteration A) (InIteration C)
  its i = items_in i (items i)

  abbrev copies0 : Storage
  copies0 = with_copies kinds n start

  module _ (names : Names (InIteration A) (InIteration C) Spot) (writes : InIteration A → List Spot) (conditions parts : ℕ)
      (free : IsParallel S names writes copies0 conditions n its)
      (enough : (i : ℕ) → i < n → length (nest_effects S conditions its i) ≤ parts) where
    abbrev act : ℕ → ℕ → Storage → Effect F
    act = nest_act S conditions its

    abbrev last : Storage
    last = parted act copies0 n parts

    module _ (none : NoneKept act copies0 n parts) (m : Storage) (ends : plain_loops one items start n ≡ Ok m) where
      -- a scalar that isn't a REDUCTION variable
      by_last : (row : ℕ) → row < conditions → (kinds row ≡ New) ⊎ (kinds row ≡ Assigned)
          → read m (scalar_at row) ≡ last_value (kept act copies0 n) row parts (read start (scalar_at row)) last n
      by_last row lt is =
          let entry = read start (scalar_at row) in
          let has : has_copies (kinds row) ≡ true = ⊎_elim (λ e. ap has_copies e) (λ e. ap has_copies e) is in
          let within : n ≤ length (row_of copies0 row) = omega (arith, copies-length kinds n start may.scalars row has) in
          let h =
          stores_noted S names writes copies0 conditions n its free parts enough (note_scalar row)
          (λ i spot value old after. not_noted row conditions i spot value old lt after) entry none in
          let noted = noted_end one kinds reads written reducing start n items may row is m ends in
          same (read m (scalar_at row)) _ noted.0 h.0 (sym noted.1 ∙ h.1)
          ∙ last_copy act copies0 n parts (touches_of S names writes copies0 conditions n its) (parts_apart S names writes copies0 conditions n its free parts) row within entry
        where
          same : (u v : ℤ) (a b : Storage)
              → (let q : Result (Observed ℤ) F = Ok (record { storage = a; noted_so_far = u }) in q) ≡ Ok (record { storage = b; noted_so_far = v })
              → u ≡ v
          same u v a b e = ap (λ (x : Observed ℤ). x.noted_so_far) (ok_same (record { storage = a; noted_so_far = u }) (record { storage = b; noted_so_far = v }) e)
            where
              ok_same : (x y : Observed ℤ) → (let q : Result (Observed ℤ) F = Ok x in q) ≡ Ok y → x ≡ y
              ok_same x y h = cc

      agrees : (copies : Storage) → CopiesAgree kinds start m copies → SameBelow conditions copies last → PartedAgrees kinds conditions (kept act copies0 n) parts n start m last
      agrees copies agree below = record {
        shared = λ spot lt e. agree.shared spot e ∙ below.same spot lt;
        reduced = λ row op lt e.
            agree.reduced row op e
            ∙ ap (λ r. join op (read start (scalar_at row)) (folded (join op) (unit op) r))
            (ext_get_or (pos 0) (row_of copies row) (row_of last row) (below.alike.extent row) (λ k ltk. below.same (record { row = row; at = k }) lt));
        scalars = by_last;
      }

    pub whole_finishes : NoneKept act copies0 n parts
        → (m : Storage) × (plain_loops one items start n ≡ Ok m) × PartedAgrees kinds conditions (kept act copies0 n) parts n start m last
    whole_finishes none =
        go (plain_loops one items start n) refl (plain_loops S its copies0 n) (loops_end one kinds reads written reducing start n items may)
        (nest_finishes S names writes copies0 conditions n its free parts enough none)
      where
        go : (x : Result Storage F) → plain_loops one items start n ≡ x → (y : Result Storage F) → EndWithCopies kinds start x y → EndAlike conditions y (Ok last) →
            (m : Storage) × (x ≡ Ok m) × PartedAgrees kinds conditions (kept act copies0 n) parts n start m last
        go (Ok m) is (Ok copies) agree below = (m, refl, agrees none m is copies agree below)
        go (Ok m) is (Err f) agree below = absurd agree
        go (Err f) is (Ok copies) agree below = absurd agree
        go (Err f) is (Err g) agree below = absurd below

    pub whole_faults : (i j : ℕ) (f : F) → IsLeastKept act copies0 n parts i j f → plain_loops one items start n ≡ Err f
    whole_faults i j f least =
        go (plain_loops one items start n) (plain_loops S its copies0 n) (loops_end one kinds reads written reducing start n items may)
        (nest_faults S names writes copies0 conditions n its free parts enough i j f least)
      where
        go : (x y : Result Storage F) → EndWithCopies kinds start x y → y ≡ Err f → x ≡ Err f
        go (Ok m) (Ok copies) agree e = cc
        go (Ok m) (Err g) agree e = absurd agree
        go (Err g) (Ok copies) agree e = absurd agree
        go (Err g) (Err h) agree e = ap Err agree ∙ e
