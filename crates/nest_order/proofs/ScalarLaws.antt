-- One scalar and its copies, for loops alone and for loops whose stores to the copies are noted.
use Rattle.std.proofs.Common.{◌≡◌, ℕ, ◌<◌, List, Result, Ok, Err, Option, true, false, if◌then◌else◌, refl, ap, sym, ◌∙◌, subst, arith, ℤ, ◌⊎◌, ⊎_elim}
use Rattle.std.specs.Prelude.{◌&&◌, nat_eq}
use Rattle.std.proofs.lemmas.Bool.{cases_eq}
use Rattle.std.proofs.lemmas.Bool.Decides.{nat_tests}
use Rattle.nest_order.specs.Turns.{◌>>=◌}
use Rattle.storage.specs.Storage.{Storage, Spot, read, write, Alike}
use Rattle.storage.specs.Effect.{Effect, Skip, Put, Fail, then_apply}
use Rattle.nest_order.specs.Items.{Items}
use Rattle.nest_order.specs.Listed.{Names}
use Rattle.nest_order.specs.Nest.{Interpretation, evaluated, plain_loops}
use Rattle.nest_order.specs.LastValue.{copy_at, note_scalar}
use Rattle.storage.specs.Storage.{is_same_spot}
use Rattle.nest_order.specs.Stores.{noted, Observed, observed, observed_loops}
use Rattle.op_tables.specs.declared.join.Join.{Join}
use Rattle.nest_syntax.specs.NestKinds.{Kind, Shared, New, Assigned, Reduced, has_copies}
use Rattle.nest_order.specs.Copies.{scalar_at, items_in, own_spot, with_copies, copied}
use Rattle.nest_order.specs.Scalars.{MayName, Reducing, MayCopy, CopiesAgree, EndWithCopies}
use Rattle.storage.proofs.StorageLemmas.{read-write_other, read-write_at}
use Rattle.nest_order.proofs.Copying.{own-shared, own-copy}
use Rattle.nest_order.proofs.Beside.{spot-scalar, does, LoopsFollow, at_start, loops_follow, copies_agree}

other_spot : (a b : Spot) → (a.row ≡ b.row → ⊥) → is_same_spot a b ≡ false
other_spot a b n = let e : nat_eq a.row b.row ≡ false = grind (arith, nat_tests) in ap (λ t. t && nat_eq a.at b.at) e

same_spot : (a : Spot) → is_same_spot a a ≡ true
same_spot a =
    let e : nat_eq a.row a.row ≡ true = grind (arith, nat_tests) in
    let f : nat_eq a.at a.at ≡ true = grind (arith, nat_tests) in
    ap (λ t. t && nat_eq a.at a.at) e ∙ f

module _ {A C F : Type 0} (one : Interpretation A C F) (kinds : ℕ → Kind) (reads : Names A C Spot) (written : A → List Spot)
    (reducing : A → Option (Reducing F)) (start : Storage) (n : ℕ) (items : ℕ → Items A C)
    (free : MayCopy one kinds reads written reducing start n items) where
  -- the loops alone: nothing is kept beside the storage
  abbrev plain_put : ℕ → Spot → ℤ → Storage → Storage
  plain_put i spot v y = write y spot v

  abbrev plain_does : ℕ → Effect F → Storage → Result Storage F
  plain_does =
      does one kinds reads written reducing start n free.scalars free.numbers (λ y. y) plain_put (λ i spot v y. refl) (λ s y. Unit {0})
      (λ i spot v s y lt alike may h. tt) (λ i row op v w s y lt e h. tt)

  plain_acts : (i : ℕ) (e : Effect F) (y : Storage) → then_apply e y ≡ plain_does i e y
  plain_acts i Skip y = refl
  plain_acts i (Put spot v) y = refl
  plain_acts i (Fail f) y = refl

  pub loops_end : EndWithCopies kinds start (plain_loops one items start n) (plain_loops (copied kinds one) (λ i. items_in i (items i)) (with_copies kinds n start) n)
  loops_end =
      go (plain_loops one items start n) (plain_loops (copied kinds one) (λ i. items_in i (items i)) (with_copies kinds n start) n)
      (loops_follow one kinds reads written reducing start n free.scalars free.numbers (λ y. y) plain_put (λ i spot v y. refl) (λ s y. Unit {0})
      (λ i spot v s y lt alike may h. tt) (λ i row op v w s y lt e h. tt)
      items free (λ i. evaluated (copied kinds one))
      (λ i a y. plain_acts i ((copied kinds one).effect (record { iteration = i; text = a }) y) y)
      (λ i c y. refl) (with_copies kinds n start)
      (at_start one kinds reads written reducing start n free.scalars free.numbers (λ y. y) plain_put (λ i spot v y. refl) (λ s y. Unit {0})
      (λ i spot v s y lt alike may h. tt) (λ i row op v w s y lt e h. tt)
      items free (λ i. evaluated (copied kinds one))
      (λ i a y. plain_acts i ((copied kinds one).effect (record { iteration = i; text = a }) y) y) (λ i c y. refl) (with_copies kinds n start) refl tt) n (omega arith))
    where
      go : (x r : Result Storage F)
          → LoopsFollow one kinds reads written reducing start n free.scalars free.numbers (λ y. y) plain_put (λ i spot v y. refl) (λ s y. Unit {0})
          (λ i spot v s y lt alike may h. tt) (λ i row op v w s y lt e h. tt)
          items free (λ i. evaluated (copied kinds one)) (λ i a y. plain_acts i ((copied kinds one).effect (record { iteration = i; text = a }) y) y)
          (λ i c y. refl) n x r → EndWithCopies kinds start x r
      go (Ok s) r h = subst (EndWithCopies kinds start (Ok s)) (sym h.1)
          (copies_agree one kinds reads written reducing start n free.scalars free.numbers (λ y. y) plain_put (λ i spot v y. refl) (λ s y. Unit {0})
          (λ i spot v s y lt alike may h. tt) (λ i row op v w s y lt e h. tt)
          items free (λ i. evaluated (copied kinds one)) (λ i a y. plain_acts i ((copied kinds one).effect (record { iteration = i; text = a }) y) y) (λ i c y. refl) s h.0 h.2)
      go (Err f) r h = subst (EndWithCopies kinds start (Err f)) (sym h) refl

  -- the loops with a note of the stores to the copies of one scalar
  module _ (row : ℕ) (is : (kinds row ≡ New) ⊎ (kinds row ≡ Assigned)) where
    has : has_copies (kinds row) ≡ true
    has = ⊎_elim (λ e. ap has_copies e) (λ e. ap has_copies e) is

    not_reduced : (op : Join) → kinds row ≡ Reduced op → ⊥
    not_reduced op e = ⊎_elim
        (λ is_new. let z : New ≡ Reduced op = sym is_new ∙ e in absurd cc)
        (λ is_assigned. let z : Assigned ≡ Reduced op = sym is_assigned ∙ e in absurd cc)
        is

    abbrev Noted : Type 0
    Noted = Observed ℤ

    abbrev store : Noted → Storage
    store y = y.storage

    abbrev put : ℕ → Spot → ℤ → Noted → Noted
    put i spot v y = record { storage = write y.storage spot v; noted_so_far = note_scalar row i spot v y.noted_so_far }

    abbrev Holds : Storage → Noted → Type 0
    Holds s y = read s (scalar_at row) ≡ y.noted_so_far

    -- a store elsewhere
    elsewhere : (i : ℕ) (spot own : Spot) (v w : ℤ) (s : Storage) (y : Noted) → (spot.row ≡ row → ⊥) → (own.row ≡ row → ⊥) → Holds s y → Holds (write s spot v) (put i own w y)
    elsewhere i spot own v w s y d d2 h =
        read-write_other s spot (scalar_at row) v (λ e. d (ap (λ l. l.row) e)) ∙ h ∙ sym (ap (λ t. if t then w else y.noted_so_far) (other_spot own (copy_at row i) d2))

    keeps : (i : ℕ) (spot : Spot) (v : ℤ) (s : Storage) (y : Noted) → i < n → Alike s start → MayName (kinds spot.row) spot → Holds s y
        → Holds (write s spot v) (put i (own_spot kinds i spot) v y)
    keeps i spot v s y lt alike may h = go (kinds spot.row) refl may
      where
        scalar : spot.at ≡ 0 → has_copies (kinds spot.row) ≡ true → Holds (write s spot v) (put i (own_spot kinds i spot) v y)
        scalar z e =
            let at : spot ≡ scalar_at spot.row = spot-scalar spot z in
            let own : own_spot kinds i spot ≡ copy_at spot.row i = ap (own_spot kinds i) at ∙ own-copy kinds i spot.row e in
            subst (λ l. Holds (write s spot v) (put i l v y)) (sym own) (⊎_elim
            (λ same.
            subst (λ l. Holds (write s l v) (put i (copy_at spot.row i) v y)) (sym at)
            (subst (λ q. Holds (write s (scalar_at q) v) (put i (copy_at q i) v y)) (sym same)
            (read-write_at s (scalar_at row) v (omega (arith, alike.extent row, free.scalars row has))
            ∙ sym (ap (λ t. if t then v else y.noted_so_far) (same_spot (copy_at row i))))))
            (λ d. elsewhere i spot (copy_at spot.row i) v v s y d d h)
            (cases_eq spot.row row))

        go : (k : Kind) → kinds spot.row ≡ k → MayName k spot → Holds (write s spot v) (put i (own_spot kinds i spot) v y)
        go Shared e m =
            let d : spot.row ≡ row → ⊥ = λ same. let z : false ≡ true = sym (ap has_copies e) ∙ ap (λ q. has_copies (kinds q)) same ∙ has in absurd cc in
            subst (λ l. Holds (write s spot v) (put i l v y)) (sym (own-shared kinds i spot e)) (elsewhere i spot spot v v s y d d h)
        go New e m = scalar m (ap has_copies e)
        go Assigned e m = scalar m (ap has_copies e)
        go (Reduced op) e m = absurd m

    keeps_reduced : (i r : ℕ) (op : Join) (v w : ℤ) (s : Storage) (y : Noted) → i < n → kinds r ≡ Reduced op → Holds s y
        → Holds (write s (scalar_at r) v) (put i (copy_at r i) w y)
    keeps_reduced i r op v w s y lt e h =
        let d : r ≡ row → ⊥ = λ same. not_reduced op (ap kinds (sym same) ∙ e) in
        elsewhere i (scalar_at r) (copy_at r i) v w s y d d h

    abbrev noted_does : ℕ → Effect F → Noted → Result Noted F
    noted_does = does one kinds reads written reducing start n free.scalars free.numbers store put (λ i spot v y. refl) Holds keeps keeps_reduced

    noted_acts : (i : ℕ) (e : Effect F) (y : Noted) →
        then_apply e y.storage >>= (λ m. let q : Result Noted F = Ok (record { storage = m; noted_so_far = noted (note_scalar row i) e y.noted_so_far }) in q) ≡ noted_does i e y
    noted_acts i Skip y = refl
    noted_acts i (Put spot v) y = refl
    noted_acts i (Fail f) y = refl

    abbrev first : Noted
    first = record { storage = with_copies kinds n start; noted_so_far = read start (scalar_at row) }

    abbrev Ends : Storage → Result Noted F → Type 0
    Ends m r = (copies : Storage) × (r ≡ Ok (record { storage = copies; noted_so_far = read m (scalar_at row) })) × CopiesAgree kinds start m copies

    pub noted_end : (m : Storage) → plain_loops one items start n ≡ Ok m
        → Ends m
        (observed_loops (copied kinds one) (note_scalar row) (λ i. items_in i (items i)) (with_copies kinds n start) (read start (scalar_at row)) n)
    noted_end m is_end =
        go (observed_loops (copied kinds one) (note_scalar row) (λ i. items_in i (items i)) (with_copies kinds n start) (read start (scalar_at row)) n)
        (subst (λ x. LoopsFollow one kinds reads written reducing start n free.scalars free.numbers store put (λ i spot v y. refl) Holds keeps keeps_reduced
        items free (λ i. observed (copied kinds one) (note_scalar row i))
        (λ i a y. noted_acts i ((copied kinds one).effect (record { iteration = i; text = a }) y.storage) y) (λ i c y. refl) n x
        (observed_loops (copied kinds one) (note_scalar row) (λ i. items_in i (items i)) (with_copies kinds n start) (read start (scalar_at row)) n)) is_end
        (loops_follow one kinds reads written reducing start n free.scalars free.numbers store put (λ i spot v y. refl) Holds keeps keeps_reduced
        items free (λ i. observed (copied kinds one) (note_scalar row i))
        (λ i a y. noted_acts i ((copied kinds one).effect (record { iteration = i; text = a }) y.storage) y) (λ i c y. refl) first
        (at_start one kinds reads written reducing start n free.scalars free.numbers store put (λ i spot v y. refl) Holds keeps keeps_reduced
        items free (λ i. observed (copied kinds one) (note_scalar row i))
        (λ i a y. noted_acts i ((copied kinds one).effect (record { iteration = i; text = a }) y.storage) y) (λ i c y. refl) first refl refl) n (omega arith)))
      where
        go : (r : Result Noted F) → LoopsFollow one kinds reads written reducing start n free.scalars free.numbers store put (λ i spot v y. refl) Holds keeps keeps_reduced
            items free (λ i. observed (copied kinds one) (note_scalar row i))
            (λ i a y. noted_acts i ((copied kinds one).effect (record { iteration = i; text = a }) y.storage) y) (λ i c y. refl) n (Ok m) r
            → Ends m r
        go r h = (
          h.0.storage,
          h.1 ∙ ap (λ w. let q : Result Noted F = Ok (record { storage = h.0.storage; noted_so_far = w }) in q) (sym h.2.holds),
          copies_agree one kinds reads written reducing start n free.scalars free.numbers store put (λ i spot v y. refl) Holds keeps keeps_reduced
              items free (λ i. observed (copied kinds one) (note_scalar row i))
              (λ i a y. noted_acts i ((copied kinds one).effect (record { iteration = i; text = a }) y.storage) y) (λ i c y. refl) m h.0 h.2,
        )
