-- A nest ends as the plain loops over its iterations.
use Rattle.std.proofs.Common.{◌≡◌, ℕ, List, [], ◌∷◌, map, reverse, length, Bool, true, false, Result, Ok, Err, refl, ap, ap₂, sym, ◌∙◌, subst, ℤ, pos, arith, true≢false, ◌&&◌, not, nat_eq, get_or-set_other}
use Rattle.std.specs.Result.{result_unwrap_or}
use Rattle.hpf_base.specs.ElementOrder.{product}
use Rattle.nest_order.specs.Turns.{in_turn}
use Rattle.storage.specs.Storage.{Storage}
use Rattle.nest_order.specs.Nest.{plain_loops}
use Rattle.nest_syntax.specs.NestKinds.{Kind}
use Rattle.nest_order.proofs.Numbering.{in_turn-same}
use Rattle.array_meaning.specs.Terms.{Term, Control}
use Rattle.array_meaning.specs.Statements.{Loop, Nest, Block, Do, Unmarked, Outermost}
use Rattle.array_meaning.specs.Faults.{Fault}
use Rattle.array_meaning.specs.State.{State, set_scalar}
use Rattle.array_meaning.specs.Runs.{with_value, then_do, one_step}
use Rattle.array_meaning.specs.Expressions.{index_values}
use Rattle.array_meaning.specs.Forall.{index_extents, indices_at}
use Rattle.array_meaning.specs.Iterations.{values_of, turn_value, with_indices, iteration_count}
use Rattle.array_meaning.specs.NestEntry.{check_nest}
use Rattle.array_meaning.specs.Execution.{run, run_block, iterate}
use Rattle.nest_items.specs.NestItems.{one, items_of, iteration_items}
use Rattle.nest_items.specs.Settled.{SameBut, settled, settled_by, without}
use Rattle.nest_items.specs.Standing.{IsFixed, IsFixedTerm, EachFixed, IsInner, BlockStands, TightStands, NestStands}
use Rattle.nest_items.specs.NestEnds.{IsOpening, EndsAs}
use Rattle.nest_items.proofs.Values.{control_near, naming_more}
use Rattle.nest_items.proofs.SameStates.{same_refl, ind_refl}
use Rattle.nest_items.proofs.Blocks.{does, block_ends, loop_ends}
use Rattle.nest_items.proofs.Turns.{◌⊳◌}
use Rattle.nest_items.proofs.Tuples.{loops_do, as_numbers}

module _ (kinds : ℕ → Kind) (all : ℕ → Bool) where
  fixed_more : (free : ℕ → Bool) → ((k : ℕ) → all k ≡ false → free k ≡ false) → (t : Term) → IsFixedTerm kinds all t → IsFixedTerm kinds free t
  fixed_more free more t h = naming_more (IsFixed kinds all) (λ a. ⊥) (IsFixed kinds free) (λ a. ⊥) (λ k f. (more k f.0, f.1)) (λ a f. f) t h

  -- an index changes no value of a control
  control_kept : (s : State) (x : ℕ) (v : ℤ) (c : Control) → all x ≡ true → IsFixedTerm kinds all c.first → IsFixedTerm kinds all c.last → IsFixedTerm kinds all c.step
      → index_values (set_scalar s x v) c ≡ index_values s c
  control_kept s x v c t first last step =
      control_near (IsFixed kinds all) (λ a. ⊥) (set_scalar s x v) s (λ k f. get_or-set_other s.scalars x k v (pos 0) (λ e. true≢false (sym t ∙ ap all (sym e) ∙ f.0))) (λ a f. absurd f) c first last step

  values_kept : (s : State) (x : ℕ) (v : ℤ) (l : Loop) → all x ≡ true → IsFixedTerm kinds all l.control.first × IsFixedTerm kinds all l.control.last × IsFixedTerm kinds all l.control.step
      → values_of (set_scalar s x v) l ≡ values_of s l
  values_kept s x v l t h = ap (λ r. result_unwrap_or r (record { first = pos 0; step = pos 1; count = 0 })) (control_kept s x v l.control t h.0 h.1 h.2)

  all_kept : (s : State) (x : ℕ) (v : ℤ) (ls : List Loop) → all x ≡ true → EachFixed kinds all ls → map (values_of (set_scalar s x v)) ls ≡ map (values_of s) ls
  all_kept s x v [] t h = refl
  all_kept s x v (l ∷ ls) t h = ap₂ (λ y ys. y ∷ ys) (values_kept s x v l t h.0) (all_kept s x v ls t h.1)

  -- the loops stand as their blocks do
  abbrev More : (ℕ → Bool) → Type 0
  More free = (k : ℕ) → all k ≡ false → free k ≡ false

  more_without : (free : ℕ → Bool) (x : ℕ) → More free → More (without free x)
  more_without free x more k f = ap (λ b. b && not (nat_eq k x)) (more k f)

  inner_of : (free : ℕ → Bool) (s : State) (l : Loop) → More free → free l.index ≡ true → IsInner kinds all s Unmarked l → IsInner kinds free s Unmarked l
  inner_of free s l more unseen h = record {
    unmarked = refl;
    index = h.index;
    unseen = unseen;
    first = fixed_more free more l.control.first h.first;
    last = fixed_more free more l.control.last h.last;
    step = fixed_more free more l.control.step h.step;
    known = h.known;
    fits = h.fits;
  }

  tight_stands : (ls : List Loop) (free : ℕ → Bool) (s : State) (block body : Block) → More free → TightStands kinds all free s ls block body → BlockStands kinds free s block
  tight_stands [] free s block body more h = subst (BlockStands kinds free s) (sym h.0) h.1
  tight_stands (l ∷ ls) free s block body more h =
      subst (BlockStands kinds free s) (sym h.2) (
        (
          inner_of free s l more h.4 h.3,
          λ x lt. tight_stands ls (without free l.index) (set_scalar s l.index (turn_value (values_of s l) x)) h.1 body (more_without free l.index more) (h.5 x lt),
        ),
        tt,
      )

  right : {M F : Type 0} (r : Result M F) → r ⊳ (λ m. Ok m) ≡ r
  right (Ok m) = refl
  right (Err f) = refl

  -- and do what the innermost block does at each tuple
  tight_does : (ls : List Loop) (free : ℕ → Bool) (s : State) (block body : Block) → EachFixed kinds all ls → TightStands kinds all free s ls block body
      → does kinds (items_of s block) ≡ loops_do (λ z. does kinds (items_of z body)) (map (λ l. l.index) ls) (map (values_of s) ls) s
  tight_does [] free s block body fixed h = ap (λ b. does kinds (items_of s b)) h.0
  tight_does (l ∷ ls) free s block body fixed h =
      ap (λ b. does kinds (items_of s b)) h.2
      ∙ (λ i m. right (in_turn (values_of s l).count (λ x. does kinds (items_of (set_scalar s l.index (turn_value (values_of s l) x)) h.1)) m) i)
      ∙ in_turn-same (values_of s l).count (λ x. does kinds (items_of (set_scalar s l.index (turn_value (values_of s l) x)) h.1))
      (λ x. loops_do (λ z. does kinds (items_of z body)) (map (λ l. l.index) ls) (map (values_of s) ls) (set_scalar s l.index (turn_value (values_of s l) x)))
      (λ x lt. tight_does ls (without free l.index) (set_scalar s l.index (turn_value (values_of s l) x)) h.1 body fixed.1 (h.5 x lt)
      ∙ ap (λ ps. loops_do (λ z. does kinds (items_of z body)) (map (λ l. l.index) ls) ps (set_scalar s l.index (turn_value (values_of s l) x)))
      (all_kept s l.index (turn_value (values_of s l) x) ls h.3.unseen fixed.1))

  pub nest_ends : (s : State) (nest : Nest) (line : ℕ) (loop : Loop) (block body : Block) → NestStands kinds all s nest loop block body → check_nest nest body s ≡ Ok s → (start : Storage) → IsOpening kinds s start
      → EndsAs kinds all s (settled_by s (Do (Outermost nest body) loop block) s) (run (Do (Outermost nest body) loop block) line s)
      (plain_loops (one kinds) (iteration_items nest body s) start (iteration_count nest s))
  nest_ends s nest line loop block body h passed start opening =
      let p = values_of s loop in
      let m = start in
      let z = settled_by s (Do (Outermost nest body) loop block) s in
      subst (λ q. EndsAs kinds all s z (with_value line s q (λ p. then_do (one_step line s (check_nest nest body s)) (iterate p.count loop.index p.first p.step (run_block block)))) (numbered m)) (sym h.known)
      (subst (λ e. EndsAs kinds all s z (then_do (one_step line s e) (iterate p.count loop.index p.first p.step (run_block block))) (numbered m)) (sym passed)
      (subst (λ y. EndsAs kinds all s z (iterate p.count loop.index p.first p.step (run_block block) s) y) (whole m)
      (loop_ends kinds all s loop.index p h.unseen h.index (run_block block) (λ x. does kinds (items_of (set_scalar s loop.index (turn_value p x)) block))
      (λ x. settled (set_scalar s loop.index (turn_value p x)) block)
      (λ j lt. block_ends kinds block (without all loop.index) (λ k c. ap (λ b. b && not (nat_eq k loop.index)) (h.quiet k c)) (set_scalar s loop.index (turn_value p j))
      (tight_stands h.inner (without all loop.index) (set_scalar s loop.index (turn_value p j)) block body (more_without all loop.index (λ k f. f)) (h.tight j lt)))
      h.fits s s m (subst (λ z. SameBut all s z) (sym opening.state) (same_refl all s)) opening.rows (ind_refl all s)))) where
        numbered : Storage → Result Storage Fault
        numbered m = plain_loops (one kinds) (iteration_items nest body s) m (iteration_count nest s)

        ls : List Loop
        ls = h.inner

        at_entry : State → Storage → Result Storage Fault
        at_entry z = does kinds (items_of z body)

        by_loops : Storage → List Loop → Result Storage Fault
        by_loops m ks = in_turn (product (index_extents (reverse (map (values_of s) ks)))) (λ i. at_entry (with_indices (reverse (map (λ l. l.index) ks)) (indices_at (reverse (map (values_of s) ks)) i) s)) m

        long : (ks : List Loop) → length (map (λ l. l.index) ks) ≡ length (map (values_of s) ks)
        long [] = refl
        long (k ∷ ks) = let e = long ks in omega (arith, e)

        whole : (m : Storage) → in_turn (values_of s loop).count (λ x. does kinds (items_of (set_scalar s loop.index (turn_value (values_of s loop) x)) block)) m ≡ numbered m
        whole m =
            ap (λ f. f m) (in_turn-same (values_of s loop).count (λ x. does kinds (items_of (set_scalar s loop.index (turn_value (values_of s loop) x)) block))
            (λ x. loops_do at_entry (map (λ l. l.index) ls) (map (values_of s) ls) (set_scalar s loop.index (turn_value (values_of s loop) x)))
            (λ x lt. tight_does ls (without all loop.index) (set_scalar s loop.index (turn_value (values_of s loop) x)) block body h.same (h.tight x lt)
            ∙ ap (λ ps. loops_do at_entry (map (λ l. l.index) ls) ps (set_scalar s loop.index (turn_value (values_of s loop) x)))
            (all_kept s loop.index (turn_value (values_of s loop) x) ls h.unseen h.same)))
            ∙ as_numbers at_entry (map (λ l. l.index) (loop ∷ ls)) (map (values_of s) (loop ∷ ls)) s m (long (loop ∷ ls))
            ∙ ap (by_loops m) (sym h.loops)
