-- A nest without an iteration changes indices alone.
use Rattle.std.proofs.Common.{◌≡◌, ℕ, zero, suc, ◌<◌, inl, inr, ⊎_elim, List, [], ◌∷◌, ℤ, pos, ◌+ℤ◌, Bool, true, Ok, refl, sym, ap, ◌∙◌, subst, arith, get_or-set_same, get_or-set_other}
use Rattle.std.specs.List.{AllByRecursion}
use Rattle.std.proofs.lemmas.Bool.{cases_eq}
use Rattle.op_tables.specs.Operators.{wrapped}
use Rattle.nest_syntax.specs.NestKinds.{Kind}
use Rattle.array_meaning.specs.State.{State, scalar, set_scalar}
use Rattle.array_meaning.specs.Statements.{Loop, Block, Done}
use Rattle.array_meaning.specs.Runs.{Run, normal, then_do, with_value, one_step}
use Rattle.array_meaning.specs.Execution.{iterate, after_iteration, run_block}
use Rattle.array_meaning.specs.declared.sections.Sequence.{Sequence}
use Rattle.array_meaning.specs.Iterations.{values_of}
use Rattle.nest_items.specs.Settled.{without}
use Rattle.nest_items.specs.NestForm.{LoopsKeep}
use Rattle.lowered_nests.proofs.IndexValues.{by_trips, iterated, iterated-last, IsEmpty, left, left-here, left-past, left-again}
use Rattle.lowered_nests.proofs.NestLoops.{IsLoop, IsNear, near-set, near-known}

module _ (n : ℕ) (kinds : ℕ → Kind) (all : ℕ → Bool) (s : State) where
  abbrev Near : State → Type 0
  Near = IsNear n kinds all s

  -- how a run ends that changes the indices of loops alone
  pub record Leaves (ls : List Loop) (st st' : State) : Type 0 where
    pub scalars : (k : ℕ) → scalar st' k ≡ left s ls k (scalar st k)
    pub near : IsNear n kinds all s st'
    pub arrays : st'.arrays ≡ st.arrays
    pub printed : st'.printed ≡ st.printed

  abbrev pub Ends : Run → List Loop → State → Type 0
  Ends r ls st = (st' : State) × (r ≡ normal st') × Leaves ls st st'

  -- ---- one loop

  module _ (l : Loop) (ls : List Loop) (f : State → Run) (below : l.index < n) (free : all l.index ≡ true) where
    abbrev x : ℕ
    x = l.index

    abbrev p : Sequence
    p = values_of s l

    record After (m : ℕ) (v : ℤ) (st st' : State) : Type 0 where
      pub here : scalar st' x ≡ iterated m v p.step
      pub there : (k : ℕ) → (k ≡ x → ⊥) → scalar st' k ≡ by_trips m (scalar st k) (left s ls k (scalar st k))
      pub near : IsNear n kinds all s st'
      pub arrays : st'.arrays ≡ st.arrays
      pub printed : st'.printed ≡ st.printed

    turns : (m : ℕ) (v : ℤ) (st : State) → Near st → ((c : ℕ) → m ≡ suc c → (st : State) → Near st → Ends (f st) ls st)
        → (st' : State) × (iterate m x v p.step f st ≡ normal st') × After m v st st'
    turns zero v st near each = (
      set_scalar st x v,
      refl,
      record {
        here = get_or-set_same st.scalars x v (pos 0) (let long = near.places in omega (arith, below, long));
        there = λ k ne. get_or-set_other st.scalars x k v (pos 0) ne;
        near = near-set n kinds all s st x v free near;
        arrays = refl;
        printed = refl;
      },
    )
    turns (suc m) v st near each =
        let st1 : State = set_scalar st x v in
        let one = each m refl st1 (near-set n kinds all s st x v free near) in
        let rest = turns m (wrapped (v +ℤ p.step)) one.0 one.2.near (λ c e. each m refl) in (
          rest.0,
          ap (λ (r : Run). after_iteration r.completion r.state (iterate m x (wrapped (v +ℤ p.step)) p.step f)) one.1 ∙ rest.1,
          record {
            here = rest.2.here;
            there = λ k ne.
                rest.2.there k ne
                ∙ ap (λ z. by_trips m z (left s ls k z)) (one.2.scalars k ∙ ap (left s ls k) (get_or-set_other st.scalars x k v (pos 0) ne))
                ∙ left-again s ls k (scalar st k) m;
            near = rest.2.near;
            arrays = rest.2.arrays ∙ one.2.arrays;
            printed = rest.2.printed ∙ one.2.printed;
          },
        )

    inside-empty : (c : ℕ) → p.count ≡ suc c → IsEmpty s (l ∷ ls) → IsEmpty s ls
    inside-empty c e (inl none) = let z : 0 ≡ suc c = sym none ∙ e in absurd (omega (arith, z))
    inside-empty c e (inr h) = h.1

    pub loop-ends : IsEmpty s (l ∷ ls) → (IsEmpty s ls → (st : State) → IsNear n kinds all s st → Ends (f st) ls st) → (st : State) → IsNear n kinds all s st
        → Ends (iterate p.count x p.first p.step f st) (l ∷ ls) st
    loop-ends empty each st near =
        let t = turns p.count p.first st near (λ c e. each (inside-empty c e empty)) in (
          t.0,
          t.1,
          record {
            scalars = λ k. ⊎_elim
                (λ (e : k ≡ x). subst (λ j. scalar t.0 j ≡ iterated p.count p.first p.step) (sym e) t.2.here ∙ iterated-last p ∙ sym (left-here s l ls k (scalar st k) (sym e)))
                (λ (ne : k ≡ x → ⊥). t.2.there k ne ∙ sym (left-past s l ls k (scalar st k) (λ e. ne (sym e))))
                (cases_eq k x);
            near = t.2.near;
            arrays = t.2.arrays;
            printed = t.2.printed;
          },
        )

  -- ---- a block of the nest

  pub block-ends : (ls : List Loop) (free : ℕ → Bool) (block body : Block) → LoopsKeep kinds all free ls block body → AllByRecursion (IsLoop n kinds all) ls → IsEmpty s ls
      → (st : State) → IsNear n kinds all s st → Ends (run_block block st) ls st
  block-ends [] free block body h named empty st near = absurd empty
  block-ends (l ∷ ls) free block body h named empty st near =
      let inner : Block = h.1 in
      let known = near-known n kinds all s st l h.3 near in
      let q = loop-ends l ls (run_block inner) named.0.0 h.3.unseen empty (block-ends ls (without free l.index) inner body h.5 named.1) st near in (
        q.0,
        ap (λ b. run_block b st) h.2
            ∙ ap (λ r. then_do (with_value h.0 st r (λ p. then_do (one_step h.0 st (Ok st)) (iterate p.count l.index p.first p.step (run_block inner)))) (run_block Done)) known
            ∙ ap (λ r. then_do r (run_block Done)) q.1,
        q.2,
      )
