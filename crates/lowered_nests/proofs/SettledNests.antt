-- A nest that has an iteration leaves each of its indices with its value after the loop.
use Rattle.std.proofs.Common.{◌≡◌, ℕ, zero, suc, ◌<◌, inl, inr, List, [], ◌∷◌, length, ℤ, pos, Bool, refl, sym, ap, ◌∙◌, subst, arith, length-set, get_or-set_same, get_or-set_other}
use Rattle.std.specs.List.{AllByRecursion}
use Rattle.nest_syntax.specs.NestKinds.{Kind}
use Rattle.nest_order.specs.Turns.{after_turns}
use Rattle.array_meaning.specs.State.{State, scalar, set_scalar}
use Rattle.array_meaning.specs.Statements.{Loop, Block, Done, Then, Statement, Do, Mark, Unmarked}
use Rattle.array_meaning.specs.declared.sections.Sequence.{Sequence}
use Rattle.array_meaning.specs.Iterations.{values_of, turn_value}
use Rattle.nest_items.specs.Settled.{settled, settled_by, without}
use Rattle.nest_items.specs.NestForm.{LoopsKeep}
use Rattle.lowered_nests.proofs.IndexValues.{IsIndexOf, by_trips, last-some, HaveTurns, left, left-here, left-past}
use Rattle.lowered_nests.proofs.NestLoops.{IsLoop, IsNear, near-set, near-values}

turns-length : (c : ℕ) (f : ℕ → State → State) (z : State) → ((x : ℕ) (y : State) → length (f x y).scalars ≡ length y.scalars) → length (after_turns c f z).scalars ≡ length z.scalars
turns-length zero f z each = refl
turns-length (suc c) f z each = each c (after_turns c f z) ∙ turns-length c f z each

-- one turn of a loop
abbrev turn : State → Loop → Block → ℕ → State → State
turn st l inner x y = set_scalar (settled (set_scalar st l.index (turn_value (values_of st l) x)) inner y) l.index (turn_value (values_of st l) x)

mutual
  settled-length : (st : State) (block : Block) (z : State) → length (settled st block z).scalars ≡ length z.scalars
  settled-length st Done z = refl
  settled-length st (Then line statement rest) z = settled-length st rest (settled_by st statement z) ∙ by-length st statement z

  by-length : (st : State) (statement : Statement) (z : State) → length (settled_by st statement z).scalars ≡ length z.scalars
  by-length st (Do mark l inner) z =
      length-set (after_turns (values_of st l).count (turn st l inner) z).scalars l.index (turn_value (values_of st l) (values_of st l).count)
      ∙ turns-length (values_of st l).count (turn st l inner) z (λ x y.
      length-set (settled (set_scalar st l.index (turn_value (values_of st l) x)) inner y).scalars l.index (turn_value (values_of st l) x)
      ∙ settled-length (set_scalar st l.index (turn_value (values_of st l) x)) inner y)
  by-length st statement z = refl

module _ (n : ℕ) (kinds : ℕ → Kind) (all : ℕ → Bool) (s : State) (k : ℕ) (v : ℤ) where
  pub loop-settles : (mark : Mark) (l : Loop) (ls : List Loop) (inner : Block) (st z : State) → l.index < n → values_of st l ≡ values_of s l → HaveTurns s (l ∷ ls) → length z.scalars ≡ n
      → IsIndexOf k (l ∷ ls)
      → (IsIndexOf k ls → (x : ℕ) (y : State) → length y.scalars ≡ n → scalar (settled (set_scalar st l.index (turn_value (values_of st l) x)) inner y) k ≡ left s ls k v)
      → scalar (settled_by st (Do mark l inner) z) k ≡ left s (l ∷ ls) k v
  loop-settles mark l ls inner st z below same some long (inl e) each =
      let a : State = after_turns (values_of st l).count (turn st l inner) z in
      let w : ℤ = turn_value (values_of st l) (values_of st l).count in
      let size : length a.scalars ≡ length z.scalars = turns-length (values_of st l).count (turn st l inner) z (λ x y.
      length-set (settled (set_scalar st l.index (turn_value (values_of st l) x)) inner y).scalars l.index (turn_value (values_of st l) x)
      ∙ settled-length (set_scalar st l.index (turn_value (values_of st l) x)) inner y) in
      subst (λ j. scalar (set_scalar a l.index w) j ≡ w) e (get_or-set_same a.scalars l.index w (pos 0) (omega (arith, below, size, long)))
      ∙ ap (λ (p : Sequence). turn_value p p.count) same
      ∙ sym (last-some (values_of s l) some.0 some.1)
      ∙ sym (left-here s l ls k v e)
  loop-settles mark l ls inner st z below same some long (inr h) each =
      let c : ℕ = some.0 in
      let a : State = after_turns (values_of st l).count (turn st l inner) z in
      let later : State = after_turns c (turn st l inner) z in
      let u : ℤ = turn_value (values_of st l) c in
      let size : length later.scalars ≡ length z.scalars = turns-length c (turn st l inner) z (λ x y.
      length-set (settled (set_scalar st l.index (turn_value (values_of st l) x)) inner y).scalars l.index (turn_value (values_of st l) x)
      ∙ settled-length (set_scalar st l.index (turn_value (values_of st l) x)) inner y) in
      get_or-set_other a.scalars l.index k (turn_value (values_of st l) (values_of st l).count) (pos 0) (λ e. h.0 (sym e))
      ∙ ap (λ m. scalar (after_turns m (turn st l inner) z) k) (ap (λ (p : Sequence). p.count) same ∙ some.1)
      ∙ get_or-set_other (settled (set_scalar st l.index u) inner later).scalars l.index k u (pos 0) (λ e. h.0 (sym e))
      ∙ each h.1 c later (size ∙ long)
      ∙ sym (left-past s l ls k v h.0 ∙ ap (λ m. by_trips m v (left s ls k v)) some.1)

  pub block-settles : (ls : List Loop) (free : ℕ → Bool) (block body : Block) → LoopsKeep kinds all free ls block body → AllByRecursion (IsLoop n kinds all) ls → HaveTurns s ls
      → IsIndexOf k ls → (st z : State) → IsNear n kinds all s st → length z.scalars ≡ n → scalar (settled st block z) k ≡ left s ls k v
  block-settles [] free block body h named some is st z near long = absurd is
  block-settles (l ∷ ls) free block body h named some is st z near long =
      let inner : Block = h.1 in
      ap (λ b. scalar (settled st b z) k) h.2
      ∙ loop-settles Unmarked l ls inner st z named.0.0 (near-values n kinds all s st l h.3 near) some long is (λ is x y many.
      block-settles ls (without free l.index) inner body h.5 named.1 some.2 is (set_scalar st l.index (turn_value (values_of st l) x)) y
      (near-set n kinds all s st l.index (turn_value (values_of st l) x) h.3.unseen near) many)
