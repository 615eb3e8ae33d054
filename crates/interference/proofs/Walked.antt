-- Walks, step by step.
use Rattle.std.proofs.Common.{◌≡◌, ℕ, zero, suc, ◌+◌, List, [], ◌∷◌, ◌++◌, length, ℤ, pos, ◌+ℤ◌, ◌-ℤ◌, ◌*ℤ◌, w64, Bool, true, false, Option, Some, None, Vec, Global, refl, ap, sym, ◌∙◌, subst, arith, add-one}
use Rattle.std.proofs.Math.IntN.{+ℤ_idl, suc_ℤ-*ℤ, zero-*ℤ}
use Rattle.std.proofs.lemmas.Int.{ints, int_wrap-add_left}
use Rattle.std.proofs.lemmas.List.Sums.{fold-append}
use Rattle.hpf_base.proofs.Integers.{sum-*ℤ}
use Rattle.op_tables.specs.Operators.{wrapped}
use Rattle.op_tables.specs.declared.op.Op.{Op}
use Rattle.term_values.specs.Parts.{variable_place}
use Rattle.resolved_program.specs.declared.terms.Term.{Term as HeldTerm}
use Rattle.resolved_program.specs.declared.terms.Term.TheVariants as held
use Rattle.resolved_program.specs.declared.statements.Action.{Action}
use Rattle.resolved_program.specs.declared.statements.Action.TheVariants as action
use Rattle.resolved_program.specs.declared.statements.Arm.{Arm, out-Arm}
use Rattle.resolved_program.specs.declared.statements.Loop.{Loop as HeldLoop}
use Rattle.resolved_program.specs.declared.statements.Nest.{Nest as HeldNest}
use Rattle.resolved_program.specs.declared.statements.Statement.{Statement as HeldStatement}
use Rattle.resolved_program.specs.Resolved.{arms_of, block_of, loop_of, statement, term, terms_of, with_arm}
use Rattle.resolved_program.proofs.Rows.{apply_vec, arm_parts, do_vec, element_vec, if_vec}
use Rattle.array_meaning.specs.Statements.{Block, Arms, Loop, Do, Unmarked}
use Rattle.array_meaning.specs.State.{State, scalar, set_scalar}
use Rattle.array_meaning.specs.declared.sections.Sequence.{Sequence}
use Rattle.array_meaning.specs.Sections.{nth}
use Rattle.array_meaning.specs.Iterations.{in_turns, turn_value, values_of}
use Rattle.array_meaning.specs.Touches.{Touch, counted, element_touch, known_truth, reads, touches, touches_in_arms}
use Rattle.visited_objects.specs.Visits.{touched}
use Rattle.interference.specs.Walks.{Walk, all_read, hidden, inside, noted, outside, read, turned, walked, walked_arms, walked_in, AreWalkedArms, IsWalkedArm}
use Rattle.interference.proofs.SetBack.{set_again, set_back_one}

-- touches one after the other
pub noted_both : (w : Walk) (xs ys : List Touch) → noted (noted w xs) ys ≡ noted w (xs ++ ys)
noted_both w xs ys = ap (λ visits. record w { visits = visits }) (sym (fold-append (touched w.iteration) w.visits xs ys))

-- ---- expressions

pub element_read : (w : Walk) (s : State) (t : HeldTerm) (a : ℕ) (ts : Vec HeldTerm Global) → t ≡ held.Element a ts →
    noted w (element_touch false a (variable_place [] s a (terms_of ts.items))) ≡ read w s (term t)
element_read w s t a ts is = sym (ap (λ t. read w s (term t)) is ∙ ap (λ t. read w s t) (element_vec a ts))

pub operands_read : (w : Walk) (s : State) (t : HeldTerm) (o : Op) (ts : Vec HeldTerm Global) → t ≡ held.Apply o ts → all_read w s (terms_of ts.items) ≡ read w s (term t)
operands_read w s t o ts is = sym (ap (λ t. read w s (term t)) is ∙ ap (λ t. read w s t) (apply_vec o ts))

-- ---- IF

-- an arm, once its condition was read
module _ (w w' : Walk) (s : State) (a : Arm) (is : w' ≡ read w s (term (out-Arm a).condition)) where
  counts : (k : Option Bool) → k ≡ known_truth w'.assigned s (term (out-Arm a).condition) → (rest : Arms) (other : List Touch) →
      walked_arms w s (with_arm a rest) other ≡ noted w' (counted k (touches w'.assigned (hidden w') s (block_of (out-Arm a).body.items)) (touches_in_arms w'.assigned (hidden w') s rest other))
  counts k known rest other =
      ap (λ arms. walked_arms w s arms other) (arm_parts a rest)
      ∙ sym (noted_both w (reads (hidden w) s (term (out-Arm a).condition)) (counted (known_truth w.assigned s (term (out-Arm a).condition)) (touches w.assigned (hidden w) s (block_of (out-Arm a).body.items)) (touches_in_arms w.assigned (hidden w) s rest other)))
      ∙ sym (ap (λ w. noted w (counted (known_truth w.assigned s (term (out-Arm a).condition)) (touches w.assigned (hidden w) s (block_of (out-Arm a).body.items)) (touches_in_arms w.assigned (hidden w) s rest other))) is)
      ∙ sym (ap (λ k. noted w' (counted k (touches w'.assigned (hidden w') s (block_of (out-Arm a).body.items)) (touches_in_arms w'.assigned (hidden w') s rest other))) known)

  -- a condition that is false, one that is true, and one that isn't known
  pub arm_false : Some false ≡ known_truth w'.assigned s (term (out-Arm a).condition) → IsWalkedArm w s a w' true
  arm_false known rest other = counts (Some false) known rest other

  pub arm_true : (w'' : Walk) → Some true ≡ known_truth w'.assigned s (term (out-Arm a).condition) → w'' ≡ walked w' s (block_of (out-Arm a).body.items) → IsWalkedArm w s a w'' false
  arm_true w'' known body rest other = counts (Some true) known rest other ∙ sym body

  pub arm_unknown : (w'' : Walk) → None ≡ known_truth w'.assigned s (term (out-Arm a).condition) → w'' ≡ walked w' s (block_of (out-Arm a).body.items) → IsWalkedArm w s a w'' true
  arm_unknown w'' known body rest other = counts None known rest other ∙ sym (noted_both w' (touches w'.assigned (hidden w') s (block_of (out-Arm a).body.items)) (touches_in_arms w'.assigned (hidden w') s rest other)) ∙ sym (ap (λ w. walked_arms w s rest other) body)

-- all arms, and the block of ELSE where it counts
module _ (w w' : Walk) (s s' : State) (a : Action) (as' : Vec Arm Global) (other : Vec HeldStatement Global) (is : a ≡ action.If as' other) where
  whole : walked_in w s (statement a) ≡ walked_arms w s (arms_of as'.items) (touches w.assigned (hidden w) s (block_of other.items))
  whole = ap (λ a. walked_in w s (statement a)) is ∙ ap (λ x. walked_in w s x) (if_vec as' other)

  pub else_walked : (goes_on : Bool) → AreWalkedArms w s (arms_of as'.items) w' goes_on → goes_on ≡ true → s' ≡ s → walked w' s' (block_of other.items) ≡ walked_in w s (statement a)
  else_walked goes_on arms on same =
      let counts : AreWalkedArms w s (arms_of as'.items) w' true = subst (AreWalkedArms w s (arms_of as'.items) w') on arms in
      ap (λ s. walked w' s (block_of other.items)) same
      ∙ sym (ap (λ v. noted w' (touches v.assigned (hidden v) s (block_of other.items))) (counts []))
      ∙ sym (counts (touches w.assigned (hidden w) s (block_of other.items)))
      ∙ sym whole

  pub no_else_walked : (goes_on : Bool) → AreWalkedArms w s (arms_of as'.items) w' goes_on → goes_on ≡ false → w' ≡ walked_in w s (statement a)
  no_else_walked goes_on arms off =
      let done : AreWalkedArms w s (arms_of as'.items) w' false = subst (AreWalkedArms w s (arms_of as'.items) w') off arms in
      sym (whole ∙ done (touches w.assigned (hidden w) s (block_of other.items)))

-- ---- DO

pub do_walked : (w : Walk) (s : State) (a : Action) (nest : Option HeldNest) (l : HeldLoop) (body : Vec HeldStatement Global) → a ≡ action.Do nest l body →
    walked_in w s (Do Unmarked (loop_of l) (block_of body.items)) ≡ walked_in w s (statement a)
do_walked w s a nest l body is = sym (ap (λ a. walked_in w s (statement a)) is ∙ ap (λ x. walked_in w s x) (do_vec nest l body))

-- a loop whose body has no statements
none_in_turns : (n : ℕ) → in_turns {A = Touch} n (λ x. []) ≡ []
none_in_turns zero = refl
none_in_turns (suc n) = ap (λ ts. ts ++ []) (none_in_turns n)

pub empty_walked : (w : Walk) (s : State) (l : Loop) (body : List HeldStatement) → length body ≡ 0 → w ≡ walked_in w s (Do Unmarked l (block_of body))
empty_walked w s l [] none = sym (ap (noted w) (none_in_turns (values_of s l).count))
empty_walked w s l (x ∷ body) none = absurd (omega (arith, none))

-- all turns, between going inside and going outside
pub loop_walked : (w w' w'' v : Walk) (s : State) (l : Loop) (p : Sequence) (body : Block) → w' ≡ inside l.index w → p ≡ values_of s l →
    w'' ≡ turned w' s l.index p body p.count → v ≡ outside w'' → v ≡ walked_in w s (Do Unmarked l body)
loop_walked w w' w'' v s l p body in_is values is out_is =
    out_is
    ∙ ap outside (is ∙ ap (λ w. turned w s l.index p body p.count) in_is ∙ ap (λ p. turned (inside l.index w) s l.index p body p.count) values)

-- the next turn
pub turn_next : (w₀ w w' : Walk) (s₀ s s' : State) (index : ℕ) (p : Sequence) (body : Block) (k : ℕ) (at : ℤ) → at ≡ turn_value p k →
    ((v : ℤ) → set_scalar s index v ≡ set_scalar s₀ index v) → s' ≡ set_scalar s index at → w' ≡ walked w s' body → w ≡ turned w₀ s₀ index p body k →
    w' ≡ turned w₀ s₀ index p body (k + 1)
turn_next w₀ w w' s₀ s s' index p body k at at_is same set is so_far =
    is
    ∙ ap (λ s. walked w s body) (set ∙ ap (set_scalar s index) at_is ∙ same (turn_value p k))
    ∙ ap (λ w. walked w (set_scalar s₀ index (turn_value p k)) body) so_far
    ∙ noted_both w₀ (in_turns k (λ x. touches w₀.assigned (hidden w₀) (set_scalar s₀ index (turn_value p x)) body)) (touches w₀.assigned (hidden w₀) (set_scalar s₀ index (turn_value p k)) body)
    ∙ ap (turned w₀ s₀ index p body) (sym (add-one k))

-- the state after a turn
pub still_same : (s₀ s s' s'' : State) (index : ℕ) (at : ℤ) → ((v : ℤ) → set_scalar s index v ≡ set_scalar s₀ index v) → s' ≡ set_scalar s index at → s'' ≡ s' →
    (v : ℤ) → set_scalar s'' index v ≡ set_scalar s₀ index v
still_same s₀ s s' s'' index at same set unchanged v = ap (λ s. set_scalar s index v) (unchanged ∙ set) ∙ set_again s index at v ∙ same v

-- the index as it was before the loop
pub set_back_after : (s₀ s s' : State) (index : ℕ) (v : ℤ) → ((v : ℤ) → set_scalar s index v ≡ set_scalar s₀ index v) → v ≡ scalar s₀ index → s' ≡ set_scalar s index v → s' ≡ s₀
set_back_after s₀ s s' index v same value set =
    set ∙ same v ∙ ap (set_scalar s₀ index) value ∙ sym (set_again s₀ index (pos 0) (scalar s₀ index)) ∙ set_back_one s₀ index (pos 0)

-- the value of the index in the next turn
pub value_next : (p : Sequence) (k : ℕ) (at next : ℤ) → at ≡ turn_value p k → next ≡ wrapped (at +ℤ p.step) → next ≡ turn_value p (k + 1)
value_next p k at next at_is is =
    is
    ∙ ap (λ v. wrapped (v +ℤ p.step)) at_is
    ∙ int_wrap-add_left w64 (nth p (pos (suc k))) p.step
    ∙ ap wrapped (more p.first p.step (pos (suc k)) (pos (suc (k + 1))) (omega (arith, ints)))
  where
    more : (first step x y : ℤ) → y ≡ x +ℤ pos 1 → (first +ℤ (x -ℤ pos 1) *ℤ step) +ℤ step ≡ first +ℤ (y -ℤ pos 1) *ℤ step
    more first step x y e =
        let whole : ((x -ℤ pos 1) +ℤ pos 1) *ℤ step ≡ ((x -ℤ pos 1) *ℤ step) +ℤ (pos 1 *ℤ step) = sum-*ℤ (x -ℤ pos 1) (pos 1) step in
        let one : pos 1 *ℤ step ≡ step = suc_ℤ-*ℤ (pos 0) step ∙ ap (λ z. z +ℤ step) (zero-*ℤ step) ∙ +ℤ_idl step in
        let same : (x -ℤ pos 1) +ℤ pos 1 ≡ y -ℤ pos 1 = omega (arith, ints) in
        let turned : (y -ℤ pos 1) *ℤ step ≡ ((x -ℤ pos 1) +ℤ pos 1) *ℤ step = ap (λ z. z *ℤ step) (sym same) in
        omega (arith, ints, whole, one, turned)
