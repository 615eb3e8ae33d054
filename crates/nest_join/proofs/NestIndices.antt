-- After a nest the index of a loop in it is as the block of any iteration leaves it.
use Rattle.std.proofs.Common.{◌≡◌, ℕ, zero, suc, ◌+◌, ◌*◌, ◌<◌, ◌≤◌, inl, inr, nat_eq, List, [], ◌∷◌, ◌++◌, map, reverse, length, ℤ, pos, Bool, true, false, Some, None, if◌then◌else◌, refl, sym, ap, ◌∙◌, subst, arith, length-set, get_or-set_other, true≢false}
use Rattle.std.specs.Result.{result_unwrap_or}
use Rattle.std.proofs.lemmas.Bool.Decides.{nat_tests}
use Rattle.std.proofs.lemmas.List.{reverse-append, map-append}
use Rattle.std.proofs.Math.Nat.{mul_assoc}
use Rattle.hpf_base.specs.ElementOrder.{product}
use Rattle.nest_order.specs.Turns.{after_turns}
use Rattle.array_meaning.specs.State.{State, scalar, set_scalar}
use Rattle.array_meaning.specs.Statements.{Loop, Block, Do, Mark, Unmarked, Outermost}
use Rattle.array_meaning.specs.Forall.{index_extents, indices_at}
use Rattle.array_meaning.specs.Iterations.{values_of, turn_value, nest_axes, iteration_count, at_iteration}
use Rattle.nest_items.specs.Settled.{settled, settled_by, without}
use Rattle.nest_items.specs.Standing.{IsFixed, IsFixedTerm, EachFixed, TightStands, NestStands}
use Rattle.nest_items.proofs.Values.{control_near}
use Rattle.statement_trail.specs.NestParts.{index_in}
use Rattle.nest_join.specs.NestNames.{NestNames, indices_of}
use Rattle.nest_join.specs.NestTexts.{HoldsEntry}
use Rattle.nest_join.specs.CodedBlocks.{IsCodedBlock}
use Rattle.nest_join.proofs.Names.{in-both-none, with-other}
use Rattle.nest_join.proofs.InnerIndices.{turns-length, settled-length}
use Rattle.nest_join.proofs.IndexSettles.{IsAsEntry, Leaves, Settles, turns-leave, settles}

-- ---- the indices of a nest

front-none : (xs ys : List ℕ) (i k : ℕ) → index_in (xs ++ ys) i k ≡ None → index_in xs i k ≡ None
front-none [] ys i k h = refl
front-none (x ∷ xs) ys i k h = by_test (nat_eq x k) h (front-none xs ys (suc i) k)
  where
    by_test : (t : Bool) → (if t then Some i else index_in (xs ++ ys) (suc i) k) ≡ None → (index_in (xs ++ ys) (suc i) k ≡ None → index_in xs (suc i) k ≡ None)
        → (if t then Some i else index_in xs (suc i) k) ≡ None
    by_test true h g = cc
    by_test false h g = g h

single-none : (x i k : ℕ) → index_in (x ∷ []) i k ≡ None → x ≡ k → ⊥
single-none x i k h e =
    let same : nat_eq x k ≡ true = grind (arith, nat_tests, e) in
    some (sym (ap (λ t. if t then Some i else None) same) ∙ h)
  where
    some : Some i ≡ None → ⊥
    some z = cc

-- a name that is the index of none of these loops
abbrev IsNoIndexOf : ℕ → List Loop → Type 0
IsNoIndexOf k [] = Unit {0}
IsNoIndexOf k (a ∷ ls) = (a.index ≡ k → ⊥) × IsNoIndexOf k ls

no-index-of : (k : ℕ) (ls : List Loop) → index_in (reverse (map (λ a. a.index) ls)) 0 k ≡ None → IsNoIndexOf k ls
no-index-of k [] h = tt
no-index-of k (a ∷ ls) h =
    let xs : List ℕ = reverse (map (λ a. a.index) ls) in
    let e : index_in (xs ++ a.index ∷ []) 0 k ≡ None = subst (λ ys. index_in ys 0 k ≡ None) (reverse-append (a.index ∷ []) (map (λ a. a.index) ls)) h in
    let front = front-none xs (a.index ∷ []) 0 k e in
    (single-none a.index (0 + length xs) k (sym (in-both-none xs (a.index ∷ []) 0 k front) ∙ e), no-index-of k ls front)

-- ---- loops that all have an iteration

abbrev HaveTurns : State → List Loop → Type 0
HaveTurns s [] = Unit {0}
HaveTurns s (a ∷ ls) = ((values_of s a).count ≡ 0 → ⊥) × HaveTurns s ls

product-last : (xs : List ℕ) (c : ℕ) → product (xs ++ c ∷ []) ≡ product xs * c
product-last [] c = omega arith
product-last (x ∷ xs) c = ap (λ z. x * z) (product-last xs c) ∙ sym (mul_assoc x (product xs) c)

-- how many iterations loops have, with one more loop round them
pub iterations-of : (s : State) (a : Loop) (ls : List Loop)
    → product (index_extents (reverse (map (values_of s) (a ∷ ls)))) ≡ product (index_extents (reverse (map (values_of s) ls))) * (values_of s a).count
iterations-of s a ls =
    ap (λ ps. product (index_extents ps)) (reverse-append (values_of s a ∷ []) (map (values_of s) ls))
    ∙ ap product (map-append (λ p. p.count) (reverse (map (values_of s) ls)) (values_of s a ∷ []))
    ∙ product-last (index_extents (reverse (map (values_of s) ls))) (values_of s a).count

have-turns : (s : State) (ls : List Loop) → (product (index_extents (reverse (map (values_of s) ls))) ≡ 0 → ⊥) → HaveTurns s ls
have-turns s [] some = tt
have-turns s (a ∷ ls) some =
    let m : ℕ = product (index_extents (reverse (map (values_of s) ls))) in
    let c : ℕ = (values_of s a).count in
    let e : product (index_extents (reverse (map (values_of s) (a ∷ ls)))) ≡ m * c = iterations-of s a ls in
    let right : m * 0 ≡ 0 = omega arith in
    let left : 0 * c ≡ 0 = omega arith in
    (λ z. some (e ∙ ap (λ q. m * q) z ∙ right), have-turns s ls (λ z. some (e ∙ ap (λ q. q * c) z ∙ left)))

module _ (w : NestNames) (l b0 : ℕ) (entry : List ℤ) (s0 : State) (holds : HoldsEntry w b0 entry s0) (outside : (x : ℕ) → b0 ≤ x → w.is_index x ≡ false) (all : ℕ → Bool)
    (body : Block) (ok : IsCodedBlock w s0 [] body) (k : ℕ) (lt : k < w.count) where
  abbrev n : ℕ
  n = w.count

  abbrev Long : State → Type 0
  Long z = length z.scalars ≡ n

  abbrev AsEntry : State → Type 0
  AsEntry = IsAsEntry w l b0 entry s0 holds outside

  -- ---- an index changes no value of a control

  values-kept : (st : State) (x : ℕ) (v : ℤ) (a : Loop) → all x ≡ true
      → IsFixedTerm w.kinds all a.control.first × IsFixedTerm w.kinds all a.control.last × IsFixedTerm w.kinds all a.control.step
      → values_of (set_scalar st x v) a ≡ values_of st a
  values-kept st x v a is h =
      ap (λ r. result_unwrap_or r (record { first = pos 0; step = pos 1; count = 0 }))
      (control_near (IsFixed w.kinds all) (λ a. ⊥) (set_scalar st x v) st
      (λ j f. get_or-set_other st.scalars x j v (pos 0) (λ e. true≢false (sym is ∙ ap all (sym e) ∙ f.0))) (λ a f. absurd f) a.control h.0 h.1 h.2)

  turns-kept : (st : State) (x : ℕ) (v : ℤ) (ls : List Loop) → all x ≡ true → EachFixed w.kinds all ls → HaveTurns st ls → HaveTurns (set_scalar st x v) ls
  turns-kept st x v [] is fixed h = tt
  turns-kept st x v (a ∷ ls) is fixed h = ((λ e. h.0 (sym (ap (λ q. q.count) (values-kept st x v a is fixed.0)) ∙ e)), turns-kept st x v ls is fixed.1 h.1)

  -- ---- one loop of the nest

  abbrev turn : State → Loop → Block → ℕ → State → State
  turn st a inner y z = set_scalar (settled (set_scalar st a.index (turn_value (values_of st a) y)) inner z) a.index (turn_value (values_of st a) y)

  turn-long : (st : State) (a : Loop) (inner : Block) (y : ℕ) (z : State) → length (turn st a inner y z).scalars ≡ length z.scalars
  turn-long st a inner y z =
      length-set (settled (set_scalar st a.index (turn_value (values_of st a) y)) inner z).scalars a.index (turn_value (values_of st a) y)
      ∙ settled-length w l b0 entry s0 holds outside inner (set_scalar st a.index (turn_value (values_of st a) y)) z

  turn-past : (st : State) (a : Loop) (inner : Block) (y : ℕ) (z : State) → (a.index ≡ k → ⊥)
      → scalar (turn st a inner y z) k ≡ scalar (settled (set_scalar st a.index (turn_value (values_of st a) y)) inner z) k
  turn-past st a inner y z ne =
      get_or-set_other (settled (set_scalar st a.index (turn_value (values_of st a) y)) inner z).scalars a.index k (turn_value (values_of st a) y) (pos 0) (λ e. ne (sym e))

  past : (mark : Mark) (st : State) (a : Loop) (inner : Block) (z : State) → (a.index ≡ k → ⊥)
      → scalar (settled_by st (Do mark a inner) z) k ≡ scalar (after_turns (values_of st a).count (turn st a inner) z) k
  past mark st a inner z ne =
      get_or-set_other (after_turns (values_of st a).count (turn st a inner) z).scalars a.index k (turn_value (values_of st a) (values_of st a).count) (pos 0) (λ e. ne (sym e))

  loop-leaves : (mark : Mark) (st z : State) (a : Loop) (inner : Block) → (a.index ≡ k → ⊥) → Long z
      → ((y : ℕ) (later : State) → y < (values_of st a).count → Long later → scalar (settled (set_scalar st a.index (turn_value (values_of st a) y)) inner later) k ≡ scalar later k)
      → scalar (settled_by st (Do mark a inner) z) k ≡ scalar z k
  loop-leaves mark st z a inner ne many each = past mark st a inner z ne
      ∙ (turns-leave w l b0 entry s0 holds outside k lt (values_of st a).count (turn st a inner) z many
      (λ y later below long. (turn-long st a inner y later ∙ long, turn-past st a inner y later ne ∙ each y later below long))).1

  loop-sets : (v : ℤ) (mark : Mark) (st z : State) (a : Loop) (inner : Block) → (a.index ≡ k → ⊥) → Long z → ((values_of st a).count ≡ 0 → ⊥)
      → ((y : ℕ) (later : State) → y < (values_of st a).count → Long later → scalar (settled (set_scalar st a.index (turn_value (values_of st a) y)) inner later) k ≡ v)
      → scalar (settled_by st (Do mark a inner) z) k ≡ v
  loop-sets v mark st z a inner ne many some each = past mark st a inner z ne ∙ by_count (values_of st a).count refl
    where
      by_count : (c : ℕ) → (values_of st a).count ≡ c → scalar (after_turns (values_of st a).count (turn st a inner) z) k ≡ v
      by_count zero e = absurd (some e)
      by_count (suc c) e =
          let later : State = after_turns c (turn st a inner) z in
          ap (λ q. scalar (after_turns q (turn st a inner) z) k) e ∙ turn-past st a inner c later ne
          ∙ each c later (omega (arith, e)) (turns-length w l b0 entry s0 holds outside c (turn st a inner) z (turn-long st a inner) ∙ many)

  -- ---- all loops

  -- a name that is no index of the nest is the index of none of these loops
  abbrev AreOfNest : List Loop → Type 0
  AreOfNest ls = (j : ℕ) → index_in (indices_of w) 0 j ≡ None → IsNoIndexOf j ls

  as-nest : (st : State) (a : Loop) (ls : List Loop) (v : ℤ) → AreOfNest (a ∷ ls) → AsEntry st → AsEntry (set_scalar st a.index v)
  as-nest st a ls v of_nest as_entry j below no_index off =
      get_or-set_other st.scalars a.index j v (pos 0) (λ e. (of_nest j off).0 (sym e)) ∙ as_entry j below no_index off

  tight-leaves : Leaves w l b0 entry s0 holds outside k lt (λ st z. settled st body z) → (ls : List Loop) (free : ℕ → Bool) (st z : State) (block : Block)
      → TightStands w.kinds all free st ls block body → AreOfNest ls → IsNoIndexOf k ls → AsEntry st → Long z → scalar (settled st block z) k ≡ scalar z k
  tight-leaves leaves [] free st z block h of_nest no_index as_entry many = ap (λ b. scalar (settled st b z) k) h.0 ∙ leaves st z as_entry many
  tight-leaves leaves (a ∷ ls) free st z block h of_nest no_index as_entry many =
      ap (λ b. scalar (settled st b z) k) h.2
      ∙ loop-leaves Unmarked st z a h.1 no_index.0 many (λ y later below long.
      tight-leaves leaves ls (without free a.index) (set_scalar st a.index (turn_value (values_of st a) y)) later h.1 (h.5 y below) (λ j off. (of_nest j off).1) no_index.1
      (as-nest st a ls (turn_value (values_of st a) y) of_nest as_entry) long)

  tight-sets : (v : ℤ) → ((st z : State) → AsEntry st → Long z → scalar (settled st body z) k ≡ v) → (ls : List Loop) (free : ℕ → Bool) (st z : State) (block : Block)
      → TightStands w.kinds all free st ls block body → EachFixed w.kinds all ls → HaveTurns st ls → AreOfNest ls → IsNoIndexOf k ls → AsEntry st → Long z
      → scalar (settled st block z) k ≡ v
  tight-sets v sets [] free st z block h fixed some of_nest no_index as_entry many = ap (λ b. scalar (settled st b z) k) h.0 ∙ sets st z as_entry many
  tight-sets v sets (a ∷ ls) free st z block h fixed some of_nest no_index as_entry many =
      ap (λ b. scalar (settled st b z) k) h.2
      ∙ loop-sets v Unmarked st z a h.1 no_index.0 many some.0 (λ y later below long.
      tight-sets v sets ls (without free a.index) (set_scalar st a.index (turn_value (values_of st a) y)) later h.1 (h.5 y below) fixed.1
      (turns-kept st a.index (turn_value (values_of st a) y) ls h.3.unseen fixed.1 some.1) (λ j off. (of_nest j off).1) no_index.1
      (as-nest st a ls (turn_value (values_of st a) y) of_nest as_entry) long)

  pub nest-settles : (loop : Loop) (block : Block) → NestStands w.kinds all s0 w.nest loop block body → (iteration_count w.nest s0 ≡ 0 → ⊥) → index_in (indices_of w) 0 k ≡ None
      → (i : ℕ) → scalar (settled_by s0 (Do (Outermost w.nest body) loop block) s0) k ≡ scalar (settled (at_iteration w.nest s0 i) body s0) k
  nest-settles loop block h some off i = by_block (settles w l b0 entry s0 holds outside k lt [] body ok)
    where
      at : State
      at = at_iteration w.nest s0 i

      as-at : AsEntry at
      as-at j below no_index out = with-other (indices_of w) (indices_at (nest_axes s0 w.nest) i) s0 0 j out

      of-nest : AreOfNest (loop ∷ h.inner)
      of-nest j out = subst (IsNoIndexOf j) h.loops (no-index-of j w.nest.loops out)

      turns : HaveTurns s0 (loop ∷ h.inner)
      turns = subst (HaveTurns s0) h.loops (have-turns s0 w.nest.loops some)

      by_block : Settles w l b0 entry s0 holds outside k lt (λ st z. settled st body z)
          → scalar (settled_by s0 (Do (Outermost w.nest body) loop block) s0) k ≡ scalar (settled at body s0) k
      by_block (inl leaves) =
          loop-leaves (Outermost w.nest body) s0 s0 loop block (of-nest k off).0 holds.scalars (λ y later below long.
          tight-leaves leaves h.inner (without all loop.index) (set_scalar s0 loop.index (turn_value (values_of s0 loop) y)) later block (h.tight y below)
          (λ j out. (of-nest j out).1) (of-nest k off).1 (as-nest s0 loop h.inner (turn_value (values_of s0 loop) y) of-nest (λ j below no_index out. refl)) long)
          ∙ sym (leaves at s0 as-at holds.scalars)
      by_block (inr (v, sets)) =
          loop-sets v (Outermost w.nest body) s0 s0 loop block (of-nest k off).0 holds.scalars turns.0 (λ y later below long.
          tight-sets v sets h.inner (without all loop.index) (set_scalar s0 loop.index (turn_value (values_of s0 loop) y)) later block (h.tight y below) h.same
          (turns-kept s0 loop.index (turn_value (values_of s0 loop) y) h.inner h.unseen h.same turns.1)
          (λ j out. (of-nest j out).1) (of-nest k off).1 (as-nest s0 loop h.inner (turn_value (values_of s0 loop) y) of-nest (λ j below no_index out. refl)) long)
          ∙ sym (sets at s0 as-at holds.scalars)
