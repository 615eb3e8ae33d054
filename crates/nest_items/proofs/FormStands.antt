-- What keeps the rules by its form stands in each state whose scalars are numbers of 64 bits.
use Rattle.std.proofs.Common.{◌≡◌, ℕ, List, [], ◌∷◌, Bool, true, false, true≢false, if◌then◌else◌, Option, Some, None, Result, Ok, refl, ap, ap₂, sym, ◌∙◌, subst, ℤ, pos, neg_ℤ, ◌+ℤ◌, ◌-ℤ◌, ◌*ℤ◌, FitsSigned, w64}
use Rattle.std.specs.List.{AllByRecursion}
use Rattle.std.specs.Result.{result_unwrap_or}
use Rattle.std.specs.Prelude.{option_and_then}
use Rattle.std.proofs.lemmas.Int.{SFits-int_wrap, int_wrap_fits}
use Rattle.op_tables.specs.declared.op.Op.{Op}
use Rattle.op_tables.specs.declared.op.Op.TheVariants as op
use Rattle.op_tables.specs.Operators.{wrapped, operator_value, value_of, is_zero}
use Rattle.nest_syntax.specs.NestKinds.{Kind}
use Rattle.nest_syntax.specs.LinearOperators.{is_linear_operator}
use Rattle.array_meaning.specs.Terms.{Term, Number, Scalar, Index, Element, Section, Apply, Reduce, Terms, NoTerm, More}
use Rattle.array_meaning.specs.Statements.{Loop, Nest, Block, Done, Then, Statement, AssignScalar, AssignElement, AssignSection, Transform, If, Do, Where, Forall, Print, Stop, Exit, Cycle, Continue, Redistribute, Mark, Unmarked, Arms, NoArm, Arm}
use Rattle.array_meaning.specs.Faults.{Cause, ◌>>=◌, fails, with_more}
use Rattle.array_meaning.specs.declared.faults.FaultKind.TheVariants.{ZeroStride}
use Rattle.array_meaning.specs.State.{State, scalar, set_scalar}
use Rattle.array_meaning.specs.declared.sections.Sequence.{Sequence}
use Rattle.array_meaning.specs.Sections.{sequence, sequence_of, value_count}
use Rattle.array_meaning.specs.Expressions.{value, values, index_values}
use Rattle.array_meaning.specs.Elementals.{operated, unless_zero}
use Rattle.array_meaning.specs.Iterations.{values_of, turn_value, nest_axes, nest_indices, at_iteration}
use Rattle.nest_items.proofs.IndexFits.{zero_fits, set_fits, indices_fit}
use Rattle.nest_items.specs.Settled.{without}
use Rattle.nest_items.specs.Standing.{IsInner, EachFixed, BlockStands, StatementStands, ArmsStand, TightStands, NestStands}
use Rattle.nest_items.specs.NestForm.{IsExact, AreExact, IsKeptLoop, BlockKeeps, StatementKeeps, ArmsKeep, LoopsKeep, IsNest}
use Rattle.nest_syntax.specs.ClosedTerms.{with_closed, closed_value, closed_values}

-- ---- exact expressions

one_fits : (o : Op) (a : ℤ) → is_linear_operator o ≡ true → FitsSigned w64 a → FitsSigned w64 (value_of o (a ∷ []))
one_fits op.Neg a h f = SFits-int_wrap w64 (neg_ℤ a)
one_fits op.Plus a h f = f
one_fits op.Add a h f = zero_fits
one_fits op.Sub a h f = zero_fits
one_fits op.Mul a h f = zero_fits
one_fits o a h f = absurd (true≢false (sym h))

two_fit : (o : Op) (a b : ℤ) → is_linear_operator o ≡ true → FitsSigned w64 (value_of o (a ∷ b ∷ []))
two_fit op.Neg a b h = zero_fits
two_fit op.Plus a b h = zero_fits
two_fit op.Add a b h = SFits-int_wrap w64 (a +ℤ b)
two_fit op.Sub a b h = SFits-int_wrap w64 (a -ℤ b)
two_fit op.Mul a b h = SFits-int_wrap w64 (a *ℤ b)
two_fit o a b h = absurd (true≢false (sym h))

none_fits : (o : Op) → is_linear_operator o ≡ true → FitsSigned w64 (value_of o [])
none_fits op.Neg h = zero_fits
none_fits op.Plus h = zero_fits
none_fits op.Add h = zero_fits
none_fits op.Sub h = zero_fits
none_fits op.Mul h = zero_fits
none_fits o h = absurd (true≢false (sym h))

many_fit : (o : Op) (a b c : ℤ) (vs : List ℤ) → is_linear_operator o ≡ true → FitsSigned w64 (value_of o (a ∷ b ∷ c ∷ vs))
many_fit op.Neg a b c vs h = zero_fits
many_fit op.Plus a b c vs h = zero_fits
many_fit op.Add a b c vs h = zero_fits
many_fit op.Sub a b c vs h = zero_fits
many_fit op.Mul a b c vs h = zero_fits
many_fit o a b c vs h = absurd (true≢false (sym h))

operator_fits : (o : Op) (vs : List ℤ) → is_linear_operator o ≡ true → AllByRecursion (FitsSigned w64) vs → FitsSigned w64 (value_of o vs)
operator_fits o [] h f = none_fits o h
operator_fits o (a ∷ []) h f = one_fits o a h f.0
operator_fits o (a ∷ b ∷ []) h f = two_fit o a b h
operator_fits o (a ∷ b ∷ c ∷ vs) h f = many_fit o a b c vs h

pub operator_is : (o : Op) (vs : List ℤ) → is_linear_operator o ≡ true → operated o vs ≡ Ok (value_of o vs)
operator_is op.Neg vs h = refl
operator_is op.Plus vs h = refl
operator_is op.Add vs h = refl
operator_is op.Sub vs h = refl
operator_is op.Mul vs h = refl
operator_is o vs h = absurd (true≢false (sym h))

abbrev HasValue : State → Term → Type 0
HasValue s t = (v : ℤ) × (value [] s t ≡ Ok v) × FitsSigned w64 v

module _ (s : State) (fit : (k : ℕ) → FitsSigned w64 (scalar s k)) where
  mutual
    exact_value : (t : Term) → IsExact t → HasValue s t
    exact_value (Number v) h = (v, refl, h)
    exact_value (Scalar k) h = (scalar s k, refl, fit k)
    exact_value (Apply o ts) h =
        let m = exact_values ts h.1 in
        (value_of o m.0, ap (λ r. r >>= operated o) m.1 ∙ operator_is o m.0 h.0, operator_fits o m.0 h.0 m.2)
    exact_value (Index k) h = absurd h
    exact_value (Element a ts) h = absurd h
    exact_value (Section a subs) h = absurd h
    exact_value (Reduce o t) h = absurd h

    exact_values : (ts : Terms) → AreExact ts → (vs : List ℤ) × (values [] s ts ≡ Ok vs) × AllByRecursion (FitsSigned w64) vs
    exact_values NoTerm h = ([], refl, tt)
    exact_values (More t ts) h =
        let m = exact_value t h.0 in
        let ms = exact_values ts h.1 in
        (m.0 ∷ ms.0, ap₂ with_more m.1 ms.1, (m.2, ms.2))

-- ---- constants

closed_more : (a : Option ℤ) (b : Option (List ℤ)) (vs : List ℤ) → with_closed a b ≡ Some vs → (v : ℤ) × (ws : List ℤ) × (a ≡ Some v) × (b ≡ Some ws) × (v ∷ ws ≡ vs)
closed_more (Some v) (Some ws) vs h = let same : v ∷ ws ≡ vs = cc in (v, ws, refl, refl, same)
closed_more (Some v) None vs h = absurd cc
closed_more None b vs h = absurd cc

applied_closed : (o : Op) (a : Option (List ℤ)) (v : ℤ) → option_and_then (operator_value o) a ≡ Some v → (vs : List ℤ) × (a ≡ Some vs) × (operator_value o vs ≡ Some v)
applied_closed o (Some vs) v h = (vs, refl, h)
applied_closed o None v h = absurd cc

mutual
  pub closed_is : (s : State) (t : Term) (v : ℤ) → closed_value t ≡ Some v → value [] s t ≡ Ok v
  closed_is s (Number w) v h = let same : w ≡ v = cc in ap Ok same
  closed_is s (Apply o ts) v h =
      let m = applied_closed o (closed_values ts) v h in
      ap (λ r. r >>= operated o) (closed_are s ts m.0 m.1) ∙ ap unless_zero m.2
  closed_is s (Scalar k) v h = absurd cc
  closed_is s (Index k) v h = absurd cc
  closed_is s (Element a ts) v h = absurd cc
  closed_is s (Section a subs) v h = absurd cc
  closed_is s (Reduce o t) v h = absurd cc

  closed_are : (s : State) (ts : Terms) (vs : List ℤ) → closed_values ts ≡ Some vs → values [] s ts ≡ Ok vs
  closed_are s NoTerm vs h = let same : [] ≡ vs = cc in ap Ok same
  closed_are s (More t ts) vs h =
      let m = closed_more (closed_value t) (closed_values ts) vs h in
      ap₂ with_more (closed_is s t m.0 m.2) (closed_are s ts m.1 m.3) ∙ ap Ok m.4

-- ---- loops

pub sequence_is : (a b c : ℤ) → is_zero c ≡ false → sequence a b c ≡ Ok record { first = a; step = c; count = value_count (wrapped a) (wrapped b) (wrapped c) }
sequence_is a b c h = ap (λ z. if z then fails ZeroStride else Ok record { first = a; step = c; count = value_count (wrapped a) (wrapped b) (wrapped c) }) h

pub three : (x y z : Result ℤ Cause) (a b c : ℤ) → x ≡ Ok a → y ≡ Ok b → z ≡ Ok c → sequence_of x y z ≡ sequence a b c
three x y z a b c e f g = λ i. sequence_of (e i) (f i) (g i)

module _ (kinds : ℕ → Kind) where
  inner_stands : (free : ℕ → Bool) (s : State) (mark : Mark) (loop : Loop) → ((k : ℕ) → FitsSigned w64 (scalar s k)) → IsKeptLoop kinds free mark loop → IsInner kinds free s mark loop
  inner_stands free s mark loop fit h =
      let a = exact_value s fit loop.control.first h.first_exact in
      let b = exact_value s fit loop.control.last h.last_exact in
      let c = h.step_exact in
      let q : Sequence = record { first = a.0; step = c.number; count = value_count (wrapped a.0) (wrapped b.0) (wrapped c.number) } in
      let is : index_values s loop.control ≡ Ok q =
      three (value [] s loop.control.first) (value [] s loop.control.last) (value [] s loop.control.step) a.0 b.0 c.number a.1 b.1 (closed_is s loop.control.step c.number c.is)
      ∙ sequence_is a.0 b.0 c.number c.nonzero in
      let values_are : values_of s loop ≡ q = ap (λ r. result_unwrap_or r record { first = pos 0; step = pos 1; count = 0 }) is in
      record {
        unmarked = h.unmarked;
        index = h.index;
        unseen = h.unseen;
        first = h.first;
        last = h.last;
        step = h.step;
        known = is ∙ ap Ok (sym values_are);
        fits = subst (λ p. wrapped p.first ≡ p.first) (sym values_are) (int_wrap_fits w64 a.0 a.2);
      }

  mutual
    pub block_stands : (free : ℕ → Bool) (s : State) (b : Block) → ((k : ℕ) → FitsSigned w64 (scalar s k)) → BlockKeeps kinds free b → BlockStands kinds free s b
    block_stands free s Done fit h = tt
    block_stands free s (Then line statement rest) fit h = (statement_stands free s statement fit h.0, block_stands free s rest fit h.1)

    statement_stands : (free : ℕ → Bool) (s : State) (x : Statement) → ((k : ℕ) → FitsSigned w64 (scalar s k)) → StatementKeeps kinds free x → StatementStands kinds free s x
    statement_stands free s (AssignScalar k t) fit h = h
    statement_stands free s (AssignElement a ts t) fit h = h
    statement_stands free s (If arms other) fit h = (arms_stand free s arms fit h.0, block_stands free s other fit h.1, h.2)
    statement_stands free s (Do mark loop body) fit h = (
      inner_stands free s mark loop fit h.0,
      λ x lt. block_stands (without free loop.index) (set_scalar s loop.index (turn_value (values_of s loop) x)) body (set_fits s loop.index (values_of s loop) x fit) h.1,
    )
    statement_stands free s Continue fit h = tt
    statement_stands free s (AssignSection a subs t) fit h = absurd h
    statement_stands free s (Transform x y how) fit h = absurd h
    statement_stands free s (Where mask body others) fit h = absurd h
    statement_stands free s (Forall controls mask body) fit h = absurd h
    statement_stands free s (Print xs) fit h = absurd h
    statement_stands free s Stop fit h = absurd h
    statement_stands free s Exit fit h = absurd h
    statement_stands free s Cycle fit h = absurd h
    statement_stands free s Redistribute fit h = absurd h

    arms_stand : (free : ℕ → Bool) (s : State) (arms : Arms) → ((k : ℕ) → FitsSigned w64 (scalar s k)) → ArmsKeep kinds free arms → ArmsStand kinds free s arms
    arms_stand free s NoArm fit h = tt
    arms_stand free s (Arm line t body arms) fit h = (h.0, block_stands free s body fit h.1, arms_stand free s arms fit h.2)

  tight_stands : (all free : ℕ → Bool) (s : State) (ls : List Loop) (block body : Block) → ((k : ℕ) → FitsSigned w64 (scalar s k)) → LoopsKeep kinds all free ls block body
      → TightStands kinds all free s ls block body
  tight_stands all free s [] block body fit h = (h.0, block_stands free s body fit h.1)
  tight_stands all free s (l ∷ ls) block body fit h = (
    h.0,
    h.1,
    h.2,
    inner_stands all s Unmarked l fit h.3,
    h.4,
    λ x lt. tight_stands all (without free l.index) (set_scalar s l.index (turn_value (values_of s l) x)) ls h.1 body (set_fits s l.index (values_of s l) x fit) h.5,
  )

  all_fixed : (all free : ℕ → Bool) (ls : List Loop) (block body : Block) → LoopsKeep kinds all free ls block body → EachFixed kinds all ls
  all_fixed all free [] block body h = tt
  all_fixed all free (l ∷ ls) block body h = ((h.3.first, h.3.last, h.3.step), all_fixed all (without free l.index) ls h.1 body h.5)

  -- without the indices of these loops
  abbrev pub innermost : (ℕ → Bool) → List Loop → ℕ → Bool
  innermost free [] = free
  innermost free (l ∷ ls) = innermost (without free l.index) ls

  pub inmost : (all free : ℕ → Bool) (ls : List Loop) (block body : Block) → LoopsKeep kinds all free ls block body → BlockKeeps kinds (innermost free ls) body
  inmost all free [] block body h = h.1
  inmost all free (l ∷ ls) block body h = inmost all (without free l.index) ls h.1 body h.5

  pub nest_stands : (all : ℕ → Bool) (nest : Nest) (loop : Loop) (block body : Block) → IsNest kinds all nest loop block body → (s : State)
      → ((k : ℕ) → FitsSigned w64 (scalar s k)) → index_values s loop.control ≡ Ok (values_of s loop) → wrapped (values_of s loop).first ≡ (values_of s loop).first
      → NestStands kinds all s nest loop block body
  nest_stands all nest loop block body h s fit known fits = record {
    inner = h.inner;
    loops = h.loops;
    index = h.index;
    unseen = h.unseen;
    quiet = h.quiet;
    known = known;
    fits = fits;
    tight = λ x lt. tight_stands all (without all loop.index) (set_scalar s loop.index (turn_value (values_of s loop) x)) h.inner block body
        (set_fits s loop.index (values_of s loop) x fit) h.tight;
    same = all_fixed all (without all loop.index) h.inner block body h.tight;
    inside = innermost (without all loop.index) h.inner;
    each = λ i lt. block_stands (innermost (without all loop.index) h.inner) (at_iteration nest s i) body
        (indices_fit (nest_indices nest) (nest_axes s nest) i s fit) (inmost all (without all loop.index) h.inner block body h.tight);
  }
