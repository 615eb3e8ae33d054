-- The innermost block of a nest by its form is one that has code.
use Rattle.std.proofs.Common.{◌≡◌, ℕ, ◌<◌, nat_eq, nat_lt, arith, if◌then◌else◌, inl, inr, List, [], ◌∷◌, Bool, true, false, true≢false, not, Option, Some, None, FitsSigned, w64, refl, sym, ap, ap₂, ◌∙◌, subst}
use Rattle.std.specs.Prelude.{◌&&◌}
use Rattle.nest_syntax.specs.NestKinds.{Kind, has_copies}
use Rattle.array_meaning.specs.Terms.{Term, Number, Scalar, Index, Element, Section, Apply, Reduce, Terms, NoTerm, More}
use Rattle.array_meaning.specs.State.{State, scalar}
use Rattle.array_meaning.specs.Statements.{Loop, Nest, Block, Done, Then, Statement, AssignScalar, AssignElement, AssignSection, Transform, If, Do, Where, Forall, Print, Stop, Exit, Cycle, Continue, Redistribute, Mark, Arms, NoArm, Arm}
use Rattle.array_meaning.specs.Iterations.{is_in, nest_indices}
use Rattle.array_meaning.specs.Touches.{assigned_in, assigned_by, assigned_in_arms}
use Rattle.node_code.specs.Forms.{Sub}
use Rattle.code_meaning.specs.Instructions.{ArrayTable}
use Rattle.lowered_expressions.specs.WellFormed.{IsScalar, AreScalar, IsSubscript, AreSubscripts, IsIndexed, AreIndexed, IsWellFormed, IsWellFormedBlock, AreWellFormedArms}
use Rattle.lowered_expressions.proofs.Anchors.{linear-safe}
use Rattle.nest_items.specs.Naming.{IsNaming, AreNaming}
use Rattle.nest_items.specs.Settled.{without}
use Rattle.nest_items.specs.Standing.{Stands}
use Rattle.nest_items.specs.NestForm.{IsExact, AreExact, IsPlain, ArePlain, NamesNone, TextsKeep, TextKeeps, ArmsTextsKeep, BlockKeeps, StatementKeeps, ArmsKeep}
use Rattle.nest_items.proofs.FormStands.{block_stands}
use Rattle.nest_items.proofs.NameKinds.{copies_of_kind}
use Rattle.statement_trail.specs.NestParts.{index_in, scalars_in}
use Rattle.nest_syntax.specs.NestTerms.{HasNoIndex, HaveNoIndex}
use Rattle.nest_join.specs.NestNames.{NestNames, indices_of, IsFixedName, IsTextTerm}
use Rattle.program_code.specs.Places.{AreScalars}
use Rattle.nest_join.specs.CodedBlocks.{IsBoundName, IsCodedLoop, IsCodedBlock, IsCodedStatement, AreCodedArms}
use Rattle.nest_join.proofs.Names.{eq-is}
use Rattle.nest_join.proofs.RowPlaces.{lt-so, name-row, array-place}
use Rattle.program_code.specs.NestCode.{scalars, conditions, kinds_in, operator_in}
use Rattle.lowered_nests.specs.NamesIn.{names_in}
use Rattle.lowered_nests.proofs.Listed.{in-some, in-none, is-in, among-is, is-among, among-apart, read-here, not-read, in-either}
use Rattle.lowered_nests.proofs.FreeIndices.{AreFree, free-is, free-inside, not-hidden}
use Rattle.lowered_nests.proofs.TextTerms.{text-term, text-subscripts}

-- ---- bounds and subscripts

mutual
  exact-subscript : (n : ℕ) (t : Term) → IsExact t → IsScalar n t → IsSubscript n t
  exact-subscript n (Number v) h ok = tt
  exact-subscript n (Scalar k) h ok = ok
  exact-subscript n (Index k) h ok = tt
  exact-subscript n (Element a ts) h ok = absurd h
  exact-subscript n (Section a subs) h ok = absurd h
  exact-subscript n (Apply o ts) h ok = (linear-safe o h.0, exact-subscripts n ts h.1 ok)
  exact-subscript n (Reduce o t) h ok = absurd h

  exact-subscripts : (n : ℕ) (ts : Terms) → AreExact ts → AreScalar n ts → AreSubscripts n ts
  exact-subscripts n NoTerm h ok = tt
  exact-subscripts n (More t ts) h ok = (exact-subscript n t h.0 ok.0, exact-subscripts n ts h.1 ok.1)

mutual
  exact-none : (t : Term) → IsExact t → HasNoIndex t
  exact-none (Number v) h = tt
  exact-none (Scalar k) h = tt
  exact-none (Index k) h = absurd h
  exact-none (Element a ts) h = absurd h
  exact-none (Section a subs) h = tt
  exact-none (Apply o ts) h = exacts-none ts h.1
  exact-none (Reduce o t) h = tt

  exacts-none : (ts : Terms) → AreExact ts → HaveNoIndex ts
  exacts-none NoTerm h = tt
  exacts-none (More t ts) h = (exact-none t h.0, exacts-none ts h.1)

-- ---- plain expressions

mutual
  pub plain-form : (n : ℕ) (t : Term) → IsPlain t → IsScalar n t → IsIndexed n t
  plain-form n (Number v) h ok = tt
  plain-form n (Scalar k) h ok = ok
  plain-form n (Index k) h ok = tt
  plain-form n (Element a ts) h ok = (ok.0, exact-subscripts n ts h ok.1)
  plain-form n (Section a subs) h ok = tt
  plain-form n (Apply o ts) h ok = plain-forms n ts h ok
  plain-form n (Reduce o t) h ok = absurd h

  plain-forms : (n : ℕ) (ts : Terms) → ArePlain ts → AreScalar n ts → AreIndexed n ts
  plain-forms n NoTerm h ok = tt
  plain-forms n (More t ts) h ok = (plain-form n t h.0 ok.0, plain-forms n ts h.1 ok.1)

mutual
  plain-none : (t : Term) → IsPlain t → HasNoIndex t
  plain-none (Number v) h = tt
  plain-none (Scalar k) h = tt
  plain-none (Index k) h = absurd h
  plain-none (Element a ts) h = exacts-none ts h
  plain-none (Section a subs) h = tt
  plain-none (Apply o ts) h = plain-nones ts h
  plain-none (Reduce o t) h = tt

  plain-nones : (ts : Terms) → ArePlain ts → HaveNoIndex ts
  plain-nones NoTerm h = tt
  plain-nones (More t ts) h = (plain-none t h.0, plain-nones ts h.1)

module _ (P : ℕ → Type 0) (n : ℕ) (off : (k : ℕ) → Bool) (names : (k : ℕ) → k < n → off k ≡ false → P k) where
  mutual
    bound-names : (t : Term) → IsNaming (λ k. off k ≡ false) (λ a. ⊥) t → IsSubscript n t → IsNaming P (λ a. ⊥) t
    bound-names (Number v) h ok = tt
    bound-names (Scalar k) h ok = names k ok h
    bound-names (Index k) h ok = tt
    bound-names (Element a ts) h ok = absurd ok
    bound-names (Section a subs) h ok = absurd ok
    bound-names (Apply o ts) h ok = all-bound-names ts h ok.1
    bound-names (Reduce o t) h ok = absurd ok

    all-bound-names : (ts : Terms) → AreNaming (λ k. off k ≡ false) (λ a. ⊥) ts → AreSubscripts n ts → AreNaming P (λ a. ⊥) ts
    all-bound-names NoTerm h ok = tt
    all-bound-names (More t ts) h ok = (bound-names t h.0 ok.0, all-bound-names ts h.1 ok.1)

-- ---- what is assigned is declared

one-in : (k x : ℕ) → is_in k (x ∷ []) ≡ true → x ≡ k
one-in k x h = by_place (in-some (x ∷ []) 0 k h)
  where
    by_test : (t : Bool) → nat_eq x k ≡ t → (j : ℕ) → (if t then Some 0 else None) ≡ Some j → x ≡ k
    by_test true e j y = eq-is x k e
    by_test false e j y = absurd cc

    by_place : (j : ℕ) × (index_in (x ∷ []) 0 k ≡ Some j) → x ≡ k
    by_place r = by_test (nat_eq x k) refl r.0 r.1

mutual
  assigned-below : (n k : ℕ) (b : Block) → IsWellFormedBlock n b → is_in k (assigned_in b) ≡ true → k < n
  assigned-below n k Done ok h = absurd (true≢false (sym h))
  assigned-below n k (Then line st rest) ok h =
      in-either (assigned_by st) (assigned_in rest) k h (assigned-below-by n k st ok.0) (assigned-below n k rest ok.1)

  assigned-below-by : (n k : ℕ) (st : Statement) → IsWellFormed n st → is_in k (assigned_by st) ≡ true → k < n
  assigned-below-by n k (AssignScalar x t) ok h = subst (λ y. y < n) (one-in k x h) ok.0
  assigned-below-by n k (If arms other) ok h =
      in-either (assigned_in_arms arms) (assigned_in other) k h (assigned-below-arms n k arms ok.0) (assigned-below n k other ok.1)
  assigned-below-by n k (Do mark loop body) ok h = assigned-below n k body ok.2 h
  assigned-below-by n k st ok h = absurd (true≢false (sym h))

  assigned-below-arms : (n k : ℕ) (arms : Arms) → AreWellFormedArms n arms → is_in k (assigned_in_arms arms) ≡ true → k < n
  assigned-below-arms n k NoArm ok h = absurd (true≢false (sym h))
  assigned-below-arms n k (Arm line t body arms) ok h =
      in-either (assigned_in body) (assigned_in_arms arms) k h (assigned-below n k body ok.1) (assigned-below-arms n k arms ok.2)

pub are-scalars : (n : ℕ) (nest : Nest) (body : Block) → AreScalars n (scalars n nest body)
are-scalars n nest body = record {
  below = λ k j e. let below = (among-is (assigned_in body) 0 n k (is-in (scalars n nest body) 0 k j e)).below in omega (arith, below);
  distinct = among-apart (assigned_in body) 0 n;
}

scalars-all : (n : ℕ) (nest : Nest) (body : Block) → IsWellFormedBlock n body → (k : ℕ) → is_in k (assigned_in body) ≡ is_in k (scalars n nest body)
scalars-all n nest body ok k = by_tests (is_in k (assigned_in body)) refl (is_in k (scalars n nest body)) refl
  where
    by_tests : (a : Bool) → is_in k (assigned_in body) ≡ a → (b : Bool) → is_in k (scalars n nest body) ≡ b → a ≡ b
    by_tests true e true f = refl
    by_tests true e false f =
        let below = assigned-below n k body ok e in sym (is-among (assigned_in body) 0 n k (record { listed = e; from = omega arith; below = omega (arith, below) })) ∙ f
    by_tests false e true f = sym e ∙ (among-is (assigned_in body) 0 n k f).listed
    by_tests false e false f = refl

-- ---- the block

module _ (table : ArrayTable) (n : ℕ) (nest : Nest) (body : Block) (over : List Sub) (all : ℕ → Bool) (s : State) (fit : (k : ℕ) → FitsSigned w64 (scalar s k))
    (quiet : (k : ℕ) → has_copies (kinds_in n nest body k) ≡ true → all k ≡ false) (named : IsWellFormedBlock n body) where
  -- the indices that are declared names
  abbrev pub is_index : ℕ → Bool
  is_index k = all k && nat_lt k n

  abbrev w : NestNames
  w = names_in table n nest body over is_index

  abbrev kinds : ℕ → Kind
  kinds = kinds_in n nest body

  are : AreScalars n (scalars n nest body)
  are = are-scalars n nest body

  -- what has copies is among the scalars
  pub of-scalars : (k : ℕ) → has_copies (kinds k) ≡ is_in k (scalars n nest body)
  of-scalars k = copies_of_kind (operator_in body) nest body k ∙ scalars-all n nest body named k

  unread : (t : Term) (k : ℕ) → has_copies (kinds k) ≡ false → index_in (w.copied_in t) 0 k ≡ None
  unread t k h = not-read (scalars n nest body) (scalars_in t) k (sym (of-scalars k) ∙ h)

  read : (t : Term) (k : ℕ) → is_in k (scalars_in t) ≡ true → has_copies (kinds k) ≡ true → (j : ℕ) × (index_in (w.copied_in t) 0 k ≡ Some j)
  read t k h c = read-here (scalars n nest body) (scalars_in t) k h (sym (of-scalars k) ∙ c)

  pub array-row : (a : ℕ) → a < n → has_copies (kinds a) ≡ false → (w.is_row a ≡ true) × (w.place a ≡ a)
  array-row a lt h = (
    name-row n (scalars n nest body) (conditions n nest body) are a lt,
    array-place n (scalars n nest body) (conditions n nest body) are a lt (in-none (scalars n nest body) 0 a (sym (of-scalars a) ∙ h)),
  )

  abbrev Free : (ℕ → Bool) → List ℕ → Type 0
  Free = AreFree all (nest_indices nest)

  index-off : (free : ℕ → Bool) (round : List ℕ) → Free free round → (k : ℕ) → all k ≡ false → (is_in k (nest_indices nest) ≡ false) × (is_in k round ≡ false)
  index-off free round h k off = (outer (is_in k (nest_indices nest)) refl, inner (is_in k round) refl)
    where
      outer : (t : Bool) → is_in k (nest_indices nest) ≡ t → t ≡ false
      outer true e = absurd (true≢false (sym (h.outside k e) ∙ off))
      outer false e = refl

      inner : (t : Bool) → is_in k round ≡ t → t ≡ false
      inner true e = absurd (true≢false (sym (h.inner k e).0 ∙ off))
      inner false e = refl

  copied : (free : ℕ → Bool) (round : List ℕ) → Free free round → (k : ℕ) → k < n → has_copies (kinds k) ≡ true → (w.is_row k ≡ true) × (index_in (indices_of w) 0 k ≡ None)
  copied free round h k lt c =
      (name-row n (scalars n nest body) (conditions n nest body) are k lt, in-none (nest_indices nest) 0 k (index-off free round h k (quiet k c)).0)

  fixed : (free : ℕ → Bool) (round : List ℕ) → Free free round → (k : ℕ) → k < n → free k ≡ false → has_copies (kinds k) ≡ false → IsFixedName w round k
  fixed free round h k lt off c = by_tests (is_in k round) refl (is_in k (nest_indices nest)) refl (all k) refl
    where
      by_tests : (r : Bool) → is_in k round ≡ r → (o : Bool) → is_in k (nest_indices nest) ≡ o → (a : Bool) → all k ≡ a → IsFixedName w round k
      by_tests true e o f a g = (lt, c, inl (let y = in-some round 0 k e in (in-none (nest_indices nest) 0 k (h.inner k e).1, y.0, y.1)))
      by_tests false e true f a g = (lt, c, inr (inr (let y = in-some (nest_indices nest) 0 k f in (in-none round 0 k e, y.0, y.1))))
      by_tests false e false f true g =
          let is : ((all k && not (is_in k (nest_indices nest))) && not (is_in k round)) ≡ true = (λ i. (g i && not (f i)) && not (e i)) in
          absurd (true≢false (sym (h.is k ∙ is) ∙ off))
      by_tests false e false f false g = (lt, c, inr (inl (in-none (nest_indices nest) 0 k f, in-none round 0 k e, ap (λ b. b && nat_lt k n) g)))

  coded-term : (free : ℕ → Bool) (round : List ℕ) → Free free round → (own : Option ℕ) (t : Term) → Stands kinds free own t → IsScalar n t → IsPlain t
      → IsTextTerm w round (w.copied_in t) t
  coded-term free round h own t stands ok plain =
      text-term w free round (w.copied_in t) (fixed free round h) (unread t) (copied free round h) array-row own t stands (plain-form n t plain ok) (plain-none t plain) (read t)

  bound-name : (free : ℕ → Bool) (round : List ℕ) → Free free round → (k : ℕ) → k < n → all k ≡ false → IsBoundName w round k
  bound-name free round h k lt off =
      let z = index-off free round h k off in
      (lt, ap (λ b. b && nat_lt k n) off, in-none (nest_indices nest) 0 k z.0, in-none round 0 k z.1)

  coded-loop : (free : ℕ → Bool) (round : List ℕ) → Free free round → (mark : Mark) (loop : Loop) (inner : Block) → StatementKeeps kinds free (Do mark loop inner)
      → IsWellFormed n (Do mark loop inner) → NamesNone all loop.control.first × NamesNone all loop.control.last → IsCodedLoop w s round loop
  coded-loop free round h mark loop inner keeps ok plain =
      let kept = keeps.0 in
      let z = free-is all (nest_indices nest) free round h loop.index kept.unseen in
      let first = exact-subscript n loop.control.first kept.first_exact ok.1.0 in
      let last = exact-subscript n loop.control.last kept.last_exact ok.1.1 in
      record {
        index = not-hidden is_index round loop.index z.2 ∙ ap₂ (λ a b. a && b) z.0 (lt-so loop.index n ok.0);
        below = ok.0;
        first = (first, bound-names (IsBoundName w round) n all (bound-name free round h) loop.control.first plain.0 first);
        last = (last, bound-names (IsBoundName w round) n all (bound-name free round h) loop.control.last plain.1 last);
        step = kept.step_exact;
        fits = (block_stands kinds free s (Then 0 (Do mark loop inner) Done) fit (keeps, tt)).0.0.fits;
      }

  mutual
    pub block-coded : (free : ℕ → Bool) (round : List ℕ) → Free free round → (b : Block) → BlockKeeps kinds free b → IsWellFormedBlock n b → TextsKeep all b
        → IsCodedBlock w s round b
    block-coded free round h Done keeps ok plain = tt
    block-coded free round h (Then line st rest) keeps ok plain =
        (statement-coded free round h st keeps.0 ok.0 plain.0, block-coded free round h rest keeps.1 ok.1 plain.1)

    statement-coded : (free : ℕ → Bool) (round : List ℕ) → Free free round → (st : Statement) → StatementKeeps kinds free st → IsWellFormed n st → TextKeeps all st
        → IsCodedStatement w s round st
    statement-coded free round h (AssignScalar k t) keeps ok plain =
        ((keeps.0, name-row n (scalars n nest body) (conditions n nest body) are k ok.0), coded-term free round h (Some k) t keeps.1 ok.1 plain)
    statement-coded free round h (AssignElement a ts t) keeps ok plain = (
      (
        (ok.0, keeps.0, (array-row a ok.0 keeps.0).0, (array-row a ok.0 keeps.0).1),
        text-subscripts w free round (w.copied_in t) (fixed free round h) (unread t) (copied free round h) array-row ts keeps.1 (exact-subscripts n ts plain.0 ok.1) (exacts-none ts plain.0),
      ),
      coded-term free round h None t keeps.2 ok.2 plain.1,
    )
    statement-coded free round h (If arms other) keeps ok plain =
        (arms-coded free round h arms keeps.0 ok.0 plain.0, block-coded free round h other keeps.1 ok.1 plain.1, keeps.2)
    statement-coded free round h (Do mark loop inner) keeps ok plain =
        subst (λ m. IsCodedStatement w s round (Do m loop inner)) (sym keeps.0.unmarked) (
          coded-loop free round h mark loop inner keeps ok plain.0,
          block-coded (without free loop.index) (loop.index ∷ round) (free-inside all (nest_indices nest) free round h loop.index keeps.0.unseen) inner keeps.1 ok.2 plain.1,
        )
    statement-coded free round h Continue keeps ok plain = tt
    statement-coded free round h (AssignSection a subs t) keeps ok plain = absurd keeps
    statement-coded free round h (Transform x y how) keeps ok plain = absurd keeps
    statement-coded free round h (Where mask b others) keeps ok plain = absurd keeps
    statement-coded free round h (Forall controls mask b) keeps ok plain = absurd keeps
    statement-coded free round h (Print items) keeps ok plain = absurd keeps
    statement-coded free round h Stop keeps ok plain = absurd keeps
    statement-coded free round h Exit keeps ok plain = absurd keeps
    statement-coded free round h Cycle keeps ok plain = absurd keeps
    statement-coded free round h Redistribute keeps ok plain = absurd keeps

    arms-coded : (free : ℕ → Bool) (round : List ℕ) → Free free round → (arms : Arms) → ArmsKeep kinds free arms → AreWellFormedArms n arms → ArmsTextsKeep all arms
        → AreCodedArms w s round arms
    arms-coded free round h NoArm keeps ok plain = tt
    arms-coded free round h (Arm line t b arms) keeps ok plain =
        (coded-term free round h None t keeps.0 ok.0 plain.0, block-coded free round h b keeps.1 ok.1 plain.1, arms-coded free round h arms keeps.2 ok.2 plain.2)
