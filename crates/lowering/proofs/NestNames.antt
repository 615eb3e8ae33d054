-- A nest by its form, in a well-formed program, names scalars and arrays as its entry asks; and its loops and statements hold no further nest.
use Rattle.std.proofs.Common.{◌≡◌, ℕ, ◌<◌, List, [], ◌∷◌, Bool, Option, Some, None, sym, subst}
use Rattle.std.specs.List.{AllByRecursion}
use Rattle.nest_syntax.specs.NestKinds.{Kind, kind_of}
use Rattle.array_meaning.specs.Terms.{Term, Number, Scalar, Index, Element, Section, Apply, Reduce, Terms, NoTerm, More}
use Rattle.array_meaning.specs.Statements.{Loop, Nest, Block, Done, Then, Statement, AssignScalar, AssignElement, AssignSection, Transform, If, Do, Where, Forall, Print, Stop, Exit, Cycle, Continue, Redistribute, Mark, Unmarked, Arms, NoArm, Arm}
use Rattle.nest_items.specs.Settled.{without}
use Rattle.nest_items.specs.Standing.{IsFixedTerm, AreFixedTerms, Stands, AllStand}
use Rattle.nest_items.specs.NestForm.{IsKeptLoop, BlockKeeps, StatementKeeps, ArmsKeep, LoopsKeep}
use Rattle.nest_items.specs.BlockForms.{HasForm, BlockHasForms, HasForms, ArmsHaveForms}
use Rattle.nest_items.proofs.EntryAlike.{IsOfScalars, AreOfScalars, IsNestTerm, AreNestTerms, IsNestLoop, IsNestBlock, IsNestStatement, AreNestArms}
use Rattle.lowered_expressions.specs.WellFormed.{IsScalar, AreScalar, IsControl, IsWellFormed, IsWellFormedBlock, AreWellFormedArms}

module _ (n : ℕ) (kinds : ℕ → Kind) where
  mutual
    of_scalars : (free : ℕ → Bool) (t : Term) → IsFixedTerm kinds free t → IsScalar n t → IsOfScalars n t
    of_scalars free (Number v) fixed ok = tt
    of_scalars free (Scalar k) fixed ok = ok
    of_scalars free (Index k) fixed ok = tt
    of_scalars free (Element a ts) fixed ok = absurd fixed.0
    of_scalars free (Section a subs) fixed ok = tt
    of_scalars free (Apply o ts) fixed ok = all_of_scalars free ts fixed ok
    of_scalars free (Reduce o t) fixed ok = absurd fixed

    all_of_scalars : (free : ℕ → Bool) (ts : Terms) → AreFixedTerms kinds free ts → AreScalar n ts → AreOfScalars n ts
    all_of_scalars free NoTerm fixed ok = tt
    all_of_scalars free (More t ts) fixed ok = (of_scalars free t fixed.0 ok.0, all_of_scalars free ts fixed.1 ok.1)

  mutual
    nest_term : (free : ℕ → Bool) (own : Option ℕ) (t : Term) → Stands kinds free own t → IsScalar n t → IsNestTerm n t
    nest_term free own (Number v) stands ok = tt
    nest_term free own (Scalar k) stands ok = ok
    nest_term free own (Index k) stands ok = tt
    nest_term free own (Element a ts) stands ok = all_of_scalars free ts stands.1 ok.1
    nest_term free own (Section a subs) stands ok = tt
    nest_term free own (Apply o ts) stands ok = all_nest_terms free own ts stands ok
    nest_term free own (Reduce o t) stands ok = tt

    all_nest_terms : (free : ℕ → Bool) (own : Option ℕ) (ts : Terms) → AllStand kinds free own ts → AreScalar n ts → AreNestTerms n ts
    all_nest_terms free own NoTerm stands ok = tt
    all_nest_terms free own (More t ts) stands ok = (nest_term free own t stands.0 ok.0, all_nest_terms free own ts stands.1 ok.1)

  nest_loop : (free : ℕ → Bool) (mark : Mark) (l : Loop) → IsKeptLoop kinds free mark l → l.index < n → IsControl n l.control → IsNestLoop n l
  nest_loop free mark l kept index ok =
      (index, of_scalars free l.control.first kept.first ok.0, of_scalars free l.control.last kept.last ok.1, of_scalars free l.control.step kept.step ok.2)

  mutual
    nest_block : (free : ℕ → Bool) (b : Block) → BlockKeeps kinds free b → IsWellFormedBlock n b → IsNestBlock n b
    nest_block free Done keeps ok = tt
    nest_block free (Then line st rest) keeps ok = (nest_statement free st keeps.0 ok.0, nest_block free rest keeps.1 ok.1)

    nest_statement : (free : ℕ → Bool) (st : Statement) → StatementKeeps kinds free st → IsWellFormed n st → IsNestStatement n st
    nest_statement free (AssignScalar k t) keeps ok = nest_term free (Some k) t keeps.1 ok.1
    nest_statement free (AssignElement a ts t) keeps ok = (all_of_scalars free ts keeps.1 ok.1, nest_term free None t keeps.2 ok.2)
    nest_statement free (AssignSection a subs t) keeps ok = tt
    nest_statement free (Transform x y how) keeps ok = tt
    nest_statement free (If arms other) keeps ok = (nest_arms free arms keeps.0 ok.0, nest_block free other keeps.1 ok.1)
    nest_statement free (Do mark loop body) keeps ok = (nest_loop free mark loop keeps.0 ok.0 ok.1, nest_block (without free loop.index) body keeps.1 ok.2)
    nest_statement free (Where mask body others) keeps ok = tt
    nest_statement free (Forall controls mask body) keeps ok = tt
    nest_statement free (Print items) keeps ok = tt
    nest_statement free Stop keeps ok = tt
    nest_statement free Exit keeps ok = tt
    nest_statement free Cycle keeps ok = tt
    nest_statement free Continue keeps ok = tt
    nest_statement free Redistribute keeps ok = tt

    nest_arms : (free : ℕ → Bool) (arms : Arms) → ArmsKeep kinds free arms → AreWellFormedArms n arms → AreNestArms n arms
    nest_arms free NoArm keeps ok = tt
    nest_arms free (Arm line t body arms) keeps ok = (nest_term free None t keeps.0 ok.0, nest_block free body keeps.1 ok.1, nest_arms free arms keeps.2 ok.2)

  -- no statement in a nest is marked
  mutual
    no_nest : (free : ℕ → Bool) (b : Block) → BlockKeeps kinds free b → BlockHasForms b
    no_nest free Done keeps = tt
    no_nest free (Then line st rest) keeps = (no_nest_in free st keeps.0, no_nest free rest keeps.1)

    no_nest_in : (free : ℕ → Bool) (st : Statement) → StatementKeeps kinds free st → HasForms st
    no_nest_in free (AssignScalar k t) keeps = tt
    no_nest_in free (AssignElement a ts t) keeps = tt
    no_nest_in free (AssignSection a subs t) keeps = tt
    no_nest_in free (Transform x y how) keeps = tt
    no_nest_in free (If arms other) keeps = (no_nest_in_arms free arms keeps.0, no_nest free other keeps.1)
    no_nest_in free (Do mark loop body) keeps = subst (λ m. HasForms (Do m loop body)) (sym keeps.0.unmarked) (no_nest (without free loop.index) body keeps.1)
    no_nest_in free (Where mask body others) keeps = tt
    no_nest_in free (Forall controls mask body) keeps = tt
    no_nest_in free (Print items) keeps = tt
    no_nest_in free Stop keeps = tt
    no_nest_in free Exit keeps = tt
    no_nest_in free Cycle keeps = tt
    no_nest_in free Continue keeps = tt
    no_nest_in free Redistribute keeps = tt

    no_nest_in_arms : (free : ℕ → Bool) (arms : Arms) → ArmsKeep kinds free arms → ArmsHaveForms arms
    no_nest_in_arms free NoArm keeps = tt
    no_nest_in_arms free (Arm line t body arms) keeps = (no_nest free body keeps.1, no_nest_in_arms free arms keeps.2)

  -- the loops inside the outermost one, and the innermost block
  pub record IsNested (ls : List Loop) (block body : Block) : Type 0 where
    pub loops : AllByRecursion (IsNestLoop n) ls
    pub statements : IsNestBlock n body
    pub forms : BlockHasForms block

  nested : (all free : ℕ → Bool) (ls : List Loop) (block body : Block) → LoopsKeep kinds all free ls block body → IsWellFormedBlock n block → IsNested ls block body
  nested all free [] block body keeps ok = record {
    loops = tt;
    statements = nest_block free body keeps.1 (subst (IsWellFormedBlock n) keeps.0 ok);
    forms = subst BlockHasForms (sym keeps.0) (no_nest free body keeps.1);
  }
  nested all free (l ∷ ls) block body keeps ok =
      let mine = subst (IsWellFormedBlock n) keeps.2 ok in
      let inner = nested all (without free l.index) ls keeps.1 body keeps.5 mine.0.2 in
      record {
        loops = (nest_loop all Unmarked l keeps.3 mine.0.0 mine.0.1, inner.loops);
        statements = inner.statements;
        forms = subst BlockHasForms (sym keeps.2) (inner.forms, tt);
      }

pub record IsFormedNest (n : ℕ) (nest : Nest) (loop : Loop) (block body : Block) : Type 0 where
  pub inner : List Loop
  pub is : nest.loops ≡ loop ∷ inner
  pub loops : AllByRecursion (IsNestLoop n) inner
  pub statements : IsNestBlock n body
  pub forms : BlockHasForms block

pub formed_nest : (n : ℕ) (nest : Nest) (loop : Loop) (block body : Block) → HasForm nest loop block body → IsWellFormedBlock n block → IsFormedNest n nest loop block body
formed_nest n nest loop block body h ok =
    let kinds = kind_of h.operators nest body in
    let inside = nested n kinds h.all (without h.all loop.index) h.form.inner block body h.form.tight ok in
    record { inner = h.form.inner; is = h.form.loops; loops = inside.loops; statements = inside.statements; forms = inside.forms }
