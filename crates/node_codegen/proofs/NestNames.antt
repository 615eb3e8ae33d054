-- The names of a nest, as code holds them, are those of its definition.
use Rattle.std.proofs.Common.{◌≡◌, ℕ, zero, suc, ◌+◌, List, [], ◌∷◌, nat_eq, Bool, true, false, Option, Some, None, refl, sym, ap, ◌∙◌, subst}
use Rattle.std.specs.Prelude.{if◌then◌else◌, option_map}
use Rattle.std.proofs.lemmas.Bool.{eqb-true, true≢false}
use Rattle.op_tables.specs.declared.join.Join.{Join}
use Rattle.array_meaning.specs.Statements.{Nest, Block}
use Rattle.array_meaning.specs.Iterations.{is_in, nest_indices}
use Rattle.array_meaning.specs.Touches.{assigned_in}
use Rattle.nest_syntax.specs.NestKinds.{Kind, Shared, New, Assigned, Reduced}
use Rattle.nest_syntax.specs.Assigning.{Assigning, ToScalar, ToElement}
use Rattle.nest_syntax.specs.Finals.{Folds, Lasts}
use Rattle.statement_trail.specs.NestParts.{among_from, index_in}
use Rattle.program_code.specs.Places.{final_by, finals_from, marks_by, marks_from, marks_of}
use Rattle.program_code.specs.NestCode.{conditions, finals, kinds_in, operator_in, scalars, text_in}
use Rattle.node_codegen.specs.NestNames.{mark_at, text_at}
use Rattle.node_codegen.specs.NestFinals.{finals_at}

-- each of a list is among others
abbrev AllIn : List ℕ → List ℕ → Type 0
AllIn all [] = Unit {0}
AllIn all (k ∷ ks) = (is_in k all ≡ true) × AllIn all ks

kept : (all : List ℕ) (k : ℕ) (rest : List ℕ) (b : Bool) → is_in k all ≡ b → AllIn all rest → AllIn all (if is_in k all then k ∷ rest else rest)
kept all k rest true is ok = subst (λ c. AllIn all (if c then k ∷ rest else rest)) (sym is) (is, ok)
kept all k rest false is ok = subst (λ c. AllIn all (if c then k ∷ rest else rest)) (sym is) ok

among_in : (all : List ℕ) (k count : ℕ) → AllIn all (among_from all k count)
among_in all k zero = tt
among_in all k (suc count) = kept all k (among_from all (suc k) count) (is_in k all) refl (among_in all (suc k) count)

here_or_later : (all : List ℕ) (x k i j : ℕ) (later : Option ℕ) (b : Bool) → nat_eq x k ≡ b → is_in x all ≡ true → (later ≡ Some j → is_in k all ≡ true) →
    (if nat_eq x k then Some i else later) ≡ Some j → is_in k all ≡ true
here_or_later all x k i j later true same here rest is = subst (λ y. is_in y all ≡ true) (eqb-true x k same) here
here_or_later all x k i j later false other here rest is = rest (ap (λ b. if b then Some i else later) (sym other) ∙ is)

-- what has a place in such a list is among them
found_in : (all ks : List ℕ) (i k j : ℕ) → AllIn all ks → index_in ks i k ≡ Some j → is_in k all ≡ true
found_in all [] i k j ok is = let none : None ≡ Some j = is in absurd cc
found_in all (x ∷ ks) i k j ok is = here_or_later all x k i j (index_in ks (suc i) k) (nat_eq x k) refl ok.0 (found_in all ks (suc i) k j ok.1) is

-- ---- marks

no_mark : (r : Bool) (marks n : ℕ) (names : List ℕ) (count : ℕ) (kind : Kind) → (if r then None else option_map (λ j. marks + j) None) ≡ marks_by n names count kind None
no_mark true marks n names count Shared = refl
no_mark true marks n names count New = refl
no_mark true marks n names count Assigned = refl
no_mark true marks n names count (Reduced op) = refl
no_mark false marks n names count Shared = refl
no_mark false marks n names count New = refl
no_mark false marks n names count Assigned = refl
no_mark false marks n names count (Reduced op) = refl

one_mark : (a r m : Bool) (op : Join) (n : ℕ) (names : List ℕ) (count j : ℕ) → a ≡ true →
    (if r then None else Some (marks_from n names count + j)) ≡ marks_by n names count (if a then (if r then Reduced op else if m then New else Assigned) else Shared) (Some j)
one_mark true true m op n names count j is = refl
one_mark true false true op n names count j is = refl
one_mark true false false op n names count j is = refl
one_mark false r m op n names count j is = absurd (true≢false (sym is))

-- ---- finals

one_final : (a r m : Bool) (op : Join) (n : ℕ) (names : List ℕ) (count j k : ℕ) → a ≡ true →
    (if r then Folds op (n + j) k else Lasts (n + j) (marks_from n names count + j) k) ≡ final_by n names count (if a then (if r then Reduced op else if m then New else Assigned) else Shared) j k
one_final true true m op n names count j k is = refl
one_final true false true op n names count j k is = refl
one_final true false false op n names count j k is = refl
one_final false r m op n names count j k is = absurd (true≢false (sym is))

module _ (n : ℕ) (nest : Nest) (body : Block) where
  mark_is : (k : ℕ) → mark_at n (marks_from n (scalars n nest body) (conditions n nest body)) (scalars n nest body) nest.reduction (nest_indices nest) k
      ≡ marks_of n (scalars n nest body) (conditions n nest body) (kinds_in n nest body) k
  mark_is k = by_place (index_in (scalars n nest body) 0 k) refl where
    by_place : (o : Option ℕ) → index_in (scalars n nest body) 0 k ≡ o →
        (if is_in k nest.reduction then None else option_map (λ j. marks_from n (scalars n nest body) (conditions n nest body) + j) (index_in (scalars n nest body) 0 k))
        ≡ marks_by n (scalars n nest body) (conditions n nest body) (kinds_in n nest body k) (index_in (scalars n nest body) 0 k)
    by_place None is =
        subst (λ o. (if is_in k nest.reduction then None else option_map (λ j. marks_from n (scalars n nest body) (conditions n nest body) + j) o)
        ≡ marks_by n (scalars n nest body) (conditions n nest body) (kinds_in n nest body k) o) (sym is)
        (no_mark (is_in k nest.reduction) (marks_from n (scalars n nest body) (conditions n nest body)) n (scalars n nest body) (conditions n nest body) (kinds_in n nest body k))
    by_place (Some j) is =
        subst (λ o. (if is_in k nest.reduction then None else option_map (λ j. marks_from n (scalars n nest body) (conditions n nest body) + j) o)
        ≡ marks_by n (scalars n nest body) (conditions n nest body) (kinds_in n nest body k) o) (sym is)
        (one_mark (is_in k (assigned_in body)) (is_in k nest.reduction) (is_in k nest.new) (operator_in body k) n (scalars n nest body) (conditions n nest body) j
        (found_in (assigned_in body) (scalars n nest body) 0 k j (among_in (assigned_in body) 0 n) is))

  finals_from_is : (j : ℕ) (ks : List ℕ) → AllIn (assigned_in body) ks →
      finals_at n (marks_from n (scalars n nest body) (conditions n nest body)) nest.reduction body j ks
      ≡ finals_from n (scalars n nest body) (conditions n nest body) (kinds_in n nest body) j ks
  finals_from_is j [] ok = refl
  finals_from_is j (k ∷ ks) ok = λ i.
      one_final (is_in k (assigned_in body)) (is_in k nest.reduction) (is_in k nest.new) (operator_in body k) n (scalars n nest body) (conditions n nest body) j k ok.0 i
      ∷ finals_from_is (suc j) ks ok.1 i

  pub finals_is : finals_at n (marks_from n (scalars n nest body) (conditions n nest body)) nest.reduction body 0 (scalars n nest body) ≡ finals n nest body
  finals_is = finals_from_is 0 (scalars n nest body) (among_in (assigned_in body) 0 n)

  text_is : (line : ℕ) (x : Assigning) →
      text_at n (marks_from n (scalars n nest body) (conditions n nest body)) (scalars n nest body) nest.reduction (nest_indices nest) (record { line = line; text = x })
      ≡ text_in n nest body (record { line = line; text = x })
  text_is line (ToScalar k t) = ap (λ m. record (text_in n nest body (record { line = line; text = ToScalar k t })) { mark = m }) (mark_is k)
  text_is line (ToElement a ts t) = refl

  pub texts_are : text_at n (marks_from n (scalars n nest body) (conditions n nest body)) (scalars n nest body) nest.reduction (nest_indices nest) ≡ text_in n nest body
  texts_are = λ i a. text_is a.line a.text i
