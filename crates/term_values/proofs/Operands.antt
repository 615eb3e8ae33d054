-- Operands of an operator in a row, and in a list.
use Rattle.std.proofs.Common.{◌≡◌, List, [], ◌∷◌, ◌++◌, ℤ, refl, ap, sym, ◌∙◌, Result, Ok, Err, Global}
use Rattle.std.specs.Prelude.{Vec}
use Rattle.op_tables.specs.declared.op.Op.{Op}
use Rattle.array_meaning.specs.Faults.{Cause, ◌>>=◌}
use Rattle.array_meaning.specs.Elementals.{Elemental, Operation, Elementals, NoOperand, Operand, sections, all_sections, value_at}
use Rattle.array_meaning.specs.State.{State}
use Rattle.term_values.specs.declared.array_values.Elemental.{Elemental as HeldElemental}
use Rattle.term_values.specs.declared.array_values.Elemental.TheVariants as held
use Rattle.term_values.specs.declared.array_values.Elemental.TheBlock.{Row_of-Elemental, end_of-Elemental, more_of-Elemental, items-the_row-Elemental, hidden-the_row-Elemental-0, items_hidden-the_row-Elemental-0}
use Rattle.term_values.specs.Parts.{operation_at}
use Rattle.term_values.specs.Views.{elemental, elementals, elementals_of}

elementals_items : {m : _} (row : Row_of-Elemental m) → elementals row ≡ elementals_of (items-the_row-Elemental m row)
elementals_items end_of-Elemental = refl
elementals_items (more_of-Elemental x row) = ap (Operand (elemental x)) (elementals_items row)

pub operation_vec : (o : Op) (v : Vec HeldElemental Global) → elemental (held.Operation o v) ≡ Operation o (elementals_of v.items)
operation_vec o v = ap (Operation o) (elementals_items (hidden-the_row-Elemental-0 v) ∙ ap elementals_of (items_hidden-the_row-Elemental-0 v))

-- operands before others
abbrev pub operands_before : List HeldElemental → Elementals → Elementals
operands_before [] ys = ys
operands_before (x ∷ xs) ys = Operand (elemental x) (operands_before xs ys)

abbrev pub before_operands : List HeldElemental → Result Elementals Cause → Result Elementals Cause
before_operands xs r = r >>= (λ ys. Ok (operands_before xs ys))

abbrev one_more : Result Elemental Cause → Result Elementals Cause → Result Elementals Cause
one_more r rs = r >>= (λ x. rs >>= (λ xs. Ok (Operand x xs)))

joined : (xs : List HeldElemental) (x : HeldElemental) (ys : Elementals) → operands_before xs (Operand (elemental x) ys) ≡ operands_before (xs ++ x ∷ []) ys
joined [] x ys = refl
joined (y ∷ xs) x ys = ap (Operand (elemental y)) (joined xs x ys)

-- one operand more
pub operand_after : (xs : List HeldElemental) (r : Result Elemental Cause) (rs : Result Elementals Cause) (x : HeldElemental) → r ≡ Ok (elemental x) →
    before_operands xs (r >>= (λ x. rs >>= (λ xs. Ok (Operand x xs)))) ≡ before_operands (xs ++ x ∷ []) rs
operand_after xs r rs x h = ap (λ r. before_operands xs (one_more r rs)) h ∙ cases rs where
  cases : (rs : Result Elementals Cause) → before_operands xs (one_more (Ok (elemental x)) rs) ≡ before_operands (xs ++ x ∷ []) rs
  cases (Ok ys) = ap Ok (joined xs x ys)
  cases (Err e) = refl

-- no operand is left
pub all_operands : (xs : List HeldElemental) → before_operands xs (Ok NoOperand) ≡ Ok (elementals_of xs)
all_operands [] = refl
all_operands (x ∷ xs) = ap (λ r. r >>= (λ ys. Ok (Operand (elemental x) ys))) (all_operands xs)

pub operation_elemental : (x : HeldElemental) (o : Op) (v : Vec HeldElemental Global) → x ≡ held.Operation o v → Operation o (elementals_of v.items) ≡ elemental x
operation_elemental x o v is = sym (operation_vec o v) ∙ ap elemental (sym is)

-- the value of an operator at a tuple
pub operation_at_is : (s : State) (tuple : List ℤ) (x : HeldElemental) (o : Op) (v : Vec HeldElemental Global) → x ≡ held.Operation o v →
    operation_at s tuple o (elementals_of v.items) ≡ value_at s tuple (elemental x)
operation_at_is s tuple x o v is = ap (value_at s tuple) (operation_elemental x o v is)

-- its sections
pub sections_are : (x : HeldElemental) (o : Op) (v : Vec HeldElemental Global) → x ≡ held.Operation o v → all_sections (elementals_of v.items) ≡ sections (elemental x)
sections_are x o v is = ap sections (operation_elemental x o v is)
