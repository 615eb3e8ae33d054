-- What an assignment of a FORALL does at a tuple on the machine is what it means, where the slots say what its space is.
use Rattle.std.proofs.Common.{◌≡◌, ℕ, ◌<◌, List, ◌++◌, map, length, ℤ, Bool, Option, sym, ap, ◌∙◌, subst}
use Rattle.expression_rules.specs.declared.dims.Dim.{Dim}
use Rattle.storage.specs.Storage.{Storage}
use Rattle.array_meaning.specs.declared.sections.Sequence.{Sequence}
use Rattle.array_meaning.specs.declared.sections.Selection.TheVariants.{Along}
use Rattle.array_meaning.specs.Terms.{Term, Terms}
use Rattle.array_meaning.specs.Faults.{◌>>=◌, at_tuple}
use Rattle.array_meaning.specs.State.{State}
use Rattle.array_meaning.specs.Sections.{extents, positions, subscripts_at}
use Rattle.array_meaning.specs.Elementals.{Elemental, value_at}
use Rattle.array_meaning.specs.Expressions.{value, values}
use Rattle.array_meaning.specs.ArrayAssignments.{store_at, if_true}
use Rattle.array_meaning.specs.Forall.{index_extents, indices_at}
use Rattle.node_code.specs.Forms.{Sub}
use Rattle.node_code.specs.Parallel.{When}
use Rattle.code_meaning.specs.Forms.{selections_at, selections_in, elemental_at}
use Rattle.code_meaning.specs.Parallel.{at_line, outcome_if, mask_reads, is_asked, spot_of, reads_at, assigned_value, indices_in}
use Rattle.program_code.specs.ExpressionCode.{index_subs, index_form}
use Rattle.lowered_expressions.specs.WellFormed.{AreSubscripts, IsIndexed}
use Rattle.lowered_expressions.proofs.Terms.{HoldsArrays, HoldsScalars}
use Rattle.lowered_expressions.proofs.Scatter.{Does, values_of, NamesBelow}
use Rattle.lowered_expressions.proofs.Indexed.{axes-extents, subs-are, indexed-value, indexed-names}
use Rattle.lowering.proofs.Storing.{masked-does}

-- the space, where these subscripts over the slots select what the indices take
module _ (over : List Sub) (axes : List Sequence) (slots : List ℤ) (gives : selections_in slots over ≡ map Along axes) where
  pub extents-are : extents (selections_in slots over) ≡ index_extents axes
  extents-are = ap extents gives ∙ axes-extents axes

  pub indices-are : (t : ℕ) → indices_in over slots t ≡ indices_at axes t
  indices-are t = ap (λ ds. subscripts_at ds (positions (extents ds) t)) gives ∙ ap (λ ms. subscripts_at (map Along axes) (positions ms t)) (axes-extents axes)

-- the assignment at a tuple of indices, at which the form of its right side is what that of `t` is
module _ (n : ℕ) (shapes : List (List Dim)) (s : State) (slots : List ℤ) (rows : Storage) (scalars : HoldsScalars n s slots) (arrays : HoldsArrays n shapes s rows)
    (line a : ℕ) (ts : Terms) (t : Term) (la : a < n) (oks : AreSubscripts n ts) (ok : IsIndexed n t)
    (when : Option When) (u : ℕ) (chosen : Bool) (asked : (values : List ℤ) → is_asked when (values_of rows (mask_reads when u) ++ values) ≡ chosen) where
  pub indexed-does : (y : List ℤ) (r : Elemental) → r ≡ elemental_at slots y (index_form t)
      → Does line a (spot_of shapes a (subscripts_at (selections_at slots y (index_subs ts)) y))
      (outcome_if (is_asked when (values_of rows (mask_reads when u ++ reads_at shapes y r)))
      (at_line line (assigned_value shapes a (selections_at slots y (index_subs ts)) r y (values_of rows (mask_reads when u ++ reads_at shapes y r))
      (length (mask_reads when u)))))
      (at_tuple y (if_true chosen (values y s ts >>= (λ is. store_at s a is (value y s t)))))
  indexed-does y r is =
      let ds = selections_at slots y (index_subs ts) in
      let values-are : value_at s y r ≡ value y s t = ap (value_at s y) is ∙ indexed-value n s slots scalars y t ok in
      let stored : store_at s a (subscripts_at ds y) (value_at s y r) ≡ (values y s ts >>= (λ is. store_at s a is (value y s t))) =
      ap (store_at s a (subscripts_at ds y)) values-are ∙ sym (ap (λ q. q >>= (λ is. store_at s a is (value y s t))) (subs-are n s slots scalars y y ts oks)) in
      let values = values_of rows (mask_reads when u ++ reads_at shapes y r) in
      subst (λ q. Does line a (spot_of shapes a (subscripts_at ds y))
      (outcome_if (is_asked when values) (at_line line (assigned_value shapes a ds r y values (length (mask_reads when u))))) (at_tuple y (if_true chosen q))) stored
      (masked-does n shapes s rows arrays y line a ds r when u chosen la (subst (NamesBelow n) (sym is) (indexed-names n s slots scalars y t ok)) asked)
