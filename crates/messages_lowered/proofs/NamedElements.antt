-- FORALL's expressions name on the machine what they name in the trail, at an index tuple.
use Rattle.std.proofs.Common.{◌≡◌, ℕ, ◌<◌, List, [], ◌∷◌, ◌++◌, length, map, slice_index_or, ℤ, pos, refl, sym, ap, ◌∙◌}
use Rattle.std.specs.Result.{result_unwrap_or}
use Rattle.expression_rules.specs.declared.dims.Dim.{Dim}
use Rattle.array_meaning.specs.Forall.{indices_at}
use Rattle.array_meaning.specs.Sections.{extents, positions, subscripts_at}
use Rattle.array_meaning.specs.State.{State}
use Rattle.array_meaning.specs.Terms.{Term, Number, Scalar, Index, Element, Section, Apply, Reduce, Terms, NoTerm, More}
use Rattle.array_meaning.specs.declared.sections.Selection.TheVariants.{Along}
use Rattle.array_meaning.specs.declared.sections.Sequence.{Sequence}
use Rattle.code_meaning.specs.Flat.{slot}
use Rattle.node_code.specs.Forms.{Sub}
use Rattle.code_meaning.specs.Forms.{selections_in, selections_at, elemental_at, elementals_at}
use Rattle.code_meaning.specs.Parallel as parallel
use Rattle.code_meaning.specs.Parallel.{reads_at, spot_of, indices_in}
use Rattle.program_code.specs.ExpressionCode.{index_subs, index_form, index_forms}
use Rattle.lowered_expressions.specs.WellFormed.{AreSubscripts, IsIndexed, AreIndexed}
use Rattle.lowered_expressions.proofs.Indexed.{axes-extents, subs-are}
use Rattle.message_text.specs.Parts.{subscripts_in, named_in, all_named_in}

-- ---- FORALL, at an index tuple

module _ (shapes : List (List Dim)) (scalars slots : List ℤ) (holds : (k : ℕ) → k < length scalars → slot slots k ≡ slice_index_or scalars k (pos 0)) where
  abbrev state : State
  state = record { scalars = scalars; arrays = []; printed = [] }

  pub subscripts-same : (y : List ℤ) (ts : Terms) → AreSubscripts (length scalars) ts → subscripts_at (selections_at slots y (index_subs ts)) y ≡ subscripts_in scalars y ts
  subscripts-same y ts ok = sym (ap (λ r. result_unwrap_or r []) (subs-are (length scalars) state slots holds y y ts ok))

  mutual
    pub named-same : (y : List ℤ) (t : Term) → IsIndexed (length scalars) t → reads_at shapes y (elemental_at slots y (index_form t)) ≡ named_in shapes scalars y t
    named-same y (Number v) ok = refl
    named-same y (Scalar k) ok = refl
    named-same y (Index k) ok = refl
    named-same y (Element a ts) ok = ap (λ is. spot_of shapes a is ∷ []) (subscripts-same y ts ok.1)
    named-same y (Section a subs) ok = refl
    named-same y (Apply o ts) ok = all-named-same y ts ok
    named-same y (Reduce o t) ok = absurd ok

    all-named-same : (y : List ℤ) (ts : Terms) → AreIndexed (length scalars) ts
        → parallel.all_reads_at shapes y (elementals_at slots y (index_forms ts)) ≡ all_named_in shapes scalars y ts
    all-named-same y NoTerm ok = refl
    all-named-same y (More t ts) ok =
        ap (λ l. l ++ parallel.all_reads_at shapes y (elementals_at slots y (index_forms ts))) (named-same y t ok.0)
        ∙ ap (λ l. named_in shapes scalars y t ++ l) (all-named-same y ts ok.1)

pub indices-same : (over : List Sub) (slots : List ℤ) (axes : List Sequence) → selections_in slots over ≡ map Along axes → (u : ℕ) → indices_in over slots u ≡ indices_at axes u
indices-same over slots axes h u =
    ap (λ ds. subscripts_at ds (positions (extents ds) u)) h ∙ ap (λ ns. subscripts_at (map Along axes) (positions ns u)) (axes-extents axes)
