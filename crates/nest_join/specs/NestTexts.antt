-- Of a promise.
-- The texts of a nest as texts of the machine, and as texts of the meaning in an iteration.
use Rattle.std.specs.Prelude.{◌≡◌, ℕ, ◌<◌, ◌≤◌, List, map, length, ℤ, false, None}
use Rattle.array_meaning.specs.Terms.{Term}
use Rattle.array_meaning.specs.Faults.{Fault}
use Rattle.array_meaning.specs.State.{State, array, scalar}
use Rattle.array_meaning.specs.Forall.{indices_at}
use Rattle.array_meaning.specs.Iterations.{nest_axes, at_iteration, with_indices}
use Rattle.code_meaning.specs.Flat.{slot}
use Rattle.code_meaning.specs.Parallel.{shape_of, indices_in}
use Rattle.program_code.specs.ExpressionCode.{index_form, index_subs}
use Rattle.nest_order.specs.Copies.{InIteration, in_iteration}
use Rattle.nest_syntax.specs.Assigning.{Assigning, ToScalar, ToElement}
use Rattle.nest_items.specs.NestItems.{Action, Condition, text_at}
use Rattle.nest_machine.specs.BodyCode.{Texts}
use Rattle.nest_machine.specs.Slots.{SameSlots}
use Rattle.node_code.specs.NestStatements.{ElementLeft, CopyLeft}
use Rattle.program_code.specs.NestTexts.{NestText, NestTest}
use Rattle.nest_texts.specs.NestTexts.{nest_texts}
use Rattle.nest_syntax.specs.NestTerms.{indexed, all_indexed}
use Rattle.nest_join.specs.NestNames.{NestNames, index_of, IsTextTerm, IsText}

-- an assignment or a condition where it stands: its line, the indices of the inner loops round it, the innermost first, and the scalars whose
-- copies it reads
pub record Placed (T : Type 0) : Type 0 where
  pub line : ℕ
  pub text : T
  pub round : List ℕ
  pub copies : List ℕ

module _ (w : NestNames) where
  -- those that name what they may
  pub record NestAction : Type 0 where
    pub action : Placed Assigning
    pub named : IsText w action.round action.copies action.text

  pub record NestCondition : Type 0 where
    pub condition : Placed Term
    pub named : IsTextTerm w condition.round condition.copies condition.text

  -- ---- on the machine

  abbrev pub assignment_text : ℕ → List ℕ → Assigning → NestText
  assignment_text line copies (ToScalar k t) = record {
    line = line;
    copies = map w.place copies;
    names = copies;
    left = CopyLeft (w.place k);
    right = index_form (indexed (index_of w copies) t);
    mark = w.marks k;
  }
  assignment_text line copies (ToElement a ts t) = record {
    line = line;
    copies = map w.place copies;
    names = copies;
    left = ElementLeft a (index_subs (all_indexed (index_of w copies) ts));
    right = index_form (indexed (index_of w copies) t);
    mark = None;
  }

  abbrev pub text_of : NestAction → NestText
  text_of x = assignment_text x.action.line x.action.copies x.action.text

  abbrev pub test_of : NestCondition → NestTest
  test_of x = record {
    line = x.condition.line;
    copies = map w.place x.condition.copies;
    names = x.condition.copies;
    form = index_form (indexed (index_of w x.condition.copies) x.condition.text);
  }

  abbrev pub texts_of : Texts NestAction NestCondition Fault
  texts_of = nest_texts w.table.shapes w.over text_of test_of

  -- ---- in the meaning, from a state at the entry

  module _ (s : State) where
    -- the state at the entry in an iteration, with the indices of the inner loops round a text as the slots have them
    abbrev pub state_at : List ℕ → List ℤ → ℕ → State
    state_at round slots i = with_indices round (map (slot slots) round) (at_iteration w.nest s i)

    abbrev pub action_at : NestAction → List ℤ → ℕ → InIteration Action
    action_at x slots i = in_iteration i (text_at x.action.line (state_at x.action.round slots i) x.action.text)

    abbrev pub condition_at : NestCondition → List ℤ → ℕ → InIteration Condition
    condition_at x slots i = in_iteration i (text_at x.condition.line (state_at x.condition.round slots i) x.condition.text)

-- The machine's slots at the entry of a nest hold a state. The slots from b on are those of inner loops. By slots that are those of the entry but
-- for indices, the index tuples are those of the nest
pub record HoldsEntry (w : NestNames) (b : ℕ) (entry : List ℤ) (s : State) : Type 0 where
  pub scalars : length s.scalars ≡ w.count
  pub arrays : length s.arrays ≡ w.count
  pub below : w.count ≤ b
  pub slots : (k : ℕ) → k < w.count → w.is_index k ≡ false → slot entry k ≡ scalar s k
  pub shapes : (a : ℕ) → a < w.count → (array s a).dims ≡ shape_of w.table.shapes a
  pub tuples : (slots : List ℤ) → SameSlots w.is_index b entry slots → (i : ℕ) → indices_in w.over slots i ≡ indices_at (nest_axes s w.nest) i
