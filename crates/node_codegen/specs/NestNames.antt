-- Of private clauses.
-- No public clause cites this file. What the code of a nest's statements is made over, as code holds it.
use Rattle.std.specs.Prelude.{◌≡◌, ℕ, ◌+◌, List, ◌∷◌, ◌++◌, map, pos, Option, None, option_map, if◌then◌else◌}
use Rattle.array_meaning.specs.Terms.{Term, Number}
use Rattle.array_meaning.specs.Statements.{Loop, Nest, Block}
use Rattle.array_meaning.specs.Iterations.{is_in, nest_indices}
use Rattle.resolved_program.specs.declared.statements.Nest.{Nest as HeldNest}
use Rattle.resolved_program.specs.Resolved.{inner_loops}
use Rattle.node_code.specs.Anchors.{FlatAnchor}
use Rattle.node_code.specs.Forms.{Sub, SubAlong}
use Rattle.node_code.specs.NestStatements.{ElementLeft, CopyLeft}
use Rattle.node_code.specs.Instructions.{Instruction}
use Rattle.node_code.specs.Texts.{flat_anchor}
use Rattle.program_code.specs.ExpressionCode.{index_subs, index_form}
use Rattle.nest_syntax.specs.Assigning.{Assigning, ToScalar, ToElement}
use Rattle.program_code.specs.NestTexts.{NestText, NestTest}
use Rattle.program_code.specs.NestInstructions.{arms_instructions, body_instructions, text_instructions}
use Rattle.nest_syntax.specs.NestTerms.{all_indexed, indexed}
use Rattle.statement_trail.specs.NestParts.{each_once, index_in, of_these, scalars_in}
use Rattle.program_code.specs.Places.{marks_from, place_of}
use Rattle.program_code.specs.NestCode.{Lined, PlainBody, PlainArms, along, conditions, nest_beside, scalars, stored}
use Rattle.node_codegen.specs.declared.nest_names.NestNames.{NestNames}

-- the nest whose outermost loop has this body
abbrev pub nest_of : HeldNest → Loop → Block → Nest
nest_of nest l body = record { line = nest.line; loops = l ∷ inner_loops nest.inner_loops body; new = nest.new.items; reduction = nest.reduction.items }

-- a loop over an index. The places of its bounds don't ask for them
abbrev pub with_index : ℕ → Loop
with_index k = record { index = k; control = record { first = Number (pos 0); last = Number (pos 0); step = Number (pos 0) } }

-- they are those of a nest and its innermost block, in a line, where n names are declared and the bounds stand in slots from v on
pub record AreNamesOf (n line : ℕ) (nest : Nest) (body : Block) (v : ℕ) (w : NestNames) : Type 0 where
  pub line_is : w.line ≡ line
  pub names_are : w.names ≡ n
  pub scalars_are : w.scalars.items ≡ scalars n nest body
  pub reduction_is : w.reduction.items ≡ nest.reduction
  pub stored_is : w.stored ≡ stored n nest body
  pub marks_are : w.marks ≡ marks_from n (scalars n nest body) (conditions n nest body)
  pub indices_are : w.indices.items ≡ nest_indices nest
  pub over_is : map SubAlong w.over.items ≡ along v nest.loops
  pub beside_is : option_map flat_anchor w.beside ≡ nest_beside nest body

-- where a name lies, and what a text of the nest is, by these numbers
module _ (names marks : ℕ) (scalars reduction indices : List ℕ) where
  abbrev pub place_at : ℕ → ℕ
  place_at = place_of names scalars 0

  abbrev pub mark_at : ℕ → Option ℕ
  mark_at k = if is_in k reduction then None else option_map (λ j. marks + j) (index_in scalars 0 k)

  abbrev pub copied_at : Term → List ℕ
  copied_at t = each_once (of_these scalars (scalars_in t))

  abbrev pub axis_at : List ℕ → ℕ → Option ℕ
  axis_at copies = index_in (indices ++ copies) 0

  abbrev pub text_at : Lined Assigning → NestText
  text_at a = by_side a.line a.text where
    by_side : ℕ → Assigning → NestText
    by_side line (ToScalar k t) = record {
      line = line;
      copies = map place_at (copied_at t);
      names = copied_at t;
      left = CopyLeft (place_at k);
      right = index_form (indexed (axis_at (copied_at t)) t);
      mark = mark_at k;
    }
    by_side line (ToElement a ts t) = record {
      line = line;
      copies = map place_at (copied_at t);
      names = copied_at t;
      left = ElementLeft a (index_subs (all_indexed (axis_at (copied_at t)) ts));
      right = index_form (indexed (axis_at (copied_at t)) t);
      mark = None;
    }

  abbrev pub test_at : Lined Term → NestTest
  test_at c = record {
    line = c.line;
    copies = map place_at (copied_at c.text);
    names = copied_at c.text;
    form = index_form (indexed (axis_at (copied_at c.text)) c.text);
  }

module _ (w : NestNames) where
  abbrev pub over_by : List Sub
  over_by = map SubAlong w.over.items

  abbrev pub beside_by : Option FlatAnchor
  beside_by = option_map flat_anchor w.beside

  abbrev pub place_by : ℕ → ℕ
  place_by = place_at w.names w.marks w.scalars.items w.reduction.items w.indices.items

  abbrev pub mark_by : ℕ → Option ℕ
  mark_by = mark_at w.names w.marks w.scalars.items w.reduction.items w.indices.items

  abbrev pub copied_by : Term → List ℕ
  copied_by = copied_at w.names w.marks w.scalars.items w.reduction.items w.indices.items

  abbrev pub axis_by : List ℕ → ℕ → Option ℕ
  axis_by = axis_at w.names w.marks w.scalars.items w.reduction.items w.indices.items

  abbrev pub text_by : Lined Assigning → NestText
  text_by = text_at w.names w.marks w.scalars.items w.reduction.items w.indices.items

  abbrev pub test_by : Lined Term → NestTest
  test_by = test_at w.names w.marks w.scalars.items w.reduction.items w.indices.items

  -- ---- what statements make

  abbrev pub texts_by : Option ℕ → Lined Assigning → List Instruction
  texts_by = text_instructions w.line over_by beside_by text_by test_by w.stored

  abbrev pub body_by : PlainBody → Option ℕ → (k b pc : ℕ) → List Instruction
  body_by = body_instructions w.line over_by beside_by text_by test_by w.stored

  abbrev pub arms_by : PlainArms → Option ℕ → List ℕ → (k b pc : ℕ) → List Instruction
  arms_by = arms_instructions w.line over_by beside_by text_by test_by w.stored
