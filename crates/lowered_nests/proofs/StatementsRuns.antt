-- The statements of a nest that has an iteration end on the machine as the meaning's run of it does.
use Rattle.std.proofs.Common.{◌≡◌, ℕ, ◌+◌, ◌*◌, ◌≤◌, ◌⊎◌, List, [], length, map, Bool, true, false, if◌then◌else◌, Option, Some, None, refl, sym, ap, ◌∙◌, subst, arith, eqb-true}
use Rattle.std.specs.Prelude.{◌&&◌, ◌==◌}
use Rattle.std.proofs.lemmas.List.{length-map}
use Rattle.storage.specs.Storage.{Storage}
use Rattle.array_meaning.specs.State.{State}
use Rattle.array_meaning.specs.Statements.{Loop, Nest, Block}
use Rattle.array_meaning.specs.Faults.{Fault}
use Rattle.array_meaning.specs.Iterations.{is_in, nest_axes, nest_indices, iteration_count}
use Rattle.array_meaning.specs.Touches.{assigned_in}
use Rattle.statement_trail.specs.NestParts.{among_from, conditions_in, entered_nest, index_in, nest_anchor}
use Rattle.statement_trail.specs.Trail.{block_parts, nest_trail}
use Rattle.machine_steps.specs.Instr.{Faulted}
use Rattle.machine_steps.specs.Machine.{steps}
use Rattle.lowered_expressions.specs.Passed.{passed, IsTrail}
use Rattle.lowered_expressions.proofs.Reach as reach
use Rattle.lowered_expressions.proofs.Reach.{Idle, HasAt}
use Rattle.nest_syntax.specs.NestKinds.{has_copies}
use Rattle.node_code.specs.Instructions.{Instruction, NewMapping}
use Rattle.code_meaning.specs.Instructions.{ArrayTable, meaning_of}
use Rattle.nest_machine.specs.Stands as stands
use Rattle.nest_machine.specs.Finals.{NotAmong}
use Rattle.program_code.specs.NestInstructions.{nest_instructions}
use Rattle.nest_join.proofs.Codes.{nest-means}
use Rattle.node_code.specs.Forms.{Sub}
use Rattle.nest_join.specs.NestNames.{NestNames}
use Rattle.nest_join.specs.NestTexts.{text_of, test_of}
use Rattle.nest_join.specs.CodedBlocks.{IsCodedBlock, coded}
use Rattle.nest_join.specs.NestRuns.{NestCode, IsBegun, code_of}
use Rattle.program_code.specs.Places.{AreScalars}
use Rattle.nest_join.proofs.RowPlaces.{lt-so, not-among}
use Rattle.program_code.specs.NestCode.{nest_beside, plain, text_in, test_in, scalars, conditions, kinds_in, stored, finals, along}
use Rattle.lowered_nests.proofs.NestRuns.{HasCopies, NestStands, StatementsRun, place_after}
use Rattle.lowered_nests.proofs.PlainCode.{same-nest}
use Rattle.lowered_nests.proofs.CodedTexts.{same-block}
use Rattle.lowered_nests.proofs.CodeLies.{safe-block}
use Rattle.lowered_nests.proofs.NestTrails.{is_before, has-meant, trail-passed}
use Rattle.lowered_nests.proofs.Listed.{is-in}
use Rattle.lowered_nests.proofs.Begun as begun
use Rattle.lowered_nests.proofs.Starts.{begins}
use Rattle.lowered_nests.proofs.StatementsEnds.{NestBegins, data_in, statements-end}

module _ (table : ArrayTable) (row_count : ℕ) (moves : ℕ → List NewMapping) (code : List Instruction) (n many : ℕ) (lie : HasCopies table n)
    (line pc v : ℕ) (nest : Nest) (loop : Loop) (block body : Block) (s : State) (slots : List _) (rows : Storage)
    (h : NestStands table row_count moves code n many line pc v nest loop block body s slots rows) (some : iteration_count nest s ≡ 0 → ⊥) where
  abbrev over : List Sub
  over = along v nest.loops

  abbrev b : ℕ
  b = v + 4 * length nest.loops

  abbrev w : NestNames
  w = begun.w table row_count moves code n many lie line pc v nest loop block body s slots rows h some

  abbrev c : NestCode
  c = begun.c table row_count moves code n many lie line pc v nest loop block body s slots rows h some

  abbrev ok : IsCodedBlock w s [] body
  ok = begun.ok table row_count moves code n many lie line pc v nest loop block body s slots rows h some

  are : AreScalars n (scalars n nest body)
  are = begun.are table row_count moves code n many lie line pc v nest loop block body s slots rows h some

  abbrev instructions : List Instruction
  instructions = nest_instructions line over (nest_beside nest body) (text_in n nest body) (test_in n nest body) (stored n nest body) (finals n nest body) (plain body) b pc

  means : map (meaning_of table) instructions ≡ code_of w c s body ok
  means =
      ap (map (meaning_of table)) (sym (same-nest (text_of w) (text_in n nest body) (test_of w) (test_in n nest body) line over (nest_beside nest body) (stored n nest body) (finals n nest body)
      (coded w s [] body ok) (plain body) (same-block table n nest body over w.is_index s [] body ok) b pc))
      ∙ nest-means table line over (nest_beside nest body) (text_of w) (test_of w) (stored n nest body) (finals n nest body) (coded w s [] body ok) b pc (safe-block w s [] body ok)

  abbrev end : ℕ
  end = place_after n line pc v nest body

  has-code : stands.HasAt (meaning_of table) code (is_before end) pc (code_of w c s body ok)
  has-code = subst (stands.HasAt (meaning_of table) code (is_before end) pc) means (has-meant table code end pc instructions (omega arith) h.has)

  begun-at : (i : Idle row_count) → IsBegun (meaning_of table) code (is_before end) w c h.form.all s loop block body ok
      (begun.start table row_count moves code n many lie line pc v nest loop block body s slots rows h some) slots (data_in rows i)
  begun-at i = begins table row_count moves code n many lie line pc v nest loop block body s slots rows h some (is_before end) i has-code

  -- ---- what is passed

  abbrev instructions_of_texts : List Instruction
  instructions_of_texts = nest_instructions line over (nest_beside nest body) (text_of w) (test_of w) (stored n nest body) (finals n nest body) (coded w s [] body ok) b pc

  same-instructions : instructions_of_texts ≡ instructions
  same-instructions =
      same-nest (text_of w) (text_in n nest body) (test_of w) (test_in n nest body) line over (nest_beside nest body) (stored n nest body) (finals n nest body)
      (coded w s [] body ok) (plain body) (same-block table n nest body over w.is_index s [] body ok) b pc

  listed : (k : ℕ) → has_copies (w.kinds k) ≡ true → is_in k (scalars n nest body) ≡ true
  listed k e = let z = begun.listed table row_count moves code n many lie line pc v nest loop block body s slots rows h some k e in is-in (scalars n nest body) 0 k z.0 z.1

  trail-is : block_parts (record { indices = nest_indices nest; axes = nest_axes s nest; assigned = scalars n nest body; conditions = conditions_in body; beside = nest_anchor nest body }) None 0 body s ≡ nest_trail nest body s
  trail-is =
      ap (λ m. block_parts (record { indices = nest_indices nest; axes = nest_axes s nest; assigned = among_from (assigned_in body) 0 m; conditions = conditions_in body; beside = nest_anchor nest body }) None 0 body s)
      (sym h.holds.places)
      ∙ by_test (iteration_count nest s == 0) refl
    where
      by_test : (t : Bool) → (iteration_count nest s == 0) ≡ t → block_parts (entered_nest nest body s) None 0 body s ≡ (if t then [] else block_parts (entered_nest nest body s) None 0 body s)
      by_test true e = absurd (some (eqb-true (iteration_count nest s) 0 e))
      by_test false e = refl

  abbrev Passed : Idle row_count → ℕ → ℕ → Type 0
  Passed i k to = stands.StaysQuiet (meaning_of table) (is_before to) k (reach.stands table row_count moves code pc slots rows s.printed i)
      → ((steps (meaning_of table) k (reach.stands table row_count moves code pc slots rows s.printed i)).control.at ≡ to)
      ⊎ ((f : Fault) × ((steps (meaning_of table) k (reach.stands table row_count moves code pc slots rows s.printed i)).control.status ≡ Faulted f))
      → IsTrail moves (passed table k (reach.stands table row_count moves code pc slots rows s.printed i)) (nest_trail nest body s)

  parts-passed : (i : Idle row_count) (k : ℕ) → Passed i k end
  parts-passed i k =
      subst (λ is. Passed i k (pc + length is)) same-instructions
      (λ quiet ends. subst (IsTrail moves (passed table k (reach.stands table row_count moves code pc slots rows s.printed i))) trail-is
      (trail-passed table moves code line n nest body over w.is_index b pc slots s (begun-at i).holds
      (begun-at i).outside listed (begun.gives table row_count moves code n many lie line pc v nest loop block body s slots rows h some)
      (begun.anchored table row_count moves code n many lie line pc v nest loop block body s slots rows h some) h.holds.scalars ok (finals n nest body) (begun-at i).room
      (subst (HasAt code pc) (sym same-instructions) h.has)
      (record { rows = rows; layouts = i.layouts; kept = None; parts = i.parts; joined = i.joined; line = []; printed = s.printed }) k quiet ends))

  off-finals : (x : ℕ) → n ≤ x → NotAmong x (finals n nest body)
  off-finals x le = not-among n (scalars n nest body) (conditions n nest body) are (kinds_in n nest body) (scalars n nest body) 0 0 x (by_place (index_in (scalars n nest body) 0 x) refl)
    where
      by_place : (o : Option ℕ) → index_in (scalars n nest body) 0 x ≡ o → o ≡ None
      by_place None e = refl
      by_place (Some j) e = let z = are.below x j e in absurd (omega (arith, z, le))

  both-so : (t : Bool) → (t && true) ≡ t
  both-so true = refl
  both-so false = refl

  nest-begins : NestBegins table row_count moves code n many line pc v nest loop block body s slots rows h
  nest-begins = record {
    is_index = w.is_index;
    same_index = λ k lt. ap (λ t. h.form.all k && t) (lt-so k n lt) ∙ both-so (h.form.all k);
    no_index = begun.outside table row_count moves code n many lie line pc v nest loop block body s slots rows h some;
    ok = ok;
    start = begun.start table row_count moves code n many lie line pc v nest loop block body s slots rows h some;
    begun = begun-at;
    held = begun.rows-held table row_count moves code n many lie line pc v nest loop block body s slots rows h some;
    have = begun.finals-are table row_count moves code n many lie line pc v nest loop block body s slots rows h some;
    free = (begun.formed table row_count moves code n many lie line pc v nest loop block body s slots rows h some).quiet;
    named = off-finals;
    trail = parts-passed;
    long = ap length (sym means) ∙ length-map instructions (meaning_of table);
  }

pub statements-run : StatementsRun
statements-run table row_count moves code n many copies declared line pc v nest loop block body s slots rows h some =
    statements-end table row_count moves code n many copies line pc v nest loop block body s slots rows h
    (nest-begins table row_count moves code n many copies line pc v nest loop block body s slots rows h some) some
