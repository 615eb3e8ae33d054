-- The code of a program fits rows, where what each line moves fits them and the code of the same statements that move nothing is valid.
use Rattle.std.proofs.Common.{◌≡◌, ℕ, suc, ◌+◌, ◌*◌, ◌<◌, true, nat_le, nat_lt, List, [], ◌∷◌, ◌++◌, length, pos, Option, Some, None, refl, arith}
use Rattle.std.proofs.lemmas.Bool.{and_from, le-leb}
use Rattle.std.specs.Bool.{⊤}
use Rattle.std.specs.List.{list_all, slice_get}
use Rattle.hpf_base.specs.declared.index.Shape.{Shape}
use Rattle.hpf_base.specs.declared.limits.TheConstants.{MAX_RANK}
use Rattle.array_meaning.specs.Statements as statements
use Rattle.array_meaning.specs.Statements.{Loop, Nest, Mark, Unmarked, Outermost, Block, Done, Then, Statement, AssignScalar, AssignElement, AssignSection, Transform, If, Do, Where, Forall, Stop, Exit, Cycle, Continue, Redistribute, Arms, NoArm, Arm}
use Rattle.node_code.specs.Anchors.{FlatAnchor}
use Rattle.node_code.specs.Flat.{Int}
use Rattle.node_code.specs.Forms.{Sub}
use Rattle.node_code.specs.Instructions.{Instruction, Jump, Verdict, NewMapping, Par, ParForall, ParNest, MakeCopies, ParCopy, ParForallCopy, Reduce, MakeCopy, Remap}
use Rattle.code_meaning.specs.ValidCode.{CodeTable, IsValid, IsValidNodeCode}
use Rattle.program_code.specs.ExpressionCode.{code_of, control_code, control_slots}
use Rattle.nest_syntax.specs.Asked.{tested_asked}
use Rattle.nest_syntax.specs.Finals.{Final}
use Rattle.program_code.specs.NestTexts.{NestText, NestTest}
use Rattle.program_code.specs.NestInstructions as forms
use Rattle.program_code.specs.NestInstructions.{NestBody, NoText, AndText, AndIf, AndLoop, NestArms, AndArm, count_nest, text_instructions, test_instruction, tail_instructions, loop_instructions, body_instructions, arms_instructions, nest_instructions, finals_makes, conditions_makes, finals_instructions}
use Rattle.program_code.specs.NestCode.{plain, nest_beside, text_in, test_in, stored, finals, along, trips_code, indices_code, inner_bounds, nest_code}
use Rattle.nodes_lowered.specs.StatementCode.{marked_code, entry_code, statement_code, arms_code, block_code, program_code}
use Rattle.owner_tables.specs.Views.{TableView}
use Rattle.node_program.specs.Fits.{fits_row, fits_rows}

-- a line that moves nothing
abbrev pub nothing : ℕ → List NewMapping
nothing line = []

-- code over a table without mappings
module _ (table : CodeTable) (none : table.maps ≡ 0) (tables : List TableView) (rows : List Shape) (n : ℕ) (moves : ℕ → List NewMapping)
    (declared : (line : ℕ) → list_all (λ m. nat_lt m.array (length table.shapes)) (moves line) ≡ true)
    (fitting : (line : ℕ) → list_all (fits_row tables rows) (moves line) ≡ true) where
  abbrev Fits : Instruction → Type 0
  Fits i = fits_rows (length table.shapes) tables rows i ≡ true

  -- the second fits, where the first is valid
  abbrev Follows : Instruction → Instruction → Type 0
  Follows i j = IsValid table i → Fits j

  follows : (i : Instruction) → Follows i i
  follows (MakeCopy copy p) h =
      and_from (nat_le (length table.shapes) copy) (nat_le (length p.over) MAX_RANK) (le-leb (length table.shapes) copy h.0.0) (le-leb (length p.over) MAX_RANK h.1.1.0)
  follows (Par p) h = le-leb (length p.over) MAX_RANK h.2.0
  follows (ParForall p) h = le-leb (length p.over) MAX_RANK h.2.0
  follows (ParNest p) h = le-leb (length p.over) MAX_RANK h.over.0
  follows (MakeCopies copy over start beside) h =
      and_from (nat_le (length table.shapes) copy) (nat_le (length over) MAX_RANK) (le-leb (length table.shapes) copy h.0.0) (le-leb (length over) MAX_RANK h.1.0)
  follows (ParCopy copy p) h = le-leb (length p.over) MAX_RANK h.1.1.0
  follows (ParForallCopy copy p) h = le-leb (length p.over) MAX_RANK h.1.1.0
  follows (Reduce p r x) h = le-leb (length p.over) MAX_RANK h.0.1.0
  follows (Remap line []) h = refl
  follows (Remap line (m ∷ new)) h = let below : m.map < table.maps = h.0.0.1 in absurd (omega (arith, below, none))
  follows i h = refl

  abbrev Follow : List Instruction → List Instruction → Type 0
  Follow [] [] = ⊤
  Follow [] (j ∷ js) = ⊥
  Follow (i ∷ is) [] = ⊥
  Follow (i ∷ is) (j ∷ js) = Follows i j × Follow is js

  join : (xs ys xs' ys' : List Instruction) → Follow xs xs' → Follow ys ys' → Follow (xs ++ ys) (xs' ++ ys')
  join [] ys [] ys' h g = g
  join [] ys (x ∷ xs') ys' h g = absurd h
  join (x ∷ xs) ys [] ys' h g = absurd h
  join (x ∷ xs) ys (x' ∷ xs') ys' h g = (h.0, join xs ys xs' ys' h.1 g)

  same : (xs : List Instruction) → Follow xs xs
  same [] = tt
  same (x ∷ xs) = (follows x, same xs)

  after : (xs ys ys' : List Instruction) → Follow ys ys' → Follow (xs ++ ys) (xs ++ ys')
  after xs ys ys' g = join xs ys xs ys' (same xs) g

  -- ---- nests, wherever they stand

  module _ (line : ℕ) (over : List Sub) (beside : Option FlatAnchor) {A C : Type 0} (text_of : A → NestText) (test_of : C → NestTest) (stored : ℕ) where
    mutual
      body-follows : (body : NestBody A C) (guard : Option ℕ) (k b pc pc' : ℕ)
          → Follow (body_instructions line over beside text_of test_of stored body guard k b pc) (body_instructions line over beside text_of test_of stored body guard k b pc')
      body-follows NoText guard k b pc pc' = tt
      body-follows (AndText a rest) guard k b pc pc' = after (text_instructions line over beside text_of test_of stored guard a) _ _ (body-follows rest guard k b _ _)
      body-follows (AndIf arms rest) guard k b pc pc' =
          join (arms_instructions line over beside text_of test_of stored arms guard [] k b pc) _ (arms_instructions line over beside text_of test_of stored arms guard [] k b pc') _
          (nest-arms-follow arms guard [] k b pc pc') (body-follows rest guard _ b _ _)
      body-follows (AndLoop bounds inner rest) guard k b pc pc' =
          let own = body_instructions line over beside text_of test_of stored inner guard k (b + 4) (pc + 5) in
          let own' = body_instructions line over beside text_of test_of stored inner guard k (b + 4) (pc' + 5) in
          join (loop_instructions line bounds b pc own) _ (loop_instructions line bounds b pc' own') _ (
            (λ h. refl),
            (
              (λ h. refl),
              (
                (λ h. refl),
                (
                  (λ h. refl),
                  (
                    (λ h. refl),
                    join own (tail_instructions line bounds b (pc + 5) _) own' (tail_instructions line bounds b (pc' + 5) _) (body-follows inner guard k (b + 4) (pc + 5) (pc' + 5))
                        ((λ h. refl), ((λ h. refl), ((λ h. refl), ((λ h. refl), ((λ h. refl), tt))))),
                  ),
                ),
              ),
            ),
          ) (body-follows rest guard _ b _ _)

      nest-arms-follow : (arms : NestArms A C) (guard : Option ℕ) (earlier : List ℕ) (k b pc pc' : ℕ)
          → Follow (arms_instructions line over beside text_of test_of stored arms guard earlier k b pc) (arms_instructions line over beside text_of test_of stored arms guard earlier k b pc')
      nest-arms-follow forms.NoArm guard earlier k b pc pc' = tt
      nest-arms-follow (AndArm test body others) guard earlier k b pc pc' = (
        follows (MakeCopies (stored + k) over (Int (pos 0)) beside),
        (
          follows (test_instruction line over beside text_of test_of stored (tested_asked guard earlier) test (stored + k)),
          join (body_instructions line over beside text_of test_of stored body (Some k) (k + 1) b (pc + 2)) _ (body_instructions line over beside text_of test_of stored body (Some k) (k + 1) b (pc' + 2)) _
              (body-follows body (Some k) (k + 1) b (pc + 2) (pc' + 2)) (nest-arms-follow others guard (k ∷ earlier) _ b _ _),
        ),
      )

    statements-follow : (fs : List Final) (body : NestBody A C) (b pc pc' : ℕ)
        → Follow (nest_instructions line over beside text_of test_of stored fs body b pc) (nest_instructions line over beside text_of test_of stored fs body b pc')
    statements-follow fs body b pc pc' =
        after (finals_makes line over beside fs ++ conditions_makes line over beside stored (count_nest body)) _ _
        (join (body_instructions line over beside text_of test_of stored body None 0 b _) _ (body_instructions line over beside text_of test_of stored body None 0 b _) _ (body-follows body None 0 b _ _)
        (same (Verdict ∷ finals_instructions line fs)))

  trips-follow : (line v target target' : ℕ) (ls : List Loop) → Follow (trips_code line v target ls) (trips_code line v target' ls)
  trips-follow line v target target' [] = tt
  trips-follow line v target target' (l ∷ ls) = ((λ h. refl), trips-follow line (v + 4) target target' ls)

  indices-follow : (line v target target' : ℕ) (ls : List Loop) → Follow (indices_code line v target ls) (indices_code line v target' ls)
  indices-follow line v target target' [] = tt
  indices-follow line v target target' (l ∷ ls) = ((λ h. refl), ((λ h. refl), ((λ h. refl), indices-follow line (v + 4) target target' ls)))

  nest-follows : (line : ℕ) (nest : Nest) (body : Block) (v pc pc' : ℕ) → Follow (nest_code n line nest body v pc) (nest_code n line nest body v pc')
  nest-follows line nest body v pc pc' =
      after (inner_bounds line v nest.loops) _ _
      (join (trips_code line v _ nest.loops) _ (trips_code line v _ nest.loops) _ (trips-follow line v _ _ nest.loops)
      (join (nest_instructions line (along v nest.loops) (nest_beside nest body) (text_in n nest body) (test_in n nest body) (stored n nest body) (finals n nest body) (plain body) (v + 4 * length nest.loops) _) _
      (nest_instructions line (along v nest.loops) (nest_beside nest body) (text_in n nest body) (test_in n nest body) (stored n nest body) (finals n nest body) (plain body) (v + 4 * length nest.loops) _) _
      (statements-follow line (along v nest.loops) (nest_beside nest body) (text_in n nest body) (test_in n nest body) (stored n nest body) (finals n nest body) (plain body) (v + 4 * length nest.loops) _ _)
      (indices-follow line v _ _ nest.loops)))

  marked-follows : (mark : Mark) (line v pc pc' : ℕ) (loops loops' : List Instruction) → Follow loops loops' → Follow (marked_code n line mark v pc loops) (marked_code n line mark v pc' loops')
  marked-follows Unmarked line v pc pc' loops loops' h = h
  marked-follows (Outermost nest Done) line v pc pc' loops loops' h = h
  marked-follows (Outermost nest (Then l st rest)) line v pc pc' loops loops' h = nest-follows line nest (Then l st rest) v pc pc'

  -- ---- statements, wherever they stand

  mutual
    statement-follows : (st : Statement) (line b pc leave again pc' leave' again' : ℕ)
        → Follow (statement_code n nothing line st b pc leave again) (statement_code n moves line st b pc' leave' again')
    statement-follows (AssignScalar k t) line b pc leave again pc' leave' again' = same (statement_code n nothing line (AssignScalar k t) b pc leave again)
    statement-follows (AssignElement a ts t) line b pc leave again pc' leave' again' = same (statement_code n nothing line (AssignElement a ts t) b pc leave again)
    statement-follows (AssignSection a subs t) line b pc leave again pc' leave' again' = same (statement_code n nothing line (AssignSection a subs t) b pc leave again)
    statement-follows (Transform x y how) line b pc leave again pc' leave' again' = same (statement_code n nothing line (Transform x y how) b pc leave again)
    statement-follows (If arms other) line b pc leave again pc' leave' again' =
        arms-follow arms (λ pc. block_code n nothing other b pc leave again) (λ pc. block_code n moves other b pc leave' again') b pc leave again pc' leave' again'
        (λ pc pc'. block-follows other b pc leave again pc' leave' again')
    statement-follows (Do mark loop body) line b pc leave again pc' leave' again' =
        after (control_code line b loop.control ++ entry_code line mark (b + control_slots loop.control)) _ _ (marked-follows mark line (b + control_slots loop.control) _ _ _ _ (
          (λ h. refl),
          (
            (λ h. refl),
            (
              (λ h. refl),
              (
                (λ h. refl),
                (
                  (λ h. refl),
                  (
                    (λ h. refl),
                    (
                      (λ h. refl),
                      (
                        (λ h. refl),
                        join (block_code n nothing body (b + control_slots loop.control + 4) _ _ _) _ (block_code n moves body (b + control_slots loop.control + 4) _ _ _) _
                            (block-follows body (b + control_slots loop.control + 4) _ _ _ _ _ _) ((λ h. refl), tt),
                      ),
                    ),
                  ),
                ),
              ),
            ),
          ),
        ))
    statement-follows (Where mask body others) line b pc leave again pc' leave' again' = same (statement_code n nothing line (Where mask body others) b pc leave again)
    statement-follows (Forall controls mask body) line b pc leave again pc' leave' again' = same (statement_code n nothing line (Forall controls mask body) b pc leave again)
    statement-follows (statements.Print items) line b pc leave again pc' leave' again' = same (statement_code n nothing line (statements.Print items) b pc leave again)
    statement-follows Stop line b pc leave again pc' leave' again' = ((λ h. refl), tt)
    statement-follows Exit line b pc leave again pc' leave' again' = ((λ h. refl), tt)
    statement-follows Cycle line b pc leave again pc' leave' again' = ((λ h. refl), tt)
    statement-follows Continue line b pc leave again pc' leave' again' = tt
    statement-follows Redistribute line b pc leave again pc' leave' again' = (
      (λ h. and_from (list_all (λ m. nat_lt m.array (length table.shapes)) (moves line)) (list_all (fits_row tables rows) (moves line)) (declared line) (fitting line)),
      tt,
    )

    arms-follow : (arms : Arms) (rest rest' : ℕ → List Instruction) (b pc leave again pc' leave' again' : ℕ) → ((pc pc' : ℕ) → Follow (rest pc) (rest' pc'))
        → Follow (arms_code n nothing arms rest b pc leave again) (arms_code n moves arms rest' b pc' leave' again')
    arms-follow NoArm rest rest' b pc leave again pc' leave' again' h = h pc pc'
    arms-follow (Arm line condition body arms) rest rest' b pc leave again pc' leave' again' h =
        after (code_of line b condition) _ _ (
          (λ h. refl),
          (
            (λ h. refl),
            join (block_code n nothing body b _ leave again) _ (block_code n moves body b _ leave' again') _ (block-follows body b _ leave again _ leave' again')
                ((λ h. refl), arms-follow arms rest rest' b _ leave again _ leave' again' h),
          ),
        )

    block-follows : (bl : Block) (b pc leave again pc' leave' again' : ℕ) → Follow (block_code n nothing bl b pc leave again) (block_code n moves bl b pc' leave' again')
    block-follows Done b pc leave again pc' leave' again' = tt
    block-follows (Then line st rest) b pc leave again pc' leave' again' =
        join (statement_code n nothing line st b pc leave again) _ (statement_code n moves line st b pc' leave' again') _
        (statement-follows st line b pc leave again pc' leave' again') (block-follows rest b _ leave again _ leave' again')

  -- ---- programs

  program-follows : (body : Block) → Follow (program_code n nothing body) (program_code n moves body)
  program-follows body = (
    (λ h. refl),
    (
      (λ h. refl),
      join (block_code n nothing body n 2 1 1) (Jump 1 ∷ []) (block_code n moves body n 2 1 1) (Jump 1 ∷ []) (block-follows body n 2 1 1 2 1 1) ((λ h. refl), tt),
    ),
  )

  all-fit : (is js : List Instruction) → Follow is js → ((at : ℕ) (i : Instruction) → slice_get is at ≡ Some i → IsValid table i)
      → list_all (fits_rows (length table.shapes) tables rows) js ≡ true
  all-fit [] [] h valid = refl
  all-fit [] (j ∷ js) h valid = absurd h
  all-fit (i ∷ is) [] h valid = absurd h
  all-fit (i ∷ is) (j ∷ js) h valid =
      and_from (fits_rows (length table.shapes) tables rows j) (list_all (fits_rows (length table.shapes) tables rows) js) (h.0 (valid 0 i refl))
      (all-fit is js h.1 (λ at. valid (suc at)))

  pub program-code-fits : (body : Block) → IsValidNodeCode table (program_code n nothing body)
      → list_all (fits_rows (length table.shapes) tables rows) (program_code n moves body) ≡ true
  program-code-fits body valid = all-fit (program_code n nothing body) (program_code n moves body) (program-follows body) valid.each
