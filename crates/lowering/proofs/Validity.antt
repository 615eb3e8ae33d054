-- The code of programs is one that nodes can run.
use Rattle.std.proofs.Common.{◌≡◌, ℕ, zero, suc, ◌+◌, ◌≤◌, List, [], ◌∷◌, ◌++◌, length, Bool, true, false, Option, Some, None, slice_get, arith}
use Rattle.std.specs.Bool.{⊤}
use Rattle.std.specs.List.{AllByRecursion}
use Rattle.hpf_base.specs.declared.index.Shape.{Shape}
use Rattle.op_tables.specs.declared.join.Join.TheVariants.{Sum}
use Rattle.op_tables.specs.declared.op.Op.TheVariants as op
use Rattle.op_tables.specs.Operators.{can_divide}
use Rattle.op_tables.specs.Reductions.{reduction_of}
use Rattle.array_meaning.specs.Terms.{Term, Number, Scalar, Index, Element, Section, Apply, Reduce, Terms, NoTerm, More, SectionSubscripts, NoSubscript, Subscript, Triplet, Control}
use Rattle.array_meaning.specs.Statements as statements
use Rattle.array_meaning.specs.Statements.{Mark, Unmarked, Outermost, Item, Text, Value, Elements, SectionAssignment, ElementAssignment, WholeArray, Transformation, CircularShift, Transposition, PrefixSum, Block, Done, Then, Statement, AssignScalar, AssignElement, AssignSection, Transform, If, Do, Where, Forall, Stop, Exit, Cycle, Continue, Redistribute, Arms, NoArm, Arm}
use Rattle.array_meaning.specs.Resolution.{whole}
use Rattle.array_meaning.specs.Transformations.{has_shape}
use Rattle.node_code.specs.Instructions.{NewMapping, Instruction, Remap}
use Rattle.code_meaning.specs.Beside.{Anchor}
use Rattle.code_meaning.specs.Instructions.{ArrayTable, lies_alone, meaning_of}
use Rattle.machine_steps.specs.Layout.{AreOwned, IsDealt, IsInBlocks, Layout}
use Rattle.machine_steps.specs.SameLayouts.{is_same_layout}
use Rattle.machine_steps.specs.Machine.{instr_of}
use Rattle.machine_steps.specs.Agrees.{IsValidInstr, IsValidCode}
use Rattle.node_code.specs.Flat.{Flat}
use Rattle.node_code.specs.Anchors.{FlatAnchor}
use Rattle.node_code.specs.Forms.{Sub}
use Rattle.node_code.specs.Parallel.{When}
use Rattle.program_code.specs.ExpressionCode.{slots_of, parts_slots, subscripts_slots, control_slots, set_if, three_code, code_of, codes_of, subscripts_code, parts_code, all_parts_code, control_code}
use Rattle.program_code.specs.StatementCode.{Masking, marked_code, entry_code, loop_code, item_slots, item_code, items_code, assignment_code, masked_code, triplets, one_to_one_code, forall_mask_code, forall_assignments_code, turn_operands, turn_slots, turn_code, agreed_code, fitted_code, transform_code, statement_code, arms_code, block_code, program_code}
use Rattle.lowered_expressions.specs.WellFormed.{IsScalar, AreScalar, AreScalarSubscripts, IsArray, AreArrays, IsControl, AreControls, AreMasked, AreItems, IsTransformation, IsWellFormed, AreWellFormedArms, IsWellFormedBlock}
use Rattle.program_code.specs.NestCode.{nest_code}
use Rattle.lowering.proofs.NestValidity.{IsOfNests}
use Rattle.lowering.proofs.ValidNests.{each-of-nest}
use Rattle.lowering.proofs.Folding.{fold-is}
use Rattle.lowering.proofs.Wholes.{whole-scalar}

module _ (count n : ℕ) (shapes : List Shape) (table : ArrayTable) (moves : ℕ → List NewMapping) (few : length shapes ≤ n)
    (dealt : (layouts : List Layout) → AreOwned count layouts → (anchor : Option Anchor) (ns : List ℕ) → IsDealt count (table.copies layouts anchor ns))
    (same : (one other : Layout) → is_same_layout one other ≡ true → one ≡ other)
    (blocks : (layout : Layout) → lies_alone table layout ≡ true → IsInBlocks count layout)
    (moving : (line : ℕ) → IsValidInstr count shapes (meaning_of table (Remap line (moves line)))) where
  abbrev AllValid : List Instruction → Type 0
  AllValid [] = ⊤
  AllValid (x ∷ xs) = IsValidInstr count shapes (meaning_of table x) × AllValid xs

  both : (xs ys : List Instruction) → AllValid xs → AllValid ys → AllValid (xs ++ ys)
  both [] ys h g = g
  both (x ∷ xs) ys h g = (h.0, both xs ys h.1 g)

  set-valid : (t : Bool) (line x : ℕ) (f : Flat) → AllValid (set_if t line x f)
  set-valid true line x f = (tt, tt)
  set-valid false line x f = tt

  three-valid : (line v : ℕ) (f1 f2 f3 : Flat) (c1 c2 c3 : List Instruction) → AllValid c1 → AllValid c2 → AllValid c3 → AllValid (three_code line v f1 f2 f3 c1 c2 c3)
  three-valid line v f1 f2 f3 c1 c2 c3 h1 h2 h3 = both c1 _ h1 (both c2 _ h2 (both c3 _ h3 (tt, (tt, (tt, tt)))))

  mutual
    term-valid : (line b : ℕ) (t : Term) → IsScalar n t → AllValid (code_of line b t)
    term-valid line b (Number v) ok = tt
    term-valid line b (Scalar k) ok = tt
    term-valid line b (Index k) ok = tt
    term-valid line b (Element a ts) ok = both (codes_of line b ts) _ (terms-valid line b ts ok.1) (tt, tt)
    term-valid line b (Section a subs) ok = tt
    term-valid line b (Apply o ts) ok = both (codes_of line b ts) _ (terms-valid line b ts ok) (set-valid (can_divide o) line _ _)
    term-valid line b (Reduce o t) ok = both (parts_code line b t) _ (parts-valid line b t ok.1) (tt, (fold-is (reduction_of o).join, tt))

    terms-valid : (line b : ℕ) (ts : Terms) → AreScalar n ts → AllValid (codes_of line b ts)
    terms-valid line b NoTerm ok = tt
    terms-valid line b (More t ts) ok = both (code_of line b t) _ (term-valid line b t ok.0) (terms-valid line (b + slots_of t) ts ok.1)

    subscripts-valid : (line b : ℕ) (subs : SectionSubscripts) → AreScalarSubscripts n subs → AllValid (subscripts_code line b subs)
    subscripts-valid line b NoSubscript ok = tt
    subscripts-valid line b (Subscript t subs) ok = both (code_of line b t) _ (term-valid line b t ok.0) (subscripts-valid line (b + slots_of t) subs ok.1)
    subscripts-valid line b (Triplet f l s subs) ok =
        both (three_code line _ _ _ _ (code_of line b f) (code_of line (b + slots_of f) l) (code_of line (b + slots_of f + slots_of l) s)) _
        (three-valid line _ _ _ _ (code_of line b f) (code_of line (b + slots_of f) l) (code_of line (b + slots_of f + slots_of l) s)
        (term-valid line b f ok.0.0) (term-valid line (b + slots_of f) l ok.0.1) (term-valid line (b + slots_of f + slots_of l) s ok.0.2))
        (tt, subscripts-valid line (b + (slots_of f + (slots_of l + slots_of s)) + 3) subs ok.1)

    parts-valid : (line b : ℕ) (t : Term) → IsArray n t → AllValid (parts_code line b t)
    parts-valid line b (Number v) ok = tt
    parts-valid line b (Scalar k) ok = tt
    parts-valid line b (Index k) ok = tt
    parts-valid line b (Element a ts) ok = both (codes_of line b ts) _ (terms-valid line b ts ok.1) (tt, tt)
    parts-valid line b (Section a subs) ok = subscripts-valid line b subs ok.1
    parts-valid line b (Apply o ts) ok = all-parts-valid line b ts ok
    parts-valid line b (Reduce o t) ok = both (parts_code line b t) _ (parts-valid line b t ok.1) (tt, (fold-is (reduction_of o).join, tt))

    all-parts-valid : (line b : ℕ) (ts : Terms) → AreArrays n ts → AllValid (all_parts_code line b ts)
    all-parts-valid line b NoTerm ok = tt
    all-parts-valid line b (More t ts) ok = both (parts_code line b t) _ (parts-valid line b t ok.0) (all-parts-valid line (b + parts_slots t) ts ok.1)

  control-valid : (line b : ℕ) (c : Control) → IsControl n c → AllValid (control_code line b c)
  control-valid line b c ok =
      three-valid line _ _ _ _ (code_of line b c.first) (code_of line (b + slots_of c.first) c.last) (code_of line (b + slots_of c.first + slots_of c.last) c.step)
      (term-valid line b c.first ok.0) (term-valid line (b + slots_of c.first) c.last ok.1) (term-valid line (b + slots_of c.first + slots_of c.last) c.step ok.2)

  item-valid : (line b : ℕ) (i : Item) (is : List Item) → AreItems n (i ∷ is) → AllValid (item_code line b i)
  item-valid line b (Text bytes) is ok = tt
  item-valid line b (Value t) is ok = term-valid line b t ok.0
  item-valid line b (Elements a subs) is ok = both (subscripts_code line b subs) _ (subscripts-valid line b subs ok.0.1) (tt, (tt, tt))

  items-valid : (line b : ℕ) (is : List Item) → AreItems n is → AllValid (items_code line b is)
  items-valid line b [] ok = tt
  items-valid line b (i ∷ is) ok = both (item_code line b i) _ (item-valid line b i is ok) (items-valid line (b + item_slots i) is ok.1)

  assignment-valid : (line b a : ℕ) (subs : SectionSubscripts) (t : Term) (mask : Option Masking) → AreScalarSubscripts n subs → IsArray n t
      → AllValid (assignment_code line b a subs t mask)
  assignment-valid line b a subs t mask ok ok1 = both (subscripts_code line b subs) _ (subscripts-valid line b subs ok)
      (both (parts_code line (b + subscripts_slots subs) t) _ (parts-valid line (b + subscripts_slots subs) t ok1) (tt, (tt, (tt, tt))))

  masked-valid : (b : ℕ) (m : Masking) (xs : List SectionAssignment) → AreMasked n xs → AllValid (masked_code b m xs)
  masked-valid b m [] ok = tt
  masked-valid b m (x ∷ xs) ok = both (assignment_code x.line b x.array x.subscripts x.right (Some m)) _
      (assignment-valid x.line b x.array x.subscripts x.right (Some m) ok.1 ok.2) (masked-valid b m xs ok.3)

  header-valid : (line b : ℕ) (cs : List Control) → AreControls n cs → AllValid (subscripts_code line b (triplets cs))
  header-valid line b [] ok = tt
  header-valid line b (c ∷ cs) ok =
      both (control_code line b c) _ (control-valid line b c ok.0) (tt, header-valid line (b + control_slots c + 3) cs ok.1)

  one-to-one-valid : (over : List Sub) (xs : List ElementAssignment) → AllValid (one_to_one_code over xs)
  one-to-one-valid over [] = tt
  one-to-one-valid over (x ∷ xs) = (tt, one-to-one-valid over xs)

  forall-mask-valid : (line : ℕ) (over : List Sub) (beside : Option FlatAnchor) (mask : Option Term) → AllValid (forall_mask_code n line over beside mask)
  forall-mask-valid line over beside None = tt
  forall-mask-valid line over beside (Some t) = ((few, λ layouts declared owned slots. dealt layouts owned _ _), (tt, (tt, tt)))

  forall-assignments-valid : (over : List Sub) (mask : Option When) (beside : Option FlatAnchor) (xs : List ElementAssignment) → AllValid (forall_assignments_code over mask beside xs)
  forall-assignments-valid over mask beside [] = tt
  forall-assignments-valid over mask beside (x ∷ xs) = (tt, (tt, forall-assignments-valid over mask beside xs))

  turn-valid : (line b : ℕ) (x : WholeArray) (how : Transformation) → IsTransformation n how → AllValid (turn_code line b x how)
  turn-valid line b x (CircularShift by) ok = term-valid line b (Apply op.Modulo (turn_operands x by)) (ok, (tt, tt))
  turn-valid line b x Transposition ok = tt
  turn-valid line b x PrefixSum ok = tt

  agreed-valid : (line b b1 b2 : ℕ) (x y : WholeArray) (how : Transformation) → AllValid (agreed_code n line b b1 b2 x y how)
  agreed-valid line b b1 b2 x y (CircularShift by) = (tt, tt)
  agreed-valid line b b1 b2 x y Transposition = (tt, tt)
  agreed-valid line b b1 b2 x y PrefixSum =
      both (subscripts_code line b2 (whole y.dims)) _ (subscripts-valid line b2 (whole y.dims) (whole-scalar n y.dims))
      ((few, λ layouts declared owned slots. dealt layouts owned _ _), (tt, ((fold-is Sum, blocks), (tt, tt))))

  fitted-valid : (fits : Bool) (line b b1 b2 : ℕ) (x y : WholeArray) (how : Transformation) → AllValid (fitted_code fits n line b b1 b2 x y how)
  fitted-valid true line b b1 b2 x y how = agreed-valid line b b1 b2 x y how
  fitted-valid false line b b1 b2 x y how =
      both (subscripts_code line b2 (whole y.dims)) _ (subscripts-valid line b2 (whole y.dims) (whole-scalar n y.dims)) (tt, tt)

  transform-valid : (line b : ℕ) (x y : WholeArray) (how : Transformation) → IsTransformation n how → AllValid (transform_code n line b x y how)
  transform-valid line b x y how ok =
      let b1 : ℕ = b + turn_slots x how in
      both (turn_code line b x how) _ (turn-valid line b x how ok)
      (both (subscripts_code line b1 (whole x.dims)) _ (subscripts-valid line b1 (whole x.dims) (whole-scalar n x.dims))
      (fitted-valid (has_shape x y how) line b b1 (b1 + subscripts_slots (whole x.dims)) x y how))

  entry-valid : (line : ℕ) (mark : Mark) (v : ℕ) → AllValid (entry_code line mark v)
  entry-valid line Unmarked v = tt
  entry-valid line (Outermost nest body) v = (tt, (tt, tt))

  nest-instructions-valid : (line : ℕ) → IsOfNests (λ x. IsValidInstr count shapes (meaning_of table x)) line n
  nest-instructions-valid line = record {
    set = λ x f. tt;
    trips = λ first last step left target. tt;
    jump = λ target. tt;
    jump_if = λ target x. tt;
    par = λ p. tt;
    makes = λ copy over start beside le. (omega (arith, few, le), λ layouts declared owned slots. dealt layouts owned _ _);
    verdict = tt;
    folds = λ copy j x. fold-is j;
    lasts = λ copy set x. same;
  }

  marked-valid : (line : ℕ) (mark : Mark) (v pc : ℕ) (loops : List Instruction) → AllValid loops → AllValid (marked_code n line mark v pc loops)
  marked-valid line Unmarked v pc loops h = h
  marked-valid line (Outermost nest Done) v pc loops h = h
  marked-valid line (Outermost nest (Then l st rest)) v pc loops h =
      all-valid (nest_code n line nest (Then l st rest) v pc)
      (each-of-nest (λ x. IsValidInstr count shapes (meaning_of table x)) line n (nest-instructions-valid line) nest (Then l st rest) v pc)
    where
      all-valid : (xs : List Instruction) → AllByRecursion (λ x. IsValidInstr count shapes (meaning_of table x)) xs → AllValid xs
      all-valid [] h = tt
      all-valid (x ∷ xs) h = (h.0, all-valid xs h.1)

  mutual
    statement-valid : (st : Statement) (line b pc leave again : ℕ) → IsWellFormed n st → AllValid (statement_code n moves line st b pc leave again)
    statement-valid (AssignScalar k t) line b pc leave again ok = both (code_of line b t) _ (term-valid line b t ok.1) (tt, tt)
    statement-valid (AssignElement a ts t) line b pc leave again ok = both (codes_of line b ts) _ (terms-valid line b ts ok.1)
        (tt, both (code_of line _ t) _ (term-valid line _ t ok.2) (tt, tt))
    statement-valid (AssignSection a subs t) line b pc leave again ok = assignment-valid line b a subs t None ok.1 ok.2
    statement-valid (Transform x y how) line b pc leave again ok = transform-valid line b x y how ok.2
    statement-valid (If arms other) line b pc leave again ok = arms-valid arms _ b pc leave again ok.0 (λ pc. block-valid other b pc leave again ok.1)
    statement-valid (Do mark loop body) line b pc leave again ok =
        let v : ℕ = b + control_slots loop.control in
        let c = control_code line b loop.control ++ entry_code line mark v in
        both c _ (both (control_code line b loop.control) _ (control-valid line b loop.control ok.1) (entry-valid line mark v))
        (marked-valid line mark v (pc + length c) (loop_code line (pc + length c) v loop.index (block_code n moves body (v + 4)))
        (tt, (tt, (tt, (tt, (tt, (tt, (tt, (tt, both (block_code n moves body (v + 4) _ _ _) _ (block-valid body (v + 4) _ _ _ ok.2) (tt, tt))))))))))
    statement-valid (Where mask body others) line b pc leave again ok =
        both (parts_code line b mask) _ (parts-valid line b mask ok.0) (
          tt,
          (
            (few, λ layouts declared owned slots. dealt layouts owned _ _),
            (tt, (tt, both (masked_code (b + parts_slots mask) _ body) _ (masked-valid (b + parts_slots mask) _ body ok.1) (masked-valid (b + parts_slots mask) _ others ok.2))),
          ),
        )
    statement-valid (Forall controls mask body) line b pc leave again ok =
        both (subscripts_code line b (triplets controls)) _ (header-valid line b controls ok.0) (
          tt,
          both (one_to_one_code _ body) _ (one-to-one-valid _ body)
              (both (forall_mask_code n line _ _ mask) _ (forall-mask-valid line _ _ mask) (forall-assignments-valid _ _ _ body)),
        )
    statement-valid (statements.Print items) line b pc leave again ok = both (items_code line b items) _ (items-valid line b items ok) (tt, tt)
    statement-valid Stop line b pc leave again ok = (tt, tt)
    statement-valid Exit line b pc leave again ok = (tt, tt)
    statement-valid Cycle line b pc leave again ok = (tt, tt)
    statement-valid Continue line b pc leave again ok = tt
    statement-valid Redistribute line b pc leave again ok = (moving line, tt)

    arms-valid : (arms : Arms) (rest : ℕ → List Instruction) (b pc leave again : ℕ) → AreWellFormedArms n arms → ((pc : ℕ) → AllValid (rest pc))
        → AllValid (arms_code n moves arms rest b pc leave again)
    arms-valid NoArm rest b pc leave again ok h = h pc
    arms-valid (Arm line cond body arms) rest b pc leave again ok h =
        both (code_of line b cond) _ (term-valid line b cond ok.0)
        (tt, (tt, both (block_code n moves body b _ leave again) _ (block-valid body b _ leave again ok.1) (tt, arms-valid arms rest b _ leave again ok.2 h)))

    block-valid : (bl : Block) (b pc leave again : ℕ) → IsWellFormedBlock n bl → AllValid (block_code n moves bl b pc leave again)
    block-valid Done b pc leave again ok = tt
    block-valid (Then line st rest) b pc leave again ok = both (statement_code n moves line st b pc leave again) _ (statement-valid st line b pc leave again ok.0)
        (block-valid rest b _ leave again ok.1)

  at-valid : (xs : List Instruction) (at : ℕ) → AllValid xs → IsValidInstr count shapes (instr_of (meaning_of table) (slice_get xs at))
  at-valid [] at h = tt
  at-valid (x ∷ xs) zero h = h.0
  at-valid (x ∷ xs) (suc k) h = at-valid xs k h.1

  pub code-valid : (body : Block) → IsWellFormedBlock n body → IsValidCode (meaning_of table) count shapes (program_code n moves body)
  code-valid body ok at = at-valid (program_code n moves body) at (tt, (tt, both (block_code n moves body n 2 1 1) _ (block-valid body n 2 1 1 ok) (tt, tt)))
