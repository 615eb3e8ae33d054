-- The code of an array expression evaluates its parts once.
use Rattle.lowering.proofs.Evaluating.{reduce-comes}
use Rattle.node_code.specs.Instructions.{NewMapping, Instruction, Fetch, Set, TestStride}
use Rattle.code_meaning.specs.Instructions.{go_on_if, meaning_of, ArrayTable}
use Rattle.std.proofs.Common.{◌≡◌, ℕ, ◌+◌, ◌<◌, ◌≤◌, List, [], ◌∷◌, ◌++◌, length, ℤ, pos, Bool, true, false, if◌then◌else◌, Some, None, Result, Ok, Err, append_assoc, append-nil, refl, sym, ap, ◌∙◌, subst, arith, length-append, slice_get, slice_set, length-set}
use Rattle.array_meaning.specs.Elementals.{reduction, Elemental, Same, Selected, Operation, Elementals, NoOperand, Operand}
use Rattle.array_meaning.specs.Expressions.{values, value, selections, elemental, elementals}
use Rattle.array_meaning.specs.Faults.{Cause, ◌>>=◌, fails}
use Rattle.array_meaning.specs.Sections.{sequence, sequence_of, value_count}
use Rattle.array_meaning.specs.State.{State, scalar, element}
use Rattle.array_meaning.specs.Terms.{Term, Number, Scalar, Index, Element, Section, Apply, Reduce, Terms, NoTerm, More, SectionSubscripts, NoSubscript, Subscript, Triplet, Control}
use Rattle.array_meaning.specs.declared.faults.FaultKind.TheVariants.{ZeroStride}
use Rattle.array_meaning.specs.declared.sections.Selection.{Selection}
use Rattle.array_meaning.specs.declared.sections.Selection.TheVariants.{At, Along}
use Rattle.array_meaning.specs.declared.sections.Sequence.{Sequence}
use Rattle.lowered_expressions.proofs.Goes.{set-reaches}
use Rattle.statement_trail.specs.Trail.{Trail, Reduced, after_value, over_own_space, value_trail, values_trail, elemental_trail, elementals_trail, selections_trail, control_trail}
use Rattle.lowered_expressions.proofs.Reach.{still, comes-as, comes-last, Idle, HasAt, has-front, has-back, SameBelow, same-refl, same-on, same-set, slot-set, Reaches, reaches-on, stands, one, Comes, comes-on, comes-then, comes-at, comes-but, comes-here}
use Rattle.lowered_expressions.proofs.Scatter.{NamesBelow, AllNameBelow}
use Rattle.lowered_expressions.proofs.Terms.{HoldsScalars, HoldsArrays, holds-same, Gives, GiveAll, nothing, fetch-comes, apply-comes}
use Rattle.program_code.specs.ExpressionCode.{all_slots_of, flats_of, codes_of, set_if, reduce_code, slots_of, flat_of, code_of, control_slots, control_code, triplet, subscripts_slots, subs_of, subscripts_code, parts_slots, all_parts_slots, form_of, forms_of, parts_code, all_parts_code}
use Rattle.lowered_expressions.specs.WellFormed.{IsArray, AreArrays, AreScalarSubscripts, IsScalar, AreScalar}
use Rattle.machine_steps.specs.Instr.{Running}
use Rattle.machine_steps.specs.Machine.{steps}
use Rattle.storage.specs.Storage.{Storage}
use Rattle.code_meaning.specs.Flat.{slot, flat_values, or_zero}
use Rattle.node_code.specs.Flat.{Flat, Int, Slot, NoFlat, Operated}
use Rattle.node_code.specs.Forms.{Sub, SubAt, SubAlong, ArrayForm, FlatForm, SectionForm, OperationForm, Forms, NoForm}
use Rattle.code_meaning.specs.Forms.{selections_in, elemental_in, elementals_in, sequence_in}
use Rattle.code_meaning.specs.Parallel.{at_line}
use Rattle.op_tables.specs.Operators.{wrapped, is_zero, can_divide}

-- what comes after a value that is made of another one
pub after-ok : {A B : Type 0} (q : Result A Cause) (g : A → B) (X : Trail) → after_value (q >>= (λ a. Ok (g a))) (λ b. X) ≡ after_value q (λ a. X)
after-ok (Ok a) g X = refl
after-ok (Err c) g X = refl

-- a triplet and what follows it
pub triplet-trail : (F L S : Trail) (r1 r2 r3 : Result ℤ Cause) (X : Trail) → F ++ after_value r1 (λ a. L ++ after_value r2 (λ b. S ++ after_value (sequence_of (Ok a) (Ok b) r3) (λ p. X)))
    ≡ (F ++ after_value r1 (λ a. L ++ after_value r2 (λ b. S))) ++ after_value (sequence_of r1 r2 r3 >>= (λ p. Ok (Along p))) (λ d. X)
triplet-trail F L S (Err c) r2 r3 X = sym (append-nil (F ++ []))
triplet-trail F L S (Ok a) (Err c) r3 X = sym (append-nil (F ++ (L ++ [])))
triplet-trail F L S (Ok a) (Ok b) r3 X =
    ap (λ T. F ++ (L ++ (S ++ T))) (sym (after-ok (r3 >>= sequence a b) Along X))
    ∙ ap (λ T. F ++ T) (sym (append_assoc L S (after_value (r3 >>= sequence a b >>= (λ p. Ok (Along p))) (λ d. X))))
    ∙ sym (append_assoc F (L ++ S) (after_value (r3 >>= sequence a b >>= (λ p. Ok (Along p))) (λ d. X)))

-- what the slots give, whatever becomes of those from b on
abbrev pub SequenceGives : ℕ → ℕ → List ℤ → Sequence → Type 0
SequenceGives b v slots p = (later : List ℤ) → SameBelow b slots later → sequence_in later v ≡ p

abbrev pub SubsGive : ℕ → List Sub → List ℤ → List Selection → Type 0
SubsGive b subs slots ds = (later : List ℤ) → SameBelow b slots later → selections_in later subs ≡ ds

abbrev pub FormGives : ℕ → ℕ → ArrayForm → List ℤ → Elemental → Type 0
FormGives n b f slots r = ((later : List ℤ) → SameBelow b slots later → elemental_in later f ≡ r) × NamesBelow n r

abbrev pub FormsGive : ℕ → ℕ → Forms → List ℤ → Elementals → Type 0
FormsGive n b fs slots rs = ((later : List ℤ) → SameBelow b slots later → elementals_in later fs ≡ rs) × AllNameBelow n rs

module _ (table : ArrayTable) (row_count : ℕ) (moves : ℕ → List NewMapping) (code : List Instruction) (line n : ℕ) (s : State) (rows : Storage) (out : List ℕ) (arrays : HoldsArrays n table.shapes s rows) where
  -- three numbers are put into slots, and the step is tested
  module _ (v pc : ℕ) (f1 f2 f3 : Flat) (has : HasAt code pc (Set line v f1 ∷ Set line (v + 1) f2 ∷ Set line (v + 2) f3 ∷ TestStride line (v + 2) ∷ [])) where
    fill-comes : (slots : List ℤ) (a z d : ℤ) → v + 3 ≤ length slots → Gives v f1 slots a → Gives v f2 slots z → Gives v f3 slots d → Comes table row_count moves code line rows out [] pc
        (pc + 4) v slots (SequenceGives (v + 3) v) (sequence a z d)
    fill-comes slots a z d few g1 g2 g3 =
        comes-on table row_count moves code line rows out [] [] pc pc3 (pc + 4) v v slots s3 (SequenceGives (v + 3) v) (sequence a z d) (omega arith)
        (reaches-on table row_count moves code (stands table row_count moves code pc slots rows out) (stands table row_count moves code (pc + 1) s1 rows out) (stands table row_count moves code pc3 s3 rows out) r1
        (reaches-on table row_count moves code (stands table row_count moves code (pc + 1) s1 rows out) (stands table row_count moves code (pc + 1 + 1) s2 rows out) (stands table row_count moves code pc3 s3 rows out) r2 r3))
        (same-on v v v slots s2 s3 (omega arith) (omega arith)
        (same-on v v v slots s1 s2 (omega arith) (omega arith) (same-set v v slots a (omega arith)) (same-set v (v + 1) s1 z (omega arith)))
        (same-set v (v + 2) s2 d (omega arith)))
        (by_step (is_zero d)
        (λ i. one table row_count moves code pc3 s3 rows out (TestStride line (v + 2)) has.1.1.1.0 i
        ∙ ap (λ d. record (stands table row_count moves code pc3 s3 rows out i) {
          control = go_on_if {A = ℕ} (at_line line (if is_zero d then fails ZeroStride else Ok 0))
              (record { at = pc3; slots = s3; status = Running });
        }) n3))
      where
        pc3 : ℕ
        pc3 = pc + 1 + 1 + 1

        s1 : List ℤ
        s1 = slice_set slots v a

        s2 : List ℤ
        s2 = slice_set s1 (v + 1) z

        s3 : List ℤ
        s3 = slice_set s2 (v + 2) d

        r1 : Reaches table row_count moves code [] (stands table row_count moves code pc slots rows out) (stands table row_count moves code (pc + 1) s1 rows out)
        r1 = set-reaches table row_count moves code n n None line pc v slots rows out f1 a has.0 (g1 slots (same-refl v slots))

        r2 : Reaches table row_count moves code [] (stands table row_count moves code (pc + 1) s1 rows out) (stands table row_count moves code (pc + 1 + 1) s2 rows out)
        r2 = set-reaches table row_count moves code n n None line (pc + 1) (v + 1) s1 rows out f2 z has.1.0 (g2 s1 (same-set v v slots a (omega arith)))

        r3 : Reaches table row_count moves code [] (stands table row_count moves code (pc + 1 + 1) s2 rows out) (stands table row_count moves code pc3 s3 rows out)
        r3 = set-reaches table row_count moves code n n None line (pc + 1 + 1) (v + 2) s2 rows out f3 d has.1.1.0
            (g3 s2 (same-on v v v slots s1 s2 (omega arith) (omega arith) (same-set v v slots a (omega arith)) (same-set v (v + 1) s1 z (omega arith))))

        n1 : slot s3 v ≡ a
        n1 = sym ((same-set (v + 1) (v + 2) s2 d (omega arith)).1 v (omega arith)) ∙ sym ((same-set (v + 1) (v + 1) s1 z (omega arith)).1 v (omega arith))
            ∙ slot-set v slots a (omega (arith, few))

        n2 : slot s3 (v + 1) ≡ z
        n2 = sym ((same-set (v + 2) (v + 2) s2 d (omega arith)).1 (v + 1) (omega arith)) ∙ slot-set (v + 1) s1 z (omega (arith, few, length-set slots v a))

        n3 : slot s3 (v + 2) ≡ d
        n3 = slot-set (v + 2) s2 d (omega (arith, few, length-set slots v a, length-set s1 (v + 1) z))

        gives : SequenceGives (v + 3) v s3 (record { first = a; step = d; count = value_count (wrapped a) (wrapped z) (wrapped d) })
        gives later same = rw (sym (same.1 v (omega arith)), sym (same.1 (v + 1) (omega arith)), sym (same.1 (v + 2) (omega arith)), n1, n2, n3) refl

        by_step : (t : Bool)
            → ((i : Idle row_count) → steps (meaning_of table) 1 (stands table row_count moves code pc3 s3 rows out i)
            ≡ record (stands table row_count moves code pc3 s3 rows out i) {
              control = go_on_if {A = ℕ} (at_line line (if t then fails ZeroStride else Ok 0))
                  (record { at = pc3; slots = s3; status = Running });
            })
            → Comes table row_count moves code line rows out [] pc3 (pc + 4) v s3 (SequenceGives (v + 3) v)
            (if t then fails ZeroStride else Ok record { first = a; step = d; count = value_count (wrapped a) (wrapped z) (wrapped d) })
        by_step false g = let e : pc3 + 1 ≡ pc + 4 = omega arith in
            (s3, subst (λ p. Reaches table row_count moves code [] (stands table row_count moves code pc3 s3 rows out) (stands table row_count moves code p s3 rows out)) e (λ i. (1, i, g i, still table row_count moves code pc3 s3 rows out (TestStride line (v + 2)) has.1.1.1.0 refl i)), same-refl v s3, gives)
        by_step true g = λ i. (_, (1, g i, still table row_count moves code pc3 s3 rows out (TestStride line (v + 2)) has.1.1.1.0 refl i), refl, refl, refl)

  -- a triplet
  -- the code of a term evaluates it, wherever it stands
  abbrev pub Evaluates : Term → Type 0
  Evaluates t = (pc b : ℕ) (slots : List ℤ) → HasAt code pc (code_of line b t) → HoldsScalars n s slots → n ≤ b → b + slots_of t ≤ length slots
      → Comes table row_count moves code line rows out (value_trail line s t) pc (pc + length (code_of line b t)) b slots (Gives (b + slots_of t) (flat_of b t)) (value [] s t)

  triplet-comes : (c : Control) (pc b : ℕ) (slots : List ℤ) (rest : List Instruction) → Evaluates c.first × Evaluates c.last × Evaluates c.step
      → HasAt code pc (control_code line b c ++ TestStride line (b + control_slots c + 2) ∷ rest) → HoldsScalars n s slots → n ≤ b → b + control_slots c + 3 ≤ length slots
      → Comes table row_count moves code line rows out (control_trail line s c) pc (pc + length (control_code line b c) + 1) b slots (SequenceGives (b + control_slots c + 3) (b + control_slots c))
      (sequence_of (value [] s c.first) (value [] s c.last) (value [] s c.step))
  triplet-comes c pc b slots rest ok has holds le few =
      comes-at table row_count moves code line rows out (control_trail line s c) pc (pc3 + 4) (pc + length (control_code line b c) + 1) b slots P
      (sequence_of (value [] s c.first) (value [] s c.last) (value [] s c.step)) long
      (comes-then table row_count moves code line rows out (value_trail line s c.first) (λ a. value_trail line s c.last ++ after_value (value [] s c.last) (λ z. value_trail line s c.step)) pc pc1 (pc3 + 4) b b1 slots (Gives b1 f1) P (value [] s c.first)
      (λ a. value [] s c.last >>= (λ z. value [] s c.step >>= sequence a z)) (omega arith)
      (ok.0 pc b slots (has-front code pc c1 (c2 ++ (c3 ++ sets)) h) holds le (omega (arith, few)))
      (λ slots1 a e1 same1 gives1.
      comes-then table row_count moves code line rows out (value_trail line s c.last) (λ z. value_trail line s c.step) pc1 pc2 (pc3 + 4) b1 b2 slots1 (Gives b2 f2) P (value [] s c.last) (λ z. value [] s c.step >>= sequence a z) (omega arith)
      (ok.1 pc1 b1 slots1 (has-front code pc1 c2 (c3 ++ sets) h1) (holds-same n b s slots slots1 le holds same1) (omega (arith, le)) (omega (arith, few, same1.0)))
      (λ slots2 z e2 same2 gives2.
      comes-last table row_count moves code line rows out (value_trail line s c.step) pc2 pc3 (pc3 + 4) b2 v slots2 (Gives v f3) P (value [] s c.step) (sequence a z) (omega arith)
      (subst (λ u. Comes table row_count moves code line rows out (value_trail line s c.step) pc2 pc3 b2 slots2 (Gives u f3) (value [] s c.step)) at_v
      (ok.2 pc2 b2 slots2 (has-front code pc2 c3 sets h2)
      (holds-same n b s slots slots2 le holds (same-on b b b1 slots slots1 slots2 (omega arith) (omega arith) same1 same2)) (omega (arith, le))
      (omega (arith, few, same1.0, same2.0))))
      (λ slots3 d e3 same3 gives3.
      fill-comes v pc3 f1 f2 f3 filling slots3 a z d (omega (arith, few, same1.0, same2.0, same3.0))
      (λ later sl. gives1 later
      (same-on b1 b1 v slots1 slots3 later (omega arith) (omega arith) (same-on b1 b1 b2 slots1 slots2 slots3 (omega arith) (omega arith) same2 same3) sl))
      (λ later sl. gives2 later (same-on b2 b2 v slots2 slots3 later (omega arith) (omega arith) same3 sl)) gives3))))
    where
      b1 : ℕ
      b1 = b + slots_of c.first

      b2 : ℕ
      b2 = b1 + slots_of c.last

      v : ℕ
      v = b + control_slots c

      at_v : b2 + slots_of c.step ≡ v
      at_v = omega arith

      P : List ℤ → Sequence → Type 0
      P = SequenceGives (v + 3) v

      f1 : Flat
      f1 = flat_of b c.first

      f2 : Flat
      f2 = flat_of b1 c.last

      f3 : Flat
      f3 = flat_of b2 c.step

      c1 : List Instruction
      c1 = code_of line b c.first

      c2 : List Instruction
      c2 = code_of line b1 c.last

      c3 : List Instruction
      c3 = code_of line b2 c.step

      sets : List Instruction
      sets = Set line v f1 ∷ Set line (v + 1) f2 ∷ Set line (v + 2) f3 ∷ []

      pc1 : ℕ
      pc1 = pc + length c1

      pc2 : ℕ
      pc2 = pc1 + length c2

      pc3 : ℕ
      pc3 = pc2 + length c3

      all : length (control_code line b c) ≡ length c1 + (length c2 + (length c3 + 3))
      all = omega (arith, length-append c1 (c2 ++ (c3 ++ sets)), length-append c2 (c3 ++ sets), length-append c3 sets)

      long : pc3 + 4 ≡ pc + length (control_code line b c) + 1
      long = omega (arith, all)

      h : HasAt code pc (control_code line b c)
      h = has-front code pc (control_code line b c) (TestStride line (v + 2) ∷ rest) has

      h1 : HasAt code pc1 (c2 ++ (c3 ++ sets))
      h1 = has-back code pc c1 (c2 ++ (c3 ++ sets)) h

      h2 : HasAt code pc2 (c3 ++ sets)
      h2 = has-back code pc1 c2 (c3 ++ sets) h1

      h3 : HasAt code pc3 sets
      h3 = has-back code pc2 c3 sets h2

      filling : HasAt code pc3 (Set line v f1 ∷ Set line (v + 1) f2 ∷ Set line (v + 2) f3 ∷ TestStride line (v + 2) ∷ [])
      filling =
          let e : pc + length (control_code line b c) ≡ pc3 + 1 + 1 + 1 = omega (arith, all) in (
            h3.0,
            (
              h3.1.0,
              (
                h3.1.1.0,
                (subst (λ p. slice_get code p ≡ Some (TestStride line (v + 2))) e (has-back code pc (control_code line b c) (TestStride line (v + 2) ∷ rest) has).0, tt),
              ),
            ),
          )

  element-from : (a : ℕ) (ts : Terms) (pc b : ℕ) (slots : List ℤ) → a < n → HasAt code pc (code_of line b (Element a ts)) → n ≤ b → b + (all_slots_of ts + 1) ≤ length slots
      → Comes table row_count moves code line rows out (values_trail line s ts) pc (pc + length (codes_of line b ts)) b slots (GiveAll (b + all_slots_of ts) (flats_of b ts)) (values [] s ts)
      → Comes table row_count moves code line rows out (values_trail line s ts) pc (pc + length (code_of line b (Element a ts))) b slots (Gives (b + slots_of (Element a ts)) (flat_of b (Element a ts)))
      (value [] s (Element a ts))
  element-from a ts pc b slots la has le few args =
      let cs = codes_of line b ts in
      let x : ℕ = b + all_slots_of ts in
      let long : pc + length cs + 1 ≡ pc + length (cs ++ Fetch line a (flats_of b ts) x ∷ []) = omega (arith, length-append cs (Fetch line a (flats_of b ts) x ∷ [])) in
      comes-at table row_count moves code line rows out (values_trail line s ts) pc (pc + length cs + 1) (pc + length (code_of line b (Element a ts))) b slots
      (Gives (b + slots_of (Element a ts)) (flat_of b (Element a ts))) (value [] s (Element a ts)) long
      (comes-last table row_count moves code line rows out (values_trail line s ts) pc (pc + length cs) (pc + length cs + 1) b x slots (GiveAll x (flats_of b ts))
      (Gives (b + slots_of (Element a ts)) (flat_of b (Element a ts))) (values [] s ts) (element s a) (omega arith)
      args
      (λ slots1 is e same gives.
      comes-but table row_count moves code line rows out [] (pc + length cs) (pc + length cs + 1) x slots1 (λ slots' v. slot slots' x ≡ v)
      (Gives (b + slots_of (Element a ts)) (flat_of b (Element a ts))) (element s a is)
      (λ slots' v here later same2. ap Ok (sym (same2.1 x (omega arith)) ∙ here))
      (fetch-comes table row_count moves code line n s rows out arrays (pc + length cs) x x a slots1 (flats_of b ts) is (has-back code pc cs (Fetch line a (flats_of b ts) x ∷ []) has).0
      (gives slots1 (same-refl x slots1)) la (omega arith) (omega (arith, few, same.0)))))

  known-here : (pc b : ℕ) (slots : List ℤ) (f : Flat) (v : ℤ) → Gives b f slots v → Comes table row_count moves code line rows out [] pc (pc + 0) b slots (FormGives n (b + 0) (FlatForm f))
      (Ok (Same v))
  known-here pc b slots f v g =
      let e : pc ≡ pc + 0 = omega arith in
      let e2 : b ≡ b + 0 = omega arith in
      subst (λ p. Comes table row_count moves code line rows out [] pc p b slots (FormGives n (b + 0) (FlatForm f)) (Ok (Same v))) e
      (subst (λ c. Comes table row_count moves code line rows out [] pc pc b slots (FormGives n c (FlatForm f)) (Ok (Same v))) e2
      (comes-here table row_count moves code line rows out pc b slots (FormGives n b (FlatForm f)) (Same v) ((λ later same. ap (λ r. Same (or_zero r)) (g later same)), tt)))

  mutual
    pub term-comes : (t : Term) (pc b : ℕ) (slots : List ℤ) → IsScalar n t → HasAt code pc (code_of line b t) → HoldsScalars n s slots → n ≤ b → b + slots_of t ≤ length slots
        → Comes table row_count moves code line rows out (value_trail line s t) pc (pc + length (code_of line b t)) b slots (Gives (b + slots_of t) (flat_of b t)) (value [] s t)
    term-comes (Number v) pc b slots ok has holds le few = nothing table row_count moves code line n s rows out arrays pc b slots (Int v) v (λ later same. refl)
    term-comes (Scalar k) pc b slots ok has holds le few = nothing table row_count moves code line n s rows out arrays pc b slots (Slot k) (scalar s k)
        (λ later same. ap Ok (sym (same.1 k (omega (arith, ok, le))) ∙ holds k ok))
    term-comes (Index k) pc b slots ok has holds le few = nothing table row_count moves code line n s rows out arrays pc b slots (Int (pos 0)) (pos 0) (λ later same. refl)
    term-comes (Section a rs) pc b slots ok has holds le few = nothing table row_count moves code line n s rows out arrays pc b slots (Int (pos 0)) (pos 0) (λ later same. refl)
    term-comes (Reduce o t) pc b slots ok has holds le few =
        let x : ℕ = b + parts_slots t in
        let last = reduce_code line o (form_of b t) x in
        let c = parts_code line b t in
        let pc1 : ℕ = pc + length c in
        let long : pc1 + 2 ≡ pc + length (c ++ last) = omega (arith, length-append c last) in
        let P = Gives (b + (parts_slots t + 1)) (Slot x) in
        comes-at table row_count moves code line rows out (value_trail line s (Reduce o t)) pc (pc1 + 2) (pc + length (c ++ last)) b slots P (elemental [] s t >>= reduction s o) long
        (comes-then table row_count moves code line rows out (elemental_trail line s t) (λ r. over_own_space line s r (Reduced o)) pc pc1 (pc1 + 2) b x slots (FormGives n x (form_of b t)) P (elemental [] s t) (reduction s o) (omega arith)
        (parts-come t pc b slots ok.1 (has-front code pc c last has) holds le (omega (arith, few)))
        (λ slots1 r e same gives.
        comes-but table row_count moves code line rows out (over_own_space line s r (Reduced o)) pc1 (pc1 + 2) x slots1 (λ slots' v. slot slots' x ≡ v) P (reduction s o r)
        (λ slots' v here later same2. ap Ok (sym (same2.1 x (omega arith)) ∙ here))
        (reduce-comes table row_count moves code line n s rows out arrays pc1 x x o (form_of b t) slots1 r (has-back code pc c last has) (gives.0 slots1 (same-refl x slots1)) gives.1
        (omega arith) (omega (arith, few, same.0)) (holds-same n b s slots slots1 le holds same))))
    term-comes (Element a ts) pc b slots ok has holds le few =
        element-from a ts pc b slots ok.0 has le few
        (terms-come ts pc b slots ok.1 (has-front code pc (codes_of line b ts) (Fetch line a (flats_of b ts) (b + all_slots_of ts) ∷ []) has) holds le (omega (arith, few)))
    term-comes (Apply o ts) pc b slots ok has holds le few =
        apply-comes table row_count moves code line n s rows out arrays (values_trail line s ts) o ts pc b slots (can_divide o) refl has few
        (terms-come ts pc b slots ok (has-front code pc (codes_of line b ts) (set_if (can_divide o) line (b + all_slots_of ts) (Operated o (flats_of b ts))) has) holds le
        (omega (arith, few)))

    pub terms-come : (ts : Terms) (pc b : ℕ) (slots : List ℤ) → AreScalar n ts → HasAt code pc (codes_of line b ts) → HoldsScalars n s slots → n ≤ b
        → b + all_slots_of ts ≤ length slots
        → Comes table row_count moves code line rows out (values_trail line s ts) pc (pc + length (codes_of line b ts)) b slots (GiveAll (b + all_slots_of ts) (flats_of b ts)) (values [] s ts)
    terms-come NoTerm pc b slots ok has holds le few =
        let e : pc ≡ pc + 0 = omega arith in
        subst (λ p. Comes table row_count moves code line rows out [] pc p b slots (GiveAll (b + 0) NoFlat) (Ok [])) e
        (comes-here table row_count moves code line rows out pc b slots (GiveAll (b + 0) NoFlat) [] (λ later same. refl))
    terms-come (More t ts) pc b slots ok has holds le few =
        let c = code_of line b t in
        let b1 : ℕ = b + slots_of t in
        let cs = codes_of line b1 ts in
        let pc1 : ℕ = pc + length c in
        let long : pc1 + length cs ≡ pc + length (c ++ cs) = omega (arith, length-append c cs) in
        let all : b1 + all_slots_of ts ≡ b + (slots_of t + all_slots_of ts) = omega arith in
        comes-at table row_count moves code line rows out (values_trail line s (More t ts)) pc (pc1 + length cs) (pc + length (c ++ cs)) b slots (GiveAll (b + all_slots_of (More t ts)) (flats_of b (More t ts)))
        (values [] s (More t ts)) long
        (subst (λ u. Comes table row_count moves code line rows out (values_trail line s (More t ts)) pc (pc1 + length cs) b slots (GiveAll u (flats_of b (More t ts))) (values [] s (More t ts))) all
        (comes-then table row_count moves code line rows out (value_trail line s t) (λ v. values_trail line s ts) pc pc1 (pc1 + length cs) b b1 slots (Gives b1 (flat_of b t)) (GiveAll (b1 + all_slots_of ts) (flats_of b (More t ts)))
        (value [] s t) (λ v. values [] s ts >>= (λ vs. Ok (v ∷ vs))) (omega arith)
        (term-comes t pc b slots ok.0 (has-front code pc c cs has) holds le (omega (arith, few)))
        (λ slots1 v e same gives.
        comes-last table row_count moves code line rows out (values_trail line s ts) pc1 (pc1 + length cs) (pc1 + length cs) b1 (b1 + all_slots_of ts) slots1 (GiveAll (b1 + all_slots_of ts) (flats_of b1 ts))
        (GiveAll (b1 + all_slots_of ts) (flats_of b (More t ts))) (values [] s ts) (λ vs. Ok (v ∷ vs)) (omega arith)
        (terms-come ts pc1 b1 slots1 ok.1 (has-back code pc c cs has) (holds-same n b s slots slots1 le holds same) (omega (arith, le)) (omega (arith, few, same.0)))
        (λ slots2 vs e2 same2 gives2.
        comes-here table row_count moves code line rows out (pc1 + length cs) (b1 + all_slots_of ts) slots2 (GiveAll (b1 + all_slots_of ts) (flats_of b (More t ts))) (v ∷ vs)
        (λ later same3.
        ap (λ r. r >>= (λ v. flat_values later [] [] (flats_of b1 ts) >>= (λ vs. Ok (v ∷ vs))))
        (gives later (same-on b1 b1 (b1 + all_slots_of ts) slots1 slots2 later (omega arith) (omega arith) same2 same3))
        ∙ ap (λ r. r >>= (λ vs. Ok (v ∷ vs))) (gives2 later same3))))))

    -- subscripts, from left to right
    pub subscripts-come : (rs : SectionSubscripts) (pc b : ℕ) (slots : List ℤ) → AreScalarSubscripts n rs → HasAt code pc (subscripts_code line b rs) → HoldsScalars n s slots
        → n ≤ b → b + subscripts_slots rs ≤ length slots
        → Comes table row_count moves code line rows out (selections_trail line s rs) pc (pc + length (subscripts_code line b rs)) b slots (SubsGive (b + subscripts_slots rs) (subs_of b rs)) (selections [] s rs)
    subscripts-come NoSubscript pc b slots ok has holds le few =
        let e : pc ≡ pc + 0 = omega arith in
        comes-at table row_count moves code line rows out [] pc pc (pc + 0) b slots (SubsGive (b + 0) []) (Ok []) e
        (comes-here table row_count moves code line rows out pc b slots (SubsGive (b + 0) []) [] (λ later same. refl))
    subscripts-come (Subscript t rs) pc b slots ok has holds le few =
        let c = code_of line b t in
        let b1 : ℕ = b + slots_of t in
        let cs = subscripts_code line b1 rs in
        let b2 : ℕ = b1 + subscripts_slots rs in
        let pc1 : ℕ = pc + length c in
        let to : ℕ = pc1 + length cs in
        let long : to ≡ pc + length (c ++ cs) = omega (arith, length-append c cs) in
        let all : b2 ≡ b + (slots_of t + subscripts_slots rs) = omega arith in
        let subs = SubAt (flat_of b t) ∷ subs_of b1 rs in
        let first = λ (slots : List ℤ) (d : Selection). (i : ℤ) × (d ≡ At i) × Gives b1 (flat_of b t) slots i in
        comes-at table row_count moves code line rows out (selections_trail line s (Subscript t rs)) pc to (pc + length (c ++ cs)) b slots (SubsGive (b + (slots_of t + subscripts_slots rs)) subs) (selections [] s (Subscript t rs)) long
        (subst (λ u. Comes table row_count moves code line rows out (selections_trail line s (Subscript t rs)) pc to b slots (SubsGive u subs) (selections [] s (Subscript t rs))) all
        (comes-as table row_count moves code line rows out (value_trail line s t ++ after_value (value [] s t >>= (λ i. Ok (At i))) (λ d. selections_trail line s rs)) (selections_trail line s (Subscript t rs)) pc to b slots (SubsGive b2 subs) (selections [] s (Subscript t rs)) (ap (λ T. value_trail line s t ++ T) (after-ok (value [] s t) At (selections_trail line s rs)))
        (comes-then table row_count moves code line rows out (value_trail line s t) (λ d. selections_trail line s rs) pc pc1 to b b1 slots first (SubsGive b2 subs) (value [] s t >>= (λ i. Ok (At i))) (λ d. selections [] s rs >>= (λ ds. Ok (d ∷ ds)))
        (omega arith)
        (comes-last table row_count moves code line rows out (value_trail line s t) pc pc1 pc1 b b1 slots (Gives b1 (flat_of b t)) first (value [] s t) (λ i. Ok (At i)) (omega arith)
        (term-comes t pc b slots ok.0 (has-front code pc c cs has) holds le (omega (arith, few)))
        (λ slots1 i e same gives. comes-here table row_count moves code line rows out pc1 b1 slots1 first (At i) (i, refl, gives)))
        (λ slots1 d e same one'.
        comes-last table row_count moves code line rows out (selections_trail line s rs) pc1 to to b1 b2 slots1 (SubsGive b2 (subs_of b1 rs)) (SubsGive b2 subs) (selections [] s rs) (λ ds. Ok (d ∷ ds)) (omega arith)
        (subscripts-come rs pc1 b1 slots1 ok.1 (has-back code pc c cs has) (holds-same n b s slots slots1 le holds same) (omega (arith, le)) (omega (arith, few, same.0)))
        (λ slots2 ds e2 same2 gives2.
        comes-here table row_count moves code line rows out to b2 slots2 (SubsGive b2 subs) (d ∷ ds)
        (λ later same3. rw (one'.2 later (same-on b1 b1 b2 slots1 slots2 later (omega arith) (omega arith) same2 same3), gives2 later same3) (ap (λ x. x ∷ ds) (sym one'.1))))))))
    subscripts-come (Triplet first last step rs) pc b slots ok has holds le few =
        let k = triplet first last step in
        let v : ℕ = b + control_slots k in
        let stride = TestStride line (v + 2) in
        let b1 : ℕ = v + 3 in
        let c = control_code line b k in
        let cs = subscripts_code line b1 rs in
        let b2 : ℕ = b1 + subscripts_slots rs in
        let pc1 : ℕ = pc + length c + 1 in
        let to : ℕ = pc1 + length cs in
        let long : to ≡ pc + length (c ++ stride ∷ cs) = omega (arith, length-append c (stride ∷ cs)) in
        let all : b2 ≡ b + (control_slots k + 3 + subscripts_slots rs) = omega arith in
        let subs = SubAlong v ∷ subs_of b1 rs in
        let many' = λ (slots : List ℤ) (d : Selection). (p : Sequence) × (d ≡ Along p) × SequenceGives b1 v slots p in
        let spans = sequence_of (value [] s first) (value [] s last) (value [] s step) in
        comes-at table row_count moves code line rows out (selections_trail line s (Triplet first last step rs)) pc to (pc + length (c ++ stride ∷ cs)) b slots (SubsGive (b + (control_slots k + 3 + subscripts_slots rs)) subs)
        (selections [] s (Triplet first last step rs)) long
        (subst (λ u. Comes table row_count moves code line rows out (selections_trail line s (Triplet first last step rs)) pc to b slots (SubsGive u subs) (selections [] s (Triplet first last step rs))) all
        (comes-as table row_count moves code line rows out (control_trail line s k ++ after_value (spans >>= (λ p. Ok (Along p))) (λ d. selections_trail line s rs)) (selections_trail line s (Triplet first last step rs)) pc to b slots (SubsGive b2 subs) (selections [] s (Triplet first last step rs)) (sym (triplet-trail (value_trail line s first) (value_trail line s last) (value_trail line s step) (value [] s first) (value [] s last) (value [] s step) (selections_trail line s rs)))
        (comes-then table row_count moves code line rows out (control_trail line s k) (λ d. selections_trail line s rs) pc pc1 to b b1 slots many' (SubsGive b2 subs) (spans >>= (λ p. Ok (Along p))) (λ d. selections [] s rs >>= (λ ds. Ok (d ∷ ds)))
        (omega arith)
        (comes-last table row_count moves code line rows out (control_trail line s k) pc pc1 pc1 b b1 slots (SequenceGives b1 v) many' spans (λ p. Ok (Along p)) (omega arith)
        (triplet-comes k pc b slots cs (
          (λ pc b slots has holds le few. term-comes first pc b slots ok.0.0 has holds le few),
          (λ pc b slots has holds le few. term-comes last pc b slots ok.0.1 has holds le few),
          (λ pc b slots has holds le few. term-comes step pc b slots ok.0.2 has holds le few),
        ) has holds le (omega (arith, few)))
        (λ slots1 p e same gives. comes-here table row_count moves code line rows out pc1 b1 slots1 many' (Along p) (p, refl, gives)))
        (λ slots1 d e same one'.
        comes-last table row_count moves code line rows out (selections_trail line s rs) pc1 to to b1 b2 slots1 (SubsGive b2 (subs_of b1 rs)) (SubsGive b2 subs) (selections [] s rs) (λ ds. Ok (d ∷ ds)) (omega arith)
        (subscripts-come rs pc1 b1 slots1 ok.1 (has-back code pc c (stride ∷ cs) has).1 (holds-same n b s slots slots1 le holds same) (omega (arith, le))
        (omega (arith, few, same.0)))
        (λ slots2 ds e2 same2 gives2.
        comes-here table row_count moves code line rows out to b2 slots2 (SubsGive b2 subs) (d ∷ ds)
        (λ later same3. rw (one'.2 later (same-on b1 b1 b2 slots1 slots2 later (omega arith) (omega arith) same2 same3), gives2 later same3) (ap (λ x. x ∷ ds) (sym one'.1))))))))

    -- an array expression: what is left of it is its form over the slots

    pub parts-come : (t : Term) (pc b : ℕ) (slots : List ℤ) → IsArray n t → HasAt code pc (parts_code line b t) → HoldsScalars n s slots → n ≤ b
        → b + parts_slots t ≤ length slots
        → Comes table row_count moves code line rows out (elemental_trail line s t) pc (pc + length (parts_code line b t)) b slots (FormGives n (b + parts_slots t) (form_of b t)) (elemental [] s t)
    parts-come (Number v) pc b slots ok has holds le few = known-here pc b slots (Int v) v (λ later same. refl)
    parts-come (Scalar k) pc b slots ok has holds le few = known-here pc b slots (Slot k) (scalar s k) (λ later same. ap Ok (sym (same.1 k (omega (arith, ok, le))) ∙ holds k ok))
    parts-come (Index k) pc b slots ok has holds le few = known-here pc b slots (Int (pos 0)) (pos 0) (λ later same. refl)
    parts-come (Reduce o t) pc b slots ok has holds le few =
        let x : ℕ = b + parts_slots t in
        let last = reduce_code line o (form_of b t) x in
        let c = parts_code line b t in
        let pc1 : ℕ = pc + length c in
        let long : pc1 + 2 ≡ pc + length (c ++ last) = omega (arith, length-append c last) in
        let P = FormGives n (b + (parts_slots t + 1)) (FlatForm (Slot x)) in
        comes-at table row_count moves code line rows out (elemental_trail line s (Reduce o t)) pc (pc1 + 2) (pc + length (c ++ last)) b slots P (elemental [] s (Reduce o t)) long
        (comes-last table row_count moves code line rows out (elemental_trail line s (Reduce o t)) pc (pc1 + 2) (pc1 + 2) b x slots (λ slots' v. slot slots' x ≡ v) P (elemental [] s t >>= reduction s o) (λ v. Ok (Same v))
        (omega arith)
        (comes-then table row_count moves code line rows out (elemental_trail line s t) (λ r. over_own_space line s r (Reduced o)) pc pc1 (pc1 + 2) b x slots (FormGives n x (form_of b t)) (λ slots' v. slot slots' x ≡ v) (elemental [] s t) (reduction s o)
        (omega arith)
        (parts-come t pc b slots ok.1 (has-front code pc c last has) holds le (omega (arith, few)))
        (λ slots1 r e same gives. reduce-comes table row_count moves code line n s rows out arrays pc1 x x o (form_of b t) slots1 r (has-back code pc c last has)
        (gives.0 slots1 (same-refl x slots1)) gives.1 (omega arith) (omega (arith, few, same.0)) (holds-same n b s slots slots1 le holds same)))
        (λ slots2 v e same here. comes-here table row_count moves code line rows out (pc1 + 2) x slots2 P (Same v) ((λ later same2. ap Same (sym (same2.1 x (omega arith)) ∙ here)), tt)))
    parts-come (Element a ts) pc b slots ok has holds le few =
        let t = Element a ts in
        let to : ℕ = pc + length (code_of line b t) in
        let b1 : ℕ = b + slots_of t in
        comes-last table row_count moves code line rows out (values_trail line s ts) pc to to b b1 slots (Gives b1 (flat_of b t)) (FormGives n b1 (FlatForm (flat_of b t))) (value [] s t) (λ v. Ok (Same v)) (omega arith)
        (element-from a ts pc b slots ok.0 has le few
        (terms-come ts pc b slots ok.1 (has-front code pc (codes_of line b ts) (Fetch line a (flats_of b ts) (b + all_slots_of ts) ∷ []) has) holds le (omega (arith, few))))
        (λ slots1 v e same gives. comes-here table row_count moves code line rows out to b1 slots1 (FormGives n b1 (FlatForm (flat_of b t))) (Same v)
        ((λ later same2. ap (λ r. Same (or_zero r)) (gives later same2)), tt))
    parts-come (Section a rs) pc b slots ok has holds le few =
        let to : ℕ = pc + length (subscripts_code line b rs) in
        let b1 : ℕ = b + subscripts_slots rs in
        comes-last table row_count moves code line rows out (selections_trail line s rs) pc to to b b1 slots (SubsGive b1 (subs_of b rs)) (FormGives n b1 (SectionForm a (subs_of b rs))) (selections [] s rs)
        (λ ds. Ok (Selected a ds)) (omega arith)
        (subscripts-come rs pc b slots ok.1 has holds le few)
        (λ slots1 ds e same gives. comes-here table row_count moves code line rows out to b1 slots1 (FormGives n b1 (SectionForm a (subs_of b rs))) (Selected a ds)
        ((λ later same2. ap (Selected a) (gives later same2)), ok.0))
    parts-come (Apply o ts) pc b slots ok has holds le few =
        let to : ℕ = pc + length (all_parts_code line b ts) in
        let b1 : ℕ = b + all_parts_slots ts in
        comes-last table row_count moves code line rows out (elementals_trail line s ts) pc to to b b1 slots (FormsGive n b1 (forms_of b ts)) (FormGives n b1 (OperationForm o (forms_of b ts))) (elementals [] s ts)
        (λ rs. Ok (Operation o rs)) (omega arith)
        (all-parts-come ts pc b slots ok has holds le few)
        (λ slots1 rs e same gives. comes-here table row_count moves code line rows out to b1 slots1 (FormGives n b1 (OperationForm o (forms_of b ts))) (Operation o rs)
        ((λ later same2. ap (Operation o) (gives.0 later same2)), gives.1))

    pub all-parts-come : (ts : Terms) (pc b : ℕ) (slots : List ℤ) → AreArrays n ts → HasAt code pc (all_parts_code line b ts) → HoldsScalars n s slots → n ≤ b
        → b + all_parts_slots ts ≤ length slots
        → Comes table row_count moves code line rows out (elementals_trail line s ts) pc (pc + length (all_parts_code line b ts)) b slots (FormsGive n (b + all_parts_slots ts) (forms_of b ts)) (elementals [] s ts)
    all-parts-come NoTerm pc b slots ok has holds le few =
        let e : pc ≡ pc + 0 = omega arith in
        comes-at table row_count moves code line rows out [] pc pc (pc + 0) b slots (FormsGive n (b + 0) NoForm) (Ok NoOperand) e
        (comes-here table row_count moves code line rows out pc b slots (FormsGive n (b + 0) NoForm) NoOperand ((λ later same. refl), tt))
    all-parts-come (More t ts) pc b slots ok has holds le few =
        let c = parts_code line b t in
        let b1 : ℕ = b + parts_slots t in
        let cs = all_parts_code line b1 ts in
        let b2 : ℕ = b1 + all_parts_slots ts in
        let pc1 : ℕ = pc + length c in
        let to : ℕ = pc1 + length cs in
        let long : to ≡ pc + length (c ++ cs) = omega (arith, length-append c cs) in
        let all : b2 ≡ b + (parts_slots t + all_parts_slots ts) = omega arith in
        let fs = forms_of b (More t ts) in
        comes-at table row_count moves code line rows out (elementals_trail line s (More t ts)) pc to (pc + length (c ++ cs)) b slots (FormsGive n (b + all_parts_slots (More t ts)) fs) (elementals [] s (More t ts)) long
        (subst (λ u. Comes table row_count moves code line rows out (elementals_trail line s (More t ts)) pc to b slots (FormsGive n u fs) (elementals [] s (More t ts))) all
        (comes-then table row_count moves code line rows out (elemental_trail line s t) (λ r. elementals_trail line s ts) pc pc1 to b b1 slots (FormGives n b1 (form_of b t)) (FormsGive n b2 fs) (elemental [] s t)
        (λ r. elementals [] s ts >>= (λ rs. Ok (Operand r rs))) (omega arith)
        (parts-come t pc b slots ok.0 (has-front code pc c cs has) holds le (omega (arith, few)))
        (λ slots1 r e same gives.
        comes-last table row_count moves code line rows out (elementals_trail line s ts) pc1 to to b1 b2 slots1 (FormsGive n b2 (forms_of b1 ts)) (FormsGive n b2 fs) (elementals [] s ts) (λ rs. Ok (Operand r rs))
        (omega arith)
        (all-parts-come ts pc1 b1 slots1 ok.1 (has-back code pc c cs has) (holds-same n b s slots slots1 le holds same) (omega (arith, le)) (omega (arith, few, same.0)))
        (λ slots2 rs e2 same2 gives2.
        comes-here table row_count moves code line rows out to b2 slots2 (FormsGive n b2 fs) (Operand r rs)
        ((λ later same3. rw (gives.0 later (same-on b1 b1 b2 slots1 slots2 later (omega arith) (omega arith) same2 same3), gives2.0 later same3) refl), (gives.1, gives2.1))))))
