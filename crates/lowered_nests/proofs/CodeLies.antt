-- The bounds of the inner loops of a nest can't fault.
use Rattle.std.proofs.Common.{◌≡◌, ℕ, List, [], ◌∷◌, ℤ, Ok, refl, sym, ap, ◌∙◌}
use Rattle.array_meaning.specs.Terms.{Term, Number, Scalar, Index, Element, Section, Apply, Reduce, Terms, NoTerm, More}
use Rattle.array_meaning.specs.Faults.{◌>>=◌, with_more}
use Rattle.array_meaning.specs.Elementals.{operated}
use Rattle.array_meaning.specs.State.{State}
use Rattle.array_meaning.specs.Statements.{Block, Done, Then, Statement, AssignScalar, AssignElement, AssignSection, Transform, If, Do, Unmarked, Outermost, Where, Forall, Print, Stop, Exit, Cycle, Continue, Redistribute, Arms, NoArm, Arm}
use Rattle.op_tables.specs.Operators.{value_of}
use Rattle.code_meaning.specs.Flat.{flat_value, flat_values, or_zero}
use Rattle.program_code.specs.ExpressionCode.{index_flat, index_flats}
use Rattle.lowered_expressions.specs.WellFormed.{IsSubscript, AreSubscripts}
use Rattle.lowered_expressions.proofs.Terms.{total}
use Rattle.program_code.specs.NestInstructions.{NoText, AndText, AndIf, AndLoop}
use Rattle.nest_join.specs.NestBodies.{AreSafe, ArmsAreSafe, CantFault}
use Rattle.nest_join.specs.NestNames.{NestNames}
use Rattle.nest_join.specs.CodedBlocks.{IsCodedBlock, IsCodedStatement, AreCodedArms, CodedBody, CodedArms, coded, coded_in, coded_arms, else_arm}

-- ---- bounds can't fault

module _ (n : ℕ) (slots : List ℤ) where
  mutual
    flat-ok : (t : Term) → IsSubscript n t → (v : ℤ) × (flat_value slots [] [] (index_flat t) ≡ Ok v)
    flat-ok (Number v) ok = (v, refl)
    flat-ok (Scalar k) ok = (_, refl)
    flat-ok (Index k) ok = (_, refl)
    flat-ok (Element a ts) ok = absurd ok
    flat-ok (Section a subs) ok = absurd ok
    flat-ok (Apply o ts) ok = let vs = flats-ok ts ok.1 in (value_of o vs.0, ap (λ r. r >>= operated o) vs.1 ∙ total o vs.0 ok.0)
    flat-ok (Reduce o t) ok = absurd ok

    flats-ok : (ts : Terms) → AreSubscripts n ts → (vs : List ℤ) × (flat_values slots [] [] (index_flats ts) ≡ Ok vs)
    flats-ok NoTerm ok = ([], refl)
    flats-ok (More t ts) ok =
        let v = flat-ok t ok.0 in
        let vs = flats-ok ts ok.1 in
        (v.0 ∷ vs.0, ap (λ r. with_more r (flat_values slots [] [] (index_flats ts))) v.1 ∙ ap (with_more (Ok v.0)) vs.1)

cant-fault : (n : ℕ) (t : Term) → IsSubscript n t → CantFault (index_flat t)
cant-fault n t ok slots = let r = flat-ok n slots t ok in r.1 ∙ ap (λ x. Ok (or_zero x)) (sym r.1)

module _ (w : NestNames) (s : State) where
  safe-else : (x : CodedBody w) → AreSafe x → ArmsAreSafe (else_arm w x)
  safe-else NoText h = tt
  safe-else (AndText a r) h = (h, tt)
  safe-else (AndIf xs r) h = (h, tt)
  safe-else (AndLoop l x r) h = (h, tt)

  mutual
    pub safe-block : (round : List ℕ) (b : Block) (ok : IsCodedBlock w s round b) → AreSafe (coded w s round b ok)
    safe-block round Done ok = tt
    safe-block round (Then line st rest) ok = safe-in line round st ok.0 (coded w s round rest ok.1) (safe-block round rest ok.1)

    safe-in : (line : ℕ) (round : List ℕ) (st : Statement) (ok : IsCodedStatement w s round st) (x : CodedBody w) → AreSafe x → AreSafe (coded_in w s line round st ok x)
    safe-in line round (AssignScalar k t) ok x h = h
    safe-in line round (AssignElement a ts t) ok x h = h
    safe-in line round (If arms other) ok x h =
        (safe-arms round arms ok.0 (else_arm w (coded w s round other ok.1)) (safe-else (coded w s round other ok.1) (safe-block round other ok.1)), h)
    safe-in line round (Do Unmarked loop inner) ok x h = (
      (cant-fault w.count loop.control.first ok.0.first.0, cant-fault w.count loop.control.last ok.0.last.0, (λ slots. refl)),
      safe-block (loop.index ∷ round) inner ok.1,
      h,
    )
    safe-in line round Continue ok x h = h
    safe-in line round (AssignSection a subs t) ok x h = absurd ok
    safe-in line round (Transform target source how) ok x h = absurd ok
    safe-in line round (Do (Outermost m b) loop inner) ok x h = absurd ok
    safe-in line round (Where mask b others) ok x h = absurd ok
    safe-in line round (Forall controls mask b) ok x h = absurd ok
    safe-in line round (Print items) ok x h = absurd ok
    safe-in line round Stop ok x h = absurd ok
    safe-in line round Exit ok x h = absurd ok
    safe-in line round Cycle ok x h = absurd ok
    safe-in line round Redistribute ok x h = absurd ok

    safe-arms : (round : List ℕ) (arms : Arms) (ok : AreCodedArms w s round arms) (x : CodedArms w) → ArmsAreSafe x → ArmsAreSafe (coded_arms w s round arms ok x)
    safe-arms round NoArm ok x h = h
    safe-arms round (Arm line t b arms) ok x h = (safe-block round b ok.1, safe-arms round arms ok.2 x h)
