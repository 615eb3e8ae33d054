-- How many stored conditions and slots a nest's body has, and what its names are below.
use Rattle.std.proofs.Common.{◌≡◌, ℕ, ◌+◌, ◌<◌, max, Bool, refl}
use Rattle.array_meaning.specs.Terms.{Term, Number, Scalar, Index, Element, Section, Apply, Reduce, Terms, NoTerm, More}
use Rattle.array_meaning.specs.Statements.{Block, Done, Then, Statement, AssignScalar, AssignElement, If, Do, Arms, NoArm, Arm}
use Rattle.lowered_expressions.specs.WellFormed.{IsSubscript, AreSubscripts, IsIndexed, AreIndexed, IsWellFormed, IsWellFormedBlock, AreWellFormedArms}
use Rattle.nest_items.specs.Naming.{TermBelow, AreNaming, BlockBelow, StatementBelow, ArmsBelow}
use Rattle.nest_machine.specs.Body.{count_body, count_arms, body_slots, arms_slots}
use Rattle.program_code.specs.NestInstructions.{NestBody, NoText, AndText, AndIf, AndLoop, NestArms, NoArm as NoArmText, AndArm, count_nest, count_nest_arms, slots_of_nest, slots_of_arms}
use Rattle.nest_join.specs.NestBodies.{body_of, arms_of}
use Rattle.nest_items.specs.NestForm.{TextsKeep, TextKeeps, ArmsTextsKeep}
use Rattle.lowered_nests.proofs.CodedBody.{plain-form}

module _ {A C : Type 0} where
  mutual
    pub count-of : (x : NestBody A C) → count_body (body_of x) ≡ count_nest x
    count-of NoText = refl
    count-of (AndText a r) = count-of r
    count-of (AndIf xs r) = λ i. count-of-arms xs i + count-of r i
    count-of (AndLoop l x r) = λ i. count-of x i + count-of r i

    count-of-arms : (xs : NestArms A C) → count_arms (arms_of xs) ≡ count_nest_arms xs
    count-of-arms NoArmText = refl
    count-of-arms (AndArm c x xs) = λ i. 1 + count-of x i + count-of-arms xs i

  mutual
    pub slots-of : (x : NestBody A C) → body_slots (body_of x) ≡ slots_of_nest x
    slots-of NoText = refl
    slots-of (AndText a r) = slots-of r
    slots-of (AndIf xs r) = λ i. max (slots-of-arms xs i) (slots-of r i)
    slots-of (AndLoop l x r) = λ i. max (4 + slots-of x i) (slots-of r i)

    slots-of-arms : (xs : NestArms A C) → arms_slots (arms_of xs) ≡ slots_of_arms xs
    slots-of-arms NoArmText = refl
    slots-of-arms (AndArm c x xs) = λ i. max (slots-of x i) (slots-of-arms xs i)

-- ---- names

module _ (n : ℕ) (all : ℕ → Bool) where
  mutual
    subscript-below : (t : Term) → IsSubscript n t → TermBelow n t
    subscript-below (Number v) ok = tt
    subscript-below (Scalar k) ok = ok
    subscript-below (Index k) ok = tt
    subscript-below (Element a ts) ok = absurd ok
    subscript-below (Section a subs) ok = absurd ok
    subscript-below (Apply o ts) ok = subscripts-below ts ok.1
    subscript-below (Reduce o t) ok = absurd ok

    subscripts-below : (ts : Terms) → AreSubscripts n ts → AreNaming (λ k. k < n) (λ a. a < n) ts
    subscripts-below NoTerm ok = tt
    subscripts-below (More t ts) ok = (subscript-below t ok.0, subscripts-below ts ok.1)

  mutual
    term-below : (t : Term) → IsIndexed n t → TermBelow n t
    term-below (Number v) ok = tt
    term-below (Scalar k) ok = ok
    term-below (Index k) ok = tt
    term-below (Element a ts) ok = (ok.0, subscripts-below ts ok.1)
    term-below (Section a subs) ok = tt
    term-below (Apply o ts) ok = terms-below ts ok
    term-below (Reduce o t) ok = absurd ok

    terms-below : (ts : Terms) → AreIndexed n ts → AreNaming (λ k. k < n) (λ a. a < n) ts
    terms-below NoTerm ok = tt
    terms-below (More t ts) ok = (term-below t ok.0, terms-below ts ok.1)

  mutual
    pub block-below : (b : Block) → IsWellFormedBlock n b → TextsKeep all b → BlockBelow n b
    block-below Done ok h = tt
    block-below (Then line st rest) ok h = (statement-below st ok.0 h.0, block-below rest ok.1 h.1)

    statement-below : (st : Statement) → IsWellFormed n st → TextKeeps all st → StatementBelow n st
    statement-below (AssignScalar k t) ok h = (ok.0, term-below t (plain-form n t h ok.1))
    statement-below (AssignElement a ts t) ok h = (ok.0, term-below t (plain-form n t h.1 ok.2))
    statement-below (If arms other) ok h = (arms-below arms ok.0 h.0, block-below other ok.1 h.1)
    statement-below (Do mark loop body) ok h = block-below body ok.2 h.1
    statement-below st ok h = tt

    arms-below : (arms : Arms) → AreWellFormedArms n arms → ArmsTextsKeep all arms → ArmsBelow n arms
    arms-below NoArm ok h = tt
    arms-below (Arm line t b arms) ok h = (term-below t (plain-form n t h.0 ok.0), block-below b ok.1 h.1, arms-below arms ok.2 h.2)
