-- The body that is made of a nest's block has the shape and the texts of which the laws of nests speak.
use Rattle.std.proofs.Common.{ℕ, List, Bool, refl}
use Rattle.array_meaning.specs.State.{State}
use Rattle.array_meaning.specs.Statements.{Nest, Block, Done, Then, Statement, AssignScalar, AssignElement, AssignSection, Transform, If, Do, Unmarked, Outermost, Where, Forall, Print, Stop, Exit, Cycle, Continue, Redistribute, Arms, NoArm, Arm}
use Rattle.node_code.specs.Forms.{Sub}
use Rattle.code_meaning.specs.Instructions.{ArrayTable}
use Rattle.program_code.specs.NestInstructions as forms
use Rattle.nest_join.specs.NestNames.{NestNames}
use Rattle.nest_join.specs.NestTexts.{text_of, test_of}
use Rattle.nest_join.specs.CodedBlocks.{IsCodedBlock, IsCodedStatement, AreCodedArms, CodedBody, CodedArms, else_arm, coded, coded_in, coded_arms}
use Rattle.program_code.specs.NestCode.{PlainBody, PlainArms, plain, plain_in, plain_arms, plain_else, text_in, test_in}
use Rattle.lowered_nests.specs.NamesIn.{names_in}
use Rattle.lowered_nests.proofs.PlainCode.{AreSame, AreSameArms}

module _ (table : ArrayTable) (n : ℕ) (nest : Nest) (body : Block) (over : List Sub) (is_index : ℕ → Bool) (s : State) where
  abbrev w : NestNames
  w = names_in table n nest body over is_index

  abbrev Same : CodedBody w → PlainBody → Type 0
  Same = AreSame (text_of w) (text_in n nest body) (test_of w) (test_in n nest body)

  abbrev SameArms : CodedArms w → PlainArms → Type 0
  SameArms = AreSameArms (text_of w) (text_in n nest body) (test_of w) (test_in n nest body)

  same-else : (a : CodedBody w) (p : PlainBody) → Same a p → SameArms (else_arm w a) (plain_else p)
  same-else forms.NoText forms.NoText h = tt
  same-else forms.NoText (forms.AndText b q) h = absurd h
  same-else forms.NoText (forms.AndIf ys q) h = absurd h
  same-else forms.NoText (forms.AndLoop y j q) h = absurd h
  same-else (forms.AndText a r) forms.NoText h = absurd h
  same-else (forms.AndText a r) (forms.AndText b q) h = (tt, h, tt)
  same-else (forms.AndText a r) (forms.AndIf ys q) h = absurd h
  same-else (forms.AndText a r) (forms.AndLoop y j q) h = absurd h
  same-else (forms.AndIf xs r) forms.NoText h = absurd h
  same-else (forms.AndIf xs r) (forms.AndText b q) h = absurd h
  same-else (forms.AndIf xs r) (forms.AndIf ys q) h = (tt, h, tt)
  same-else (forms.AndIf xs r) (forms.AndLoop y j q) h = absurd h
  same-else (forms.AndLoop x i r) forms.NoText h = absurd h
  same-else (forms.AndLoop x i r) (forms.AndText b q) h = absurd h
  same-else (forms.AndLoop x i r) (forms.AndIf ys q) h = absurd h
  same-else (forms.AndLoop x i r) (forms.AndLoop y j q) h = (tt, h, tt)

  mutual
    pub same-block : (round : List ℕ) (block : Block) (ok : IsCodedBlock w s round block) → Same (coded w s round block ok) (plain block)
    same-block round Done ok = tt
    same-block round (Then line statement rest) ok =
        same-in line round statement ok.0 (coded w s round rest ok.1) (plain rest) (same-block round rest ok.1)

    same-in : (line : ℕ) (round : List ℕ) (statement : Statement) (ok : IsCodedStatement w s round statement) (rest : CodedBody w) (plain_rest : PlainBody) → Same rest plain_rest
        → Same (coded_in w s line round statement ok rest) (plain_in line statement plain_rest)
    same-in line round (AssignScalar k t) ok rest q h = (refl, h)
    same-in line round (AssignElement a ts t) ok rest q h = (refl, h)
    same-in line round (If arms other) ok rest q h =
        (same-arms round arms ok.0 (else_arm w (coded w s round other ok.1)) (plain_else (plain other)) (same-else (coded w s round other ok.1) (plain other) (same-block round other ok.1)), h)
    same-in line round (Do Unmarked loop inner) ok rest q h = (refl, same-block _ inner ok.1, h)
    same-in line round (Do (Outermost m b) loop inner) ok rest q h = absurd ok
    same-in line round Continue ok rest q h = h
    same-in line round (AssignSection a subs t) ok rest q h = absurd ok
    same-in line round (Transform x y how) ok rest q h = absurd ok
    same-in line round (Where mask xs ys) ok rest q h = absurd ok
    same-in line round (Forall cs mask xs) ok rest q h = absurd ok
    same-in line round (Print items) ok rest q h = absurd ok
    same-in line round Stop ok rest q h = absurd ok
    same-in line round Exit ok rest q h = absurd ok
    same-in line round Cycle ok rest q h = absurd ok
    same-in line round Redistribute ok rest q h = absurd ok

    same-arms : (round : List ℕ) (arms : Arms) (ok : AreCodedArms w s round arms) (other : CodedArms w) (plain_other : PlainArms) → SameArms other plain_other
        → SameArms (coded_arms w s round arms ok other) (plain_arms arms plain_other)
    same-arms round NoArm ok other q h = h
    same-arms round (Arm line t block arms) ok other q h = (refl, same-block round block ok.1, same-arms round arms ok.2 other q h)
