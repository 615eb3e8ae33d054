-- Of a promise.
-- Codes of the nests that node code checks: resolved expressions and statements, which hold themselves, go as the tokens of their postfix forms.
use Rattle.std.specs.Prelude.{◌≡◌, ℕ, ℤ, pos, List, [], ◌∷◌, Option}
use Rattle.std.specs.Coded.{Coded, code_by, codes}
use Rattle.std.proofs.Common.{refl, ◌∙◌, ap}
use Rattle.op_tables.specs.declared.op.Op.{Op}
use Rattle.array_meaning.specs.Terms.{Term, Number, Scalar, Index, Element, Section, Apply, Reduce, Terms, NoTerm, More, SectionSubscripts, NoSubscript, Subscript, Triplet, Control}
use Rattle.array_meaning.specs.Statements.{SectionAssignment, ElementAssignment, WholeArray, Transformation, Item, Loop, Nest, Block, Done, Then, Statement, AssignScalar, AssignElement, AssignSection, Transform, If, Do, Where, Forall, Print, Stop, Exit, Cycle, Continue, Redistribute, Mark, Unmarked, Outermost, Arms, NoArm, Arm}

-- ---- expressions

data TermToken : Type 0 where
  TNumber : ℤ → TermToken
  TScalar : ℕ → TermToken
  TIndex : ℕ → TermToken
  TElement : ℕ → TermToken
  TSection : ℕ → TermToken
  TApply : Op → TermToken
  TReduce : Op → TermToken
  TNoTerm : TermToken
  TMore : TermToken
  TNoSubscript : TermToken
  TSubscript : TermToken
  TTriplet : TermToken

abbrev mutual
  term_tokens : Term → List TermToken → List TermToken
  term_tokens (Number v) rest = TNumber v ∷ rest
  term_tokens (Scalar k) rest = TScalar k ∷ rest
  term_tokens (Index k) rest = TIndex k ∷ rest
  term_tokens (Element a ts) rest = terms_tokens ts (TElement a ∷ rest)
  term_tokens (Section a subs) rest = subscripts_tokens subs (TSection a ∷ rest)
  term_tokens (Apply o ts) rest = terms_tokens ts (TApply o ∷ rest)
  term_tokens (Reduce o t) rest = term_tokens t (TReduce o ∷ rest)

  terms_tokens : Terms → List TermToken → List TermToken
  terms_tokens NoTerm rest = TNoTerm ∷ rest
  terms_tokens (More t ts) rest = term_tokens t (terms_tokens ts (TMore ∷ rest))

  subscripts_tokens : SectionSubscripts → List TermToken → List TermToken
  subscripts_tokens NoSubscript rest = TNoSubscript ∷ rest
  subscripts_tokens (Subscript t subs) rest = term_tokens t (subscripts_tokens subs (TSubscript ∷ rest))
  subscripts_tokens (Triplet a b c subs) rest = term_tokens a (term_tokens b (term_tokens c (subscripts_tokens subs (TTriplet ∷ rest))))

-- what stands on the stack
data TermItem : Type 0 where
  OneTerm : Term → TermItem
  SomeTerms : Terms → TermItem
  SomeSubscripts : SectionSubscripts → TermItem

abbrev with_term : TermToken → List TermItem → List TermItem
with_term (TNumber v) stack = OneTerm (Number v) ∷ stack
with_term (TScalar k) stack = OneTerm (Scalar k) ∷ stack
with_term (TIndex k) stack = OneTerm (Index k) ∷ stack
with_term (TElement a) (SomeTerms ts ∷ stack) = OneTerm (Element a ts) ∷ stack
with_term (TElement a) stack = stack
with_term (TSection a) (SomeSubscripts subs ∷ stack) = OneTerm (Section a subs) ∷ stack
with_term (TSection a) stack = stack
with_term (TApply o) (SomeTerms ts ∷ stack) = OneTerm (Apply o ts) ∷ stack
with_term (TApply o) stack = stack
with_term (TReduce o) (OneTerm t ∷ stack) = OneTerm (Reduce o t) ∷ stack
with_term (TReduce o) stack = stack
with_term TNoTerm stack = SomeTerms NoTerm ∷ stack
with_term TMore (SomeTerms ts ∷ OneTerm t ∷ stack) = SomeTerms (More t ts) ∷ stack
with_term TMore stack = stack
with_term TNoSubscript stack = SomeSubscripts NoSubscript ∷ stack
with_term TSubscript (SomeSubscripts subs ∷ OneTerm t ∷ stack) = SomeSubscripts (Subscript t subs) ∷ stack
with_term TSubscript stack = stack
with_term TTriplet (SomeSubscripts subs ∷ OneTerm c ∷ OneTerm b ∷ OneTerm a ∷ stack) = SomeSubscripts (Triplet a b c subs) ∷ stack
with_term TTriplet stack = stack

abbrev with_terms : List TermToken → List TermItem → List TermItem
with_terms [] stack = stack
with_terms (t ∷ ts) stack = with_terms ts (with_term t stack)

mutual
  term_back : (t : Term) (rest : List TermToken) (stack : List TermItem) → with_terms (term_tokens t rest) stack ≡ with_terms rest (OneTerm t ∷ stack)
  term_back (Number v) rest stack = refl
  term_back (Scalar k) rest stack = refl
  term_back (Index k) rest stack = refl
  term_back (Element a ts) rest stack = terms_back ts (TElement a ∷ rest) stack
  term_back (Section a subs) rest stack = subscripts_back subs (TSection a ∷ rest) stack
  term_back (Apply o ts) rest stack = terms_back ts (TApply o ∷ rest) stack
  term_back (Reduce o t) rest stack = term_back t (TReduce o ∷ rest) stack

  terms_back : (ts : Terms) (rest : List TermToken) (stack : List TermItem) → with_terms (terms_tokens ts rest) stack ≡ with_terms rest (SomeTerms ts ∷ stack)
  terms_back NoTerm rest stack = refl
  terms_back (More t ts) rest stack = term_back t (terms_tokens ts (TMore ∷ rest)) stack ∙ terms_back ts (TMore ∷ rest) (OneTerm t ∷ stack)

  subscripts_back : (subs : SectionSubscripts) (rest : List TermToken) (stack : List TermItem)
      → with_terms (subscripts_tokens subs rest) stack ≡ with_terms rest (SomeSubscripts subs ∷ stack)
  subscripts_back NoSubscript rest stack = refl
  subscripts_back (Subscript t subs) rest stack =
      term_back t (subscripts_tokens subs (TSubscript ∷ rest)) stack ∙ subscripts_back subs (TSubscript ∷ rest) (OneTerm t ∷ stack)
  subscripts_back (Triplet a b c subs) rest stack =
      term_back a (term_tokens b (term_tokens c (subscripts_tokens subs (TTriplet ∷ rest)))) stack
      ∙ term_back b (term_tokens c (subscripts_tokens subs (TTriplet ∷ rest))) (OneTerm a ∷ stack)
      ∙ term_back c (subscripts_tokens subs (TTriplet ∷ rest)) (OneTerm b ∷ OneTerm a ∷ stack)
      ∙ subscripts_back subs (TTriplet ∷ rest) (OneTerm c ∷ OneTerm b ∷ OneTerm a ∷ stack)

term_tokens_code : Coded (List TermToken)
term_tokens_code = Prim.hlevel codes

abbrev top_term : List TermItem → Term
top_term (OneTerm t ∷ stack) = t
top_term stack = Number (pos 0)

term_code : Coded Term
term_code = code_by (List TermToken) term_tokens_code (λ t. term_tokens t []) (λ ts. top_term (with_terms ts [])) (λ t. ap top_term (term_back t [] []))

abbrev top_terms : List TermItem → Terms
top_terms (SomeTerms ts ∷ stack) = ts
top_terms stack = NoTerm

terms_code : Coded Terms
terms_code = code_by (List TermToken) term_tokens_code (λ t. terms_tokens t []) (λ ts. top_terms (with_terms ts [])) (λ t. ap top_terms (terms_back t [] []))

abbrev top_subscripts : List TermItem → SectionSubscripts
top_subscripts (SomeSubscripts subs ∷ stack) = subs
top_subscripts stack = NoSubscript

subscripts_code : Coded SectionSubscripts
subscripts_code =
    code_by (List TermToken) term_tokens_code (λ t. subscripts_tokens t []) (λ ts. top_subscripts (with_terms ts [])) (λ t. ap top_subscripts (subscripts_back t [] []))

-- ---- statements

data StatementToken : Type 0 where
  TDone : StatementToken
  TThen : ℕ → StatementToken
  TAssignScalar : ℕ → Term → StatementToken
  TAssignElement : ℕ → Terms → Term → StatementToken
  TAssignSection : ℕ → SectionSubscripts → Term → StatementToken
  TTransform : (target source : WholeArray) → Transformation → StatementToken
  TIf : StatementToken
  TDo : Loop → StatementToken
  TWhere : Term → List SectionAssignment → List SectionAssignment → StatementToken
  TForall : List Control → Option Term → List ElementAssignment → StatementToken
  TPrint : List Item → StatementToken
  TStop : StatementToken
  TExit : StatementToken
  TCycle : StatementToken
  TContinue : StatementToken
  TRedistribute : StatementToken
  TUnmarked : StatementToken
  TOutermost : Nest → StatementToken
  TNoArm : StatementToken
  TArm : ℕ → Term → StatementToken

abbrev mutual
  block_tokens : Block → List StatementToken → List StatementToken
  block_tokens Done rest = TDone ∷ rest
  block_tokens (Then line statement b) rest = statement_tokens statement (block_tokens b (TThen line ∷ rest))

  statement_tokens : Statement → List StatementToken → List StatementToken
  statement_tokens (AssignScalar k t) rest = TAssignScalar k t ∷ rest
  statement_tokens (AssignElement a ts t) rest = TAssignElement a ts t ∷ rest
  statement_tokens (AssignSection a subs t) rest = TAssignSection a subs t ∷ rest
  statement_tokens (Transform x y how) rest = TTransform x y how ∷ rest
  statement_tokens (If arms other) rest = arms_tokens arms (block_tokens other (TIf ∷ rest))
  statement_tokens (Do mark loop body) rest = mark_tokens mark (block_tokens body (TDo loop ∷ rest))
  statement_tokens (Where mask body others) rest = TWhere mask body others ∷ rest
  statement_tokens (Forall controls mask body) rest = TForall controls mask body ∷ rest
  statement_tokens (Print items) rest = TPrint items ∷ rest
  statement_tokens Stop rest = TStop ∷ rest
  statement_tokens Exit rest = TExit ∷ rest
  statement_tokens Cycle rest = TCycle ∷ rest
  statement_tokens Continue rest = TContinue ∷ rest
  statement_tokens Redistribute rest = TRedistribute ∷ rest

  mark_tokens : Mark → List StatementToken → List StatementToken
  mark_tokens Unmarked rest = TUnmarked ∷ rest
  mark_tokens (Outermost nest body) rest = block_tokens body (TOutermost nest ∷ rest)

  arms_tokens : Arms → List StatementToken → List StatementToken
  arms_tokens NoArm rest = TNoArm ∷ rest
  arms_tokens (Arm line t body arms) rest = block_tokens body (arms_tokens arms (TArm line t ∷ rest))

-- what stands on the stack
data StatementItem : Type 0 where
  OneBlock : Block → StatementItem
  OneStatement : Statement → StatementItem
  OneMark : Mark → StatementItem
  SomeArms : Arms → StatementItem

abbrev with_statement : StatementToken → List StatementItem → List StatementItem
with_statement TDone stack = OneBlock Done ∷ stack
with_statement (TThen line) (OneBlock b ∷ OneStatement st ∷ stack) = OneBlock (Then line st b) ∷ stack
with_statement (TThen line) stack = stack
with_statement (TAssignScalar k t) stack = OneStatement (AssignScalar k t) ∷ stack
with_statement (TAssignElement a ts t) stack = OneStatement (AssignElement a ts t) ∷ stack
with_statement (TAssignSection a subs t) stack = OneStatement (AssignSection a subs t) ∷ stack
with_statement (TTransform x y how) stack = OneStatement (Transform x y how) ∷ stack
with_statement TIf (OneBlock other ∷ SomeArms arms ∷ stack) = OneStatement (If arms other) ∷ stack
with_statement TIf stack = stack
with_statement (TDo loop) (OneBlock body ∷ OneMark mark ∷ stack) = OneStatement (Do mark loop body) ∷ stack
with_statement (TDo loop) stack = stack
with_statement (TWhere mask body others) stack = OneStatement (Where mask body others) ∷ stack
with_statement (TForall controls mask body) stack = OneStatement (Forall controls mask body) ∷ stack
with_statement (TPrint items) stack = OneStatement (Print items) ∷ stack
with_statement TStop stack = OneStatement Stop ∷ stack
with_statement TExit stack = OneStatement Exit ∷ stack
with_statement TCycle stack = OneStatement Cycle ∷ stack
with_statement TContinue stack = OneStatement Continue ∷ stack
with_statement TRedistribute stack = OneStatement Redistribute ∷ stack
with_statement TUnmarked stack = OneMark Unmarked ∷ stack
with_statement (TOutermost nest) (OneBlock body ∷ stack) = OneMark (Outermost nest body) ∷ stack
with_statement (TOutermost nest) stack = stack
with_statement TNoArm stack = SomeArms NoArm ∷ stack
with_statement (TArm line t) (SomeArms arms ∷ OneBlock body ∷ stack) = SomeArms (Arm line t body arms) ∷ stack
with_statement (TArm line t) stack = stack

abbrev with_statements : List StatementToken → List StatementItem → List StatementItem
with_statements [] stack = stack
with_statements (t ∷ ts) stack = with_statements ts (with_statement t stack)

mutual
  block_back : (b : Block) (rest : List StatementToken) (stack : List StatementItem) → with_statements (block_tokens b rest) stack ≡ with_statements rest (OneBlock b ∷ stack)
  block_back Done rest stack = refl
  block_back (Then line st b) rest stack = statement_back st (block_tokens b (TThen line ∷ rest)) stack ∙ block_back b (TThen line ∷ rest) (OneStatement st ∷ stack)

  statement_back : (st : Statement) (rest : List StatementToken) (stack : List StatementItem)
      → with_statements (statement_tokens st rest) stack ≡ with_statements rest (OneStatement st ∷ stack)
  statement_back (AssignScalar k t) rest stack = refl
  statement_back (AssignElement a ts t) rest stack = refl
  statement_back (AssignSection a subs t) rest stack = refl
  statement_back (Transform x y how) rest stack = refl
  statement_back (If arms other) rest stack = arms_back arms (block_tokens other (TIf ∷ rest)) stack ∙ block_back other (TIf ∷ rest) (SomeArms arms ∷ stack)
  statement_back (Do mark loop body) rest stack = mark_back mark (block_tokens body (TDo loop ∷ rest)) stack ∙ block_back body (TDo loop ∷ rest) (OneMark mark ∷ stack)
  statement_back (Where mask body others) rest stack = refl
  statement_back (Forall controls mask body) rest stack = refl
  statement_back (Print items) rest stack = refl
  statement_back Stop rest stack = refl
  statement_back Exit rest stack = refl
  statement_back Cycle rest stack = refl
  statement_back Continue rest stack = refl
  statement_back Redistribute rest stack = refl

  mark_back : (m : Mark) (rest : List StatementToken) (stack : List StatementItem) → with_statements (mark_tokens m rest) stack ≡ with_statements rest (OneMark m ∷ stack)
  mark_back Unmarked rest stack = refl
  mark_back (Outermost nest body) rest stack = block_back body (TOutermost nest ∷ rest) stack

  arms_back : (arms : Arms) (rest : List StatementToken) (stack : List StatementItem) → with_statements (arms_tokens arms rest) stack ≡ with_statements rest (SomeArms arms ∷ stack)
  arms_back NoArm rest stack = refl
  arms_back (Arm line t body arms) rest stack = block_back body (arms_tokens arms (TArm line t ∷ rest)) stack ∙ arms_back arms (TArm line t ∷ rest) (OneBlock body ∷ stack)

statement_tokens_code : Coded (List StatementToken)
statement_tokens_code = Prim.hlevel (codes, term_code, terms_code, subscripts_code)

abbrev top_mark : List StatementItem → Mark
top_mark (OneMark m ∷ stack) = m
top_mark stack = Unmarked

pub mark_code : Coded Mark
mark_code =
    code_by (List StatementToken) statement_tokens_code (λ m. mark_tokens m []) (λ ts. top_mark (with_statements ts [])) (λ m. ap top_mark (mark_back m [] []))
