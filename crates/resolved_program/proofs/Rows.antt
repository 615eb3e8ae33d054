-- What a `Vec` of a plan is: the list of what its items stand for.
use Rattle.std.proofs.Common.{◌≡◌, ℕ, Global, refl, ap, ◌∙◌, Option}
use Rattle.std.specs.Prelude.{Vec}
use Rattle.op_tables.specs.declared.op.Op.{Op}
use Rattle.resolved_program.specs.declared.terms.Term.{Term as HeldTerm}
use Rattle.resolved_program.specs.declared.terms.Term.TheVariants as held
use Rattle.resolved_program.specs.declared.terms.SectionSubscript.{SectionSubscript as HeldSubscript}
use Rattle.resolved_program.specs.declared.terms.SectionSubscript.TheBlock.{Row_of-Term, end_of-Term, more_of-Term, items-the_row-Term, hidden-the_row-Term-0, items_hidden-the_row-Term-0, Row_of-SectionSubscript, end_of-SectionSubscript, more_of-SectionSubscript, items-the_row-SectionSubscript, hidden-the_row-SectionSubscript-1, items_hidden-the_row-SectionSubscript-1}
use Rattle.resolved_program.specs.declared.statements.Loop.{Loop as HeldLoop}
use Rattle.resolved_program.specs.declared.statements.Nest.{Nest as HeldNest}
use Rattle.resolved_program.specs.declared.statements.Arm.{Arm as HeldArm, out-Arm}
use Rattle.resolved_program.specs.declared.statements.Statement.{Statement as HeldStatement}
use Rattle.resolved_program.specs.declared.statements.Action.TheVariants as action
use Rattle.resolved_program.specs.declared.statements.Action.TheViews.{is-struct-Arm, roll-Arm, rolls-struct-Arm}
use Rattle.resolved_program.specs.declared.statements.Action.TheBlock.{struct-Arm, Row_of-Statement, end_of-Statement, more_of-Statement, Row_of-Arm, end_of-Arm, more_of-Arm, items-the_row-Statement, hidden-the_row-Statement-1, items_hidden-the_row-Statement-1, items-the_row-Arm, hidden-the_row-Arm-0, items_hidden-the_row-Arm-0}
use Rattle.array_meaning.specs.Terms.{Element, Section, Apply, More}
use Rattle.array_meaning.specs.Statements.{If, Then, Arms, Arm}
use Rattle.resolved_program.specs.Resolved.{term, terms, terms_of, subscripts, subscripts_of, with_subscript, loop_of, do_loop, statement, block, block_of, arms, arms_of, with_arm}

-- ---- expressions

terms_items : {m : _} (row : Row_of-Term m) → terms row ≡ terms_of (items-the_row-Term m row)
terms_items end_of-Term = refl
terms_items (more_of-Term t row) = ap (More (term t)) (terms_items row)

pub terms_vec : (v : Vec HeldTerm Global) → terms (hidden-the_row-Term-0 v) ≡ terms_of v.items
terms_vec v = terms_items (hidden-the_row-Term-0 v) ∙ ap terms_of (items_hidden-the_row-Term-0 v)

subscripts_items : {m : _} (row : Row_of-SectionSubscript m) → subscripts row ≡ subscripts_of (items-the_row-SectionSubscript m row)
subscripts_items end_of-SectionSubscript = refl
subscripts_items (more_of-SectionSubscript d row) = ap (with_subscript d) (subscripts_items row)

pub subscripts_vec : (v : Vec HeldSubscript Global) → subscripts (hidden-the_row-SectionSubscript-1 v) ≡ subscripts_of v.items
subscripts_vec v = subscripts_items (hidden-the_row-SectionSubscript-1 v) ∙ ap subscripts_of (items_hidden-the_row-SectionSubscript-1 v)

pub element_vec : (a : ℕ) (v : Vec HeldTerm Global) → term (held.Element a v) ≡ Element a (terms_of v.items)
element_vec a v = ap (Element a) (terms_vec v)

pub section_vec : (a : ℕ) (v : Vec HeldSubscript Global) → term (held.Section a v) ≡ Section a (subscripts_of v.items)
section_vec a v = ap (Section a) (subscripts_vec v)

pub apply_vec : (o : Op) (v : Vec HeldTerm Global) → term (held.Apply o v) ≡ Apply o (terms_of v.items)
apply_vec o v = ap (Apply o) (terms_vec v)

-- ---- statements

block_items : {m : _} (row : Row_of-Statement m) → block row ≡ block_of (items-the_row-Statement m row)
block_items end_of-Statement = refl
block_items (more_of-Statement line what row) = ap (Then line (statement what)) (block_items row)

pub block_vec : (v : Vec HeldStatement Global) → block (hidden-the_row-Statement-1 v) ≡ block_of v.items
block_vec v = block_items (hidden-the_row-Statement-1 v) ∙ ap block_of (items_hidden-the_row-Statement-1 v)

arms_items : {m : _} (row : Row_of-Arm m) → arms row ≡ arms_of (items-the_row-Arm m row)
arms_items end_of-Arm = refl
arms_items (more_of-Arm (struct-Arm line condition shape row) rest) = ap (Arm line (term condition) (block row)) (arms_items rest)

pub arms_vec : (v : Vec HeldArm Global) → arms (hidden-the_row-Arm-0 v) ≡ arms_of v.items
arms_vec v = arms_items (hidden-the_row-Arm-0 v) ∙ ap arms_of (items_hidden-the_row-Arm-0 v)

-- IF, by its arms and the block of ELSE
pub if_vec : (as' : Vec HeldArm Global) (other : Vec HeldStatement Global) → statement (action.If as' other) ≡ If (arms_of as'.items) (block_of other.items)
if_vec as' other i = If (arms_vec as' i) (block_vec other i)

-- DO, by its body
pub do_vec : (nest : Option HeldNest) (l : HeldLoop) (body : Vec HeldStatement Global) →
    statement (action.Do nest l body) ≡ do_loop nest (loop_of l) (block_of body.items)
do_vec nest l body = ap (do_loop nest (loop_of l)) (block_vec body)

-- an arm, by its fields
pub arm_parts : (a : HeldArm) (rest : Arms) → with_arm a rest ≡ Arm (out-Arm a).line (term (out-Arm a).condition) (block_of (out-Arm a).body.items) rest
arm_parts a rest =
    ap (λ a. with_arm a rest) (is-struct-Arm a)
    ∙ ap (λ b. Arm (out-Arm a).line (term (out-Arm a).condition) b rest) (block_vec (out-Arm a).body)

-- an arm of these fields
pub arm_made : (line : ℕ) (t : HeldTerm) (body : Vec HeldStatement Global) (rest : Arms) →
    with_arm (roll-Arm (record { line = line; condition = t; body = body })) rest ≡ Arm line (term t) (block_of body.items) rest
arm_made line t body rest =
    ap (λ a. with_arm a rest) (rolls-struct-Arm (record { line = line; condition = t; body = body }))
    ∙ ap (λ b. Arm line (term t) b rest) (block_vec body)
