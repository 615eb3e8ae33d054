-- Loops that make something item by item.
use Rattle.std.proofs.Common.{◌≡◌, ℕ, ◌+◌, List, [], ◌∷◌, ◌++◌, ◌≤◌, drop, length, map, append_assoc, refl, sym, ap, ◌∙◌}
use Rattle.std.proofs.Math.ListN.{drop_of_length-le}
use Rattle.std.proofs.lemmas.List.{append-nil, map-append}
use Rattle.array_meaning.specs.Terms.{NoTerm, More, NoSubscript}
use Rattle.resolved_program.specs.declared.terms.Term.{Term as HeldTerm}
use Rattle.resolved_program.specs.declared.terms.SectionSubscript.{SectionSubscript as HeldSubscript}
use Rattle.array_meaning.specs.Statements.{Done, Then, NoArm}
use Rattle.resolved_program.specs.declared.statements.Statement.{Statement as HeldStatement}
use Rattle.resolved_program.specs.declared.statements.Arm.{Arm as HeldArm}
use Rattle.resolved_program.specs.Made.{before, terms_before}
use Rattle.resolved_program.specs.Resolved.{term, terms_of, subscripts_of, with_subscript, statement, block_of, arms_of, with_arm}

-- one item more
pub before_next : {A B : Type 0} (add : A → B → B) (made : List A) (a : A) (rest : B) → before add (made ++ a ∷ []) rest ≡ before add made (add a rest)
before_next add [] a rest = refl
before_next add (x ∷ made) a rest = ap (add x) (before_next add made a rest)

-- a turn: an item is made of the next one, where the definition of all of them has it first
pub made_next : {A B S : Type 0} (add : A → B → B) (all : List S → B) (ss : List S) (n : ℕ) (s : S) (made new : List A) (a : A) (whole : B) →
    drop n ss ≡ s ∷ drop (n + 1) ss → new ≡ made ++ a ∷ [] → add a (all (drop (n + 1) ss)) ≡ all (s ∷ drop (n + 1) ss) →
    before add made (all (drop n ss)) ≡ whole → before add new (all (drop (n + 1) ss)) ≡ whole
made_next add all ss n s made new a whole at more step so_far =
    ap (λ l. before add l (all (drop (n + 1) ss))) more
    ∙ before_next add made a (all (drop (n + 1) ss))
    ∙ ap (before add made) (step ∙ ap all (sym at))
    ∙ so_far

-- a turn that makes a part of a list
pub joined_next : {B S : Type 0} (all : List S → List B) (ss : List S) (n : ℕ) (s : S) (made new part whole : List B) →
    drop n ss ≡ s ∷ drop (n + 1) ss → new ≡ made ++ part → part ++ all (drop (n + 1) ss) ≡ all (s ∷ drop (n + 1) ss) →
    made ++ all (drop n ss) ≡ whole → new ++ all (drop (n + 1) ss) ≡ whole
joined_next all ss n s made new part whole at more step so_far =
    ap (λ l. l ++ all (drop (n + 1) ss)) more
    ∙ append_assoc made part (all (drop (n + 1) ss))
    ∙ ap (λ l. made ++ l) (step ∙ ap all (sym at))
    ∙ so_far

pub joined_all : {B S : Type 0} (all : List S → List B) (ss : List S) (n : ℕ) (made whole : List B) → length ss ≤ n → all [] ≡ [] → made ++ all (drop n ss) ≡ whole → made ≡ whole
joined_all all ss n made whole end none so_far =
    sym (append-nil made)
    ∙ ap (λ l. made ++ l) (sym none ∙ ap all (sym (drop_of_length-le ss end)))
    ∙ so_far

-- what one item more stands for
pub one_more : {A B : Type 0} (f : A → B) (made new : List A) (a : A) → new ≡ made ++ a ∷ [] → map f new ≡ map f made ++ f a ∷ []
one_more f made new a is = ap (map f) is ∙ map-append f made (a ∷ [])

-- after the last turn
pub made_all : {A B S : Type 0} (add : A → B → B) (all : List S → B) (ss : List S) (n : ℕ) (made : List A) (whole : B) → length ss ≤ n →
    before add made (all (drop n ss)) ≡ whole → before add made (all []) ≡ whole
made_all add all ss n made whole end so_far = ap (λ l. before add made (all l)) (sym (drop_of_length-le ss end)) ∙ so_far

-- all of the items
pub terms_made : (ts : List HeldTerm) → terms_before ts NoTerm ≡ terms_of ts
terms_made [] = refl
terms_made (t ∷ ts) = ap (More (term t)) (terms_made ts)

pub subscripts_made : (ds : List HeldSubscript) → before with_subscript ds NoSubscript ≡ subscripts_of ds
subscripts_made [] = refl
subscripts_made (d ∷ ds) = ap (with_subscript d) (subscripts_made ds)

pub block_made : (ss : List HeldStatement) → before (λ s. Then s.line (statement s.what)) ss Done ≡ block_of ss
block_made [] = refl
block_made (s ∷ ss) = ap (Then s.line (statement s.what)) (block_made ss)

pub arms_made : (as' : List HeldArm) → before with_arm as' NoArm ≡ arms_of as'
arms_made [] = refl
arms_made (a ∷ as') = ap (with_arm a) (arms_made as')
