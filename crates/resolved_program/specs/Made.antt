-- Of private clauses.
-- What is made item by item, in order.
use Rattle.std.specs.Prelude.{List, [], ◌∷◌}
use Rattle.resolved_program.specs.declared.terms.Term.{Term as HeldTerm}
use Rattle.array_meaning.specs.Terms.{Terms, More}
use Rattle.resolved_program.specs.Resolved.{term}

-- items, each added before what stands after it
abbrev pub before : {A B : Type 0} → (A → B → B) → List A → B → B
before add [] rest = rest
before add (a ∷ made) rest = add a (before add made rest)

abbrev pub terms_before : List HeldTerm → Terms → Terms
terms_before = before (λ t. More (term t))
