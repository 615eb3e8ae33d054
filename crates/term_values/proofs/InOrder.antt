-- Values in order, from the first to the last.
use Rattle.std.proofs.Common.{List, ◌++◌, ℤ, Result, Ok}
use Rattle.array_meaning.specs.Faults.{Cause, ◌>>=◌}
use Rattle.array_meaning.specs.State.{State}
use Rattle.array_meaning.specs.Expressions.{values}
use Rattle.resolved_program.specs.declared.terms.Term.{Term as HeldTerm}
use Rattle.resolved_program.specs.Resolved.{terms_of}

-- values before those that are to come
abbrev pub prefixed : {A : Type 0} → List A → Result (List A) Cause → Result (List A) Cause
prefixed vs r = r >>= (λ rest. Ok (vs ++ rest))

module _ (indices : List ℤ) (s : State) where
  abbrev pub after : List ℤ → List HeldTerm → Result (List ℤ) Cause
  after vs ts = prefixed vs (values indices s (terms_of ts))
