use Rattle.std.proofs.Common.{◌≡◌, ◌≤◌, ◌+◌, ◌++◌, ℕ, List, [], ◌∷◌, arith, drop, inl, inr, length, min, refl, sym, ap, ◌∙◌, subst}
use Rattle.std.proofs.lemmas.Bool.{cases_lt}
use Rattle.std.proofs.lemmas.List.{append-nil, at_drop_all}
use Rattle.array_meaning.specs.Terms.{NoTerm}
use Rattle.expression_rules.specs.declared.dims.Dim.{Dim}
use Rattle.node_code.specs.Texts.{subs}
use Rattle.program_code.specs.ExpressionCode.{index_subs}
use Rattle.statement_trail.specs.TransformedElements.{same_places}
use Rattle.node_codegen.proofs.source_subs.add_same_places.Goals as goal

no_source : (k : ℕ) (ds : List Dim) → same_places k ds [] ≡ NoTerm
no_source k [] = refl
no_source k (d ∷ ds) = refl

-- no dimension is left of the one or of the other
none_left : (axis k : ℕ) (ds es : List Dim) → min (length ds) (length es) ≤ k → same_places axis (drop k ds) (drop k es) ≡ NoTerm
none_left axis k ds es end = elim (cases_lt k (length ds)) [
  | inl within ↦ (let past : length es ≤ k = omega (arith, end, within) in at_drop_all (same_places axis (drop k ds)) es k past ∙ no_source axis (drop k ds))
  | inr past ↦ at_drop_all (λ l. same_places axis l (drop k es)) ds k past
]

pub returns : goal.returns
returns c =
    let made = subs c.loop-k.made.items in
    let target = c.args.target.now in
    let source = c.args.source.now in
    let end : min (length target) (length source) ≤ c.loop-k.k = subst (λ n. n ≤ c.loop-k.k) c.min-k-end.ensures c.loop-k-test.false in
    sym (append-nil made)
    ∙ ap (λ l. made ++ index_subs l) (sym (none_left (c.args.axis + c.loop-k.k) c.loop-k.k target source end))
    ∙ c.loop-k.invariant
