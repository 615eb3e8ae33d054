use Rattle.std.proofs.Common.{◌≡◌, ℕ, suc, ◌+◌, ◌-◌, List, [], ◌∷◌, ◌++◌, true, false, append_assoc, add-one, arith, sym, ap, ◌∙◌}
use Rattle.std.specs.Prelude.{if◌then◌else◌, is_some}
use Rattle.array_meaning.specs.Iterations.{is_in}
use Rattle.array_meaning.specs.Touches.{assigned_in}
use Rattle.resolved_program.specs.Resolved.{block_of}
use Rattle.statement_trail.specs.NestParts.{among_from}
use Rattle.node_codegen.proofs.nest_scalars.scalars.Goals as goal
use Rattle.node_codegen.proofs.nest_scalars.scalars.Goals.{then-is_some+in_ok-push, else-is_some}

-- a name that is assigned, and one that isn't
taken : (all found : List ℕ) (k m : ℕ) → is_in k all ≡ true → (found ++ k ∷ []) ++ among_from all (k + 1) m ≡ found ++ among_from all k (suc m)
taken all found k m is =
    append_assoc found (k ∷ []) (among_from all (k + 1) m)
    ∙ ap (λ n. found ++ k ∷ among_from all n m) (add-one k)
    ∙ ap (λ b. found ++ (if b then k ∷ among_from all (suc k) m else among_from all (suc k) m)) (sym is)

left : (all found : List ℕ) (k m : ℕ) → is_in k all ≡ false → found ++ among_from all (k + 1) m ≡ found ++ among_from all k (suc m)
left all found k m is =
    ap (λ n. found ++ among_from all n m) (add-one k)
    ∙ ap (λ b. found ++ (if b then k ∷ among_from all (suc k) m else among_from all (suc k) m)) (sym is)

pub loop-k-preserved : goal.loop-k-preserved
loop-k-preserved c =
    let k = c.loop-k.k in
    let found = c.loop-k.found.items in
    let all = assigned_in (block_of c.args.body.now.items) in
    let rest = c.args.names - (k + 1) in
    let number : suc rest ≡ c.args.names - k = omega (arith, c.loop-k-test.true) in
    let last = ap (λ m. found ++ among_from all k m) number ∙ c.loop-k.invariant in
    let among : is_some c.first_operator.result ≡ is_in k all = c.first_operator.ensures.assigned ∙ ap (λ l. is_in k (assigned_in (block_of l))) c.deref.ensures.value in
    elim c.if-is_some.branch [
      | then-is_some+in_ok-push w ↦ ap (λ v. v.items ++ among_from all (k + 1) rest) w.found-is
          ∙ ap (λ l. l ++ among_from all (k + 1) rest) w.in_ok-push.ensures.items
          ∙ taken all found k rest (sym among ∙ sym c.is_some.ensures ∙ w.if-is_some.true) ∙ last
      | else-is_some w ↦ ap (λ v. v.items ++ among_from all (k + 1) rest) w.found-is
          ∙ left all found k rest (sym among ∙ sym c.is_some.ensures ∙ w.if-is_some.false) ∙ last
    ]
