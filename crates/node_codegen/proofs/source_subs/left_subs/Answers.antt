use Rattle.std.proofs.Common.{◌≡◌, ◌<◌, ◌+◌, ℕ, List, [], ◌∷◌, ◌++◌, add-one, append_assoc, drop, length, pos, sym, ap, ◌∙◌}
use Rattle.std.proofs.lemmas.List.{at_drop_more}
use Rattle.expression_rules.specs.declared.dims.Dim.{Dim}
use Rattle.node_code.specs.declared.form.Sub.{Sub as HeldSub}
use Rattle.node_code.specs.declared.form.Sub.TheVariants.{At}
use Rattle.node_code.specs.declared.flat.Flat.TheVariants as held
use Rattle.node_code.specs.Flat.{Axis}
use Rattle.node_code.specs.Forms.{Sub, SubAt}
use Rattle.node_code.specs.Texts.{sub, subs}
use Rattle.program_code.specs.ExpressionCode.{index_subs}
use Rattle.resolved_program.proofs.Made.{one_more}
use Rattle.statement_trail.specs.TransformedElements.{indices_from}
use Rattle.node_codegen.proofs.source_subs.left_subs.Goals as goal

-- one index more
next_index : (ds : List Dim) (k : ℕ) (made new : List HeldSub) (whole : List Sub) → k < length ds → new ≡ made ++ At (held.Axis k) ∷ [] →
    subs made ++ index_subs (indices_from k (drop k ds)) ≡ whole → subs new ++ index_subs (indices_from (k + 1) (drop (k + 1) ds)) ≡ whole
next_index ds k made new whole within more so_far =
    let rest = drop (k + 1) ds in
    ap (λ l. l ++ index_subs (indices_from (k + 1) rest)) (one_more sub made new (At (held.Axis k)) more)
    ∙ append_assoc (subs made) (SubAt (Axis k) ∷ []) (index_subs (indices_from (k + 1) rest))
    ∙ ap (λ m. subs made ++ SubAt (Axis k) ∷ index_subs (indices_from m rest)) (add-one k)
    ∙ sym (at_drop_more (λ l. subs made ++ index_subs (indices_from k l)) ds k (record { lower = pos 0; upper = pos 0 }) within)
    ∙ so_far

pub loop-k-preserved : goal.loop-k-preserved
loop-k-preserved c = next_index c.args.dims.now c.loop-k.k c.loop-k.made.items c.push.new.self.items _ c.loop-k-test.true c.in_ok-push.ensures.items c.loop-k.invariant
