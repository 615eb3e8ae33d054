use Rattle.std.proofs.Common.{◌≡◌, ℕ, ◌+◌, List, [], ◌∷◌, ◌++◌, replicate, ap, ◌∙◌}
use Rattle.std.proofs.lemmas.List.{append_assoc, replicate-append-replicate}
use Rattle.machine_steps.specs.Layout.{Layout}
use Rattle.owner_tables.specs.Views.{OwnersView, TableView}
use Rattle.nodes_lowered.specs.ProgramLayouts.{empty_layout}
use Rattle.compiled_program.proofs.rows.push_copies.Goals as goal

pub loop-copy-preserved : goal.loop-copy-preserved
loop-copy-preserved c =
    let nodes : ℕ = c.args.nodes in
    let copy : ℕ = c.loop-copy.copy in
    let empty : Layout = empty_layout nodes in
    let first : List Layout = c.args.owners.now.layouts in
    let more : (first ++ replicate copy empty) ++ empty ∷ [] ≡ first ++ replicate (copy + 1) empty =
    append_assoc first (replicate copy empty) (empty ∷ []) ∙ ap (λ l. first ++ l) (replicate-append-replicate copy 1 empty) in
    c.in_ok-push.ensures.row
    ∙ ap (λ (t : TableView). record { layouts = c.loop-copy.owners.layouts ++ t.layout ∷ []; nodes = c.loop-copy.owners.nodes }) c.in_ok-empty_table.ensures
    ∙ ap (λ (o : OwnersView). record { layouts = o.layouts ++ empty ∷ []; nodes = o.nodes }) c.loop-copy.invariant
    ∙ ap (λ (l : List Layout). record { layouts = l; nodes = nodes }) more
