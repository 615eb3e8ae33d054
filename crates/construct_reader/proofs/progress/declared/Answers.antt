use Rattle.std.proofs.Common.{ap, subst, sym, ◌∙◌}
use Rattle.construct_reader.specs.Progress.{IsProgress}
use Rattle.construct_reader.proofs.Further.{dropped_progress, pushed_progress}
use Rattle.construct_reader.proofs.progress.declared.Goals as goal
use Rattle.construct_reader.proofs.progress.declared.Goals.{then-not-over+in_ok-push, else-not-over}

pub returns : goal.returns
returns c ls last rest p =
    let s = c.args.so_far in
    elim c.if-not-over.branch [
      | then-not-over+in_ok-push w ↦
          pushed_progress ls last c.args.decl rest s.name s.decls s.draft s.over p c.if-not-over.decls
          (ap (λ v. v.items) w.decls-is ∙ w.in_ok-push.ensures.items) w.if-not-over.true
      | else-not-over w ↦
          subst (λ v. IsProgress ls last record { name = s.name; decls = v; draft = s.draft; over = s.over } rest) (sym w.decls-is)
          (dropped_progress ls last c.args.decl rest s.name s.decls s.draft s.over p w.if-not-over.false)
    ]
