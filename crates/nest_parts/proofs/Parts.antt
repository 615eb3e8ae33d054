-- A nest ends as its parts do.
use Rattle.std.proofs.Common.{◌≡◌, ℕ, ◌<◌, subst, Bool, false}
use Rattle.storage.specs.Storage.{Storage}
use Rattle.storage.specs.Parted.{NoneKept, IsLeastKept}
use Rattle.nest_syntax.specs.NestKinds.{Kind}
use Rattle.nest_order.specs.Scalars.{ReadsLate, MayCopy}
use Rattle.nest_order.proofs.WholeNest.{whole_finishes, whole_faults}
use Rattle.array_meaning.specs.Statements.{Loop, Nest, Block, Do, Outermost}
use Rattle.array_meaning.specs.Faults.{Fault}
use Rattle.array_meaning.specs.State.{State}
use Rattle.array_meaning.specs.Runs.{Faulted}
use Rattle.array_meaning.specs.Execution.{run}
use Rattle.array_meaning.specs.Touches.{assigned_in}
use Rattle.array_meaning.specs.Iterations.{nest_axes, nest_indices, iteration_count, at_iteration}
use Rattle.nest_items.specs.NestItems.{one, iteration_items}
use Rattle.nest_parts.specs.NestSpots.{reads, written_by, reducing, touched_in, written_in}
use Rattle.nest_items.specs.Settled.{settled_by}
use Rattle.nest_items.specs.NestEnds.{EndsAs}
use Rattle.nest_parts.specs.NestParts.{IsGood, acts, copies, IsEntered, EndsAsParts}
use Rattle.nest_items.proofs.Nests.{nest_ends}
use Rattle.nest_parts.proofs.Extents.{loops-alike}
use Rattle.nest_parts.proofs.Parallel.{is_parallel}
use Rattle.nest_parts.proofs.Fitting.{good_at}
use Rattle.nest_parts.proofs.Late.{block_late}
use Rattle.nest_parts.proofs.MayCopies.{may_copy}

module _ (kinds : ℕ → Kind) (all : ℕ → Bool) (s : State) (nest : Nest) (line : ℕ) (loop : Loop) (block body : Block) (start : Storage) (row parts : ℕ)
    (h : IsEntered kinds all s nest loop block body start row parts) where
  all_good : (i : ℕ) → i < iteration_count nest s → IsGood kinds (at_iteration nest s i)
  all_good i lt = good_at kinds (nest_indices nest) (nest_axes s nest) i s h.good

  all_late : (i : ℕ) → i < iteration_count nest s → ReadsLate kinds (reads kinds (assigned_in body)) (written_by kinds) (iteration_items nest body s i) (λ row. false)
  all_late i lt = block_late kinds (assigned_in body) body h.stands.inside (at_iteration nest s i) (λ k. false) (λ k. false) (h.stands.each i lt) h.paths (λ row e. e)

  pub entered_copies : MayCopy (one kinds) kinds (reads kinds (assigned_in body)) (written_by kinds) (reducing kinds) start (iteration_count nest s) (iteration_items nest body s)
  entered_copies = may_copy kinds all s nest loop block body h.stands h.kinds_are h.passed start h.opening.rows h.fit all_good all_late

  pub nest_finishes : NoneKept (acts kinds nest body s row) (copies kinds nest s start) (iteration_count nest s) parts
      → EndsAsParts kinds all s nest line loop block body start row parts
  nest_finishes none =
      let w = whole_finishes (one kinds) kinds (reads kinds (assigned_in body)) (written_by kinds) (reducing kinds) start (iteration_count nest s) (iteration_items nest body s)
      entered_copies (touched_in kinds (assigned_in body)) (written_in kinds) row parts
      (is_parallel kinds all s nest loop block body h.stands h.kinds_are h.passed start row h.room) h.enough none in
      let e = subst (EndsAs kinds all s (settled_by s (Do (Outermost nest body) loop block) s) (run (Do (Outermost nest body) loop block) line s)) w.1
      (nest_ends kinds all s nest line loop block body h.stands h.passed start h.opening) in
      record {
        state = e.0;
        storage = w.0;
        ends = e.1;
        same = e.2;
        indices = e.4;
        alike = loops-alike (one kinds) (iteration_items nest body s) start w.0 (iteration_count nest s) w.1;
        agrees = w.2;
      }

  pub nest_faults : (i j : ℕ) (fault : Fault) → IsLeastKept (acts kinds nest body s row) (copies kinds nest s start) (iteration_count nest s) parts i j fault
      → (r : State) × (run (Do (Outermost nest body) loop block) line s ≡ record { state = r; completion = Faulted fault }) × (r.printed ≡ s.printed)
  nest_faults i j fault least =
      subst (EndsAs kinds all s (settled_by s (Do (Outermost nest body) loop block) s) (run (Do (Outermost nest body) loop block) line s))
      (whole_faults (one kinds) kinds (reads kinds (assigned_in body)) (written_by kinds) (reducing kinds) start (iteration_count nest s) (iteration_items nest body s)
      entered_copies (touched_in kinds (assigned_in body)) (written_in kinds) row parts
      (is_parallel kinds all s nest loop block body h.stands h.kinds_are h.passed start row h.room) h.enough i j fault least)
      (nest_ends kinds all s nest line loop block body h.stands h.passed start h.opening)
