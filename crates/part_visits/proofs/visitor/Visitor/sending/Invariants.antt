use Rattle.std.proofs.Common.{ℕ, Bool, map, take}
use Rattle.std.specs.Option.{option_map}
use Rattle.course_forms.specs.Views.{names_of}
use Rattle.visited_tuples.specs.Own.{IsOwn}
use Rattle.visited_tuples.specs.Visited.{IsSending}
use Rattle.part_visits.proofs.visitor.Visitor.sending.Given as goal

-- those of the reads so far
abbrev pub invariant-loop-read : goal.invariant-loop-read
invariant-loop-read l = (computes : ℕ → ℕ → Bool)
    → IsOwn computes l.self.owners.now.nodes l.self.extents.now l.self.id (option_map (λ lists. map (λ v. v.items) lists.items) l.own.lists) l.own.beside.items
    → IsSending computes l.self.owners.now.nodes l.self.owners.now.layouts l.self.extents.now (names_of (take l.read-index l.reads)) l.self.id l.tuples.items
