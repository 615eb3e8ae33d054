-- After a nest that has an iteration the index of each loop in it has its value in its slot.
use Rattle.std.proofs.Common.{◌≡◌, ℕ, ◌<◌, List, [], ℤ, Bool, true, None, refl, sym, ◌∙◌, arith, true≢false}
use Rattle.storage.specs.Storage.{Storage}
use Rattle.nest_syntax.specs.NestKinds.{has_copies}
use Rattle.array_meaning.specs.Statements.{Loop, Block}
use Rattle.array_meaning.specs.Faults.{Fault}
use Rattle.array_meaning.specs.State.{State, scalar}
use Rattle.array_meaning.specs.Runs.{Run}
use Rattle.array_meaning.specs.Iterations.{iteration_count, at_iteration}
use Rattle.machine_steps.specs.Instr.{Instr}
use Rattle.code_meaning.specs.Flat.{slot}
use Rattle.nest_items.proofs.Storing.{by_cases}
use Rattle.nest_machine.specs.Trace.{Data}
use Rattle.nest_machine.specs.Finals.{NotAmong}
use Rattle.nest_machine.proofs.Slots.{same-refl}
use Rattle.statement_trail.specs.NestParts.{index_in}
use Rattle.nest_join.specs.NestNames.{NestNames, indices_of}
use Rattle.nest_join.specs.CodedBlocks.{IsCodedBlock}
use Rattle.nest_join.specs.NestRuns.{NestCode, IsBegun, EndsAsMeant, HasFinals}
use Rattle.nest_join.proofs.InnerIndices.{after-block}
use Rattle.nest_join.proofs.NestIndices.{nest-settles}

module _ {I : Type 0} (meaning : I → Instr Fault) (code : List I) (is_quiet : ℕ → Bool) (joined : ℤ) (line printed : List ℕ) (w : NestNames) (c : NestCode) (all : ℕ → Bool) (s : State)
    (loop : Loop) (block body : Block) (ok : IsCodedBlock w s [] body) (start : Storage) (entry : List ℤ) (d : Data Fault) (run : Run)
    (begun : IsBegun meaning code is_quiet w c all s loop block body ok start entry d)
    (h : EndsAsMeant meaning code is_quiet joined line printed w c all s loop block body ok start entry d run) (finals : HasFinals w c s body ok start entry) where
  not-among : (k : ℕ) → k < w.count → all k ≡ true → NotAmong k c.finals
  not-among k lt free = by_cases (has_copies (w.kinds k))
      (λ has. absurd (true≢false (sym free ∙ begun.enters.stands.quiet k has)))
      (λ none. finals.others k lt none)

  pub index-held : (iteration_count w.nest s ≡ 0 → ⊥) → ((j : ℕ) → j < w.count → w.is_index j ≡ true → slot entry j ≡ scalar s j)
      → (k : ℕ) → k < w.count → all k ≡ true → w.is_index k ≡ true → index_in (indices_of w) 0 k ≡ None → slot h.after.slots k ≡ scalar h.state k
  index-held some before k lt free is off =
      h.after.indices k (not-among k lt free)
      ∙ after-block w c.line c.slot entry s begun.holds begun.outside 0 [] body ok (at_iteration w.nest s 0) c.slot entry (omega arith)
      (record { same = same-refl w.is_index c.slot entry; state = refl; off = tt }) begun.room s begun.holds.scalars before k lt is
      ∙ sym (nest-settles w c.line c.slot entry s begun.holds begun.outside all body ok k lt loop block begun.enters.stands some off 0)
      ∙ sym (h.indices.values k free)
