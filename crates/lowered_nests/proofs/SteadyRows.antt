-- What a nest's code makes of the rows doesn't depend on how the rows lie, where copies have one size however they lie.
use Rattle.std.proofs.Common.{◌≡◌, ℕ, List, [], ◌∷◌, replicate, slice_set, ℤ, pos, ap, None}
use Rattle.storage.specs.Storage.{Storage, read}
use Rattle.storage.specs.Effect.{scatter}
use Rattle.machine_steps.specs.Layout.{Layout, size_of}
use Rattle.machine_steps.specs.Machine.{effect_of}
use Rattle.nest_machine.specs.Counting.{Counting}
use Rattle.nest_machine.specs.Body.{Body, count_body}
use Rattle.nest_machine.specs.BodyCode.{Texts, copy_spot}
use Rattle.nest_machine.specs.Trace.{Traced, Does, Marks, Makes, Data, traced, all_traced, trace}
use Rattle.nest_syntax.specs.Finals.{Final}
use Rattle.nest_machine.specs.Entries.{Entry, made, all_made, nest_entries, rows_after}

module _ {F : Type 0} (layout : List Layout → List ℤ → Layout) (steady : (one other : List Layout) (s : List ℤ) → size_of (layout one s) ≡ size_of (layout other s)) where
  traced-rows : (x : Traced F) (d e : Data F) → d.rows ≡ e.rows → (traced layout x d).rows ≡ (traced layout x e).rows
  traced-rows (Does tuples left slots) d e h = ap (λ (rows : Storage). scatter (effect_of tuples left slots (read rows)) (tuples.count slots) rows) h
  traced-rows (Marks tuples r slots) d e h = ap (λ (rows : Storage). scatter (effect_of tuples (copy_spot r) slots (read rows)) (tuples.count slots) rows) h
  traced-rows (Makes r slots) d e h = λ i. slice_set (h i) r (replicate (steady d.layouts e.layouts slots i) (pos 0))

  all-traced-rows : (xs : List (Traced F)) (d e : Data F) → d.rows ≡ e.rows → (all_traced layout xs d).rows ≡ (all_traced layout xs e).rows
  all-traced-rows [] d e h = h
  all-traced-rows (x ∷ xs) d e h = all-traced-rows xs (traced layout x d) (traced layout x e) (traced-rows x d e h)

  all-made-rows : (es : List Entry) (s : List ℤ) (d e : Data F) → d.rows ≡ e.rows → (all_made layout es s d).rows ≡ (all_made layout es s e).rows
  all-made-rows [] s d e h = h
  all-made-rows (x ∷ es) s d e h =
      all-made-rows es s (made layout x s d) (made layout x s e) (λ i. slice_set (h i) x.row (replicate (steady d.layouts e.layouts s i) (x.start s)))

  pub same-rows : {A C : Type 0} (texts : Texts A C F) (counting : Counting F) (size : List ℤ → ℕ) (stored : ℕ) (finals : List Final) (body : Body A C) (b : ℕ) (s : List ℤ) (d e : Data F)
      → d.rows ≡ e.rows → rows_after texts counting size layout stored finals body b s d ≡ rows_after texts counting size layout stored finals body b s e
  same-rows texts counting size stored finals body b s d e h =
      let es : List Entry = nest_entries finals stored (count_body body) in
      all-traced-rows (trace texts counting size stored body None 0 b s) (all_made layout es s d) (all_made layout es s e) (all-made-rows es s d e h)
