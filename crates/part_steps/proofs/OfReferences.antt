-- Parts of statements by what these name.
use Rattle.std.proofs.Common.{◌≡◌, ℕ, ◌==◌, List, map, Option, Some, None, refl, sym, ◌∙◌, ap}
use Rattle.std.specs.Option.{IfSome}
use Rattle.machine_steps.specs.Layout.{Layout, in_bounds}
use Rattle.machine_steps.specs.Message.{computes_left, first_read, least_or_zero}
use Rattle.courses.specs.References.{Named, named_spot}
use Rattle.visited_tuples.specs.Parts.{IsPartOf}
use Rattle.tuple_values.specs.NamedElements.{AreInOrder, AreReferences, spot_if}
use Rattle.tuple_values.specs.Statements.{Statement}
use Rattle.part_steps.specs.Parts.{part_of}
use Rattle.part_steps.specs.declared.who.Who.TheVariants.{Left, First, Root}

pub if-some-map : {A : Type 0} {P Q : A → Type 0} (o : Option A) → ((x : A) → P x → Q x) → IfSome o P → IfSome o Q
if-some-map None f h = h
if-some-map (Some x) f h = f x h

module _ (nodes : ℕ) (layouts : List Layout) (w : Statement) (ns : List ℕ) (l : Option Named) (rs : List Named) (are : AreReferences w ns l rs) where
  pub left-part : (left : Named) → l ≡ Some left
      → IsPartOf ns rs (λ node t. computes_left layouts node (in_bounds layouts (named_spot ns t left))) (part_of (record { who = Left; nodes = nodes; layouts = layouts; statement = w }))
  left-part left is = record {
    tuples = sym are.count;
    reads = are.reads;
    computes = λ node t small. ap (λ o. computes_left layouts node (in_bounds layouts o)) (are.left t small ∙ ap (spot_if ns t) is);
  }

  pub first-part : AreInOrder w ns rs → IsPartOf ns rs (λ node t. least_or_zero nodes layouts (in_bounds layouts (first_read (map (named_spot ns t) rs))) == node)
      (part_of (record { who = First; nodes = nodes; layouts = layouts; statement = w }))
  first-part order = record {
    tuples = sym are.count;
    reads = are.reads;
    computes = λ node t small. ap (λ reads. least_or_zero nodes layouts (in_bounds layouts (first_read reads)) == node) (order t small);
  }

  pub root-part : IsPartOf ns rs (λ node t. node == 0) (part_of (record { who = Root; nodes = nodes; layouts = layouts; statement = w }))
  root-part = record { tuples = sym are.count; reads = are.reads; computes = λ node t small. refl }
