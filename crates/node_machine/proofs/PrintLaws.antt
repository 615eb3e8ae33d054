-- Items of a PRINT by their places, and their bytes on node 0.
use Rattle.std.proofs.Common.{◌≡◌, ℕ, zero, suc, ◌<◌, ◌≤◌, ◌==◌, Bool, true, false, if◌then◌else◌, eqb-true, List, [], ◌∷◌, ◌++◌, map, length, get_or, Some, None, refl, sym, ◌∙◌, ap, arith}
use Rattle.std.specs.List.{slice_get}
use Rattle.expression_rules.specs.declared.dims.Dim.{Dim}
use Rattle.machine_steps.specs.Node.{at_root}
use Rattle.node_code.specs.Instructions.{Instruction}
use Rattle.code_meaning.specs.Instructions.{item_of, items_of}
use Rattle.node_code.specs.Texts.{print_item}
use Rattle.node_code.specs.declared.instruction.PrintItem.{PrintItem}
use Rattle.node_program.specs.PrintedLines.{printed}
use Rattle.node_machine.specs.Steps.{IsItemStep, TextDoes}
use Rattle.node_machine.specs.declared.step.Step.{Step}
use Rattle.node_machine.specs.declared.step.Step.TheVariants as step

module _ (shapes : List (List Dim)) where
  get-item : (items : List PrintItem) (k : ℕ) (d : PrintItem) → k < length items → slice_get (items_of shapes (map print_item items)) k ≡ Some (item_of shapes (print_item (get_or items k d)))
  get-item [] k d lt = absurd (omega arith)
  get-item (i ∷ is) zero d lt = refl
  get-item (i ∷ is) (suc k) d lt = get-item is k d (omega arith)

  pub item-there : (items : List PrintItem) (k : ℕ) (i : PrintItem) → k < length items → i ≡ get_or items k i → slice_get (items_of shapes (map print_item items)) k ≡ Some (item_of shapes (print_item i))
  item-there items k i lt e = get-item items k i lt ∙ ap (λ x. Some (item_of shapes (print_item x))) (sym e)

  -- the step of the item that is next
  pub next-step : (items : List PrintItem) (i : PrintItem) (text : Instruction) (nodes k : ℕ) (s : Step) → slice_get (items_of shapes (map print_item items)) k ≡ Some (item_of shapes (print_item i))
      → IsItemStep (item_of shapes (print_item i)) s → TextDoes (printed shapes items) text nodes k s
  next-step items i text nodes k (step.PrintText t) there is = record { items = items_of shapes (map print_item items); is = refl; there = there ∙ ap Some is }
  next-step items i text nodes k (step.PrintSection s) there is = record { items = items_of shapes (map print_item items); is = refl; there = there ∙ ap Some is }
  next-step items i text nodes k s there is = absurd is

  pub items-over : (items : List PrintItem) (k : ℕ) → length items ≤ k → slice_get (items_of shapes (map print_item items)) k ≡ None
  items-over [] k le = refl
  items-over (i ∷ is) zero le = absurd (omega arith)
  items-over (i ∷ is) (suc k) le = items-over is k (omega arith)

-- what the other nodes would add doesn't count
pub same-at-root : (id : ℕ) (line xs ys : List ℕ) → (id ≡ 0 → xs ≡ ys) → at_root id (line ++ xs) ≡ at_root id (line ++ ys)
same-at-root id line xs ys same = by_test (id == 0) refl
  where
    by_test : (b : Bool) → (id == 0) ≡ b → (if b then line ++ xs else []) ≡ (if b then line ++ ys else [])
    by_test true e = ap (λ zs. line ++ zs) (same (eqb-true id 0 e))
    by_test false e = refl
