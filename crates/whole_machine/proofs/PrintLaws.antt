-- Items of a PRINT by their places.
use Rattle.std.proofs.Common.{◌≡◌, ℕ, zero, suc, ◌<◌, ◌≤◌, List, [], ◌∷◌, map, length, get_or, Some, None, refl, sym, ◌∙◌, ap, arith}
use Rattle.std.specs.List.{slice_get}
use Rattle.expression_rules.specs.declared.dims.Dim.{Dim}
use Rattle.code_meaning.specs.Instructions.{item_of, items_of}
use Rattle.node_code.specs.Texts.{print_item}
use Rattle.node_code.specs.declared.instruction.PrintItem.{PrintItem}

module _ (shapes : List (List Dim)) where
  get-item : (items : List PrintItem) (k : ℕ) (d : PrintItem) → k < length items → slice_get (items_of shapes (map print_item items)) k ≡ Some (item_of shapes (print_item (get_or items k d)))
  get-item [] k d lt = absurd (omega arith)
  get-item (i ∷ is) zero d lt = refl
  get-item (i ∷ is) (suc k) d lt = get-item is k d (omega arith)

  pub item-there : (items : List PrintItem) (k : ℕ) (i : PrintItem) → k < length items → i ≡ get_or items k i → slice_get (items_of shapes (map print_item items)) k ≡ Some (item_of shapes (print_item i))
  item-there items k i lt e = get-item items k i lt ∙ ap (λ x. Some (item_of shapes (print_item x))) (sym e)

  pub items-over : (items : List PrintItem) (k : ℕ) → length items ≤ k → slice_get (items_of shapes (map print_item items)) k ≡ None
  items-over [] k le = refl
  items-over (i ∷ is) zero le = absurd (omega arith)
  items-over (i ∷ is) (suc k) le = items-over is k (omega arith)
