use Rattle.std.proofs.Common.{◌≡◌, ℕ, List, ◌+◌, ◌*◌, ◌<◌, ◌≤◌, ◌++◌, ◌∷◌, [], length, get_or, sym, ◌∙◌, ap, arith, map}
use Rattle.std.proofs.Math.Nat.{mul-le-mul_right}
use Rattle.std.proofs.lemmas.List.FromFn.{map-range_with_len_more}
use Rattle.std.specs.List.{range_with_len}
use Rattle.hpf_base.specs.declared.limits.TheConstants.{MAX_NODES}
use Rattle.mappings.specs.declared.limits.TheConstants.{MAX_BLOCK}
use Rattle.mappings.specs.GenBlock.{size_before}
use Rattle.mappings.proofs.GenBlocks.{size_before-more, size_before-small}
use Rattle.mappings.proofs.gen_block.BlockSizes.new.Goals as goal

-- one block further
next : (sizes xs : List ℕ) (i end : ℕ) → xs ≡ sizes → i < length xs → end ≡ size_before sizes i → end + get_or xs i 0 ≡ size_before sizes (i + 1)
next sizes xs i end same inside sum =
    let more = size_before-more sizes i 0 (omega (arith, inside, ap length same)) in
    omega (arith, sum, more, ap (λ ys. get_or ys i 0) same)

pub overflow_add-end : goal.overflow_add-end
overflow_add-end c =
    let at = next c.args.sizes.items c.as_slice-size-items.result.now c.loop-size.size-index c.loop-size.end
    c.as_slice-size-items.ensures.value c.loop-size-test.true c.loop-size.invariant.0 in
    let sum = size_before-small MAX_BLOCK c.args.sizes.items (c.loop-size.size-index + 1) c.requires.small in
    let few : length c.args.sizes.items * MAX_BLOCK ≤ MAX_NODES * MAX_BLOCK = mul-le-mul_right MAX_BLOCK c.requires.few in
    omega (arith, at, sum, few)

pub loop-size-preserved : goal.loop-size-preserved
loop-size-preserved c =
    let at = next c.args.sizes.items c.as_slice-size-items.result.now c.loop-size.size-index c.loop-size.end
    c.as_slice-size-items.ensures.value c.loop-size-test.true c.loop-size.invariant.0 in (
      at,
      c.in_ok-push.ensures.items
          ∙ ap (λ xs. xs ++ (c.loop-size.end + get_or c.as_slice-size-items.result.now c.loop-size.size-index 0) ∷ []) c.loop-size.invariant.1
          ∙ ap (λ n. map (λ c'. size_before c.args.sizes.items (c' + 1)) (range_with_len 0 c.loop-size.size-index) ++ n ∷ []) at
          ∙ sym (map-range_with_len_more (λ c'. size_before c.args.sizes.items (c' + 1)) 0 c.loop-size.size-index c.loop-size.size-index (omega arith)),
    )
