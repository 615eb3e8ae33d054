use Rattle.std.proofs.Common.{◌≡◌, pos, length, map, refl, ◌∙◌}
use Rattle.std.proofs.lemmas.Simd.{splat_is_map}
use Rattle.owner_tables.proofs.copies.copy_shape.Goals as goal

pub returns : goal.returns
returns c =
    let extents = c.args.extents.now in
    let lower : c.index.result ≡ map (λ e. pos 1) extents =
    c.index.ensures ∙ c.deref.ensures.value ∙ c.in_ok-lower.ensures ∙ splat_is_map extents (length extents) (pos 1) refl in
    let extent : c.index-2.result ≡ map pos extents = c.index-2.ensures ∙ c.deref-2.ensures.value ∙ c.in_ok-extent.ensures in
    rw (lower, extent) refl
