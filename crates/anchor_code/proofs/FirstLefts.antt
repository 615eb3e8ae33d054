-- The first of left sides.
use Rattle.std.proofs.Common.{◌≡◌, ℕ, Option, Some, None, true, false, refl, sym}
use Rattle.std.specs.Prelude.{is_some}
use Rattle.std.specs.Option.{option_or}
use Rattle.std.proofs.lemmas.Bool.{true≢false}
use Rattle.statement_trail.specs.Anchors.{AnchorText}
use Rattle.anchor_code.specs.declared.lefts.Left.{Left}
use Rattle.anchor_code.specs.Lefts.{anchor_from}

-- where there is one, it is the first of it and others, and else theirs
pub first_here : (index : ℕ → Option ℕ) (first : Option Left) (rest : Option AnchorText) → is_some first ≡ true → option_or (anchor_from index first) rest ≡ anchor_from index first
first_here index None rest some = absurd (true≢false (sym some))
first_here index (Some x) rest some = refl

pub first_later : (index : ℕ → Option ℕ) (first : Option Left) (rest : Option AnchorText) → is_some first ≡ false → option_or (anchor_from index first) rest ≡ rest
first_later index None rest none = refl
first_later index (Some x) rest none = absurd (true≢false none)
