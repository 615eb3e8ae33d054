use Rattle.std.proofs.Common.{◌≡◌, ℕ, List, None, get_or, map, slice_get, sym, ◌∙◌, ap}
use Rattle.std.proofs.lemmas.Option.{slice_get-map, unwrap_or-slice_get}
use Rattle.std.specs.Option.{option_copied, option_map, unwrap_or}
use Rattle.message_lines.proofs.elements.name_or.Goals as goal

past : {X Y : Type 0} (f : X → Y) (xs : List X) (k : ℕ) (d : Y) → slice_get xs k ≡ None → d ≡ get_or (map f xs) k d
past f xs k d none = sym (ap (λ o. unwrap_or o d) (slice_get-map f xs k ∙ ap (option_map f) none)) ∙ unwrap_or-slice_get (map f xs) k d

pub returns-in-None : goal.returns-in-None
returns-in-None c = past (λ e. e.name) c.args.names.now c.args.row _ (sym c.get.ensures ∙ ap option_copied c.in-None.is)
