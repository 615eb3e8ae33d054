use Rattle.std.proofs.Common.{◌≡◌, ◌++◌, ◌∷◌, drop}
use Rattle.std.specs.Fmt.{signed_decimal}
use Rattle.std.specs.List.{flat_map}
use Rattle.run_report.proofs.tuple_text.add_more.Given as goal

-- what is added, before what is left
abbrev pub invariant-loop-number : goal.invariant-loop-number
invariant-loop-number l =
    l.text.items ++ flat_map (λ n. 44 ∷ signed_decimal n) (drop l.number-index l.numbers)
    ≡ l.fn.text.items ++ flat_map (λ n. 44 ∷ signed_decimal n) l.numbers
