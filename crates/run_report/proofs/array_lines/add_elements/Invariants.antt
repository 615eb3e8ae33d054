use Rattle.std.proofs.Common.{◌≡◌, ◌++◌, drop}
use Rattle.run_report.specs.ArraysText.{elements_text}
use Rattle.run_report.proofs.array_lines.add_elements.Given as goal

-- what is added, before what is left
abbrev pub invariant-loop-element : goal.invariant-loop-element
invariant-loop-element l = l.text.items ++ elements_text (drop l.element-index l.elements) ≡ l.fn.text.items ++ elements_text l.elements
