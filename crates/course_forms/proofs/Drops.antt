-- One axis more.
use Rattle.std.proofs.Common.{◌≡◌, ℕ, suc, ◌+◌, ◌<◌, List, ◌∷◌, length, drop, get_or, sym, ◌∙◌, ap, arith}
use Rattle.std.proofs.Math.Seq.{drop-cons}
use Rattle.array_meaning.specs.declared.sections.Sequence.{Sequence}
use Rattle.array_meaning.specs.declared.sections.Selection.{Selection}
use Rattle.array_meaning.specs.declared.sections.Selection.TheVariants.{Along}
use Rattle.courses.specs.Courses.{Course, along, section_courses}

pub along_next : (used : ℕ) (ns : List ℕ) (d : Selection) (p : Sequence) (c : Course) (ds : List Selection) → used < length ns → d ≡ Along p
    → c ≡ along used (get_or ns used 0) p.first p.step → section_courses used (drop used ns) (d ∷ ds) ≡ c ∷ section_courses (used + 1) (drop (used + 1) ns) ds
along_next used ns d p c ds below is e =
    let next : suc used ≡ used + 1 = omega arith in
    ap (λ x. section_courses used (drop used ns) (x ∷ ds)) is
    ∙ ap (λ ms. section_courses used ms (Along p ∷ ds)) (drop-cons ns used 0 below)
    ∙ ap (λ k. along used (get_or ns used 0) p.first p.step ∷ section_courses (used + 1) (drop k ns) ds) next
    ∙ ap (λ x. x ∷ section_courses (used + 1) (drop (used + 1) ns) ds) (sym e)
