use Rattle.std.proofs.Common.{SFits, w64, ℤ, sym, subst, take, ◌∙◌, rules}
use Rattle.std.specs.Char.{is_ascii_digit}
use Rattle.std.proofs.lemmas.Bool.{le-leb, lt-leb}
use Rattle.std.proofs.lemmas.Int.{to_z-of_z}
use Rattle.hpf_base.proofs.Digits.{list_all-digits}
use Rattle.source_lines.specs.declared.token.TokenKind.TheVariants.{Integer}
use Rattle.token_scan.specs.Pieces.{IsPiece}
use Rattle.token_scan.specs.declared.piece.Piece.TheVariants.{Token}
use Rattle.token_scan.proofs.Fronts.{past_front}
use Rattle.token_scan.proofs.Runs.{literal_front, run-within}
use Rattle.token_scan.proofs.piece.integer.Goals as goal

pub value_of-requires : goal.value_of-requires
value_of-requires c = sym (list_all-digits (take c.run_len-len.result c.args.bytes.now)) ∙ rw c.run_len-len.ensures.count (run-within is_ascii_digit c.args.bytes.now)

pub returns-in-Some : goal.returns-in-Some
returns-in-Some c =
    let fits : SFits w64 c.in-Some.value = search rules in
    subst (λ (n : ℤ). IsPiece c.args.bytes.now (Token c.run_len-len.result (Integer n))) (sym (to_z-of_z w64 c.in-Some.value fits ∙ c.in-Some.ensures.0))
    (literal_front c.args.bytes.now c.run_len-len.result c.requires c.run_len-len.ensures.count, lt-leb _ _ c.in-Some.ensures.1)

pub returns-in-None : goal.returns-in-None
returns-in-None c =
    past_front c.args.bytes.now c.run_len-len.result _ (literal_front c.args.bytes.now c.run_len-len.result c.requires c.run_len-len.ensures.count) (le-leb _ _ c.in-None.ensures)
