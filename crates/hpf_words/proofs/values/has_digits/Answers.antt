use Rattle.std.proofs.Common.{◌≡◌, ◌∙◌, ◌≤◌, ap, sym, subst, arith, Bool, length}
use Rattle.std.specs.Prelude.{IsTrue}
use Rattle.std.specs.Char.{is_ascii_digit}
use Rattle.std.specs.List.{list_all}
use Rattle.hpf_words.specs.Jobs.{has_digits}
use Rattle.hpf_base.proofs.Digits.{list_all-digits}
use Rattle.hpf_words.proofs.Numbers.{digits_only}
use Rattle.hpf_words.proofs.values.has_digits.Goals as goal

pub returns : goal.returns
returns c =
    let same = ap length c.as_bytes-bytes.ensures.value in
    let some : 1 ≤ length c.args.text.now = omega (arith, same, c.if-bytes-lt1.false) in
    let few : length c.args.text.now ≤ c.args.most = omega (arith, same, c.if-bytes-most.false) in
    let is : c.are_digits.result ≡ has_digits c.args.most c.args.text.now = c.are_digits.ensures ∙ ap (list_all is_ascii_digit) c.as_bytes-bytes.ensures.value
    ∙ list_all-digits c.args.text.now ∙ sym (digits_only c.args.most c.args.text.now some few) in
    (subst (λ (b : Bool). IsTrue b) is, subst (λ (b : Bool). IsTrue b) (sym is))
