use Rattle.std.proofs.Common.{◌≡◌, ◌≤◌, List, ℕ, true, false, length, take, sym, subst, ◌∙◌, refl, arith}
use Rattle.std.proofs.lemmas.Bool.{le-ltb, lt-ltb}
use Rattle.std.proofs.lemmas.List.{length-take}
use Rattle.hpf_base.specs.Name.{IsName}
use Rattle.token_scan.specs.declared.limits.TheConstants.{MAX_NAME_BYTES}
use Rattle.source_lines.specs.declared.token.TokenKind.TheVariants.{Word}
use Rattle.token_scan.specs.Pieces.{IsPiece, IsToken}
use Rattle.token_scan.specs.Tokens.{is_word_byte, upper}
use Rattle.token_scan.specs.declared.piece.Piece.TheVariants.{Token}
use Rattle.token_scan.proofs.Fronts.{past_front}
use Rattle.token_scan.proofs.Runs.{length-upper, run-within, word_front, word_long}
use Rattle.token_scan.proofs.piece.word.Goals as goal

pub returns-then-len-gt-MAX_NAME_BYTES : goal.returns-then-len-gt-MAX_NAME_BYTES
returns-then-len-gt-MAX_NAME_BYTES c =
    let len = c.run_len-len.result in
    let bytes = c.args.bytes.now in
    let front : IsToken bytes len (Word (upper (take len bytes))) = word_front bytes len c.requires c.run_len-len.ensures.count in
    past_front bytes len (Word (upper (take len bytes))) front (lt-ltb MAX_NAME_BYTES _ (omega (arith, c.if-len-gt-MAX_NAME_BYTES.true, length-upper (take len bytes), length-take len bytes, front.0.within)))

pub returns-in-Some : goal.returns-in-Some
returns-in-Some c =
    let spelled : c.deref.result.now ≡ upper (take c.run_len-len.result c.args.bytes.now) = c.deref.ensures.value ∙ c.in_ok-upper.ensures in
    let few : length (upper (take c.run_len-len.result c.args.bytes.now)) ≤ MAX_NAME_BYTES =
    omega (arith, c.if-len-gt-MAX_NAME_BYTES.false, length-upper (take c.run_len-len.result c.args.bytes.now), length-take c.run_len-len.result c.args.bytes.now) in
    subst (λ (name : List ℕ). IsPiece c.args.bytes.now (Token c.run_len-len.result (Word name))) (sym (c.in-Some.ensures.value ∙ spelled))
    (word_front c.args.bytes.now c.run_len-len.result c.requires c.run_len-len.ensures.count, le-ltb MAX_NAME_BYTES _ few)

pub returns : goal.returns
returns c =
    let len = c.run_len-len.result in
    let bytes = c.args.bytes.now in
    let spelled : c.deref.result.now ≡ upper (take len bytes) = c.deref.ensures.value ∙ c.in_ok-upper.ensures in
    let front : IsToken bytes len (Word (upper (take len bytes))) = word_front bytes len c.requires c.run_len-len.ensures.count in
    let some : 1 ≤ length (take len bytes) = omega (arith, length-take len bytes, front.0.some, front.0.within) in
    past_front bytes len (Word (upper (take len bytes))) front (word_long (take len bytes) some (rw c.run_len-len.ensures.count (run-within is_word_byte bytes))
    (λ name. let named : false ≡ true = c.in-None.ensures.some.1 (subst IsName (sym spelled) name) in absurd cc))
