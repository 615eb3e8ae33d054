-- The tokens of a line, one piece after another.
use Rattle.std.proofs.Common.{◌≡◌, ℕ, ◌+◌, ◌-◌, ◌≤◌, Bool, false, ◌||◌, List, ◌∷◌, ◌++◌, length, take, drop, refl, ap, subst, ◌∙◌, arith}
use Rattle.std.specs.List.{list_any}
use Rattle.std.proofs.lemmas.List.{take_rest, drop-drop, length-take, length-drop}
use Rattle.source_lines.specs.declared.token.Token.{Token}
use Rattle.token_scan.specs.Tokens.{is_no_token, is_past_limit, pieces, tokens, tokens_from}
use Rattle.token_scan.specs.Pieces.{IsPiece}
use Rattle.token_scan.specs.declared.piece.Piece.{Piece}
use Rattle.token_scan.specs.declared.piece.Piece.TheVariants as piece

-- a piece after a place passes the test
abbrev any_after : (List ℕ → Bool) → List ℕ → ℕ → Bool
any_after test bytes place = list_any test (pieces (drop place bytes))

-- a place up to which a line is read, where each piece before it is a token or blank, and the tokens that were found if
-- none of them is past its limit
pub record IsScanned (bytes : List ℕ) (place : ℕ) (found : List Token) (past_limit : Bool) : Type 0 where
  pub within : place ≤ length bytes
  pub bad : any_after is_no_token bytes 0 ≡ any_after is_no_token bytes place
  pub limit : any_after is_past_limit bytes 0 ≡ (past_limit || any_after is_past_limit bytes place)
  pub given : past_limit ≡ false → tokens bytes ≡ found ++ tokens_from place (pieces (drop place bytes))

-- a blank more, as it is read of the bytes after the place
pub scanned_blank : (bytes all : List ℕ) (place : ℕ) (found : List Token) (past_limit : Bool) (read : Piece) → IsScanned all place found past_limit
    → bytes ≡ all → read ≡ piece.Blank
    → IsPiece (take (length bytes - place) (drop place bytes)) read → IsScanned all (place + 1) found past_limit
scanned_blank bytes all place found past_limit read is e same h =
    let there : IsPiece (drop place bytes) read = subst (λ (l : List ℕ). IsPiece l read) (take_rest bytes place) h in
    blank (subst (λ (l : List ℕ). IsPiece (drop place l) piece.Blank) e (subst (λ (p : Piece). IsPiece (drop place bytes) p) same there))
  where
    blank : IsPiece (drop place all) piece.Blank → IsScanned all (place + 1) found past_limit
    blank b =
        let rest : pieces (drop place all) ≡ take 1 (drop place all) ∷ pieces (drop (place + 1) all) =
        b.0.cut ∙ ap (λ (l : List ℕ). take 1 (drop place all) ∷ pieces l) (drop-drop 1 place all) in
        let size : length (take 1 (drop place all)) ≡ 1 = omega (arith, length-take 1 (drop place all), b.0.within) in
        record {
          within = omega (arith, b.0.within, length-drop place all, is.within);
          bad = is.bad ∙ ap (list_any is_no_token) rest ∙ rw b.2 refl;
          limit = is.limit ∙ ap (λ t. past_limit || t) (ap (list_any is_past_limit) rest ∙ rw b.1 refl);
          given = λ h. is.given h ∙ ap (λ (l : List (List ℕ)). found ++ tokens_from place l) rest ∙ rw (b.1, size) refl;
        }
