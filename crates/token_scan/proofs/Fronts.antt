-- The longest front that is a token, by the class of the first byte, and the first piece.
use Rattle.std.proofs.Common.{◌≡◌, ℕ, zero, suc, ◌<◌, ◌≤◌, Bool, true, false, List, [], ◌∷◌, length, take, Some, None, is_some, refl, ap, ◌∙◌, arith}
use Rattle.std.specs.Prelude.{nat_lt}
use Rattle.std.specs.List.{list_any}
use Rattle.std.proofs.lemmas.Bool.{ltb-true, ltb-false}
use Rattle.std.proofs.lemmas.Bool.Decides.{nat_tests}
use Rattle.hpf_base.specs.declared.refusal.Reason.TheVariants.{BadLine}
use Rattle.source_lines.specs.PhysicalLines.{is_blank}
use Rattle.source_lines.specs.declared.token.TokenKind.{TokenKind}
use Rattle.source_lines.proofs.Cuts.{cut-cons, cut-first}
use Rattle.token_scan.specs.Tokens.{class_of, first_byte, first_class, greatest, is_above_limit, is_no_token, token_kind, longest, pieces, spelled, HasBreach}
use Rattle.token_scan.specs.Pieces.{IsFirst, IsPiece, IsToken}
use Rattle.token_scan.specs.declared.byte_class.ByteClass.{ByteClass}
use Rattle.token_scan.specs.declared.byte_class.ByteClass.TheVariants as begins
use Rattle.token_scan.specs.declared.piece.Piece.TheVariants as piece

-- a number that passes the test, or 0, above which none passes
greatest-at : (test : ℕ → Bool) (n most : ℕ) → n ≤ most → (1 ≤ n → test n ≡ true) → ((m : ℕ) → n < m → m ≤ most → test m ≡ false) → greatest test most ≡ n
greatest-at test n zero within passes fails = omega arith
greatest-at test n (suc most) within passes fails =
    step (nat_lt n (suc most)) refl (λ (h : n ≤ most). greatest-at test n most h passes (λ m above below. fails m above (omega arith)))
  where
    step : (t : Bool) → nat_lt n (suc most) ≡ t → (n ≤ most → greatest test most ≡ n) → greatest test (suc most) ≡ n
    step true e below =
        let less : n < suc most = ltb-true _ _ e in
        let last : test (suc most) ≡ false = fails (suc most) less (omega arith) in
        rw last (below (omega arith))
    step false e below =
        let same : n ≡ suc most = omega (arith, ltb-false _ _ e) in
        let here : test (suc most) ≡ true = ap test (omega arith) ∙ passes (omega arith) in
        rw here (omega arith)

pub first_byte-take : (bytes : List ℕ) (n : ℕ) → 1 ≤ n → first_byte (take n bytes) ≡ first_byte bytes
first_byte-take bytes zero some = absurd (omega arith)
first_byte-take [] (suc n) some = refl
first_byte-take (b ∷ bytes) (suc n) some = refl

-- a front is spelled by the class of the first byte of all
token_kind-front : (class : ByteClass) (bytes : List ℕ) (n : ℕ) → first_class bytes ≡ class → 1 ≤ n → token_kind (take n bytes) ≡ spelled class (take n bytes)
token_kind-front class bytes n is some = ap (λ c. spelled c (take n bytes)) (ap class_of (first_byte-take bytes n some) ∙ is)

-- no front of more than so many bytes spells a token of the class
abbrev pub NoneLonger : ByteClass → List ℕ → ℕ → Type 0
NoneLonger class bytes n = (m : ℕ) → n < m → m ≤ length bytes → spelled class (take m bytes) ≡ None

longest-at : (class : ByteClass) (bytes : List ℕ) (n : ℕ) → first_class bytes ≡ class → n ≤ length bytes
    → (1 ≤ n → is_some (token_kind (take n bytes)) ≡ true) → NoneLonger class bytes n → longest bytes ≡ n
longest-at class bytes n is within passes fails =
    greatest-at (λ n. is_some (token_kind (take n bytes))) n (length bytes) within passes
    (λ m above below. ap is_some (token_kind-front class bytes m is (omega arith) ∙ fails m above below))

-- a front that spells a token of its class, and no longer one does, is the first piece
pub token_front : (class : ByteClass) (bytes : List ℕ) (n : ℕ) (kind : TokenKind) → first_class bytes ≡ class → 1 ≤ n → n ≤ length bytes → spelled class (take n bytes) ≡ Some kind
    → NoneLonger class bytes n → IsToken bytes n kind
token_front class bytes n kind is some within spells fails =
    let token : token_kind (take n bytes) ≡ Some kind = token_kind-front class bytes n is some ∙ spells in (
      record {
        some = some;
        within = within;
        cut = cut-first longest bytes n (longest-at class bytes n is within (λ h. ap is_some token) fails) some within;
      },
      token,
    )

-- the same above its limit
pub past_front : (bytes : List ℕ) (n : ℕ) (kind : TokenKind) → IsToken bytes n kind → is_above_limit kind ≡ true → IsPiece bytes (piece.PastLimit n)
past_front bytes n kind token above = (token.0, rw token.1 refl, rw (token.1, above) refl)

-- where no front spells a token, the first piece is one byte
byte_front : (class : ByteClass) (b : ℕ) (bytes : List ℕ) → class_of b ≡ class → NoneLonger class (b ∷ bytes) 0 → IsFirst (b ∷ bytes) 1 × (token_kind (b ∷ []) ≡ None)
byte_front class b bytes is fails =
    let none : longest (b ∷ bytes) ≡ 0 = longest-at class (b ∷ bytes) 0 is (omega arith) (λ some. absurd (omega arith)) fails in (
      record { some = omega arith; within = omega arith; cut = cut-cons longest b bytes ∙ rw none refl },
      token_kind-front class (b ∷ bytes) 1 is (omega arith) ∙ fails 1 (omega arith) (omega arith),
    )

-- where no front spells a token, and no blank stands, the first piece is a breach
pub no_front : (class : ByteClass) (bytes : List ℕ) → 1 ≤ length bytes → first_class bytes ≡ class → (begins.Blank ≡ class → ⊥)
    → NoneLonger class bytes 0 → HasBreach BadLine (pieces bytes)
no_front class [] some is other fails = absurd (omega arith)
no_front class (b ∷ bytes) some is other fails = step (is_blank b) refl (byte_front class b bytes is fails)
  where
    step : (t : Bool) → is_blank b ≡ t → IsFirst (b ∷ bytes) 1 × (token_kind (b ∷ []) ≡ None) → HasBreach BadLine (pieces (b ∷ bytes))
    step true e first = absurd (other (let blank : class_of b ≡ begins.Blank = rw e refl in cc))
    step false e first = ap (list_any is_no_token) first.0.cut ∙ rw (first.1, e) refl

blank-class : (b : ℕ) → class_of b ≡ begins.Blank → is_blank b ≡ true
blank-class b is = grind (arith, nat_tests)

pub blank_front : (bytes : List ℕ) → 1 ≤ length bytes → first_class bytes ≡ begins.Blank → IsPiece bytes piece.Blank
blank_front [] some is = absurd (omega arith)
blank_front (b ∷ bytes) some is =
    let first = byte_front begins.Blank b bytes is (λ m above below. refl) in
    (first.0, first.1, rw (first.1, blank-class b is) refl)
