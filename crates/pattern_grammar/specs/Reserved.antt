-- Document 01's row 32: the bytes that a pattern may not have bare.
use Rattle.std.specs.Prelude.{◌≡◌, Bool, true, false, not, List, ◌∷◌, ◌⊎◌, ℕ, eqb}
use Rattle.decimal.specs.Digits.{begins}
use Rattle.pattern_token.specs.Items.{starts, currency, is_place}

-- r is what is left of s at a place outside quotes; the first argument: s begins inside quotes. "Quotes enclose literal text, `''`, looked for first,
-- is one apostrophe inside or outside."
pub data Bare : Bool → List ℕ → List ℕ → Type 0 where
  here : {s : List ℕ} → Bare false s s
  apostrophe : {q : Bool} {t r : List ℕ} → Bare q t r → Bare q (39 ∷ 39 ∷ t) r
  quote : {q : Bool} {t r : List ℕ} → begins 39 t ≡ false → Bare (not q) t r → Bare q (39 ∷ t) r
  byte : {q : Bool} {b : ℕ} {t r : List ℕ} → eqb b 39 ≡ false → Bare q t r → Bare q (b ∷ t) r

-- "bare `¤`, `*`, `@`, or `E` after a number-part byte": "`E` is literal unless directly after a bare number-part byte"
pub data Reserved (s : List ℕ) : Type 0 where
  sign : (r : List ℕ) → Bare false s r → (starts currency r ≡ true) ⊎ ((begins 42 r ≡ true) ⊎ (begins 64 r ≡ true)) → Reserved s
  behind_place : (b : ℕ) (t : List ℕ) → Bare false s (b ∷ 69 ∷ t) → is_place b ≡ true → Reserved s
