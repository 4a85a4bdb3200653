-- Document 01, "The pattern": what a pattern is, on bytes, quotes and all. "A prefix, a number part, a suffix; optionally `;` and a negative
-- subpattern." Reserved bytes are refusal 32's and play no part here.
use Rattle.std.specs.Prelude.{◌≡◌, Bool, true, false, not, List, [], ◌∷◌, ◌++◌, ℕ, eqb, if◌then◌else◌}
use Rattle.decimal.specs.Digits.{begins}
use Rattle.pattern_token.specs.Items.{is_place}
use Rattle.pattern_grammar.specs.NumberPart.{IsPart}

-- a byte that may stand bare in an affix: "Bytes `0-9 # . ,` begin the number part and may not stand bare in a suffix"; "A bare `;` stands only
-- between subpatterns."
abbrev pub is_bare : ℕ → Bool
is_bare b = if eqb b 39 then false else if is_place b then false else not (eqb b 59)

-- An affix that begins inside quotes or outside, and ends outside. "Quotes enclose literal text, `''`, looked for first, is one apostrophe inside or
-- outside": a quote stands alone only where no other follows it.
pub data IsAffix : Bool → List ℕ → Type 0 where
  done : IsAffix false []
  apostrophe : {q : Bool} {t : List ℕ} → IsAffix q t → IsAffix q (39 ∷ 39 ∷ t)
  quote : {q : Bool} {t : List ℕ} → begins 39 t ≡ false → IsAffix (not q) t → IsAffix q (39 ∷ t)
  literal : {b : ℕ} {t : List ℕ} → eqb b 39 ≡ false → IsAffix true t → IsAffix true (b ∷ t)
  bare : {b : ℕ} {t : List ℕ} → is_bare b ≡ true → IsAffix false t → IsAffix false (b ∷ t)

pub record IsSub (s : List ℕ) : Type 0 where
  pub prefix : List ℕ
  pub number : List ℕ
  pub suffix : List ℕ
  pub text : s ≡ prefix ++ (number ++ suffix)
  pub prefix_is : IsAffix false prefix
  pub number_is : IsPart number
  pub suffix_is : IsAffix false suffix

pub data IsPattern : List ℕ → Type 0 where
  one : {s : List ℕ} → IsSub s → IsPattern s
  two : {a b : List ℕ} → IsSub a → IsSub b → IsPattern (a ++ (59 ∷ b))
