-- Laws of the items of a pattern: words at the front, tokens and their widths, one token more.
use mathlib.Core.Path.{◌≡◌, refl, sym, ap, ◌∙◌}
use mathlib.Core.Bool.{Bool, true}
use mathlib.Core.List.{List, [], ◌∷◌}
use Prim.Native.Nat.{ℕ, zero, suc, ◌+◌, ◌-◌, ◌≤◌, ◌<◌}
use native.Mathlib.Omega.{arith}
use lib.Dec.{eqb}
use lib.ListN.{length, get_or, drop, length-drop}
use lib.Seq.{drop-drop}
use Rattle.decimal.proofs.Choices.{choice, tested, not_both}
use Rattle.pattern_token.specs.declared.Mark.TheVariants.{Permille}
use Rattle.pattern_token.specs.declared.Item.{Item}
use Rattle.pattern_token.specs.declared.Item.TheVariants.{Text, Symbol, Quote, Reserved}
use Rattle.pattern_token.specs.declared.Token.{Token}
use Rattle.pattern_token.specs.Items.{starts, apostrophe, permille, currency, bare_of, token_at, token, quoted_after, is_number, items_from}
use Rattle.decimal.proofs.Runs.{drop_some}

-- ---- a text begins with a word

starts_fits : (w s : List ℕ) → starts w s ≡ true → length w ≤ length s
starts_fits [] s h = omega arith
starts_fits (x ∷ w) [] h = not_both h refl
starts_fits (x ∷ w) (y ∷ s) h =
    tested (eqb y x) (λ e. omega (arith, starts_fits w s (rw e at h))) (λ e. not_both h (rw e))

-- ---- tokens

-- a token takes at least one byte, and no more than there are
pub record Fits (s : List ℕ) (t : Token) : Type 0 where
  pub some : 1 ≤ t.width
  pub room : t.width ≤ length s

one_fits : (s : List ℕ) → 0 < length s → (t : Item) → Fits s (token t 1)
one_fits s h t = record { some = omega arith; room = h }

word_fits : (s w : List ℕ) → starts w s ≡ true → 1 ≤ length w → (t : Item) → Fits s (token t (length w))
word_fits s w e h t = record { some = h; room = starts_fits w s e }

pub token_fits : (quoted number : Bool) (s : List ℕ) → 0 < length s → Fits s (token_at quoted number s)
token_fits quoted number s h =
    choice (Fits s) (starts apostrophe s) (λ e. word_fits s apostrophe e (omega arith) (Text 39)) (λ _.
    choice (Fits s) (eqb (get_or s 0 0) 39) (λ e. one_fits s h Quote) (λ _.
    choice (Fits s) quoted (λ e. one_fits s h (Text (get_or s 0 0))) (λ _.
    choice (Fits s) (starts permille s) (λ e. word_fits s permille e (omega arith) (Symbol Permille)) (λ _.
    choice (Fits s) (starts currency s) (λ e. word_fits s currency e (omega arith) Reserved) (λ _.
    one_fits s h (bare_of number (get_or s 0 0)))))))

-- bytes of the token before are skipped
items_skip : (q n : Bool) (k : ℕ) (s : List ℕ) → items_from q n k s ≡ items_from q n 0 (drop k s)
items_skip q n zero s = refl
items_skip q n (suc k) [] = refl
items_skip q n (suc k) (b ∷ s) = items_skip q n k s

-- ---- one token more

-- the items of a text are its first token's and those behind it
items_one : (q n : Bool) (x : List ℕ) → 0 < length x
    → items_from q n 0 x
    ≡ (token_at q n x).item ∷ items_from (quoted_after q (token_at q n x).item) (is_number (token_at q n x).item) 0 (drop (token_at q n x).width x)
items_one q n [] h = absurd (no h)
  where
    no : 0 < 0 → ⊥
    no g = omega arith
items_one q n (b ∷ r) h =
    let t = token_at q n (b ∷ r) in
    ap (λ (l : List Item). t.item ∷ l)
    (items_skip (quoted_after q t.item) (is_number t.item) (t.width - 1) r
    ∙ ap (items_from (quoted_after q t.item) (is_number t.item) 0) (sym (drop_some t.width b r (token_fits q n (b ∷ r) h).some)))

-- the same at a place of a text, for the token found there
module _ (s : List ℕ) (i : ℕ) (q n : Bool) (h : i < length s) (t : Token) (e : t ≡ token_at q n (drop i s)) where
  some_left : 0 < length (drop i s)
  some_left = omega (arith, length-drop i s)

  pub token_within : (1 ≤ t.width) × (i + t.width ≤ length s)
  token_within =
      let w = token_fits q n (drop i s) some_left in
      rw e (w.some, omega (arith, w.room, length-drop i s))

  pub items_step : items_from q n 0 (drop i s) ≡ t.item ∷ items_from (quoted_after q t.item) (is_number t.item) 0 (drop (i + t.width) s)
  items_step = rw (e, ← drop-drop) (items_one q n (drop i s) some_left)
