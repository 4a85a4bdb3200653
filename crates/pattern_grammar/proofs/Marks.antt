-- The marks that the reader counts in an affix are those that stand bare in it.
use mathlib.Core.Path.{◌≡◌, refl, sym, ◌∙◌}
use mathlib.Core.Bool.{Bool, true, false}
use mathlib.Core.List.{List, [], ◌∷◌}
use Prim.Native.Nat.{ℕ, zero, suc, ◌+◌, ◌≤◌, ◌<◌}
use native.Mathlib.Omega.{arith}
use borrow.Author.Tests.{ne_eqb, eqb-true, ltb-true, ltb-false}
use lib.Dec.{eqb, ltb}
use Rattle.std.specs.Prelude.{if◌then◌else◌}
use Rattle.decimal.proofs.Choices.{choice, tested, not_both, both_true}
use Rattle.pattern_token.specs.declared.Mark.{Mark}
use Rattle.pattern_token.specs.declared.Mark.TheVariants.{Percent, Permille}
use Rattle.pattern_token.specs.declared.Item.{Item}
use Rattle.pattern_token.specs.declared.Item.TheVariants.{Symbol}
use Rattle.pattern_token.specs.Items.{starts, permille, currency, is_place, is_reserved, bare_of, is_number, items_from, items}
use Rattle.pattern_affix.specs.Affixes.{weight, marks}
use Rattle.pattern_grammar.specs.Grammar.{is_bare, IsAffix, done, apostrophe, quote, literal, bare}
use Rattle.pattern_grammar.specs.Meaning.{percent_mark, bare_count}
use Rattle.pattern_grammar.proofs.Affixes.{bare_kept, bare_parts, single, is_inner, highs, permille_highs, currency_highs}

-- 1 where the text begins with the word
abbrev at : List ℕ → List ℕ → ℕ
at word s = if starts word s then 1 else 0

-- a word stands for a mark: what a token weighs is whether the word stands at its front, and at none of its further bytes
record Stands (m : Mark) (word : List ℕ) : Type 0 where
  inner : (b : ℕ) (t : List ℕ) → is_inner b ≡ true → at word (b ∷ t) ≡ 0
  at_permille : (b : ℕ) (t : List ℕ) → starts permille (b ∷ t) ≡ true → weight m (Symbol Permille) ≡ at word (b ∷ t)
  at_currency : (b : ℕ) (t : List ℕ) → starts currency (b ∷ t) ≡ true → at word (b ∷ t) ≡ 0
  at_byte : (n : Bool) (b : ℕ) (t : List ℕ) → starts permille (b ∷ t) ≡ false → weight m (bare_of n b) ≡ at word (b ∷ t)

module _ (m : Mark) (word : List ℕ) (w : Stands m word) where
  -- one bare byte of an affix, or the first of a longer code point
  bare_weighed : (n : Bool) (b : ℕ) (s : List ℕ) (l : ℕ) → is_bare b ≡ true
      → ((y : Bool) (k : ℕ) → highs k s ≡ true → marks m (items_from false y k s) ≡ l)
      → marks m (items_from false n 0 (b ∷ s)) ≡ at word (b ∷ s) + l
  unfolding highs
  bare_weighed n b s l e ih =
      let p = bare_parts b e in
      tested (starts permille (b ∷ s))
      (λ k. rw (p.0, k) (omega (arith, w.at_permille b s k, ih false 2 (permille_highs b s k))))
      (λ k.
      tested (starts currency (b ∷ s))
      (λ c. rw (p.0, k, c) (omega (arith, w.at_currency b s c, ih false 1 (currency_highs b s c))))
      (λ c. rw (p.0, k, c, bare_kept n b) (omega (arith, w.at_byte n b s k, ih (is_number (bare_of n b)) 0 refl))))

  weighed : {q : Bool} {s : List ℕ} (a : IsAffix q s) → (n : Bool) (k : ℕ) → highs k s ≡ true → (q ≡ true → k ≡ 0)
      → marks m (items_from q n k s) ≡ bare_count word a
  unfolding highs
  weighed done n zero h z = refl
  weighed done n (suc k) h z = not_both h refl
  weighed (apostrophe a) n zero h z = omega (arith, weighed a false 0 refl (λ _. refl))
  weighed (apostrophe a) n (suc k) h z = not_both h refl
  weighed (quote {q} {t} f a) n zero h z = rw (single t f) (omega (arith, weighed a false 0 refl (λ _. refl)))
  weighed (quote f a) n (suc k) h z = not_both h refl
  weighed (literal {b} {t} f a) n zero h z = rw f (omega (arith, weighed a false 0 refl (λ _. refl)))
  weighed (literal f a) n (suc k) h z = absurd (no (z refl))
    where
      no : suc k ≡ 0 → ⊥
      no g = omega arith
  weighed (bare {b} {t} f a) n zero h z = bare_weighed n b t (bare_count word a) f (λ y k g. weighed a y k g (λ x. not_both x refl))
  weighed (bare {b} {t} f a) n (suc k) h z =
      tested (is_inner b) (λ l. omega (arith, w.inner b t l, weighed a n k (rw l at h) (λ x. not_both x refl))) (λ l. not_both h (rw l))

  stood : {s : List ℕ} (a : IsAffix false s) → marks m (items s) ≡ bare_count word a
  unfolding highs
  stood a = weighed a false 0 refl (λ _. refl)

-- ---- `%` and `‰`

-- no bare byte is `‰`
no_permille : (n : Bool) (b : ℕ) → weight Permille (bare_of n b) ≡ 0
no_permille n b =
    choice (λ (t : Item). weight Permille t ≡ 0) (is_place b) (λ _. refl) (λ _.
    choice (λ (t : Item). weight Permille t ≡ 0) (eqb b 37) (λ _. refl) (λ _.
    choice (λ (t : Item). weight Permille t ≡ 0) (eqb b 43) (λ _. refl) (λ _.
    choice (λ (t : Item). weight Permille t ≡ 0) (eqb b 45) (λ _. refl) (λ _.
    choice (λ (t : Item). weight Permille t ≡ 0) (eqb b 59) (λ _. refl) (λ _.
    choice (λ (t : Item). weight Permille t ≡ 0) (is_reserved n b) (λ _. refl) (λ _. refl))))))

-- and none but `%` is `%`
no_percent : (n : Bool) (b : ℕ) → eqb b 37 ≡ false → weight Percent (bare_of n b) ≡ 0
no_percent n b e =
    rw e
    (choice (λ (t : Item). weight Percent t ≡ 0) (is_place b) (λ _. refl) (λ _.
    choice (λ (t : Item). weight Percent t ≡ 0) (eqb b 43) (λ _. refl) (λ _.
    choice (λ (t : Item). weight Percent t ≡ 0) (eqb b 45) (λ _. refl) (λ _.
    choice (λ (t : Item). weight Percent t ≡ 0) (eqb b 59) (λ _. refl) (λ _.
    choice (λ (t : Item). weight Percent t ≡ 0) (is_reserved n b) (λ _. refl) (λ _. refl))))))

-- a byte that is not the first of the word
not_first : (x b : ℕ) (word t : List ℕ) → (b ≡ x → ⊥) → at (x ∷ word) (b ∷ t) ≡ 0
not_first x b word t n = rw (ne_eqb b x n)

inner_least : (b : ℕ) → is_inner b ≡ true → (128 ≤ b) × (b < 192)
inner_least b e = tested (ltb b 128) (λ k. not_both e (rw k)) (λ k. (ltb-false b 128 k, ltb-true b 192 (rw k at e)))

first_is : (x b : ℕ) (word t : List ℕ) → starts (x ∷ word) (b ∷ t) ≡ true → b ≡ x
first_is x b word t e = eqb-true b x (both_true (eqb b x) (starts word t) e).0

percent_stands : Stands Percent percent_mark
percent_stands =
    record {
      inner = λ b t e. let h = inner_least b e in not_first 37 b [] t (λ y. omega (arith, h.0));
      at_permille = λ b t e. let h = first_is 0xE2 b (0x80 ∷ 0xB0 ∷ []) t e in sym (not_first 37 b [] t (λ y. omega arith));
      at_currency = λ b t e. let h = first_is 0xC2 b (0xA4 ∷ []) t e in not_first 37 b [] t (λ y. omega arith);
      at_byte = λ n b t e. tested (eqb b 37) (λ k. rw (eqb-true b 37 k)) (λ k. no_percent n b k ∙ rw k);
    }

permille_stands : Stands Permille permille
permille_stands =
    record {
      inner = λ b t e. let h = inner_least b e in not_first 0xE2 b (0x80 ∷ 0xB0 ∷ []) t (λ y. omega (arith, h.1));
      at_permille = λ b t e. rw e;
      at_currency = λ b t e. let h = first_is 0xC2 b (0xA4 ∷ []) t e in not_first 0xE2 b (0x80 ∷ 0xB0 ∷ []) t (λ y. omega arith);
      at_byte = λ n b t e. no_permille n b ∙ rw e;
    }

pub marks_bare : {s : List ℕ} (a : IsAffix false s)
    → (marks Percent (items s) ≡ bare_count percent_mark a) × (marks Permille (items s) ≡ bare_count permille a)
marks_bare a = (stood Percent percent_mark percent_stands a, stood Permille permille permille_stands a)
