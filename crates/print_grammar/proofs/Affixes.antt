-- What an affix prints by the relation is what its items print.
use mathlib.Core.Path.{◌≡◌, refl, sym, ap, ◌∙◌, subst}
use mathlib.Core.Bool.{Bool, true, false}
use mathlib.Core.List.{List, [], ◌∷◌}
use mathlib.Core.Logic.{◌↔◌}
use Prim.Native.Nat.{ℕ, zero, suc, ◌-◌}
use native.Mathlib.Omega.{arith}
use borrow.Author.Tests.{eqb-true}
use lib.Dec.{eqb}
use lib.ListN.{drop}
use Rattle.std.specs.Prelude.{if◌then◌else◌}
use Rattle.decimal.specs.Choice.{both}
use Rattle.decimal.proofs.Choices.{tested, not_both, both_true}
use Rattle.pattern_token.specs.declared.Item.{Item}
use Rattle.pattern_token.specs.declared.Item.TheVariants.{Text}
use Rattle.pattern_token.specs.declared.Token.{Token}
use Rattle.pattern_token.specs.Items.{starts, permille, currency, is_reserved, token, token_at, quoted_after, is_number, items_from, items}
use Rattle.pattern_affix.specs.Affixes.{reserves, any_reserved}
use Rattle.symbols.specs.declared.Symbol.{Symbol}
use Rattle.pattern_grammar.specs.Grammar.{is_bare, IsAffix, done as no_more, apostrophe as pair, quote as mark, literal as inside, bare}
use Rattle.pattern_grammar.proofs.Affixes.{bare_parts, single}
use Rattle.layout.specs.Text.{rendered}
use Rattle.print_grammar.specs.Text.{is_literal, AffixText, done, apostrophe, quote, quoted, percent, plus, minus, permille_mark, literal}
use Rattle.print_grammar.specs.Clean.{CleanAffix}

-- ---- tokens

-- what a literal byte is not, and is
record Literal (b : ℕ) (s : List ℕ) : Type 0 where
  pub no_percent : eqb b 37 ≡ false
  pub no_plus : eqb b 43 ≡ false
  pub no_minus : eqb b 45 ≡ false
  pub no_permille : starts permille (b ∷ s) ≡ false
  pub is_bare_law : is_bare b ≡ true

literal_parts : (b : ℕ) (s : List ℕ) → is_literal b s ≡ true → Literal b s
literal_parts b s e =
    tested (eqb b 37) (λ k. not_both e (rw k))
    (λ k.
    tested (eqb b 43) (λ l. not_both e (rw (k, l)))
    (λ l.
    tested (eqb b 45) (λ m. not_both e (rw (k, l, m)))
    (λ m.
    tested (starts permille (b ∷ s)) (λ o. not_both e (rw (k, l, m, o)))
    (λ o. record { no_percent = k; no_plus = l; no_minus = m; no_permille = o; is_bare_law = rw (k, l, m, o) at e }))))

-- a byte that prints itself and is not reserved is a token of its own
literal_token : (b : ℕ) (s : List ℕ) → is_literal b s ≡ true → reserves (token_at false false (b ∷ s)).item ≡ false
    → token_at false false (b ∷ s) ≡ token (Text b) 1
literal_token b s e u =
    let x = literal_parts b s e in
    let y = bare_parts b x.is_bare_law in
    tested (starts currency (b ∷ s)) (λ k. not_both (rw (y.0, x.no_permille, k)) u)
    (λ k.
    tested (is_reserved false b) (λ l. not_both (rw (y.0, x.no_permille, k, y.1, x.no_percent, x.no_plus, x.no_minus, y.2, l)) u)
    (λ l. rw (y.0, x.no_permille, k, y.1, x.no_percent, x.no_plus, x.no_minus, y.2, l)))

first_free : (q : Bool) (b : ℕ) (s : List ℕ) → any_reserved (items_from q false 0 (b ∷ s)) ≡ false → reserves (token_at q false (b ∷ s)).item ≡ false
first_free q b s u = tested (reserves (token_at q false (b ∷ s)).item) (λ k. not_both (rw k) u) (λ k. k)

-- the items of a literal byte and what follows it
module _ (b : ℕ) (s : List ℕ) (e : is_literal b s ≡ true) (u : any_reserved (items_from false false 0 (b ∷ s)) ≡ false) where
  literal_items : items_from false false 0 (b ∷ s) ≡ Text b ∷ items_from false false 0 s
  literal_items =
      ap (λ (x : Token). x.item ∷ items_from (quoted_after false x.item) (is_number x.item) (x.width - 1) s)
      (literal_token b s e (first_free false b s u))

  literal_free : any_reserved (items_from false false 0 s) ≡ false
  literal_free = sym (ap any_reserved literal_items) ∙ u

module _ (symbol : Symbol → List ℕ) where
  -- ---- what the relation says is what the items print

  affix_rendered : {q : Bool} {s t : List ℕ} → AffixText symbol q s t → any_reserved (items_from q false 0 s) ≡ false
      → t ≡ rendered symbol (items_from q false 0 s)
  affix_rendered done u = refl
  affix_rendered (apostrophe a) u = ap (λ (l : List ℕ). 39 ∷ l) (affix_rendered a u)
  affix_rendered (quote {q} {s} {t} f a) u = rw (single s f) (affix_rendered a (rw (single s f) at u))
  affix_rendered (quoted {b} {s} {t} f a) u = rw f (ap (λ (l : List ℕ). b ∷ l) (affix_rendered a (rw f at u)))
  affix_rendered (percent a) u = rw (affix_rendered a u)
  affix_rendered (plus a) u = rw (affix_rendered a u)
  affix_rendered (minus a) u = rw (affix_rendered a u)
  affix_rendered (permille_mark a) u = rw (affix_rendered a u)
  affix_rendered (literal {b} {s} {t} f a) u =
      ap (λ (l : List ℕ). b ∷ l) (affix_rendered a (literal_free b s f u)) ∙ sym (ap (rendered symbol) (literal_items b s f u))

  -- ---- and what the items of an affix print, the relation says

  -- so many bytes, none of them a quote: those of a longer code point behind its first
  abbrev unquoted : ℕ → List ℕ → Bool
  unquoted zero s = true
  unquoted (suc k) [] = false
  unquoted (suc k) (b ∷ s) = if eqb b 39 then false else unquoted k s

  Prints : ℕ → List ℕ → Type 0
  Prints k s = any_reserved (items_from false false k s) ≡ false → AffixText symbol false (drop k s) (rendered symbol (items_from false false k s))

  permille_prints : (b : ℕ) (s : List ℕ) → starts permille (b ∷ s) ≡ true → ((k : ℕ) → unquoted k s ≡ true → Prints k s) → Prints 0 (b ∷ s)
  unfolding Prints
  permille_prints b [] e ih u = not_both (both_true (eqb b 0xE2) false e).1 refl
  permille_prints b (c ∷ []) e ih u =
      let x = both_true (eqb b 0xE2) (both (eqb c 0x80) false) e in
      not_both (both_true (eqb c 0x80) false x.1).1 refl
  permille_prints b (c ∷ d ∷ s) e ih u =
      let x = both_true (eqb b 0xE2) (both (eqb c 0x80) (both (eqb d 0xB0) true)) e in
      let y = both_true (eqb c 0x80) (both (eqb d 0xB0) true) x.1 in
      let z = both_true (eqb d 0xB0) true y.1 in
      by (eqb-true b 0xE2 x.0) (eqb-true c 0x80 y.0) (eqb-true d 0xB0 z.0)
    where
      by : b ≡ 0xE2 → c ≡ 0x80 → d ≡ 0xB0 → AffixText symbol false (b ∷ c ∷ d ∷ s) (rendered symbol (items_from false false 0 (b ∷ c ∷ d ∷ s)))
      by i j k =
          let h : Prints 2 (c ∷ d ∷ s) = ih 2 (rw (j, k)) in
          let free : ℕ → ℕ → ℕ → Type 0 = λ x y z. any_reserved (items_from false false 0 (x ∷ y ∷ z ∷ s)) ≡ false in
          let v : free 0xE2 0x80 0xB0 = subst (free 0xE2 0x80) k (subst (λ (y : ℕ). free 0xE2 y d) j (subst (λ (x : ℕ). free x c d) i u)) in
          let shown : ℕ → ℕ → ℕ → Type 0 = λ x y z. AffixText symbol false (x ∷ y ∷ z ∷ s) (rendered symbol (items_from false false 0 (x ∷ y ∷ z ∷ s))) in
          let w : shown 0xE2 0x80 0xB0 = permille_mark (h v) in
          subst (λ (x : ℕ). shown x c d) (sym i) (subst (λ (y : ℕ). shown 0xE2 y d) (sym j) (subst (shown 0xE2 0x80) (sym k) w))

  bare_prints : (b : ℕ) (s : List ℕ) → is_bare b ≡ true → ((k : ℕ) → unquoted k s ≡ true → Prints k s) → Prints 0 (b ∷ s)
  unfolding Prints
  bare_prints b s f ih u =
      tested (eqb b 37) (λ k. let i = eqb-true b 37 k in rw i (percent (ih 0 refl (rw i at u))))
      (λ k₁.
      tested (eqb b 43) (λ k. let i = eqb-true b 43 k in rw i (plus (ih 0 refl (rw i at u))))
      (λ k₂.
      tested (eqb b 45) (λ k. let i = eqb-true b 45 k in rw i (minus (ih 0 refl (rw i at u))))
      (λ k₃.
      tested (starts permille (b ∷ s)) (λ k. permille_prints b s k ih u)
      (λ k₄.
      let l : is_literal b s ≡ true = rw (k₁, k₂, k₃, k₄) f in
      subst (λ (ts : List Item). AffixText symbol false (b ∷ s) (rendered symbol ts)) (sym (literal_items b s l u))
      (literal l (ih 0 refl (literal_free b s l u)))))))

  affix_prints : {q : Bool} {s : List ℕ} → IsAffix q s → (k : ℕ) → (q ≡ true → k ≡ 0) → unquoted k s ≡ true
      → any_reserved (items_from q false k s) ≡ false → AffixText symbol q (drop k s) (rendered symbol (items_from q false k s))
  unfolding Prints
  affix_prints no_more zero z h u = done
  affix_prints no_more (suc k) z h u = not_both h refl
  affix_prints (pair a) zero z h u = apostrophe (affix_prints a 0 (λ _. refl) refl u)
  affix_prints (pair a) (suc k) z h u = not_both h refl
  affix_prints (mark {q} {t} f a) zero z h u = rw (single t f) (quote f (affix_prints a 0 (λ _. refl) refl (rw (single t f) at u)))
  affix_prints (mark f a) (suc k) z h u = not_both h refl
  affix_prints (inside {b} {t} f a) zero z h u = rw f (quoted f (affix_prints a 0 (λ _. refl) refl (rw f at u)))
  affix_prints (inside f a) (suc k) z h u = absurd (no (z refl))
    where
      no : suc k ≡ 0 → ⊥
      no g = omega arith
  affix_prints (bare {b} {t} f a) zero z h u = bare_prints b t f (λ k g v. affix_prints a k (λ x. not_both x refl) g v) u
  affix_prints (bare {b} {t} f a) (suc k) z h u =
      tested (eqb b 39) (λ l. not_both h (rw l)) (λ l. affix_prints a k (λ x. not_both x refl) (rw l at h) u)

  pub affix_text_law : {s : List ℕ} → CleanAffix s → (t : List ℕ) → AffixText symbol false s t ↔ (t ≡ rendered symbol (items s))
  affix_text_law {s} c t = (
    λ a. affix_rendered a c.unreserved,
    λ e. subst (AffixText symbol false s) (sym e) (affix_prints c.is_affix 0 (λ _. refl) refl c.unreserved),
  )
