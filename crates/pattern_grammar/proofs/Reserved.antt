-- A text has a reserved item exactly where a reserved byte stands bare in it; and what the reader's tests of rows 31 and 32 say of a plain pattern.
use mathlib.Core.Path.{◌≡◌, refl, sym, subst, ap, ◌∙◌}
use mathlib.Core.Bool.{Bool, true, false, not}
use mathlib.Core.List.{List, [], ◌∷◌}
use mathlib.Core.Logic.{◌↔◌, ◌⊎◌, inl, inr, ⊎_elim}
use Prim.Native.Nat.{ℕ, zero, suc, ◌-◌}
use native.Mathlib.Omega.{arith}
use borrow.Author.Tests.{eqb-true}
use lib.Dec.{eqb}
use lib.ListN.{drop}
use Rattle.decimal.specs.Choice.{both}
use Rattle.decimal.specs.Digits.{begins}
use Rattle.decimal.proofs.Choices.{choice, tested, not_both, both_true}
use Rattle.utf8.specs.Utf8.{is_utf8}
use Rattle.utf8.specs.Scalar.{IsText}
use Rattle.utf8.proofs.Scalars.{utf8_complete}
use Rattle.pattern_token.specs.declared.Item.{Item}
use Rattle.pattern_token.specs.declared.Item.TheVariants.{Place}
use Rattle.pattern_token.specs.declared.Token.{Token}
use Rattle.pattern_token.specs.Items.{starts, apostrophe as twice, permille, currency, is_place, is_reserved, bare_of, token, is_number, quoted_after, items_from, items}
use Rattle.pattern_affix.specs.Affixes.{reserves, any_reserved}
use Rattle.pattern_grammar.specs.Reserved.{Bare, here, apostrophe, quote, byte, Reserved, sign, behind_place}
use Rattle.pattern_grammar.specs.Verdict.{Plain}
use Rattle.pattern_grammar.proofs.Affixes.{bare_kept, begins_at, alone, single, stop_byte, plain_token, is_inner, highs, stops_low, permille_highs}

-- `¤`, `*` or `@`
abbrev Sign : List ℕ → Type 0
Sign r = (starts currency r ≡ true) ⊎ ((begins 42 r ≡ true) ⊎ (begins 64 r ≡ true))

begins_is : (x b : ℕ) (s : List ℕ) → begins x (b ∷ s) ≡ true → b ≡ x
begins_is x b s e = eqb-true b x (sym (begins_at x b s) ∙ e)

-- ---- a reserved item is such a byte

-- reserved in a text that begins inside quotes or outside, directly behind a bare number-part byte or not
data From (q n : Bool) (s : List ℕ) : Type 0 where
  a_sign : (r : List ℕ) → Bare q s r → Sign r → From q n s
  an_e : (b : ℕ) (t : List ℕ) → Bare q s (b ∷ 69 ∷ t) → is_place b ≡ true → From q n s
  at_once : n ≡ true → q ≡ false → begins 69 s ≡ true → From q n s

later : {q n p : Bool} {s t : List ℕ} → ((r : List ℕ) → Bare p t r → Bare q s r) → From p false t → From q n s
later f (a_sign r x y) = a_sign r (f r x) y
later f (an_e b u x y) = an_e b u (f (b ∷ 69 ∷ u) x) y
later f (at_once e k l) = not_both e refl

behind : (n : Bool) (b : ℕ) (t : List ℕ) → is_place b ≡ true → eqb b 39 ≡ false → From false true t → From false n (b ∷ t)
behind n b t p e (a_sign r x y) = a_sign r (byte e x) y
behind n b t p e (an_e c u x y) = an_e c u (byte e x) y
behind n b [] p e (at_once k l m) = not_both m refl
behind n b (c ∷ t) p e (at_once k l m) = rw (begins_is 69 c t m) (an_e b t here p)

not_number : (n : Bool) (b : ℕ) → is_place b ≡ false → is_number (bare_of n b) ≡ false
not_number n b p =
    rw p
    (choice (λ (t : Item). is_number t ≡ false) (eqb b 37) (λ _. refl) (λ _.
    choice (λ (t : Item). is_number t ≡ false) (eqb b 43) (λ _. refl) (λ _.
    choice (λ (t : Item). is_number t ≡ false) (eqb b 45) (λ _. refl) (λ _.
    choice (λ (t : Item). is_number t ≡ false) (eqb b 59) (λ _. refl) (λ _.
    choice (λ (t : Item). is_number t ≡ false) (is_reserved n b) (λ _. refl) (λ _. refl))))))

-- behind a bare byte
bare_from : (n : Bool) (b : ℕ) (t : List ℕ) → eqb b 39 ≡ false → From false (is_number (bare_of n b)) t → From false n (b ∷ t)
bare_from n b t e f =
    tested (is_place b) (λ p. behind n b t p e (rw p at f)) (λ p. later (λ r x. byte e x) (rw (not_number n b p) at f))

reserves_bare : (n : Bool) (b : ℕ) → reserves (bare_of n b) ≡ true → is_reserved n b ≡ true
reserves_bare n b =
    choice (λ (t : Item). reserves t ≡ true → is_reserved n b ≡ true) (is_place b) (λ _ e. not_both e refl) (λ _.
    choice (λ (t : Item). reserves t ≡ true → is_reserved n b ≡ true) (eqb b 37) (λ _ e. not_both e refl) (λ _.
    choice (λ (t : Item). reserves t ≡ true → is_reserved n b ≡ true) (eqb b 43) (λ _ e. not_both e refl) (λ _.
    choice (λ (t : Item). reserves t ≡ true → is_reserved n b ≡ true) (eqb b 45) (λ _ e. not_both e refl) (λ _.
    choice (λ (t : Item). reserves t ≡ true → is_reserved n b ≡ true) (eqb b 59) (λ _ e. not_both e refl) (λ _.
    choice (λ (t : Item). reserves t ≡ true → is_reserved n b ≡ true) (is_reserved n b) (λ k _. k) (λ _ e. not_both e refl))))))

reserved_byte : (n : Bool) (b : ℕ) (t : List ℕ) → is_reserved n b ≡ true → From false n (b ∷ t)
reserved_byte n b t e =
    tested (eqb b 42) (λ k. rw (eqb-true b 42 k) (a_sign (42 ∷ t) here (inr (inl (begins_at 42 42 t)))))
    (λ k₁.
    tested (eqb b 64) (λ k. rw (eqb-true b 64 k) (a_sign (64 ∷ t) here (inr (inr (begins_at 64 64 t)))))
    (λ k₂.
    tested (eqb b 69) (λ k. let i = eqb-true b 69 k in rw i (at_once (rw i at e) refl (begins_at 69 69 t))) (λ k₃. not_both e (rw (k₁, k₂, k₃)))))

pair_from : (q n : Bool) (b : ℕ) (s : List ℕ) → starts twice (b ∷ s) ≡ true → From q false (drop 1 s) → From q n (b ∷ s)
pair_from q n b [] e f = not_both (both_true (eqb b 39) false e).1 refl
pair_from q n b (c ∷ s) e f =
    let x = both_true (eqb b 39) (both (eqb c 39) true) e in
    let y = both_true (eqb c 39) true x.1 in
    rw (eqb-true b 39 x.0, eqb-true c 39 y.0) (later (λ r z. apostrophe z) f)

permille_from : (n : Bool) (b : ℕ) (s : List ℕ) → starts permille (b ∷ s) ≡ true → From false false (drop 2 s) → From false n (b ∷ s)
permille_from n b [] e f = not_both (both_true (eqb b 0xE2) false e).1 refl
permille_from n b (c ∷ []) e f =
    let x = both_true (eqb b 0xE2) (both (eqb c 0x80) false) e in
    not_both (both_true (eqb c 0x80) false x.1).1 refl
permille_from n b (c ∷ d ∷ s) e f =
    let x = both_true (eqb b 0xE2) (both (eqb c 0x80) (both (eqb d 0xB0) true)) e in
    let y = both_true (eqb c 0x80) (both (eqb d 0xB0) true) x.1 in
    let z = both_true (eqb d 0xB0) true y.1 in
    rw (eqb-true b 0xE2 x.0, eqb-true c 0x80 y.0, eqb-true d 0xB0 z.0) (later (λ r u. byte refl (byte refl (byte refl u))) f)

-- one token
one_found : (q n : Bool) (b : ℕ) (s : List ℕ)
    → ((p y : Bool) (k : ℕ) → any_reserved (items_from p y k s) ≡ true → From p y (drop k s))
    → any_reserved (items_from q n 0 (b ∷ s)) ≡ true → From q n (b ∷ s)
one_found q n b s ih h =
    tested (starts twice (b ∷ s)) (λ e. pair_from q n b s e (ih q false 1 (rw e at h)))
    (λ e₁.
    tested (eqb b 39)
    (λ e. rw (eqb-true b 39 e) (later (λ r x. quote (alone b s e e₁) x) (ih (not q) false 0 (rw (e₁, e) at h))))
    (λ e₂. by q e₁ e₂ h))
  where
    by : (q : Bool) → starts twice (b ∷ s) ≡ false → eqb b 39 ≡ false → any_reserved (items_from q n 0 (b ∷ s)) ≡ true → From q n (b ∷ s)
    by true e₁ e₂ h = later (λ r x. byte e₂ x) (ih true false 0 (rw e₂ at h))
    by false e₁ e₂ h =
        tested (starts permille (b ∷ s)) (λ e. permille_from n b s e (ih false false 2 (rw (e₂, e) at h)))
        (λ e₃.
        tested (starts currency (b ∷ s)) (λ e. a_sign (b ∷ s) here (inl e))
        (λ e₄.
        tested (reserves (bare_of n b)) (λ k. reserved_byte n b s (reserves_bare n b k))
        (λ k. bare_from n b s e₂ (ih false (is_number (bare_of n b)) 0 (rw (e₂, e₃, e₄, k, bare_kept n b) at h)))))

found : (q n : Bool) (k : ℕ) (s : List ℕ) → any_reserved (items_from q n k s) ≡ true → From q n (drop k s)
found q n zero [] h = not_both h refl
found q n (suc k) [] h = not_both h refl
found q n (suc k) (b ∷ s) h = found q n k s h
found q n zero (b ∷ s) h = one_found q n b s (λ p y k g. found p y k s g) h

-- ---- such a byte is a reserved item

-- one bare byte, or the first of a longer code point
byte_step : (n : Bool) (b : ℕ) (s : List ℕ) → eqb b 39 ≡ false
    → ((y : Bool) (k : ℕ) → highs k s ≡ true → any_reserved (items_from false y k s) ≡ true)
    → any_reserved (items_from false n 0 (b ∷ s)) ≡ true
unfolding highs
byte_step n b s e ih =
    tested (starts permille (b ∷ s)) (λ m. rw (e, m) (ih false 2 (permille_highs b s m)))
    (λ m.
    tested (starts currency (b ∷ s)) (λ c. rw (e, m, c))
    (λ c.
    tested (reserves (bare_of n b)) (λ k. rw (e, m, c, k))
    (λ k. rw (e, m, c, k, bare_kept n b) (ih (is_number (bare_of n b)) 0 refl))))

-- what is reserved at a bare place, whatever stands before it, is reserved in the text
reached : {q : Bool} {s r : List ℕ} → Bare q s r → ((k : ℕ) → highs (suc k) r ≡ false) → ((n : Bool) → any_reserved (items_from false n 0 r) ≡ true)
    → (n : Bool) (k : ℕ) → highs k s ≡ true → (q ≡ true → k ≡ 0) → any_reserved (items_from q n k s) ≡ true
unfolding highs
reached here x m n zero h z = m n
reached here x m n (suc k) h z = not_both h (x k)
reached (apostrophe a) x m n zero h z = reached a x m false 0 refl (λ _. refl)
reached (apostrophe a) x m n (suc k) h z = not_both h refl
reached (quote {q} {t} {r} f a) x m n zero h z = rw (single t f) (reached a x m false 0 refl (λ _. refl))
reached (quote f a) x m n (suc k) h z = not_both h refl
reached (byte {q = true} {b = b} {t = t} f a) x m n zero h z = rw f (reached a x m false 0 refl (λ _. refl))
reached (byte {q = true} f a) x m n (suc k) h z = absurd (no (z refl))
  where
    no : suc k ≡ 0 → ⊥
    no g = omega arith
reached (byte {q = false} {b = b} {t = t} f a) x m n zero h z = byte_step n b t f (λ y k g. reached a x m y k g (λ w. not_both w refl))
reached (byte {q = false} {b = b} {t = t} f a) x m n (suc k) h z =
    tested (is_inner b) (λ l. reached a x m n k (rw l at h) (λ w. not_both w refl)) (λ l. not_both h (rw l))

-- ---- row 32

-- the text at a bare place of a reserved byte
record Met (r : List ℕ) : Type 0 where
  outer : (k : ℕ) → highs (suc k) r ≡ false
  items_there : (n : Bool) → any_reserved (items_from false n 0 r) ≡ true

currency_met : (r : List ℕ) → starts currency r ≡ true → Met r
unfolding highs
currency_met [] e = not_both e refl
currency_met (b ∷ []) e = not_both (both_true (eqb b 0xC2) false e).1 refl
currency_met (b ∷ c ∷ r) e =
    let x = both_true (eqb b 0xC2) (both (eqb c 0xA4) true) e in
    let y = both_true (eqb c 0xA4) true x.1 in
    rw (eqb-true b 0xC2 x.0, eqb-true c 0xA4 y.0) (record { outer = λ k. refl; items_there = λ n. refl })

star_met : (r : List ℕ) → begins 42 r ≡ true → Met r
unfolding highs
star_met [] e = not_both e refl
star_met (b ∷ r) e = rw (begins_is 42 b r e) (record { outer = λ k. refl; items_there = λ n. refl })

at_met : (r : List ℕ) → begins 64 r ≡ true → Met r
unfolding highs
at_met [] e = not_both e refl
at_met (b ∷ r) e = rw (begins_is 64 b r e) (record { outer = λ k. refl; items_there = λ n. refl })

e_met : (b : ℕ) (t : List ℕ) → is_place b ≡ true → Met (b ∷ 69 ∷ t)
e_met b t p =
    let x = stop_byte b (rw p) in
    record {
      outer = λ k. stops_low k (b ∷ 69 ∷ t) (rw p);
      items_there = λ n.
          let e : bare_of n b ≡ Place b = rw p in
          subst (λ (u : Token). any_reserved (u.item ∷ items_from (quoted_after false u.item) (is_number u.item) (u.width - 1) (69 ∷ t)) ≡ true)
          (sym (plain_token n b (69 ∷ t) x.0 x.1 ∙ ap (λ (i : Item). token i 1) e)) refl;
    }

met : {s r : List ℕ} → Bare false s r → Met r → any_reserved (items s) ≡ true
unfolding highs
met a m = reached a m.outer m.items_there false 0 refl (λ _. refl)

reserved_items : {s : List ℕ} → Reserved s → any_reserved (items s) ≡ true
reserved_items (sign r x y) = met x (⊎_elim (currency_met r) (⊎_elim (star_met r) (at_met r)) y)
reserved_items (behind_place b t x p) = met x (e_met b t p)

items_reserved : {s : List ℕ} → From false false s → Reserved s
items_reserved (a_sign r x y) = sign r x y
items_reserved (an_e b t x y) = behind_place b t x y
items_reserved (at_once e k l) = not_both e refl

pub reserved_told : (s : List ℕ) → (any_reserved (items s) ≡ true) ↔ Reserved s
reserved_told s = (λ h. items_reserved (found false false 0 s h), λ r. reserved_items r)

-- ---- a plain pattern

pub text_utf8 : (s : List ℕ) → IsText s → is_utf8 s ≡ true
text_utf8 s t = ap is_utf8 t.text ∙ utf8_complete t.chars t.scalars

pub plain_items : (s : List ℕ) → Plain s → any_reserved (items s) ≡ false
plain_items s p = tested (any_reserved (items s)) (λ k. absurd (p.unreserved ((reserved_told s).0 k))) (λ k. k)
