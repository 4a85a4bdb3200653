-- A text begins with a code point exactly where its first bytes spell one; it is UTF-8 exactly where it is spelled code points.
use mathlib.Core.Path.{◌≡◌, refl, sym, ap, subst, ◌∙◌}
use mathlib.Core.Bool.{true, false}
use mathlib.Core.List.{List, [], ◌∷◌, ◌++◌}
use Prim.Native.Nat.{ℕ, zero, suc, ◌+◌, ◌*◌, ◌-◌, ◌/◌, ◌%◌, ◌≤◌, ◌<◌}
use native.Mathlib.Omega.{arith}
use borrow.Author.Tests.{ne_eqb, eqb-true, eqb-false, lt-ltb, le-ltb, ltb-true, ltb-false}
use lib.Dec.{eqb, ltb}
use lib.ListN.{length, take, drop, length-append}
use lib.Seq.{drop_at}
use Rattle.decimal.specs.Choice.{both}
use Rattle.decimal.proofs.Choices.{tested, not_both, both_true}
use Rattle.utf8.specs.Utf8.{char_bytes, low_second, high_second, continues, rest_fits, char_len, is_utf8}
use Rattle.utf8.specs.Scalar.{is_scalar, spell, spell_all, all_scalar, Begins, IsText}
use Rattle.utf8.proofs.Laws.{utf8_one, utf8_none}

-- ---- the rows of the table: first and second byte, and those behind them

tail_byte : (d : ℕ) (s : List ℕ) → 0x80 ≤ d → d ≤ 0xBF → continues (d ∷ s) ≡ continues s
tail_byte d s h k = rw (le-ltb d 0x80 h, le-ltb 0xBF d k)

one_byte : (b : ℕ) (r : List ℕ) → b < 0x80 → char_len (b ∷ r) ≡ 1
one_byte b r h = rw (lt-ltb b 0x80 h, le-ltb (suc (length r)) 1 (omega arith))

two_first : (b : ℕ) → 0xC2 ≤ b → b < 0xE0 → char_bytes b ≡ 2
two_first b h k = rw (le-ltb b 0x80 (omega arith), le-ltb b 0xC2 h, lt-ltb b 0xE0 k)

three_first : (b : ℕ) → 0xE0 ≤ b → b < 0xF0 → char_bytes b ≡ 3
three_first b h k = rw (le-ltb b 0x80 (omega arith), le-ltb b 0xC2 (omega arith), le-ltb b 0xE0 h, lt-ltb b 0xF0 k)

four_first : (b : ℕ) → 0xF0 ≤ b → b < 0xF5 → char_bytes b ≡ 4
four_first b h k =
    rw (le-ltb b 0x80 (omega arith), le-ltb b 0xC2 (omega arith), le-ltb b 0xE0 (omega arith), le-ltb b 0xF0 h, lt-ltb b 0xF5 k)

two_bytes : (b c : ℕ) (r : List ℕ) → char_bytes b ≡ 2 → low_second b ≤ c → c ≤ high_second b → char_len (b ∷ c ∷ r) ≡ 2
two_bytes b c r n l h = rw (n, le-ltb (suc (suc (length r))) 2 (omega arith), le-ltb c (low_second b) l, le-ltb (high_second b) c h)

three_bytes : (b c d : ℕ) (r : List ℕ) → char_bytes b ≡ 3 → low_second b ≤ c → c ≤ high_second b → 0x80 ≤ d → d ≤ 0xBF
    → char_len (b ∷ c ∷ d ∷ r) ≡ 3
three_bytes b c d r n l h p q =
    rw (n, le-ltb (suc (suc (suc (length r)))) 3 (omega arith), le-ltb c (low_second b) l, le-ltb (high_second b) c h, le-ltb d 0x80 p, le-ltb 0xBF d q)

four_bytes : (b c d e : ℕ) (r : List ℕ) → char_bytes b ≡ 4 → low_second b ≤ c → c ≤ high_second b → 0x80 ≤ d → d ≤ 0xBF → 0x80 ≤ e → e ≤ 0xBF
    → char_len (b ∷ c ∷ d ∷ e ∷ r) ≡ 4
four_bytes b c d e r n l h p q v w =
    rw (
      n,
      le-ltb (suc (suc (suc (suc (length r))))) 4 (omega arith),
      le-ltb c (low_second b) l,
      le-ltb (high_second b) c h,
      le-ltb d 0x80 p,
      le-ltb 0xBF d q,
      le-ltb e 0x80 v,
      le-ltb 0xBF e w,
    )

-- ---- the second byte's bounds, by the first

low_plain : (b : ℕ) → (b ≡ 0xE0 → ⊥) → (b ≡ 0xF0 → ⊥) → low_second b ≡ 0x80
low_plain b h k = rw (ne_eqb b 0xE0 h, ne_eqb b 0xF0 k)

high_plain : (b : ℕ) → (b ≡ 0xED → ⊥) → (b ≡ 0xF4 → ⊥) → high_second b ≡ 0xBF
high_plain b h k = rw (ne_eqb b 0xED h, ne_eqb b 0xF4 k)

-- what the bounds are for each first byte, for sums to use
record Second (b : ℕ) : Type 0 where
  least : 0x80 ≤ low_second b
  most : high_second b ≤ 0xBF
  long_three : b ≡ 0xE0 → low_second b ≡ 0xA0
  long_four : b ≡ 0xF0 → low_second b ≡ 0x90
  surrogates : b ≡ 0xED → high_second b ≡ 0x9F
  end : b ≡ 0xF4 → high_second b ≡ 0x8F

second : (b : ℕ) → Second b
second b =
    record {
      least = tested (eqb b 0xE0) (λ k. rw k (omega arith)) (λ k. tested (eqb b 0xF0) (λ l. rw (k, l) (omega arith)) (λ l. rw (k, l) (omega arith)));
      most = tested (eqb b 0xED) (λ k. rw k (omega arith)) (λ k. tested (eqb b 0xF4) (λ l. rw (k, l) (omega arith)) (λ l. rw (k, l) (omega arith)));
      long_three = λ e. rw e;
      long_four = λ e. rw e;
      surrogates = λ e. rw e;
      end = λ e. rw e;
    }

-- ---- a spelled code point is found

scalar_bounds : (x : ℕ) → is_scalar x ≡ true → 0xD800 ≤ x → (0xDFFF < x) × (x < 0x110000)
scalar_bounds x e h =
    let f : both (ltb 0xDFFF x) (ltb x 0x110000) ≡ true = rw (le-ltb x 0xD800 h) at e in
    tested (ltb 0xDFFF x) (λ k. (ltb-true 0xDFFF x k, ltb-true x 0x110000 (rw k at f))) (λ k. not_both f (rw k))

module _ (x : ℕ) (r : List ℕ) where
  spelled_two : 0x80 ≤ x → x < 0x800 → char_len ((0xC0 + x / 64) ∷ (0x80 + x % 64) ∷ r) ≡ 2
  spelled_two h k =
      let b = 0xC0 + x / 64 in
      let s = second b in
      let l : low_second b ≡ 0x80 = low_plain b (λ e. omega arith) (λ e. omega arith) in
      let u : high_second b ≡ 0xBF = high_plain b (λ e. omega arith) (λ e. omega arith) in
      two_bytes b (0x80 + x % 64) r (two_first b (omega arith) (omega arith)) (omega arith) (omega arith)

  spelled_three : 0x800 ≤ x → x < 0x10000 → is_scalar x ≡ true → char_len ((0xE0 + x / 4096) ∷ (0x80 + x / 64 % 64) ∷ (0x80 + x % 64) ∷ r) ≡ 3
  spelled_three h k e =
      let b = 0xE0 + x / 4096 in
      three_bytes b (0x80 + x / 64 % 64) (0x80 + x % 64) r (three_first b (omega arith) (omega arith)) low high (omega arith) (omega arith)
    where
      low : low_second (0xE0 + x / 4096) ≤ 0x80 + x / 64 % 64
      low =
          let b = 0xE0 + x / 4096 in
          tested (eqb b 0xE0)
          (λ y. omega (arith, (second b).long_three (eqb-true b 0xE0 y), eqb-true b 0xE0 y))
          (λ y. omega (arith, low_plain b (eqb-false b 0xE0 y) (λ z. omega arith)))

      high : 0x80 + x / 64 % 64 ≤ high_second (0xE0 + x / 4096)
      high =
          let b = 0xE0 + x / 4096 in
          tested (eqb b 0xED)
          (λ y.
          tested (ltb x 0xD800)
          (λ z. omega (arith, (second b).surrogates (eqb-true b 0xED y), eqb-true b 0xED y, ltb-true x 0xD800 z))
          (λ z. omega (arith, eqb-true b 0xED y, (scalar_bounds x e (ltb-false x 0xD800 z)).0)))
          (λ y. omega (arith, high_plain b (eqb-false b 0xED y) (λ z. omega arith)))

  spelled_four : 0x10000 ≤ x → is_scalar x ≡ true
      → char_len ((0xF0 + x / 262144) ∷ (0x80 + x / 4096 % 64) ∷ (0x80 + x / 64 % 64) ∷ (0x80 + x % 64) ∷ r) ≡ 4
  spelled_four h e =
      let b = 0xF0 + x / 262144 in
      four_bytes b (0x80 + x / 4096 % 64) (0x80 + x / 64 % 64) (0x80 + x % 64) r (four_first b (omega arith) (omega (arith, below))) low high (omega arith) (omega arith)
      (omega arith) (omega arith)
    where
      below : x < 0x110000
      below = (scalar_bounds x e (omega arith)).1

      low : low_second (0xF0 + x / 262144) ≤ 0x80 + x / 4096 % 64
      low =
          let b = 0xF0 + x / 262144 in
          tested (eqb b 0xF0)
          (λ y. omega (arith, (second b).long_four (eqb-true b 0xF0 y), eqb-true b 0xF0 y))
          (λ y. omega (arith, low_plain b (λ z. omega arith) (eqb-false b 0xF0 y)))

      high : 0x80 + x / 4096 % 64 ≤ high_second (0xF0 + x / 262144)
      high =
          let b = 0xF0 + x / 262144 in
          tested (eqb b 0xF4)
          (λ y. omega (arith, (second b).end (eqb-true b 0xF4 y), eqb-true b 0xF4 y, below))
          (λ y. omega (arith, high_plain b (λ z. omega arith) (eqb-false b 0xF4 y)))

pub char_complete : (x : ℕ) (r : List ℕ) → is_scalar x ≡ true → char_len (spell x ++ r) ≡ length (spell x)
char_complete x r e =
    tested (ltb x 0x80) (λ k. rw k (one_byte x r (ltb-true x 0x80 k))) (λ k₁.
    tested (ltb x 0x800) (λ k. rw (k₁, k) (spelled_two x r (ltb-false x 0x80 k₁) (ltb-true x 0x800 k))) (λ k₂.
    tested (ltb x 0x10000) (λ k. rw (k₁, k₂, k) (spelled_three x r (ltb-false x 0x800 k₂) (ltb-true x 0x10000 k) e)) (λ k₃.
    rw (k₁, k₂, k₃) (spelled_four x r (ltb-false x 0x10000 k₃) e))))

-- ---- what is found is a spelled code point

spell_two : (x b c : ℕ) → 0xC2 ≤ b → b < 0xE0 → 0x80 ≤ c → c ≤ 0xBF → x ≡ (b - 0xC0) * 64 + (c - 0x80)
    → (is_scalar x ≡ true) × (spell x ≡ b ∷ c ∷ [])
spell_two x b c h k l m e =
    let p : 0xC0 + x / 64 ≡ b = omega arith in
    let q : 0x80 + x % 64 ≡ c = omega arith in
    (rw (lt-ltb x 0xD800 (omega arith)), rw (le-ltb x 0x80 (omega arith), lt-ltb x 0x800 (omega arith), p, q))

spell_three : (x b c d : ℕ) → 0xE0 ≤ b → b < 0xF0 → low_second b ≤ c → c ≤ high_second b → 0x80 ≤ d → d ≤ 0xBF
    → x ≡ (b - 0xE0) * 4096 + (c - 0x80) * 64 + (d - 0x80) → (is_scalar x ≡ true) × (spell x ≡ b ∷ c ∷ d ∷ [])
spell_three x b c d h k l m p q e =
    let s = second b in
    let c-least : 0x80 ≤ c = omega (arith, s.least) in
    let c-most : c ≤ 0xBF = omega (arith, s.most) in
    let long : 0x800 ≤ x =
    tested (eqb b 0xE0) (λ y. omega (arith, s.long_three (eqb-true b 0xE0 y), eqb-true b 0xE0 y)) (λ y. above y) in
    let u : 0xE0 + x / 4096 ≡ b = omega arith in
    let v : 0x80 + x / 64 % 64 ≡ c = omega arith in
    let w : 0x80 + x % 64 ≡ d = omega arith in
    (scalar c-least c-most, rw (le-ltb x 0x80 (omega arith), le-ltb x 0x800 long, lt-ltb x 0x10000 (omega arith), u, v, w))
  where
    above : eqb b 0xE0 ≡ false → 0x800 ≤ x
    above y = more b (eqb-false b 0xE0 y) h e
      where
        more : (b : ℕ) → (b ≡ 0xE0 → ⊥) → 0xE0 ≤ b → x ≡ (b - 0xE0) * 4096 + (c - 0x80) * 64 + (d - 0x80) → 0x800 ≤ x
        more b n h e = tested (ltb 0xE0 b) (λ z. omega (arith, ltb-true 0xE0 b z)) (λ z. absurd (n (omega (arith, ltb-false 0xE0 b z))))

    scalar : 0x80 ≤ c → c ≤ 0xBF → is_scalar x ≡ true
    scalar i j =
        tested (ltb b 0xED) (λ y. rw (lt-ltb x 0xD800 (omega (arith, ltb-true b 0xED y))))
        (λ y.
        tested (eqb b 0xED) (λ z. rw (lt-ltb x 0xD800 (omega (arith, (second b).surrogates (eqb-true b 0xED z), eqb-true b 0xED z))))
        (λ z. high (beyond b (ltb-false b 0xED y) (eqb-false b 0xED z))))
      where
        beyond : (b : ℕ) → 0xED ≤ b → (b ≡ 0xED → ⊥) → 0xEE ≤ b
        beyond b h n = tested (ltb 0xED b) (λ z. omega (arith, ltb-true 0xED b z)) (λ z. absurd (n (omega (arith, ltb-false 0xED b z))))

        high : 0xEE ≤ b → is_scalar x ≡ true
        high g = rw (le-ltb x 0xD800 (omega arith), lt-ltb 0xDFFF x (omega arith), lt-ltb x 0x110000 (omega arith))

spell_four : (x b c d f : ℕ) → 0xF0 ≤ b → b < 0xF5 → low_second b ≤ c → c ≤ high_second b → 0x80 ≤ d → d ≤ 0xBF → 0x80 ≤ f → f ≤ 0xBF
    → x ≡ (b - 0xF0) * 262144 + (c - 0x80) * 4096 + (d - 0x80) * 64 + (f - 0x80) → (is_scalar x ≡ true) × (spell x ≡ b ∷ c ∷ d ∷ f ∷ [])
spell_four x b c d f h k l m p q i j e =
    let s = second b in
    let c-least : 0x80 ≤ c = omega (arith, s.least) in
    let c-most : c ≤ 0xBF = omega (arith, s.most) in
    let long : 0x10000 ≤ x =
    tested (eqb b 0xF0) (λ y. omega (arith, s.long_four (eqb-true b 0xF0 y), eqb-true b 0xF0 y))
    (λ y. more b (eqb-false b 0xF0 y) h e) in
    let below : x < 0x110000 =
    tested (eqb b 0xF4) (λ y. omega (arith, s.end (eqb-true b 0xF4 y), eqb-true b 0xF4 y)) (λ y. less b (eqb-false b 0xF4 y) k c-most e) in
    let t : 0xF0 + x / 262144 ≡ b = omega arith in
    let u : 0x80 + x / 4096 % 64 ≡ c = omega arith in
    let v : 0x80 + x / 64 % 64 ≡ d = omega arith in
    let w : 0x80 + x % 64 ≡ f = omega arith in (
      rw (le-ltb x 0xD800 (omega arith), lt-ltb 0xDFFF x (omega arith), lt-ltb x 0x110000 below),
      rw (le-ltb x 0x80 (omega arith), le-ltb x 0x800 (omega arith), le-ltb x 0x10000 long, t, u, v, w),
    )
  where
    more : (b : ℕ) → (b ≡ 0xF0 → ⊥) → 0xF0 ≤ b → x ≡ (b - 0xF0) * 262144 + (c - 0x80) * 4096 + (d - 0x80) * 64 + (f - 0x80) → 0x10000 ≤ x
    more b n h e = tested (ltb 0xF0 b) (λ z. omega (arith, ltb-true 0xF0 b z)) (λ z. absurd (n (omega (arith, ltb-false 0xF0 b z))))

    less : (b : ℕ) → (b ≡ 0xF4 → ⊥) → b < 0xF5 → c ≤ 0xBF → x ≡ (b - 0xF0) * 262144 + (c - 0x80) * 4096 + (d - 0x80) * 64 + (f - 0x80) → x < 0x110000
    less b n h g e = tested (ltb b 0xF4) (λ z. omega (arith, ltb-true b 0xF4 z)) (λ z. absurd (n (omega (arith, ltb-false b 0xF4 z))))

-- the bounds that the bytes behind a first byte keep
record Behind (b c : ℕ) (s : List ℕ) : Type 0 where
  least : low_second b ≤ c
  most : c ≤ high_second b
  others : continues s ≡ true

rest_bounds : (b c : ℕ) (s : List ℕ) → rest_fits b (c ∷ s) ≡ true → Behind b c s
rest_bounds b c s e =
    tested (ltb c (low_second b)) (λ k. not_both e (rw k))
    (λ k.
    tested (ltb (high_second b) c) (λ l. not_both e (rw (k, l)))
    (λ l. record { least = ltb-false c (low_second b) k; most = ltb-false (high_second b) c l; others = rw (k, l) at e }))

tail_bounds : (d : ℕ) (s : List ℕ) → continues (d ∷ s) ≡ true → (0x80 ≤ d) × (d ≤ 0xBF) × (continues s ≡ true)
tail_bounds d s e =
    tested (ltb d 0x80) (λ k. not_both e (rw k))
    (λ k.
    tested (ltb 0xBF d) (λ l. not_both e (rw (k, l))) (λ l. (ltb-false d 0x80 k, ltb-false 0xBF d l, rw (k, l) at e)))

-- a code point at the front, from its bytes
found : (x : ℕ) (t r s : List ℕ) (n : ℕ) → (is_scalar x ≡ true) × (spell x ≡ t) → s ≡ t ++ r → length t ≡ n → Begins s n
found x t r s n p e l = record { char = x; scalar = p.0; size = ap length p.1 ∙ l; behind = r; text = e ∙ ap (λ (y : List ℕ). y ++ r) (sym p.1) }

cut_short : (b : ℕ) (r : List ℕ) (n : ℕ) → char_bytes b ≡ n → length (b ∷ r) < n → char_len (b ∷ r) ≡ 0
cut_short b r n e h = rw (e, lt-ltb (suc (length r)) n h)

unfit : (b : ℕ) (r : List ℕ) (n : ℕ) → char_bytes b ≡ n → 2 ≤ n → n ≤ length (b ∷ r) → rest_fits b (take (n - 1) r) ≡ false → char_len (b ∷ r) ≡ 0
unfit b r n e h k f = rw (e, le-ltb (suc (length r)) n k, le-ltb n 2 h, f)

two_sound : (b : ℕ) (r : List ℕ) → 0xC2 ≤ b → b < 0xE0 → (char_len (b ∷ r) ≡ 0 → ⊥) → Begins (b ∷ r) (char_len (b ∷ r))
two_sound b [] h k f = absurd (f (cut_short b [] 2 (two_first b h k) (omega arith)))
two_sound b (c ∷ r) h k f =
    tested (rest_fits b (c ∷ []))
    (λ e.
    let p = rest_bounds b c [] e in
    let s = second b in
    let n = two_first b h k in
    subst (Begins (b ∷ c ∷ r)) (sym (two_bytes b c r n p.least p.most))
    (found ((b - 0xC0) * 64 + (c - 0x80)) (b ∷ c ∷ []) r (b ∷ c ∷ r) 2
    (spell_two ((b - 0xC0) * 64 + (c - 0x80)) b c h k (omega (arith, s.least, p.least)) (omega (arith, s.most, p.most)) refl) refl refl))
    (λ e. absurd (f (unfit b (c ∷ r) 2 (two_first b h k) (omega arith) (omega arith) e)))

three_sound : (b : ℕ) (r : List ℕ) → 0xE0 ≤ b → b < 0xF0 → (char_len (b ∷ r) ≡ 0 → ⊥) → Begins (b ∷ r) (char_len (b ∷ r))
three_sound b [] h k f = absurd (f (cut_short b [] 3 (three_first b h k) (omega arith)))
three_sound b (c ∷ []) h k f = absurd (f (cut_short b (c ∷ []) 3 (three_first b h k) (omega arith)))
three_sound b (c ∷ d ∷ r) h k f =
    tested (rest_fits b (c ∷ d ∷ []))
    (λ e.
    let p = rest_bounds b c (d ∷ []) e in
    let q = tail_bounds d [] p.others in
    let x = (b - 0xE0) * 4096 + (c - 0x80) * 64 + (d - 0x80) in
    subst (Begins (b ∷ c ∷ d ∷ r)) (sym (three_bytes b c d r (three_first b h k) p.least p.most q.0 q.1))
    (found x (b ∷ c ∷ d ∷ []) r (b ∷ c ∷ d ∷ r) 3 (spell_three x b c d h k p.least p.most q.0 q.1 refl) refl refl))
    (λ e. absurd (f (unfit b (c ∷ d ∷ r) 3 (three_first b h k) (omega arith) (omega arith) e)))

four_sound : (b : ℕ) (r : List ℕ) → 0xF0 ≤ b → b < 0xF5 → (char_len (b ∷ r) ≡ 0 → ⊥) → Begins (b ∷ r) (char_len (b ∷ r))
four_sound b [] h k f = absurd (f (cut_short b [] 4 (four_first b h k) (omega arith)))
four_sound b (c ∷ []) h k f = absurd (f (cut_short b (c ∷ []) 4 (four_first b h k) (omega arith)))
four_sound b (c ∷ d ∷ []) h k f = absurd (f (cut_short b (c ∷ d ∷ []) 4 (four_first b h k) (omega arith)))
four_sound b (c ∷ d ∷ g ∷ r) h k f =
    tested (rest_fits b (c ∷ d ∷ g ∷ []))
    (λ e.
    let p = rest_bounds b c (d ∷ g ∷ []) e in
    let q = tail_bounds d (g ∷ []) p.others in
    let u = tail_bounds g [] q.2 in
    let x = (b - 0xF0) * 262144 + (c - 0x80) * 4096 + (d - 0x80) * 64 + (g - 0x80) in
    subst (Begins (b ∷ c ∷ d ∷ g ∷ r)) (sym (four_bytes b c d g r (four_first b h k) p.least p.most q.0 q.1 u.0 u.1))
    (found x (b ∷ c ∷ d ∷ g ∷ []) r (b ∷ c ∷ d ∷ g ∷ r) 4
    (spell_four x b c d g h k p.least p.most q.0 q.1 u.0 u.1 refl) refl refl))
    (λ e. absurd (f (unfit b (c ∷ d ∷ g ∷ r) 4 (four_first b h k) (omega arith) (omega arith) e)))

pub char_sound : (s : List ℕ) → (char_len s ≡ 0 → ⊥) → Begins s (char_len s)
char_sound [] f = absurd (f refl)
char_sound (b ∷ r) f =
    tested (ltb b 0x80)
    (λ k.
    let h = ltb-true b 0x80 k in
    subst (Begins (b ∷ r)) (sym (one_byte b r h)) (found b (b ∷ []) r (b ∷ r) 1 (rw (lt-ltb b 0xD800 (omega arith)), rw k) refl refl))
    (λ k₁.
    tested (ltb b 0xC2) (λ k. absurd (f (rw (k₁, k, le-ltb (suc (length r)) 0 (omega arith)))))
    (λ k₂.
    tested (ltb b 0xE0) (λ k. two_sound b r (ltb-false b 0xC2 k₂) (ltb-true b 0xE0 k) f)
    (λ k₃.
    tested (ltb b 0xF0) (λ k. three_sound b r (ltb-false b 0xE0 k₃) (ltb-true b 0xF0 k) f)
    (λ k₄.
    tested (ltb b 0xF5) (λ k. four_sound b r (ltb-false b 0xF0 k₄) (ltb-true b 0xF5 k) f)
    (λ k₅. absurd (f (rw (k₁, k₂, k₃, k₄, k₅, le-ltb (suc (length r)) 0 (omega arith)))))))))

-- ---- whole texts

pub spell_some : (x : ℕ) → length (spell x) ≡ 0 → ⊥
spell_some x =
    tested (ltb x 0x80) (λ k e. no (rw k at e)) (λ k₁.
    tested (ltb x 0x800) (λ k e. no (rw (k₁, k) at e)) (λ k₂.
    tested (ltb x 0x10000) (λ k e. no (rw (k₁, k₂, k) at e)) (λ k e. no (rw (k₁, k₂, k) at e))))
  where
    no : {n : ℕ} → suc n ≡ 0 → ⊥
    no {n} e = omega arith

text_length : (x : ℕ) (r : List ℕ) → 0 < length (spell x ++ r)
text_length x r = positive (length (spell x)) (spell_some x) (length-append (spell x) r)
  where
    positive : (n : ℕ) → (n ≡ 0 → ⊥) → length (spell x ++ r) ≡ n + length r → 0 < length (spell x ++ r)
    positive zero f e = absurd (f refl)
    positive (suc n) f e = omega arith

pub utf8_complete : (xs : List ℕ) → all_scalar xs ≡ true → is_utf8 (spell_all xs) ≡ true
utf8_complete [] e = refl
utf8_complete (x ∷ xs) e =
    let p = both_true (is_scalar x) (all_scalar xs) e in
    let r = spell_all xs in
    let c = char_complete x r p.0 in
    let d : drop (char_len (spell x ++ r)) (spell x ++ r) ≡ r = rw c (drop_at (spell x) r (length (spell x)) refl) in
    utf8_one (spell x ++ r) (text_length x r) (λ z. spell_some x (sym c ∙ z)) ∙ (ap is_utf8 d ∙ utf8_complete xs p.1)

behind_char : (s : List ℕ) (n : ℕ) (w : Begins s n) → drop n s ≡ w.behind
behind_char s n w = ap (drop n) w.text ∙ drop_at (spell w.char) w.behind n w.size

utf8_within : (m : ℕ) (s : List ℕ) → length s ≤ m → is_utf8 s ≡ true → IsText s
utf8_within zero [] h e = record { chars = []; scalars = refl; text = refl }
utf8_within zero (b ∷ r) h e = absurd (no h)
  where
    no : suc (length r) ≤ 0 → ⊥
    no g = omega arith
utf8_within (suc m) [] h e = record { chars = []; scalars = refl; text = refl }
utf8_within (suc m) (b ∷ r) h e =
    let s = b ∷ r in
    let some : char_len s ≡ 0 → ⊥ = λ z. not_both e (utf8_none s (omega arith) z) in
    let w = char_sound s some in
    let d : drop (char_len s) s ≡ w.behind = behind_char s (char_len s) w in
    let f : is_utf8 w.behind ≡ true = sym (ap is_utf8 d) ∙ (sym (utf8_one s (omega arith) some) ∙ e) in
    let n : length s ≡ length (spell w.char) + length w.behind = ap length w.text ∙ length-append (spell w.char) w.behind in
    let t = utf8_within m w.behind (shorter (length (spell w.char)) (spell_some w.char) n h) f in
    record {
      chars = w.char ∷ t.chars;
      scalars = rw w.scalar t.scalars;
      text = w.text ∙ ap (λ (l : List ℕ). spell w.char ++ l) t.text;
    }
  where
    shorter : {k l m : ℕ} (n : ℕ) → (n ≡ 0 → ⊥) → l ≡ n + k → l ≤ suc m → k ≤ m
    shorter {k} {l} {m} zero f e h = absurd (f refl)
    shorter {k} {l} {m} (suc n) f e h = omega arith

pub utf8_sound : (s : List ℕ) → is_utf8 s ≡ true → IsText s
utf8_sound s e = utf8_within (length s) s (omega arith) e
