-- Keywords that are known and each used once: at most six rules, of which at most five have a condition.
use mathlib.Core.Path.{◌≡◌, refl, sym, ap, ◌∙◌}
use mathlib.Core.Bool.{Bool, true, false}
use mathlib.Core.List.{List, [], ◌∷◌, ◌++◌, map}
use Prim.Native.Nat.{ℕ, zero, suc, ◌+◌, ◌≤◌, ◌<◌}
use native.Mathlib.Omega.{arith}
use lib.Dec.{eqb, ltb}
use lib.ListN.{length, length-append}
use borrow.Author.Tests.{eqb-true, eqb-false, eq-eqb, ne_eqb, ltb-true}
use Rattle.std.specs.Prelude.{if◌then◌else◌}
use Rattle.decimal.proofs.Choices.{choice, tested, not_both}
use Rattle.answer.specs.Words.{spelling}
use Rattle.answer.specs.declared.Keyword.TheVariants.{Zero, One, Two, Few, Many, Other}
use Rattle.pack_rules.specs.Held.{keyword_of}
use Rattle.pack_token.specs.Spelling.{same, among}
use Rattle.pack_token.proofs.Spellings.{same_eq, same_refl}
use Rattle.pack_grammar.specs.Grammar.{Text, other}
use Rattle.pack_grammar.specs.Limits.{keywords}
use Rattle.pack_grammar.specs.RuleOf.{keyword_of as keyword_named}
use Rattle.pack_faults.specs.Faults.{keyword_number, held}
use Rattle.pack_reader.proofs.Numbers.{name_number}

-- how often a number stands in a list
abbrev bit : Bool → ℕ
bit b = if b then 1 else 0

abbrev pub occurs : ℕ → List ℕ → ℕ
occurs j [] = 0
occurs j (x ∷ xs) = bit (eqb x j) + occurs j xs

occurs_snoc : (j : ℕ) (xs : List ℕ) (x : ℕ) → occurs j (xs ++ (x ∷ [])) ≡ occurs j xs + bit (eqb x j)
occurs_snoc j [] x = go (bit (eqb x j))
  where
    go : (n : ℕ) → n + 0 ≡ 0 + n
    go n = omega arith
occurs_snoc j (y ∷ ys) x = go (bit (eqb y j)) (occurs j ys) (bit (eqb x j)) (occurs_snoc j ys x)
  where
    go : (a b c : ℕ) {d : ℕ} → d ≡ b + c → a + d ≡ a + b + c
    go a b c e = omega arith

occurs_not : (j : ℕ) (xs : List ℕ) → held j xs ≡ false → occurs j xs ≡ 0
occurs_not j [] e = refl
occurs_not j (x ∷ xs) e = go (eqb x j) e (occurs_not j xs)
  where
    go : (b : Bool) → (if b then true else held j xs) ≡ false → (held j xs ≡ false → occurs j xs ≡ 0) → bit b + occurs j xs ≡ 0
    go true e f = not_both refl e
    go false e f = omega (arith, f e)

bit_same : (x j : ℕ) → x ≡ j → bit (eqb x j) ≡ 1
bit_same x j e = rw (eq-eqb x j e)

bit_other : (x j : ℕ) → (x ≡ j → ⊥) → bit (eqb x j) ≡ 0
bit_other x j e = rw (ne_eqb x j e)

bit_le : (b : Bool) → bit b ≤ 1
bit_le true = omega arith
bit_le false = omega arith

abbrev five : List ℕ → ℕ
five ks = occurs 0 ks + occurs 1 ks + occurs 2 ks + occurs 3 ks + occurs 4 ks

-- keyword numbers of rules, of which m have a condition
pub record Tally (ks : List ℕ) (m : ℕ) : Type 0 where
  pub once : (j : ℕ) → occurs j ks ≤ 1
  pub total : length ks ≤ five ks + occurs 5 ks
  pub named : m ≤ five ks

pub no_tally : Tally [] 0
no_tally = record { once = λ j. omega arith; total = omega arith; named = omega arith }

-- at most six rules, five of them with a condition
pub tally_most : (ks : List ℕ) (m : ℕ) → Tally ks m → (length ks ≤ 6) × (m ≤ 5)
tally_most ks m t =
    (omega (arith, t.total, t.once 0, t.once 1, t.once 2, t.once 3, t.once 4, t.once 5), omega (arith, t.named, t.once 0, t.once 1, t.once 2, t.once 3, t.once 4))

-- the bits of a number below six, one of which is set
bits : (x : ℕ) → x < 6 → bit (eqb x 0) + bit (eqb x 1) + bit (eqb x 2) + bit (eqb x 3) + bit (eqb x 4) + bit (eqb x 5) ≡ 1
bits zero h = refl
bits (suc zero) h = refl
bits (suc (suc zero)) h = refl
bits (suc (suc (suc zero))) h = refl
bits (suc (suc (suc (suc zero)))) h = refl
bits (suc (suc (suc (suc (suc zero))))) h = refl
bits (suc (suc (suc (suc (suc (suc x)))))) h = absurd (no h)
  where
    no : suc (suc (suc (suc (suc (suc x))))) < 6 → ⊥
    no k = omega arith

module _ (ks : List ℕ) (m x : ℕ) (t : Tally ks m) (h : x < 6) (new : held x ks ≡ false) where
  once_more : (j : ℕ) → occurs j (ks ++ (x ∷ [])) ≤ 1
  once_more j =
      tested (eqb x j)
      (λ e.
      let k : x ≡ j = eqb-true x j e in
      let z : occurs j ks ≡ 0 = ap (λ i. occurs i ks) (sym k) ∙ occurs_not x ks new in
      omega (arith, occurs_snoc j ks x, bit_le (eqb x j)))
      (λ e. omega (arith, occurs_snoc j ks x, t.once j, bit_other x j (eqb-false x j e)))

  total_more : length (ks ++ (x ∷ [])) ≤ five (ks ++ (x ∷ [])) + occurs 5 (ks ++ (x ∷ []))
  total_more =
      omega (arith, length-append ks (x ∷ []), bits x h, t.total, occurs_snoc 0 ks x, occurs_snoc 1 ks x, occurs_snoc 2 ks x, occurs_snoc 3 ks x, occurs_snoc 4 ks x, occurs_snoc 5 ks x)

  -- one rule more
  pub tally_bare : Tally (ks ++ (x ∷ [])) m
  tally_bare =
      record {
        once = once_more;
        total = total_more;
        named = omega (arith, t.named, occurs_snoc 0 ks x, occurs_snoc 1 ks x, occurs_snoc 2 ks x, occurs_snoc 3 ks x, occurs_snoc 4 ks x);
      }

  pub tally_named : (x ≡ 5 → ⊥) → Tally (ks ++ (x ∷ [])) (suc m)
  tally_named f =
      record {
        once = once_more;
        total = total_more;
        named = omega (arith, t.named, bits x h, bit_other x 5 f, occurs_snoc 0 ks x, occurs_snoc 1 ks x, occurs_snoc 2 ks x, occurs_snoc 3 ks x, occurs_snoc 4 ks x);
      }

  -- room for it
  pub tally_room : length ks < 6
  tally_room =
      omega (arith, length-append ks (x ∷ []), total_more, once_more 0, once_more 1, once_more 2, once_more 3, once_more 4, once_more 5)

  pub tally_conditions : (x ≡ 5 → ⊥) → m < 5
  tally_conditions f =
      let z = (tally_named f).named in
      omega (arith, once_more 0, once_more 1, once_more 2, once_more 3, once_more 4)

-- ---- keywords by number

-- a keyword's number gives its spelling back
abbrev word : ℕ → Text
word n =
    if eqb n 0 then spelling Zero else
    if eqb n 1 then spelling One else
    if eqb n 2 then spelling Two else
    if eqb n 3 then spelling Few else
    if eqb n 4 then spelling Many else
    spelling Other

word_number : (t : Text) → keyword_number t < 6 → t ≡ word (keyword_number t)
word_number t =
    choice P (same t (spelling Zero)) (λ e _. same_eq t (spelling Zero) e)
    (λ _. choice P (same t (spelling One)) (λ e _. same_eq t (spelling One) e)
    (λ _. choice P (same t (spelling Two)) (λ e _. same_eq t (spelling Two) e)
    (λ _. choice P (same t (spelling Few)) (λ e _. same_eq t (spelling Few) e)
    (λ _. choice P (same t (spelling Many)) (λ e _. same_eq t (spelling Many) e)
    (λ _. choice P (same t (spelling Other)) (λ e _. same_eq t (spelling Other) e) (λ _ h. absurd (no h)))))))
  where
    P : ℕ → Type 0
    P n = n < 6 → t ≡ word n

    no : 6 < 6 → ⊥
    no k = omega arith

-- the keyword of a number is the keyword that the word names
pub keyword_number_law : (t : Text) → keyword_number t < 6 → keyword_of (keyword_number t) ≡ keyword_named t
keyword_number_law t h = ap (λ (u : Text). keyword_of (keyword_number u)) e ∙ go (keyword_number t) h ∙ ap keyword_named (sym e)
  where
    e : t ≡ word (keyword_number t)
    e = word_number t h

    go : (n : ℕ) → n < 6 → keyword_of (keyword_number (word n)) ≡ keyword_named (word n)
    go zero h = refl
    go (suc zero) h = refl
    go (suc (suc zero)) h = refl
    go (suc (suc (suc zero))) h = refl
    go (suc (suc (suc (suc zero)))) h = refl
    go (suc (suc (suc (suc (suc zero))))) h = refl
    go (suc (suc (suc (suc (suc (suc x)))))) h = absurd (no h)
      where
        no : suc (suc (suc (suc (suc (suc x))))) < 6 → ⊥
        no k = omega arith

pub number_other : (t : Text) → same t other ≡ false → keyword_number t ≡ 5 → ⊥
number_other t n e =
    let k = word_number t (omega arith) in
    let j : t ≡ other = k ∙ ap word e in
    not_both (ap (λ (u : Text). same u other) j ∙ same_refl other) n

pub known_number : (t : Text) → ltb (keyword_number t) 6 ≡ among t keywords
known_number t = go (same t (spelling Zero)) (same t (spelling One)) (same t (spelling Two)) (same t (spelling Few)) (same t (spelling Many)) (same t (spelling Other))
  where
    go : (a b c d e f : Bool)
        → ltb (if a then 0 else if b then 1 else if c then 2 else if d then 3 else if e then 4 else if f then 5 else 6) 6
        ≡ (if a then true else if b then true else if c then true else if d then true else if e then true else if f then true else false)
    go true b c d e f = refl
    go false true c d e f = refl
    go false false true d e f = refl
    go false false false true e f = refl
    go false false false false true f = refl
    go false false false false false true = refl
    go false false false false false false = refl

number_held : (t : Text) (ws : List Text) → among t ws ≡ true → held (keyword_number t) (map keyword_number ws) ≡ true
number_held t [] e = e
number_held t (w ∷ ws) e = go (same t w) refl e (number_held t ws)
  where
    go : (b : Bool) → same t w ≡ b → (if b then true else among t ws) ≡ true → (among t ws ≡ true → held (keyword_number t) (map keyword_number ws) ≡ true)
        → (if eqb (keyword_number w) (keyword_number t) then true else held (keyword_number t) (map keyword_number ws)) ≡ true
    go true k e f = rw (eq-eqb (keyword_number w) (keyword_number t) (ap keyword_number (sym (same_eq t w k))))
    go false k e f = choice (λ b. b ≡ true) (eqb (keyword_number w) (keyword_number t)) (λ _. refl) (λ _. f e)

number_new : (t : Text) (ws : List Text) → keyword_number t < 6 → among t ws ≡ false → held (keyword_number t) (map keyword_number ws) ≡ false
number_new t [] h e = refl
number_new t (w ∷ ws) h e = go (same t w) refl e (number_new t ws h)
  where
    go : (b : Bool) → same t w ≡ b → (if b then true else among t ws) ≡ false → (among t ws ≡ false → held (keyword_number t) (map keyword_number ws) ≡ false)
        → (if eqb (keyword_number w) (keyword_number t) then true else held (keyword_number t) (map keyword_number ws)) ≡ false
    go true k e f = not_both refl e
    go false k e f =
        choice (λ b. b ≡ false) (eqb (keyword_number w) (keyword_number t))
        (λ q.
        let n = eqb-true (keyword_number w) (keyword_number t) q in
        let j : t ≡ w = word_number t h ∙ ap word (sym n) ∙ sym (word_number w (omega arith)) in
        not_both (ap (λ (u : Text). same t u) (sym j) ∙ same_refl t) k)
        (λ _. f e)

-- 25 by words
abbrev pub word_row : Bool → Bool → ℕ
word_row used known = if used then 25 else if known then 0 else 25

-- 25 by numbers is 25 by words
pub name_row_law : (t : Text) (ws : List Text)
    → name_number (keyword_number t) (held (keyword_number t) (map keyword_number ws)) ≡ word_row (among t ws) (among t keywords)
name_row_law t ws =
    ap (word_row (held (keyword_number t) (map keyword_number ws))) (known_number t)
    ∙ tested (among t ws) (λ e. rw (e, number_held t ws e)) (λ e. rw e (new e))
  where
    new : among t ws ≡ false → word_row (held (keyword_number t) (map keyword_number ws)) (among t keywords) ≡ word_row false (among t keywords)
    new e =
        tested (among t keywords)
        (λ k. rw (k, number_new t ws (ltb-true (keyword_number t) 6 (known_number t ∙ k)) e))
        (λ k. rw k (same_both (held (keyword_number t) (map keyword_number ws))))
      where
        same_both : (b : Bool) → word_row b false ≡ 25
        same_both true = refl
        same_both false = refl

-- a keyword without a fault is known and new
pub fresh : (t : Text) (ws : List Text) → word_row (among t ws) (among t keywords) ≡ 0
    → (keyword_number t < 6) × (held (keyword_number t) (map keyword_number ws) ≡ false)
fresh t ws e = go (among t ws) refl (among t keywords) refl e
  where
    go : (a : Bool) → among t ws ≡ a → (b : Bool) → among t keywords ≡ b → word_row a b ≡ 0
        → (keyword_number t < 6) × (held (keyword_number t) (map keyword_number ws) ≡ false)
    go true p b q e = absurd (let z : ◌≡◌ {A = ℕ} 25 0 = e in omega arith)
    go false p true q e = let h = ltb-true (keyword_number t) 6 (known_number t ∙ q) in (h, number_new t ws h p)
    go false p false q e = absurd (let z : ◌≡◌ {A = ℕ} 25 0 = e in omega arith)
