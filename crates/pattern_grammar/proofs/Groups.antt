-- The group sizes that the reader counts are those of the places behind the last comma and between the last two.
use mathlib.Core.Path.{◌≡◌, refl, sym, ap, ◌∙◌}
use mathlib.Core.Bool.{false}
use mathlib.Core.List.{List, [], ◌∷◌, ◌++◌, append_assoc}
use mathlib.Core.Logic.{◌↔◌, ◌⊎◌, inl, inr, ⊎_elim}
use Prim.Native.Nat.{ℕ, suc, ◌-◌}
use native.Mathlib.Omega.{arith}
use borrow.Author.Tests.{ne_eqb, eqb-true, lt-ltb}
use lib.Dec.{eqb}
use lib.ListN.{length, length-append}
use lib.Seq.{take_at}
use Rattle.decimal.proofs.Choices.{tested}
use Rattle.pattern_number.specs.Shape.{last, primary_of, front, secondary_of}
use Rattle.pattern_grammar.specs.Meaning.{NoComma, empty, other, Groups, none, one_comma, more_commas}

-- ---- the last comma

last_none : {w : List ℕ} → NoComma w → last 44 w ≡ 0
last_none empty = refl
last_none (other {b} {w} e n) = rw (last_none n, e)

last_at : (a b : List ℕ) → NoComma b → last 44 (a ++ (44 ∷ b)) ≡ suc (length a)
last_at [] b n = rw (last_none n)
last_at (x ∷ a) b n = rw (last_at a b n, lt-ltb 0 (suc (length a)) (omega arith))

module _ (a b : List ℕ) (n : NoComma b) where
  some_comma : eqb (last 44 (a ++ (44 ∷ b))) 0 ≡ false
  some_comma = rw (last_at a b n) (ne_eqb (suc (length a)) 0 (λ y. omega arith))

  primary_at : primary_of (a ++ (44 ∷ b)) ≡ length b
  primary_at = rw (some_comma, last_at a b n) (omega (arith, length-append a (44 ∷ b)))

  front_at : front (a ++ (44 ∷ b)) ≡ a
  front_at = rw (last_at a b n) (take_at a (44 ∷ b) (suc (length a) - 1) (omega arith))

-- ---- both groups

secondary_same : (w : List ℕ) → eqb (last 44 w) 0 ≡ false → last 44 (front w) ≡ 0 → secondary_of w ≡ primary_of w
secondary_same w e f = rw (e, f)

secondary_own : (w : List ℕ) → eqb (last 44 w) 0 ≡ false → eqb (last 44 (front w)) 0 ≡ false → secondary_of w ≡ primary_of (front w)
secondary_own w e f = rw (e, f)

groups_are : {w : List ℕ} {p q : ℕ} → Groups w p q → (primary_of w ≡ p) × (secondary_of w ≡ q)
groups_are (none n) = let e = last_none n in (rw e, rw e)
groups_are (one_comma {a} {b} n m) =
    let f : last 44 (front (a ++ (44 ∷ b))) ≡ 0 = ap (last 44) (front_at a b m) ∙ last_none n in
    (primary_at a b m, secondary_same (a ++ (44 ∷ b)) (some_comma a b m) f ∙ primary_at a b m)
groups_are (more_commas a {b} {c} n m) =
    let t : a ++ (44 ∷ (b ++ (44 ∷ c))) ≡ (a ++ (44 ∷ b)) ++ (44 ∷ c) = sym (append_assoc a (44 ∷ b) (44 ∷ c)) in
    rw t (behind (a ++ (44 ∷ b)) refl)
  where
    behind : (x : List ℕ) → x ≡ a ++ (44 ∷ b) → (primary_of (x ++ (44 ∷ c)) ≡ length c) × (secondary_of (x ++ (44 ∷ c)) ≡ length b)
    behind x e =
        let f = front_at x c m ∙ e in
        let s : eqb (last 44 (front (x ++ (44 ∷ c)))) 0 ≡ false = ap (λ (l : List ℕ). eqb (last 44 l) 0) f ∙ some_comma a b n in
        (primary_at x c m, secondary_own (x ++ (44 ∷ c)) (some_comma x c m) s ∙ (ap primary_of f ∙ primary_at a b n))

-- ---- every text has its groups

-- what stands before the last comma and behind it
record Cut (w : List ℕ) : Type 0 where
  before : List ℕ
  behind : List ℕ
  text : w ≡ before ++ (44 ∷ behind)
  no_more : NoComma behind

cut : (w : List ℕ) → NoComma w ⊎ Cut w
cut [] = inl empty
cut (b ∷ w) =
    ⊎_elim
    (λ n.
    tested (eqb b 44) (λ e. inr (record { before = []; behind = w; text = rw (eqb-true b 44 e); no_more = n }))
    (λ e. inl (other e n)))
    (λ c. inr (record { before = b ∷ c.before; behind = c.behind; text = ap (λ (l : List ℕ). b ∷ l) c.text; no_more = c.no_more }))
    (cut w)

made : {w : List ℕ} {p q : ℕ} → Groups w p q → Groups w (primary_of w) (secondary_of w)
made g = let e = groups_are g in rw (e.1, e.0) g

pub groups_found : (w : List ℕ) → Groups w (primary_of w) (secondary_of w)
groups_found w = ⊎_elim (λ n. made (none n)) some (cut w)
  where
    some : Cut w → Groups w (primary_of w) (secondary_of w)
    some c =
        rw c.text
        (⊎_elim (λ n. made (one_comma n c.no_more))
        (λ d. rw (d.text, append_assoc d.before (44 ∷ d.behind) (44 ∷ c.behind)) (made (more_commas d.before d.no_more c.no_more)))
        (cut c.before))

pub groups_told : (w : List ℕ) (p q : ℕ) → Groups w p q ↔ ((primary_of w ≡ p) × (secondary_of w ≡ q))
groups_told w p q = (λ g. groups_are g, λ e. rw (sym e.0, sym e.1) (groups_found w))
