-- Laws of byte strings: sameness, and beginnings.
use mathlib.Core.Path.{◌≡◌, refl, sym}
use mathlib.Core.Bool.{Bool, true, false}
use mathlib.Core.List.{List, [], ◌∷◌}
use Prim.Native.Nat.{ℕ, ◌≤◌, ◌<◌}
use native.Mathlib.Omega.{arith}
use lib.Dec.{eqb}
use lib.ListN.{length, get_or, take}
use borrow.Author.Tests.{eq-eqb, ne_eqb, eqb-true}
use Rattle.std.specs.Cmp.Lexicographic.{pointwise}
use Rattle.decimal.specs.Choice.{both}
use Rattle.decimal.proofs.Choices.{choice, tested, not_both}
use Rattle.pack_token.specs.Spelling.{same, starts, length_of}

-- ---- two tests that both hold

pub both_0 : (a b : Bool) → both a b ≡ true → a ≡ true
both_0 true b e = refl
both_0 false b e = e

pub both_1 : (a b : Bool) → both a b ≡ true → b ≡ true
both_1 true b e = e
both_1 false b e = not_both refl (sym e)

-- ---- sameness is equality

pub same_eq : (s t : List ℕ) → same s t ≡ true → s ≡ t
same_eq [] [] e = refl
same_eq [] (y ∷ t) e = not_both refl (sym e)
same_eq (x ∷ s) [] e = not_both refl (sym e)
same_eq (x ∷ s) (y ∷ t) e =
    let p = eqb-true x y (both_0 (eqb x y) (same s t) e) in
    let q = same_eq s t (both_1 (eqb x y) (same s t) e) in
    cc

pub same_refl : (s : List ℕ) → same s s ≡ true
same_refl [] = refl
same_refl (x ∷ s) = rw (eq-eqb x x refl) (same_refl s)

-- a shorter text is not the same, nor is a longer one
pub same_shorter : (s w : List ℕ) → length s < length w → same s w ≡ false
same_shorter [] [] h = absurd (omega arith)
same_shorter [] (y ∷ w) h = refl
same_shorter (x ∷ s) [] h = absurd (omega arith)
same_shorter (x ∷ s) (y ∷ w) h = tested (eqb x y) (λ e. rw e (same_shorter s w (omega arith))) (λ e. rw e)

pub same_longer : (s w : List ℕ) → length w < length s → same s w ≡ false
same_longer [] w h = absurd (omega arith)
same_longer (x ∷ s) [] h = refl
same_longer (x ∷ s) (y ∷ w) h = tested (eqb x y) (λ e. rw e (same_longer s w (omega arith))) (λ e. rw e)

-- nor is one whose first or second byte is another
pub same_first : (s : List ℕ) (b : ℕ) (w : List ℕ) → (get_or s 0 0 ≡ b → ⊥) → same s (b ∷ w) ≡ false
same_first [] b w h = refl
same_first (x ∷ s) b w h = rw (ne_eqb x b h)

pub same_second : (s : List ℕ) (a b : ℕ) (w : List ℕ) → (get_or s 1 0 ≡ b → ⊥) → same s (a ∷ b ∷ w) ≡ false
same_second [] a b w h = refl
same_second (x ∷ s) a b w h = tested (eqb x a) (λ e. rw e (same_first s b w h)) (λ e. rw e)

-- so it is what `==` of two slices answers
pub pointwise_same : (s t : List ℕ) → pointwise eqb s t ≡ same s t
pointwise_same [] [] = refl
pointwise_same [] (y ∷ t) = refl
pointwise_same (x ∷ s) [] = refl
pointwise_same (x ∷ s) (y ∷ t) = tested (eqb x y) (λ e. rw e (pointwise_same s t)) (λ e. rw e)

-- and what `starts_with` answers
pub prefix_starts : (s w : List ℕ) → pointwise eqb w (take (length w) s) ≡ starts w s
prefix_starts s [] = refl
prefix_starts [] (x ∷ w) = refl
prefix_starts (y ∷ s) (x ∷ w) =
    tested (eqb x y) (λ e. rw (e, eq-eqb y x (sym (eqb-true x y e)), prefix_starts s w))
    (λ e. rw (e, ne_eqb y x (λ k. not_both (eq-eqb x y (sym k)) e)))

-- what a text begins with is no longer than it
pub starts_le : (w s : List ℕ) → starts w s ≡ true → length w ≤ length s
starts_le [] s e = omega arith
starts_le (x ∷ w) [] e = not_both refl (sym e)
starts_le (x ∷ w) (y ∷ s) e = omega (arith, starts_le w s (both_1 (eqb y x) (starts w s) e))

pub length_of_le : (ws : List (List ℕ)) (s : List ℕ) → length_of ws s ≤ length s
length_of_le [] s = omega arith
length_of_le (w ∷ ws) s = choice (λ n. n ≤ length s) (starts w s) (λ e. starts_le w s e) (λ _. length_of_le ws s)

-- what tells a text apart from another, for a match on its bytes
pub ruleset spellings = (same_shorter, same_longer, same_first, same_second)
