-- Laws of texts parted at a byte.
use mathlib.Core.Path.{◌≡◌, refl, sym, ap, ◌∙◌}
use mathlib.Core.List.{List, [], ◌∷◌, ◌++◌}
use Prim.Native.Nat.{ℕ, suc, ◌+◌, ◌≤◌, ◌<◌}
use native.Mathlib.Omega.{arith}
use native.Mathlib.Nat.{zero-add, suc-add}
use lib.Dec.{eqb}
use lib.ListN.{length, take, drop}
use Rattle.decimal.specs.Split.{until, on_first, split}
use Rattle.decimal.proofs.Choices.{tested}

pub until_le : (b : ℕ) (s : List ℕ) → until b s ≤ length s
until_le b [] = omega arith
until_le b (x ∷ s) = tested (eqb x b) (λ k. rw k (omega arith)) (λ k. rw k (omega (arith, until_le b s)))

-- a byte b within s is where it was, with more behind s; else the part goes on behind s
pub until_within : (b : ℕ) (s r : List ℕ) → until b s < length s → until b (s ++ r) ≡ until b s
until_within b [] r h = absurd (omega arith)
until_within b (x ∷ s) r h =
    tested (eqb x b) (λ k. rw k)
    (λ k.
    let h' : suc (until b s) < suc (length s) = rw k at h in
    rw k (ap suc (until_within b s r (omega arith))))

pub until_beyond : (b : ℕ) (s r : List ℕ) → length s ≤ until b s → until b (s ++ r) ≡ length s + until b r
until_beyond b [] r h = sym (zero-add (until b r))
until_beyond b (x ∷ s) r h =
    tested (eqb x b)
    (λ k.
    let h' : suc (length s) ≤ 0 = rw k at h in
    absurd (omega arith))
    (λ k.
    let h' : suc (length s) ≤ suc (until b s) = rw k at h in
    rw k (ap suc (until_beyond b s r (omega arith)) ∙ sym (suc-add (length s) (until b r))))

-- a text with no b is one part; else the first part and those behind its b
pub split_one : (b : ℕ) (s : List ℕ) → length s ≤ until b s → split b s ≡ s ∷ []
split_one b [] h = refl
split_one b (x ∷ s) h =
    tested (eqb x b)
    (λ k.
    let h' : suc (length s) ≤ 0 = rw k at h in
    absurd (omega arith))
    (λ k.
    let h' : suc (length s) ≤ suc (until b s) = rw k at h in
    rw k (ap (on_first x) (split_one b s (omega arith))))

pub split_first : (b : ℕ) (s : List ℕ) → until b s < length s → split b s ≡ take (until b s) s ∷ split b (drop (until b s + 1) s)
split_first b [] h = absurd (omega arith)
split_first b (x ∷ s) h =
    tested (eqb x b) (λ k. rw k)
    (λ k.
    let h' : suc (until b s) < suc (length s) = rw k at h in
    rw k (ap (on_first x) (split_first b s (omega arith)) ∙ rw (suc-add (until b s) 1)))
