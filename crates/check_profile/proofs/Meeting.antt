-- The profile of a stretch of relations, one after the other.
use mathlib.Core.Path.{◌≡◌, sym, ap, ap₂, ◌∙◌}
use mathlib.Core.List.{[], ◌∷◌, ◌++◌}
use mathlib.Core.Logic.{◌⊎◌, inl, inr}
use Prim.Native.Nat.{ℕ, ◌+◌, ◌-◌, ◌≤◌}
use native.Mathlib.Omega.{arith}
use lib.Bits.{bit_and}
use Rattle.pack_rules.specs.Stretch.{Table, stretch, relation_at, relations_in}
use Rattle.pack_rules.proofs.Stretches.{stretch_nil, stretch_snoc}
use Rattle.check_laws.specs.Profile.{packed, profile_of}
use Rattle.check_laws.proofs.Profiles.{nothing, profile_join}

module _ (T : Table) (from : ℕ) where
  pub met_none : (j p : ℕ) → j ≡ from → p ≡ packed 32767 1023 1023 7 1023 1023 → p ≡ profile_of (relations_in T from j)
  met_none j p e f = f ∙ sym nothing ∙ ap profile_of (sym (stretch_nil (relation_at T) from j (omega arith)))

  pub met_more : (j p q r : ℕ) → from ≤ j → p ≡ profile_of (relations_in T from j) → q ≡ profile_of (relation_at T j ∷ []) → r ≡ bit_and p q → r ≡ profile_of (relations_in T from (j + 1))
  met_more j p q r h e f g =
      g ∙ ap₂ bit_and e f ∙ profile_join (relations_in T from j) (relation_at T j ∷ [])
      ∙ ap profile_of
      (ap (λ (k : ℕ). stretch (relation_at T) from (j - from) ++ (relation_at T k ∷ [])) (let z : j ≡ from + (j - from) = omega arith in z)
      ∙ sym (stretch_snoc (relation_at T) from (j - from))
      ∙ ap (stretch (relation_at T) from) (let z : j - from + 1 ≡ j + 1 - from = omega arith in z))

  -- an empty stretch, or all of one
  pub met_all : (to j p : ℕ) → from ≤ j → to ≤ j → (j ≤ to) ⊎ (j ≡ from) → p ≡ profile_of (relations_in T from j) → p ≡ profile_of (relations_in T from to)
  met_all to j p h k (inl l) e = e ∙ ap (λ (x : ℕ). profile_of (relations_in T from x)) (let z : j ≡ to = omega arith in z)
  met_all to j p h k (inr l) e = e ∙ ap profile_of (stretch_nil (relation_at T) from j (omega arith) ∙ sym (stretch_nil (relation_at T) from to (omega arith)))
