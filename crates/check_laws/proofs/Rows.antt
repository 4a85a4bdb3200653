-- Rows of document 01's bench card, of the check, from the definition: the number is met by both rules, and every number that is comes no earlier.
use Rattle.check_laws.specs.declared.Clash.{Clash}
use Rattle.check_laws.specs.Check.{clashing}
use Rattle.std.specs.Prelude.{Result, Ok}
use mathlib.Core.Path.{◌≡◌, refl, ap, ◌∙◌}
use mathlib.Core.Bool.{Bool, true, false, not}
use mathlib.Core.List.{List, [], ◌∷◌}
use mathlib.Core.Logic.{⊎_elim}
use Prim.Native.Nat.{ℕ, zero, suc, ◌%◌, ◌^◌, ◌≤◌, ◌<◌}
use native.Mathlib.Omega.{arith}
use native.Mathlib.Nat.{mod-zero}
use lib.Dec.{leb, eqb}
use borrow.Author.Tests.{lt-ltb, le-leb, leb-true}
use Rattle.std.specs.Prelude.{if◌then◌else◌}
use Rattle.decimal.specs.Choice.{both, either}
use Rattle.decimal.proofs.Choices.{not_both, both_true}
use Rattle.answer.specs.declared.Keyword.{Keyword}
use Rattle.answer.specs.declared.Keyword.TheVariants.{One, Two, Few}
use Rattle.answer.specs.declared.Witness.{Witness}
use Rattle.number.specs.declared.Number.{Number}
use Rattle.pack_rules.specs.Syntax.{Relation, Rule}
use Rattle.meaning.specs.Meaning.{meets, in_range}
use Rattle.check_laws.proofs.Seeking.{split}
use Rattle.check_laws.specs.Check.{number_at, rank, ranked, ranks, clash_of, against, first_pair, check_of}
use Rattle.check_laws.specs.Claims.{IsAdmitted, Apart, rule_at}
use Rattle.check_laws.proofs.Ranks.{ranked_rank, rank_lt}
use Rattle.check_laws.proofs.Claimed.{lower, found_passes, apart_passes}

-- a relation of one range
abbrev pub relation : ℕ → ℕ → Bool → ℕ → ℕ → Relation
relation o m negated a b = record { operand = o; modulus = m; negated = negated; ranges = record { low = a; high = b } ∷ [] }

-- a rule of one clause of one relation
abbrev pub rule : Keyword → Relation → Rule
rule k r = record { keyword = k; clauses = (r ∷ []) ∷ [] }

abbrev pub spot : ℕ → ℕ → ℕ → ℕ → Witness
spot e v i f = record { e = e; v = record { 0 = v }; i = i; f = record { 0 = f } }

abbrev pub clash : ℕ → ℕ → ℕ → ℕ → ℕ → ℕ → Result (Unit {0}) Clash
clash p q e v i f = clashing (record { first = p; second = q }) (spot e v i f)

-- ---- two rules

module _ (a b : Rule) where
  abbrev Both : Number → Bool
  Both x = both (meets a x) (meets b x)

  abbrev MeetBoth : Witness → Type 0
  MeetBoth y = IsAdmitted y × (meets a (number_at y) ≡ true) × (meets b (number_at y) ≡ true)

  -- the least number that meets both
  two_clash : (x : Witness) → MeetBoth x → ((y : Witness) → MeetBoth y → rank x ≤ rank y) → check_of (a ∷ b ∷ []) ≡ clashing (record { first = 1; second = 2 }) x
  unfolding against first_pair
  two_clash x m least =
      ap (λ (t : Bool). if t then clashing (record { first = 1; second = 2 }) (ranked (clash_of a b)) else (Ok tt)) (lt-ltb (clash_of a b) ranks few)
      ∙ ap (clashing (record { first = 1; second = 2 })) (ap ranked same ∙ ranked_rank x m.0)
    where
      at_most : clash_of a b ≤ rank x
      at_most = lower Both x m.0 (ap (λ (t : Bool). both t (meets b (number_at x))) m.1 ∙ m.2)

      few : clash_of a b < ranks
      few = omega (arith, at_most, rank_lt x m.0)

      same : clash_of a b ≡ rank x
      same =
          let f = found_passes Both few in
          let h = both_true (meets a (number_at (ranked (clash_of a b)))) (meets b (number_at (ranked (clash_of a b)))) f.1 in
          let l = least (ranked (clash_of a b)) (f.0, h.0, h.1) in
          let back : rank (ranked (clash_of a b)) ≡ clash_of a b = omega (arith, few) in
          omega (arith, at_most)

-- a rule of one relation is met where the relation holds
of_rule : (b : Bool) → either (both b true) false ≡ true → b ≡ true
of_rule true e = refl
of_rule false e = e

-- a value in a range, or outside one
from_to : (a b x : ℕ) → either (in_range x (record { low = a; high = b })) false ≡ true → (a ≤ x) × (x ≤ b)
from_to a b x e = both_le (leb a x) refl e
  where
    both_le : (l : Bool) → leb a x ≡ l → either (both l (leb x b)) false ≡ true → (a ≤ x) × (x ≤ b)
    both_le true f g = (leb-true a x f, leb-true x b (last (leb x b) g))
      where
        last : (t : Bool) → either t false ≡ true → t ≡ true
        last true h = refl
        last false h = h
    both_le false f g = not_both g refl

-- ---- the rows

-- `one: n = 1; few: n % 10 = 1..3`
abbrev pub pack_tens : List Rule
pack_tens = rule One (relation 110 0 false 1 1) ∷ rule Few (relation 110 10 false 1 3) ∷ []

pub row_tens : check_of pack_tens ≡ clash 1 2 0 0 1 0
row_tens =
    two_clash (rule One (relation 110 0 false 1 1)) (rule Few (relation 110 10 false 1 3)) (spot 0 0 1 0)
    (record { exponent = omega arith; places = omega arith; whole = omega arith; fraction = omega arith; shifted = λ h. absurd (omega arith) }, refl, refl)
    (λ y m.
    let h = both_true (eqb y.f.0 0) _ (of_rule _ m.1) in
    let i = from_to 1 1 (y.i % 0) h.1 in
    omega (arith, i.0, mod-zero y.i))

-- `one: t = 5; two: f = 50`
abbrev pub pack_trailing : List Rule
pack_trailing = rule One (relation 116 0 false 5 5) ∷ rule Two (relation 102 0 false 50 50) ∷ []

pub row_trailing : check_of pack_trailing ≡ clash 1 2 0 2 0 50
row_trailing =
    two_clash (rule One (relation 116 0 false 5 5)) (rule Two (relation 102 0 false 50 50)) (spot 0 2 0 50)
    (record { exponent = omega arith; places = omega arith; whole = omega arith; fraction = omega arith; shifted = λ h. absurd (omega arith) }, refl, refl)
    (λ y m.
    let f = from_to 50 50 (y.f.0 % 0) (of_rule _ m.2) in
    let room = m.0.fraction in
    let two = places y.v.0 (omega (arith, f.0, mod-zero y.f.0)) in
    omega (arith, f.0, mod-zero y.f.0))
  where
    -- fifty has two places
    places : (v : ℕ) → 50 < 10 ^ v → 2 ≤ v
    places zero h = absurd (omega arith)
    places (suc zero) h = absurd (omega arith)
    places (suc (suc v)) h = omega arith

-- `one: i != 0..999999; two: i % 10 = 7`
abbrev pub pack_seven : List Rule
pack_seven = rule One (relation 105 0 true 0 999_999) ∷ rule Two (relation 105 10 false 7 7) ∷ []

pub row_seven : check_of pack_seven ≡ clash 1 2 0 0 1_000_007 0
row_seven =
    two_clash (rule One (relation 105 0 true 0 999_999)) (rule Two (relation 105 10 false 7 7)) (spot 0 0 1_000_007 0)
    (record { exponent = omega arith; places = omega arith; whole = omega arith; fraction = omega arith; shifted = λ h. absurd (omega arith) }, refl, refl)
    (λ y m.
    let o = above (y.i % 0) (of_rule _ m.1) in
    let s = from_to 7 7 (y.i % 10) (of_rule _ m.2) in
    omega (arith, o, s.0, s.1, mod-zero y.i))
  where
    above : (x : ℕ) → not (either (in_range x (record { low = 0; high = 999_999 })) false) ≡ true → 999_999 < x
    above x e = ⊎_elim (λ h. h) (λ h. not_both e (rw (le-leb 0 x (omega arith), le-leb x 999_999 h))) (split 999_999 x)

-- `one: n = 1; few: n = 2..4`
abbrev pub pack_few : List Rule
pack_few = rule One (relation 110 0 false 1 1) ∷ rule Few (relation 110 0 false 2 4) ∷ []

pub row_few : check_of pack_few ≡ Ok tt
row_few = apart_passes pack_few apart
  where
    apart : (i j : ℕ) → i < j → j < 2 → Apart (rule_at pack_few i) (rule_at pack_few j)
    apart zero (suc zero) h k x m =
        let a = both_true (eqb x.f.0 0) _ (of_rule _ m.first) in
        let b = both_true (eqb x.f.0 0) _ (of_rule _ m.second) in
        let p = from_to 1 1 (x.i % 0) a.1 in
        let q = from_to 2 4 (x.i % 0) b.1 in
        omega (arith, p.1, q.0)
    apart zero zero h k x m = omega (arith, h)
    apart zero (suc (suc j)) h k x m = omega (arith, k)
    apart (suc i) zero h k x m = omega (arith, h)
    apart (suc i) (suc j) h k x m = omega (arith, h, k)
