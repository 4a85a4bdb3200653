-- The check's answer is right: it passes exactly where no admitted number meets two rules, and else names the first pair and its least number.
use Rattle.check_laws.specs.declared.Clash.{Clash}
use Rattle.check_laws.specs.Check.{clashing}
use Rattle.std.specs.Prelude.{Result, Ok, Err}
use mathlib.Core.Path.{◌≡◌, refl, sym, ap, subst, ◌∙◌}
use mathlib.Core.Bool.{Bool, true, false}
use mathlib.Core.List.{List, [], ◌∷◌}
use mathlib.Core.Logic.{◌⊎◌, ⊎_elim, inl, inr}
use Prim.Native.Nat.{ℕ, zero, suc, ◌+◌, ◌≤◌, ◌<◌}
use native.Mathlib.Omega.{arith}
use native.Mathlib.Nat.{suc-add, add-suc, add-zero, le_of_suc-le-suc}
use lib.Dec.{ltb}
use lib.ListN.{length}
use borrow.Author.Tests.{ltb-true, ltb-false}
use Rattle.std.specs.Prelude.{if◌then◌else◌}
use Rattle.decimal.specs.Choice.{both}
use Rattle.decimal.proofs.Choices.{not_both, both_true}
use Rattle.answer.specs.declared.Witness.{Witness}
use Rattle.number.specs.declared.Number.{Number}
use Rattle.pack_rules.specs.Syntax.{Rule}
use Rattle.meaning.specs.Meaning.{meets}
use Rattle.check_laws.specs.Seek.{Least}
use Rattle.check_laws.proofs.Seeking.{and_true, seek_least, split}
use Rattle.check_laws.specs.Check.{number_at, rank, ranked, admits, ranks, found, least_rank, clash_of, against, first_pair, check_of}
use Rattle.check_laws.specs.Claims.{IsAdmitted, MeetsBoth, Apart, Before, rule_at, AllApart, Claims}
use Rattle.check_laws.proofs.Ranks.{admitted_of, admits_of, ranked_rank, rank_lt, rank_one, rank_before}

-- ---- any test: its least admitted number

module _ (P : Number → Bool) where
  l : Least (found P) 0 (0 + ranks) (least_rank P)
  unfolding least_rank
  l = seek_least (found P) ranks 0

  at_rank : (x : Witness) → IsAdmitted x → P (number_at x) ≡ true → found P (rank x) ≡ true
  unfolding found
  at_rank x a h = ap (λ (y : Witness). both (admits y) (P (number_at y))) (ranked_rank x a) ∙ and_true (admits_of x a) h

  -- no admitted number of a lower rank passes
  pub lower : (x : Witness) → IsAdmitted x → P (number_at x) ≡ true → least_rank P ≤ rank x
  lower x a h = ⊎_elim (λ k. not_both (at_rank x a h) (l.none (rank x) (omega arith) k)) (λ k. k) (split (rank x) (least_rank P))

  -- where none is found, none passes
  pub none_passes : ranks ≤ least_rank P → (x : Witness) → IsAdmitted x → P (number_at x) ≡ true → ⊥
  none_passes k x a h = let g = lower x a h in let r = rank_lt x a in omega arith

  -- what is found is admitted and passes
  pub found_passes : least_rank P < ranks → IsAdmitted (ranked (least_rank P)) × (P (number_at (ranked (least_rank P))) ≡ true)
  unfolding found
  found_passes k =
      let h = both_true _ _ (l.hit (omega arith)) in
      (admitted_of (ranked (least_rank P)) h.0, h.1)

  -- and the rank of what is found is that of the search
  rank_ranked : least_rank P < ranks → rank (ranked (least_rank P)) ≡ least_rank P
  rank_ranked k = omega arith

  pub found_least : least_rank P < ranks → (y : Witness) → IsAdmitted y → P (number_at y) ≡ true → (y ≡ ranked (least_rank P)) ⊎ Before (ranked (least_rank P)) y
  found_least k y a h =
      let x = ranked (least_rank P) in
      let ax = (found_passes k).0 in
      ⊎_elim (λ g. inr (rank_before x y ax a g)) (λ g. inl (rank_one y x a ax (let q = rank_ranked k in let s = lower y a h in omega arith))) (split (rank x) (rank y))

-- ---- one pair

module _ (a b : Rule) where
  abbrev two : Number → Bool
  two x = both (meets a x) (meets b x)

  apart : ranks ≤ clash_of a b → Apart a b
  apart k x m = none_passes (λ (x : Number). both (meets a x) (meets b x)) k x m.admitted (and_true m.first m.second)

  hit : clash_of a b < ranks → MeetsBoth a b (ranked (clash_of a b))
  hit k =
      let h = found_passes (λ (x : Number). both (meets a x) (meets b x)) k in
      let m = both_true _ _ h.1 in
      record { admitted = h.0; first = m.0; second = m.1 }

  least : clash_of a b < ranks → (y : Witness) → MeetsBoth a b y → (y ≡ ranked (clash_of a b)) ⊎ Before (ranked (clash_of a b)) y
  least k y m = found_least (λ (x : Number). both (meets a x) (meets b x)) k y m.admitted (and_true m.first m.second)

-- ---- one rule against those that follow

abbrev Found : ℕ → ℕ → Rule → List Rule → Result (Unit {0}) Clash → Type 0
Found p q a bs r =
    (j : ℕ) × (j < length bs) × (r ≡ clashing (record { first = p; second = q + j }) (ranked (clash_of a (rule_at bs j))))
    × (clash_of a (rule_at bs j) < ranks) × ((k : ℕ) → k < j → Apart a (rule_at bs k))

abbrev Missed : Rule → List Rule → Result (Unit {0}) Clash → Result (Unit {0}) Clash → Type 0
Missed a bs rest r = (r ≡ rest) × ((k : ℕ) → k < length bs → Apart a (rule_at bs k))

below : (a b : Rule) (bs : List Rule) (n : ℕ) → Apart a b → ((k : ℕ) → k < n → Apart a (rule_at bs k)) → (k : ℕ) → k < suc n → Apart a (rule_at (b ∷ bs) k)
below a b bs n c f zero h = c
below a b bs n c f (suc k) h = f k (le_of_suc-le-suc h)

one_against : (p q : ℕ) (a : Rule) (bs : List Rule) (rest : Result (Unit {0}) Clash) → Found p q a bs (against clash_of p q a bs rest) ⊎ Missed a bs rest (against clash_of p q a bs rest)
unfolding against
one_against p q a [] rest = inr (refl, λ k h. absurd (omega arith))
one_against p q a (b ∷ bs) rest = go (ltb (clash_of a b) ranks) refl (one_against p (suc q) a bs rest)
  where
    r : Result (Unit {0}) Clash
    r = against clash_of p (suc q) a bs rest

    go : (c : Bool) → ltb (clash_of a b) ranks ≡ c → Found p (suc q) a bs r ⊎ Missed a bs rest r
        → Found p q a (b ∷ bs) (if c then clashing (record { first = p; second = q }) (ranked (clash_of a b)) else r) ⊎ Missed a (b ∷ bs) rest (if c then clashing (record { first = p; second = q }) (ranked (clash_of a b)) else r)
    go true e m =
        inl (0, omega arith, ap (λ (n : ℕ). clashing (record { first = p; second = n }) (ranked (clash_of a b))) (sym (add-zero q)), ltb-true _ _ e, λ k h. absurd (omega arith))
    go false e m =
        let c = apart a b (ltb-false _ _ e) in
        ⊎_elim
        (λ f. inl (suc f.0, omega (arith, f.1), f.2 ∙ ap (λ (n : ℕ). clashing (record { first = p; second = n }) (ranked (clash_of a (rule_at bs f.0)))) (suc-add q f.0 ∙ sym (add-suc q f.0)), f.3, below a b bs f.0 c f.4))
        (λ f. inr (f.0, below a b bs (length bs) c f.1))
        m

-- ---- all pairs

-- a pack with one more rule in front
pairs : (a : Rule) (bs : List Rule) (C : ℕ → ℕ → Type 0)
    → ((j : ℕ) → j < length bs → C 0 (suc j) → Apart a (rule_at bs j))
    → ((i j : ℕ) → i < j → j < length bs → C (suc i) (suc j) → Apart (rule_at bs i) (rule_at bs j))
    → (i j : ℕ) → i < j → j < suc (length bs) → C i j → Apart (rule_at (a ∷ bs) i) (rule_at (a ∷ bs) j)
pairs a bs C f g zero zero h k c = absurd (omega arith)
pairs a bs C f g zero (suc j) h k c = f j (le_of_suc-le-suc k) c
pairs a bs C f g (suc i) zero h k c = absurd (omega arith)
pairs a bs C f g (suc i) (suc j) h k c = g i j (le_of_suc-le-suc h) (le_of_suc-le-suc k) c

abbrev Sooner : ℕ → ℕ → ℕ → ℕ → Type 0
Sooner i j k l = (k < i) ⊎ ((k ≡ i) × (l < j))

extend : (p : ℕ) (a : Rule) (bs : List Rule) (r : Result (Unit {0}) Clash) → Claims (suc p) bs r → ((k : ℕ) → k < length bs → Apart a (rule_at bs k)) → Claims p (a ∷ bs) r
extend p a bs (Ok tt) h f = λ i j u w. pairs a bs (λ _ _. Unit {0}) (λ j k _. f j k) (λ i j k m _. h i j k m) i j u w tt
extend p a bs (Err c) h f =
    let i = h.0 in
    let j = h.1 in
    let L = h.4 in (
      suc i,
      suc j,
      h.2 ∙ suc-add p i ∙ sym (add-suc p i),
      h.3 ∙ suc-add p j ∙ sym (add-suc p j),
      record {
        order = omega (arith, L.order);
        inside = omega (arith, L.inside);
        met = L.met;
        least = L.least;
        first = pairs a bs (Sooner (suc i) (suc j)) (λ k u _. f k u)
            (λ k m u w b. L.first k m u w (⊎_elim (λ z. inl (omega arith)) (λ z. inr (let e = z.0 in let g = z.1 in (omega arith, omega arith))) b));
      },
    )

from_claims : (p : ℕ) (rs : List Rule) → Claims p rs (first_pair clash_of p rs)
unfolding first_pair
from_claims p [] = λ i j h k. absurd (omega arith)
from_claims p (a ∷ bs) = go (from_claims (suc p) bs) (one_against p (suc p) a bs (first_pair clash_of (suc p) bs))
  where
    R : Result (Unit {0}) Clash
    R = against clash_of p (suc p) a bs (first_pair clash_of (suc p) bs)

    found_first : Found p (suc p) a bs R → Claims p (a ∷ bs) R
    found_first f =
        let j = f.0 in
        subst (Claims p (a ∷ bs)) (sym f.2) (
          0,
          suc j,
          sym (add-zero p),
          suc-add p j ∙ sym (add-suc p j),
          record {
            order = omega arith;
            inside = omega (arith, f.1);
            met = hit a (rule_at bs j) f.3;
            least = least a (rule_at bs j) f.3;
            first = pairs a bs (Sooner 0 (suc j)) (λ k u b. f.4 k (⊎_elim (λ z. absurd (omega arith)) (λ z. le_of_suc-le-suc z.1) b))
                (λ k m u w b. absurd (⊎_elim (λ z. omega arith) (λ z. let e = z.0 in omega arith) b));
          },
        )

    go : Claims (suc p) bs (first_pair clash_of (suc p) bs) → Found p (suc p) a bs R ⊎ Missed a bs (first_pair clash_of (suc p) bs) R → Claims p (a ∷ bs) R
    go ih m = ⊎_elim found_first (λ f. subst (Claims p (a ∷ bs)) (sym f.0) (extend p a bs (first_pair clash_of (suc p) bs) ih f.1)) m

-- ---- the theorems

-- What the check answers holds: places count from 1.
pub check_claims : (rs : List Rule) → Claims 1 rs (check_of rs)
check_claims rs = from_claims 1 rs

-- The check passes exactly where no admitted number meets two rules.
pub passes_apart : (rs : List Rule) → check_of rs ≡ (Ok tt) → AllApart rs
passes_apart rs e = subst (Claims 1 rs) e (check_claims rs)

pub apart_passes : (rs : List Rule) → AllApart rs → check_of rs ≡ Ok tt
apart_passes rs h = go (check_of rs) (check_claims rs)
  where
    go : (r : Result (Unit {0}) Clash) → Claims 1 rs r → r ≡ Ok tt
    go (Ok tt) c = refl
    go (Err k) c = let L = c.4 in absurd (h c.0 c.1 L.order L.inside k.witness L.met)
