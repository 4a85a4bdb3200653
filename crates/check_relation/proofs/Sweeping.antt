-- One pass over ranges: where the first that holds a value ends, or where the next one begins.
use mathlib.Core.Path.{◌≡◌, refl, sym, ap, subst, ◌∙◌}
use mathlib.Core.Bool.{Bool, true, false}
use mathlib.Core.List.{List, [], ◌∷◌, ◌++◌}
use Prim.Native.Nat.{ℕ, zero, suc, ◌+◌, ◌-◌, ◌≤◌, ◌<◌, min}
use native.Mathlib.Omega.{arith}
use native.Mathlib.Decide.{ℕ_discrete}
use lib.Dec.{leb, ltb}
use lib.ListN.{get_or}
use borrow.Author.Tests.{lt-ltb, le-ltb, ltb-true, ltb-false, leb-true, leb-false, le-leb, lt-leb}
use Rattle.decimal.specs.Choice.{both, either}
use Rattle.decimal.proofs.Choices.{tested, both_true}
use Rattle.decimal.specs.Lists.{all, any}
use Rattle.pack_rules.specs.Syntax.{Range}
use Rattle.pack_rules.specs.Stretch.{stretch, range_at, ranges_in}
use Rattle.pack_rules.proofs.Stretches.{stretch_snoc}
use Rattle.meaning.specs.Meaning.{in_range}
use Rattle.check_laws.specs.Seek.{Alike}
use Rattle.check_laws.proofs.Seeking.{and_true, and_false_left, and_false_right, or_false, or_true_left, or_true_right}
use Rattle.check_laws.specs.Read.{cap}
use Rattle.check_relation.specs.Runs.{far, next_with}
use Rattle.check_relation.proofs.Alikes.{alike_same}

-- a value before a range, behind it, in it
before_range : (r : Range) (z : ℕ) → z < r.low → in_range z r ≡ false
before_range r z h = and_false_left (leb z r.high) (lt-leb r.low z h)

behind_range : (r : Range) (z : ℕ) → r.high < z → in_range z r ≡ false
behind_range r z h = and_false_right (leb r.low z) (lt-leb z r.high h)

in_range_law : (r : Range) (z : ℕ) → r.low ≤ z → z ≤ r.high → in_range z r ≡ true
in_range_law r z h k = and_true (le-leb r.low z h) (le-leb z r.high k)

-- one element more at the end
pub any_snoc : {A : Type 0} (p : A → Bool) (xs : List A) (x : A) → any p (xs ++ (x ∷ [])) ≡ either (any p xs) (p x)
any_snoc p [] x = alone (p x)
  where
    alone : (b : Bool) → either b false ≡ b
    alone true = refl
    alone false = refl
any_snoc p (y ∷ xs) x = ap (either (p y)) (any_snoc p xs x) ∙ assoc (p y) (any p xs) (p x)
  where
    assoc : (a b c : Bool) → either a (either b c) ≡ either (either a b) c
    assoc true b c = refl
    assoc false b c = refl

pub all_snoc : {A : Type 0} (p : A → Bool) (xs : List A) (x : A) → all p (xs ++ (x ∷ [])) ≡ both (all p xs) (p x)
all_snoc p [] x = alone (p x)
  where
    alone : (b : Bool) → both b true ≡ b
    alone true = refl
    alone false = refl
all_snoc p (y ∷ xs) x = ap (both (p y)) (all_snoc p xs x) ∙ assoc (p y) (all p xs) (p x)
  where
    assoc : (a b c : Bool) → both a (both b c) ≡ both (both a b) c
    assoc true b c = refl
    assoc false b c = refl

-- ---- the code's ways

module _ (a b y : ℕ) where
  pub in_before : y < a → false ≡ in_range y (record { low = a; high = b })
  in_before h = sym (before_range (record { low = a; high = b }) y h)

  pub in_behind : a ≤ y → leb y b ≡ in_range y (record { low = a; high = b })
  in_behind h = sym (ap (λ (x : Bool). both x (leb y b)) (le-leb a y h))

module _ (next a y : ℕ) where
  pub next_after : y < a → min next a ≡ next_with next a y
  unfolding next_with
  next_after h = rw (lt-ltb y a h)

  pub next_not : a ≤ y → next ≡ next_with next a y
  unfolding next_with
  next_not h = rw (le-ltb y a h)

-- ---- the loop over a stretch of ranges

-- one of a stretch passes
any_at : {A : Type 0} (p : A → Bool) (g : ℕ → A) (from n k : ℕ) → from ≤ k → k < from + n → p (g k) ≡ true → any p (stretch g from n) ≡ true
unfolding stretch
any_at p g from zero k l h e = absurd (omega arith)
any_at p g from (suc n) k l h e =
    elim (ℕ_discrete k from) [
      | yes z ↦ or_true_left (any p (stretch g (suc from) n)) (subst (λ (x : ℕ). p (g x) ≡ true) z e)
      | no z ↦ or_true_right (p (g from)) (any_at p g (suc from) n k (omega arith) (omega arith) e)
    ]

module _ (low high : List ℕ) (from to y : ℕ) where
  -- the test by the ranges before the place k
  abbrev pub Before : ℕ → ℕ → Bool
  Before k z = any (in_range z) (stretch (range_at low high) from (k - from))

  -- none of them holds a number from y on that is before `next`
  pub record Sweep (next k : ℕ) : Type 0 where
    pub order : from ≤ k
    pub within : k - from ≤ to - from
    pub ahead : y < next
    pub near : next ≤ far
    pub none : (z : ℕ) → y ≤ z → z < next → Before k z ≡ false

  pub sweep_start : y ≤ cap → Sweep far from
  unfolding stretch
  sweep_start h =
      record {
        order = omega arith;
        within = omega arith;
        ahead = omega arith;
        near = omega arith;
        none = λ z l k. let e : from - from ≡ 0 = omega arith in rw e;
      }

  pub sweep_more : (next k n : ℕ) (b : Bool) → k < to → Sweep next k → b ≡ in_range y (range_at low high k) → b ≡ false → n ≡ next_with next (get_or low k 0) y → Sweep n (k + 1)
  unfolding next_with
  sweep_more next k n b h s i f g =
      let order = s.order in
      let e : k + 1 - from ≡ k - from + 1 = omega arith in
      let d : from + (k - from) ≡ k = omega arith in
      let low-at = get_or low k 0 in
      let high-at = get_or high k 0 in
      tested (ltb y low-at)
      (λ t.
      let m : n ≡ min next low-at = g ∙ rw t in
      let u = ltb-true y low-at t in
      record {
        order = omega arith;
        within = omega arith;
        ahead = omega (arith, s.ahead);
        near = omega (arith, s.near);
        none = λ z l w. rw (e, stretch_snoc (range_at low high) from (k - from), d) (any_snoc (in_range z) (stretch (range_at low high) from (k - from)) (range_at low high k) ∙ or_false (s.none z l (omega arith)) (before_range (range_at low high k) z (omega arith)));
      })
      (λ t.
      let m : n ≡ next = g ∙ rw t in
      let u = ltb-false y low-at t in
      let v = leb-false y high-at (in_behind low-at high-at y u ∙ sym i ∙ f) in
      record {
        order = omega arith;
        within = omega arith;
        ahead = omega (arith, s.ahead);
        near = omega (arith, s.near);
        none = λ z l w. rw (e, stretch_snoc (range_at low high) from (k - from), d) (any_snoc (in_range z) (stretch (range_at low high) from (k - from)) (range_at low high k) ∙ or_false (s.none z l (omega arith)) (behind_range (range_at low high k) z (omega arith)));
      })

  -- the run, and that it is not beyond `far`
  abbrev pub All : ℕ → Bool
  All z = any (in_range z) (ranges_in low high from to)

  pub sweep_in : (next k stop : ℕ) (b : Bool) → k < to → Sweep next k → b ≡ in_range y (range_at low high k) → b ≡ true → stop ≡ get_or high k 0 + 1 → Alike All y true stop
  sweep_in next k stop b h s i t g =
      let order = s.order in
      let c = both_true (leb (get_or low k 0) y) (leb y (get_or high k 0)) (sym i ∙ t) in
      let lo = leb-true (get_or low k 0) y c.0 in
      let hi = leb-true y (get_or high k 0) c.1 in
      record {
        some = omega arith;
        same = λ z l w. any_at (in_range z) (range_at low high) from (to - from) k order (omega arith) (in_range_law (range_at low high k) z (omega arith) (omega arith));
      }

  pub sweep_out : (next k : ℕ) → to ≤ k → Sweep next k → Alike All y false next
  sweep_out next k h s =
      let order = s.order in
      let within = s.within in
      let e : k - from ≡ to - from = omega arith in
      alike_same (λ z. ap (λ (n : ℕ). any (in_range z) (stretch (range_at low high) from n)) e) (record { some = s.ahead; same = λ z l w. s.none z l w })
