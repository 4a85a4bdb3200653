-- The next number that passes the levels of a table, level by level.
use mathlib.Core.Path.{◌≡◌, refl, sym, ap, subst, ◌∙◌}
use mathlib.Core.Bool.{Bool}
use mathlib.Core.List.{List}
use mathlib.Core.Logic.{⊎_elim}
use Prim.Native.Nat.{ℕ, zero, suc, ◌+◌, ◌*◌, ◌^◌, ◌≤◌, ◌<◌}
use native.Mathlib.Omega.{arith}
use native.Mathlib.Nat.{pow-suc}
use native.Mathlib.Numerals.{add-one}
use lib.ListN.{get_or}
use borrow.Author.Tests.{le-leb, lt-leb}
use Rattle.decimal.proofs.Values.{power_pos, power_mono}
use Rattle.check_laws.specs.Seek.{Next}
use Rattle.check_laws.proofs.Seeking.{split}
use Rattle.check_laws.proofs.Segmented.{level_next, next_same}
use Rattle.check_next.specs.Table.{room, Laid, Stands, Tabled, level_at, climb_in}
use Rattle.check_next.proofs.Climbing.{climb_in_small}

-- a level's place is not past that of a later one
pub places_rise : (at : List ℕ) (i J : ℕ) → ((j : ℕ) → j < J → get_or at j 0 ≤ get_or at (suc j) 0) → i ≤ J → get_or at i 0 ≤ get_or at J 0
places_rise at i zero r h = rw (let e : i ≡ 0 = omega arith in e) (omega arith)
places_rise at i (suc k) r h =
    ⊎_elim (λ (l : k < i). rw (let e : i ≡ suc k = omega arith in e) (omega arith))
    (λ (l : i ≤ k). omega (arith, places_rise at i k (λ j b. r j (omega arith)) l, r k (omega arith)))
    (split k i)

module _ (starts ends at : List ℕ) where
  -- one level more
  pub stands_next : (S : ℕ → ℕ → Bool) (i x y r : ℕ) → Stands S starts ends at i → Next (S i) x y
      → r ≡ climb_in starts ends (get_or at i 0) (get_or at (suc i) 0) (10 ^ i) x y → Next (S (suc i)) x r
  stands_next S i x y r st n e =
      subst (λ (z : ℕ). Next (S (suc i)) x z) (sym e)
      (⊎_elim
      (λ f. rw (le-leb (get_or at (suc i) 0) (get_or at i 0) f.0) (next_same (λ k. sym (f.1 k)) n))
      (λ f. rw (lt-leb (get_or at (suc i) 0) (get_or at i 0) f.0) (level_next (10 ^ i) (level_at starts ends at i) x y (power_pos i) f.1 n))
      st)

  laid_rise : {J : ℕ} → Laid starts ends at J → (i : ℕ) → i ≤ J → get_or at i 0 ≤ get_or at J 0
  laid_rise {J} laid i h = places_rise at i J laid.rise h

  -- y is the next number of the levels below i, and m their modulus
  pub record Nexting (j x y m i : ℕ) : Type 0 where
    pub up : i ≤ j
    pub power : m ≡ 10 ^ i
    pub near : y ≤ x + 2_000_000
    pub next : (S : ℕ → ℕ → Bool) → Tabled S starts ends at j → Next (S i) x y

  pub nexting_start : (j x : ℕ) → Nexting j x x 1 0
  nexting_start j x =
      record {
        up = omega arith;
        power = refl;
        near = omega arith;
        next = λ S t. record { low = omega arith; none = λ k a b. absurd (omega arith); hit = t.free x };
      }

  module _ {j x y m i : ℕ} (laid : Laid starts ends at j) (n : Nexting j x y m i) (less : i < j) where
    pub nexting_power : (0 < m) × (m ≤ 1_000_000)
    nexting_power =
        let e = n.power in
        let h : 10 ^ i ≤ 10 ^ 6 = power_mono {j = 6} (omega (arith, laid.few)) in
        (rw e (power_pos i), rw e h)

    pub nexting_room : (i + 1 < 8) × (get_or at (i + 1) 0 ≤ room)
    nexting_room = (omega (arith, laid.few), rw add-one (omega (arith, laid_rise laid (suc i) less, laid.within)))

    pub nexting_more : (r : ℕ) → r ≡ climb_in starts ends (get_or at i 0) (get_or at (i + 1) 0) m x y → Nexting j x r (m * 10) (i + 1)
    nexting_more r e =
        rw add-one record {
          up = less;
          power = ap (λ (k : ℕ). k * 10) n.power ∙ sym (pow-suc 10 i);
          near = climb_in_small starts ends laid.low m nexting_power.1 laid.high (get_or at i 0) (get_or at (i + 1) 0) x y r n.near e;
          next = λ S t. stands_next S i x y r (t.stands i less) (n.next S t) (rw (add-one i, n.power) at e);
        }

  pub nexting_done : {j x y m i : ℕ} → Nexting j x y m i → j ≤ i → (y ≤ x + 2_000_000) × ((S : ℕ → ℕ → Bool) → Tabled S starts ends at j → Next (S j) x y)
  nexting_done {j} {x} {y} {m} {i} n h =
      let e : i ≡ j = omega (arith, n.up) in
      (n.near, λ S t. subst (λ (k : ℕ). Next (S k) x y) e (n.next S t))
