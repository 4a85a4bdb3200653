-- The next number of a level whose segments stand in arrays.
use mathlib.Core.Path.{◌≡◌, refl}
use mathlib.Core.List.{List}
use Prim.Native.Nat.{ℕ, zero, suc, ◌+◌, ◌-◌, ◌%◌, ◌≤◌, ◌<◌}
use native.Mathlib.Omega.{arith}
use native.Mathlib.Nat.{mod-le}
use lib.Dec.{leb, ltb}
use lib.ListN.{get_or}
use borrow.Author.Tests.{le-leb, lt-leb, leb-true, lt-ltb, le-ltb}
use Rattle.decimal.proofs.Choices.{choice}
use Rattle.pack_rules.specs.Stretch.{stretch}
use Rattle.pack_rules.proofs.Stretches.{stretch_cons, stretch_nil}
use Rattle.check_laws.specs.Segments.{Segment, first, up_to, wrap, climb}
use Rattle.check_next.specs.Table.{segment_at, segments_in, Small, climb_in}

module _ (starts ends : List ℕ) where
  -- ---- where the first segment starts

  pub first_at : (k to m : ℕ) → k < to → get_or starts k 0 ≡ first (segments_in starts ends k to) m
  unfolding first
  first_at k to m h = rw (stretch_cons (segment_at starts ends) k to h)

  pub first_end : (k to m : ℕ) → to ≤ k → m ≡ first (segments_in starts ends k to) m
  unfolding first
  first_end k to m h = rw (stretch_nil (segment_at starts ends) k to h)

  -- ---- the least remainder, by the first segment that ends at r or behind it

  module _ (k to m r z : ℕ) where
    pub up_end : to ≤ k → m ≡ up_to (segments_in starts ends k to) m r z
    unfolding up_to
    up_end h = rw (stretch_nil (segment_at starts ends) k to h)

    pub up_skip : k < to → get_or ends k 0 < r → up_to (segments_in starts ends (k + 1) to) m r z ≡ up_to (segments_in starts ends k to) m r z
    unfolding up_to
    up_skip h e = rw (stretch_cons (segment_at starts ends) k to h, lt-ltb (get_or ends k 0) r e)

    pub up_start : k < to → r ≤ get_or ends k 0 → r ≤ get_or starts k 0 → get_or starts k 0 ≡ up_to (segments_in starts ends k to) m r z
    unfolding up_to
    up_start h e s = rw (stretch_cons (segment_at starts ends) k to h, le-ltb (get_or ends k 0) r e, le-leb r (get_or starts k 0) s)

    pub up_below : k < to → r ≤ get_or ends k 0 → get_or starts k 0 < r → z ≤ get_or ends k 0 → z ≡ up_to (segments_in starts ends k to) m r z
    unfolding up_to
    up_below h e s b =
        rw (stretch_cons (segment_at starts ends) k to h, le-ltb (get_or ends k 0) r e, lt-leb r (get_or starts k 0) s, le-leb z (get_or ends k 0) b)

    pub up_behind : k < to → r ≤ get_or ends k 0 → get_or starts k 0 < r → get_or ends k 0 < z
        → first (segments_in starts ends (k + 1) to) m ≡ up_to (segments_in starts ends k to) m r z
    unfolding up_to
    up_behind h e s b =
        rw (stretch_cons (segment_at starts ends) k to h, le-ltb (get_or ends k 0) r e, lt-leb r (get_or starts k 0) s, lt-leb z (get_or ends k 0) b)

  -- ---- bounds

  module _ (low : Small starts) (m : ℕ) (few : m ≤ 1_000_000) where
    first_small : (k n : ℕ) → first (stretch (segment_at starts ends) k n) m ≤ 1_000_000
    unfolding stretch first
    first_small k zero = few
    first_small k (suc n) = low k

    pub start_small : (k to o : ℕ) → o ≡ first (segments_in starts ends k to) m → o ≤ 1_000_000
    start_small k to o e = rw e (first_small k (to - k))

    pub wrap_small : (k to o r : ℕ) → o ≤ 1_000_000 → r ≡ wrap (segments_in starts ends k to) m o → r ≤ 2_000_000
    unfolding wrap
    wrap_small k to o r h e =
        rw e (choice (λ y. y ≤ 2_000_000) (ltb o m) (λ _. omega arith) (λ _. omega (arith, first_small k (to - k))))

    module _ (high : Small ends) where
      up_small : (k n r z : ℕ) → up_to (stretch (segment_at starts ends) k n) m r z ≤ 1_000_000
      unfolding stretch up_to
      up_small k zero r z = few
      up_small k (suc n) r z =
          choice (λ o. o ≤ 1_000_000) (ltb (get_or ends k 0) r) (λ _. up_small (suc k) n r z)
          (λ _. choice (λ o. o ≤ 1_000_000) (leb r (get_or starts k 0)) (λ _. low k)
          (λ _. choice (λ o. o ≤ 1_000_000) (leb z (get_or ends k 0)) (λ e. omega (arith, leb-true z (get_or ends k 0) e, high k)) (λ _. first_small (suc k) n)))

      pub up_to_small : (k to r z o : ℕ) → o ≡ up_to (segments_in starts ends k to) m r z → o ≤ 1_000_000
      up_to_small k to r z o e = rw e (up_small k (to - k) r z)

      -- the next number of a level lies no further off
      climb_small : (k to x y : ℕ) → climb (segments_in starts ends k to) m x y ≤ x + 2_000_000
      unfolding climb
      climb_small k to x y =
          let r = x % m in
          let o = up_to (segments_in starts ends k to) m r (y - (x - r)) in
          let w = wrap_small k to o (wrap (segments_in starts ends k to) m o) (up_small k (to - k) r (y - (x - r))) refl in
          omega (arith, mod-le x m)

      pub climb_in_small : (k to x y r : ℕ) → y ≤ x + 2_000_000 → r ≡ climb_in starts ends k to m x y → r ≤ x + 2_000_000
      climb_in_small k to x y r h e =
          rw e (choice (λ o. o ≤ x + 2_000_000) (leb to k) (λ _. h) (λ _. climb_small k to x y))

-- ---- the remainder that is found, in its block or in the next

pub wrap_in : (l : List Segment) (m o : ℕ) → o < m → o ≡ wrap l m o
unfolding wrap
wrap_in l m o h = rw (lt-ltb o m h)

pub wrap_out : (l : List Segment) (m o f : ℕ) → m ≤ o → f ≡ first l m → m + f ≡ wrap l m o
unfolding wrap
wrap_out l m o f h e = rw (le-ltb o m h, e)

module _ (starts ends : List ℕ) (from to m x y : ℕ) where
  pub climb_free : to ≤ from → y ≡ climb_in starts ends from to m x y
  climb_free h = rw (le-leb to from h)

  pub climb_made : from < to → (z o w : ℕ) → z ≡ y - (x - x % m) → o ≡ up_to (segments_in starts ends from to) m (x % m) z
      → w ≡ wrap (segments_in starts ends from to) m o → x - x % m + w ≡ climb_in starts ends from to m x y
  unfolding climb
  climb_made h z o w a b e = rw (lt-leb to from h, ← a, ← b, ← e)
