-- Laws of lists of segments, and the next number of a level.
use mathlib.Core.Path.{◌≡◌, refl, sym, ap, subst, ◌∙◌}
use mathlib.Core.Bool.{Bool, true, false}
use mathlib.Core.List.{List, [], ◌∷◌}
use mathlib.Core.Logic.{⊎_elim}
use Prim.Native.Nat.{ℕ, suc, ◌+◌, ◌-◌, ◌*◌, ◌/◌, ◌%◌, ◌≤◌, ◌<◌}
use native.Mathlib.Omega.{arith}
use native.Mathlib.Nat.{mod-lt, mod-le, div-add-mod', add-mul-mod_self_right}
use lib.Arith.{digits_mod}
use lib.Dec.{leb, ltb}
use borrow.Author.Tests.{le-leb, lt-leb, leb-true, leb-false, ltb-true, ltb-false}
use Rattle.decimal.specs.Choice.{both}
use Rattle.decimal.proofs.Choices.{choice}
use Rattle.check_laws.specs.Seek.{Least, Next}
use Rattle.check_laws.specs.Segments.{Segment, within, inside, Rising, Starts, first, up_to, wrap, climb, Level}
use Rattle.check_laws.proofs.Seeking.{split, and_false_right, least_none, least_after}

-- a test that says the same
pub next_same : {P Q : ℕ → Bool} {x y : ℕ} → ((k : ℕ) → P k ≡ Q k) → Next P x y → Next Q x y
next_same e n = record { low = n.low; none = λ k a b. sym (e k) ∙ n.none k a b; hit = sym (e _) ∙ n.hit }

pub least_same : {P Q : ℕ → Bool} {lo hi y : ℕ} → ((k : ℕ) → lo ≤ k → P k ≡ Q k) → Least P lo hi y → Least Q lo hi y
least_same e n =
    record { low = n.low; high = n.high; none = λ k a b. sym (e k a) ∙ n.none k a b; hit = λ h. sym (e _ n.low) ∙ n.hit h }

-- x lies in one of the segments, and passes P
abbrev pub meets : List Segment → (ℕ → Bool) → ℕ → Bool
meets l P x = both (inside l x) (P x)

-- one segment
pub before : (s : Segment) (x : ℕ) → x < s.from → within s x ≡ false
before s x h = rw (lt-leb s.from x h)

pub behind : (s : Segment) (x : ℕ) → s.to < x → within s x ≡ false
behind s x h = and_false_right (leb s.from x) (lt-leb x s.to h)

pub between : (s : Segment) (x : ℕ) → s.from ≤ x → x ≤ s.to → within s x ≡ true
between s x h k = rw (le-leb s.from x h, le-leb x s.to k)

-- a segment and the rest
pub in_head : (s : Segment) (l : List Segment) (x : ℕ) → within s x ≡ true → inside (s ∷ l) x ≡ true
unfolding inside
in_head s l x e = rw e

pub in_tail : (s : Segment) (l : List Segment) (x : ℕ) → within s x ≡ false → inside (s ∷ l) x ≡ inside l x
unfolding inside
in_tail s l x e = rw e

-- rising lists
pub rising_end : (k m : ℕ) (l : List Segment) → Rising k m l → k ≤ m
unfolding Rising
rising_end k m [] h = h
rising_end k m (s ∷ l) h = omega (arith, h.0, h.1, rising_end (suc s.to) m l h.2)

pub rising_from : (j k m : ℕ) (l : List Segment) → j ≤ k → Rising k m l → Rising j m l
unfolding Rising
rising_from j k m [] a h = omega arith
rising_from j k m (s ∷ l) a h = (omega (arith, h.0), h.1, h.2)

pub rising_up : (k m n : ℕ) (l : List Segment) → m ≤ n → Rising k m l → Rising k n l
unfolding Rising
rising_up k m n [] a h = omega arith
rising_up k m n (s ∷ l) a h = (h.0, h.1, rising_up (suc s.to) m n l a h.2)

pub rising_below : (k m x : ℕ) (l : List Segment) → Rising k m l → x < k → inside l x ≡ false
unfolding Rising inside
rising_below k m x [] h a = refl
rising_below k m x (s ∷ l) h a =
    rw (before s x (omega (arith, h.0))) (rising_below (suc s.to) m x l h.2 (omega (arith, h.0, h.1)))

module _ (Q : ℕ → Bool) where
  outside : (l : List Segment) (x : ℕ) → inside l x ≡ false → both (inside l x) (Q x) ≡ false
  outside l x e = rw e

  skip : (s : Segment) (l : List Segment) (x : ℕ) → within s x ≡ false → both (inside (s ∷ l) x) (Q x) ≡ both (inside l x) (Q x)
  skip s l x e = rw (in_tail s l x e)

  met : (s : Segment) (l : List Segment) (x : ℕ) → s.from ≤ x → x ≤ s.to → Q x ≡ true → both (inside (s ∷ l) x) (Q x) ≡ true
  met s l x h k e = rw (in_head s l x (between s x h k), e)

  -- where segments start with a number that passes Q, the first start is the least
  pub first_least : (k m : ℕ) (l : List Segment) → Rising k m l → Starts Q l → Least (meets l Q) k m (first l m)
  unfolding Rising Starts first
  first_least k m [] h q = least_none (meets [] Q) k m h (λ x a b. outside [] x (rising_below (suc x) (suc x) x [] (omega arith) (omega arith)))
  first_least k m (s ∷ l) h q =
      record {
        low = h.0;
        high = omega (arith, h.1, rising_end (suc s.to) m l h.2);
        none = λ x a b.
            outside (s ∷ l) x (rising_below s.from m x (s ∷ l) (omega arith, h.1, h.2) b);
        hit = λ _. met s l s.from (omega arith) h.1 q.0;
      }

  -- and from r on `up_to` finds the least
  pub up_to_least : (k m r z : ℕ) (l : List Segment) → Rising k m l → Starts Q l → r ≤ m → Next Q r z → Least (meets l Q) r m (up_to l m r z)
  unfolding Rising Starts first up_to
  up_to_least k m r z [] h q u n = least_none (meets [] Q) r m u (λ x a b. outside [] x (rising_below (suc x) (suc x) x [] (omega arith) (omega arith)))
  up_to_least k m r z (s ∷ l) h q u n =
      let end = rising_end (suc s.to) m l h.2 in
      choice Good (ltb s.to r)
      (λ e. least_same (λ x a. sym (skip s l x (behind s x (omega (arith, ltb-true s.to r e))))) (up_to_least (suc s.to) m r z l h.2 q.1 u n))
      (λ e. choice Good (leb r s.from)
      (λ f. first_least r m (s ∷ l) (leb-true r s.from f, h.1, h.2) q)
      (λ f. choice Good (leb z s.to)
      (λ g. record {
        low = n.low;
        high = omega (arith, leb-true z s.to g);
        none = λ x a b. and_false_right (inside (s ∷ l) x) (n.none x a b);
        hit = λ _. met s l z (omega (arith, leb-false r s.from f, n.low)) (leb-true z s.to g) n.hit;
      })
      (λ g. least_after {mid = suc s.to} (omega (arith, ltb-false s.to r e))
      (λ x a b. and_false_right (inside (s ∷ l) x) (n.none x a (omega (arith, leb-false z s.to g))))
      (least_same (λ x a. sym (skip s l x (behind s x a))) (first_least (suc s.to) m l h.2 q.1)))))
    where
      Good : ℕ → Type 0
      Good y = Least (meets (s ∷ l) Q) r m y

-- the round of m numbers that x lies in: its numbers' remainders, and those of the round after it
pub round_mod : (m x o : ℕ) → o < m → (x - x % m + o) % m ≡ o
round_mod m x o h =
    let e : x - x % m ≡ x / m * m = omega (arith, div-add-mod' x m) in
    rw e (digits_mod (x / m) h)

pub after_mod : (m x o : ℕ) → o < m → (x - x % m + (m + o)) % m ≡ o
after_mod m x o h =
    let e : x - x % m + (m + o) ≡ suc (x / m) * m + o = omega (arith, div-add-mod' x m) in
    rw e (digits_mod (suc (x / m)) h)

-- One level with modulus m over lower levels Q, which repeat with period m.
module _ (Q : ℕ → Bool) (m : ℕ) (pos : 0 < m) (repeats : (x : ℕ) → Q (x % m) ≡ Q x) (l : List Segment) where
  -- the test of a number, from that of its remainder
  test : ℕ → Bool
  test x = both (inside l (x % m)) (Q x)

  of_rem : (x o : ℕ) → x % m ≡ o → test x ≡ meets l Q o
  unfolding test
  of_rem x o e = rw (← repeats x, e)

  here : (x k : ℕ) → x - x % m ≤ k → k < x - x % m + m → test k ≡ meets l Q (k - (x - x % m))
  here x k a b =
      of_rem k (k - (x - x % m))
      (ap (λ (j : ℕ). j % m) (let e : k ≡ x - x % m + (k - (x - x % m)) = omega arith in e) ∙ round_mod m x (k - (x - x % m)) (omega arith))

  there : (x k : ℕ) → x - x % m + m ≤ k → k < x - x % m + m + m → test k ≡ meets l Q (k - (x - x % m + m))
  there x k a b =
      of_rem k (k - (x - x % m + m))
      (ap (λ (j : ℕ). j % m) (let e : k ≡ x - x % m + (m + (k - (x - x % m + m))) = omega arith in e) ∙ after_mod m x (k - (x - x % m + m)) (omega arith))

  wrap_next : (x o : ℕ) → Rising 0 m l → Starts Q l → first l m < m → Least (meets l Q) (x % m) m o → Next test x (x - x % m + wrap l m o)
  unfolding wrap
  wrap_next x o h q f a =
      let low = mod-le x m in
      choice (λ y. Next test x (x - x % m + y)) (ltb o m)
      (λ e. let below = ltb-true o m e in record {
        low = omega (arith, a.low);
        none = λ k u v. here x k (omega arith) (omega arith) ∙ a.none (k - (x - x % m)) (omega arith) (omega arith);
        hit = of_rem (x - x % m + o) o (round_mod m x o below) ∙ a.hit below;
      })
      (λ e. let least = first_least Q 0 m l h q in
      let end = ltb-false o m e in record {
        low = omega (arith, mod-lt x pos);
        none = λ k u v. ⊎_elim
            (λ w. here x k (omega arith) w ∙ a.none (k - (x - x % m)) (omega arith) (omega arith))
            (λ w. there x k w (omega arith) ∙ least.none (k - (x - x % m + m)) (omega arith) (omega arith))
            (split k (x - x % m + m));
        hit = of_rem (x - x % m + (m + first l m)) (first l m) (after_mod m x (first l m) f) ∙ least.hit f;
      })

  -- the next number of what is below, seen from the remainder
  lowered : (x y : ℕ) → Next Q x y → Next Q (x % m) (y - (x - x % m))
  lowered x y n =
      let low = mod-le x m in
      let ahead = n.low in
      record {
        low = omega arith;
        none = λ k a b. sym (moved x k) ∙ n.none (k + (x - x % m)) (omega arith) (omega arith);
        hit = sym (moved x (y - (x - x % m))) ∙ subst (λ (z : ℕ). Q z ≡ true) (let g : y ≡ y - (x - x % m) + (x - x % m) = omega arith in g) n.hit;
      }
    where
      -- whole blocks change nothing
      moved : (x k : ℕ) → Q (k + (x - x % m)) ≡ Q k
      moved x k =
          let e : x - x % m ≡ x / m * m = omega (arith, div-add-mod' x m) in
          sym (repeats (k + (x - x % m))) ∙ ap Q (ap (λ (z : ℕ). (k + z) % m) e ∙ add-mul-mod_self_right k (x / m) m) ∙ repeats k

  climb_next : (x y : ℕ) → Rising 0 m l → Starts Q l → first l m < m → Next Q x y → Next test x (climb l m x y)
  unfolding climb
  climb_next x y h q f n =
      wrap_next x (up_to l m (x % m) (y - (x - x % m))) h q f
      (up_to_least Q 0 m (x % m) (y - (x - x % m)) l h q (omega (arith, mod-lt x pos)) (lowered x y n))

-- ---- the law of a level

pub level_next : {P Q : ℕ → Bool} (m : ℕ) (l : List Segment) (x y : ℕ) → 0 < m → Level P Q m l → Next Q x y → Next P x (climb l m x y)
unfolding test
level_next {P} {Q} m l x y pos v n =
    next_same same (climb_next Q m pos v.sooner l x y v.rising v.starts v.full n)
  where
    same : (k : ℕ) → both (inside l (k % m)) (Q k) ≡ P k
    same k =
        ap (both (inside l (k % m))) (sym (v.sooner k)) ∙ sym (v.agree (k % m) (mod-lt k pos)) ∙ v.repeats k
