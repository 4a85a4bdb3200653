-- What the code of one relation works out, way by way: its level, and the run of what it asks there.
use mathlib.Core.Path.{◌≡◌, refl, sym, ap, subst, ◌∙◌}
use mathlib.Core.Bool.{Bool, true, false, not, true≢false}
use mathlib.Core.List.{List}
use mathlib.Core.Logic.{⊎_elim}
use Prim.Native.Nat.{ℕ, ◌+◌, ◌-◌, ◌*◌, ◌/◌, ◌%◌, ◌≤◌, ◌<◌}
use native.Mathlib.Omega.{arith}
use native.Mathlib.Nat.{mod-lt, mod-zero, div-add-mod', mul-le-mul_right}
use lib.Dec.{eqb}
use borrow.Author.Tests.{eq-eqb, ne_eqb, le-leb, lt-leb, eqb-true}
use Rattle.std.specs.Prelude.{if◌then◌else◌}
use Rattle.decimal.specs.Choice.{both}
use Rattle.decimal.proofs.Choices.{tested, choice, both_true}
use Rattle.decimal.specs.Lists.{any}
use Rattle.pack_rules.specs.Syntax.{Range, Relation}
use Rattle.meaning.specs.Meaning.{in_range}
use Rattle.check_laws.specs.Seek.{Alike}
use Rattle.check_laws.proofs.Seeking.{split}
use Rattle.check_laws.specs.Fast.{listed, test, factor, asked, passes}
use Rattle.check_laws.specs.Levels.{level_of, level_in, own_one}
use Rattle.check_laws.specs.Ready.{Fit}
use Rattle.check_laws.specs.declared.Query.{Query}
use Rattle.check_relation.specs.Runs.{tier, far, upwards}
use Rattle.check_relation.proofs.Alikes.{alike_at, alike_same, alike_not}

-- ---- a relation's list

pub listed_run : (r : Relation) {y stop : ℕ} {b : Bool} (t : Bool) (rs : List Range) → rs ≡ r.ranges → Alike (λ z. any (in_range z) rs) y b stop
    → t ≡ (if r.negated then not b else b) → Alike (listed r) y t stop
unfolding listed
listed_run r {y} {stop} {b} t rs e a f = rw f (by r.negated)
  where
    by : (n : Bool) → Alike (λ z. if n then not (any (in_range z) r.ranges) else any (in_range z) r.ranges) y (if n then not b else b) stop
    by true = alike_same (λ z. rw e) (alike_not a)
    by false = alike_same (λ z. rw e) a

pub no_modulus : (m x : ℕ) → m ≡ 0 → x ≡ x % m
no_modulus m x e = rw e (sym (mod-zero x))

pub listed_test : (r : Relation) (x y stop : ℕ) (b : Bool) → y ≡ x % r.modulus → Alike (listed r) y b stop → b ≡ test r x
unfolding test
listed_test r x y stop b e a = alike_at a ∙ ap (listed r) e

-- ---- factors

pub factor_fits : (q : Query) (o s : ℕ) → Fit q → s ≡ factor q o → s ≤ 1_000_000_000
unfolding factor
factor_fits q o s f e =
    subst (λ (u : ℕ). u ≤ 1_000_000_000) (sym e)
    (pick (eqb o 110) (eqb o 105) (eqb o 102) (eqb o 116))
  where
    pick : (a b c d : Bool) → (if a then q.n else if b then q.i else if c then q.f else if d then q.t else 0) ≤ 1_000_000_000
    pick true b c d = omega (arith, f.n)
    pick false true c d = omega (arith, f.i)
    pick false false true d = f.f
    pick false false false true = omega (arith, f.t)
    pick false false false false = omega arith

module _ (q : Query) (r : Relation) (s : ℕ) (e : s ≡ factor q r.operand) where
  pub is_asked : (s ≡ 0 → ⊥) → asked q r ≡ true
  is_asked n = ap not (ap (λ (k : ℕ). eqb k 0) (sym e) ∙ ne_eqb s 0 n)

  pub not_asked : s ≡ 0 → asked q r ≡ false
  not_asked z = ap not (ap (λ (k : ℕ). eqb k 0) (sym e) ∙ eq-eqb s 0 z)

  pub passes_unasked : (x : ℕ) → s ≡ 0 → true ≡ passes q r x
  unfolding passes
  passes_unasked x z = rw (not_asked z)

  pub passes_asked : (x : ℕ) (b : Bool) → (s ≡ 0 → ⊥) → b ≡ test r (x * s) → b ≡ passes q r x
  unfolding passes
  passes_asked x b n f = rw (is_asked n) (f ∙ ap (λ (k : ℕ). test r (x * k)) e)

-- ---- levels

module _ (s w : ℕ) where
  pub level_window : w ≡ 0 → 7 ≡ level_of s w
  unfolding level_of
  level_window a = rw (eq-eqb w 0 a)

  module _ (n : w ≡ 0 → ⊥) where
    pub level_within : w ≤ s → s % w ≡ 0 → 0 ≡ level_of s w
    unfolding level_of
    level_within h a = rw (ne_eqb w 0 n, le-leb w s h, eq-eqb (s % w) 0 a)

    pub level_apart : w ≤ s → (s % w ≡ 0 → ⊥) → 8 ≡ level_of s w
    unfolding level_of
    level_apart h a = rw (ne_eqb w 0 n, le-leb w s h, ne_eqb (s % w) 0 a)

    module _ (h : s < w) where
      pub level_1 : w ≡ 10 * s → 1 ≡ level_of s w
      unfolding level_of
      level_1 e = rw (ne_eqb w 0 n, lt-leb w s h, eq-eqb w (10 * s) e)

      module _ (a : w ≡ 10 * s → ⊥) where
        pub level_2 : w ≡ 100 * s → 2 ≡ level_of s w
        unfolding level_of
        level_2 e = rw (ne_eqb w 0 n, lt-leb w s h, ne_eqb w (10 * s) a, eq-eqb w (100 * s) e)

        module _ (b : w ≡ 100 * s → ⊥) where
          pub level_3 : w ≡ 1_000 * s → 3 ≡ level_of s w
          unfolding level_of
          level_3 e = rw (ne_eqb w 0 n, lt-leb w s h, ne_eqb w (10 * s) a, ne_eqb w (100 * s) b, eq-eqb w (1_000 * s) e)

          module _ (c : w ≡ 1_000 * s → ⊥) where
            pub level_4 : w ≡ 10_000 * s → 4 ≡ level_of s w
            unfolding level_of
            level_4 e = rw (ne_eqb w 0 n, lt-leb w s h, ne_eqb w (10 * s) a, ne_eqb w (100 * s) b, ne_eqb w (1_000 * s) c, eq-eqb w (10_000 * s) e)

            module _ (d : w ≡ 10_000 * s → ⊥) where
              pub level_5 : w ≡ 100_000 * s → 5 ≡ level_of s w
              unfolding level_of
              level_5 e =
                  rw (ne_eqb w 0 n, lt-leb w s h, ne_eqb w (10 * s) a, ne_eqb w (100 * s) b, ne_eqb w (1_000 * s) c, ne_eqb w (10_000 * s) d, eq-eqb w (100_000 * s) e)

              module _ (f : w ≡ 100_000 * s → ⊥) where
                pub level_6 : w ≡ 1_000_000 * s → 6 ≡ level_of s w
                unfolding level_of
                level_6 e =
                    rw (ne_eqb w 0 n, lt-leb w s h, ne_eqb w (10 * s) a, ne_eqb w (100 * s) b, ne_eqb w (1_000 * s) c, ne_eqb w (10_000 * s) d, ne_eqb w (100_000 * s) f, eq-eqb w (1_000_000 * s) e)

                pub level_stray : (w ≡ 1_000_000 * s → ⊥) → 8 ≡ level_of s w
                unfolding level_of
                level_stray e =
                    rw (ne_eqb w 0 n, lt-leb w s h, ne_eqb w (10 * s) a, ne_eqb w (100 * s) b, ne_eqb w (1_000 * s) c, ne_eqb w (10_000 * s) d, ne_eqb w (100_000 * s) f, ne_eqb w (1_000_000 * s) e)

-- ---- what a relation asks at a level

module _ (q : Query) (r : Relation) (s : ℕ) (e : s ≡ factor q r.operand) where
  pub own_unasked : (j x : ℕ) → s ≡ 0 → own_one q j r x ≡ true
  unfolding own_one
  own_unasked j x z = rw (not_asked q r s e z)

  level_told : (l : ℕ) → l ≡ level_of s r.modulus → level_in q r ≡ l
  level_told l f = ap (λ (k : ℕ). level_of k r.modulus) (sym e) ∙ sym f

  pub own_other : (l j x : ℕ) → (s ≡ 0 → ⊥) → l ≡ level_of s r.modulus → (l ≡ j → ⊥) → own_one q j r x ≡ true
  unfolding own_one
  own_other l j x n f d = rw (is_asked q r s e n, ap (λ (k : ℕ). eqb k j) (level_told l f) ∙ ne_eqb l j d)

  own_there : (l j x : ℕ) → (s ≡ 0 → ⊥) → l ≡ level_of s r.modulus → l ≡ j → own_one q j r x ≡ listed r (x * s)
  unfolding own_one
  own_there l j x n f d =
      rw (is_asked q r s e n, ap (λ (k : ℕ). eqb k j) (level_told l f) ∙ eq-eqb l j d) (ap (λ (k : ℕ). listed r (x * k)) (sym e))

  pub tier_unasked : s ≡ 0 → 9 ≡ tier q r
  unfolding tier
  tier_unasked z = rw (not_asked q r s e z)

  pub tier_asked : (l : ℕ) → (s ≡ 0 → ⊥) → l ≡ level_of s r.modulus → l ≡ tier q r
  unfolding tier
  tier_asked l n f = rw (is_asked q r s e n) (sym (level_told l f))

-- one of another level asks nothing there
pub tier_other : (q : Query) (r : Relation) (t j x : ℕ) → t ≡ tier q r → (t ≡ j → ⊥) → own_one q j r x ≡ true
unfolding own_one tier
tier_other q r t j x e d =
    choice (λ b. b ≡ true) (both (asked q r) (eqb (level_in q r) j))
    (λ u.
    let h = both_true (asked q r) (eqb (level_in q r) j) u in
    absurd (d (e ∙ rw h.0 (eqb-true (level_in q r) j h.1))))
    (λ u. refl)

-- the level that is told of one that is asked
pub tier_level : (q : Query) (r : Relation) (s j : ℕ) → s ≡ factor q r.operand → (s ≡ 0 → ⊥) → j ≡ tier q r → j ≡ level_of s r.modulus
unfolding tier
tier_level q r s j e n t = t ∙ rw (ne_eqb (factor q r.operand) 0 (λ z. n (e ∙ z))) (ap (λ (x : ℕ). level_of x r.modulus) (sym e))

-- so one that is told a level is asked
pub told_asked : (q : Query) (r : Relation) (j : ℕ) → j < 9 → j ≡ tier q r → factor q r.operand ≡ 0 → ⊥
unfolding tier
told_asked q r j h t z = let e : j ≡ 9 = t ∙ rw (eq-eqb (factor q r.operand) 0 z) in omega arith

-- its factor is 1, but for f
pub factor_one : (q : Query) (o : ℕ) → Fit q → (factor q o ≡ 0 → ⊥) → (o ≡ 102 → ⊥) → 1 ≡ factor q o
unfolding factor
factor_one q o f n d = go q.n q.i q.f q.t (eqb o 110) (eqb o 105) (eqb o 102) (eqb o 116) (ne_eqb o 102 d) f.n f.i f.t n
  where
    one : (x : ℕ) → x ≤ 1 → (x ≡ 0 → ⊥) → 1 ≡ x
    one x h k = omega arith

    go : (x y w z : ℕ) (a b e c : Bool) → e ≡ false → x ≤ 1 → y ≤ 1 → z ≤ 1 → ((if a then x else if b then y else if e then w else if c then z else 0) ≡ 0 → ⊥)
        → 1 ≡ (if a then x else if b then y else if e then w else if c then z else 0)
    go x y w z true b e c k l m o u = one x l u
    go x y w z false true e c k l m o u = one y m u
    go x y w z false false true c k l m o u = absurd (true≢false k)
    go x y w z false false false true k l m o u = one z o u
    go x y w z false false false false k l m o u = absurd (u refl)

-- ---- a run of multiples

pub up_one : (y s : ℕ) → s ≡ 1 → y ≡ upwards y s
unfolding upwards
up_one y s e = rw (eq-eqb s 1 e)

pub up_more : (y s : ℕ) → (s ≡ 1 → ⊥) → (y + (s - 1)) / s ≡ upwards y s
unfolding upwards
up_more y s n = rw (ne_eqb s 1 n)

-- a multiple of s is before y exactly where its number is before `upwards y s`
module _ (y s : ℕ) (pos : 0 < s) where
  up_bounds : (upwards y s * s ≤ y + (s - 1)) × (y ≤ upwards y s * s)
  unfolding upwards
  up_bounds =
      tested (eqb s 1)
      (λ e. let o : s ≡ 1 = eqb-true s 1 e in rw (e, o) (omega arith, omega arith))
      (λ e. let m = mod-lt (y + (s - 1)) pos in rw e (omega (arith, div-add-mod' (y + (s - 1)) s), omega (arith, div-add-mod' (y + (s - 1)) s)))

  below : (x : ℕ) → x < upwards y s → x * s < y
  below x h = omega (arith, mul-le-mul_right s h, up_bounds.0)

  above : (x : ℕ) → x * s < y → x < upwards y s
  above x h = ⊎_elim (λ k. k) (λ k. absurd (late k)) (split x (upwards y s))
    where
      late : upwards y s ≤ x → ⊥
      late k = omega (arith, mul-le-mul_right s k, up_bounds.1)

  pub up_near : 0 < y → upwards y s ≤ y
  up_near h = ⊎_elim (λ k. absurd (late k)) (λ k. k) (split y (upwards y s))
    where
      late : y < upwards y s → ⊥
      late k = omega (arith, below y k, mul-le-mul_right y pos)

module _ (q : Query) (r : Relation) (s : ℕ) (e : s ≡ factor q r.operand) where
  pub own_run : (l j p stop up : ℕ) (b : Bool) → (s ≡ 0 → ⊥) → l ≡ level_of s r.modulus → l ≡ j
      → Alike (listed r) (p * s) b stop → up ≡ upwards stop s → stop ≤ far → Alike (own_one q j r) p b up × (up ≤ far)
  own_run l j p stop up b n f d a u h =
      let pos : 0 < s = omega arith in
      rw u (
        record {
          some = above stop s pos p a.some;
          same = λ x k m. own_there q r s e l j x n f d ∙ a.same (x * s) (mul-le-mul_right s k) (below stop s pos x m);
        },
        omega (arith, up_near stop s pos (omega (arith, a.some))),
      )
