-- A search that has room, from its test and to it.
use mathlib.Core.Path.{◌≡◌, refl, sym}
use mathlib.Core.Bool.{Bool, true, false}
use Prim.Native.Nat.{ℕ, ◌*◌, ◌-◌, ◌^◌, ◌≤◌, ◌<◌}
use native.Mathlib.Omega.{arith}
use native.Mathlib.Nat.{mul-le-mul_right}
use lib.Dec.{leb, ltb, eqb}
use borrow.Author.Tests.{ltb-false, le-ltb, leb-true, le-leb, eqb-true, eqb-false}
use Rattle.std.specs.Prelude.{if◌then◌else◌}
use Rattle.decimal.proofs.Choices.{tested, not_both}
use Rattle.decimal.proofs.Values.{power_mono}
use Rattle.number.specs.Limits.{max_digits, max_places}
use Rattle.pack_rules.specs.Stretch.{Table}
use Rattle.check_laws.specs.Fast.{search, alone, query_f}
use Rattle.check_laws.specs.Read.{cap, joined_in}
use Rattle.check_laws.specs.Ready.{Room, Fit, ready, least_in}
use Rattle.check_laws.specs.declared.Query.{Query}
use Rattle.check_laws.specs.declared.Span.{Span}

-- a test that must fail for what is behind it to be asked
past : (b x : Bool) → (if b then false else x) ≡ true → (b ≡ false) × (x ≡ true)
past true x e = not_both {b = true} refl (sym e)
past false x e = (refl, e)

-- a number up to hi has operands within `cap`
roomy : (q : Query) (hi : ℕ) → q.n ≤ 1 → q.i ≤ 1 → q.t ≤ 1 → hi ≤ cap → hi * q.f ≤ cap → Room q hi
roomy q hi n i t h f = record { self = h; n = once q.n n; i = once q.i i; f = f; t = once q.t t }
  where
    once : (k : ℕ) → k ≤ 1 → hi * k ≤ cap
    once k l = omega (arith, mul-le-mul_right hi l)

pub ready_room : (s : Span) (q : Query) (lo hi : ℕ) → ready s q lo hi ≡ true → (lo ≤ hi) × Room q hi × (s.to ≤ 320) × (s.stop ≤ 320)
ready_room s q lo hi e =
    let a = past _ _ e in
    let b = past _ _ a.1 in
    let c = past _ _ b.1 in
    let n = past _ _ c.1 in
    let i = past _ _ n.1 in
    let t = past _ _ i.1 in (
      ltb-false hi lo a.0,
      rest (ltb-false 1 q.n n.0) (ltb-false 1 q.i i.0) (ltb-false 1 q.t t.0) t.1,
      ltb-false 320 s.to b.0,
      ltb-false 320 s.stop c.0,
    )
  where
    rest : q.n ≤ 1 → q.i ≤ 1 → q.t ≤ 1 → (if eqb q.f 0 then leb hi cap else if ltb 1000000000 q.f then false else leb hi 1000000000) ≡ true → Room q hi
    rest n i t h = tested (eqb q.f 0) none some
      where
        none : eqb q.f 0 ≡ true → Room q hi
        none z =
            let k : leb hi cap ≡ true = rw z at h in
            let f : q.f ≡ 0 = eqb-true q.f 0 z in
            roomy q hi n i t (leb-true hi cap k) (rw f (omega arith))

        some : eqb q.f 0 ≡ false → Room q hi
        some z =
            let k = past _ _ (rw z at h) in
            let f = ltb-false 1000000000 q.f k.0 in
            let g = leb-true hi 1000000000 k.1 in
            roomy q hi n i t (omega arith) (omega (arith, mul-le-mul_right q.f g))

-- and its factors are those of a search
pub ready_fit : (s : Span) (q : Query) (lo hi : ℕ) → ready s q lo hi ≡ true → Fit q
ready_fit s q lo hi e =
    let a = past (ltb hi lo) _ e in
    let b = past (ltb 320 s.to) _ a.1 in
    let c = past (ltb 320 s.stop) _ b.1 in
    let n = past _ _ c.1 in
    let i = past _ _ n.1 in
    let t = past _ _ i.1 in
    record {
      n = ltb-false 1 q.n n.0;
      i = ltb-false 1 q.i i.0;
      t = ltb-false 1 q.t t.0;
      f = small t.1;
    }
  where
    small : (if eqb q.f 0 then leb hi cap else if ltb 1000000000 q.f then false else leb hi 1000000000) ≡ true → q.f ≤ 1000000000
    small h =
        tested (eqb q.f 0) (λ z. omega (arith, eqb-true q.f 0 z))
        (λ z. let k = past _ _ (rw z at h) in ltb-false 1000000000 q.f k.0)

-- small numbers have room at the factors of every search
pub fit_room : (q : Query) (x : ℕ) → Fit q → x ≤ 1_000_000_000 → Room q x
fit_room q x f h =
    let g = f.f in
    roomy q x f.n f.i f.t (omega arith) (omega (arith, mul-le-mul_right q.f h))

-- ---- where there is room, the search is the search

pub least_ready : (T : Table) (s : Span) (q : Query) (lo hi : ℕ) → lo ≤ hi → s.to ≤ 320 → s.stop ≤ 320 → q.n ≤ 1 → q.i ≤ 1 → q.t ≤ 1
    → (q.f ≡ 0 → hi ≤ cap) → ((q.f ≡ 0 → ⊥) → (q.f ≤ 1000000000) × (hi ≤ 1000000000)) → least_in T s q lo hi ≡ search q (joined_in T s) lo hi
least_ready T s q lo hi h a b n i t f g =
    rw (le-ltb hi lo h, le-ltb 320 s.to a, le-ltb 320 s.stop b, le-ltb 1 q.n n, le-ltb 1 q.i i, le-ltb 1 q.t t)
    (tested (eqb q.f 0)
    (λ z. rw (z, le-leb hi cap (f (eqb-true q.f 0 z))))
    (λ z.
    let k = g (eqb-false q.f 0 z) in
    rw (z, le-ltb 1000000000 q.f k.0, le-leb hi 1000000000 k.1)))

-- a search for t before k zeros, and one for i

pub tail_ready : (T : Table) (s : Span) (k p e : ℕ) → s.to ≤ 320 → s.stop ≤ 320 → k < max_places → p ≡ 10 ^ k → e ≡ 10 ^ (max_places - k)
    → let q : Query = record { n = 0; i = 0; f = p; t = 1; odd = true } in least_in T s q 0 e ≡ search q (joined_in T s) 0 e
tail_ready T s k p e a b h g f =
    let m : 10 ^ k ≤ 10 ^ max_places = power_mono {j = max_places} (omega arith) in
    let n : 10 ^ (max_places - k) ≤ 10 ^ max_places = power_mono {j = max_places} (omega arith) in
    least_ready T s (record { n = 0; i = 0; f = p; t = 1; odd = true }) 0 e (omega arith) a b (omega arith) (omega arith) (omega arith)
    (λ z. omega arith) (λ z. (omega arith, omega arith))

pub integer_ready : (T : Table) (s : Span) (w : Bool) (n lo : ℕ) → s.to ≤ 320 → s.stop ≤ 320 → n ≡ (if w then 1 else 0) → lo ≤ 10 ^ max_digits
    → let q : Query = record { n = n; i = 1; f = 0; t = 0; odd = false } in least_in T s q lo (10 ^ max_digits) ≡ search q (joined_in T s) lo (10 ^ max_digits)
integer_ready T s w n lo a b g l =
    least_ready T s (record { n = n; i = 1; f = 0; t = 0; odd = false }) lo (10 ^ max_digits) l a b (once w g) (omega arith) (omega arith)
    (λ z. omega arith) (λ z. absurd (z refl))
  where
    once : (w : Bool) → n ≡ (if w then 1 else 0) → n ≤ 1
    once true e = omega arith
    once false e = omega arith

-- a search for t by what is asked of t alone
pub alone_ready : (T : Table) (s : Span) → s.to ≤ 320 → s.stop ≤ 320 → least_in T s alone 0 (10 ^ max_places) ≡ search alone (joined_in T s) 0 (10 ^ max_places)
alone_ready T s a b =
    least_ready T s alone 0 (10 ^ max_places) (omega arith) a b (omega arith) (omega arith) (omega arith) (λ z. omega arith) (λ z. absurd (z refl))

-- a search for f by what is asked of f alone
pub f_ready : (T : Table) (s : Span) → s.to ≤ 320 → s.stop ≤ 320 → least_in T s query_f 1 (10 ^ max_places) ≡ search query_f (joined_in T s) 1 (10 ^ max_places)
f_ready T s a b =
    least_ready T s query_f 1 (10 ^ max_places) (omega arith) a b (omega arith) (omega arith) (omega arith) (λ z. omega arith) (λ z. (omega arith, omega arith))
