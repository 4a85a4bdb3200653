-- `check_places::order::precedes` compares operand by operand.
use native.Mathlib.Omega.{arith}
use mathlib.Core.Bool.{true, false}
use mathlib.Core.Logic.{⊎_elim}
use mathlib.Core.Path.{◌≡◌, sym, ◌∙◌}
use borrow.Author.Tests.{eq-eqb, ne_eqb, lt-ltb, le-ltb}
use Prim.Native.Nat.{ℕ, ◌<◌}
use Rattle.check_laws.proofs.Seeking.{split}
use Rattle.check_laws.proofs.Spotting.{order_e, order_v, order_i, order_f}
use Rattle.check_places.proofs.order.precedes.Goals as goal

-- two numbers differ, one way or the other, or are the same
three : {P : Type 0} (x y : ℕ) → (x < y → P) → (y < x → P) → (x ≡ y → P) → P
three x y f g h = ⊎_elim f (λ l. ⊎_elim g (λ m. h (omega arith)) (split y x)) (split x y)

pub returns : goal.returns
returns c =
    let a = c.args.a in
    let b = c.args.b in
    let p = c.requires.0 in
    let q = c.requires.1 in
    let r = c.lt.ensures in
    three a.e b.e
    (λ l. let o = order_e a b p q (λ z. absurd (omega arith)) in grind (arith, r, l, o))
    (λ l. let o = order_e a b p q (λ z. absurd (omega arith)) in grind (arith, r, l, o))
    (λ e.
    let e1 = le-ltb a.e b.e (omega (arith, e)) in
    let e2 = eq-eqb a.e b.e e in
    three a.v.0 b.v.0
    (λ l.
    let k : c.lt.result ≡ true = r ∙ (simp (e1, e2, lt-ltb a.v.0 b.v.0 l)) in
    k ∙ sym (lt-ltb a.v.0 b.v.0 l) ∙ order_v a b p q e (λ z. absurd (omega arith)))
    (λ l.
    let v1 = le-ltb a.v.0 b.v.0 (omega (arith, l)) in
    let k : c.lt.result ≡ false = r ∙ (simp (e1, e2, v1, ne_eqb a.v.0 b.v.0 (λ z. absurd (omega arith)))) in
    k ∙ sym v1 ∙ order_v a b p q e (λ z. absurd (omega arith)))
    (λ v.
    let v1 = le-ltb a.v.0 b.v.0 (omega (arith, v)) in
    let v2 = eq-eqb a.v.0 b.v.0 v in
    three a.i b.i
    (λ l.
    let k : c.lt.result ≡ true = r ∙ (simp (e1, e2, v1, v2, lt-ltb a.i b.i l)) in
    k ∙ sym (lt-ltb a.i b.i l) ∙ order_i a b p q e v (λ z. absurd (omega arith)))
    (λ l.
    let i1 = le-ltb a.i b.i (omega (arith, l)) in
    let k : c.lt.result ≡ false = r ∙ (simp (e1, e2, v1, v2, i1, ne_eqb a.i b.i (λ z. absurd (omega arith)))) in
    k ∙ sym i1 ∙ order_i a b p q e v (λ z. absurd (omega arith)))
    (λ i.
    let i1 = le-ltb a.i b.i (omega (arith, i)) in
    let i2 = eq-eqb a.i b.i i in
    let o = order_f a b p q e v i in
    three a.f.0 b.f.0
    (λ l.
    let k : c.lt.result ≡ true = r ∙ (simp (e1, e2, v1, v2, i1, i2, lt-ltb a.f.0 b.f.0 l)) in
    k ∙ sym (lt-ltb a.f.0 b.f.0 l) ∙ o)
    (λ l.
    let f1 = le-ltb a.f.0 b.f.0 (omega (arith, l)) in
    let k : c.lt.result ≡ false = r ∙ (simp (e1, e2, v1, v2, i1, i2, f1, ne_eqb a.f.0 b.f.0 (λ z. absurd (omega arith)))) in
    k ∙ sym f1 ∙ o)
    (λ f.
    let f1 = le-ltb a.f.0 b.f.0 (omega (arith, f)) in
    let k : c.lt.result ≡ false = r ∙ (simp (e1, e2, v1, v2, i1, i2, f1, eq-eqb a.f.0 b.f.0 f)) in
    k ∙ sym f1 ∙ o))))
