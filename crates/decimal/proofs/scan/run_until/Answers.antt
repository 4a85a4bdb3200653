-- `decimal::scan::run_until` counts the bytes before the first b.
use mathlib.Core.Path.{◌≡◌, refl, sym, ◌∙◌}
use mathlib.Core.List.{List, ◌∷◌}
use Prim.Native.Nat.{ℕ, ◌+◌}
use native.Mathlib.Omega.{arith}
use borrow.Author.Tests.{eq-eqb, ne_eqb}
use Rattle.std.proofs.Common.{rules, tests}
use Rattle.std.proofs.lemmas.Iterator.{YieldsList-from_slice, IsFirst-from_position, index_from_first}
use Rattle.decimal.specs.Split.{until}
use Rattle.decimal.proofs.Splits.{until_le}
use Rattle.decimal.proofs.scan.run_until.Goals as goal

until_hit : (b x : ℕ) (s : List ℕ) → x ≡ b → until b (x ∷ s) ≡ 0
until_hit b x s e = rw (eq-eqb x b e)

until_miss : (b x : ℕ) (s : List ℕ) → (x ≡ b → ⊥) → until b (x ∷ s) ≡ until b s + 1
until_miss b x s e = rw (ne_eqb x b e) (omega arith)

pub returns : goal.returns
returns c =
    let b = c.args.b in
    let s = c.args.s.now in
    let first = IsFirst-from_position _ _ _ (λ x. x ≡ b) (λ x. x ≡ b → ⊥) c.position.ensures.ran (YieldsList-from_slice s cc) (λ x q k. search (rules, tests)) (λ x q k. search (rules, tests)) in
    let e = index_from_first (until b) (λ x. x ≡ b) (λ x. x ≡ b → ⊥) refl (until_hit b) (until_miss b) s _ first in
    let k = c.unwrap_or.ensures ∙ sym e in
    (k, omega (arith, until_le b s))
