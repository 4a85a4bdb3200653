-- `check_relation::relation::own_run`: the multiples by its factor are asked.
use native.Mathlib.Omega.{arith}
use mathlib.Core.Path.{◌≡◌, refl, sym, ◌∙◌}
use Prim.Native.Nat.{ℕ, ◌<◌}
use Rattle.pack_rules.specs.Stretch.{relation_by}
use Rattle.check_laws.proofs.Searched.{room_factor}
use Rattle.check_relation.proofs.Levelling.{factor_fits, own_run, tier_level, told_asked}
use Rattle.check_relation.proofs.relation.own_run.Goals as goal

pos : (n : ℕ) → (n ≡ 0 → ⊥) → 0 < n
pos n h = omega arith

pub asked_factor-k-requires : goal.asked_factor-k-requires
asked_factor-k-requires c =
    let a = c.args in
    let r = relation_by a.pack.now.low a.pack.now.high a.s in
    let p = c.requires in
    (p.fit, told_asked a.q r a.level p.level.0 p.level.1)

pub overflow_mul-p : goal.overflow_mul-p
overflow_mul-p c =
    let a = c.args in
    let f = c.asked_factor-k in
    omega (arith, room_factor a.q a.p a.s.operand f.result c.requires.room f.ensures)

pub listed_run-r-requires : goal.listed_run-r-requires
listed_run-r-requires c =
    let a = c.args in
    let f = c.asked_factor-k in
    room_factor a.q a.p a.s.operand f.result c.requires.room f.ensures

pub upwards_by-requires : goal.upwards_by-requires
upwards_by-requires c =
    let a = c.args in
    let r = relation_by a.pack.now.low a.pack.now.high a.s in
    let p = c.requires in
    let f = c.asked_factor-k in
    let n = told_asked a.q r a.level p.level.0 p.level.1 in
    (pos f.result (λ z. n (sym f.ensures ∙ z)), factor_fits a.q a.s.operand f.result p.fit f.ensures, c.listed_run-r.ensures.near)

pub returns-clause-alike : goal.returns-clause-alike
returns-clause-alike c =
    let a = c.args in
    let r = relation_by a.pack.now.low a.pack.now.high a.s in
    let p = c.requires in
    let f = c.asked_factor-k in
    let l = c.listed_run-r in
    let u = c.upwards_by in
    let n = told_asked a.q r a.level p.level.0 p.level.1 in
    let k : f.result ≡ 0 → ⊥ = λ z. n (sym f.ensures ∙ z) in
    let o = own_run a.q r f.result f.ensures a.level a.level a.p l.result.stop u.result l.result.says k (tier_level a.q r f.result a.level f.ensures k p.level.1) refl l.ensures.alike u.ensures l.ensures.near in o.0

pub returns-clause-near : goal.returns-clause-near
returns-clause-near c =
    let a = c.args in
    let r = relation_by a.pack.now.low a.pack.now.high a.s in
    let p = c.requires in
    let f = c.asked_factor-k in
    let l = c.listed_run-r in
    let u = c.upwards_by in
    let n = told_asked a.q r a.level p.level.0 p.level.1 in
    let k : f.result ≡ 0 → ⊥ = λ z. n (sym f.ensures ∙ z) in
    let o = own_run a.q r f.result f.ensures a.level a.level a.p l.result.stop u.result l.result.says k (tier_level a.q r f.result a.level f.ensures k p.level.1) refl l.ensures.alike u.ensures l.ensures.near in o.1
