-- `select::mask::met_mask` gathers the met rules, a bit each. The invariant: the mask is that of the rules passed.
use native.Mathlib.Omega.{arith}
use mathlib.Core.Path.{◌≡◌, refl, ap, ◌∙◌}
use Prim.Native.Nat.{ℕ, ◌<◌, ◌^◌, min}
use Rattle.select.proofs.Masks.{mask_none, mask_more, mask_fits}
use Rattle.pack_rules.specs.Stretch.{stretch, table_of}
use Rattle.select.specs.Select.{mask_of}
use Rattle.meaning.specs.Places.{met_at}
use Rattle.select.proofs.mask.met_mask.Goals as goal

pub loop-j-init : goal.loop-j-init
loop-j-init c =
    let a = c.args in
    (omega arith, refl, mask_none (met_at (table_of a.pack.now) a.pack.now.relations a.pack.now.clauses a.x))

pub with_bit-mask-requires : goal.with_bit-mask-requires
with_bit-mask-requires c =
    let a = c.args in
    let g = met_at (table_of a.pack.now) a.pack.now.relations a.pack.now.clauses a.x in
    let h : c.loop-j.mask < 2 ^ c.loop-j.j = mask_fits g c.loop-j.j c.loop-j.mask c.loop-j.invariant.2 in
    (rw c.loop-j.invariant.1 h, omega arith)

pub loop-j-preserved : goal.loop-j-preserved
loop-j-preserved c =
    let a = c.args in
    let T = table_of a.pack.now in
    let g = met_at T a.pack.now.relations a.pack.now.clauses a.x in
    let q = c.met_at-met in
    (omega arith, omega arith, mask_more g c.loop-j.j q.result c.loop-j.mask c.with_bit-mask.result c.loop-j.invariant.2 q.ensures (rw c.loop-j.invariant.1 at c.with_bit-mask.ensures))

pub returns : goal.returns
returns c =
    let a = c.args in
    let g = met_at (table_of a.pack.now) a.pack.now.relations a.pack.now.clauses a.x in
    let e : c.loop-j.j ≡ min a.count 6 = omega arith in
    c.loop-j.invariant.2 ∙ ap (λ (k : ℕ). mask_of (stretch g 0 k)) e
