-- `pattern_number::step_of` works out the step byte by byte, kept at its bound.
use Rattle.std.proofs.Common.{rules, tests}
use Rattle.std.proofs.lemmas.Iterator.{YieldsList-from_slice}
use native.Mathlib.Omega.{arith}
use mathlib.Core.Path.{◌∙◌}
use Prim.Native.Nat.{ℕ, min}
use Rattle.std.proofs.lemmas.Iterator.Consumers.{fold_from_yields_List}
use Rattle.pattern_number.specs.Shape.{unit, step_cap}
use Rattle.pattern_number.proofs.Steps.{units_fold, step_is}
use Rattle.pattern_number.proofs.step_of.Goals as goal

pub returns : goal.returns
returns c =
    let s = c.args.s.now in
    let e = fold_from_yields_List _ (λ (n b : ℕ). min (unit n b) step_cap) 0 c.fold.result c.fold.ensures.ran (YieldsList-from_slice s cc) (λ n x r q k. search (rules, tests)) in
    c.max.ensures ∙ step_is s c.fold.result step_cap (omega arith) (e ∙ units_fold step_cap 0 s (omega arith))
