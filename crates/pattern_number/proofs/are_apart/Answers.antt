-- `pattern_number::are_apart` looks for a comma at the end, and for two commas in a row in the bytes.
use Rattle.std.proofs.Common.{rules, tests}
use mathlib.Core.Bool.{not}
use mathlib.Core.Path.{ap, sym, ◌∙◌}
use mathlib.Core.List.{List}
use Prim.Native.Nat.{ℕ}
use Rattle.std.specs.List.{list_any, zip}
use Rattle.std.proofs.lemmas.Iterator.{YieldsList-from_slice, YieldsList-from_zip}
use Rattle.std.proofs.lemmas.Iterator.Consumers.{YieldsList-at}
use Rattle.std.proofs.lemmas.Iterator.Search.{any_from_yields_List}
use Rattle.pattern_number.proofs.Scans.{two_commas, apart_is, apart_ends}
use Rattle.pattern_number.proofs.are_apart.Goals as goal

pub returns-then-not-ends_with : goal.returns-then-not-ends_with
returns-then-not-ends_with c =
    let s = c.args.s.now in
    let next = YieldsList-from_slice c.after-next.result.now c.zip.ensures.second.0 in
    let both = YieldsList-from_zip (YieldsList-at c.zip.ensures.first (YieldsList-from_slice s cc)) next in
    ap not (any_from_yields_List two_commas c.any.new.self _ c.any.result c.any.ensures.ran both (λ x b q k. search (rules, tests)))
    ∙ ap (λ (t : List ℕ). not (list_any two_commas (zip s t))) c.after-next.ensures
    ∙ apart_is s (sym c.ends_with.ensures.value ∙ c.if-not-ends_with.true)

pub returns-else-not-ends_with : goal.returns-else-not-ends_with
returns-else-not-ends_with c =
    ap not c.if-not-ends_with.false ∙ apart_ends c.args.s.now (sym c.ends_with.ensures.value ∙ c.if-not-ends_with.false)
