-- `symbols::is_twice` answers whether a symbol stands twice. The invariant: the answer for the entries still to come is the whole answer.
use mathlib.Core.Path.{◌≡◌, sym, ◌∙◌}
use mathlib.Core.Bool.{Bool}
use Rattle.std.specs.Prelude.{Option, None, Some, is_some}
use Rattle.std.specs.Option.{option_map}
use Rattle.records.proofs.Walks.{turn, twice_found, twice_again}
use Rattle.symbols.proofs.is_twice.Goals as goal

-- whether something is found is whether its bytes are
some_there : {A B : Type 0} (f : A → B) {b : Bool} (r : Option A) → is_some r ≡ b → is_some (option_map f r) ≡ b
some_there f None e = e
some_there f (Some x) e = e

pub returns-then-is_some : goal.returns-then-is_some
returns-then-is_some c = sym (twice_found (turn c.in-Some.ensures) (sym c.locate.ensures.found ∙ some_there _ _ (sym c.is_some.ensures ∙ c.if-is_some.true))) ∙ c.loop-symbol.invariant

pub loop-symbol-preserved : goal.loop-symbol-preserved
loop-symbol-preserved c = twice_again (turn c.in-Some.ensures) (sym c.locate.ensures.found ∙ some_there _ _ (sym c.is_some.ensures ∙ c.if-is_some.false)) c.loop-symbol.invariant
