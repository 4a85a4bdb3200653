-- `symbols::locate` finds the first entry of a symbol. The invariant: what is found from here on is what the record holds.
use mathlib.Core.Path.{sym}
use borrow.Author.Tests.{ne_eqb}
use denote.Enum.Bare.{same_false}
use Rattle.records.proofs.Walks.{turn, sought_again}
use Rattle.symbols.specs.contracts.Symbol.{the_type}
use Rattle.symbols.proofs.KindLaws.{upper_same}
use Rattle.symbols.proofs.locate.Goals as goal

pub loop-symbol-preserved : goal.loop-symbol-preserved
loop-symbol-preserved c =
    sought_again (turn c.in-Some.ensures) c.loop-symbol.invariant (ne_eqb _ _ (λ e. same_false the_type _ _ (sym c.if-eq.ensures) (upper_same _ _ e)))
