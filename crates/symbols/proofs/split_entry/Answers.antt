-- `symbols::split_entry` answers the entry that a record begins with.
use mathlib.Core.Path.{sym, ◌∙◌}
use Rattle.symbols.proofs.KindLaws.{a_kind}
use Rattle.symbols.proofs.split_entry.Goals as goal

pub returns : goal.returns
returns c =
    a_kind c.args.s.now c.in_ok-b.b.now c.in_ok-b.rest.now c.in_ok-symbol.symbol c.in_ok-symbol.len c.in_ok-head.head _ _ c.in_ok-b.ensures.cases.0
    (sym c.kind_of.ensures ∙ c.in_ok-symbol.was) (sym c.head_in.ensures ∙ c.in_ok-head.was) c.split_at.ensures.front c.split_at.ensures.back
