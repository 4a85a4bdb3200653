-- `select_text::select` answers `select_of`: where the pack is `other:` alone without reading it.
use mathlib.Core.Path.{sym, ◌∙◌}
use borrow.Author.Rules.{rules}
use Rattle.select_text.proofs.Order.{bare_answer}
use Rattle.select_text.proofs.select.Goals as goal

pub returns-then-is_bare : goal.returns-then-is_bare
returns-then-is_bare c =
    let a = c.args in
    search (rules, bare_answer a.pack.now a.number.now (sym c.is_bare.ensures ∙ c.if-is_bare.true))
