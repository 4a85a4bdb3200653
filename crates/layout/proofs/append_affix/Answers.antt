-- `layout::append_affix` copies an affix of plain bytes, and writes any other item by item.
use mathlib.Core.Path.{sym, ◌∙◌}
use mathlib.Core.Bool.{false}
use Rattle.symbols.specs.Entries.{symbol_in, standard_record}
use Rattle.area.proofs.Pieces.{renamed}
use Rattle.layout.proofs.Plain.{plain_rendered}
use Rattle.layout.proofs.append_affix.Goals as goal

pub returns-then-are_plain : goal.returns-then-are_plain
returns-then-are_plain c =
    let a = c.args in
    let l = sym c.are_plain.ensures ∙ c.if-are_plain.true in
    renamed (sym (plain_rendered (symbol_in a.house.now standard_record) false false a.s.now l)) c.append.ensures
