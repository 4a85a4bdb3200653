-- `ends_in_colon`: the first token is `:`, and none is behind it.
use mathlib.Core.Path.{sym, ◌∙◌}
use mathlib.Core.List.{[]}
use native.Mathlib.Omega.{arith}
use Rattle.pack_grammar.specs.Grammar.{colon}
use Rattle.pack_bare.proofs.Tokens.{found, found_within, missed}
use Rattle.pack_bare.proofs.ends_in_colon.Goals as goal

pub overflow_add-at : goal.overflow_add-at
overflow_add-at c =
    let s = c.args.s.now in
    let h = found_within s c.skip_white-at.result 58 [] (sym c.token_is.ensures ∙ c.if-token_is.true) in
    omega arith

pub returns-then-token_is : goal.returns-then-token_is
returns-then-token_is c =
    let s = c.args.s.now in
    c.ends.ensures
    ∙ found s _ c.skip_white-at.result 58 [] [] c.skip_white-at.ensures (sym c.token_is.ensures ∙ c.if-token_is.true)

pub returns-else-token_is : goal.returns-else-token_is
returns-else-token_is c =
    let s = c.args.s.now in
    c.if-token_is.false
    ∙ missed s _ c.skip_white-at.result colon [] c.skip_white-at.ensures (sym c.token_is.ensures ∙ c.if-token_is.false)
