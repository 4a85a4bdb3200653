-- `is_bare`: a text that is not too long, whose first token is `other` and whose second and last is `:`.
use mathlib.Core.Path.{sym, ◌∙◌}
use mathlib.Core.List.{[], ◌∷◌}
use native.Mathlib.Omega.{arith}
use lib.ListN.{length, drop}
use borrow.Author.Tests.{le-leb}
use Rattle.pack_grammar.specs.Limits.{max_bytes}
use Rattle.pack_grammar.specs.Grammar.{colon, other}
use Rattle.pack_bare.proofs.Tokens.{found, missed}
use Rattle.pack_bare.proofs.is_bare.Goals as goal

pub returns-then-token_is : goal.returns-then-token_is
returns-then-token_is c =
    let s = c.args.text.now in
    let l = le-leb (length s) max_bytes (omega arith) in
    c.ends_in_colon.ensures
    ∙ rw l
    (found s 0 c.skip_white-at.result 111 (drop 1 other) (colon ∷ []) c.skip_white-at.ensures (sym c.token_is.ensures ∙ c.if-token_is.true))

pub returns-else-token_is : goal.returns-else-token_is
returns-else-token_is c =
    let s = c.args.text.now in
    let l = le-leb (length s) max_bytes (omega arith) in
    c.if-token_is.false
    ∙ rw l
    (missed s 0 c.skip_white-at.result other (colon ∷ []) c.skip_white-at.ensures (sym c.token_is.ensures ∙ c.if-token_is.false))
