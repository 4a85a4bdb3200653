-- `pattern_token::token_in` answers the token of the bytes from a place on; it stands within them.
use mathlib.Core.Path.{ap, ◌∙◌}
use Rattle.pattern_token.specs.Items.{token_at}
use Rattle.pattern_token.proofs.ItemLaws.{token_within}
use Rattle.pattern_token.proofs.token_in.Goals as goal

pub returns-clause-le_width : goal.returns-clause-le_width
returns-clause-le_width c =
    let a = c.args in
    let e = c.token_at.ensures ∙ ap (token_at a.quoted a.number) c.after.ensures in
    λ h. token_within a.s.now a.at a.quoted a.number h c.token_at.result e
