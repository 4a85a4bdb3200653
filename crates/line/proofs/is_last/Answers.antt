-- `line::is_last`: behind the first field's TAB no other stands.
use mathlib.Core.Path.{◌∙◌, ap}
use mathlib.Core.Bool.{not}
use Prim.Native.Nat.{◌+◌}
use lib.ListN.{drop}
use borrow.Author.Tests.{lt-ltb}
use Rattle.line.proofs.Fields.{from_place, no_more_tabs}
use Rattle.line.proofs.is_last.Goals as goal

pub returns-then-n-s : goal.returns-then-n-s
returns-then-n-s c =
    let s = c.args.s.now in
    let e = rw (from_place s (c.args.n + 1)) at c.contains.ensures.value in
    rw (lt-ltb _ _ c.if-n-s.true) (ap not e ∙ no_more_tabs (drop (c.args.n + 1) s))
