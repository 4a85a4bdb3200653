-- `check_search::clause::comes_first`: n is not asked, or there are no places.
use mathlib.Core.Path.{sym, subst, ◌∙◌}
use Prim.Native.Nat.{ℕ, ◌^◌, ◌<◌}
use borrow.Author.Tests.{not-true, ltb-true}
use Rattle.number.specs.Limits.{max_digits}
use Rattle.check_laws.specs.Fast.{fractions}
use Rattle.check_laws.proofs.Whole.{n_unasked_first, no_places_first}
use Rattle.check_search.proofs.clause.comes_first.Goals as goal

pub returns-then-spares_n : goal.returns-then-spares_n
returns-then-spares_n c = λ t x e p h q i. n_unasked_first x e h (subst (λ (y : ℕ). y < fractions) q c.requires) (not-true _ (sym (c.spares_n.ensures x p) ∙ c.if-spares_n.true))

pub returns-then-q-eq0 : goal.returns-then-q-eq0
returns-then-q-eq0 c = λ t x e p h q i. no_places_first x e c.args.i (sym q ∙ c.if-q-eq0.true) i (ltb-true c.args.i (10 ^ max_digits) t)
