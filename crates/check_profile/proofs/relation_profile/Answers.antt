-- `check_profile::relation_profile`: letter by letter.
use Rattle.pack_rules.specs.Stretch.{relation_by}
use mathlib.Core.Path.{refl, ap, ◌∙◌}
use Prim.Native.Nat.{ℕ, ◌+◌}
use Rattle.check_laws.specs.Fast.{test}
use Rattle.check_laws.specs.Profile.{packed}
use Rattle.check_laws.proofs.Profiles.{by_n, by_not_n, by_i, by_f, by_t, by_v, by_w, by_e}
use borrow.Author.Rules.{rules}
use Rattle.check_profile.proofs.relation_profile.Goals as goal

pub returns-then-s : goal.returns-then-s
returns-then-s c = let a = c.args in let r = relation_by a.pack.now.low a.pack.now.high a.s in c.pack_parts.ensures ∙ by_not_n r _ (search rules) c.if-s.true c.digits_of-d.ensures.0

pub returns-else-s : goal.returns-else-s
returns-else-s c = let a = c.args in let r = relation_by a.pack.now.low a.pack.now.high a.s in c.pack_parts-else-s.ensures ∙ by_n r _ (search rules) c.if-s.false c.digits_of-d.ensures.0

pub returns-in-105 : goal.returns-in-105
returns-in-105 c = let a = c.args in let r = relation_by a.pack.now.low a.pack.now.high a.s in c.pack_parts-in-105.ensures ∙ by_i r _ (search rules) c.digits_of-d-in-105.ensures.0

pub returns-in-102 : goal.returns-in-102
returns-in-102 c = let a = c.args in let r = relation_by a.pack.now.low a.pack.now.high a.s in c.any_digit.ensures ∙ ap (λ (z : ℕ). packed 32767 1023 1023 (z + 2) 1023 1023) c.zero_of-zero.ensures.0 ∙ by_f r (test r 0) (search rules) refl

pub returns-in-116 : goal.returns-in-116
returns-in-116 c = let a = c.args in let r = relation_by a.pack.now.low a.pack.now.high a.s in c.any_digit-in-116.ensures ∙ ap (λ (z : ℕ). packed 32767 1023 1023 (z + 6) 1023 1023) c.zero_of-zero-in-116.ensures.0 ∙ by_t r (test r 0) (search rules) refl

pub returns-in-118 : goal.returns-in-118
returns-in-118 c = let a = c.args in let r = relation_by a.pack.now.low a.pack.now.high a.s in c.any_digit-in-118.ensures ∙ by_v r c.places_of-v.result (search rules) c.places_of-v.ensures.0

pub returns-in-119 : goal.returns-in-119
returns-in-119 c = let a = c.args in let r = relation_by a.pack.now.low a.pack.now.high a.s in c.any_digit-in-119.ensures ∙ by_w r c.places_of-w.result (search rules) c.places_of-w.ensures.0

pub returns-in_default : goal.returns-in_default
returns-in_default c = let a = c.args in let r = relation_by a.pack.now.low a.pack.now.high a.s in c.any_digit-in_default.ensures ∙ by_e r c.exponents_of-e.result (search rules) (search rules) (search rules) (search rules) (search rules) (search rules) c.exponents_of-e.ensures.0
