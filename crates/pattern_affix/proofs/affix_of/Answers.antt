-- `pattern_affix::affix_of` answers the affix that a text begins with. The invariant: the bytes passed and the affix still to come are the whole affix.
use native.Mathlib.Omega.{arith}
use mathlib.Core.Path.{sym, ◌∙◌}
use Rattle.pattern_affix.proofs.Scans.{passed_start, passed_end, passed_again, passed_out, affix_end}
use borrow.Author.Rules.{rules}
use Rattle.pattern_affix.proofs.affix_of.Goals as goal

pub loop-len-init : goal.loop-len-init
loop-len-init c = (search rules, passed_start c.args.s.now)

pub returns-then-ends_affix : goal.returns-then-ends_affix
returns-then-ends_affix c =
    let s = c.args.s.now in
    let l = c.loop-len in
    let t = c.token_in-item in (
      passed_end s l.quoted l.number l.len l.invariant.1
          (affix_end s l.len l.quoted l.number c.loop-len-test.true t.result t.ensures.value (sym c.ends_affix.ensures ∙ c.if-ends_affix.true)),
      search rules,
    )

pub overflow_add-len : goal.overflow_add-len
overflow_add-len c = omega (arith, c.token_in-item.ensures.le_width c.loop-len-test.true)

pub loop-len-smaller : goal.loop-len-smaller
loop-len-smaller c = omega (arith, c.token_in-item.ensures.le_width c.loop-len-test.true)

pub loop-len-preserved : goal.loop-len-preserved
loop-len-preserved c =
    let s = c.args.s.now in
    let l = c.loop-len in
    let t = c.token_in-item in (
      omega (arith, t.ensures.le_width c.loop-len-test.true),
      passed_again s l.len l.quoted l.number c.loop-len-test.true t.result t.ensures.value _ _ c.quoted_after-quoted.ensures c.is_number-number.ensures
          (sym c.ends_affix.ensures ∙ c.if-ends_affix.false) l.invariant.1,
    )

pub returns : goal.returns
returns c =
    let l = c.loop-len in
    (passed_out c.args.s.now l.quoted l.number l.len l.invariant.1 c.loop-len-test.false, search rules)
