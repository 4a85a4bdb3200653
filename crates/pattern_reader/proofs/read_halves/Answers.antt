-- `pattern_reader::read_halves` answers its definition: one subpattern, a stray byte, or two subpatterns, the second from the pattern's middle.
use mathlib.Core.Path.{sym, ap, ◌∙◌}
use Rattle.pattern_reader.specs.Reading.{judged}
use Rattle.pattern_reader.proofs.Halves.{halves_stray, halves_more, halves_two}
use Rattle.pattern_reader.proofs.read_halves.Goals as goal

pub returns-then-first-ne59 : goal.returns-then-first-ne59
returns-then-first-ne59 c =
    c.refuse.ensures
    ∙ halves_stray c.args.s.now c.read_half-a.result c.read_half-a.ensures.value _ _ (sym c.after.ensures ∙ c.in-Some.ensures.cases.0) c.if-first-ne59.true

pub returns-then-b-rest : goal.returns-then-b-rest
returns-then-b-rest c =
    c.refuse-then-b-rest.ensures
    ∙ halves_more c.args.s.now c.read_half-a.result c.read_half-a.ensures.value _ _ (sym c.after.ensures ∙ c.in-Some.ensures.cases.0) c.if-first-ne59.false
    c.read_half-b.result c.read_half-b.ensures.value c.if-b-rest.true

pub returns : goal.returns
returns c =
    c.judge-2.ensures ∙ ap (judged c.read_half-a.result c.read_half-b.result) c.own_affixes.ensures
    ∙ halves_two c.args.s.now c.read_half-a.result c.read_half-a.ensures.value _ _ (sym c.after.ensures ∙ c.in-Some.ensures.cases.0) c.if-first-ne59.false
    c.read_half-b.result c.read_half-b.ensures.value c.if-b-rest.false
