-- `select::select_held` answers `selection`: the bits say how many rules are met and which come first (Selections.antt).
use Rattle.std.specs.Prelude.{Ok}
use native.Mathlib.Omega.{arith}
use mathlib.Core.Path.{ap, ◌∙◌}
use Rattle.pack_rules.specs.declared.Pack.{Pack}
use Rattle.pack_rules.proofs.Stretches.{Sized}
use Rattle.select.proofs.Selections.{Met, met, first_small, none_met, one_met, second_small, two_met}
use borrow.Author.Rules.{rules}
use Rattle.select.proofs.select_held.Goals as goal
use Rattle.select.proofs.select_held.Goals.{After-met_mask-m}

-- the pack that is lent, its arrays as long as they are declared; the mask is that of its rules met
abbrev pack : (m : After-met_mask-m) → Pack
pack m =
    let a = m.args in
    a.pack.now

declared : (m : After-met_mask-m) → Sized (pack m)
declared m =
    record {
      low = search rules;
      high = search rules;
      columns = search rules;
      relations = search rules;
      keyword = search rules;
      clauses = search rules;
    }

told : (m : After-met_mask-m) → Met (pack m) m.args.x m.met_mask-m.result
told m = met (pack m) m.args.x m.met_mask-m.result (declared m) m.met_mask-m.ensures

pub returns-then-met-eq0 : goal.returns-then-met-eq0
returns-then-met-eq0 c =
    let x = c.args.x in
    none_met (pack c.before) x c.met_mask-m.result (declared c.before) (told c.before) c.if-met-eq0.true

pub overflow_cast-first : goal.overflow_cast-first
overflow_cast-first c =
    let x = c.args.x in
    omega (arith, first_small (pack c.before.before) x c.met_mask-m.result (declared c.before.before) (told c.before.before) (omega (arith, c.if-met-eq1.true)))

pub keyword_at-requires : goal.keyword_at-requires
keyword_at-requires c =
    let x = c.args.x in
    first_small (pack c.before.before) x c.met_mask-m.result (declared c.before.before) (told c.before.before) (omega (arith, c.if-met-eq1.true))

pub returns-then-met-eq1 : goal.returns-then-met-eq1
returns-then-met-eq1 c =
    let x = c.args.x in
    ap Ok c.keyword_at.ensures ∙ one_met (pack c.before.before.before) x c.met_mask-m.result (declared c.before.before.before) (told c.before.before.before) c.if-met-eq1.true

pub overflow_add-behind : goal.overflow_add-behind
overflow_add-behind c =
    let x = c.args.x in
    let none = c.if-met-eq0.false in
    omega (arith, first_small (pack c.before.before) x c.met_mask-m.result (declared c.before.before) (told c.before.before) (omega arith))

pub overflow_shr-second : goal.overflow_shr-second
overflow_shr-second c =
    let x = c.args.x in
    let none = c.if-met-eq0.false in
    omega (arith, first_small (pack c.before.before) x c.met_mask-m.result (declared c.before.before) (told c.before.before) (omega arith))

pub overflow_add-second : goal.overflow_add-second
overflow_add-second c =
    let x = c.args.x in
    let none = c.if-met-eq0.false in
    let one = c.if-met-eq1.false in
    omega (arith, first_small (pack c.before.before) x c.met_mask-m.result (declared c.before.before) (told c.before.before) (omega arith), second_small (pack c.before.before) x c.met_mask-m.result (declared c.before.before) (told c.before.before) (omega arith))

pub overflow_cast-result : goal.overflow_cast-result
overflow_cast-result c =
    let x = c.args.x in
    let none = c.if-met-eq0.false in
    omega (arith, first_small (pack c.before.before) x c.met_mask-m.result (declared c.before.before) (told c.before.before) (omega arith))

pub overflow_add-result : goal.overflow_add-result
overflow_add-result c =
    let x = c.args.x in
    let none = c.if-met-eq0.false in
    let one = c.if-met-eq1.false in
    omega (arith, first_small (pack c.before.before) x c.met_mask-m.result (declared c.before.before) (told c.before.before) (omega arith), second_small (pack c.before.before) x c.met_mask-m.result (declared c.before.before) (told c.before.before) (omega arith))

pub overflow_cast-result-2 : goal.overflow_cast-result-2
overflow_cast-result-2 c =
    let x = c.args.x in
    let none = c.if-met-eq0.false in
    let one = c.if-met-eq1.false in
    omega (arith, first_small (pack c.before.before) x c.met_mask-m.result (declared c.before.before) (told c.before.before) (omega arith), second_small (pack c.before.before) x c.met_mask-m.result (declared c.before.before) (told c.before.before) (omega arith))

pub returns : goal.returns
returns c =
    let x = c.args.x in
    let none = c.if-met-eq0.false in
    let one = c.if-met-eq1.false in
    two_met (pack c.before.before) x c.met_mask-m.result (declared c.before.before) (told c.before.before) _ _ (omega arith) (omega arith) (omega arith)
