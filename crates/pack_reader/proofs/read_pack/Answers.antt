-- `read_pack` takes token by token, and the end behind the last: the board so far with what is ahead gives what the first board gives with all.
use native.Mathlib.Omega.{arith}
use borrow.Author.Rules.{rules}
use mathlib.Core.Path.{refl, ap, ◌∙◌}
use Rattle.std.proofs.lemmas.Result.{err_from_is_err_and}
use Rattle.pack_reader.specs.Board.{last_board}
use Rattle.pack_reader.proofs.Boards.{arrays, stands_first, stands_last, token_ends, token_less, takes, within_le}
use Rattle.pack_reader.proofs.Sims.{told_ok, told_err}
use Rattle.pack_reader.proofs.read_pack.Goals as goal

pub loop-at-init : goal.loop-at-init
loop-at-init c =
    record {
      stands = stands_first _ _ _ _ _ c.start-w.ensures c.skip_white-at.ensures;
      sized = record {
        low = search rules;
        high = search rules;
        columns = search rules;
        relations = search rules;
        keyword = search rules;
        clauses = search rules;
      };
      none = refl;
    }

pub overflow_add-at : goal.overflow_add-at
overflow_add-at c =
    let l = c.loop-at in
    let m = c.piece_len-m in
    let s = c.within-s in
    omega (arith, within_le c.args.text.now s.result.now s.ensures, (token_ends s.result.now l.at m.result l.invariant.stands.none m.ensures c.loop-at-test.true).1)

pub loop-at-smaller : goal.loop-at-smaller
loop-at-smaller c =
    let l = c.loop-at in
    let m = c.piece_len-m in
    token_less c.within-s.result.now l.at m.result c.skip_white-at-in-loop-at.result l.invariant.stands.none m.ensures c.loop-at-test.true c.skip_white-at-in-loop-at.ensures

pub loop-at-preserved : goal.loop-at-preserved
loop-at-preserved c =
    let l = c.loop-at in
    let m = c.piece_len-m in
    let t = c.token_at-t in
    let g = c.step_after-g in
    record {
      stands =
          takes {first = arrays c.args.pack.now} l.invariant.stands t.result.now m.result c.skip_white-at-in-loop-at.result t.ensures m.ensures c.loop-at-test.true
          c.skip_white-at-in-loop-at.ensures
          c.saturating_sub.ensures g.result g.ensures
          c.put_if.ensures
          c.put_if-in-loop-at.ensures
          c.put_if-in-loop-at-2.ensures
          c.put_row.ensures
          c.put_if-in-loop-at-3.ensures
          c.put_if-in-loop-at-4.ensures
          c.put_if-in-loop-at-5.ensures;
      sized = l.invariant.sized;
      none = l.invariant.none;
    }

pub returns : goal.returns
returns c =
    let l = c.loop-at in
    let b = arrays c.args.pack.now in
    told_ok b (arrays l.pack) l.w c.args.text.now _ l.invariant.sized
    (stands_last {first = b} l.invariant.stands c.loop-at-test.false ∙ ap (last_board b) c.within-s.ensures) c.judge_all.ensures c.in_ok-pack.was

pub returns-in_err-pack : goal.returns-in_err-pack
returns-in_err-pack c =
    let l = c.loop-at in
    let b = arrays c.args.pack.now in
    let p = err_from_is_err_and c.from_residual.result c.from_residual.ensures.1 in
    rw (p.1, p.2)
    (told_err b (arrays l.pack) l.w c.args.text.now _ _ l.invariant.sized
    (stands_last {first = b} l.invariant.stands c.loop-at-test.false ∙ ap (last_board b) c.within-s.ensures) c.judge_all.ensures c.in_err-pack.was l.invariant.none)
