-- `bench_line::append_job` answers the job of a line.
use Rattle.area.proofs.Pieces.{renamed}
use Rattle.bench_line.proofs.Answers.{answer_of_law, select_text, check_text_law, format_text_law}
use Rattle.bench_line.proofs.append_job.Goals as goal

pub returns-in-SelectAt : goal.returns-in-SelectAt
returns-in-SelectAt c =
    let line = c.args.line.now in
    let f = c.after-fields in
    let j = c.read_job in
    let u = c.upto in
    let b = c.after in
    let m = c.after-number in
    let t = c.select in
    renamed (answer_of_law line j.result _ _ j.ensures c.in-SelectAt.is (select_text line f.result.now u.result.now b.result.now m.result.now c.in-SelectAt.n t.result f.ensures u.ensures b.ensures m.ensures t.ensures)) c.append_selection.ensures

pub returns-in-CheckAt : goal.returns-in-CheckAt
returns-in-CheckAt c =
    let line = c.args.line.now in
    let f = c.after-fields in
    let j = c.read_job in
    let t = c.check in
    renamed (answer_of_law line j.result _ _ j.ensures c.in-CheckAt.is (check_text_law line f.result.now t.result f.ensures t.ensures)) c.append_check.ensures

pub returns-in-FormatAt : goal.returns-in-FormatAt
returns-in-FormatAt c =
    let line = c.args.line.now in
    let f = c.after-fields in
    let j = c.read_job in
    let u = c.upto-in-FormatAt in
    let b = c.after-in-FormatAt in
    let m = c.after-number-in-FormatAt in
    renamed (answer_of_law line j.result _ _ j.ensures c.in-FormatAt.is (format_text_law line f.result.now u.result.now b.result.now m.result.now c.in-FormatAt.n f.ensures u.ensures b.ensures m.ensures)) c.append_format.ensures
