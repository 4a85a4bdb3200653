-- `line::read_job` tells the job of a line from its letter and the lengths of its fields (Fields.antt).
use mathlib.Core.Path.{◌≡◌, sym}
use native.Mathlib.Omega.{arith}
use lib.ListN.{get_or}
use Rattle.line.proofs.Fields.{short_line, job_told, from_place}
use Rattle.line.proofs.read_job.Goals as goal

pub returns-in-9 : goal.returns-in-9
returns-in-9 c =
    let line = c.args.line.now in
    let tab : get_or line 1 0 ≡ 9 = omega arith in
    let n = rw (from_place line 2) at c.run_until-n.ensures.0 in
    let i = rw (from_place line 2) at c.is_last.ensures in
    let j = rw (from_place line 2) at c.job_with.ensures in
    rw (j, i, n) (job_told line c.in-9.len_at_least tab)

pub returns-in_default : goal.returns-in_default
returns-in_default c = sym (short_line c.args.line.now c.in_default.len_below)
