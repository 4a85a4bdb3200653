-- `bench_line::append_format` writes the text the printer left in its area, or the refusal.
use mathlib.Core.Path.{◌≡◌, ap, ◌∙◌}
use mathlib.Core.List.{List, []}
use Prim.Native.Nat.{ℕ}
use lib.ListN.{length, take, replicate, length-replicate}
use Rattle.print.specs.Outcome.{outcome}
use Rattle.area.proofs.Pieces.{renamed}
use Rattle.bench_line.specs.Lines.{max_output, printed_text}
use Rattle.bench_line.proofs.Answers.{text_answer, refused_answer}
use Rattle.bench_line.proofs.append_format.Goals as goal

abbrev blank : List ℕ
blank = replicate max_output 0

blank-length : length blank ≡ max_output
blank-length = length-replicate {A = ℕ} max_output 0

pub returns-in-Ok : goal.returns-in-Ok
returns-in-Ok c =
    let a = c.args in
    let p = c.print in
    let o = outcome [] a.pattern.now a.number.now in
    let u = c.upto.ensures ∙ ap (take c.in-Ok.n) p.ensures.out_after in
    renamed (ap printed_text u ∙ text_answer o blank c.in-Ok.n p.result blank-length p.ensures.value c.in-Ok.is) c.append_text.ensures

pub returns-in-Err : goal.returns-in-Err
returns-in-Err c =
    let a = c.args in
    let p = c.print in
    let o = outcome [] a.pattern.now a.number.now in
    renamed (refused_answer o blank c.in-Err.refusal p.result blank-length p.ensures.value c.in-Err.is) c.append_refusal.ensures
