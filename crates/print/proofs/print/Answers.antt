-- `print::print` reads symbols, pattern and number, each of which may be refused, and prints the number.
use mathlib.Core.Path.{sym, ◌∙◌}
use Rattle.print.proofs.Ready.{ready_within, ready_size}
use Rattle.print.proofs.print.Goals as goal

pub print_number-requires : goal.print_number-requires
print_number-requires c =
    let a = c.args in
    let es = sym c.read_symbols.ensures ∙ c.in_ok-read_symbols.was in
    let ep = sym c.read_pattern.ensures ∙ c.in_ok-p.was in
    let en = sym c.read_number.ensures ∙ c.in_ok-n.was in
    record {
      rounds = ready_within a.pattern.now a.number.now c.in_ok-p.p c.in_ok-n.n ep en;
      text_fits = ready_size a.symbols.now a.pattern.now c.in_ok-p.p c.in_ok-n.n es ep;
    }

pub returns : goal.returns
returns c =
    let es = sym c.read_symbols.ensures ∙ c.in_ok-read_symbols.was in
    let ep = sym c.read_pattern.ensures ∙ c.in_ok-p.was in
    let en = sym c.read_number.ensures ∙ c.in_ok-n.was in
    record {
      value = rw (es, ep, en) c.print_number.ensures.value;
      out_after = rw (es, ep, en) c.print_number.ensures.out_after;
    }
