-- `print::print_number` refuses a written exponent, and else rounds and prints the digits.
use mathlib.Core.Path.{◌≡◌, refl}
use borrow.Author.Tests.{lt-ltb, le-ltb}
use Rattle.decimal.specs.Digits.{figures}
use Rattle.rounding.specs.Limits.{width}
use Rattle.layout.specs.Text.{digits_of}
use Rattle.print.proofs.Ready.{digits_are}
use Rattle.print.proofs.print_number.Goals as goal

pub returns-then-n-gt0 : goal.returns-then-n-gt0
returns-then-n-gt0 c =
    record {
      value = rw (lt-ltb _ _ c.if-n-gt0.true);
      out_after = rw (lt-ltb _ _ c.if-n-gt0.true);
    }

pub write_digits-requires : goal.write_digits-requires
write_digits-requires c =
    let r = c.round_into in
    let e : r.new.d ≡ digits_of c.args.p c.args.n = digits_are c.args.p c.args.n (figures width 0) r.new.d refl c.requires.rounds r.ensures.d_after in
    rw e c.requires.text_fits

pub returns : goal.returns
returns c =
    let r = c.round_into in
    let e : r.new.d ≡ digits_of c.args.p c.args.n = digits_are c.args.p c.args.n (figures width 0) r.new.d refl c.requires.rounds r.ensures.d_after in
    record {
      value = rw (le-ltb _ _ c.if-n-gt0.false) (rw e at c.write_digits.ensures.value);
      out_after = rw (le-ltb _ _ c.if-n-gt0.false) (rw e at c.write_digits.ensures.out_after);
    }
