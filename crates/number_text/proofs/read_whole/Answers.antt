-- `number_text::read_whole` cuts off the integer digits.
use Rattle.decimal.proofs.Runs.{of_run}
use Rattle.decimal.specs.Digits.{is_digit}
use Rattle.number_text.proofs.read_whole.Goals as goal

pub read_point-requires : goal.read_point-requires
read_point-requires c = rw (c.split_at.ensures.front, c.digit_run.ensures.0) (of_run is_digit c.args.s.now)
