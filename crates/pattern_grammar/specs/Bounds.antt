-- The bounds of what is read of a pattern, as document 01's rows 34 and 35 and its grammar leave them.
use Rattle.std.specs.Prelude.{◌≤◌, ◌<◌}
use Rattle.pattern_reader.specs.Limits.{max_whole, max_fraction, max_step}
use Rattle.pattern_reader.specs.declared.Pattern.{Pattern}

pub record Bounds (p : Pattern) : Type 0 where
  pub step_least : 1 ≤ p.step
  pub step_most : p.step ≤ max_step
  pub least_most : p.least ≤ max_whole
  pub fraction_most : p.fraction ≤ p.most
  pub most_most : p.most ≤ max_fraction
  pub primary_most : p.primary ≤ max_whole
  pub secondary_most : p.secondary ≤ max_whole
  -- with groups, no group is empty
  pub secondary_least : 0 < p.primary → 0 < p.secondary
