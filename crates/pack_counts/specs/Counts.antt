-- What a token closes, and how many of each kind have been read behind it. A relation, a clause and a rule are closed by the token behind them.
use Rattle.std.specs.Prelude.{Bool, false, ℕ, ◌+◌, ltb, if◌then◌else◌}
use Rattle.decimal.specs.Choice.{either}
use Rattle.pack_token.specs.Spelling.{same}
use Rattle.pack_grammar.specs.Limits.{max_bytes}
use Rattle.pack_grammar.specs.Grammar.{Text, semi, and, or}
use Rattle.pack_counts.specs.declared.Counts.{Counts}
use Rattle.pack_counts.specs.declared.Closes.{Closes}

-- one more, of what a pack has fewer of than bytes
abbrev pub more_of : ℕ → ℕ
more_of n = if ltb n max_bytes then n + 1 else n

abbrev pub more_if : Bool → ℕ → ℕ
more_if b n = if b then more_of n else n

abbrev pub zero_if : Bool → ℕ → ℕ
zero_if b n = if b then 0 else n

-- ---- what a token closes

abbrev pub nothing : Closes
nothing = record { relation = false; clause = false; rule = false }

-- behind `other:`
abbrev pub ends_bare : Text → Closes
ends_bare t = record { relation = false; clause = false; rule = same t semi }

-- behind a value or range: `and` a relation, `or` a clause with it, and `;` a rule too
abbrev pub ends_relation : Text → Closes
ends_relation t =
    record {
      relation = either (same t and) (either (same t or) (same t semi));
      clause = either (same t or) (same t semi);
      rule = same t semi;
    }

abbrev pub counts_after : Counts → Bool → Closes → Counts
counts_after c is_value x =
    record {
      ranges = more_if is_value c.ranges;
      relations = more_if x.relation c.relations;
      clauses = more_if x.clause c.clauses;
      rules = more_if x.rule c.rules;
      values = zero_if x.relation (more_if is_value c.values);
      joined = zero_if x.clause (more_if x.relation c.joined);
      parted = zero_if x.rule (more_if x.clause c.parted);
    }
