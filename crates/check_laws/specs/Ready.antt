-- A search that has room, and the answer where it has none.
use Rattle.std.specs.Prelude.{Bool, false, ℕ, ◌*◌, ◌≤◌, leb, ltb, eqb, if◌then◌else◌}
use Rattle.pack_rules.specs.Room.{relation_room}
use Rattle.pack_rules.specs.Stretch.{Table}
use Rattle.check_laws.specs.Fast.{search}
use Rattle.check_laws.specs.Read.{cap, joined_in}
use Rattle.check_laws.specs.declared.Query.{Query}
use Rattle.check_laws.specs.declared.Span.{Span}

-- the operands of a number up to x are no more than `cap`
pub record Room (q : Query) (x : ℕ) : Type 0 where
  pub self : x ≤ cap
  pub n : x * q.n ≤ cap
  pub i : x * q.i ≤ cap
  pub f : x * q.f ≤ cap
  pub t : x * q.t ≤ cap

-- the factors of a search
pub record Fit (q : Query) : Type 0 where
  pub n : q.n ≤ 1
  pub i : q.i ≤ 1
  pub t : q.t ≤ 1
  pub f : q.f ≤ 1_000_000_000

-- the relations are within the arrays, and the operands of a number up to hi within `cap`
abbrev pub ready : Span → Query → ℕ → ℕ → Bool
ready s q lo hi =
    if ltb hi lo then false else
    if ltb relation_room s.to then false else
    if ltb relation_room s.stop then false else
    if ltb 1 q.n then false else
    if ltb 1 q.i then false else
    if ltb 1 q.t then false else
    if eqb q.f 0 then leb hi cap else
    if ltb 1000000000 q.f then false else
    leb hi 1000000000

abbrev pub least_in : Table → Span → Query → ℕ → ℕ → ℕ
least_in T s q lo hi = if ready s q lo hi then search q (joined_in T s) lo hi else hi
