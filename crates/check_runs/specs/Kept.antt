-- The relations of a clause by place, the levels that are marked, and what is kept of each relation: how far it says the same.
use Rattle.std.specs.Prelude.{◌≡◌, Bool, true, false, List, ℕ, ◌+◌, ◌-◌, ◌≤◌, ◌<◌, ltb, get_or, if◌then◌else◌}
use Rattle.pack_rules.specs.Syntax.{Relation}
use Rattle.pack_rules.specs.Stretch.{Table, relation_at}
use Rattle.check_laws.specs.Fast.{asked}
use Rattle.check_laws.specs.Levels.{level_in, own_one}
use Rattle.check_laws.specs.declared.Query.{Query}
use Rattle.check_laws.specs.declared.Span.{Span}
use Rattle.check_relation.specs.Runs.{tier}

-- how many relations of a clause have room for what is kept of each
abbrev pub kept_room : ℕ
kept_room = 16

-- how many relations the clause has, and where the one of index k stands
abbrev pub size_of : Span → ℕ
size_of s = (s.to - s.from) + (s.stop - s.start)

abbrev pub place_of : Span → ℕ → ℕ
place_of s k = if ltb k (s.to - s.from) then s.from + k else s.start + (k - (s.to - s.from))

-- the level of a relation that is asked is marked
abbrev pub Noted : Query → Relation → List Bool → Type 0
Noted q r marks = asked q r ≡ true → get_or marks (level_in q r) false ≡ true

-- what is marked stays so
abbrev pub Grown : List Bool → List Bool → Type 0
Grown old new = (j : ℕ) → get_or old j false ≡ true → get_or new j false ≡ true

-- tiers has the level of each relation
abbrev pub Told : Table → Span → Query → List ℕ → Type 0
Told T s q tiers = (k : ℕ) → k < size_of s → get_or tiers k 0 ≡ tier q (relation_at T (place_of s k))

-- At level j, each relation says `says` of every number from p on that is before its `stop`.
abbrev pub Kept : Table → Span → Query → ℕ → ℕ → List Bool → List ℕ → Type 0
Kept T s q j p says stop = (k : ℕ) → k < size_of s → (x : ℕ) → p ≤ x → x < get_or stop k 0 → own_one q j (relation_at T (place_of s k)) x ≡ get_or says k false

-- the first n of `list` are the indices below k that are told to be of the level
pub record Gathered (tiers : List ℕ) (level : ℕ) (list : List ℕ) (n k : ℕ) : Type 0 where
  pub few : n ≤ k
  pub each : (i : ℕ) → i < n → (get_or list i 0 < k) × (get_or tiers (get_or list i 0) 0 ≡ level)
  pub covers : (P : ℕ → Bool) → ((i : ℕ) → i < n → P (get_or list i 0) ≡ true) → (m : ℕ) → m < k → get_or tiers m 0 ≡ level → P m ≡ true

-- those of `list` are relations of level j, and one of another place asks nothing there that they do not
pub record Listed (T : Table) (s : Span) (q : Query) (j : ℕ) (list : List ℕ) (count : ℕ) : Type 0 where
  pub level : j < 9
  pub few : count ≤ kept_room
  pub each : (i : ℕ) → i < count → (get_or list i 0 < size_of s) × (j ≡ tier q (relation_at T (place_of s (get_or list i 0))))
  pub covers : (x : ℕ) → ((i : ℕ) → i < count → own_one q j (relation_at T (place_of s (get_or list i 0))) x ≡ true) → (k : ℕ) → k < size_of s → own_one q j (relation_at T (place_of s k)) x ≡ true
