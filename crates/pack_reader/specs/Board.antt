-- The arrays of a pack while it is read, and how a token changes them. A relation, a clause and a rule are stored when the token behind them closes them.
use Rattle.std.specs.Prelude.{◌≡◌, Bool, false, List, [], ◌∷◌, ℕ, ◌*◌, ◌-◌, ltb, length, take, drop, None, if◌then◌else◌}
use Rattle.pack_rules.specs.Room.{range_room, relation_room, clause_room, rule_room}
use Rattle.pack_rules.specs.declared.Pack.{Pack}
use Rattle.pack_token.specs.Token.{Token, tokens}
use Rattle.pack_grammar.specs.Limits.{max_bytes}
use Rattle.pack_grammar.specs.Grammar.{Text, semi}
use Rattle.pack_phase.specs.declared.Phase.TheVariants.{Name}
use Rattle.pack_counts.specs.declared.Counts.{Counts}
use Rattle.pack_counts.specs.declared.Closes.{Closes}
use Rattle.pack_walk.specs.Steps.{step_after}
use Rattle.pack_walk.specs.declared.Current.{Current}
use Rattle.pack_walk.specs.declared.Walk.{Walk}
use Rattle.pack_columns.specs.Stored.{set_if, set_row_if, row_for}

-- ---- the arrays

pub record Arrays : Type 0 where
  pub low : List ℕ
  pub high : List ℕ
  pub columns : List ℕ
  pub relations : List ℕ
  pub keyword : List ℕ
  pub clauses : List ℕ

abbrev pub arrays_of : List ℕ → List ℕ → List ℕ → List ℕ → List ℕ → List ℕ → Arrays
arrays_of low high columns relations keyword clauses =
    record {
      low = low;
      high = high;
      columns = columns;
      relations = relations;
      keyword = keyword;
      clauses = clauses;
    }

-- for a token that starts a range or ends one, has this value and closes so much; c and d: the counts before and behind the token
abbrev pub filled : Bool → Bool → ℕ → Closes → Counts → Counts → Current → Arrays → Arrays
filled starts ends v x c d o a =
    record {
      low = set_if starts a.low c.ranges v;
      high = set_if ends (set_if starts a.high c.ranges v) (c.ranges - 1) v;
      columns = set_row_if x.relation a.columns c.relations (row_for o c.ranges);
      relations = set_if x.clause a.relations c.clauses d.relations;
      keyword = set_if x.rule a.keyword c.rules o.key;
      clauses = set_if x.rule a.clauses c.rules d.clauses;
    }

pub record Board : Type 0 where
  pub walk : Walk
  pub arrays : Arrays

abbrev pub board_of : Walk → List ℕ → List ℕ → List ℕ → List ℕ → List ℕ → List ℕ → Board
board_of w low high columns relations keyword clauses =
    record { walk = w; arrays = arrays_of low high columns relations keyword clauses }

abbrev pub start_walk : Walk
start_walk =
    record {
      phase = Name;
      counts = record { ranges = 0; relations = 0; clauses = 0; rules = 0; values = 0; joined = 0; parted = 0 };
      current = record { key = 0; operand = 0; modulus = 0; negated = false; low = 0; other = false };
      mark = record { stop = 0; fault = None };
    }

abbrev pub board_after : Board → Text → ℕ → Board
board_after b t at =
    let w = b.walk in
    let g = step_after t at b.arrays.keyword w in
    record {
      walk = g.walk;
      arrays = filled g.starts g.ends g.value g.closes w.counts g.walk.counts w.current b.arrays;
    }

abbrev pub boards : Board → List Token → Board
boards b [] = b
boards b (t ∷ ts) = boards (board_after b t.text t.at) ts

-- the token of m bytes at a place of a text; behind the text, its end
abbrev pub token_at : Text → Text → ℕ → ℕ → Text
token_at s end at m = if ltb at (length s) then take m (drop at s) else end

-- a text, or nothing of it where it is too long
abbrev pub within4096 : Text → Text
within4096 s = if ltb max_bytes (length s) then [] else s

-- ---- the whole pack

pub record Sized (a : Arrays) : Type 0 where
  pub low : length a.low ≡ range_room
  pub high : length a.high ≡ range_room
  pub columns : length a.columns ≡ 4 * relation_room
  pub relations : length a.relations ≡ clause_room
  pub keyword : length a.keyword ≡ rule_room
  pub clauses : length a.clauses ≡ rule_room

-- the board behind a pack's tokens and a last `;`
abbrev pub last_board : Arrays → Text → Board
last_board a s = board_after (boards (record { walk = start_walk; arrays = a }) (tokens 0 s)) semi (length s)

-- the pack of n rules in these arrays
abbrev pub pack_of : Arrays → ℕ → Pack
pack_of a n =
    record {
      low = a.low;
      high = a.high;
      columns = a.columns;
      relations = a.relations;
      keyword = a.keyword;
      clauses = a.clauses;
      count = n;
    }
