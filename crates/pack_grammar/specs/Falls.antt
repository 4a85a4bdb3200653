-- Rows 22 to 26 of document 01's table, over a pack's tree: the rows that each of its tokens falls under, and which of them is given.
use Rattle.std.specs.Prelude.{◌≡◌, Bool, true, not, ℕ, suc, ◌≤◌, ltb, leb, length, if◌then◌else◌}
use mathlib.Core.List.{List, [], ◌∷◌, ◌++◌, map, Memᴰ}
use Rattle.decimal.specs.Choice.{either}
use Rattle.decimal.specs.Digits.{value}
use Rattle.pack_rules.specs.Syntax.{Rule}
use Rattle.pack_token.specs.Spelling.{among}
use Rattle.pack_token.specs.Token.{Token, tokens}
use Rattle.pack_grammar.specs.Limits.{max_bytes, max_clauses, max_relations, max_ranges, max_value, is_modulus, keywords}
use Rattle.pack_grammar.specs.Grammar.{Text, RangeTree, HeadTree, RelationTree, ClauseTree, RuleTree, PackTree, name_of, rules_of, of_pack, right_pack}
use Rattle.pack_grammar.specs.Grammar.RangeTree.{One, Span}
use Rattle.pack_grammar.specs.Grammar.HeadTree.{Plain, Modulo}
use Rattle.pack_grammar.specs.Grammar.RelationTree.{Rel}
use Rattle.pack_grammar.specs.Grammar.ClauseTree.{Joined}
use Rattle.pack_grammar.specs.Grammar.RuleTree.{Bare, Named}
use Rattle.pack_grammar.specs.Grammar.PackTree.{Parted}
use Rattle.pack_grammar.specs.RuleOf.{rule_of}
use Rattle.pack_grammar.specs.WellFormed.{texts}
use Rattle.pack_grammar.specs.Within.{Within}

-- ---- the rows that each token falls under, in the tokens' order

abbrev pub when : Bool → ℕ → List ℕ
when b n = if b then n ∷ [] else []

-- 22: "relation value above 999,999"
abbrev pub value_rows : Text → List ℕ
value_rows a = when (ltb max_value (value a)) 22

-- 26: a value or range behind k others of its relation; 24: "a above b", at b
abbrev pub range_rows : ℕ → RangeTree → List (List ℕ)
range_rows k (One a) = (value_rows a ++ when (leb max_ranges k) 26) ∷ []
range_rows k (Span a b) =
    (value_rows a ++ when (leb max_ranges k) 26) ∷ [] ∷ (value_rows b ++ when (ltb (value b) (value a)) 24) ∷ []

-- 26, where its relation or clause is one too many: at the operand; 23: "modulus not listed"
abbrev pub rows_of_head : Bool → HeadTree → List (List ℕ)
rows_of_head many (Plain o n) = when many 26 ∷ [] ∷ []
rows_of_head many (Modulo o m n) = when many 26 ∷ [] ∷ when (not (is_modulus (value m))) 23 ∷ [] ∷ []

-- those of some in their order, the first behind i others; what stands between two falls under none
abbrev pub in_turn : {A : Type 0} → (ℕ → A → List (List ℕ)) → ℕ → List A → A → List (List ℕ)
in_turn f i [] x = f i x
in_turn f i (y ∷ ys) x = f i y ++ ([] ∷ in_turn f (suc i) ys x)

-- behind j clauses of its rule and k relations of its clause; in a clause too many each relation is one too many
abbrev pub relation_rows : ℕ → ℕ → RelationTree → List (List ℕ)
relation_rows j k (Rel h vs v) = rows_of_head (either (leb max_clauses j) (leb max_relations k)) h ++ in_turn range_rows 0 vs v

abbrev pub clause_rows : ℕ → ClauseTree → List (List ℕ)
clause_rows j (Joined rs r) = in_turn (relation_rows j) 0 rs r

-- 25: "keyword unknown or repeated"; `used`: the keywords before it
abbrev pub name_rows : List Text → Text → List ℕ
name_rows used k = when (either (not (among k keywords)) (among k used)) 25

abbrev pub rule_rows : List Text → RuleTree → List (List ℕ)
rule_rows used (Bare k) = name_rows used k ∷ [] ∷ []
rule_rows used (Named k cs c) = name_rows used k ∷ [] ∷ in_turn clause_rows 0 cs c

abbrev pub rules_rows : List Text → List RuleTree → RuleTree → List (List ℕ)
rules_rows used [] r = rule_rows used r
rules_rows used (q ∷ rs) r = rule_rows used q ++ ([] ∷ rules_rows (name_of q ∷ used) rs r)

abbrev pub pack_rows : PackTree → List (List ℕ)
pack_rows (Parted rs r) = rules_rows [] rs r

-- ---- the row that is given

-- the row n falls at the place a, of tokens that fall under these rows
pub data Falls : List Token → List (List ℕ) → ℕ → ℕ → Type 0 where
  here : {t : Token} {ts : List Token} {rs : List ℕ} {rows : List (List ℕ)} {n : ℕ} → Memᴰ n rs → Falls (t ∷ ts) (rs ∷ rows) n t.at
  later : {t : Token} {ts : List Token} {rs : List ℕ} {rows : List (List ℕ)} {n a : ℕ} → Falls ts rows n a → Falls (t ∷ ts) (rs ∷ rows) n a

-- "22 to 26 go by the earliest place, then the lowest number": the row n falls at a, none falls at an earlier place, and each that falls there is n at least
pub record Earliest (ts : List Token) (rows : List (List ℕ)) (n a : ℕ) : Type 0 where
  pub falls : Falls ts rows n a
  pub earliest : (m b : ℕ) → Falls ts rows m b → a ≤ b
  pub lowest : (m : ℕ) → Falls ts rows m a → n ≤ m

-- a pack that is short enough and has this right tree
pub record Pack (s : Text) (tree : PackTree) : Type 0 where
  pub short : length s ≤ max_bytes
  pub right : right_pack tree ≡ true
  pub tokens_are : texts (tokens 0 s) ≡ of_pack tree

-- 22 to 26
pub record Faulty (s : Text) (n a : ℕ) : Type 0 where
  pub tree : PackTree
  pub pack : Pack s tree
  pub given : Earliest (tokens 0 s) (pack_rows tree) n a

-- a pack that is read: within the bounds, and the rules are those that its tree stands for
pub record Tree (s : Text) (rs : List Rule) : Type 0 where
  pub tree : PackTree
  pub pack : Pack s tree
  pub within : Within tree
  pub rules : rs ≡ map rule_of (rules_of tree)
