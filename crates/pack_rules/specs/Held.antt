-- The rules that a parsed pack's arrays hold.
use Rattle.std.specs.Prelude.{List, [], ◌∷◌, map, ℕ, ◌-◌, eqb, take, drop, if◌then◌else◌}
use Rattle.answer.specs.declared.Keyword.{Keyword}
use Rattle.answer.specs.declared.Keyword.TheVariants.{Zero, One, Two, Few, Many, Other}
use Rattle.pack_rules.specs.declared.Pack.{Pack}
use Rattle.pack_rules.specs.Syntax.{Range, Relation, Rule}

-- the parts of a list that end at these places, one behind the other, the first beginning at `from`
abbrev pub parts : {A : Type 0} → ℕ → List ℕ → List A → List (List A)
parts from [] xs = []
parts from (end ∷ ends) xs = take (end - from) (drop from xs) ∷ parts end ends xs

-- keywords by number, in document 01's order
abbrev pub keyword_of : ℕ → Keyword
keyword_of k =
    if eqb k 0 then Zero else
    if eqb k 1 then One else
    if eqb k 2 then Two else
    if eqb k 3 then Few else
    if eqb k 4 then Many else
    Other

abbrev pub ranges_from : List ℕ → List ℕ → List Range
ranges_from [] highs = []
ranges_from (a ∷ lows) [] = []
ranges_from (a ∷ lows) (b ∷ highs) = record { low = a; high = b } ∷ ranges_from lows highs

-- the numbers of a relation: its operand's letter, its modulus, its comparison's code (0 `=`, 1 `!=`), and where its ranges end
pub record Row : Type 0 where
  pub operand : ℕ
  pub modulus : ℕ
  pub comparison : ℕ
  pub end : ℕ

-- rows one behind the other, four numbers each
abbrev pub rows_of : List ℕ → List Row
rows_of [] = []
rows_of (o ∷ []) = []
rows_of (o ∷ m ∷ []) = []
rows_of (o ∷ m ∷ c ∷ []) = []
rows_of (o ∷ m ∷ c ∷ e ∷ xs) = record { operand = o; modulus = m; comparison = c; end = e } ∷ rows_of xs

abbrev pub row_ends : List Row → List ℕ
row_ends ws = map (λ (w : Row). w.end) ws

abbrev pub relations_from : List Row → List (List Range) → List Relation
relations_from [] rs = []
relations_from (w ∷ ws) [] = []
relations_from (w ∷ ws) (r ∷ rs) =
    record { operand = w.operand; modulus = w.modulus; negated = eqb w.comparison 1; ranges = r } ∷ relations_from ws rs

abbrev pub rules_from : List ℕ → List (List (List Relation)) → List Rule
rules_from [] cs = []
rules_from (k ∷ ks) [] = []
rules_from (k ∷ ks) (c ∷ cs) = record { keyword = keyword_of k; clauses = c } ∷ rules_from ks cs

abbrev pub held_ranges : Pack → List Range
held_ranges p = ranges_from p.low p.high

abbrev pub held_relations : Pack → List Relation
held_relations p = relations_from (rows_of p.columns) (parts 0 (row_ends (rows_of p.columns)) (held_ranges p))

abbrev pub held_clauses : Pack → List (List Relation)
held_clauses p = parts 0 p.relations (held_relations p)

-- the pack's rules, in the order of the text
abbrev pub held_rules : Pack → List Rule
held_rules p = rules_from (take p.count p.keyword) (parts 0 p.clauses (held_clauses p))
