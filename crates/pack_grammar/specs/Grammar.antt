-- The pack grammar of document 01, over tokens, from tree to tokens: a well-formed pack is the tokens of some right tree. A token is its bytes.
use Rattle.std.specs.Prelude.{Bool, not, List, [], ◌∷◌, ◌++◌, ℕ, get_or, if◌then◌else◌}
use Rattle.decimal.specs.Choice.{both}
use Rattle.decimal.specs.Digits.{is_digit}
use Rattle.decimal.specs.Lists.{all}
use Rattle.pack_token.specs.Spelling.{same, among}
use Rattle.pack_token.specs.Token.{is_letter, dots, differ}

abbrev pub Text : Type 0
Text = List ℕ

-- ---- the tokens that stand for themselves; `..` and `!=` are the token crate's

abbrev pub colon : Text
colon = 58 ∷ []

abbrev pub semi : Text
semi = 59 ∷ []

abbrev pub comma : Text
comma = 44 ∷ []

abbrev pub percent : Text
percent = 37 ∷ []

abbrev pub equal : Text
equal = 61 ∷ []

abbrev pub and : Text
and = 97 ∷ 110 ∷ 100 ∷ []

abbrev pub or : Text
or = 111 ∷ 114 ∷ []

abbrev pub other : Text
other = 111 ∷ 116 ∷ 104 ∷ 101 ∷ 114 ∷ []

-- "an operand (n i f t v w c e)"
abbrev pub operands : List Text
operands =
    (110 ∷ []) ∷ (105 ∷ []) ∷ (102 ∷ []) ∷ (116 ∷ []) ∷ (118 ∷ []) ∷ (119 ∷ []) ∷ (99 ∷ []) ∷ (101 ∷ []) ∷ []

-- what kind of token it is: a run of letters or of digits is told by its first byte
abbrev pub is_word : Text → Bool
is_word t = is_letter (get_or t 0 0)

abbrev pub is_number : Text → Bool
is_number t = is_digit (get_or t 0 0)

abbrev pub is_operand : Text → Bool
is_operand t = among t operands

-- ---- trees

-- "values or ranges `a..b`"
pub data RangeTree : Type 0 where
  One : Text → RangeTree
  Span : Text → Text → RangeTree

-- "an operand, optionally `%` and a modulus, then `=` or `!=`"; true is `!=`
pub data HeadTree : Type 0 where
  Plain : Text → Bool → HeadTree
  Modulo : Text → Text → Bool → HeadTree

-- "then values or ranges `a..b` apart by commas": all but the last, and the last
pub data RelationTree : Type 0 where
  Rel : HeadTree → List RangeTree → RangeTree → RelationTree

-- "a clause is relations joined by `and`, which binds tighter"
pub data ClauseTree : Type 0 where
  Joined : List RelationTree → RelationTree → ClauseTree

-- "A rule is a keyword, `:` and a condition; `other:` has none"; "A condition is clauses joined by `or`"
pub data RuleTree : Type 0 where
  Bare : Text → RuleTree
  Named : Text → List ClauseTree → ClauseTree → RuleTree

-- "A pack is one or more rules parted by `;`, with none after the last"
pub data PackTree : Type 0 where
  Parted : List RuleTree → RuleTree → PackTree

abbrev pub name_of : RuleTree → Text
name_of (Bare k) = k
name_of (Named k cs c) = k

-- the rules of a pack, in their order
abbrev pub rules_of : PackTree → List RuleTree
rules_of (Parted rs r) = rs ++ (r ∷ [])

-- ---- the tokens of a tree

-- every one written, and `sep` after it
abbrev pub each : {A : Type 0} → (A → List Text) → Text → List A → List Text
each w sep [] = []
each w sep (x ∷ xs) = w x ++ (sep ∷ each w sep xs)

abbrev pub of_range : RangeTree → List Text
of_range (One a) = a ∷ []
of_range (Span a b) = a ∷ dots ∷ b ∷ []

abbrev pub sign : Bool → Text
sign negated = if negated then differ else equal

abbrev pub of_head : HeadTree → List Text
of_head (Plain o n) = o ∷ sign n ∷ []
of_head (Modulo o m n) = o ∷ percent ∷ m ∷ sign n ∷ []

abbrev pub of_relation : RelationTree → List Text
of_relation (Rel h vs v) = of_head h ++ (each of_range comma vs ++ of_range v)

abbrev pub of_clause : ClauseTree → List Text
of_clause (Joined rs r) = each of_relation and rs ++ of_relation r

abbrev pub of_rule : RuleTree → List Text
of_rule (Bare k) = k ∷ colon ∷ []
of_rule (Named k cs c) = k ∷ colon ∷ (each of_clause or cs ++ of_clause c)

abbrev pub of_pack : PackTree → List Text
of_pack (Parted rs r) = each of_rule semi rs ++ of_rule r

-- ---- right trees: operands are operands, numbers are numbers, keywords are words ("any a-z word serves as keyword"), and `other` alone, and
-- always, has no condition

abbrev pub right_range : RangeTree → Bool
right_range (One a) = is_number a
right_range (Span a b) = both (is_number a) (is_number b)

abbrev pub right_head : HeadTree → Bool
right_head (Plain o n) = is_operand o
right_head (Modulo o m n) = both (is_operand o) (is_number m)

abbrev pub right_relation : RelationTree → Bool
right_relation (Rel h vs v) = both (right_head h) (both (all right_range vs) (right_range v))

abbrev pub right_clause : ClauseTree → Bool
right_clause (Joined rs r) = both (all right_relation rs) (right_relation r)

abbrev pub right_rule : RuleTree → Bool
right_rule (Bare k) = same k other
right_rule (Named k cs c) = both (is_word k) (both (not (same k other)) (both (all right_clause cs) (right_clause c)))

abbrev pub right_pack : PackTree → Bool
right_pack (Parted rs r) = both (all right_rule rs) (right_rule r)
