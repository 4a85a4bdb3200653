-- Reading the tokens of one segment, one after the other: what has been read, and what may follow.
use Rattle.std.specs.Prelude.{Bool, true, false, List, [], ◌∷◌, ◌++◌, if◌then◌else◌}
use Rattle.pack_token.specs.Spelling.{same}
use Rattle.pack_grammar.specs.Grammar.{Text, colon, comma, percent, equal, and, or, other, is_word, is_number, is_operand, RangeTree, HeadTree, RelationTree, ClauseTree, RuleTree}
use Rattle.pack_token.specs.Token.{differ, dots}
use Rattle.pack_grammar.specs.Grammar.RangeTree.{One, Span}
use Rattle.pack_grammar.specs.Grammar.HeadTree.{Plain, Modulo}
use Rattle.pack_grammar.specs.Grammar.RelationTree.{Rel}
use Rattle.pack_grammar.specs.Grammar.ClauseTree.{Joined}
use Rattle.pack_grammar.specs.Grammar.RuleTree.{Bare, Named}

-- what stands before a relation: the keyword, whole clauses with `or` after each, and relations with `and` after each
pub record Front : Type 0 where
  pub name : Text
  pub clauses : List ClauseTree
  pub relations : List RelationTree

pub data State : Type 0 where
  WantsName : State
  WantsColon : Text → State
  WantsNothing : Text → State
  WantsOperand : Front → State
  HasOperand : Front → Text → State
  WantsModulus : Front → Text → State
  HasModulus : Front → Text → Text → State
  WantsValue : Front → HeadTree → List RangeTree → State
  HasValue : Front → HeadTree → List RangeTree → Text → State
  WantsUpper : Front → HeadTree → List RangeTree → Text → State
  HasUpper : Front → HeadTree → List RangeTree → Text → Text → State
  Dead : State

-- a relation is whole: `,` goes on with its values, `and` with the clause, `or` with the condition
abbrev pub go_on : Front → HeadTree → List RangeTree → RangeTree → Text → State
go_on f h vs v t =
    if same t comma then WantsValue f h (vs ++ (v ∷ [])) else
    if same t and then
    WantsOperand (record { name = f.name; clauses = f.clauses; relations = f.relations ++ (Rel h vs v ∷ []) })
    else
    if same t or then
    WantsOperand
    (record { name = f.name; clauses = f.clauses ++ (Joined f.relations (Rel h vs v) ∷ []); relations = [] })
    else Dead

abbrev pub signed : Front → (Bool → HeadTree) → Text → State
signed f h t =
    if same t equal then WantsValue f (h false) [] else if same t differ then WantsValue f (h true) [] else Dead

abbrev pub step : State → Text → State
step WantsName t = if is_word t then WantsColon t else Dead
step (WantsColon k) t =
    if same t colon then
    (if same k other then WantsNothing k else WantsOperand (record { name = k; clauses = []; relations = [] }))
    else Dead
step (WantsNothing k) t = Dead
step (WantsOperand f) t = if is_operand t then HasOperand f t else Dead
step (HasOperand f o) t = if same t percent then WantsModulus f o else signed f (Plain o) t
step (WantsModulus f o) t = if is_number t then HasModulus f o t else Dead
step (HasModulus f o m) t = signed f (Modulo o m) t
step (WantsValue f h vs) t = if is_number t then HasValue f h vs t else Dead
step (HasValue f h vs a) t = if same t dots then WantsUpper f h vs a else go_on f h vs (One a) t
step (WantsUpper f h vs a) t = if is_number t then HasUpper f h vs a t else Dead
step (HasUpper f h vs a b) t = go_on f h vs (Span a b) t
step Dead t = Dead

abbrev pub steps : State → List Text → State
steps s [] = s
steps s (t ∷ ts) = steps (step s t) ts

-- a segment's reading: a rule, if it may end here
pub data Read : Type 0 where
  Whole : RuleTree → Read
  Cut : Read

abbrev pub ends : State → Read
ends WantsName = Cut
ends (WantsColon k) = Cut
ends (WantsNothing k) = Whole (Bare k)
ends (WantsOperand f) = Cut
ends (HasOperand f o) = Cut
ends (WantsModulus f o) = Cut
ends (HasModulus f o m) = Cut
ends (WantsValue f h vs) = Cut
ends (HasValue f h vs a) = Whole (Named f.name f.clauses (Joined f.relations (Rel h vs (One a))))
ends (WantsUpper f h vs a) = Cut
ends (HasUpper f h vs a b) = Whole (Named f.name f.clauses (Joined f.relations (Rel h vs (Span a b))))
ends Dead = Cut
