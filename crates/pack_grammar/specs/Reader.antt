-- Reading a pack: refusals 20 to 26 of document 01's table, or the rules.
use Rattle.std.specs.Prelude.{Bool, true, false, List, [], ◌∷◌, map, ℕ, suc, ◌+◌, ltb, eqb, length, if◌then◌else◌}
use Rattle.decimal.specs.Digits.{value}
use Rattle.decimal.specs.Split.{split}
use Rattle.answer.specs.declared.PackRow.{PackRow}
use Rattle.answer.specs.declared.PackRow.TheVariants.{NotAPack, ValueTooLarge, UnlistedModulus, RangeReversed, BadKeyword, TooMany}
use Rattle.answer.specs.declared.Refusal.{Refusal}
use Rattle.answer.specs.declared.Refusal.TheVariants.{PackTooLong, Pack}
use Rattle.pack_rules.specs.Syntax.{Rule}
use Rattle.pack_token.specs.Spelling.{among}
use Rattle.pack_token.specs.Token.{Token, tokens}
use Rattle.pack_grammar.specs.Limits.{max_bytes, max_clauses, max_relations, max_ranges, max_value, is_modulus, keywords}
use Rattle.pack_grammar.specs.Grammar.{Text, RuleTree}
use Rattle.pack_grammar.specs.RuleOf.{rule_of}
use Rattle.pack_grammar.specs.Steps.{State, step, Read, ends}
use Rattle.pack_grammar.specs.Steps.State.{WantsName, WantsColon, WantsNothing, WantsOperand, HasOperand, WantsModulus, HasModulus, WantsValue, HasValue, WantsUpper, HasUpper, Dead}
use Rattle.pack_grammar.specs.Steps.Read.{Whole, Cut}

-- ---- segments: what stands between the semicolons or the pack's ends, one more than there are semicolons. No token holds the byte `;`.

abbrev pub segments : Text → List Text
segments s = split 59 s

-- ---- 21: "start of the first token or stray byte no well-formed pack could have there, else the length"

abbrev pub is_dead : State → Bool
is_dead WantsName = false
is_dead (WantsColon k) = false
is_dead (WantsNothing k) = false
is_dead (WantsOperand f) = false
is_dead (HasOperand f o) = false
is_dead (WantsModulus f o) = false
is_dead (HasModulus f o m) = false
is_dead (WantsValue f h vs) = false
is_dead (HasValue f h vs a) = false
is_dead (WantsUpper f h vs a) = false
is_dead (HasUpper f h vs a b) = false
is_dead Dead = true

-- a segment's rule, or the place of the first token that may not stand there, else the segment's end: the place of its `;`, or the length
pub data Stop : Type 0 where
  Fine : RuleTree → Stop
  Stuck : ℕ → Stop

abbrev pub at_end : ℕ → Read → Stop
at_end end (Whole r) = Fine r
at_end end Cut = Stuck end

abbrev pub stop : State → List Token → ℕ → Stop
stop s [] end = at_end end (ends s)
stop s (t ∷ ts) end =
    let later = stop (step s t.text) ts end in
    if is_dead (step s t.text) then Stuck t.at else later

-- the rules of the segments from a place on, or the first place of 21
pub data Parsed : Type 0 where
  Trees : List RuleTree → Parsed
  Bad : ℕ → Parsed

abbrev pub and_then : Stop → Parsed → Parsed
and_then (Stuck p) q = Bad p
and_then (Fine r) (Trees rs) = Trees (r ∷ rs)
and_then (Fine r) (Bad p) = Bad p

abbrev pub rules_from : ℕ → List Text → Parsed
rules_from at [] = Trees []
rules_from at (x ∷ xs) = and_then (stop WantsName (tokens at x) (at + length x)) (rules_from (suc (at + length x)) xs)

-- ---- 22 to 26

-- The number of the row that a token which may stand there falls under, the lowest first, else 0: 22 "relation value above 999,999", 23 "modulus
-- not listed", 24 "a above b", 25 "keyword unknown", 26 "clause, relation or range too many". A repeated keyword: `again`, below.
abbrev pub trouble : State → Text → ℕ
trouble WantsName t = if among t keywords then 0 else 25
trouble (WantsColon k) t = 0
trouble (WantsNothing k) t = 0
trouble (WantsOperand f) t =
    if ltb (length f.clauses) max_clauses then (if ltb (length f.relations) max_relations then 0 else 26) else 26
trouble (HasOperand f o) t = 0
trouble (WantsModulus f o) t = if is_modulus (value t) then 0 else 23
trouble (HasModulus f o m) t = 0
trouble (WantsValue f h vs) t = if ltb max_value (value t) then 22 else if ltb (length vs) max_ranges then 0 else 26
trouble (HasValue f h vs a) t = 0
trouble (WantsUpper f h vs a) t = if ltb max_value (value t) then 22 else if ltb (value t) (value a) then 24 else 0
trouble (HasUpper f h vs a b) t = 0
trouble Dead t = 0

-- a row's number and its place
pub data Fault : Type 0 where
  None : Fault
  At : ℕ → ℕ → Fault

abbrev pub or_else : Fault → Fault → Fault
or_else None g = g
or_else (At n p) g = At n p

-- "22 to 26 go by the earliest place, then the lowest number": every fault stands at a token's start, so the first token with one has it
abbrev pub fault_at : ℕ → ℕ → Fault
fault_at n p = if eqb n 0 then None else At n p

abbrev pub fault_in : State → List Token → Fault
fault_in s [] = None
fault_in s (t ∷ ts) = or_else (fault_at (trouble s t.text) t.at) (fault_in (step s t.text) ts)

-- 25 "keyword repeated": a segment's keyword is that of a segment before
abbrev pub keyword_in : List Token → Text
keyword_in [] = []
keyword_in (t ∷ ts) = t.text

abbrev pub again : List Text → List Token → Fault
again used [] = None
again used (t ∷ ts) = if among t.text used then At 25 t.at else None

-- the first fault of the segments from a place on, behind segments with these keywords
abbrev pub fault_from : List Text → ℕ → List Text → Fault
fault_from used at [] = None
fault_from used at (x ∷ xs) =
    or_else (again used (tokens at x))
    (or_else (fault_in WantsName (tokens at x)) (fault_from (keyword_in (tokens at x) ∷ used) (suc (at + length x)) xs))

-- ---- the answer

-- 22 to 26 as rows
abbrev pub row_of : ℕ → PackRow
row_of n =
    if eqb n 22 then ValueTooLarge else
    if eqb n 23 then UnlistedModulus else
    if eqb n 24 then RangeReversed else
    if eqb n 25 then BadKeyword else
    TooMany

pub data PackAnswer : Type 0 where
  Rules : List Rule → PackAnswer
  Refused : Refusal → PackAnswer

abbrev pub refused_at : PackRow → ℕ → PackAnswer
refused_at row p = Refused (Pack row (record { 0 = p }))

-- "Within one input the lowest number wins, but 22 to 26 go by the earliest place": 21 anywhere before 22 to 26 anywhere
abbrev pub judge : Parsed → Fault → PackAnswer
judge (Bad p) f = refused_at NotAPack p
judge (Trees rs) None = Rules (map rule_of rs)
judge (Trees rs) (At n p) = refused_at (row_of n) p

abbrev pub read_pack : Text → PackAnswer
read_pack s =
    if ltb max_bytes (length s) then Refused PackTooLong else
    judge (rules_from 0 (segments s)) (fault_from [] 0 (segments s))
