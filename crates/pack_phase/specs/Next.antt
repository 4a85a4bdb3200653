-- What may follow in a pack, without what has been read: the automaton that the code runs, `;` among its tokens.
use Rattle.std.specs.Prelude.{Bool, ℕ, eqb, if◌then◌else◌}
use Rattle.decimal.specs.Choice.{either}
use Rattle.pack_token.specs.Spelling.{same}
use Rattle.pack_token.specs.Token.{dots, differ}
use Rattle.pack_grammar.specs.Grammar.{Text, colon, semi, comma, percent, equal, and, or, is_word, is_number, is_operand}
use Rattle.pack_phase.specs.declared.Phase.{Phase}
use Rattle.pack_phase.specs.declared.Phase.TheVariants.{Name, Colon, Nothing, Operand, ModulusOrSign, Modulus, Sign, Value, DotsOrMore, Upper, More, Dead}

abbrev pub after_sign : Text → Phase
after_sign t = if same t equal then Value else if same t differ then Value else Dead

abbrev pub after_relation : Text → Phase
after_relation t =
    if same t comma then Value else
    if same t and then Operand else
    if same t or then Operand else
    if same t semi then Name else
    Dead

-- the phase behind a token; `x`: the token before was `other`
abbrev pub next_phase : Phase → Bool → Text → Phase
next_phase Name x t = if is_word t then Colon else Dead
next_phase Colon x t = if same t colon then (if x then Nothing else Operand) else Dead
next_phase Nothing x t = if same t semi then Name else Dead
next_phase Operand x t = if is_operand t then ModulusOrSign else Dead
next_phase ModulusOrSign x t = if same t percent then Modulus else after_sign t
next_phase Modulus x t = if is_number t then Sign else Dead
next_phase Sign x t = after_sign t
next_phase Value x t = if is_number t then DotsOrMore else Dead
next_phase DotsOrMore x t = if same t dots then Upper else after_relation t
next_phase Upper x t = if is_number t then More else Dead
next_phase More x t = after_relation t
next_phase Dead x t = Dead

-- ---- which phase it is

-- a number of its own for each phase; no more is asked of the numbers
abbrev pub phase_number : Phase → ℕ
phase_number Name = 0
phase_number Colon = 1
phase_number Nothing = 2
phase_number Operand = 3
phase_number ModulusOrSign = 4
phase_number Modulus = 5
phase_number Sign = 6
phase_number Value = 7
phase_number DotsOrMore = 8
phase_number Upper = 9
phase_number More = 10
phase_number Dead = 11

abbrev pub same_phase : Phase → Phase → Bool
same_phase p q = eqb (phase_number p) (phase_number q)

-- a number is next: a modulus, a value or the upper end of a range
abbrev pub has_number : Phase → Bool
has_number p = either (same_phase p Modulus) (either (same_phase p Value) (same_phase p Upper))

-- a sign may be next
abbrev pub is_sign : Phase → Bool
is_sign p = either (same_phase p ModulusOrSign) (same_phase p Sign)

-- a relation may end: behind a value or a range
abbrev pub is_closing : Phase → Bool
is_closing p = either (same_phase p DotsOrMore) (same_phase p More)
