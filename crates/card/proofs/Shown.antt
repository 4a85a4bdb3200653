-- Every row of the card is right, by computation from the definitions; what the check says of the rules that are read of a pack is proved from the definition of the
-- check (check_laws/proofs/Rows.antt).
use Rattle.check_laws.specs.declared.Clash.{Clash}
use Rattle.std.specs.Prelude.{Result, Ok}
use mathlib.Core.Path.{◌≡◌, refl}
use mathlib.Core.List.{List}
use Prim.Native.Nat.{ℕ}
use Rattle.pack_rules.specs.Syntax.{Rule}
use Rattle.symbols.specs.Kinds.{kind_of}
use Rattle.layout.specs.Layout.{spell}
use Rattle.pack_grammar.specs.Reader.{read_pack}
use Rattle.pack_grammar.specs.Reader.PackAnswer.{Rules}
use Rattle.check_laws.specs.Check.{check_of}
use Rattle.check_laws.proofs.Rows.{clash, pack_tens, row_tens, pack_trailing, row_trailing, pack_seven, row_seven, pack_few, row_few}
use Rattle.check_text.specs.Check.{checked_by, check_pack}
use Rattle.card.specs.Card.{All, rows, few_pack, tens_pack, trailing_pack, seven_pack}

-- what the check says of a pack's text, from what it says of the rules that are read of it
by_rules : (pack : List ℕ) (rules : List Rule) (c : Result (Unit {0}) Clash) → read_pack pack ≡ Rules rules → check_of rules ≡ c → check_pack pack ≡ checked_by c
by_rules pack rules c e f = rw (e, f)

few_read : read_pack few_pack ≡ Rules pack_few
few_read = refl

few : check_pack few_pack ≡ checked_by (Ok tt)
few = by_rules few_pack pack_few (Ok tt) few_read row_few

tens_read : read_pack tens_pack ≡ Rules pack_tens
tens_read = refl

tens : check_pack tens_pack ≡ checked_by (clash 1 2 0 0 1 0)
tens = by_rules tens_pack pack_tens (clash 1 2 0 0 1 0) tens_read row_tens

trailing_read : read_pack trailing_pack ≡ Rules pack_trailing
trailing_read = refl

trailing : check_pack trailing_pack ≡ checked_by (clash 1 2 0 2 0 50)
trailing = by_rules trailing_pack pack_trailing (clash 1 2 0 2 0 50) trailing_read row_trailing

seven_read : read_pack seven_pack ≡ Rules pack_seven
seven_read = refl

seven : check_pack seven_pack ≡ checked_by (clash 1 2 0 0 1000007 0)
seven = by_rules seven_pack pack_seven (clash 1 2 0 0 1000007 0) seven_read row_seven

pub card : All rows
unfolding kind_of spell
card =
    (refl, (refl, (refl, (refl, (few, (tens, (trailing, (seven, (refl, (refl, (refl, (refl, (refl, (refl, tt))))))))))))))
