-- Document 01: "Selection tests pack, number, 27."
use Rattle.answer.specs.declared.Keyword.{Keyword}
use Rattle.number.specs.declared.Number.{Number}
use Rattle.answer.specs.declared.Refusal.{Refusal}
use Rattle.std.specs.Prelude.{Err, Ok, Result, List, ℕ}
use Rattle.number.specs.Reading.{read_number}
use Rattle.pack_rules.specs.Syntax.{Rule}
use Rattle.pack_grammar.specs.Reader.{PackAnswer, read_pack}
use Rattle.pack_grammar.specs.Reader.PackAnswer.{Rules, Refused as PackRefused}
use Rattle.select.specs.Select.{selection}

abbrev pub select_number : List Rule → Result Number Refusal → Result Keyword Refusal
select_number rules (Ok x) = selection rules x
select_number rules (Err r) = Err r

abbrev pub select_rules : PackAnswer → Result Number Refusal → Result Keyword Refusal
select_rules (Rules rules) x = select_number rules x
select_rules (PackRefused r) x = Err r

-- the word that a pack's text gives a number's text
abbrev pub select_of : List ℕ → List ℕ → Result Keyword Refusal
select_of pack number = select_rules (read_pack pack) (read_number number)
