-- The check of a pack's text: its refusal, or that of its rules. Document 01: "A passed pack is one the check doesn't refuse."
use Rattle.check_laws.specs.declared.Clash.{Clash}
use Rattle.std.specs.Prelude.{Result, Ok, Err}
use Rattle.answer.specs.declared.Refusal.{Refusal}
use Rattle.std.specs.Prelude.{Err, Ok, Result, List, ℕ}
use Rattle.answer.specs.declared.Refusal.TheVariants.{Rules as OfRules}
use Rattle.answer.specs.declared.RulesRow.TheVariants.{RulesClash}
use Rattle.pack_grammar.specs.Reader.{PackAnswer, read_pack}
use Rattle.pack_grammar.specs.Reader.PackAnswer.{Rules, Refused as PackRefused}
use Rattle.check_laws.specs.Check.{check_of}

-- 27 "two rules met: pair; from the check also e v i f"
abbrev pub checked_by : Result (Unit {0}) Clash → Result (Unit {0}) Refusal
checked_by (Ok tt) = Ok tt
checked_by (Err c) = Err (OfRules (RulesClash c.pair c.witness))

abbrev pub check_rules : PackAnswer → Result (Unit {0}) Refusal
check_rules (Rules rules) = checked_by (check_of rules)
check_rules (PackRefused r) = Err r

abbrev pub check_pack : List ℕ → Result (Unit {0}) Refusal
check_pack pack = check_rules (read_pack pack)
