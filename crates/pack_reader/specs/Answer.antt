-- The answer to a pack, as `read_pack` returns it: that it is read, with its rules in the caller's pack, or the refusal.
use Rattle.answer.specs.declared.Refusal.{Refusal}
use Rattle.std.specs.Prelude.{Err, Ok, Result, ◌≡◌, List, [], length}
use Rattle.pack_rules.specs.Syntax.{Rule}
use Rattle.pack_rules.specs.declared.Pack.{Pack}
use Rattle.pack_rules.specs.Held.{held_rules}
use Rattle.pack_grammar.specs.Reader.{PackAnswer}
use Rattle.pack_grammar.specs.Reader.PackAnswer.{Rules, Refused}

abbrev pub read_of : PackAnswer → Result (Unit {0}) Refusal
read_of (Rules rs) = Ok tt
read_of (Refused r) = Err r

-- a refused pack has no rules
abbrev pub rules_of : PackAnswer → List Rule
rules_of (Rules rs) = rs
rules_of (Refused r) = []

-- What is returned, and the pack that is left, say the answer. What its arrays hold behind the rules is free.
pub record ReadAs (a : PackAnswer) (r : Result (Unit {0}) Refusal) (p : Pack) : Type 0 where
  pub answer : r ≡ read_of a
  pub rules : held_rules p ≡ rules_of a
  pub count : p.count ≡ length (rules_of a)
