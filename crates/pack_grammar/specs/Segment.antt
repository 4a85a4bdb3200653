-- The rule that a segment's bytes are, by themselves: what stands between two semicolons or the pack's ends.
use Rattle.std.specs.Prelude.{◌≡◌, true, List, [], ◌∷◌}
use Rattle.pack_rules.specs.Syntax.{Rule}
use Rattle.pack_token.specs.Token.{tokens}
use Rattle.pack_grammar.specs.Grammar.{Text, RuleTree, of_rule, right_rule}
use Rattle.pack_grammar.specs.Grammar.RuleTree.{Bare}
use Rattle.pack_grammar.specs.RuleOf.{rule_of}
use Rattle.pack_grammar.specs.WellFormed.{texts}
use Rattle.pack_grammar.specs.Steps.{steps, Read, ends}
use Rattle.pack_grammar.specs.Steps.State.{WantsName}
use Rattle.pack_grammar.specs.Steps.Read.{Whole, Cut}

-- the tokens of a segment, without their places
abbrev pub words : Text → List Text
words x = texts (tokens 0 x)

-- its tokens are those of a right tree, and this is the rule that the tree stands for
pub record IsRule (x : Text) (r : Rule) : Type 0 where
  pub tree : RuleTree
  pub right : right_rule tree ≡ true
  pub tokens_are : words x ≡ of_rule tree
  pub stands_for : r ≡ rule_of tree

-- segments and their rules, in their order
pub data AreRules : List Text → List Rule → Type 0 where
  none : AreRules [] []
  more : {x : Text} {r : Rule} {xs : List Text} {rs : List Rule} → IsRule x r → AreRules xs rs → AreRules (x ∷ xs) (r ∷ rs)

-- ---- the same by the reader: of a segment that is a rule it gives that rule (`segment_rule_law`, proofs/Shuffle.antt)

-- what a segment's tokens are read as: a rule's tree, or none
abbrev pub read_of : Text → Read
read_of x = ends (steps WantsName (words x))

-- a pack that is read has no segment without a rule; for one without, any tree serves
abbrev pub or_any : Read → RuleTree
or_any (Whole r) = r
or_any Cut = Bare []

abbrev pub tree_of : Text → RuleTree
tree_of x = or_any (read_of x)

abbrev pub segment_rule : Text → Rule
segment_rule x = rule_of (tree_of x)
