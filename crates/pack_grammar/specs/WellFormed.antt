-- Row 21 of document 01's table: packs that are well-formed, and tokens that some of them begin with. "not the pack grammar (any a-z word serves as
-- keyword)"; "start of the first token or stray byte no well-formed pack could have there, else the length".
use Rattle.std.specs.Prelude.{◌≡◌, true, List, [], ◌∷◌, ◌++◌, ℕ}
use Rattle.pack_token.specs.Token.{Token, tokens}
use Rattle.pack_grammar.specs.Grammar.{Text, PackTree, of_pack, right_pack}

-- the bytes of each token
abbrev pub texts : List Token → List Text
texts [] = []
texts (t ∷ ts) = t.text ∷ texts ts

-- the tokens of a right tree
abbrev pub WellFormed : List Text → Type 0
WellFormed us = (p : PackTree) × (right_pack p ≡ true) × (us ≡ of_pack p)

-- a well-formed pack begins with these tokens
abbrev pub Begins : List Text → Type 0
Begins us = (rest : List Text) × WellFormed (us ++ rest)

-- 21, at a token: no well-formed pack begins with the tokens up to and including it, and some does with those before it
pub record Culprit (ts : List Token) (a : ℕ) : Type 0 where
  pub before : List Token
  pub token : Token
  pub after : List Token
  pub is : ts ≡ before ++ (token ∷ after)
  pub place : token.at ≡ a
  pub some : Begins (texts before)
  pub none : Begins (texts before ++ (token.text ∷ [])) → ⊥

-- 21, at the end: the tokens are no well-formed pack, and some well-formed pack begins with them
pub record Unfinished (ts : List Token) (end a : ℕ) : Type 0 where
  pub place : a ≡ end
  pub some : Begins (texts ts)
  pub none : WellFormed (texts ts) → ⊥

-- a text whose tokens are a well-formed pack that begins with these
pub record PackWith (us : List Text) : Type 0 where
  pub text : Text
  pub rest : List Text
  pub formed : WellFormed (texts (tokens 0 text))
  pub begins : texts (tokens 0 text) ≡ us ++ rest
