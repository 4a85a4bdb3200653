-- The pack that is `other:` alone is read as one rule without a condition.
use mathlib.Core.Path.{◌≡◌, refl}
use mathlib.Core.Bool.{true}
use mathlib.Core.List.{[], ◌∷◌}
use lib.Dec.{leb}
use lib.ListN.{length}
use borrow.Author.Tests.{leb-true}
use Rattle.pack_token.specs.Token.{tokens}
use Rattle.pack_token.proofs.Spellings.{both_0, both_1}
use Rattle.pack_grammar.specs.Limits.{max_bytes}
use Rattle.pack_grammar.specs.Grammar.{Text, colon, other}
use Rattle.pack_grammar.specs.Grammar.RuleTree.{Bare}
use Rattle.pack_grammar.specs.Grammar.PackTree.{Parted}
use Rattle.pack_grammar.specs.WellFormed.{texts}
use Rattle.pack_grammar.specs.Reader.{read_pack}
use Rattle.pack_grammar.specs.Reader.PackAnswer.{Rules}
use Rattle.pack_grammar.proofs.Table.{read_rules}
use Rattle.pack_bare.specs.Bare.{same_texts, is_bare, bare_rule}
use Rattle.pack_bare.proofs.Tokens.{same_texts_eq}

pub bare_read : (s : Text) → is_bare s ≡ true → read_pack s ≡ Rules (bare_rule ∷ [])
bare_read s e =
    let short = leb (length s) max_bytes in
    let alone = same_texts (texts (tokens 0 s)) (other ∷ colon ∷ []) in
    (read_rules s (bare_rule ∷ [])).1
    (record {
      tree = Parted [] (Bare other);
      pack =
          record {
            short = leb-true (length s) max_bytes (both_0 short alone e);
            right = refl;
            tokens_are = same_texts_eq (texts (tokens 0 s)) (other ∷ colon ∷ []) (both_1 short alone e);
          };
      within = ((refl, tt), (refl, tt));
      rules = refl;
    })
