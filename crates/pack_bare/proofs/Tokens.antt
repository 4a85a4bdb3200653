-- Laws of texts whose tokens are some given ones, token by token.
use mathlib.Core.Path.{◌≡◌, refl, sym, ap, ◌∙◌}
use mathlib.Core.Bool.{true, false}
use mathlib.Core.List.{List, [], ◌∷◌}
use Prim.Native.Nat.{ℕ, ◌+◌, ◌≤◌, ◌<◌}
use native.Mathlib.Omega.{arith}
use lib.Dec.{ltb, leb}
use lib.ListN.{length, take, drop, drop_of_length-le, length-drop}
use lib.Seq.{drop-drop, length-take-le}
use borrow.Author.Tests.{le-leb, lt-leb, ltb-true, ltb-false}
use Rattle.decimal.proofs.Choices.{tested, not_both}
use Rattle.pack_token.specs.Spelling.{same}
use Rattle.pack_token.specs.Token.{white_len, token_len, piece_len, Token, tokens, Skipped}
use Rattle.pack_token.proofs.Spellings.{both_0, both_1, same_eq}
use Rattle.pack_token.proofs.Pieces.{piece, tokens_turn, no_tokens}
use Rattle.pack_grammar.specs.Grammar.{Text}
use Rattle.pack_grammar.specs.WellFormed.{texts}
use Rattle.pack_bare.specs.Bare.{same_texts}

pub same_texts_eq : (ts ws : List Text) → same_texts ts ws ≡ true → ts ≡ ws
same_texts_eq [] [] e = refl
same_texts_eq [] (w ∷ ws) e = not_both refl (sym e)
same_texts_eq (t ∷ ts) [] e = not_both refl (sym e)
same_texts_eq (t ∷ ts) (w ∷ ws) e =
    let p = same_eq t w (both_0 (same t w) (same_texts ts ws) e) in
    let q = same_texts_eq ts ws (both_1 (same t w) (same_texts ts ws) e) in
    cc

-- the texts of the tokens from a place on, and the token at a place
abbrev pub texts_from : Text → ℕ → List Text
texts_from s at = texts (tokens at (drop at s))

abbrev pub token_of : Text → ℕ → Text
token_of s at = take (token_len (drop at s)) (drop at s)

-- where no white space stands there is a token, and it is the first
module _ (s : Text) (at : ℕ) (none : white_len (drop at s) ≡ 0) (h : at < length s) where
  piece_is : piece_len (drop at s) ≡ token_len (drop at s)
  piece_is = rw none

  pub token_within : at + token_len (drop at s) ≤ length s
  token_within =
      let u = drop at s in
      let p = piece u (omega (arith, length-drop at s)) in
      omega (arith, length-drop at s, p.1, piece_is)

  pub token_first : texts_from s at ≡ token_of s at ∷ texts_from s (at + token_len (drop at s))
  token_first =
      let u = drop at s in
      let turned : tokens at u ≡ record { at = at; text = take (token_len u) u } ∷ tokens (at + token_len u) (drop (token_len u) u) =
      tokens_turn at u (omega (arith, length-drop at s)) ∙ rw none in
      ap texts turned ∙ ap (λ (l : Text). token_of s at ∷ texts (tokens (at + token_len u) l)) (drop-drop (token_len u) at s)

pub none_behind : (s : Text) (at : ℕ) → length s ≤ at → texts_from s at ≡ []
none_behind s at h = ap texts (no_tokens (length (drop at s)) at (drop at s) (omega (arith, length-drop at s)))

nothing_at : (s : Text) (at : ℕ) → length s ≤ at → token_of s at ≡ []
nothing_at s at h = ap (λ (u : Text). take (token_len u) u) (drop_of_length-le s {i = at} h)

-- a token with a byte stands within the text
pub found_within : (s : Text) (at b : ℕ) (w : Text) → same (token_of s at) (b ∷ w) ≡ true → at < length s
found_within s at b w e =
    tested (ltb at (length s)) (λ q. ltb-true at (length s) q)
    (λ q. not_both e (ap (λ (t : Text). same t (b ∷ w)) (nothing_at s at (ltb-false at (length s) q))))

-- the first token is the one asked for: those behind it decide
pub found : (s : Text) (from at b : ℕ) (w : Text) (ws : List Text) → Skipped s from at → same (token_of s at) (b ∷ w) ≡ true
    → same_texts (texts_from s (at + length (b ∷ w))) ws ≡ same_texts (texts_from s from) ((b ∷ w) ∷ ws)
found s from at b w ws k e =
    let h = found_within s at b w e in
    let m = token_len (drop at s) in
    let l : length (token_of s at) ≡ m = length-take-le m (drop at s) (omega (arith, length-drop at s, token_within s at k.none h)) in
    let q : m ≡ length (b ∷ w) = sym l ∙ ap length (same_eq (token_of s at) (b ∷ w) e) in
    sym
    (ap (λ (l : List Token). same_texts (texts l) ((b ∷ w) ∷ ws)) (sym k.same)
    ∙ ap (λ (l : List Text). same_texts l ((b ∷ w) ∷ ws)) (token_first s at k.none h)
    ∙ rw e (ap (λ (n : ℕ). same_texts (texts_from s (at + n)) ws) q))

-- it is not, or there is none
pub missed : (s : Text) (from at : ℕ) (w : Text) (ws : List Text) → Skipped s from at → same (token_of s at) w ≡ false
    → false ≡ same_texts (texts_from s from) (w ∷ ws)
missed s from at w ws k e =
    sym
    (ap (λ (l : List Token). same_texts (texts l) (w ∷ ws)) (sym k.same)
    ∙ tested (ltb at (length s))
    (λ q. ap (λ (l : List Text). same_texts l (w ∷ ws)) (token_first s at k.none (ltb-true at (length s) q)) ∙ rw e)
    (λ q. ap (λ (l : List Text). same_texts l (w ∷ ws)) (none_behind s at (ltb-false at (length s) q))))

-- no token is left exactly where nothing but white space is
pub ended : (s : Text) (from at : ℕ) → Skipped s from at → leb (length s) at ≡ same_texts (texts_from s from) []
ended s from at k =
    sym
    (ap (λ (l : List Token). same_texts (texts l) []) (sym k.same)
    ∙ tested (ltb at (length s))
    (λ q. let h = ltb-true at (length s) q in ap (λ (l : List Text). same_texts l []) (token_first s at k.none h) ∙ sym (lt-leb (length s) at h))
    (λ q. let h = ltb-false at (length s) q in ap (λ (l : List Text). same_texts l []) (none_behind s at h) ∙ sym (le-leb (length s) at h)))
