-- Laws of pieces, white space or tokens: each has a byte and ends within the text; a text's tokens, piece by piece, and their places, which rise.
use mathlib.Core.Path.{◌≡◌, refl, sym, ap, ◌∙◌}
use mathlib.Core.Bool.{Bool, true, false}
use mathlib.Core.List.{List, [], ◌∷◌}
use Prim.Native.Nat.{ℕ, zero, suc, ◌+◌, ◌-◌, ◌≤◌, ◌<◌}
use native.Mathlib.Omega.{arith}
use lib.Dec.{eqb}
use lib.ListN.{length, get_or, take, drop, length-drop}
use borrow.Author.Tests.{eq-eqb, ne_eqb, eqb-false, ltb-true}
use Rattle.std.specs.Prelude.{if◌then◌else◌}
use Rattle.decimal.specs.Digits.{is_digit}
use Rattle.decimal.proofs.Choices.{choice}
use Rattle.decimal.proofs.Runs.{run_le, run_some}
use Rattle.pack_token.specs.Spelling.{starts}
use Rattle.pack_token.specs.Token.{whites, white_len, is_white, is_letter, dots, differ, token_len, piece_len, Token, tokens_for, tokens}
use Rattle.pack_token.proofs.Spellings.{starts_le, length_of_le}

-- ---- how long a piece is

none : {A : Type 0} → 0 < 0 → A
none {A} h = absurd (no h)
  where
    no : 0 < 0 → ⊥
    no k = omega arith

token_piece : (s : List ℕ) → 0 < length s → (0 < token_len s) × (token_len s ≤ length s)
token_piece s h =
    choice P (is_letter (get_or s 0 0)) (λ e. (run_some is_letter s h e, run_le is_letter s))
    (λ _. choice P (is_digit (get_or s 0 0)) (λ e. (run_some is_digit s h e, run_le is_digit s))
    (λ _. choice P (starts dots s) (λ e. (omega arith, starts_le dots s e))
    (λ _. choice P (starts differ s) (λ e. (omega arith, starts_le differ s e)) (λ _. (omega arith, h)))))
  where
    P : ℕ → Type 0
    P n = (0 < n) × (n ≤ length s)

pub piece : (s : List ℕ) → 0 < length s → (0 < piece_len s) × (piece_len s ≤ length s)
piece s h =
    choice (λ n. (0 < n) × (n ≤ length s)) (is_white s) (λ e. (ltb-true 0 (white_len s) e, length_of_le whites s)) (λ _. token_piece s h)

-- ---- the tokens of a text: those of its first piece, and of what is left

pub no_tokens : (k a : ℕ) (s : List ℕ) → length s ≡ 0 → tokens_for k a s ≡ []
no_tokens zero a s e = refl
no_tokens (suc k) a s e = rw (eq-eqb (length s) 0 e)

-- the tokens of one piece, and those behind it
abbrev pub pieced : Bool → ℕ → List ℕ → List Token → List Token
pieced w a u l = if w then l else record { at = a; text = u } ∷ l

some : (n : ℕ) → (n ≡ 0 → ⊥) → 0 < n
some n f = omega arith

-- more pieces than enough make no difference
enough : (f g a : ℕ) (s : List ℕ) → length s ≤ f → length s ≤ g → tokens_for f a s ≡ tokens_for g a s
enough zero g a s hf hg = sym (no_tokens g a s (omega arith))
enough (suc f) zero a s hf hg = no_tokens (suc f) a s (omega arith)
enough (suc f) (suc g) a s hf hg =
    go (eqb (length s) 0) refl
    (λ h. let p = piece s h in
    enough f g (a + piece_len s) (drop (piece_len s) s) (omega (arith, length-drop (piece_len s) s, p.0)) (omega (arith, length-drop (piece_len s) s, p.0)))
  where
    go : (x : Bool) → eqb (length s) 0 ≡ x → {y z : List Token} → (0 < length s → y ≡ z)
        → (if x then [] else pieced (is_white s) a (take (piece_len s) s) y) ≡ (if x then [] else pieced (is_white s) a (take (piece_len s) s) z)
    go true e h = refl
    go false e h = ap (pieced (is_white s) a (take (piece_len s) s)) (h (some (length s) (eqb-false (length s) 0 e)))

pub tokens_turn : (a : ℕ) (s : List ℕ) → 0 < length s
    → tokens a s ≡ pieced (is_white s) a (take (piece_len s) s) (tokens (a + piece_len s) (drop (piece_len s) s))
tokens_turn a s h =
    let k = piece_len s in
    let j : length s ≡ suc (length s - 1) = omega arith in
    let z : length s ≡ 0 → ⊥ = λ q. omega arith in
    let p = piece s h in
    ap (λ (n : ℕ). tokens_for n a s) j
    ∙ rw (ne_eqb (length s) 0 z)
    (ap (pieced (is_white s) a (take k s)) (enough (length s - 1) (length (drop k s)) (a + k) (drop k s) (omega (arith, length-drop k s, p.0)) (omega arith)))

-- ---- the places of a text's tokens: each behind the one before, from a place to an end

abbrev pub Placed : ℕ → List Token → ℕ → Type 0
Placed a [] end = a ≤ end
Placed a (t ∷ ts) end = (a ≤ t.at) × Placed (suc t.at) ts end

placed_from : (a b : ℕ) (ts : List Token) (end : ℕ) → a ≤ b → Placed b ts end → Placed a ts end
placed_from a b [] end l h = omega arith
placed_from a b (t ∷ ts) end l h = (omega (arith, h.0), h.1)

pub placed_le : (a : ℕ) (ts : List Token) (end : ℕ) → Placed a ts end → a ≤ end
placed_le a [] end h = h
placed_le a (t ∷ ts) end h = omega (arith, h.0, placed_le (suc t.at) ts end h.1)

pub placed : (k a : ℕ) (s : List ℕ) (end : ℕ) → a + length s ≡ end → Placed a (tokens_for k a s) end
placed zero a s end e = omega arith
placed (suc k) a s end e =
    go (eqb (length s) 0) refl (is_white s) (tokens_for k (a + piece_len s) (drop (piece_len s) s))
    (λ h. let p = piece s h in placed k (a + piece_len s) (drop (piece_len s) s) end (omega (arith, length-drop (piece_len s) s, p.1)))
  where
    go : (x : Bool) → eqb (length s) 0 ≡ x → (y : Bool) (ts : List Token) → (0 < length s → Placed (a + piece_len s) ts end)
        → Placed a (if x then [] else if y then ts else record { at = a; text = take (piece_len s) s } ∷ ts) end
    go true q y ts f = omega arith
    go false q true ts f = placed_from a (a + piece_len s) ts end (omega arith) (f (some (length s) (eqb-false (length s) 0 q)))
    go false q false ts f =
        let l = some (length s) (eqb-false (length s) 0 q) in
        (omega arith, placed_from (suc a) (a + piece_len s) ts end (omega (arith, (piece s l).0)) (f l))
