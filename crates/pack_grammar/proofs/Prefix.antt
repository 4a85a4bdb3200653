-- Some well-formed pack, as bytes, begins with the tokens before the one that 21 names.
use mathlib.Core.Path.{◌≡◌, refl, sym, ap, ◌∙◌, subst}
use mathlib.Core.Bool.{Bool, true, false, not}
use mathlib.Core.List.{List, [], ◌∷◌, ◌++◌}
use Prim.Native.Nat.{ℕ, zero, suc, ◌+◌, ◌-◌, ◌≤◌, ◌<◌}
use native.Mathlib.Omega.{arith}
use native.Mathlib.Nat.{zero-add, suc-add}
use lib.Dec.{eqb, ltb}
use lib.ListN.{length, take, drop, length-drop}
use lib.Seq.{take-append-le, drop-append-le, take-take}
use borrow.Author.Tests.{ne_eqb, eqb-false, ltb-false}
use Rattle.std.specs.Prelude.{if◌then◌else◌}
use Rattle.decimal.specs.Choice.{both}
use Rattle.decimal.specs.Digits.{is_digit, run}
use Rattle.decimal.proofs.Choices.{not_both, both_in}
use Rattle.decimal.specs.Lists.{all}
use Rattle.pack_token.specs.Spelling.{same, starts, length_of}
use Rattle.pack_token.specs.Token.{whites, white_len, is_white, is_letter, letters, dots, differ, token_len, piece_len, Token, tokens}
use Rattle.pack_token.proofs.Spellings.{both_0, both_1}
use Rattle.pack_token.proofs.Pieces.{piece, pieced, tokens_turn}
use Rattle.pack_grammar.specs.Grammar.{Text, colon, equal, other}
use Rattle.pack_grammar.specs.WellFormed.{texts, Culprit, Unfinished, PackWith}
use Rattle.pack_grammar.specs.Segment.{words}
use Rattle.pack_grammar.specs.Steps.{State}
use Rattle.pack_grammar.specs.Steps.State.{WantsName, WantsColon, WantsNothing, WantsOperand, HasOperand, WantsModulus, HasModulus, WantsValue, HasValue, WantsUpper, HasUpper, Dead}
use Rattle.pack_grammar.specs.Reader.{is_dead}
use Rattle.pack_grammar.proofs.Places.{words_at}
use Rattle.pack_grammar.proofs.Viable.{far, outset, ending, viable_by}
use Rattle.pack_grammar.proofs.Table.{texts_append, begins_alive}

-- ---- a front of a text that has its first piece whole begins with the same piece

starts_front : (w s : Text) (m : ℕ) → starts w s ≡ true → length w ≤ m → starts w (take m s) ≡ true
starts_front [] s m e h = refl
starts_front (x ∷ w) [] m e h = not_both refl (sym e)
starts_front (x ∷ w) (y ∷ s) zero e h = absurd (no h)
  where
    no : suc (length w) ≤ 0 → ⊥
    no k = omega arith
starts_front (x ∷ w) (y ∷ s) (suc m) e h = both_in (both_0 (eqb y x) (starts w s) e) (starts_front w s m (both_1 (eqb y x) (starts w s) e) (omega arith))

starts_not : (w s : Text) (m : ℕ) → starts w s ≡ false → starts w (take m s) ≡ false
starts_not [] s m e = e
starts_not (x ∷ w) s zero e = refl
starts_not (x ∷ w) [] (suc m) e = refl
starts_not (x ∷ w) (y ∷ s) (suc m) e = go (eqb y x) e (starts_not w s m)
  where
    go : (b : Bool) → both b (starts w s) ≡ false → (starts w s ≡ false → starts w (take m s) ≡ false) → both b (starts w (take m s)) ≡ false
    go true e f = f e
    go false e f = refl

length_front : (ws : List Text) (s : Text) (m : ℕ) → length_of ws s ≤ m → length_of ws (take m s) ≡ length_of ws s
length_front [] s m h = refl
length_front (w ∷ ws) s m h = go (starts w s) refl h (length_front ws s m)
  where
    go : (b : Bool) → starts w s ≡ b → (if b then length w else length_of ws s) ≤ m → (length_of ws s ≤ m → length_of ws (take m s) ≡ length_of ws s)
        → (if starts w (take m s) then length w else length_of ws (take m s)) ≡ (if b then length w else length_of ws s)
    go true e h f = rw (starts_front w s m e h)
    go false e h f = rw (starts_not w s m e) (f h)

letters_front : (s : Text) (m : ℕ) → letters s ≤ m → letters (take m s) ≡ letters s
letters_front [] zero h = refl
letters_front [] (suc m) h = refl
letters_front (b ∷ s) zero h = go (is_letter b) h
  where
    go : (x : Bool) → (if x then suc (letters s) else 0) ≤ 0 → 0 ≡ (if x then suc (letters s) else 0)
    go true h = omega arith
    go false h = refl
letters_front (b ∷ s) (suc m) h = go (is_letter b) h (letters_front s m)
  where
    go : (x : Bool) → (if x then suc (letters s) else 0) ≤ suc m → (letters s ≤ m → letters (take m s) ≡ letters s) → (if x then suc (letters (take m s)) else 0) ≡ (if x then suc (letters s) else 0)
    go true h f = ap suc (f (omega arith))
    go false h f = refl

run_front : (s : Text) (m : ℕ) → run s ≤ m → run (take m s) ≡ run s
run_front [] zero h = refl
run_front [] (suc m) h = refl
run_front (b ∷ s) zero h = go (is_digit b) h
  where
    go : (x : Bool) → (if x then suc (run s) else 0) ≤ 0 → 0 ≡ (if x then suc (run s) else 0)
    go true h = omega arith
    go false h = refl
run_front (b ∷ s) (suc m) h = go (is_digit b) h (run_front s m)
  where
    go : (x : Bool) → (if x then suc (run s) else 0) ≤ suc m → (run s ≤ m → run (take m s) ≡ run s) → (if x then suc (run (take m s)) else 0) ≡ (if x then suc (run s) else 0)
    go true h f = ap suc (f (omega arith))
    go false h f = refl

token_front : (b : ℕ) (s : Text) (m : ℕ) → token_len (b ∷ s) ≤ suc m → token_len (take (suc m) (b ∷ s)) ≡ token_len (b ∷ s)
token_front b s m h = go (is_letter b) refl (is_digit b) refl (starts dots (b ∷ s)) refl (starts differ (b ∷ s)) refl h
  where
    u : Text
    u = take (suc m) (b ∷ s)

    go : (x : Bool) → is_letter b ≡ x → (y : Bool) → is_digit b ≡ y → (z : Bool) → starts dots (b ∷ s) ≡ z → (w : Bool) → starts differ (b ∷ s) ≡ w
        → (if x then letters (b ∷ s) else if y then run (b ∷ s) else if z then 2 else if w then 2 else 1) ≤ suc m
        → (if is_letter b then letters (take (suc m) (b ∷ s)) else if is_digit b then run (take (suc m) (b ∷ s)) else if starts dots (take (suc m) (b ∷ s)) then 2 else if starts differ (take (suc m) (b ∷ s)) then 2 else 1)
        ≡ (if x then letters (b ∷ s) else if y then run (b ∷ s) else if z then 2 else if w then 2 else 1)
    go true p y q z r w t h = ap (λ (v : Bool). if v then letters (take (suc m) (b ∷ s)) else if is_digit b then run (take (suc m) (b ∷ s)) else if starts dots (take (suc m) (b ∷ s)) then 2 else if starts differ (take (suc m) (b ∷ s)) then 2 else 1) p ∙ letters_front (b ∷ s) (suc m) h
    go false p true q z r w t h =
        ap (λ (v : Bool). if v then letters (take (suc m) (b ∷ s)) else if is_digit b then run (take (suc m) (b ∷ s)) else if starts dots (take (suc m) (b ∷ s)) then 2 else if starts differ (take (suc m) (b ∷ s)) then 2 else 1) p
        ∙ ap (λ (v : Bool). if v then run (take (suc m) (b ∷ s)) else if starts dots (take (suc m) (b ∷ s)) then 2 else if starts differ (take (suc m) (b ∷ s)) then 2 else 1) q
        ∙ run_front (b ∷ s) (suc m) h
    go false p false q true r w t h = rw (p, q, starts_front dots (b ∷ s) (suc m) r h)
    go false p false q false r true t h = rw (p, q, starts_not dots (b ∷ s) (suc m) r, starts_front differ (b ∷ s) (suc m) t h)
    go false p false q false r false t h = rw (p, q, starts_not dots (b ∷ s) (suc m) r, starts_not differ (b ∷ s) (suc m) t)

white_le : (s : Text) (m : ℕ) → piece_len s ≤ m → white_len s ≤ m
white_le s m h = go (is_white s) refl h
  where
    go : (b : Bool) → is_white s ≡ b → (if b then white_len s else token_len s) ≤ m → white_len s ≤ m
    go true e h = h
    go false e h = omega (arith, ltb-false 0 (white_len s) e)

white_front : (s : Text) (m : ℕ) → piece_len s ≤ m → white_len (take m s) ≡ white_len s
white_front s m h = length_front whites s m (white_le s m h)

piece_front : (b : ℕ) (s : Text) (m : ℕ) → piece_len (b ∷ s) ≤ suc m → piece_len (take (suc m) (b ∷ s)) ≡ piece_len (b ∷ s)
piece_front b s m h =
    ap (λ (n : ℕ). if ltb 0 n then n else token_len (take (suc m) (b ∷ s))) (white_front (b ∷ s) (suc m) h)
    ∙ go (is_white (b ∷ s)) refl h
  where
    go : (x : Bool) → is_white (b ∷ s) ≡ x → (if x then white_len (b ∷ s) else token_len (b ∷ s)) ≤ suc m
        → (if x then white_len (b ∷ s) else token_len (take (suc m) (b ∷ s))) ≡ (if x then white_len (b ∷ s) else token_len (b ∷ s))
    go true e h = refl
    go false e h = token_front b s m h

abbrev nil : Text
nil = []

drop_front : (k m : ℕ) (s : Text) → drop k (take (k + m) s) ≡ take m (drop k s)
drop_front zero m s = ap (λ (n : ℕ). take n s) (zero-add m)
drop_front (suc k) m [] = none (suc k + m) (suc k) ∙ sym (take_none m)
  where
    take_none : (m : ℕ) → take m nil ≡ nil
    take_none zero = refl
    take_none (suc m) = refl

    none : (n k : ℕ) → drop k (take n nil) ≡ nil
    none zero zero = refl
    none zero (suc k) = refl
    none (suc n) zero = refl
    none (suc n) (suc k) = refl
drop_front (suc k) m (b ∷ s) = ap (λ (n : ℕ). drop (suc k) (take n (b ∷ s))) (suc-add k m) ∙ drop_front k m s

-- one piece, and the front of what is left
front_turn : (a k m : ℕ) (s : Text) → 0 < length s → k ≡ piece_len s → tokens a (take (k + m) s) ≡ pieced (is_white s) a (take k s) (tokens (a + k) (take m (drop k s)))
front_turn a k m [] h e = absurd (no h)
  where
    no : 0 < 0 → ⊥
    no q = omega arith
front_turn a k m (b ∷ s) h e =
    let p = piece (b ∷ s) h in
    let n = k + m - 1 in
    let j : k + m ≡ suc n = omega arith in
    let u = take (k + m) (b ∷ s) in
    let l : piece_len (b ∷ s) ≤ suc n = omega arith in
    let q : piece_len u ≡ k = ap (λ (i : ℕ). piece_len (take i (b ∷ s))) j ∙ piece_front b s n l ∙ sym e in
    let w : white_len u ≡ white_len (b ∷ s) = white_front (b ∷ s) (k + m) (omega arith) in
    let z : 0 < length u = ap_pos (ap (λ (i : ℕ). length (take i (b ∷ s))) j) in
    tokens_turn a u z
    ∙ ap (λ (i : ℕ). pieced (ltb 0 i) a (take (piece_len u) u) (tokens (a + piece_len u) (drop (piece_len u) u))) w
    ∙ ap (λ (i : ℕ). pieced (is_white (b ∷ s)) a (take i u) (tokens (a + i) (drop i u))) q
    ∙ ap (λ (x : Text). pieced (is_white (b ∷ s)) a x (tokens (a + k) (drop k u))) (take-take k (k + m) (b ∷ s) (omega arith))
    ∙ ap (λ (x : Text). pieced (is_white (b ∷ s)) a (take k (b ∷ s)) (tokens (a + k) x)) (drop_front k m (b ∷ s))
  where
    ap_pos : {x y : ℕ} → x ≡ suc y → 0 < x
    ap_pos e = omega arith

-- the bytes before a token have the tokens before it
pub record FrontOf (a : ℕ) (s : Text) (before : List Token) (t : Token) : Type 0 where
  pub size : ℕ
  pub place : t.at ≡ a + size
  pub tokens_are : tokens a (take size s) ≡ before

no_tokens_cons : {A : Type 0} (before : List Token) (t : Token) (after : List Token) → [] ≡ before ++ (t ∷ after) → A
no_tokens_cons [] t after e = absurd (let z : ◌≡◌ {A = ℕ} 0 1 = cc in omega arith)
no_tokens_cons (x ∷ before) t after e = absurd (let z : ◌≡◌ {A = ℕ} 0 1 = cc in omega arith)

tokens_front : (n a : ℕ) (s : Text) (before : List Token) (t : Token) (after : List Token) → length s ≤ n → tokens a s ≡ before ++ (t ∷ after) → FrontOf a s before t
tokens_front zero a [] before t after h e = no_tokens_cons before t after e
tokens_front zero a (b ∷ s) before t after h e = absurd (no h)
  where
    no : suc (length s) ≤ 0 → ⊥
    no k = omega arith
tokens_front (suc n) a [] before t after h e = no_tokens_cons before t after e
tokens_front (suc n) a (b ∷ s) before t after h e =
    let u : Text = b ∷ s in
    let k = piece_len u in
    let p = piece u (omega arith) in
    go (is_white u) refl before (sym (tokens_turn a u (omega arith)) ∙ e)
    (λ x q. tokens_front n (a + k) (drop k u) x t after (omega (arith, length-drop k u)) q)
  where
    go : (w : Bool) → is_white (b ∷ s) ≡ w → (before : List Token) → pieced w a (take (piece_len (b ∷ s)) (b ∷ s)) (tokens (a + piece_len (b ∷ s)) (drop (piece_len (b ∷ s)) (b ∷ s))) ≡ before ++ (t ∷ after)
        → ((x : List Token) → tokens (a + piece_len (b ∷ s)) (drop (piece_len (b ∷ s)) (b ∷ s)) ≡ x ++ (t ∷ after) → FrontOf (a + piece_len (b ∷ s)) (drop (piece_len (b ∷ s)) (b ∷ s)) x t)
        → FrontOf a (b ∷ s) before t
    go true q before e f =
        let r = f before e in
        record {
          size = piece_len (b ∷ s) + r.size;
          place = r.place ∙ omega arith;
          tokens_are = front_turn a (piece_len (b ∷ s)) r.size (b ∷ s) (omega arith) refl ∙ ap (λ (w : Bool). pieced w a (take (piece_len (b ∷ s)) (b ∷ s)) (tokens (a + piece_len (b ∷ s)) (take r.size (drop (piece_len (b ∷ s)) (b ∷ s))))) q ∙ r.tokens_are;
        }
    go false q [] e f =
        let z : t ≡ record { at = a; text = take (piece_len (b ∷ s)) (b ∷ s) } = cc in
        record { size = 0; place = ap (λ (x : Token). x.at) z ∙ omega arith; tokens_are = refl }
    go false q (x ∷ before) e f =
        let y : x ≡ record { at = a; text = take (piece_len (b ∷ s)) (b ∷ s) } = cc in
        let z : tokens (a + piece_len (b ∷ s)) (drop (piece_len (b ∷ s)) (b ∷ s)) ≡ before ++ (t ∷ after) = cc in
        let r = f before z in
        record {
          size = piece_len (b ∷ s) + r.size;
          place = r.place ∙ omega arith;
          tokens_are =
              front_turn a (piece_len (b ∷ s)) r.size (b ∷ s) (omega arith) refl
              ∙ ap (λ (w : Bool). pieced w a (take (piece_len (b ∷ s)) (b ∷ s)) (tokens (a + piece_len (b ∷ s)) (take r.size (drop (piece_len (b ∷ s)) (b ∷ s))))) q
              ∙ ap (λ (l : List Token). record { at = a; text = take (piece_len (b ∷ s)) (b ∷ s) } ∷ l) r.tokens_are ∙ ap (λ (v : Token). v ∷ before) (sym y);
        }

-- ---- a text, a space, and another text: the tokens of both

abbrev spaceless : Text → Bool
spaceless w = all (λ (b : ℕ). not (eqb b 32)) w

-- behind its first byte
abbrev spaceless_behind : Text → Bool
spaceless_behind [] = true
spaceless_behind (c ∷ w) = spaceless w

not_true : (b : Bool) → not b ≡ true → b ≡ false
not_true true e = sym e
not_true false e = refl

module _ (y : Text) where
  starts_before : (w x : Text) → spaceless w ≡ true → starts w (x ++ (32 ∷ y)) ≡ starts w x
  starts_before [] x e = refl
  starts_before (b ∷ w) [] e =
      let n : eqb 32 b ≡ false = ne_eqb 32 b (λ k. eqb-false b 32 (not_true (eqb b 32) (both_0 (not (eqb b 32)) (spaceless w) e)) (sym k)) in
      rw n
  starts_before (b ∷ w) (c ∷ x) e = ap (both (eqb c b)) (starts_before w x (both_1 (not (eqb b 32)) (spaceless w) e))

  starts_some : (w : Text) (b : ℕ) (x : Text) → spaceless_behind w ≡ true → starts w ((b ∷ x) ++ (32 ∷ y)) ≡ starts w (b ∷ x)
  starts_some [] b x e = refl
  starts_some (c ∷ w) b x e = ap (both (eqb b c)) (starts_before w x e)

  length_some : (ws : List Text) (b : ℕ) (x : Text) → all spaceless_behind ws ≡ true → length_of ws ((b ∷ x) ++ (32 ∷ y)) ≡ length_of ws (b ∷ x)
  length_some [] b x e = refl
  length_some (w ∷ ws) b x e =
      rw (starts_some w b x (both_0 (spaceless_behind w) (all spaceless_behind ws) e), length_some ws b x (both_1 (spaceless_behind w) (all spaceless_behind ws) e))

  letters_before : (x : Text) → letters (x ++ (32 ∷ y)) ≡ letters x
  letters_before [] = refl
  letters_before (b ∷ x) = ap (λ (n : ℕ). if is_letter b then suc n else 0) (letters_before x)

  run_before : (x : Text) → run (x ++ (32 ∷ y)) ≡ run x
  run_before [] = refl
  run_before (b ∷ x) = ap (λ (n : ℕ). if is_digit b then suc n else 0) (run_before x)

  white_some : (b : ℕ) (x : Text) → white_len ((b ∷ x) ++ (32 ∷ y)) ≡ white_len (b ∷ x)
  white_some b x = length_some whites b x refl

  piece_some : (b : ℕ) (x : Text) → piece_len ((b ∷ x) ++ (32 ∷ y)) ≡ piece_len (b ∷ x)
  piece_some b x =
      rw (white_some b x, letters_before (b ∷ x), run_before (b ∷ x), starts_some dots b x refl, starts_some differ b x refl)

  space_first : (a : ℕ) → tokens a (32 ∷ y) ≡ tokens (suc (a + 0)) y
  space_first a =
      let e : a + 1 ≡ suc (a + 0) = omega arith in
      tokens_turn a (32 ∷ y) (omega arith) ∙ rw e

  tokens_spaced : (n a : ℕ) (x : Text) → length x ≤ n → tokens a (x ++ (32 ∷ y)) ≡ tokens a x ++ tokens (suc (a + length x)) y
  tokens_spaced zero a [] h = space_first a
  tokens_spaced zero a (b ∷ x) h = absurd (no h)
    where
      no : suc (length x) ≤ 0 → ⊥
      no k = omega arith
  tokens_spaced (suc n) a [] h = space_first a
  tokens_spaced (suc n) a (b ∷ x) h =
      let s : Text = b ∷ x in
      let z : Text = 32 ∷ y in
      let k = piece_len s in
      let p = piece s (omega arith) in
      let l = length-drop k s in
      let q : (a + k) + length (drop k s) ≡ a + length s = omega arith in
      tokens_turn a (s ++ z) (omega arith)
      ∙ ap (λ (w : ℕ). pieced (ltb 0 w) a (take (piece_len (s ++ z)) (s ++ z)) (tokens (a + piece_len (s ++ z)) (drop (piece_len (s ++ z)) (s ++ z)))) (white_some b x)
      ∙ ap (λ (m : ℕ). pieced (is_white s) a (take m (s ++ z)) (tokens (a + m) (drop m (s ++ z)))) (piece_some b x)
      ∙ ap (λ (u : Text). pieced (is_white s) a u (tokens (a + k) (drop k (s ++ z)))) (take-append-le k s z p.1)
      ∙ ap (λ (u : Text). pieced (is_white s) a (take k s) (tokens (a + k) u)) (drop-append-le k s z p.1)
      ∙ ap (pieced (is_white s) a (take k s)) (tokens_spaced n (a + k) (drop k s) (omega arith))
      ∙ ap (λ (j : ℕ). pieced (is_white s) a (take k s) (tokens (a + k) (drop k s) ++ tokens (suc j) y)) q
      ∙ behind_piece (is_white s) (take k s) (tokens (a + k) (drop k s)) (tokens (suc (a + length s)) y)
      ∙ ap (λ (u : List Token). u ++ tokens (suc (a + length s)) y) (sym (tokens_turn a s (omega arith)))
    where
      behind_piece : (w : Bool) (u : Text) (l m : List Token) → pieced w a u (l ++ m) ≡ pieced w a u l ++ m
      behind_piece true u l m = refl
      behind_piece false u l m = refl

-- ---- the rest of a pack, as bytes: what ends the rule being read

abbrev ending_text : State → Text
ending_text WantsName = 111 ∷ 116 ∷ 104 ∷ 101 ∷ 114 ∷ 58 ∷ []
ending_text (WantsColon k) = if same k other then 58 ∷ [] else 58 ∷ 110 ∷ 61 ∷ 49 ∷ []
ending_text (WantsNothing k) = []
ending_text (WantsOperand f) = 110 ∷ 61 ∷ 49 ∷ []
ending_text (HasOperand f o) = 61 ∷ 49 ∷ []
ending_text (WantsModulus f o) = 49 ∷ 61 ∷ 49 ∷ []
ending_text (HasModulus f o m) = 61 ∷ 49 ∷ []
ending_text (WantsValue f h vs) = 49 ∷ []
ending_text (HasValue f h vs a) = []
ending_text (WantsUpper f h vs a) = 49 ∷ []
ending_text (HasUpper f h vs a b) = []
ending_text Dead = []

ending_is : (s : State) → words (ending_text s) ≡ ending s
ending_is WantsName = refl
ending_is (WantsColon k) = go (same k other)
  where
    go : (b : Bool) → words (if b then 58 ∷ [] else 58 ∷ 110 ∷ 61 ∷ 49 ∷ []) ≡ (if b then colon ∷ [] else colon ∷ (110 ∷ []) ∷ equal ∷ (49 ∷ []) ∷ [])
    go true = refl
    go false = refl
ending_is (WantsNothing k) = refl
ending_is (WantsOperand f) = refl
ending_is (HasOperand f o) = refl
ending_is (WantsModulus f o) = refl
ending_is (HasModulus f o m) = refl
ending_is (WantsValue f h vs) = refl
ending_is (HasValue f h vs a) = refl
ending_is (WantsUpper f h vs a) = refl
ending_is (HasUpper f h vs a b) = refl
ending_is Dead = refl

-- the bytes x, and then what ends the rule being read
ends_well : (x : Text) → is_dead (far outset (texts (tokens 0 x))).state ≡ false → PackWith (texts (tokens 0 x))
ends_well x e =
    let us = texts (tokens 0 x) in
    let s = (far outset us).state in
    let k : texts (tokens 0 (x ++ (32 ∷ ending_text s))) ≡ us ++ ending s =
    ap texts (tokens_spaced (ending_text s) (length x) 0 x (omega arith)) ∙ texts_append (tokens 0 x) (tokens (suc (0 + length x)) (ending_text s))
    ∙ ap (λ (l : List Text). us ++ l) (words_at (suc (0 + length x)) (ending_text s) ∙ ending_is s) in
    let v = viable_by us e in
    record { text = x ++ (32 ∷ ending_text s); rest = ending s; formed = (v.0, v.1, k ∙ v.2); begins = k }

-- 21 at a token, on bytes: some well-formed pack begins with the tokens before it
pub some_pack : (s : Text) (a : ℕ) (c : Culprit (tokens 0 s) a) → PackWith (texts c.before)
some_pack s a c =
    let f = tokens_front (length s) 0 s c.before c.token c.after (omega arith) c.is in
    let e = f.tokens_are in
    subst (λ (l : List Token). PackWith (texts l)) e
    (ends_well (take f.size s) (subst (λ (l : List Token). is_dead (far outset (texts l)).state ≡ false) (sym e) (begins_alive (texts c.before) c.some)))

-- 21 at the end, on bytes: some well-formed pack begins with all the tokens
pub some_pack_all : (s : Text) (end a : ℕ) → Unfinished (tokens 0 s) end a → PackWith (texts (tokens 0 s))
some_pack_all s end a u = ends_well s (begins_alive (texts (tokens 0 s)) u.some)
