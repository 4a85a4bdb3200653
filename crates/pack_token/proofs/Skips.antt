-- Laws of going over white space, one code point at a time.
use mathlib.Core.Path.{◌≡◌, refl, sym, ap, ◌∙◌, subst}
use mathlib.Core.Bool.{Bool, true}
use mathlib.Core.List.{List}
use Prim.Native.Nat.{ℕ, ◌+◌, ◌≤◌, ◌<◌, max}
use native.Mathlib.Omega.{arith}
use lib.ListN.{length, take, drop, drop_of_length-le, length-drop}
use lib.Seq.{drop-drop}
use borrow.Author.Tests.{lt-ltb}
use Rattle.pack_token.specs.Token.{white_len, is_white, piece_len, Token, tokens, Skipped}
use Rattle.pack_token.proofs.Pieces.{piece, pieced, tokens_turn}

pub record Skipping (s : List ℕ) (from at : ℕ) : Type 0 where
  pub onward : from ≤ at
  pub bound : at ≤ max (length s) from
  pub same : tokens at (drop at s) ≡ tokens from (drop from s)

pub skip_start : (s : List ℕ) (from : ℕ) → Skipping s from from
skip_start s from = record { onward = omega arith; bound = omega arith; same = refl }

pub record More (s : List ℕ) (from at n : ℕ) : Type 0 where
  pub on : Skipping s from (at + n)
  pub some : 0 < n
  pub within : at + n ≤ length s

pub skip_more : (s : List ℕ) (from at n : ℕ) → Skipping s from at → at < length s → n ≡ white_len (drop at s) → (n ≡ 0 → ⊥) → More s from at n
skip_more s from at n k h hn some =
    let u = drop at s in
    let l : 0 < length u = omega (arith, length-drop at s) in
    let w : is_white u ≡ true = lt-ltb 0 (white_len u) (omega (arith, some)) in
    let q : piece_len u ≡ n = rw w (sym hn) in
    let p = piece u l in
    let m : n ≤ length u = subst (λ (x : ℕ). x ≤ length u) q p.1 in
    let turned : tokens at u ≡ tokens (at + n) (drop n u) =
    tokens_turn at u l ∙ blank_piece (is_white u) at (take (piece_len u) u) (tokens (at + piece_len u) (drop (piece_len u) u)) w
    ∙ ap (λ (x : ℕ). tokens (at + x) (drop x u)) q in
    let o = k.onward in
    let b : at + n ≤ length s = omega (arith, length-drop at s, m) in
    record {
      on = record { onward = omega arith; bound = omega arith; same = ap (tokens (at + n)) (sym (drop-drop n at s)) ∙ sym turned ∙ k.same };
      some = omega (arith, some);
      within = b;
    }
  where
    blank_piece : (w : Bool) (a : ℕ) (t : List ℕ) (l : List Token) → w ≡ true → pieced w a t l ≡ l
    blank_piece w a t l e = rw e

pub skip_end : (s : List ℕ) (from at : ℕ) {n : ℕ} → Skipping s from at → n ≡ white_len (drop at s) → n ≡ 0 → Skipped s from at
skip_end s from at k hn z = record { onward = k.onward; bound = k.bound; none = sym hn ∙ z; same = k.same }

pub skip_out : (s : List ℕ) (from at : ℕ) → Skipping s from at → length s ≤ at → Skipped s from at
skip_out s from at k h = record { onward = k.onward; bound = k.bound; none = ap white_len (drop_of_length-le s {i = at} h); same = k.same }
