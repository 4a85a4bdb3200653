-- Laws of the board: one piece of the text more.
use mathlib.Core.Path.{◌≡◌, refl, sym, ap, ◌∙◌, subst}
use mathlib.Core.Bool.{Bool, true, false}
use mathlib.Core.List.{List, []}
use Prim.Native.Nat.{ℕ, ◌+◌, ◌-◌, ◌≤◌, ◌<◌}
use native.Mathlib.Omega.{arith}
use lib.Dec.{ltb}
use lib.ListN.{length, take, drop, drop_of_length-le, length-drop}
use lib.Seq.{drop-drop}
use borrow.Author.Tests.{lt-ltb, le-ltb, ltb-true, ltb-false}
use Rattle.std.specs.Prelude.{if◌then◌else◌}
use Rattle.decimal.proofs.Choices.{choice, tested}
use Rattle.pack_rules.specs.declared.Pack.{Pack}
use Rattle.pack_token.specs.Token.{white_len, token_len, piece_len, is_white, Token, tokens, Skipped}
use Rattle.pack_token.proofs.Pieces.{piece, pieced, tokens_turn, no_tokens}
use Rattle.pack_grammar.specs.Limits.{max_bytes}
use Rattle.pack_grammar.specs.Grammar.{Text}
use Rattle.pack_walk.specs.Steps.{step_after}
use Rattle.pack_walk.specs.declared.Walk.{Walk}
use Rattle.pack_walk.specs.declared.Step.{Step}
use Rattle.pack_columns.specs.Stored.{set_if, set_row_if, row_for}
use Rattle.pack_reader.specs.Board.{Arrays, arrays_of, filled, Board, token_at, board_after, boards, start_walk, within4096}

-- ---- one piece more

turn_if : (w : Bool) (b : Board) (u : Text) (a : ℕ) (l : List Token) → boards b (pieced w a u l) ≡ boards (if w then b else board_after b u a) l
turn_if true b u a l = refl
turn_if false b u a l = refl

pub record Turned (b e : Board) (s : Text) (at m : ℕ) : Type 0 where
  pub rest : boards e (tokens (at + m) (drop (at + m) s)) ≡ boards b (tokens at (drop at s))
  pub some : 0 < m
  pub within : at + m ≤ length s

pub turn : (b e : Board) (s : Text) (at white m : ℕ) → e ≡ (if ltb 0 white then b else board_after b (take m (drop at s)) at)
    → white ≡ white_len (drop at s) → m ≡ (if ltb 0 white then white else token_len (drop at s)) → at < length s → Turned b e s at m
turn b e s at white m he hw hm h =
    let u = drop at s in
    let q : m ≡ piece_len u = rw hw at hm in
    let l : 0 < length u = omega (arith, length-drop at s) in
    let p = piece u l in
    record {
      rest =
          ap (boards e) (ap (tokens (at + m)) (sym (drop-drop m at s))) ∙ rw (he, hw, q)
          (sym (ap (boards b) (tokens_turn at u l) ∙ turn_if (is_white u) b (take (piece_len u) u) at (tokens (at + piece_len u) (drop (piece_len u) u))));
      some = omega arith;
      within = omega (arith, length-drop at s);
    }

pub done : (b : Board) (s : Text) (at : ℕ) → length s ≤ at → boards b (tokens at (drop at s)) ≡ b
done b s at h = ap (boards b) (no_tokens (length (drop at s)) at (drop at s) (omega (arith, length-drop at s)))

-- ---- one turn of the loop: a piece, or the end behind the text

-- the board when all that is left has been taken: the tokens from a place on and the end; behind the end, nothing
abbrev pub ahead : Text → Text → ℕ → Board → Board
ahead s end at b = if ltb (length s) at then b else board_after (boards b (tokens at (drop at s))) end (length s)

pub record Stepped (b e : Board) (s end : Text) (at m : ℕ) : Type 0 where
  pub rest : ahead s end (at + m) e ≡ ahead s end at b
  pub some : 0 < m
  pub within : at + m ≤ length s + 1

pub starting : (s end : Text) (a : Arrays) (w : Walk) → w ≡ start_walk
    → ahead s end 0 (record { walk = w; arrays = a }) ≡ board_after (boards (record { walk = start_walk; arrays = a }) (tokens 0 s)) end (length s)
starting s end a w h = rw (le-ltb (length s) 0 (omega arith)) (ap (λ (x : Walk). board_after (boards (record { walk = x; arrays = a }) (tokens 0 s)) end (length s)) h)

last : (b e : Board) (s end : Text) (at white m : ℕ) → e ≡ (if ltb 0 white then b else board_after b (token_at s end at m) at)
    → white ≡ white_len (drop at s) → m ≡ (if ltb 0 white then white else token_len (drop at s)) → at ≡ length s → Stepped b e s end at m
last b e s end at white m he hw hm h =
    let u : drop at s ≡ [] = drop_of_length-le s {i = at} (omega arith) in
    let z : white ≡ 0 = hw ∙ ap white_len u in
    let one : m ≡ 1 = hm ∙ rw (z, u) in
    let f : e ≡ board_after b end at = he ∙ rw (z, le-ltb at (length s) (omega arith)) in
    record {
      rest =
          rw (lt-ltb (length s) (at + m) (omega arith), le-ltb (length s) at (omega arith))
          (f ∙ ap (board_after b end) h ∙ sym (ap (λ (x : Board). board_after x end (length s)) (done b s at (omega arith))));
      some = omega arith;
      within = omega arith;
    }

pub step : (b e : Board) (s end : Text) (at white m : ℕ) → e ≡ (if ltb 0 white then b else board_after b (token_at s end at m) at)
    → white ≡ white_len (drop at s) → m ≡ (if ltb 0 white then white else token_len (drop at s)) → at ≤ length s → Stepped b e s end at m
step b e s end at white m he hw hm h =
    tested (ltb at (length s))
    (λ q. let z = turn b e s at white m (rw q at he) hw hm (ltb-true at (length s) q) in
    record {
      rest = rw (le-ltb (length s) (at + m) z.within, le-ltb (length s) at h) (ap (λ (x : Board). board_after x end (length s)) z.rest);
      some = z.some;
      within = omega (arith, z.within);
    })
    (λ q. last b e s end at white m he hw hm (omega (arith, ltb-false at (length s) q)))

-- ---- white space

-- white space before a token makes no difference
skipped : (s end : Text) (from at : ℕ) (b : Board) → Skipped s from at → ahead s end at b ≡ ahead s end from b
skipped s end from at b k =
    tested (ltb (length s) from)
    (λ q. let h = ltb-true (length s) from q in
    let e : at ≡ from = omega (arith, k.onward, k.bound) in
    ap (λ (n : ℕ). ahead s end n b) e)
    (λ q. let h = ltb-false (length s) from q in
    rw (q, le-ltb (length s) at (omega (arith, k.bound))) (ap (λ (l : List Token). board_after (boards b l) end (length s)) k.same))

-- one token, and the white space behind it
pub record Onward (b e : Board) (s end : Text) (at next : ℕ) : Type 0 where
  pub rest : ahead s end next e ≡ ahead s end at b
  pub within : next ≤ length s + 1

pub onward : (b e : Board) (s end : Text) (at m next : ℕ) → e ≡ board_after b (token_at s end at m) at → white_len (drop at s) ≡ 0 → m ≡ token_len (drop at s) → at ≤ length s
    → Skipped s (at + m) next → Onward b e s end at next
onward b e s end at m next he hw hm h k =
    let z = step b e s end at 0 m he (sym hw) hm h in
    record {
      rest = skipped s end (at + m) next e k ∙ z.rest;
      within = omega (arith, z.within, k.bound);
    }

-- ---- a pack's arrays

abbrev pub arrays : Pack → Arrays
arrays p = arrays_of p.low p.high p.columns p.relations p.keyword p.clauses

-- ---- the loop of `read_pack`: it stands at a token or at the end, and what is ahead gives what the first arrays give with the whole text

pub record Stands (s end : Text) (first : Arrays) (at : ℕ) (w : Walk) (a : Arrays) : Type 0 where
  pub within : at ≤ length s + 1
  pub none : white_len (drop at s) ≡ 0
  pub rest : ahead s end at (record { walk = w; arrays = a }) ≡ board_after (boards (record { walk = start_walk; arrays = first }) (tokens 0 s)) end (length s)

pub stands_first : (s end : Text) (a : Arrays) (at : ℕ) (w : Walk) → w ≡ start_walk → Skipped s 0 at → Stands s end a at w a
stands_first s end a at w h k =
    record {
      within = omega (arith, k.bound);
      none = k.none;
      rest = skipped s end 0 at (record { walk = w; arrays = a }) k ∙ starting s end a w h;
    }

-- a token is some bytes, and ends in the text or with the end behind it
pub token_ends : (s : Text) (at m : ℕ) → white_len (drop at s) ≡ 0 → m ≡ token_len (drop at s) → at ≤ length s → (0 < m) × (at + m ≤ length s + 1)
token_ends s at m hw hm h =
    let b : Board = record { walk = start_walk; arrays = arrays_of [] [] [] [] [] [] } in
    let z = step b (board_after b (token_at s [] at m) at) s [] at 0 m refl (sym hw) hm h in
    (z.some, z.within)

-- so each turn leaves less
pub token_less : (s : Text) (at m next : ℕ) → white_len (drop at s) ≡ 0 → m ≡ token_len (drop at s) → at ≤ length s → Skipped s (at + m) next
    → (length s + 1) - next < (length s + 1) - at
token_less s at m next hw hm h k = omega (arith, (token_ends s at m hw hm h).0, k.onward)

pub takes : {s end : Text} {first a : Arrays} {at : ℕ} {w : Walk} → Stands s end first at w a → (t : Text) (m next : ℕ)
    {less : ℕ} {low high twice columns relations keyword clauses : List ℕ}
    → t ≡ token_at s end at m → m ≡ token_len (drop at s) → at ≤ length s → Skipped s (at + m) next → less ≡ w.counts.ranges - 1
    → (g : Step) → g ≡ step_after t at a.keyword w
    → low ≡ set_if g.starts a.low w.counts.ranges g.value
    → high ≡ set_if g.starts a.high w.counts.ranges g.value
    → twice ≡ set_if g.ends high less g.value
    → columns ≡ set_row_if g.closes.relation a.columns w.counts.relations (row_for w.current w.counts.ranges)
    → relations ≡ set_if g.closes.clause a.relations w.counts.clauses g.walk.counts.relations
    → keyword ≡ set_if g.closes.rule a.keyword w.counts.rules w.current.key
    → clauses ≡ set_if g.closes.rule a.clauses w.counts.rules g.walk.counts.clauses
    → Stands s end first next g.walk (arrays_of low twice columns relations keyword clauses)
takes {s} {end} {first} {a} {at} {w} i t m next {less} {low} {high} {twice} {columns} {relations} {keyword} {clauses} ht hm h hs hl g hg e1 e2 e3 e4 e5 e6 e7 =
    let b : Board = record { walk = w; arrays = a } in
    let fill : Step → Arrays = λ y. filled y.starts y.ends y.value y.closes w.counts y.walk.counts w.current a in
    let f : arrays_of low twice columns relations keyword clauses ≡ fill g = rw (e1, e3, e2, hl, e4, e5, e6, e7) in
    let r : record { walk = g.walk; arrays = arrays_of low twice columns relations keyword clauses } ≡ board_after b t at =
    ◌∙◌ {b = record { walk = g.walk; arrays = fill g }} (ap (λ (x : Arrays). record { walk = g.walk; arrays = x }) f)
    (ap (λ (y : Step). record { walk = y.walk; arrays = fill y }) hg) in
    let z = onward b _ s end at m next (r ∙ ap (λ (y : Text). board_after b y at) ht) i.none hm h hs in
    record { within = z.within; none = hs.none; rest = z.rest ∙ i.rest }

pub stands_last : {s end : Text} {first a : Arrays} {at : ℕ} {w : Walk} → Stands s end first at w a → length s < at
    → record { walk = w; arrays = a } ≡ board_after (boards (record { walk = start_walk; arrays = first }) (tokens 0 s)) end (length s)
stands_last {s} {end} {first} {a} {at} {w} i h = rw (lt-ltb (length s) at h) at i.rest

pub within_le : (text s : Text) → s ≡ within4096 text → length s ≤ 4096
within_le text s e = subst (λ (l : Text). length l ≤ 4096) (sym e) (choice (λ (l : Text). length l ≤ 4096) (ltb max_bytes (length text)) (λ _. omega arith) (λ k. ltb-false max_bytes (length text) k))
