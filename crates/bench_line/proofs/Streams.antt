-- However the input is cut into pieces, the answers are those of the whole input.
use mathlib.Core.Path.{◌≡◌, refl, sym, ap, ◌∙◌}
use mathlib.Core.Bool.{Bool, true, false}
use mathlib.Core.List.{List, [], ◌∷◌, ◌++◌, append-nil}
use Prim.Native.Nat.{ℕ, suc, ◌+◌, ◌≤◌, ◌<◌}
use native.Mathlib.Omega.{arith}
use native.Mathlib.Numerals.{add-one}
use lib.Dec.{ltb, eqb}
use borrow.Author.Tests.{ltb-true, ltb-false, lt-ltb}
use lib.ListN.{length, take, drop, length-append}
use lib.Seq.{take-append-le, drop-append-le, drop-append-add, length-take-le}
use Rattle.decimal.proofs.Choices.{tested, choice, not_both, never}
use Rattle.decimal.specs.Split.{on_first}
use Rattle.decimal.proofs.Runs.{nil_of_length}
use Rattle.decimal.proofs.Splits.{until_le, until_within, until_beyond}
use Rattle.line.specs.Cuts.{line_length, cut_of, max_line}
use Rattle.bench_line.specs.Lines.{lines, unread, answer_to, answers_to, output}
use Rattle.bench_line.specs.Stream.{cut_answer, pending}
use Rattle.line.specs.declared.Cut.{Cut}
use Rattle.line.specs.declared.Cut.TheVariants.{Line, Over, More, Done}

-- ---- the first line of an input, and the others

lines_first : (x : List ℕ) → 0 < length x → lines x ≡ take (line_length x) x ∷ lines (drop (suc (line_length x)) x)
lines_first [] h = absurd (omega arith)
lines_first (b ∷ []) h = tested (eqb b 10) (λ k. rw k) (λ k. rw k)
lines_first (b ∷ c ∷ s) h =
    let rest = lines_first (c ∷ s) (omega arith) in
    tested (eqb b 10) (λ k. rw k) (λ k. rw k (ap (on_first b) rest))

output_first : (x : List ℕ) → 0 < length x → output x ≡ answer_to (take (line_length x) x) ++ output (drop (line_length x + 1) x)
output_first x h =
    ap answers_to (lines_first x h)
    ∙ ap (λ (k : ℕ). answer_to (take (line_length x) x) ++ output (drop k x)) (sym (add-one (line_length x)))

-- ---- what is done with the bytes held

-- the line ends at an LF among them
line_ends : (long : Bool) (s r : List ℕ) → line_length s < length s
    → pending long (s ++ r) ≡ cut_answer long (take (line_length s) s) ++ pending false (drop (line_length s + 1) s ++ r)
line_ends true s r h =
    rw (until_within 10 s r h, drop-append-le (line_length s + 1) s r (omega arith))
line_ends false s r h =
    output_first (s ++ r) (omega (arith, length-append s r))
    ∙ rw (until_within 10 s r h, take-append-le (line_length s) s r (omega arith), drop-append-le (line_length s + 1) s r (omega arith))

-- or at the input's end
no_lf : (s : List ℕ) → length s ≤ line_length s → line_length s ≡ length s
no_lf s h = omega (arith, until_le 10 s)

line_last : (long : Bool) (s : List ℕ) → length s ≤ line_length s → (long ≡ false → 0 < length s)
    → pending long s ≡ cut_answer long (take (length s) s) ++ pending false (drop (length s + 1) s)
line_last true s h w = rw (no_lf s h)
line_last false s h w = output_first s (w refl) ∙ rw (no_lf s h)

-- the cases of a cut, with what holds in each
data Seen (long last : Bool) (s : List ℕ) : Cut → Type 0 where
  at_lf : line_length s < length s → Seen long last s (Line (line_length s))
  at_end : length s ≤ line_length s → last ≡ true → (long ≡ false → 0 < length s) → Seen long last s (Line (length s))
  over : length s ≤ line_length s → last ≡ false → max_line < length s → Seen long last s Over
  more : last ≡ false → length s ≤ max_line → Seen long last s More
  done : last ≡ true → long ≡ false → length s ≡ 0 → Seen long last s Done

seen : (long last : Bool) (s : List ℕ) → Seen long last s (cut_of long last s)
seen long last s =
    choice (Seen long last s) (ltb (line_length s) (length s)) (λ k. at_lf (ltb-true (line_length s) (length s) k))
    (λ k. choice (Seen long last s) last
    (λ l. choice (Seen long last s) long (λ q. at_end (ltb-false (line_length s) (length s) k) l (λ f. not_both q f))
    (λ q. choice (Seen long last s) (ltb 0 (length s)) (λ z. at_end (ltb-false (line_length s) (length s) k) l (λ _. ltb-true 0 (length s) z))
    (λ z. done l q (empty (ltb-false 0 (length s) z)))))
    (λ l. choice (Seen long last s) (ltb max_line (length s)) (λ z. over (ltb-false (line_length s) (length s) k) l (ltb-true max_line (length s) z))
    (λ z. more l (ltb-false max_line (length s) z))))
  where
    empty : length s ≤ 0 → length s ≡ 0
    empty h = omega arith

-- A line is cut off: its answer is the next to be written, and what is behind it is still to be answered. Where the input ends behind s, r is empty.
pub line : (long last : Bool) (s r : List ℕ) (n : ℕ) → cut_of long last s ≡ Line n → (last ≡ true → r ≡ [])
    → pending long (s ++ r) ≡ cut_answer long (take n s) ++ pending false (drop (n + 1) s ++ r)
line long last s r n e w = by (seen long last s) e
  where
    by : {c : Cut} → Seen long last s c → c ≡ Line n → pending long (s ++ r) ≡ cut_answer long (take n s) ++ pending false (drop (n + 1) s ++ r)
    by (at_lf h) q =
        let same : line_length s ≡ n = cc in
        rw (← same) (line_ends long s r h)
    by (at_end h l k) q =
        let same : length s ≡ n = cc in
        rw (← same, w l, append-nil, append-nil) (line_last long s h k)
    by (over h l k) q = never (cc)
    by (more l k) q = never (cc)
    by (done l k z) q = never (cc)

-- the first line, of which s is a part, is too long: the bytes are not needed any more
over_drops : (long : Bool) (s r : List ℕ) → length s ≤ line_length s → max_line < length s → pending long (s ++ r) ≡ pending true r
over_drops long s r h k = pass long
  where
    behind : drop (line_length (s ++ r) + 1) (s ++ r) ≡ drop (line_length r + 1) r
    behind =
        let e : line_length (s ++ r) + 1 ≡ length s + (line_length r + 1) = omega (arith, until_beyond 10 s r h) in
        rw (e, drop-append-add s r (line_length r + 1))

    first : answer_to (take (line_length (s ++ r)) (s ++ r)) ≡ unread 60
    first = rw (lt-ltb max_line (length (take (line_length (s ++ r)) (s ++ r))) (omega (arith, length-take-le (line_length (s ++ r)) (s ++ r) (until_le 10 (s ++ r)), until_beyond 10 s r h)))

    pass : (q : Bool) → pending q (s ++ r) ≡ pending true r
    pass true = rw behind
    pass false = output_first (s ++ r) (omega (arith, length-append s r)) ∙ rw (first, behind)

-- The bytes are dropped: what is written is the same as if they had only been marked as too long.
pub over_long : (long last : Bool) (s r : List ℕ) → cut_of long last s ≡ Over → pending long (s ++ r) ≡ pending true r
over_long long last s r e = by (seen long last s) e
  where
    by : {c : Cut} → Seen long last s c → c ≡ Over → pending long (s ++ r) ≡ pending true r
    by (at_lf h) q = never (cc)
    by (at_end h l k) q = never (cc)
    by (over h l k) q = over_drops long s r h k
    by (more l k) q = never (cc)
    by (done l k z) q = never (cc)

-- More is asked for only before the input's end, and while the bytes held are few.
pub more_few : (long last : Bool) (s : List ℕ) → cut_of long last s ≡ More → (last ≡ false) × (length s ≤ max_line)
more_few long last s e = by (seen long last s) e
  where
    by : {c : Cut} → Seen long last s c → c ≡ More → (last ≡ false) × (length s ≤ max_line)
    by (at_lf h) q = never (cc)
    by (at_end h l k) q = never (cc)
    by (over h l k) q = never (cc)
    by (more l k) q = (l, k)
    by (done l k z) q = never (cc)

-- The end is told only where the input has ended and nothing is left to write.
pub done_all : (long last : Bool) (s : List ℕ) → cut_of long last s ≡ Done → (last ≡ true) × (pending long s ≡ [])
done_all long last s e = by (seen long last s) e
  where
    by : {c : Cut} → Seen long last s c → c ≡ Done → (last ≡ true) × (pending long s ≡ [])
    by (at_lf h) q = never (cc)
    by (at_end h l k) q = never (cc)
    by (over h l k) q = never (cc)
    by (more l k) q = never (cc)
    by (done l k z) q = (l, rw (k, nil_of_length s z))
