-- The reader's tests of a pattern hold exactly of what is a pattern.
use mathlib.Core.Path.{◌≡◌, refl, sym, ap, subst, ◌∙◌}
use mathlib.Core.Bool.{Bool, true, false, not}
use mathlib.Core.List.{List, [], ◌∷◌, ◌++◌, append-nil, append_assoc}
use Prim.Native.Nat.{ℕ, zero, suc, ◌+◌, ◌-◌, ◌<◌}
use native.Mathlib.Omega.{arith}
use native.Mathlib.Numerals.{add-one}
use borrow.Author.Tests.{eq-eqb, ne_eqb, eqb-true}
use lib.Dec.{eqb}
use lib.ListN.{length, get_or, take, drop, take-append-drop, length-append, length-drop}
use lib.Seq.{take-add, take_at, drop_at, drop-drop, take-length, drop-length, drop-cons, get_or-append_seam}
use Rattle.std.specs.Prelude.{if◌then◌else◌}
use Rattle.decimal.specs.Choice.{both}
use Rattle.decimal.specs.Digits.{is_digit, AllDigits}
use Rattle.decimal.proofs.Choices.{tested, not_both, both_true}
use Rattle.decimal.proofs.Runs.{of_head}
use Rattle.pattern_affix.specs.declared.Affix.{Affix}
use Rattle.pattern_token.specs.Items.{is_place, token_at, quoted_after, is_number}
use Rattle.pattern_affix.specs.Affixes.{ends_affix, affix_from, affix}
use Rattle.pattern_number.specs.Shape.{digits, misplaced, seen_after, ordered, number_fits, is_hash}
use Rattle.pattern_reader.specs.Reading.{places, prefix_len, number_len, behind, suffix_affix, prefix_of, number_of, suffix_of, half_of, end_of, fits}
use Rattle.pattern_grammar.specs.NumberPart.{AllHashes, IsFraction, Sides, unpointed, pointed, IsPart}
use Rattle.pattern_grammar.specs.Grammar.{IsAffix, done, apostrophe, quote, bare, IsSub, IsPattern, one, two}
use Rattle.pattern_grammar.proofs.Parts.{whole_ordered, number_sound, number_complete}
use Rattle.pattern_grammar.proofs.Halves.{well_formed}
use Rattle.pattern_grammar.proofs.Affixes.{stops, affix_sound, affix_found, bare_parts}

-- ---- number-part bytes

digit_place : (b : ℕ) → is_digit b ≡ true → is_place b ≡ true
digit_place b d =
    tested (eqb b 35) (λ k. rw k)
    (λ k₁. tested (eqb b 44) (λ k. rw (k₁, k)) (λ k₂. tested (eqb b 46) (λ k. rw (k₁, k₂, k)) (λ k₃. rw (k₁, k₂, k₃) d)))

placed : (q : Bool) (b : ℕ) → misplaced q b ≡ false → is_place b ≡ true
placed q b e =
    tested (eqb b 44) (λ k. rw (eqb-true b 44 k))
    (λ k₁.
    tested (eqb b 35) (λ k. rw k)
    (λ k₂.
    tested (is_digit b) (λ d. digit_place b d)
    (λ d. let f : not (is_digit b) ≡ false = rw (k₁, k₂) at e in not_both (rw d) f)))

places_cons : (b : ℕ) (s r : List ℕ) → is_place b ≡ true → places (s ++ r) ≡ length s + places r → places (b ∷ (s ++ r)) ≡ suc (length s) + places r
places_cons b s r p e = rw p (omega arith)

ordered_places : (q : Bool) (w r : List ℕ) → ordered q w ≡ true → places (w ++ r) ≡ length w + places r
ordered_places q [] r e = omega arith
ordered_places q (b ∷ w) r e =
    tested (misplaced q b) (λ k. not_both e (rw k))
    (λ k. places_cons b w r (placed q b k) (ordered_places (seen_after q b) w r (rw k at e)))

digits_places : (s r : List ℕ) → AllDigits s → places (s ++ r) ≡ length s + places r
digits_places [] r e = omega arith
digits_places (b ∷ s) r e =
    let d = of_head is_digit b s e in
    places_cons b s r (digit_place b d.0) (digits_places s r d.1)

hashes_places : (s r : List ℕ) → AllHashes s → places (s ++ r) ≡ length s + places r
hashes_places [] r e = omega arith
hashes_places (b ∷ s) r e =
    let d = of_head is_hash b s e in
    places_cons b s r (rw d.0) (hashes_places s r d.1)

fraction_places : (f r : List ℕ) → IsFraction f → places (f ++ r) ≡ length f + places r
fraction_places f r p =
    let e : places ((p.figures ++ p.marks) ++ r) ≡ length (p.figures ++ p.marks) + places r =
    ap places (append_assoc p.figures p.marks r)
    ∙ (digits_places p.figures (p.marks ++ r) p.figures_are
    ∙ omega (arith, hashes_places p.marks r p.marks_are, length-append p.figures p.marks)) in
    rw p.text e

sides_places : {n w f : List ℕ} → Sides n w f → ordered false w ≡ true → IsFraction f → (r : List ℕ) → places (n ++ r) ≡ length n + places r
sides_places (unpointed {w}) o p r = ordered_places false w r o
sides_places (pointed {w} {f}) o p r =
    ap places (append_assoc w (46 ∷ f) r)
    ∙ (ordered_places false w (46 ∷ (f ++ r)) o
    ∙ omega (arith, fraction_places f r p, length-append w (46 ∷ f)))

part_places : (n r : List ℕ) → IsPart n → places (n ++ r) ≡ length n + places r
part_places n r p = sides_places p.sides (whole_ordered p.whole p.whole_is) p.fraction_is r

some_length : (n : List ℕ) → 0 < digits n → 0 < length n
some_length [] h = h
some_length (b ∷ n) h = omega arith

places_stop : (s : List ℕ) → 0 < places s → stops s ≡ true
places_stop [] h = refl
places_stop (b ∷ s) h =
    tested (is_place b) (λ k. rw k) (λ k. let g : 0 < 0 = rw k at h in absurd (no g))
  where
    no : 0 < 0 → ⊥
    no g = omega arith

part_stops : (n r : List ℕ) → IsPart n → stops (n ++ r) ≡ true
part_stops n r p = places_stop (n ++ r) (omega (arith, part_places n r p, some_length n p.some_digit))

-- ---- the end of a subpattern: the end of the text, or a semicolon

abbrev pub ends : List ℕ → Bool
ends [] = true
ends (b ∷ r) = eqb b 59

ends_stop : (r : List ℕ) → ends r ≡ true → stops r ≡ true
ends_stop [] e = refl
ends_stop (b ∷ r) e = tested (is_place b) (λ k. rw k) (λ k. rw k e)

ends_places : (r : List ℕ) → ends r ≡ true → places r ≡ 0
ends_places [] e = refl
ends_places (b ∷ r) e = rw (eqb-true b 59 e)

suffix_places : {x : List ℕ} → IsAffix false x → (r : List ℕ) → ends r ≡ true → places (x ++ r) ≡ 0
suffix_places done r e = ends_places r e
suffix_places (apostrophe a) r e = refl
suffix_places (quote f a) r e = refl
suffix_places (bare {b} {t} f a) r e = rw (bare_parts b f).1

-- ---- a subpattern is read as it is

pub record Read (s p n x : List ℕ) : Type 0 where
  pub prefix : prefix_len s ≡ length p
  pub number : number_len s ≡ length n
  pub suffix : suffix_affix s ≡ record { len = length x; closed = true }
  pub part : number_of s ≡ n

-- what stands behind two parts
pub drop_two : (p n x : List ℕ) → drop (length p + length n) (p ++ (n ++ x)) ≡ x
drop_two p n x =
    sym (drop-drop (length n) (length p) (p ++ (n ++ x))) ∙ (rw (drop_at p (n ++ x) (length p) refl) (drop_at n x (length n) refl))

-- the parts of a subpattern with what follows it
pub sub_before : (a r : List ℕ) (w : IsSub a) → a ++ r ≡ w.prefix ++ (w.number ++ (w.suffix ++ r))
sub_before a r w = ap (λ (l : List ℕ). l ++ r) w.text ∙ simp append_assoc

read_parts : (p n x r : List ℕ) → IsAffix false p → IsPart n → IsAffix false x → ends r ≡ true → Read (p ++ (n ++ (x ++ r))) p n x
read_parts p n x r ap-is n-is x-is e =
    record { prefix = pre; number = num; suffix = suf; part = rw (num, pre, cut) (take_at n (x ++ r) (length n) refl) }
  where
    s : List ℕ
    s = p ++ (n ++ (x ++ r))

    pre : prefix_len (p ++ (n ++ (x ++ r))) ≡ length p
    pre = ap (λ (a : Affix). a.len) (affix_found p (n ++ (x ++ r)) ap-is (part_stops n (x ++ r) n-is))

    cut : drop (length p) (p ++ (n ++ (x ++ r))) ≡ n ++ (x ++ r)
    cut = drop_at p (n ++ (x ++ r)) (length p) refl

    num : number_len (p ++ (n ++ (x ++ r))) ≡ length n
    num = rw (pre, cut) (omega (arith, part_places n (x ++ r) n-is, suffix_places x-is r e))

    suf : suffix_affix (p ++ (n ++ (x ++ r))) ≡ record { len = length x; closed = true }
    suf = rw (num, pre, drop_two p n (x ++ r)) (affix_found x r x-is (ends_stop r e))

pub read_sub : (a r : List ℕ) (w : IsSub a) → ends r ≡ true → Read (a ++ r) w.prefix w.number w.suffix
read_sub a r w e =
    let p = w.prefix in
    let n = w.number in
    let x = w.suffix in
    subst (λ (s : List ℕ). Read s p n x) (sym (sub_before a r w)) (read_parts p n x r w.prefix_is w.number_is w.suffix_is e)

pub read_end : (a r : List ℕ) (w : IsSub a) → ends r ≡ true → end_of (half_of (a ++ r)) ≡ length a
read_end a r w e =
    let d = read_sub a r w e in
    let x : (suffix_affix (a ++ r)).len ≡ length w.suffix = ap (λ (y : Affix). y.len) d.suffix in
    let l : length a ≡ length w.prefix + (length w.number + length w.suffix) =
    ap length w.text ∙ (length-append w.prefix (w.number ++ w.suffix) ∙ ap (λ (k : ℕ). length w.prefix + k) (length-append w.number w.suffix)) in
    omega (arith, d.prefix, d.number, x, l)

pub read_fits : (a r : List ℕ) (w : IsSub a) → ends r ≡ true → fits (half_of (a ++ r)) ≡ true
read_fits a r w e =
    let d = read_sub a r w e in
    let c : (suffix_affix (a ++ r)).closed ≡ true = ap (λ (y : Affix). y.closed) d.suffix in
    let f : number_fits (number_of (a ++ r)) ≡ true = ap number_fits d.part ∙ number_complete w.number w.number_is in
    joined c f
  where
    joined : {x y : Bool} → x ≡ true → y ≡ true → both x y ≡ true
    joined {x} {y} c f = rw c f

-- ---- what is read as a subpattern is one

-- an affix that leaves a quote open runs to the end of the text
runs_out : (q n : Bool) (k : ℕ) (s : List ℕ) → (affix_from q n k s).closed ≡ false → (affix_from q n k s).len ≡ length s
runs_out q n k [] e = refl
runs_out q n (suc k) (b ∷ s) e = ap suc (runs_out q n k s e)
runs_out q n zero (b ∷ s) e =
    let t = token_at q n (b ∷ s) in
    tested (ends_affix t.item) (λ k. not_both refl (rw k at e))
    (λ k. rw k (ap suc (runs_out (quoted_after q t.item) (is_number t.item) (t.width - 1) s (rw k at e))))

fits_parts : (s : List ℕ) → fits (half_of s) ≡ true → ((suffix_affix s).closed ≡ true) × (number_fits (number_of s) ≡ true)
fits_parts s e = both_true (suffix_affix s).closed (number_fits (number_of s)) e

prefix_closed : (s : List ℕ) → fits (half_of s) ≡ true → (affix s).closed ≡ true
prefix_closed s e = tested (affix s).closed (λ k. k) (λ k. not_both (fits_parts s e).1 (nothing k))
  where
    nothing : (affix s).closed ≡ false → number_fits (number_of s) ≡ false
    nothing k =
        let l : prefix_len s ≡ length s = runs_out false false 0 s k in
        let d : drop (prefix_len s) s ≡ [] = rw l (drop-length s) in
        let n : number_of s ≡ [] = rw d in
        rw n

sub_text : (s : List ℕ) → take (end_of (half_of s)) s ≡ prefix_of s ++ (number_of s ++ suffix_of s)
sub_text s =
    take-add (prefix_len s + number_len s) (suffix_affix s).len s
    ∙ (ap (λ (l : List ℕ). l ++ suffix_of s) (take-add (prefix_len s) (number_len s) s)
    ∙ append_assoc (prefix_of s) (number_of s) (suffix_of s))

pub sub_sound : (s : List ℕ) → fits (half_of s) ≡ true → IsSub (take (end_of (half_of s)) s)
sub_sound s e =
    let f = fits_parts s e in
    record {
      prefix = prefix_of s;
      number = number_of s;
      suffix = suffix_of s;
      text = sub_text s;
      prefix_is = affix_sound s (prefix_closed s e);
      number_is = number_sound (number_of s) f.1;
      suffix_is = affix_sound (behind s) f.0;
    }

-- ---- patterns

within : (s : List ℕ) (i : ℕ) → get_or s i 0 ≡ 59 → i < length s
within [] i e = absurd (no e)
  where
    no : ◌≡◌ {A = ℕ} 0 59 → ⊥
    no g = omega arith
within (b ∷ s) zero e = omega arith
within (b ∷ s) (suc i) e = omega (arith, within s i e)

pub pattern_sound : (s : List ℕ) → well_formed s ≡ true → IsPattern s
pattern_sound s e = tested (eqb (end_of (half_of s)) (length s)) alone other
  where
    alone : eqb (end_of (half_of s)) (length s) ≡ true → IsPattern s
    alone k =
        let w = sub_sound s (rw k at e) in
        let t : take (end_of (half_of s)) s ≡ s = rw (eqb-true (end_of (half_of s)) (length s) k) (take-length s) in
        one (subst IsSub t w)

    pair : (at : ℕ) → at ≡ end_of (half_of s) → get_or s at 0 ≡ 59 → fits (half_of s) ≡ true
        → at + 1 + end_of (half_of (drop (at + 1) s)) ≡ length s → fits (half_of (drop (at + 1) s)) ≡ true → IsPattern s
    pair at k g f l h =
        let w : IsSub (take at s) = subst (λ (i : ℕ). IsSub (take i s)) (sym k) (sub_sound s f) in
        let b = drop (at + 1) s in
        let n : length b ≡ end_of (half_of b) = omega (arith, length-drop (at + 1) s) in
        let u : take (end_of (half_of b)) b ≡ b = rw (sym n) (take-length b) in
        let v : IsSub b = subst IsSub u (sub_sound b h) in
        let t : take at s ++ (59 ∷ b) ≡ s =
        ap (λ (l : List ℕ). take at s ++ l) (sym (drop-cons s at 0 (within s at g) ∙ rw (g, add-one at))) ∙ take-append-drop at s in
        subst IsPattern t (two w v)

    other : eqb (end_of (half_of s)) (length s) ≡ false → IsPattern s
    other k =
        let at = end_of (half_of s) in
        let b = half_of (drop (at + 1) s) in
        tested (eqb (get_or s at 0) 59)
        (λ g.
        tested (eqb (at + 1 + end_of b) (length s))
        (λ l.
        let f = both_true (fits (half_of s)) (fits b) (rw (k, g, l) at e) in
        pair at refl (eqb-true (get_or s at 0) 59 g) f.0 (eqb-true (at + 1 + end_of b) (length s) l) f.1)
        (λ l. not_both e (rw (k, g, l))))
        (λ g. not_both e (rw (k, g)))

-- what stands behind the semicolon
pub second_text : (a b : List ℕ) → drop (length a + 1) (a ++ (59 ∷ b)) ≡ b
second_text [] b = refl
second_text (c ∷ a) b =
    let e : suc (length a) + 1 ≡ suc (length a + 1) = omega arith in
    rw e (second_text a b)

pub pattern_complete : {s : List ℕ} → IsPattern s → well_formed s ≡ true
pattern_complete (one {s} w) =
    let e : end_of (half_of s) ≡ length s = ap (λ (l : List ℕ). end_of (half_of l)) (sym (append-nil s)) ∙ read_end s [] w refl in
    let f : fits (half_of s) ≡ true = ap (λ (l : List ℕ). fits (half_of l)) (sym (append-nil s)) ∙ read_fits s [] w refl in
    rw (eq-eqb (end_of (half_of s)) (length s) e) f
pattern_complete (two {a} {b} w v) =
    let s = a ++ (59 ∷ b) in
    let i : end_of (half_of s) ≡ length a = read_end a (59 ∷ b) w refl in
    let f : fits (half_of s) ≡ true = read_fits a (59 ∷ b) w refl in
    let e : end_of (half_of b) ≡ length b = ap (λ (l : List ℕ). end_of (half_of l)) (sym (append-nil b)) ∙ read_end b [] v refl in
    let h : fits (half_of b) ≡ true = ap (λ (l : List ℕ). fits (half_of l)) (sym (append-nil b)) ∙ read_fits b [] v refl in
    let n : length s ≡ length a + suc (length b) = length-append a (59 ∷ b) in
    second a b (end_of (half_of s)) i f e h n
  where
    second : (a b : List ℕ) (at : ℕ) → at ≡ length a → fits (half_of (a ++ (59 ∷ b))) ≡ true → end_of (half_of b) ≡ length b → fits (half_of b) ≡ true
        → length (a ++ (59 ∷ b)) ≡ length a + suc (length b)
        → (if eqb at (length (a ++ (59 ∷ b))) then fits (half_of (a ++ (59 ∷ b))) else
        if eqb (get_or (a ++ (59 ∷ b)) at 0) 59 then
        (if eqb (at + 1 + end_of (half_of (drop (at + 1) (a ++ (59 ∷ b))))) (length (a ++ (59 ∷ b)))
        then both (fits (half_of (a ++ (59 ∷ b)))) (fits (half_of (drop (at + 1) (a ++ (59 ∷ b)))))
        else false)
        else false) ≡ true
    second a b at i f e h n =
        let d : drop (at + 1) (a ++ (59 ∷ b)) ≡ b = rw i (second_text a b) in
        let g : get_or (a ++ (59 ∷ b)) at 0 ≡ 59 = rw i (get_or-append_seam a 59 b 0) in
        rw (
          ne_eqb at (length (a ++ (59 ∷ b))) (λ y. omega arith),
          eq-eqb (get_or (a ++ (59 ∷ b)) at 0) 59 g,
          d,
          eq-eqb (at + 1 + end_of (half_of b)) (length (a ++ (59 ∷ b))) (omega arith),
          f,
        ) h

-- The parts of a subpattern are the ones that are read, whatever ends it: a text is a subpattern in one way only.
pub parts_before : (a r : List ℕ) (w : IsSub a) → ends r ≡ true
    → (prefix_of (a ++ r) ≡ w.prefix) × (number_of (a ++ r) ≡ w.number) × (suffix_of (a ++ r) ≡ w.suffix)
parts_before a r w e =
    let d = read_sub a r w e in
    let p = w.prefix in
    let n = w.number in
    let x = w.suffix in
    let t = sub_before a r w in
    let b : behind (a ++ r) ≡ x ++ r = rw (d.number, d.prefix, t) (drop_two p n (x ++ r)) in
    let l : (suffix_affix (a ++ r)).len ≡ length x = ap (λ (y : Affix). y.len) d.suffix in
    (rw (d.prefix, t) (take_at p (n ++ (x ++ r)) (length p) refl), d.part, rw (l, b) (take_at x r (length x) refl))

pub parts_read : (s : List ℕ) (w : IsSub s) → (prefix_of s ≡ w.prefix) × (number_of s ≡ w.number) × (suffix_of s ≡ w.suffix)
parts_read s w = rw append-nil at (parts_before s [] w refl)
