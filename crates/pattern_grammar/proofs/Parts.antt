-- The reader's tests of a number part hold exactly of what is a number part.
use mathlib.Core.Path.{◌≡◌, refl, sym, ap, subst, ◌∙◌}
use mathlib.Core.Bool.{Bool, true, false}
use mathlib.Core.List.{List, [], ◌∷◌, ◌++◌, append-nil}
use Prim.Native.Nat.{ℕ, zero, suc, ◌+◌, ◌≤◌, ◌<◌}
use native.Mathlib.Omega.{arith}
use native.Mathlib.Numerals.{add-one}
use borrow.Author.Tests.{eq-eqb, ne_eqb, eqb-true, eqb-false, ltb-true, ltb-false, lt-ltb}
use lib.Dec.{eqb, ltb}
use lib.ListN.{length, get_or, take, drop, take-append-drop, length-drop, length-append, drop_of_length-le}
use lib.Seq.{take_at, drop_at, take-length, drop-cons}
use Rattle.std.specs.Prelude.{if◌then◌else◌}
use Rattle.decimal.specs.Digits.{is_digit, begins, run, AllDigits}
use Rattle.decimal.proofs.Choices.{tested, not_both}
use Rattle.decimal.proofs.Runs.{of_head, of_cons, of_run, run_append, run_le}
use Rattle.decimal.specs.Split.{until}
use Rattle.decimal.proofs.Splits.{until_le}
use Rattle.pattern_number.specs.Shape.{whole_of, fraction_of, digits, misplaced, seen_after, ordered, bad_comma, apart, whole_fits, is_hash, hashes, fraction_fits, number_fits}
use Rattle.pattern_grammar.specs.NumberPart.{drop_commas, AllHashes, IsWhole, IsFraction, Sides, unpointed, pointed, IsPart}

-- `#` is no digit
pub hash_no_digit : (b : ℕ) → eqb b 35 ≡ true → is_digit b ≡ false
hash_no_digit b e = rw (eqb-true b 35 e)

pub digit_no_hash : (b : ℕ) → is_digit b ≡ true → eqb b 35 ≡ false
digit_no_hash b d = tested (eqb b 35) (λ k. not_both d (hash_no_digit b k)) (λ k. k)

-- ---- `#` first, then digits

-- as IsPlaces, with no `#` where a digit stands before
record Ordered (seen : Bool) (t : List ℕ) : Type 0 where
  marks : List ℕ
  figures : List ℕ
  text : t ≡ marks ++ figures
  marks_are : AllHashes marks
  figures_are : AllDigits figures
  none : seen ≡ true → marks ≡ []

ordered_more : (q : Bool) (b : ℕ) (w : List ℕ) → ((p : Bool) → ordered p w ≡ true → Ordered p (drop_commas w))
    → ordered q (b ∷ w) ≡ true → Ordered q (drop_commas (b ∷ w))
ordered_more q b w ih e = tested (eqb b 44) comma other
  where
    comma : eqb b 44 ≡ true → Ordered q (drop_commas (b ∷ w))
    comma k = rw k (ih q (rw k at e))

    hash : eqb b 44 ≡ false → eqb b 35 ≡ true → q ≡ false → Ordered q (b ∷ drop_commas w)
    hash k h f =
        let d : is_digit b ≡ false = hash_no_digit b h in
        let o : Ordered false (drop_commas w) = ih false (rw (k, h, f, d) at e) in
        record {
          marks = b ∷ o.marks;
          figures = o.figures;
          text = ap (λ (l : List ℕ). b ∷ l) o.text;
          marks_are = of_cons is_hash b o.marks h o.marks_are;
          figures_are = o.figures_are;
          none = λ t. not_both t f;
        }

    digit : eqb b 44 ≡ false → eqb b 35 ≡ false → is_digit b ≡ true → Ordered q (b ∷ drop_commas w)
    digit k h d =
        let o : Ordered true (drop_commas w) = ih true (rw (k, h, d) at e) in
        let t : drop_commas w ≡ o.figures = rw (o.none refl) at o.text in
        record {
          marks = [];
          figures = b ∷ o.figures;
          text = ap (λ (l : List ℕ). b ∷ l) t;
          marks_are = refl;
          figures_are = of_cons is_digit b o.figures d o.figures_are;
          none = λ _. refl;
        }

    other : eqb b 44 ≡ false → Ordered q (drop_commas (b ∷ w))
    other k =
        rw k
        (tested (eqb b 35)
        (λ h. tested q (λ t. not_both e (rw (k, h, t))) (λ f. hash k h f))
        (λ h. tested (is_digit b) (λ d. digit k h d) (λ d. not_both e (rw (k, h, d)))))

ordered_sound : (q : Bool) (w : List ℕ) → ordered q w ≡ true → Ordered q (drop_commas w)
ordered_sound q [] e = record { marks = []; figures = []; text = refl; marks_are = refl; figures_are = refl; none = λ _. refl }
ordered_sound q (b ∷ w) e = ordered_more q b w (λ p f. ordered_sound p w f) e

ordered_back : (q : Bool) (b : ℕ) (w : List ℕ) → ((p : Bool) → Ordered p (drop_commas w) → ordered p w ≡ true)
    → Ordered q (drop_commas (b ∷ w)) → ordered q (b ∷ w) ≡ true
ordered_back q b w ih o = tested (eqb b 44) comma other
  where
    comma : eqb b 44 ≡ true → ordered q (b ∷ w) ≡ true
    comma k = rw k (ih q (rw k at o))

    split : eqb b 44 ≡ false → (m f : List ℕ) → b ∷ drop_commas w ≡ m ++ f → AllHashes m → AllDigits f → (q ≡ true → m ≡ []) → ordered q (b ∷ w) ≡ true
    split k [] [] t ma fa n = absurd (no t)
      where
        no : b ∷ drop_commas w ≡ [] → ⊥
        no g =
            let z : ◌≡◌ {A = ℕ} 0 1 = cc in
            omega arith
    split k [] (c ∷ f) t ma fa n =
        let same : b ≡ c = cc in
        let rest : drop_commas w ≡ f = cc in
        let d : is_digit b ≡ true = rw same (of_head is_digit c f fa).0 in
        rw (k, digit_no_hash b d, d)
        (ih true
        (record { marks = []; figures = f; text = rest; marks_are = refl; figures_are = (of_head is_digit c f fa).1; none = λ _. refl }))
    split k (c ∷ m) f t ma fa n =
        let same : b ≡ c = cc in
        let rest : drop_commas w ≡ m ++ f = cc in
        let h : eqb b 35 ≡ true = rw same (of_head is_hash c m ma).0 in
        tested q (λ g. absurd (no (n g)))
        (λ g.
        rw (k, h, g, hash_no_digit b h)
        (ih false
        (record { marks = m; figures = f; text = rest; marks_are = (of_head is_hash c m ma).1; figures_are = fa; none = λ y. not_both y refl })))
      where
        no : c ∷ m ≡ [] → ⊥
        no g =
            let z : ◌≡◌ {A = ℕ} 0 1 = cc in
            omega arith

    other : eqb b 44 ≡ false → ordered q (b ∷ w) ≡ true
    other k =
        let p : Ordered q (b ∷ drop_commas w) = rw k at o in
        split k p.marks p.figures p.text p.marks_are p.figures_are p.none

ordered_complete : (q : Bool) (w : List ℕ) → Ordered q (drop_commas w) → ordered q w ≡ true
ordered_complete q [] o = refl
ordered_complete q (b ∷ w) o = ordered_back q b w (λ p r. ordered_complete p w r) o

-- ---- commas

some_bytes : (w : List ℕ) → (length w ≡ 0 → ⊥) → 0 < length w
some_bytes [] h = absurd (h refl)
some_bytes (b ∷ w) h = omega arith

apart_sound : (w : List ℕ) → apart w ≡ true → (i : ℕ) → i < length w → get_or w i 0 ≡ 44 → (suc i < length w) × (get_or w (suc i) 0 ≡ 44 → ⊥)
apart_sound [] e i h g = omega arith
apart_sound (b ∷ w) e zero h g = tested (bad_comma b w) (λ k. not_both e (rw k)) here
  where
    here : bad_comma b w ≡ false → (suc zero < suc (length w)) × (get_or w 0 0 ≡ 44 → ⊥)
    here k =
        let l : (if eqb (length w) 0 then true else eqb (get_or w 0 0) 44) ≡ false = rw (eq-eqb b 44 g) at k in
        tested (eqb (length w) 0) (λ z. not_both (rw z) l)
        (λ z.
        (omega (arith, some_bytes w (eqb-false (length w) 0 z)), eqb-false (get_or w 0 0) 44 (rw z at l)))
apart_sound (b ∷ w) e (suc i) h g =
    tested (bad_comma b w) (λ k. not_both e (rw k))
    (λ k.
    let r = apart_sound w (rw k at e) i (omega arith) g in
    (omega (arith, r.0), r.1))

apart_complete : (w : List ℕ) → ((i : ℕ) → i < length w → get_or w i 0 ≡ 44 → (suc i < length w) × (get_or w (suc i) 0 ≡ 44 → ⊥)) → apart w ≡ true
apart_complete [] f = refl
apart_complete (b ∷ w) f =
    rw here (apart_complete w (λ i h g. (omega (arith, (f (suc i) (omega arith) g).0), (f (suc i) (omega arith) g).1)))
  where
    comma : eqb b 44 ≡ true → bad_comma b w ≡ false
    comma k =
        let r = f 0 (omega arith) (eqb-true b 44 k) in
        let z : length w ≡ 0 → ⊥ = λ y. omega (arith, r.0) in
        rw (k, ne_eqb (length w) 0 z, ne_eqb (get_or w 0 0) 44 r.1)

    here : bad_comma b w ≡ false
    here = tested (eqb b 44) comma (λ k. rw k)

-- ---- both sides of the point

pub whole_sound : (w : List ℕ) → whole_fits w ≡ true → IsWhole w
whole_sound w e = tested (begins 44 w) (λ k. not_both e (rw k)) rest
  where
    rest : begins 44 w ≡ false → IsWhole w
    rest k = tested (apart w) yes (λ a. not_both e (rw (k, a)))
      where
        yes : apart w ≡ true → IsWhole w
        yes a =
            let o = ordered_sound false w (rw (k, a) at e) in
            record {
              places = record { marks = o.marks; figures = o.figures; text = o.text; marks_are = o.marks_are; figures_are = o.figures_are };
              not_first = k;
              apart = apart_sound w a;
            }

pub whole_ordered : (w : List ℕ) → IsWhole w → ordered false w ≡ true
whole_ordered w p =
    let l = p.places in
    ordered_complete false w
    (record { marks = l.marks; figures = l.figures; text = l.text; marks_are = l.marks_are; figures_are = l.figures_are; none = λ y. not_both y refl })

pub whole_complete : (w : List ℕ) → IsWhole w → whole_fits w ≡ true
whole_complete w p = rw (p.not_first, apart_complete w p.apart) (whole_ordered w p)

pub fraction_sound : (f : List ℕ) → fraction_fits f ≡ true → IsFraction f
fraction_sound f e =
    record {
      figures = take (run f) f;
      marks = drop (run f) f;
      text = sym (take-append-drop (run f) f);
      figures_are = of_run is_digit f;
      marks_are = omega (arith, eqb-true (run f + hashes (drop (run f) f)) (length f) e, length-drop (run f) f, run_le is_digit f);
    }

hashes_run : (m : List ℕ) → AllHashes m → run m ≡ 0
hashes_run [] e = refl
hashes_run (b ∷ m) e = rw (hash_no_digit b (of_head is_hash b m e).0)

pub fraction_complete : (f : List ℕ) → IsFraction f → fraction_fits f ≡ true
fraction_complete f p =
    let r : run f ≡ length p.figures =
    rw p.text (run_append is_digit p.figures p.marks p.figures_are ∙ omega (arith, hashes_run p.marks p.marks_are)) in
    let d : drop (run f) f ≡ p.marks = rw (r, p.text) (drop_at p.figures p.marks (length p.figures) refl) in
    let n : length f ≡ length p.figures + length p.marks = rw p.text (length-append p.figures p.marks) in
    eq-eqb (run f + hashes (drop (run f) f)) (length f) (rw d (omega (arith, r, n, p.marks_are)))

-- ---- the whole part

pub until_whole : (q : Bool) (w r : List ℕ) → ordered q w ≡ true → until 46 (w ++ r) ≡ length w + until 46 r
until_whole q [] r e = omega arith
until_whole q (b ∷ w) r e =
    tested (misplaced q b) (λ k. not_both e (rw k))
    (λ k.
    let p : b ≡ 46 → ⊥ = λ y. not_point q b y k in
    let ih = until_whole (seen_after q b) w r (rw k at e) in
    rw (ne_eqb b 46 p) (omega (arith, ih)))
  where
    not_point : (q : Bool) (b : ℕ) → b ≡ 46 → misplaced q b ≡ false → ⊥
    not_point q b y k =
        let m : misplaced q b ≡ true = rw y in
        not_both m k

past : (n : List ℕ) → drop (length n + 1) n ≡ []
past n =
    let h : length n ≤ length n + 1 = omega arith in
    drop_of_length-le n h

-- the sides of the point are where the reader looks for them
sides_read : {n w f : List ℕ} → Sides n w f → ordered false w ≡ true → (whole_of n ≡ w) × (fraction_of n ≡ f)
sides_read (unpointed {w}) o =
    let k : until 46 w ≡ length w = sym (ap (until 46) (append-nil w)) ∙ (until_whole false w [] o ∙ omega arith) in
    (rw k (take-length w), rw k (past w))
sides_read (pointed {w} {f}) o =
    let k : until 46 (w ++ (46 ∷ f)) ≡ length w = until_whole false w (46 ∷ f) o ∙ omega arith in
    (rw k (take_at w (46 ∷ f) (length w) refl), rw k (behind w f))
  where
    behind : (w f : List ℕ) → drop (length w + 1) (w ++ (46 ∷ f)) ≡ f
    behind [] f = refl
    behind (b ∷ w) f =
        let e : suc (length w) + 1 ≡ suc (length w + 1) = omega arith in
        rw e (behind w f)

pub part_sides : (n : List ℕ) (p : IsPart n) → (whole_of n ≡ p.whole) × (fraction_of n ≡ p.fraction)
part_sides n p = sides_read p.sides (whole_ordered p.whole p.whole_is)

pub number_complete : (n : List ℕ) → IsPart n → number_fits n ≡ true
number_complete n p =
    let d = part_sides n p in
    rw (lt-ltb 0 (digits n) p.some_digit, d.0, d.1, whole_complete p.whole p.whole_is)
    (fraction_complete p.fraction p.fraction_is)

-- a point is found where the first one stands
until_point : (n : List ℕ) → until 46 n < length n → get_or n (until 46 n) 0 ≡ 46
until_point [] h = omega arith
until_point (b ∷ n) h =
    tested (eqb b 46) (λ k. rw k (eqb-true b 46 k))
    (λ k. let g : suc (until 46 n) < suc (length n) = rw k at h in rw k (until_point n (omega arith)))

sides_of : (n : List ℕ) → Sides n (whole_of n) (fraction_of n)
sides_of n = tested (ltb (until 46 n) (length n)) some none
  where
    some : ltb (until 46 n) (length n) ≡ true → Sides n (whole_of n) (fraction_of n)
    some k =
        let h = ltb-true (until 46 n) (length n) k in
        let e : n ≡ whole_of n ++ (46 ∷ fraction_of n) =
        sym (take-append-drop (until 46 n) n)
        ∙ ap (λ (l : List ℕ). whole_of n ++ l) (drop-cons n (until 46 n) 0 h ∙ rw (until_point n h, add-one (until 46 n))) in
        subst (λ (l : List ℕ). Sides l (whole_of n) (fraction_of n)) (sym e) pointed

    none : ltb (until 46 n) (length n) ≡ false → Sides n (whole_of n) (fraction_of n)
    none k =
        let e : until 46 n ≡ length n = omega (arith, ltb-false (until 46 n) (length n) k, until_le 46 n) in
        let w : whole_of n ≡ n = rw e (take-length n) in
        let f : fraction_of n ≡ [] = rw e (past n) in
        rw (w, f) unpointed

pub number_sound : (n : List ℕ) → number_fits n ≡ true → IsPart n
number_sound n e = tested (ltb 0 (digits n)) some (λ k. not_both e (rw k))
  where
    some : ltb 0 (digits n) ≡ true → IsPart n
    some k = tested (whole_fits (whole_of n)) fit (λ w. not_both e (rw (k, w)))
      where
        fit : whole_fits (whole_of n) ≡ true → IsPart n
        fit w =
            record {
              whole = whole_of n;
              fraction = fraction_of n;
              sides = sides_of n;
              whole_is = whole_sound (whole_of n) w;
              fraction_is = fraction_sound (fraction_of n) (rw (k, w) at e);
              some_digit = ltb-true 0 (digits n) k;
            }
