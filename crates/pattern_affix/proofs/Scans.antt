-- Laws of the scans of a pattern's items: affixes, reserved items and marks, one token more of each, and their ends.
use mathlib.Core.Path.{◌≡◌, refl, sym, ap, ◌∙◌}
use mathlib.Core.Bool.{Bool, true, false, not}
use mathlib.Core.List.{List, [], ◌∷◌}
use Prim.Native.Nat.{ℕ, zero, suc, ◌+◌, ◌-◌, ◌≤◌, ◌<◌}
use native.Mathlib.Omega.{arith}
use lib.ListN.{length, drop, drop_of_length-le, length-drop}
use lib.Dec.{eqb}
use lib.Seq.{drop-drop}
use borrow.Author.Tests.{eqb-true, eqb-false}
use Rattle.std.specs.List.{filter, list_any}
use Rattle.decimal.proofs.Choices.{tested}
use Rattle.pattern_token.specs.declared.Item.{Item}
use Rattle.pattern_token.specs.declared.Item.TheVariants.{Text, Symbol, Place, Quote, Semicolon, Reserved}
use Rattle.pattern_token.specs.declared.Mark.{Mark}
use Rattle.pattern_token.specs.declared.Token.{Token}
use Rattle.pattern_affix.specs.declared.Affix.{Affix}
use Rattle.pattern_token.specs.Items.{token_at, quoted_after, is_number, items_from}
use Rattle.pattern_affix.specs.Affixes.{reserves, any_reserved, ends_affix, longer, affix_from, affix, mark_number, weight, marks}
use Rattle.decimal.proofs.Runs.{drop_some}
use Rattle.pattern_token.proofs.ItemLaws.{token_fits}

-- an affix by so many bytes longer
abbrev pub grown : ℕ → Affix → Affix
grown k a = record { len = k + a.len; closed = a.closed }

grown_suc : (k : ℕ) (a : Affix) → longer (grown k a) ≡ grown (suc k) a
grown_suc k a =
    let e : suc (k + a.len) ≡ suc k + a.len = omega arith in
    rw e

affix_skip : (q n : Bool) (k : ℕ) (s : List ℕ) → k ≤ length s → affix_from q n k s ≡ grown k (affix_from q n 0 (drop k s))
affix_skip q n zero s h =
    let a = affix_from q n 0 s in
    let e : 0 + a.len ≡ a.len = omega arith in
    rw e
affix_skip q n (suc k) [] h = absurd (no h)
  where
    no : suc k ≤ 0 → ⊥
    no g = omega arith
affix_skip q n (suc k) (b ∷ s) h = ap longer (affix_skip q n k s (omega arith)) ∙ grown_suc k (affix_from q n 0 (drop k s))

-- ---- one token more

pub affix_one : (q n : Bool) (x : List ℕ) → 0 < length x → ends_affix (token_at q n x).item ≡ false
    → affix_from q n 0 x
    ≡ grown (token_at q n x).width (affix_from (quoted_after q (token_at q n x).item) (is_number (token_at q n x).item) 0 (drop (token_at q n x).width x))
affix_one q n [] h f = absurd (no h)
  where
    no : 0 < 0 → ⊥
    no g = omega arith
affix_one q n (b ∷ r) h f =
    let t = token_at q n (b ∷ r) in
    let w = token_fits q n (b ∷ r) h in
    let q' = quoted_after q t.item in
    let n' = is_number t.item in
    let a = affix_from q' n' 0 (drop (t.width - 1) r) in
    let e : suc (t.width - 1) ≡ t.width = omega (arith, w.some) in
    rw f (ap longer (affix_skip q' n' (t.width - 1) r (omega (arith, w.room)))
    ∙ grown_suc (t.width - 1) a
    ∙ ap (λ (k : ℕ). grown k a) e
    ∙ ap (λ (l : List ℕ). grown t.width (affix_from q' n' 0 l)) (sym (drop_some t.width b r w.some)))

pub affix_none : (q n : Bool) (x : List ℕ) → 0 < length x → ends_affix (token_at q n x).item ≡ true → affix_from q n 0 x ≡ record { len = 0; closed = true }
affix_none q n [] h f = absurd (no h)
  where
    no : 0 < 0 → ⊥
    no g = omega arith
affix_none q n (b ∷ r) h f = rw f

-- the same at a place of a text, for the token found there
module _ (s : List ℕ) (i : ℕ) (q n : Bool) (h : i < length s) (t : Token) (e : t ≡ token_at q n (drop i s)) where
  some_left : 0 < length (drop i s)
  some_left = omega (arith, length-drop i s)

  pub affix_step : ends_affix t.item ≡ false
      → affix_from q n 0 (drop i s) ≡ grown t.width (affix_from (quoted_after q t.item) (is_number t.item) 0 (drop (i + t.width) s))
  affix_step f = rw (e, ← drop-drop) (affix_one q n (drop i s) some_left (rw e at f))

  pub affix_end : ends_affix t.item ≡ true → affix_from q n 0 (drop i s) ≡ record { len = 0; closed = true }
  affix_end f = affix_none q n (drop i s) some_left (rw e at f)

-- ---- the scans: what is still to come tells the whole answer

-- the affix, of which i bytes are passed
pub record Passed (s : List ℕ) (q n : Bool) (i : ℕ) : Type 0 where
  pub bytes : i + (affix_from q n 0 (drop i s)).len ≡ (affix s).len
  pub quotes : (affix_from q n 0 (drop i s)).closed ≡ (affix s).closed

pub passed_start : (s : List ℕ) → Passed s false false 0
passed_start s =
    let a = affix s in
    record { bytes = omega arith; quotes = refl }

made : (a b : Affix) → a.len ≡ b.len → a.closed ≡ b.closed → a ≡ b
made a b e f = whole a.len a.closed b.len b.closed e f
  where
    whole : (k : ℕ) (x : Bool) (l : ℕ) (y : Bool) → k ≡ l → x ≡ y → ◌≡◌ {A = Affix} (record { len = k; closed = x }) (record { len = l; closed = y })
    whole k x l y g h = rw (g, h)

pub passed_end : (s : List ℕ) (q n : Bool) (i : ℕ) → Passed s q n i → affix_from q n 0 (drop i s) ≡ record { len = 0; closed = true }
    → ◌≡◌ {A = Affix} (record { len = i; closed = true }) (affix s)
passed_end s q n i w e =
    let f = rw e at w.bytes in
    made (record { len = i; closed = true }) (affix s) (omega (arith, f)) (sym (ap (λ (a : Affix). a.closed) e) ∙ w.quotes)

pub passed_out : (s : List ℕ) (q n : Bool) (i : ℕ) → Passed s q n i → length s ≤ i
    → ◌≡◌ {A = Affix} (record { len = i; closed = not q }) (affix s)
passed_out s q n i w h =
    let e : affix_from q n 0 (drop i s) ≡ record { len = 0; closed = not q } = rw (drop_of_length-le s h) in
    let f = rw e at w.bytes in
    made (record { len = i; closed = not q }) (affix s) (omega (arith, f)) (sym (ap (λ (a : Affix). a.closed) e) ∙ w.quotes)

module _ (s : List ℕ) (i : ℕ) (q n : Bool) (h : i < length s) (t : Token) (e : t ≡ token_at q n (drop i s))
    (q' n' : Bool) (eq : q' ≡ quoted_after q t.item) (en : n' ≡ is_number t.item) where
  pub passed_again : ends_affix t.item ≡ false → Passed s q n i → Passed s q' n' (i + t.width)
  passed_again f w =
      let step = affix_step s i q n h t e f in
      record {
        bytes = rw (eq, en) (omega (arith, w.bytes, ap (λ (a : Affix). a.len) step));
        quotes = rw (eq, en) (sym (ap (λ (a : Affix). a.closed) step) ∙ w.quotes);
      }

-- ---- the items, one after the other

pub reserved_is : (ts : List Item) → list_any reserves ts ≡ any_reserved ts
reserved_is [] = refl
reserved_is (t ∷ ts) = tested (reserves t) (λ k. rw k) (λ k. rw k (reserved_is ts))

weight_le : (m : Mark) (t : Item) → weight m t ≤ 1
weight_le m (Symbol k) = tested (eqb (mark_number k) (mark_number m)) (λ e. rw e (omega arith)) (λ e. rw e (omega arith))
weight_le m (Text b) = omega arith
weight_le m (Place b) = omega arith
weight_le m Quote = omega arith
weight_le m Semicolon = omega arith
weight_le m Reserved = omega arith

-- the item is the mark
abbrev pub is_mark : Mark → Item → Bool
is_mark m t = eqb (weight m t) 1

pub marks_are : (m : Mark) (ts : List Item) → (length (filter (is_mark m) ts) ≡ marks m ts) × (marks m ts ≤ length ts)
marks_are m [] = (refl, omega arith)
marks_are m (t ∷ ts) =
    let w = marks_are m ts in
    tested (is_mark m t)
    (λ k. let e = eqb-true (weight m t) 1 k in rw k (omega arith, omega arith))
    (λ k. let e : weight m t ≡ 0 = omega (arith, eqb-false (weight m t) 1 k, weight_le m t) in rw k (omega arith, omega arith))

-- there are no more items than bytes
pub items_le : (q n : Bool) (k : ℕ) (s : List ℕ) → length (items_from q n k s) ≤ length s
items_le q n k [] = omega arith
items_le q n zero (b ∷ s) =
    let t = token_at q n (b ∷ s) in
    omega (arith, items_le (quoted_after q t.item) (is_number t.item) (t.width - 1) s)
items_le q n (suc k) (b ∷ s) = omega (arith, items_le q n k s)
