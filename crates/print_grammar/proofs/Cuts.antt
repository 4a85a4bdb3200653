-- A pattern's affixes, cut out and read by themselves, have no reserved item where the whole pattern has none.
use mathlib.Core.Path.{◌≡◌, refl, sym, ap, ◌∙◌, subst}
use mathlib.Core.Bool.{Bool, true, false}
use mathlib.Core.List.{List, [], ◌∷◌, ◌++◌, append-nil, append_assoc}
use Prim.Native.Nat.{ℕ, zero, suc, ◌-◌, ◌≤◌, ◌<◌}
use native.Mathlib.Omega.{arith}
use borrow.Author.Tests.{eqb-true}
use lib.Dec.{eqb}
use lib.ListN.{length, get_or, drop}
use lib.Seq.{drop_at}
use Rattle.std.specs.Prelude.{Ok, if◌then◌else◌}
use Rattle.decimal.specs.Choice.{both, either}
use Rattle.decimal.proofs.Choices.{choices, tested, not_both, never}
use Rattle.pattern_token.specs.declared.Item.{Item}
use Rattle.pattern_token.specs.declared.Item.TheVariants.{Place}
use Rattle.pattern_token.specs.declared.Token.{Token}
use Rattle.pattern_affix.specs.declared.Affix.{Affix}
use Rattle.pattern_token.specs.Items.{starts, apostrophe, permille, currency, is_place, is_reserved, bare_of, token, token_at, quoted_after, is_number, items_from, items}
use Rattle.pattern_affix.specs.Affixes.{reserves, any_reserved, ends_affix, affix_from, affix}
use Rattle.pattern_token.proofs.ItemLaws.{token_fits}
use Rattle.pattern_reader.specs.declared.Span.{Span}
use Rattle.pattern_reader.specs.declared.Negative.{Negative}
use Rattle.pattern_reader.specs.declared.Negative.TheVariants.{Own}
use Rattle.pattern_reader.specs.declared.Pattern.{Pattern}
use Rattle.pattern_reader.specs.Reading.{places, prefix_len, read_pattern}
use Rattle.pattern_grammar.specs.NumberPart.{IsPart}
use Rattle.pattern_grammar.specs.Grammar.{IsAffix, IsSub, IsPattern, one, two}
use Rattle.pattern_grammar.specs.Texts.{Affixes}
use Rattle.pattern_grammar.proofs.Affixes.{stops, affix_found}
use Rattle.pattern_grammar.proofs.Reserved.{plain_items}
use Rattle.pattern_grammar.proofs.Subpatterns.{ends, read_sub}
use Rattle.pattern_grammar.proofs.Texts.{read_plain, one_read, two_read}
use Rattle.print_grammar.specs.Clean.{CleanAffix, CleanAffixes, PatternClean}

-- ---- a text before a number part, a semicolon or the end

-- no byte of the word begins a number part or is a semicolon
abbrev no_stop : List ℕ → Bool
no_stop [] = true
no_stop (b ∷ w) = if either (is_place b) (eqb b 59) then false else no_stop w

-- such a word stands at the front of the whole exactly where it stands at the front of the text
starts_cut : (w t r : List ℕ) → no_stop w ≡ true → stops r ≡ true → starts w (t ++ r) ≡ starts w t
starts_cut [] t r h e = refl
starts_cut (x ∷ w) [] [] h e = refl
starts_cut (x ∷ w) [] (b ∷ r) h e =
    tested (eqb b x)
    (λ k.
    let f : either (is_place x) (eqb x 59) ≡ true = rw (eqb-true b x k) at e in
    not_both h (rw f))
    (λ k. rw k)
starts_cut (x ∷ w) (y ∷ t) r h e =
    tested (either (is_place x) (eqb x 59)) (λ k. not_both h (rw k))
    (λ k. ap (both (eqb y x)) (starts_cut w t r (rw k at h) e))

token_cut : (q n : Bool) (b : ℕ) (t r : List ℕ) → stops r ≡ true → token_at q n (b ∷ (t ++ r)) ≡ token_at q n (b ∷ t)
token_cut q n b t r e =
    rw (starts_cut (39 ∷ []) t r refl e, starts_cut (0x80 ∷ 0xB0 ∷ []) t r refl e, starts_cut (0xA4 ∷ []) t r refl e)

-- the items of an affix are the first of the whole, and those of what follows it the others
affix_cut : (t r : List ℕ) → stops r ≡ true → (q n : Bool) (k : ℕ) → k ≤ length t
    → (affix_from q n k t).len ≡ length t → (affix_from q n k t).closed ≡ true → any_reserved (items_from q n k (t ++ r)) ≡ false
    → (any_reserved (items_from q n k t) ≡ false) × ((y : Bool) × (any_reserved (items_from false y 0 r) ≡ false))
affix_cut [] r e true n zero h l c a = not_both c refl
affix_cut [] r e false n zero h l c a = (refl, (n, a))
affix_cut [] r e q n (suc k) h l c a = absurd (no h)
  where
    no : suc k ≤ 0 → ⊥
    no g = omega arith
affix_cut (b ∷ t) r e q n (suc k) h l c a = affix_cut t r e q n k (omega arith) (omega arith) c a
affix_cut (b ∷ t) r e q n zero h l c a =
    let x = token_at q n (b ∷ t) in
    let w = token_fits q n (b ∷ t) (omega arith) in
    let a' = subst (λ (x : Token). any_reserved (x.item ∷ items_from (quoted_after q x.item) (is_number x.item) (x.width - 1) (t ++ r)) ≡ false)
    (token_cut q n b t r e) a in
    tested (ends_affix x.item) (λ k. absurd (no (rw k at l)))
    (λ k.
    tested (reserves x.item) (λ m. not_both (rw m) a')
    (λ m.
    let i = affix_cut t r e (quoted_after q x.item) (is_number x.item) (x.width - 1) (omega (arith, w.room)) (less (rw k at l)) (rw k at c) (rw m at a') in
    (rw m i.0, i.1)))
  where
    no : 0 ≡ suc (length t) → ⊥
    no g = omega arith

    less : {m : ℕ} → suc m ≡ suc (length t) → m ≡ length t
    less g = omega arith

-- ---- behind a number-part byte `E` is reserved, and by itself it is not; nothing else is read otherwise

free_reserved : (n : Bool) (b : ℕ) → is_reserved n b ≡ false → is_reserved false b ≡ false
free_reserved n b e =
    tested (eqb b 42) (λ k. not_both (rw k) e)
    (λ k. tested (eqb b 64) (λ l. not_both (rw (k, l)) e) (λ l. rw (k, l) (tested (eqb b 69) (λ m. rw m) (λ m. rw m))))

free_bare : (n : Bool) (b : ℕ) → reserves (bare_of n b) ≡ false → bare_of n b ≡ bare_of false b
free_bare n b =
    let R : Item → Item → Type 0 = λ (x y : Item). reserves x ≡ false → x ≡ y in
    choices R (is_place b) (λ _ _. refl) (λ _.
    choices R (eqb b 37) (λ _ _. refl) (λ _.
    choices R (eqb b 43) (λ _ _. refl) (λ _.
    choices R (eqb b 45) (λ _ _. refl) (λ _.
    choices R (eqb b 59) (λ _ _. refl) (λ _ h.
    tested (is_reserved n b) (λ k. not_both refl (rw k at h)) (λ k. rw (k, free_reserved n b k)))))))

free_token : (q n : Bool) (s : List ℕ) → reserves (token_at q n s).item ≡ false → token_at q n s ≡ token_at q false s
free_token q n s =
    let R : Token → Token → Type 0 = λ (x y : Token). reserves x.item ≡ false → x ≡ y in
    choices R (starts apostrophe s) (λ _ _. refl) (λ _.
    choices R (eqb (get_or s 0 0) 39) (λ _ _. refl) (λ _.
    choices R q (λ _ _. refl) (λ _.
    choices R (starts permille s) (λ _ _. refl) (λ _.
    choices R (starts currency s) (λ _ _. refl) (λ _ h.
    ap (λ (x : Item). token x 1) (free_bare n (get_or s 0 0) h))))))

free_items : (q n : Bool) (s : List ℕ) → any_reserved (items_from q n 0 s) ≡ false → any_reserved (items_from q false 0 s) ≡ false
free_items q n [] h = refl
free_items q n (b ∷ s) h =
    tested (reserves (token_at q n (b ∷ s)).item) (λ k. not_both (rw k) h)
    (λ k.
    subst (λ (x : Token). any_reserved (x.item ∷ items_from (quoted_after q x.item) (is_number x.item) (x.width - 1) s) ≡ false)
    (free_token q n (b ∷ s) k) h)

-- ---- number-part bytes are items of their own

unlike : (b c : ℕ) → is_place b ≡ true → is_place c ≡ false → eqb b c ≡ false
unlike b c p e = tested (eqb b c) (λ k. not_both (rw (eqb-true b c k) at p) e) (λ k. k)

place_token : (n : Bool) (b : ℕ) (s : List ℕ) → is_place b ≡ true → token_at false n (b ∷ s) ≡ token (Place b) 1
place_token n b s p = rw (unlike b 39 p refl, unlike b 0xE2 p refl, unlike b 0xC2 p refl, p)

places_cut : (m : ℕ) (n : Bool) (s : List ℕ) → m ≤ places s → any_reserved (items_from false n 0 s) ≡ false
    → (y : Bool) × (any_reserved (items_from false y 0 (drop m s)) ≡ false)
places_cut zero n s h a = (n, a)
places_cut (suc m) n [] h a = absurd (no h)
  where
    no : suc m ≤ 0 → ⊥
    no g = omega arith
places_cut (suc m) n (b ∷ s) h a =
    tested (is_place b)
    (λ k.
    places_cut m true s (less (rw k at h))
    (subst (λ (x : Token). any_reserved (x.item ∷ items_from (quoted_after false x.item) (is_number x.item) (x.width - 1) s) ≡ false)
    (place_token n b s k) a))
    (λ k. absurd (no (rw k at h)))
  where
    no : suc m ≤ 0 → ⊥
    no g = omega arith

    less : {l : ℕ} → suc m ≤ suc l → m ≤ l
    less g = omega arith

places_stop : (s : List ℕ) → 0 < places s → stops s ≡ true
places_stop [] h = refl
places_stop (b ∷ s) h = tested (is_place b) (λ k. rw k) (λ k. absurd (no (rw k at h)))
  where
    no : 0 < 0 → ⊥
    no g = omega arith

part_some : (n : List ℕ) → IsPart n → 0 < length n
part_some [] p = p.some_digit
part_some (b ∷ n) p = omega arith

ends_stop : (r : List ℕ) → ends r ≡ true → stops r ≡ true
ends_stop [] e = refl
ends_stop (b ∷ r) e = tested (is_place b) (λ k. rw k) (λ k. rw k e)

-- ---- an affix without reserved items

-- an affix that is read before what ends it
cut_clean : (t r : List ℕ) → IsAffix false t → stops r ≡ true → (n : Bool) → any_reserved (items_from false n 0 (t ++ r)) ≡ false
    → CleanAffix t × ((y : Bool) × (any_reserved (items_from false y 0 r) ≡ false))
cut_clean t r i e n a =
    let f : affix t ≡ record { len = length t; closed = true } = ap affix (sym (append-nil t)) ∙ affix_found t [] i refl in
    let c = affix_cut t r e false false 0 (omega arith) (ap (λ (x : Affix). x.len) f) (ap (λ (x : Affix). x.closed) f) (free_items false n (t ++ r) a) in
    (record { is_affix = i; unreserved = c.0 }, c.1)

-- both affixes of a subpattern, and what follows it
sub_clean : (a r : List ℕ) (w : IsSub a) → ends r ≡ true → (n : Bool) → any_reserved (items_from false n 0 (a ++ r)) ≡ false
    → CleanAffix w.prefix × CleanAffix w.suffix × ((y : Bool) × (any_reserved (items_from false y 0 r) ≡ false))
sub_clean a r w e n u =
    let p = w.prefix in
    let m = w.number in
    let x = w.suffix in
    let d = read_sub a r w e in
    let t : a ++ r ≡ p ++ (m ++ (x ++ r)) = ap (λ (l : List ℕ). l ++ r) w.text ∙ simp append_assoc in
    let c : drop (prefix_len (a ++ r)) (a ++ r) ≡ m ++ (x ++ r) =
    ap (λ (k : ℕ). drop k (a ++ r)) d.prefix ∙ (ap (drop (length p)) t ∙ drop_at p (m ++ (x ++ r)) (length p) refl) in
    let l : places (m ++ (x ++ r)) ≡ length m = ap places (sym c) ∙ d.number in
    let s : stops (m ++ (x ++ r)) ≡ true = places_stop (m ++ (x ++ r)) (omega (arith, part_some m w.number_is)) in
    let first = cut_clean p (m ++ (x ++ r)) w.prefix_is s n (rw t at u) in
    let part = places_cut (length m) first.1.0 (m ++ (x ++ r)) (omega arith) first.1.1 in
    let last = cut_clean x r w.suffix_is (ends_stop r e) part.0 (rw (drop_at m (x ++ r) (length m) refl) at part.1) in
    (first.0, last.0, last.1)

-- ---- the affixes of a pattern that is read

pattern_affixes : {s : List ℕ} → IsPattern s → any_reserved (items s) ≡ false → (p : Pattern) → read_pattern s ≡ Ok p → PatternClean s p
pattern_affixes (one {s} w) u p e =
    let d = one_read s w p e in
    let c = sub_clean s [] w refl false (rw append-nil u) in
    record {
      positive = record { prefix = rw d.0.prefix_text c.0; suffix = rw d.0.suffix_text c.1 };
      negative = λ before behind o. let z : ◌≡◌ {A = ℕ} 0 1 = cc d.1 in never z;
    }
pattern_affixes (two {a} {b} w v) u p e =
    let d = two_read a b w v p e in
    let c = sub_clean a (59 ∷ b) w refl false u in
    let f = sub_clean b [] v refl false (rw append-nil c.2.1) in
    record {
      positive = record { prefix = rw d.0.prefix_text c.0; suffix = rw d.0.suffix_text c.1 };
      negative = λ before behind o. own d.1 o f.0 f.1;
    }
  where
    own : {s : List ℕ} {n : Negative} {prefix suffix : List ℕ} {before behind : Span} → Affixes s n prefix suffix → n ≡ Own before behind
        → CleanAffix prefix → CleanAffix suffix → CleanAffixes s before behind
    own {before = before} {behind = behind} x o y z =
        let i : x.before ≡ before = cc x.own in
        let j : x.behind ≡ behind = cc x.own in
        record { prefix = rw (sym i, x.prefix_text) y; suffix = rw (sym j, x.suffix_text) z }

pub pattern_clean : (s : List ℕ) (p : Pattern) → read_pattern s ≡ Ok p → PatternClean s p
pattern_clean s p e = let r = read_plain s p e in pattern_affixes r.1 (plain_items s r.0) p e
