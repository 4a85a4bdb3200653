-- The affix that the reader finds is an affix, and an affix before a number part, a semicolon or the end is found.
use mathlib.Core.Path.{◌≡◌, refl, sym, ap, subst, ◌∙◌}
use mathlib.Core.Bool.{Bool, true, false, not}
use mathlib.Core.List.{List, [], ◌∷◌, ◌++◌}
use Prim.Native.Nat.{ℕ, zero, suc, ◌≤◌, ◌<◌}
use native.Mathlib.Omega.{arith}
use borrow.Author.Tests.{ne_eqb, eqb-true, lt-ltb}
use lib.Dec.{eqb, ltb}
use lib.ListN.{length, get_or, take, drop, length-drop}
use lib.Seq.{take-add}
use Rattle.std.specs.Prelude.{if◌then◌else◌}
use Rattle.decimal.specs.Choice.{both, either}
use Rattle.decimal.specs.Digits.{is_digit, begins}
use Rattle.decimal.proofs.Choices.{choice, tested, not_both, both_true}
use Rattle.decimal.proofs.Runs.{digit_bounds}
use Rattle.pattern_token.specs.declared.Mark.TheVariants.{Permille}
use Rattle.pattern_token.specs.declared.Item.{Item}
use Rattle.pattern_token.specs.declared.Item.TheVariants.{Text, Symbol, Reserved}
use Rattle.pattern_token.specs.declared.Token.{Token}
use Rattle.pattern_affix.specs.declared.Affix.{Affix}
use Rattle.pattern_token.specs.Items.{starts, apostrophe, permille, currency, is_place, is_reserved, bare_of, token, token_at, quoted_after, is_number}
use Rattle.pattern_affix.specs.Affixes.{ends_affix, longer, affix_from, affix}
use Rattle.pattern_token.proofs.ItemLaws.{token_fits}
use Rattle.pattern_affix.proofs.Scans.{grown, affix_one, affix_none}
use Rattle.pattern_grammar.specs.Grammar.{is_bare, IsAffix, done, apostrophe as pair, quote, literal, bare}

-- ---- bare bytes

-- a bare byte opens and closes no quote
pub bare_kept : (n : Bool) (b : ℕ) → quoted_after false (bare_of n b) ≡ false
bare_kept n b =
    choice (λ (t : Item). quoted_after false t ≡ false) (is_place b) (λ _. refl) (λ _.
    choice (λ (t : Item). quoted_after false t ≡ false) (eqb b 37) (λ _. refl) (λ _.
    choice (λ (t : Item). quoted_after false t ≡ false) (eqb b 43) (λ _. refl) (λ _.
    choice (λ (t : Item). quoted_after false t ≡ false) (eqb b 45) (λ _. refl) (λ _.
    choice (λ (t : Item). quoted_after false t ≡ false) (eqb b 59) (λ _. refl) (λ _.
    choice (λ (t : Item). quoted_after false t ≡ false) (is_reserved n b) (λ _. refl) (λ _. refl))))))

-- a bare byte ends an affix exactly where it may not stand in one
bare_goes_on : (n : Bool) (b : ℕ) → is_place b ≡ false → eqb b 59 ≡ false → ends_affix (bare_of n b) ≡ false
bare_goes_on n b p s =
    rw (p, s)
    (choice (λ (t : Item). ends_affix t ≡ false) (eqb b 37) (λ _. refl) (λ _.
    choice (λ (t : Item). ends_affix t ≡ false) (eqb b 43) (λ _. refl) (λ _.
    choice (λ (t : Item). ends_affix t ≡ false) (eqb b 45) (λ _. refl) (λ _.
    choice (λ (t : Item). ends_affix t ≡ false) (is_reserved n b) (λ _. refl) (λ _. refl)))))

place_ends : (n : Bool) (b : ℕ) → is_place b ≡ true → ends_affix (bare_of n b) ≡ true
place_ends n b p = rw p

semicolon_ends : (n : Bool) (b : ℕ) → b ≡ 59 → ends_affix (bare_of n b) ≡ true
semicolon_ends n b e = rw e

bare_is : (n : Bool) (b : ℕ) → eqb b 39 ≡ false → ends_affix (bare_of n b) ≡ false → is_bare b ≡ true
bare_is n b k e =
    tested (is_place b) (λ p. not_both (place_ends n b p) e)
    (λ p. tested (eqb b 59) (λ s. not_both (semicolon_ends n b (eqb-true b 59 s)) e) (λ s. rw (k, p, s)))

pub bare_parts : (b : ℕ) → is_bare b ≡ true → (eqb b 39 ≡ false) × (is_place b ≡ false) × (eqb b 59 ≡ false)
bare_parts b e =
    tested (eqb b 39) (λ k. not_both e (rw k))
    (λ k.
    tested (is_place b) (λ p. not_both e (rw (k, p)))
    (λ p. tested (eqb b 59) (λ s. not_both e (rw (k, p, s))) (λ s. (k, p, s))))

-- ---- what the reader finds is an affix

-- inside quotes no token ends an affix
quoted_goes_on : (n : Bool) (s : List ℕ) → ends_affix (token_at true n s).item ≡ false
quoted_goes_on n s =
    choice (λ (t : Token). ends_affix t.item ≡ false) (starts apostrophe s) (λ _. refl) (λ _.
    choice (λ (t : Token). ends_affix t.item ≡ false) (eqb (get_or s 0 0) 39) (λ _. refl) (λ _. refl))

ends_bare : (q n : Bool) (s : List ℕ) → ends_affix (token_at q n s).item ≡ true → q ≡ false
ends_bare true n s e = not_both e (quoted_goes_on n s)
ends_bare false n s e = refl

pub begins_at : (x b : ℕ) (s : List ℕ) → begins x (b ∷ s) ≡ eqb b x
begins_at x b s = rw (ne_eqb (suc (length s)) 0 (λ y. omega arith))

begins_take : (k : ℕ) (r : List ℕ) → begins 39 r ≡ false → begins 39 (take k r) ≡ false
begins_take zero r e = refl
begins_take (suc k) [] e = refl
begins_take (suc k) (b ∷ r) e = begins_at 39 b (take k r) ∙ (sym (begins_at 39 b r) ∙ e)

-- a quote that is no pair has no quote behind it
pub alone : (b : ℕ) (r : List ℕ) → eqb b 39 ≡ true → starts apostrophe (b ∷ r) ≡ false → begins 39 r ≡ false
alone b [] k e = refl
alone b (c ∷ r) k e =
    let f : both (eqb c 39) true ≡ false = rw k at e in
    tested (eqb c 39) (λ y. not_both (rw y) f) (λ y. begins_at 39 c r ∙ y)

-- and is no pair where none is behind it
pub single : (s : List ℕ) → begins 39 s ≡ false → starts (39 ∷ []) s ≡ false
single [] e = refl
single (b ∷ s) e = rw (sym (begins_at 39 b s) ∙ e)

-- the text of one token before an affix is an affix
Spelled : Bool → List ℕ → ℕ → Token → Type 0
Spelled q s k t =
    ends_affix t.item ≡ false → IsAffix (quoted_after q t.item) (take k (drop t.width s)) → IsAffix q (take t.width s ++ take k (drop t.width s))

pair_spelled : (q : Bool) (b : ℕ) (r : List ℕ) (k : ℕ) → starts apostrophe (b ∷ r) ≡ true
    → IsAffix q (take k (drop 2 (b ∷ r))) → IsAffix q (take 2 (b ∷ r) ++ take k (drop 2 (b ∷ r)))
pair_spelled q b [] k e a = not_both (both_true (eqb b 39) false e).1 refl
pair_spelled q b (c ∷ r) k e a =
    let x = both_true (eqb b 39) (both (eqb c 39) true) e in
    let y = both_true (eqb c 39) true x.1 in
    rw (eqb-true b 39 x.0, eqb-true c 39 y.0) (pair a)

permille_spelled : (b : ℕ) (r : List ℕ) (k : ℕ) → starts permille (b ∷ r) ≡ true
    → IsAffix false (take k (drop 3 (b ∷ r))) → IsAffix false (take 3 (b ∷ r) ++ take k (drop 3 (b ∷ r)))
permille_spelled b [] k e a = not_both (both_true (eqb b 0xE2) false e).1 refl
permille_spelled b (c ∷ []) k e a =
    let x = both_true (eqb b 0xE2) (both (eqb c 0x80) false) e in
    not_both (both_true (eqb c 0x80) false x.1).1 refl
permille_spelled b (c ∷ d ∷ r) k e a =
    let x = both_true (eqb b 0xE2) (both (eqb c 0x80) (both (eqb d 0xB0) true)) e in
    let y = both_true (eqb c 0x80) (both (eqb d 0xB0) true) x.1 in
    let z = both_true (eqb d 0xB0) true y.1 in
    rw (eqb-true b 0xE2 x.0, eqb-true c 0x80 y.0, eqb-true d 0xB0 z.0) (bare refl (bare refl (bare refl a)))

currency_spelled : (b : ℕ) (r : List ℕ) (k : ℕ) → starts currency (b ∷ r) ≡ true
    → IsAffix false (take k (drop 2 (b ∷ r))) → IsAffix false (take 2 (b ∷ r) ++ take k (drop 2 (b ∷ r)))
currency_spelled b [] k e a = not_both (both_true (eqb b 0xC2) false e).1 refl
currency_spelled b (c ∷ r) k e a =
    let x = both_true (eqb b 0xC2) (both (eqb c 0xA4) true) e in
    let y = both_true (eqb c 0xA4) true x.1 in
    rw (eqb-true b 0xC2 x.0, eqb-true c 0xA4 y.0) (bare refl (bare refl a))

token_spelled : (q n : Bool) (b : ℕ) (r : List ℕ) (k : ℕ) → Spelled q (b ∷ r) k (token_at q n (b ∷ r))
unfolding Spelled
token_spelled q n b r k =
    choice (Spelled q (b ∷ r) k) (starts apostrophe (b ∷ r)) (λ e _ a. pair_spelled q b r k e a) (λ e₁.
    choice (Spelled q (b ∷ r) k) (eqb b 39) (λ e _ a. rw (eqb-true b 39 e) (quote (begins_take k r (alone b r e e₁)) a)) (λ e₂.
    inside q e₂))
  where
    outside : (q : Bool) → q ≡ false → eqb b 39 ≡ false
        → Spelled q (b ∷ r) k (if starts permille (b ∷ r) then token (Symbol Permille) 3 else if starts currency (b ∷ r) then token Reserved 2 else token (bare_of n b) 1)
    outside true f e₂ = not_both refl f
    outside false f e₂ =
        choice (Spelled false (b ∷ r) k) (starts permille (b ∷ r)) (λ e _ a. permille_spelled b r k e a) (λ e₄.
        choice (Spelled false (b ∷ r) k) (starts currency (b ∷ r)) (λ e _ a. currency_spelled b r k e a) (λ e₅ ends a.
        bare (bare_is n b e₂ ends) (rw (bare_kept n b) at a)))

    inside : (q : Bool) → eqb b 39 ≡ false
        → Spelled q (b ∷ r) k (if q then token (Text b) 1 else if starts permille (b ∷ r) then token (Symbol Permille) 3 else if starts currency (b ∷ r) then token Reserved 2 else token (bare_of n b) 1)
    inside true e₂ = λ _ a. literal e₂ a
    inside false e₂ = outside false refl e₂

-- one token of the reader's way
sound_step : (m : ℕ) (q n : Bool) (b : ℕ) (r : List ℕ) → length (b ∷ r) ≤ suc m
    → ((p y : Bool) (t : List ℕ) → length t ≤ m → (affix_from p y 0 t).closed ≡ true → IsAffix p (take (affix_from p y 0 t).len t))
    → (affix_from q n 0 (b ∷ r)).closed ≡ true → IsAffix q (take (affix_from q n 0 (b ∷ r)).len (b ∷ r))
unfolding Spelled
sound_step m q n b r h ih e = tested (ends_affix (token_at q n (b ∷ r)).item) ends more
  where
    ends : ends_affix (token_at q n (b ∷ r)).item ≡ true → IsAffix q (take (affix_from q n 0 (b ∷ r)).len (b ∷ r))
    ends k =
        let none = affix_none q n (b ∷ r) (omega arith) k in
        subst (λ (a : Affix). IsAffix q (take a.len (b ∷ r))) (sym none)
        (subst (λ (p : Bool). IsAffix p []) (sym (ends_bare q n (b ∷ r) k)) done)

    more : ends_affix (token_at q n (b ∷ r)).item ≡ false → IsAffix q (take (affix_from q n 0 (b ∷ r)).len (b ∷ r))
    more k =
        let t = token_at q n (b ∷ r) in
        let w = token_fits q n (b ∷ r) (omega arith) in
        let rest = drop t.width (b ∷ r) in
        let a = affix_from (quoted_after q t.item) (is_number t.item) 0 rest in
        let step : affix_from q n 0 (b ∷ r) ≡ grown t.width a = affix_one q n (b ∷ r) (omega arith) k in
        let c : a.closed ≡ true = sym (ap (λ (x : Affix). x.closed) step) ∙ e in
        let i = ih (quoted_after q t.item) (is_number t.item) rest (omega (arith, w.some, length-drop t.width (b ∷ r))) c in
        subst (λ (x : Affix). IsAffix q (take x.len (b ∷ r))) (sym step)
        (subst (λ (x : List ℕ). IsAffix q x) (sym (take-add t.width a.len (b ∷ r))) (spelled a.len k i))
      where
        spelled : (l : ℕ) → ends_affix (token_at q n (b ∷ r)).item ≡ false
            → IsAffix (quoted_after q (token_at q n (b ∷ r)).item) (take l (drop (token_at q n (b ∷ r)).width (b ∷ r)))
            → IsAffix q (take (token_at q n (b ∷ r)).width (b ∷ r) ++ take l (drop (token_at q n (b ∷ r)).width (b ∷ r)))
        spelled l = token_spelled q n b r l

nothing_left : (q : Bool) → not q ≡ true → IsAffix q []
nothing_left true e = not_both e refl
nothing_left false e = done

sound_within : (m : ℕ) (q n : Bool) (s : List ℕ) → length s ≤ m → (affix_from q n 0 s).closed ≡ true → IsAffix q (take (affix_from q n 0 s).len s)
sound_within zero q n [] h e = nothing_left q e
sound_within zero q n (b ∷ r) h e = absurd (no h)
  where
    no : suc (length r) ≤ 0 → ⊥
    no g = omega arith
sound_within (suc m) q n [] h e = nothing_left q e
sound_within (suc m) q n (b ∷ r) h e = sound_step m q n b r h (λ p y t g c. sound_within m p y t g c) e

pub affix_sound : (s : List ℕ) → (affix s).closed ≡ true → IsAffix false (take (affix s).len s)
affix_sound s e = sound_within (length s) false false s (omega arith) e

-- ---- an affix before what ends it is found

-- the text is empty, or begins with a number-part byte or a semicolon
abbrev pub stops : List ℕ → Bool
stops [] = true
stops (b ∷ r) = either (is_place b) (eqb b 59)

pub stop_byte : (b : ℕ) → either (is_place b) (eqb b 59) ≡ true → (b < 64) × (b ≡ 39 → ⊥)
stop_byte b e = (low, λ y. not_quote y)
  where
    not_quote : b ≡ 39 → ⊥
    not_quote y =
        let f : either (is_place 39) (eqb 39 59) ≡ true = rw y at e in
        not_both f refl

    digit : is_digit b ≡ true → b < 64
    digit d = omega (arith, digit_bounds b d)

    place : is_place b ≡ true → b < 64
    place p =
        tested (eqb b 35) (λ k. omega (arith, eqb-true b 35 k))
        (λ k₁.
        tested (eqb b 44) (λ k. omega (arith, eqb-true b 44 k))
        (λ k₂. tested (eqb b 46) (λ k. omega (arith, eqb-true b 46 k)) (λ k₃. digit (rw (k₁, k₂, k₃) at p))))

    low : b < 64
    low = tested (is_place b) place (λ p. omega (arith, eqb-true b 59 (rw p at e)))

stop_ends : (n : Bool) (b : ℕ) → either (is_place b) (eqb b 59) ≡ true → ends_affix (bare_of n b) ≡ true
stop_ends n b e = tested (is_place b) (λ p. place_ends n b p) (λ p. semicolon_ends n b (eqb-true b 59 (rw p at e)))

-- a token of one byte outside quotes, where no longer one begins
pub plain_token : (n : Bool) (b : ℕ) (r : List ℕ) → b < 64 → (b ≡ 39 → ⊥) → token_at false n (b ∷ r) ≡ token (bare_of n b) 1
plain_token n b r h k =
    rw (ne_eqb b 39 k, ne_eqb b 0xE2 (λ y. omega arith), ne_eqb b 0xC2 (λ y. omega arith))

stopped : (n : Bool) (r : List ℕ) → stops r ≡ true → affix_from false n 0 r ≡ record { len = 0; closed = true }
stopped n [] e = refl
stopped n (b ∷ r) e =
    let s = stop_byte b e in
    affix_none false n (b ∷ r) (omega arith) (rw (plain_token n b r s.0 s.1) (stop_ends n b e))

-- the first bytes of a text are from 80 to BF: those of a longer code point behind its first
abbrev pub is_inner : ℕ → Bool
is_inner b = if ltb b 128 then false else ltb b 192

unfoldable pub highs : ℕ → List ℕ → Bool
highs zero s = true
highs (suc k) [] = false
highs (suc k) (b ∷ s) = if is_inner b then highs k s else false

pub stops_low : (k : ℕ) (r : List ℕ) → stops r ≡ true → highs (suc k) r ≡ false
unfolding highs
stops_low k [] e = refl
stops_low k (b ∷ r) e = rw (lt-ltb b 128 (omega (arith, (stop_byte b e).0)))

pub permille_highs : (b : ℕ) (s : List ℕ) → starts permille (b ∷ s) ≡ true → highs 2 s ≡ true
unfolding highs
permille_highs b [] e = not_both (both_true (eqb b 0xE2) false e).1 refl
permille_highs b (c ∷ []) e =
    let x = both_true (eqb b 0xE2) (both (eqb c 0x80) false) e in
    not_both (both_true (eqb c 0x80) false x.1).1 refl
permille_highs b (c ∷ d ∷ s) e =
    let x = both_true (eqb b 0xE2) (both (eqb c 0x80) (both (eqb d 0xB0) true)) e in
    let y = both_true (eqb c 0x80) (both (eqb d 0xB0) true) x.1 in
    let z = both_true (eqb d 0xB0) true y.1 in
    rw (eqb-true c 0x80 y.0, eqb-true d 0xB0 z.0)

pub currency_highs : (b : ℕ) (s : List ℕ) → starts currency (b ∷ s) ≡ true → highs 1 s ≡ true
unfolding highs
currency_highs b [] e = not_both (both_true (eqb b 0xC2) false e).1 refl
currency_highs b (c ∷ s) e =
    let x = both_true (eqb b 0xC2) (both (eqb c 0xA4) true) e in
    let y = both_true (eqb c 0xA4) true x.1 in
    rw (eqb-true c 0xA4 y.0)

-- no quote stands at the front of an affix that begins with none, nor at the front of what ends it
unquoted : (t r : List ℕ) → begins 39 t ≡ false → stops r ≡ true → starts (39 ∷ []) (t ++ r) ≡ false
unquoted [] [] e s = refl
unquoted [] (b ∷ r) e s = rw (ne_eqb b 39 (stop_byte b s).1)
unquoted (b ∷ t) r e s = rw (sym (begins_at 39 b t) ∙ e)

abbrev whole : ℕ → Affix
whole n = record { len = n; closed = true }

-- one bare byte of an affix, or the first of a longer code point
bare_step : (n : Bool) (b : ℕ) (s : List ℕ) (l : ℕ) → is_bare b ≡ true
    → ((y : Bool) (k : ℕ) → highs k s ≡ true → affix_from false y k s ≡ whole l)
    → affix_from false n 0 (b ∷ s) ≡ whole (suc l)
unfolding highs
bare_step n b s l e ih =
    let p = bare_parts b e in
    tested (starts permille (b ∷ s))
    (λ m. rw (p.0, m) (ap longer (ih false 2 (permille_highs b s m))))
    (λ m.
    tested (starts currency (b ∷ s))
    (λ c. rw (p.0, m, c) (ap longer (ih false 1 (currency_highs b s c))))
    (λ c.
    rw (p.0, m, c, bare_goes_on n b p.1 p.2, bare_kept n b) (ap longer (ih (is_number (bare_of n b)) 0 refl))))

affix_complete : {q : Bool} {p : List ℕ} → IsAffix q p → (r : List ℕ) → stops r ≡ true → (n : Bool) (k : ℕ) → highs k (p ++ r) ≡ true
    → (q ≡ true → k ≡ 0) → affix_from q n k (p ++ r) ≡ whole (length p)
unfolding highs
affix_complete done r e n zero h z = stopped n r e
affix_complete done r e n (suc k) h z = not_both h (stops_low k r e)
affix_complete (pair {q} {t} a) r e n zero h z = ap (λ (x : Affix). longer (longer x)) (affix_complete a r e false 0 refl (λ _. refl))
affix_complete (pair {q} {t} a) r e n (suc k) h z = not_both h refl
affix_complete (quote {q} {t} f a) r e n zero h z =
    rw (unquoted t r f e) (ap longer (affix_complete a r e false 0 refl (λ _. refl)))
affix_complete (quote {q} {t} f a) r e n (suc k) h z = not_both h refl
affix_complete (literal {b} {t} f a) r e n zero h z = rw f (ap longer (affix_complete a r e false 0 refl (λ _. refl)))
affix_complete (literal {b} {t} f a) r e n (suc k) h z = absurd (no (z refl))
  where
    no : suc k ≡ 0 → ⊥
    no g = omega arith
affix_complete (bare {b} {t} f a) r e n zero h z =
    bare_step n b (t ++ r) (length t) f (λ y k g. affix_complete a r e y k g (λ x. not_both x refl))
affix_complete (bare {b} {t} f a) r e n (suc k) h z =
    tested (is_inner b) (λ l. ap longer (affix_complete a r e n k (rw l at h) (λ x. not_both x refl)))
    (λ l. not_both h (rw l))

pub affix_found : (p r : List ℕ) → IsAffix false p → stops r ≡ true → affix (p ++ r) ≡ record { len = length p; closed = true }
unfolding highs
affix_found p r a e = affix_complete a r e false 0 refl (λ x. refl)
