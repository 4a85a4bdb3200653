-- A token that is reserved, or is a mark, begins with one of its bytes: a text without them has none.
use mathlib.Core.Path.{◌≡◌, refl, sym, ap, ◌∙◌}
use mathlib.Core.Bool.{Bool, true, false}
use mathlib.Core.List.{List, [], ◌∷◌}
use Prim.Native.Nat.{ℕ, zero, suc, ◌-◌}
use native.Mathlib.Omega.{arith}
use borrow.Author.Tests.{eqb-true}
use lib.Dec.{eqb}
use lib.ListN.{length}
use Rattle.std.specs.List.{list_any}
use Rattle.std.specs.Prelude.{if◌then◌else◌}
use Rattle.decimal.specs.Split.{until}
use Rattle.decimal.proofs.Choices.{choice, tested, not_both}
use Rattle.pattern_token.specs.declared.Mark.{Mark}
use Rattle.pattern_token.specs.declared.Mark.TheVariants.{Minus, Plus, Percent, Permille}
use Rattle.pattern_token.specs.declared.Item.{Item}
use Rattle.pattern_token.specs.declared.Item.TheVariants.{Symbol}
use Rattle.pattern_token.specs.declared.Token.{Token}
use Rattle.pattern_token.specs.Items.{starts, is_place, is_reserved, bare_of, apostrophe, permille, currency, token_at, quoted_after, is_number, items_from, items}
use Rattle.pattern_affix.specs.Affixes.{reserves, any_reserved, mark_number, weight, marks}
use Rattle.pattern_affix.specs.Firsts.{may_reserve, free, mark_byte}

-- a text that begins with a word begins with its first byte
starts_first : (x b : ℕ) (w s : List ℕ) → starts (x ∷ w) (b ∷ s) ≡ true → eqb b x ≡ true
starts_first x b w s e = tested (eqb b x) (λ k. k) (λ k. not_both e (rw k))

-- ---- reserved tokens

not_reserved : (n : Bool) (b : ℕ) → may_reserve b ≡ false → (is_reserved n b ≡ false) × (eqb b 0xC2 ≡ false)
not_reserved n b h =
    tested (eqb b 42) (λ k. not_both (rw k) h)
    (λ k. tested (eqb b 64) (λ l. not_both (rw (k, l)) h)
    (λ l. tested (eqb b 69) (λ m. not_both (rw (k, l, m)) h)
    (λ m. (rw (k, l, m), rw (k, l, m) at h))))

bare_free : (n : Bool) (b : ℕ) → may_reserve b ≡ false → reserves (bare_of n b) ≡ false
bare_free n b h =
    let P : Item → Type 0 = λ t. reserves t ≡ false in
    choice P (is_place b) (λ _. refl) (λ _.
    choice P (eqb b 37) (λ _. refl) (λ _.
    choice P (eqb b 43) (λ _. refl) (λ _.
    choice P (eqb b 45) (λ _. refl) (λ _.
    choice P (eqb b 59) (λ _. refl) (λ _.
    choice P (is_reserved n b) (λ k. not_both k (not_reserved n b h).0) (λ _. refl))))))

token_free : (q n : Bool) (b : ℕ) (s : List ℕ) → may_reserve b ≡ false → reserves (token_at q n (b ∷ s)).item ≡ false
token_free q n b s h =
    let P : Token → Type 0 = λ t. reserves t.item ≡ false in
    choice P (starts apostrophe (b ∷ s)) (λ _. refl) (λ _.
    choice P (eqb b 39) (λ _. refl) (λ _.
    choice P q (λ _. refl) (λ _.
    choice P (starts permille (b ∷ s)) (λ _. refl) (λ _.
    choice P (starts currency (b ∷ s)) (λ k. not_both (starts_first 0xC2 b (0xA4 ∷ []) s k) (not_reserved n b h).1) (λ _. bare_free n b h)))))

pub items_free : (q n : Bool) (k : ℕ) (s : List ℕ) → free s ≡ true → any_reserved (items_from q n k s) ≡ false
items_free q n k [] h = refl
items_free q n (suc k) (b ∷ s) h = tested (may_reserve b) (λ e. not_both h (rw e)) (λ e. items_free q n k s (rw e at h))
items_free q n zero (b ∷ s) h =
    tested (may_reserve b) (λ e. not_both h (rw e))
    (λ e.
    let t = token_at q n (b ∷ s) in
    rw (token_free q n b s e) (items_free (quoted_after q t.item) (is_number t.item) (t.width - 1) s (rw e at h)))

pub free_any : (s : List ℕ) → list_any may_reserve s ≡ false → free s ≡ true
free_any [] h = refl
free_any (b ∷ s) h = tested (may_reserve b) (λ e. not_both (rw e) h) (λ e. rw e (free_any s (rw e at h)))

-- ---- marks

-- the byte of the mark of a number
byte_of : ℕ → ℕ
byte_of n = if eqb n 3 then mark_byte Minus else if eqb n 4 then mark_byte Plus else if eqb n 5 then mark_byte Percent else mark_byte Permille

mark_byte_law : (m : Mark) → mark_byte m ≡ byte_of (mark_number m)
unfolding byte_of
mark_byte_law Minus = refl
mark_byte_law Plus = refl
mark_byte_law Percent = refl
mark_byte_law Permille = refl

-- a mark that does not begin with the byte of another is not that one
mark_other : (k m : Mark) (b : ℕ) → eqb b (mark_byte k) ≡ true → eqb b (mark_byte m) ≡ false → weight m (Symbol k) ≡ 0
mark_other k m b h g =
    choice (λ (n : ℕ). n ≡ 0) (eqb (mark_number k) (mark_number m))
    (λ e.
    let same : mark_byte k ≡ mark_byte m = mark_byte_law k ∙ ap byte_of (eqb-true (mark_number k) (mark_number m) e) ∙ sym (mark_byte_law m) in
    not_both (rw same at h) g)
    (λ e. refl)

bare_other : (n : Bool) (m : Mark) (b : ℕ) → eqb b (mark_byte m) ≡ false → weight m (bare_of n b) ≡ 0
bare_other n m b h =
    let P : Item → Type 0 = λ t. weight m t ≡ 0 in
    choice P (is_place b) (λ _. refl) (λ _.
    choice P (eqb b 37) (λ k. mark_other Percent m b k h) (λ _.
    choice P (eqb b 43) (λ k. mark_other Plus m b k h) (λ _.
    choice P (eqb b 45) (λ k. mark_other Minus m b k h) (λ _.
    choice P (eqb b 59) (λ _. refl) (λ _.
    choice P (is_reserved n b) (λ _. refl) (λ _. refl))))))

token_other : (q n : Bool) (m : Mark) (b : ℕ) (s : List ℕ) → eqb b (mark_byte m) ≡ false → weight m (token_at q n (b ∷ s)).item ≡ 0
token_other q n m b s h =
    let P : Token → Type 0 = λ t. weight m t.item ≡ 0 in
    choice P (starts apostrophe (b ∷ s)) (λ _. refl) (λ _.
    choice P (eqb b 39) (λ _. refl) (λ _.
    choice P q (λ _. refl) (λ _.
    choice P (starts permille (b ∷ s)) (λ k. mark_other Permille m b (starts_first 0xE2 b (0x80 ∷ 0xB0 ∷ []) s k) h) (λ _.
    choice P (starts currency (b ∷ s)) (λ _. refl) (λ _. bare_other n m b h)))))

until_none : (b : ℕ) (s : List ℕ) → list_any (λ (x : ℕ). eqb x b) s ≡ false → until b s ≡ length s
until_none b [] h = refl
until_none b (x ∷ s) h = tested (eqb x b) (λ e. not_both (rw e) h) (λ e. rw e (ap suc (until_none b s (rw e at h))))

-- a text without the mark's byte
pub marks_none : (m : Mark) (q n : Bool) (k : ℕ) (s : List ℕ) → until (mark_byte m) s ≡ length s → marks m (items_from q n k s) ≡ 0
marks_none m q n k [] h = refl
marks_none m q n (suc k) (b ∷ s) h =
    tested (eqb b (mark_byte m)) (λ e. absurd (some (rw e at h))) (λ e. marks_none m q n k s (less (rw e at h)))
  where
    some : 0 ≡ suc (length s) → ⊥
    some g = omega arith

    less : suc (until (mark_byte m) s) ≡ suc (length s) → until (mark_byte m) s ≡ length s
    less g = omega arith
marks_none m q n zero (b ∷ s) h =
    tested (eqb b (mark_byte m)) (λ e. absurd (some (rw e at h)))
    (λ e.
    let t = token_at q n (b ∷ s) in
    rw (token_other q n m b s e, marks_none m (quoted_after q t.item) (is_number t.item) (t.width - 1) s (less (rw e at h))))
  where
    some : 0 ≡ suc (length s) → ⊥
    some g = omega arith

    less : suc (until (mark_byte m) s) ≡ suc (length s) → until (mark_byte m) s ≡ length s
    less g = omega arith

pub no_marks : (m : Mark) (s : List ℕ) → list_any (λ (x : ℕ). eqb x (mark_byte m)) s ≡ false → marks m (items s) ≡ 0
no_marks m s h = marks_none m false false 0 s (until_none (mark_byte m) s h)
