-- The record that is read is the record that the bytes spell; rows 40 and 41; the body that the finder gives is the symbol's.
use Rattle.std.specs.Prelude.{Ok, Result, Option, None, Some}
use Rattle.answer.specs.declared.Refusal.{Refusal}
use mathlib.Core.Path.{◌≡◌, refl, sym, ap, subst, ◌∙◌}
use mathlib.Core.Bool.{true, false}
use mathlib.Core.List.{List}
use mathlib.Core.Logic.{◌↔◌}
use Prim.Native.Nat.{ℕ, ◌+◌, ◌*◌, ◌/◌, ◌%◌, ◌≤◌}
use native.Mathlib.Omega.{arith}
use lib.ListN.{length, get_or}
use Rattle.decimal.proofs.Choices.{tested, never, not_both}
use Rattle.answer.specs.declared.SymbolRow.TheVariants.{NotASymbolRecord}
use Rattle.records.specs.Entries.{Entry}
use Rattle.records.specs.Spelled.{Fixed, Among}
use Rattle.records.proofs.Told.{holds_told, twice_told, once_told, body_found}
use Rattle.records.proofs.Spellings.{all_among, spells_as, spells_read as fixed-read, read_spells as read-fixed}
use Rattle.symbols.specs.declared.Symbol.{Symbol}
use Rattle.symbols.specs.declared.Symbol.TheVariants.{Decimal, Group, Minus, Plus, Percent, Permille, Minimum}
use Rattle.symbols.specs.Kinds.{upper_of, longest, kind_with, kind_of, name_of, length_in, length_of}
use Rattle.symbols.specs.Entries.{entries, broken, holds, body_in, twice, body_fits, bodies_fit, refuse, read_symbols, symbol_in, standard_record}
use Rattle.symbols.proofs.KindLaws.{known, kind_at, upper_same, known_byte, longest_four}
use Rattle.symbols_grammar.specs.Record.{IsEntry, Spells, Of, Twice, IsBody, IsMinimum, HasBody, text, minimum, Verdict, no_record, symbol_twice, bad_body, good, SymbolIs, own, standard}
use Rattle.symbols_grammar.proofs.Told.{body_told, bodies_told, unfit_entry}

kind_with_law : (y : Symbol) (n : ℕ) → 1 ≤ n → n ≤ longest y → kind_with (upper_of y) n ≡ known y n
kind_with_law Decimal n h k = refl
kind_with_law Group n h k = refl
kind_with_law Minus n h k = refl
kind_with_law Plus n h k = refl
kind_with_law Percent n h k = refl
kind_with_law Permille n h k = refl
kind_with_law Minimum n h k = let e : n ≡ 1 = omega arith in rw e

-- ---- entries: the kind's halves are its symbol's and the body's length

kind_spelled : (y : Symbol) (n : ℕ) → 1 ≤ n → n ≤ longest y → kind_of (16 * upper_of y + n) ≡ known y n
kind_spelled y n h k =
    let b = 16 * upper_of y + n in
    let m : n ≤ 4 = omega (arith, longest_four y) in
    let l : b % 16 ≡ n = omega arith in
    kind_at b (upper_of y) (omega arith) (omega arith) (omega arith) ∙ (ap (kind_with (upper_of y)) l ∙ kind_with_law y n h k)

entry_fixed : (e : Entry) → IsEntry e → Fixed length_of e
entry_fixed e w =
    let k : kind_of e.kind ≡ known w.symbol (length e.body) = rw w.halves (kind_spelled w.symbol (length e.body) w.least (omega (arith, w.most))) in
    record { size = rw k; some = omega (arith, w.least) }

fixed_entry : (e : Entry) → Fixed length_of e → IsEntry e
fixed_entry e f = by (kind_of e.kind) refl
  where
    by : (k : Option (Symbol × ℕ)) → kind_of e.kind ≡ k → IsEntry e
    by None q = absurd (omega (arith, f.some, sym (ap length_in q) ∙ f.size))
    by (Some (y, n)) q =
        let b = known_byte e.kind y n q in
        let z : n ≡ length e.body = sym (ap length_in q) ∙ f.size in
        record { symbol = y; halves = omega arith; least = omega arith; most = omega arith }

-- an entry of the symbol y is one whose symbol is y
pub of_told : (e : Entry) (w : IsEntry e) (y : Symbol) → Of y e ↔ (w.symbol ≡ y)
of_told e w y = (λ o. upper_same w.symbol y (sym upper ∙ o), λ q. upper ∙ ap upper_of q)
  where
    upper : e.kind / 16 ≡ upper_of w.symbol
    upper = omega (arith, w.halves, w.least, w.most, longest_four w.symbol)

-- ---- what is spelled is read, and what is read is spelled

pub spells_read : (s : List ℕ) (es : List Entry) → Spells s es → (entries s ≡ es) × (broken s ≡ false)
spells_read s es w = fixed-read length_of s es (spells_as entry_fixed w)

pub read_spells : (s : List ℕ) → broken s ≡ false → Spells s (entries s)
read_spells s e = spells_as fixed_entry (read-fixed length_of s e)

-- ---- rows 40 and 41: "given exactly when"

pub verdict_given : (s : List ℕ) {r : Result (Unit {0}) Refusal} → Verdict s r → read_symbols s ≡ r
verdict_given s (no_record f) =
    let k : broken s ≡ true = tested (broken s) (λ k. k) (λ k. absurd (f (entries s) (read_spells s k))) in
    rw k
verdict_given s (symbol_twice es w t) =
    let r = spells_read s es w in
    rw (r.1, r.0, (twice_told name_of es).1 t)
verdict_given s (bad_body es w t e a n) =
    let r = spells_read s es w in
    let b : bodies_fit es ≡ false = tested (bodies_fit es) (λ k. absurd (n ((bodies_told es).0 k e a))) (λ k. k) in
    rw (r.1, r.0, (once_told name_of es).1 t, b)
verdict_given s (good es w t f) =
    let r = spells_read s es w in
    rw (r.1, r.0, (once_told name_of es).1 t, (bodies_told es).1 f)

pub verdict_found : (s : List ℕ) → Verdict s (read_symbols s)
verdict_found s = tested (broken s) (λ k. made (no_record (λ es w. not_both k (spells_read s es w).1))) whole
  where
    made : {r : Result (Unit {0}) Refusal} → Verdict s r → Verdict s (read_symbols s)
    made {r} v = subst (Verdict s) (sym (verdict_given s v)) v

    whole : broken s ≡ false → Verdict s (read_symbols s)
    whole k =
        let es = entries s in
        let w = read_spells s k in
        tested (twice es) (λ t. made (symbol_twice es w ((twice_told name_of es).0 t)))
        (λ t.
        let apart : Twice es → ⊥ = λ z. not_both ((twice_told name_of es).1 z) t in
        tested (bodies_fit es) (λ b. made (good es w apart ((bodies_told es).0 b)))
        (λ b.
        let u = unfit_entry es b in
        made (bad_body es w apart u.entry u.among u.no_body)))

-- ---- the finder

-- the entries of a good record
record Passed (es : List Entry) : Type 0 where
  apart : Twice es → ⊥
  bodies : (e : Entry) → Among e es → HasBody e

passed : (s : List ℕ) (es : List Entry) → read_symbols s ≡ Ok tt → Spells s es → Passed es
passed s es g w = by (verdict_found s) g
  where
    by : {r : Result (Unit {0}) Refusal} → Verdict s r → r ≡ Ok tt → Passed es
    by (no_record f) e = absurd (f es w)
    by (symbol_twice ds v t) e = never (cc)
    by (bad_body ds v t d a n) e = never (cc)
    by (good ds v t f) e = subst Passed (sym (spells_read s ds v).0 ∙ (spells_read s es w).0) (record { apart = t; bodies = f })

-- an entry's body is found by its symbol
found_good : (s : List ℕ) (es : List Entry) (e : Entry) (y : Symbol) → read_symbols s ≡ Ok tt → Spells s es → Among e es → Of y e → body_in y es ≡ e.body
found_good s es e y g w a q = rw q at (body_found name_of a (passed s es g w).apart)

pub standard_good : read_symbols standard_record ≡ Ok tt
unfolding kind_of
standard_good = refl

standard_spells : Spells standard_record (entries standard_record)
unfolding kind_of
standard_spells = read_spells standard_record refl

-- the standard record has every symbol
standard_holds : (y : Symbol) → holds y (entries standard_record) ≡ true
unfolding kind_of
standard_holds Decimal = refl
standard_holds Group = refl
standard_holds Minus = refl
standard_holds Plus = refl
standard_holds Percent = refl
standard_holds Permille = refl
standard_holds Minimum = refl

module _ (house : List ℕ) (g : read_symbols house ≡ Ok tt) (y : Symbol) where
  symbol_given : {b : List ℕ} → SymbolIs house y b → symbol_in house standard_record y ≡ b
  symbol_given (own es w e a q) = rw ((spells_read house es w).0, (holds_told name_of (upper_of y) es).1 (record { entry = e; among = a; its = q })) (found_good house es e y g w a q)
  symbol_given (standard es ds w f v d a q) =
      let h : holds y es ≡ false = tested (holds y es) (λ k. let r = (holds_told name_of (upper_of y) es).0 k in absurd (f r.entry r.among r.its)) (λ k. k) in
      rw ((spells_read house es w).0, h, (spells_read standard_record ds v).0) (found_good standard_record ds d y standard_good v a q)

  symbol_found : SymbolIs house y (symbol_in house standard_record y)
  symbol_found =
      let es = entries house in
      let ds = entries standard_record in
      tested (holds y es)
      (λ k.
      let r = (holds_told name_of (upper_of y) es).0 k in
      made (own es w r.entry r.among r.its))
      (λ k.
      let r = (holds_told name_of (upper_of y) ds).0 (standard_holds y) in
      made (standard es ds w (λ e a q. not_both ((holds_told name_of (upper_of y) es).1 (record { entry = e; among = a; its = q })) k) standard_spells r.entry r.among r.its))
    where
      made : {b : List ℕ} → SymbolIs house y b → SymbolIs house y (symbol_in house standard_record y)
      made {b} x = subst (SymbolIs house y) (sym (symbol_given x)) x

      w : Spells house (entries house)
      w = read_spells house (tested (broken house) (λ k. never (differ (sym g ∙ rw k))) (λ k. k))
        where
          differ : (Ok tt) ≡ refuse NotASymbolRecord → ◌≡◌ {A = ℕ} 0 1
          differ e = cc

-- of a good house record the finder gives each symbol's body, and no other
pub symbol_is : (house : List ℕ) → read_symbols house ≡ Ok tt → (y : Symbol) (b : List ℕ) → SymbolIs house y b ↔ (symbol_in house standard_record y ≡ b)
symbol_is house g y b = (symbol_given house g y, λ e. subst (SymbolIs house y) e (symbol_found house g y))

-- It is the body of an entry of the symbol in a good record.
record Found (y : Symbol) (b : List ℕ) : Type 0 where
  entry : Entry
  its : b ≡ entry.body
  of : Of y entry
  is_entry : IsEntry entry
  has : HasBody entry

found : (house : List ℕ) (y : Symbol) → read_symbols house ≡ Ok tt → Found y (symbol_in house standard_record y)
found house y g = by (symbol_found house g y)
  where
    by : {b : List ℕ} → SymbolIs house y b → Found y b
    by (own es w e a q) = record { entry = e; its = refl; of = q; is_entry = all_among w.all a; has = (passed house es g w).bodies e a }
    by (standard es ds w f v d a q) =
        record { entry = d; its = refl; of = q; is_entry = all_among v.all a; has = (passed standard_record ds standard_good v).bodies d a }

-- it has at most four bytes
pub found_four : (house : List ℕ) (y : Symbol) → read_symbols house ≡ Ok tt → length (symbol_in house standard_record y) ≤ 4
found_four house y g =
    let r = found house y g in
    omega (arith, ap length r.its, r.is_entry.most, longest_four r.is_entry.symbol)

-- a symbol that prints is one code point of UTF-8 that is no ASCII digit
pub found_fits : (house : List ℕ) (y : Symbol) → read_symbols house ≡ Ok tt → (y ≡ Minimum → ⊥) → body_fits (symbol_in house standard_record y) ≡ true
found_fits house y g n =
    let r = found house y g in
    (body_told (symbol_in house standard_record y)).1 (subst IsBody (sym r.its) (by r.has r.of))
  where
    by : {e : Entry} → HasBody e → Of y e → IsBody e.body
    by (text m w) q = w
    by {e} (minimum o w) q = absurd (n (same_upper y (sym q ∙ o)))
      where
        same_upper : (x : Symbol) → upper_of x ≡ 7 → x ≡ Minimum
        same_upper Decimal k = absurd (omega (arith, k))
        same_upper Group k = absurd (omega (arith, k))
        same_upper Minus k = absurd (omega (arith, k))
        same_upper Plus k = absurd (omega (arith, k))
        same_upper Percent k = absurd (omega (arith, k))
        same_upper Permille k = absurd (omega (arith, k))
        same_upper Minimum k = refl

-- the minimum grouping digits are one byte, 01 to 04
pub found_minimum : (house : List ℕ) → read_symbols house ≡ Ok tt
    → let b = symbol_in house standard_record Minimum in (length b ≡ 1) × (1 ≤ get_or b 0 0) × (get_or b 0 0 ≤ 4)
found_minimum house g =
    let r = found house Minimum g in
    let s : r.is_entry.symbol ≡ Minimum = (of_told r.entry r.is_entry Minimum).0 r.of in
    let m : length r.entry.body ≤ 1 = omega (arith, r.is_entry.most, ap longest s) in
    let w = subst IsMinimum (sym r.its) (by r.has r.of) in
    (omega (arith, ap length r.its, m, r.is_entry.least), w.least, w.most)
  where
    by : {e : Entry} → HasBody e → Of Minimum e → IsMinimum e.body
    by (text m w) q = absurd (m q)
    by (minimum o w) q = w
