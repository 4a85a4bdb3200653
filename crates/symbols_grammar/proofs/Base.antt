-- A record without kind 71 is judged as before, gives the symbols that it gave, and 1 as the minimum grouping digits.
use mathlib.Core.Path.{◌≡◌, refl, ap}
use mathlib.Core.Bool.{false}
use mathlib.Core.List.{List, [], ◌∷◌}
use Prim.Native.Nat.{ℕ}
use native.Mathlib.Omega.{arith}
use borrow.Author.Tests.{ne_eqb}
use Rattle.decimal.proofs.Choices.{tested}
use Rattle.records.specs.Entries as records
use Rattle.records.specs.Entries.{Entry}
use Rattle.records.specs.Spelled.{Among, All, more, here, later}
use Rattle.records.proofs.Told.{holds_told}
use Rattle.records.proofs.Spellings.{all_among}
use Rattle.records.proofs.Without.{read_without}
use Rattle.symbols.specs.declared.Symbol.{Symbol}
use Rattle.symbols.specs.declared.Symbol.TheVariants.{Decimal, Group, Minus, Plus, Percent, Permille, Minimum}
use Rattle.symbols.specs.Kinds.{upper_of, longest, kind_of, name_of, length_of}
use Rattle.symbols.specs.Entries.{entries, broken, holds, entry_fits, read_symbols, symbol_in, standard_record}
use Rattle.symbols_grammar.specs.Record.{IsEntry, Of}
use Rattle.symbols_grammar.specs.Base.{NoMinimum, base_entries, base_fits, base_symbols, base_standard, base_symbol, base_minimum}
use Rattle.symbols_grammar.proofs.Records.{of_told, read_spells}

-- an entry of the minimum's symbol is of kind 71
its_kind : (e : Entry) → IsEntry e → Of Minimum e → e.kind ≡ 0x71
its_kind e w o =
    let s : w.symbol ≡ Minimum = (of_told e w Minimum).0 o in
    omega (arith, w.halves, w.least, w.most, ap upper_of s, ap longest s)

same_fits : (es : List Entry) → All IsEntry es → ((e : Entry) → Among e es → e.kind ≡ 0x71 → ⊥) → records.every entry_fits es ≡ records.every base_fits es
same_fits [] a h = refl
same_fits (e ∷ es) (more w a) h =
    let n : entry_fits e ≡ base_fits e = rw (ne_eqb (name_of e.kind) 7 (λ o. h e here (its_kind e w o))) in
    rw (n, same_fits es a (λ d m. h d (later m)))

-- the standard record's symbols are those of the base's
standards : (y : Symbol) → (y ≡ Minimum → ⊥) → records.body_in name_of (upper_of y) (entries standard_record) ≡ records.body_in name_of (upper_of y) (base_entries base_standard)
unfolding kind_of
standards Decimal n = refl
standards Group n = refl
standards Minus n = refl
standards Plus n = refl
standards Percent n = refl
standards Permille n = refl
standards Minimum n = absurd (n refl)

module _ (s : List ℕ) (h : NoMinimum s) where
  pub base_read : read_symbols s ≡ base_symbols s
  base_read =
      let r = read_without 0x71 length_of s h in
      tested (broken s) (λ k. rw (r.1, k)) (λ k. rw (r.1, r.0, k, same_fits (entries s) (read_spells s k).all h))

  -- the record lacks the minimum
  lacks : broken s ≡ false → holds Minimum (entries s) ≡ false
  lacks k =
      tested (holds Minimum (entries s))
      (λ e.
      let r = (holds_told name_of 7 (entries s)).0 e in
      absurd (h r.entry r.among (its_kind r.entry (all_among (read_spells s k).all r.among) r.its)))
      (λ e. e)

  pub base_minimum_law : broken s ≡ false → symbol_in s standard_record Minimum ≡ base_minimum ∷ []
  unfolding kind_of
  base_minimum_law k = rw (lacks k)

  pub base_symbol_law : (y : Symbol) → (y ≡ Minimum → ⊥) → symbol_in s standard_record y ≡ base_symbol s y
  base_symbol_law y n = rw ((read_without 0x71 length_of s h).0, standards y n)
