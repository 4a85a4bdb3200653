-- Demand 2: "Word and text are those of the standard as document 01 narrows it; the printed value is the permitted value nearest the exact one,
-- rounded once, ties to the even multiple. A refusal comes exactly where the table calls for it." Of the last sentence both directions stand in
-- proofs/Given.antt and, for the entries' codes and figures, in proofs/Demand1.antt.
use Rattle.std.specs.Prelude.{Ok, Result}
use Rattle.answer.specs.declared.Refusal.{Refusal}
use mathlib.Core.Path.{◌≡◌, refl, sym, ap, ◌∙◌, subst}
use mathlib.Core.List.{List}
use mathlib.Core.Logic.{◌↔◌}
use Prim.Native.Nat.{ℕ}
use lib.ListN.{length}
use Rattle.decimal.proofs.Choices.{never}
use Rattle.answer.specs.declared.Keyword.{Keyword}
use Rattle.select.specs.Words.{Chosen}
use Rattle.select_text.specs.Select.{select_of}
use Rattle.print.specs.Outcome.{outcome, answer_of, area_of}
use Rattle.demands.specs.Verdicts.{SelectVerdict, PrintVerdict}
use Rattle.demands.specs.Verdicts.SelectVerdict.{by_pack, by_number, chosen}
use Rattle.demands.specs.Verdicts.PrintVerdict.{by_symbols, by_pattern, by_number as print-by-number, by_exponent, too_short, prints}
use Rattle.demands.specs.Answers.{TheWord, TheText}
use Rattle.demands.proofs.Given.{select_given, select_found, print_given, print_found}

-- ---- the word

pub the_word : (pack number : List ℕ) (k : Keyword) → (select_of pack number ≡ Ok k) ↔ TheWord pack number k
the_word pack number k = (λ e. only (select_found pack number) e, from)
  where
    only : {c : Result Keyword Refusal} → SelectVerdict pack number c → c ≡ Ok k → TheWord pack number k
    only (by_pack r p) e = never (cc)
    only (by_number rules r p n) e = never (cc)
    only (chosen rules x c p n h) e = record { rules = rules; operands = x; pack-read = p; number_read = n; is_word = subst (Chosen x rules) e h }

    from : TheWord pack number k → select_of pack number ≡ Ok k
    from w = select_given pack number (chosen w.rules w.operands (Ok k) w.pack-read w.number_read w.is_word)

-- ---- the text

pub the_text : (house s t area : List ℕ) (n : ℕ)
    → (answer_of (outcome house s t) area ≡ Ok n) ↔ TheText house s t area (area_of (outcome house s t) area) n
the_text house s t area n = (λ e. only (print_found house s t area) e, from)
  where
    only : {r : Result ℕ Refusal} {after : List ℕ} → PrintVerdict house s t area r after → r ≡ Ok n → TheText house s t area after n
    only (by_symbols r y) e = never (cc)
    only (by_pattern r y p) e = never (cc)
    only (print-by-number p r y q k) e = never (cc)
    only (by_exponent p x y q k h) e = never (cc)
    only (too_short p x text w h) e = never (cc)
    only (prints p x text w h) e =
        let k : length text ≡ n = cc in
        record { pattern = p; operands = x; text = text; is_text = w; size = sym k; fits = h; area-after = refl }

    from : TheText house s t area (area_of (outcome house s t) area) n → answer_of (outcome house s t) area ≡ Ok n
    from w = (print_given house s t area (prints w.pattern w.operands w.text w.is_text w.fits)).0 ∙ ap Ok (sym w.size)
