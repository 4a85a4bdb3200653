-- Where the code stands while it reads a pack, and how a token changes it: the phase, how many of each kind have been read, what is being read, and
-- the first fault.
use Rattle.std.specs.Prelude.{Bool, List, ℕ, get_or, take, Option, None, Some, if◌then◌else◌}
use Rattle.answer.specs.declared.PackRow.{PackRow}
use Rattle.answer.specs.declared.PackRow.TheVariants.{UnlistedModulus}
use Rattle.pack_token.specs.Spelling.{same}
use Rattle.pack_token.specs.Token.{differ}
use Rattle.pack_grammar.specs.Limits.{is_modulus}
use Rattle.pack_grammar.specs.Grammar.{Text, other}
use Rattle.pack_phase.specs.Next.{next_phase, same_phase, has_number, is_sign, is_closing}
use Rattle.pack_phase.specs.declared.Phase.{Phase}
use Rattle.pack_phase.specs.declared.Phase.TheVariants.{Name, Colon, Nothing, Operand, ModulusOrSign, Modulus, Sign, Value, DotsOrMore, Upper, More, Dead}
use Rattle.pack_counts.specs.Counts.{nothing, ends_bare, ends_relation, counts_after}
use Rattle.pack_counts.specs.declared.Counts.{Counts}
use Rattle.pack_counts.specs.declared.Closes.{Closes}
use Rattle.pack_faults.specs.Faults.{capped, keyword_number, held, name_row, operand_row, value_row, upper_row, mark_after}
use Rattle.pack_walk.specs.declared.Current.{Current}
use Rattle.pack_walk.specs.declared.Walk.{Walk}
use Rattle.pack_walk.specs.declared.Step.{Step}

-- the token's value where the phase has a number next, else 0
abbrev pub value_at : Phase → Text → ℕ
value_at p t = if has_number p then capped t else 0

abbrev pub closes_at : Phase → Text → Closes
closes_at p t = if is_closing p then ends_relation t else if same_phase p Nothing then ends_bare t else nothing

abbrev pub key_after : Phase → Text → ℕ → ℕ
key_after p t old = if same_phase p Name then keyword_number t else old

abbrev pub current_after : Current → Phase → Text → ℕ → ℕ → Current
current_after o p t v key =
    record {
      key = key;
      operand = if same_phase p Operand then get_or t 0 0 else o.operand;
      modulus = if same_phase p Operand then 0 else if same_phase p Modulus then v else o.modulus;
      negated = if is_sign p then same t differ else o.negated;
      low = if same_phase p Value then v else o.low;
      other = same t other;
    }

-- ---- 22 to 26 of the token, or none

-- `again`: the keyword has been used
abbrev pub row_at : Phase → ℕ → Bool → ℕ → Counts → ℕ → Option PackRow
row_at Name key again v c low = name_row key again
row_at Colon key again v c low = None
row_at Nothing key again v c low = None
row_at Operand key again v c low = operand_row c.parted c.joined
row_at ModulusOrSign key again v c low = None
row_at Modulus key again v c low = if is_modulus v then None else Some UnlistedModulus
row_at Sign key again v c low = None
row_at Value key again v c low = value_row v c.values
row_at DotsOrMore key again v c low = None
row_at Upper key again v c low = upper_row v low
row_at More key again v c low = None
row_at Dead key again v c low = None

-- the place of the last token before nothing could follow
abbrev pub stop_after : Phase → ℕ → ℕ → ℕ
stop_after p old at = if same_phase p Dead then old else at

-- ---- what a token does in the phase p, closing x and before the phase q

abbrev pub step_by : Phase → Closes → Phase → Text → ℕ → List ℕ → Walk → Step
step_by p x q t at keys w =
    let v = value_at p t in
    let key = key_after p t w.current.key in
    record {
      walk = record {
        phase = q;
        counts = counts_after w.counts (same_phase p Value) x;
        current = current_after w.current p t v key;
        mark =
            mark_after w.mark (stop_after p w.mark.stop at)
            (row_at p key (held key (take w.counts.rules keys)) v w.counts w.current.low) at;
      };
      value = v;
      closes = x;
      starts = same_phase p Value;
      ends = same_phase p Upper;
    }

abbrev pub step_after : Text → ℕ → List ℕ → Walk → Step
step_after t at keys w =
    let p = w.phase in
    step_by p (closes_at p t) (next_phase p w.current.other t) t at keys w
