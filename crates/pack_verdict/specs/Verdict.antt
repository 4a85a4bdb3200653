-- The answer at a pack's end, behind a last `;`: a rule has been closed there, or nothing could follow.
use Rattle.answer.specs.declared.Refusal.{Refusal}
use Rattle.std.specs.Prelude.{Err, Ok, Result, ℕ, ltb, Option, None, Some, if◌then◌else◌}
use Rattle.answer.specs.declared.PackRow.TheVariants.{NotAPack}
use Rattle.answer.specs.declared.Refusal.TheVariants.{PackTooLong, Pack as OfPack}
use Rattle.pack_grammar.specs.Limits.{max_bytes}
use Rattle.pack_phase.specs.Next.{same_phase}
use Rattle.pack_phase.specs.declared.Phase.TheVariants.{Name}
use Rattle.pack_faults.specs.declared.Fault.{Fault}
use Rattle.pack_walk.specs.declared.Walk.{Walk}

-- by the first fault: n rules where there is none
abbrev pub read_by : Option Fault → ℕ → Result ℕ Refusal
read_by None n = Ok n
read_by (Some f) n = Err (OfPack f.row f.at)

abbrev pub judged : Walk → Result ℕ Refusal
judged w =
    if same_phase w.phase Name then read_by w.mark.fault w.counts.rules else
    Err (OfPack NotAPack (record { 0 = w.mark.stop }))

-- the answer to a pack of n bytes
abbrev pub judged_all : ℕ → Walk → Result ℕ Refusal
judged_all n w = if ltb max_bytes n then Err PackTooLong else judged w
