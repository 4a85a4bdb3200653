-- What the area holds, once the bytes needed are known.
use mathlib.Core.Path.{◌≡◌}
use mathlib.Core.Bool.{true, false}
use mathlib.Core.List.{List}
use Prim.Native.Nat.{ℕ, ◌≤◌, ◌<◌}
use native.Mathlib.Omega.{arith}
use borrow.Author.Tests.{lt-ltb, le-ltb}
use lib.Dec.{ltb}
use lib.ListN.{length, take, drop}
use lib.Seq.{take-append_seam}
use Rattle.area.specs.Area.{Wrote, most}
use Rattle.area.proofs.Pieces.{front}
use Rattle.std.specs.Prelude.{Ok, Err}
use Rattle.answer.specs.declared.Refusal.TheVariants.{Print as OfPrint}
use Rattle.answer.specs.declared.PrintRow.TheVariants.{AreaTooShort}
use Rattle.print_area.specs.Whole.{written_in, area_with}

pub needed : (t o o' : List ℕ) (need : ℕ) → length t ≤ most → Wrote o 0 t o' need → need ≡ length t
needed t o o' need h w = omega (arith, w.next)

-- a text that has room in an area stands at its front
pub laid_aside : (t o o' : List ℕ) (need : ℕ) → need ≡ length t → Wrote o 0 t o' need → need ≤ length o → take need o' ≡ t
laid_aside t o o' need e w h = rw (front t w (omega arith), e) (take-append_seam t (drop (length t) o))

pub short_text : (t area : List ℕ) (need : ℕ) → need ≡ length t → length area < need → (Err (OfPrint (AreaTooShort need)) ≡ written_in t area) × (area ≡ area_with t area)
short_text t area need e h =
    let k : ltb (length area) (length t) ≡ true = lt-ltb (length area) (length t) (omega arith) in
    (rw (k, e), rw k)

pub whole_text : (t area area' : List ℕ) (need end : ℕ) → need ≡ length t → need ≤ length area → Wrote area 0 t area' end
    → (Ok need ≡ written_in t area) × (area' ≡ area_with t area)
whole_text t area area' need end e h w =
    let k : ltb (length area) (length t) ≡ false = le-ltb (length area) (length t) (omega arith) in
    (rw (k, e), rw k (front t w (omega arith)))
