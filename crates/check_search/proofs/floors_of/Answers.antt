-- `check_search::floors_of` is three searches from 0 on, where 0 is a floor.
use native.Mathlib.Omega.{arith}
use Rattle.pack_rules.specs.Stretch.{table_of}
use Rattle.check_laws.specs.Read.{joined_in}
use Rattle.check_laws.specs.declared.Floors.{Floors}
use Rattle.check_laws.proofs.Flooring.{found_integer, found_tail, under_found}
use mathlib.Core.Bool.{true, false}
use Rattle.check_search.proofs.floors_of.Goals as goal

pub integer_of-whole-requires : goal.integer_of-whole-requires
integer_of-whole-requires c = (omega arith, c.requires.0, c.requires.1, λ x h. absurd (omega arith))

pub integer_of-part-requires : goal.integer_of-part-requires
integer_of-part-requires c = (omega arith, c.requires.0, c.requires.1, λ x h. absurd (omega arith))

pub alone_of-tail-requires : goal.alone_of-tail-requires
alone_of-tail-requires c = (c.requires.0, c.requires.1, λ x h. absurd (omega arith))

pub returns : goal.returns
returns c =
    let a = c.args in
    let T = table_of a.pack.now in
    let d = joined_in T a.s in
    let w = c.integer_of-whole in
    let p = c.integer_of-part in
    let t = c.alone_of-tail in
    let l : Floors = record { whole = w.result; part = p.result; tail = t.result } in
    let we = found_integer d l true w.result w.ensures in
    let pe = found_integer d l false p.result p.ensures in
    let te = found_tail d l t.result t.ensures in
    record {
      under = under_found d l we pe te;
      each_least = (we, pe, te);
    }
