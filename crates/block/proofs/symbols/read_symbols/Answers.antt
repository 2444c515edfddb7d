-- `block::symbols::read_symbols` meets its contract. The loop's invariant: to check what is left gives what checking the whole gives. Assumes nothing.
use mathlib.Core.Path.{◌≡◌, sym, ◌∙◌}
use Prim.Native.Nat.{◌+◌, ◌-◌, ◌<◌, ◌≤◌}
use native.Mathlib.Omega.{arith}
use Rattle.std.proofs.Common.{rules, length, get_or}
use Rattle.alphabet.specs.Table35.{size_of}
use Rattle.block.proofs.SymbolLaws.{symbols_short, symbols_out, symbols_on, symbols_end}
use Rattle.block.proofs.symbols.read_symbols.Goals as goal

pub returns-in_default : goal.returns-in_default
returns-in_default c =
    let more : 0 < c.args.count - c.loop.counter = omega (arith, c.loop-test.true) in
    let out : length c.args.frame.now ≤ c.loop.at = search rules in
    sym (symbols_short _ _ _ _ _ more out) ∙ c.loop.invariant

pub returns-then-size-from : goal.returns-then-size-from
returns-then-size-from c =
    let more : 0 < c.args.count - c.loop.counter = omega (arith, c.loop-test.true) in
    let inside : c.loop.at < length c.args.frame.now = search rules in
    let is : c.in-Some.symbol ≡ get_or c.args.frame.now c.loop.at 0 = search rules in
    let big : size_of c.args.alphabet ≤ get_or c.args.frame.now c.loop.at 0 = omega (arith, c.size-size.ensures, is, c.from.ensures, c.if-size-from.true) in
    sym (symbols_out _ _ _ _ _ more inside big) ∙ c.loop.invariant

pub loop-preserved : goal.loop-preserved
loop-preserved c =
    let more : 0 < c.args.count - c.loop.counter = omega (arith, c.loop-test.true) in
    let inside : c.loop.at < length c.args.frame.now = search rules in
    let is : c.in-Some.symbol ≡ get_or c.args.frame.now c.loop.at 0 = search rules in
    let turn : c.args.count - (c.loop.counter + 1) ≡ c.args.count - c.loop.counter - 1 = omega arith in
    let small : get_or c.args.frame.now c.loop.at 0 < size_of c.args.alphabet = omega (arith, c.size-size.ensures, is, c.from.ensures, c.if-size-from.false) in
    rw turn (sym (symbols_on _ _ _ _ _ more inside small) ∙ c.loop.invariant)

pub returns : goal.returns
returns c =
    let none : c.args.count - c.loop.counter ≤ 0 = omega (arith, c.loop-test.false) in
    sym (symbols_end _ _ _ _ _ none) ∙ c.loop.invariant
