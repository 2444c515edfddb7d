-- `block::symbols::read_symbols` meets its contract. The loop's invariant: to check what is left gives what checking the whole gives. Assumes nothing.
use mathlib.Core.Path.{◌≡◌}
use Prim.Native.Nat.{◌-◌}
use Rattle.block.specs.Symbols.{symbols_from}
use Rattle.block.proofs.symbols.read_symbols.Given as goal

abbrev pub invariant-loop : goal.invariant-loop
invariant-loop l = symbols_from l.alphabet l.frame l.count (l.count - l.counter) l.at ≡ symbols_from l.alphabet l.frame l.count l.count l.initial.at
