-- `front::pair_line::lay_symbols` meets its contract. The loop's invariant: to store the symbols that are left, from here, gives what storing all gives. Assumes nothing.
use Prim.Native.Nat.{◌+◌, ◌*◌, ◌-◌}
use Rattle.frame.specs.Hex.{unhex}
use Rattle.front.specs.PairLine.{symbol_bytes, pair_head, symbol_list}
use Rattle.frame.proofs.StoreLaws.{Left}
use Rattle.front.proofs.pair_line.lay_symbols.Given as goal

abbrev pub invariant-loop-i : goal.invariant-loop-i
invariant-loop-i l =
    Left l.table (l.place + l.i) (symbol_list (l.count - l.i) (unhex l.line) (pair_head + symbol_bytes * l.i)) l.initial.table l.place (symbol_list l.count (unhex l.line) pair_head)
