-- `front::pair_line::lay_symbols` meets its contract. The loop's invariant: to store the symbols that are left, from here, gives what storing all gives. Assumes nothing.
use native.Mathlib.Omega.{arith}
use Rattle.frame.proofs.StoreLaws.{left_store, left_done}
use Rattle.front.proofs.PairLaws.{symbols_fit, symbols_next, symbols_none}
use Rattle.front.proofs.pair_line.lay_symbols.Goals as goal

pub loop-i-preserved : goal.loop-i-preserved
loop-i-preserved c = left_store c.loop-i.invariant (symbols_next _ _ _ c.loop-i-test.true) c.symbol_at.ensures (omega arith)

pub returns : goal.returns
returns c = left_done c.loop-i.invariant (symbols_none _ _ _ c.loop-i-test.false) (symbols_fit _ _ _ _ c.requires.count_in_bounds_2)
