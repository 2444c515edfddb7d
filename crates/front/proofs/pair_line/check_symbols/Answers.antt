-- `front::pair_line::check_symbols` meets its contract: each return is one law of the symbols that a count asks for. Assumes nothing.
use native.Mathlib.Omega.{arith}
use Rattle.front.proofs.PairLaws.{count_above, symbols_other, symbols_just}
use Rattle.front.proofs.pair_line.check_symbols.Goals as goal

pub returns-then-count-gt-SYMBOLS : goal.returns-then-count-gt-SYMBOLS
returns-then-count-gt-SYMBOLS c = count_above _ _ _ (omega arith)

pub returns-then-bytes-at : goal.returns-then-bytes-at
returns-then-bytes-at c = symbols_other _ _ _ (omega arith) (λ e. omega arith)

pub returns-then-left-wanted : goal.returns-then-left-wanted
returns-then-left-wanted c = symbols_other _ _ _ (omega arith) (λ e. omega arith)

pub returns-then-wanted-left : goal.returns-then-wanted-left
returns-then-wanted-left c = symbols_other _ _ _ (omega arith) (λ e. omega arith)

pub returns : goal.returns
returns c = symbols_just _ _ _ (omega arith) (omega arith)
