-- Runs of symbol indexes, one a byte (document 01, Lines: blocks; refusals 2 and 10).
-- Assumes nothing.
use Rattle.std.specs.Prelude.{ℕ, zero, suc, ◌+◌, cond, List, leb, length, get_or, Ok, Err}
use Rattle.refusal.specs.declared.Refusal.TheVariants.{Misframed, SymbolOut}
use Rattle.frame.specs.Field.{Field}
use Rattle.alphabet.specs.Table35.{size_of}

-- k symbols from a place on, of a run of `count`: each is there, else 2, and inside the alphabet, else 10
unfoldable pub symbols_from : (alphabet : ℕ) (frame : List ℕ) (count k at : ℕ) → Field
symbols_from alphabet frame count zero at = Ok (count, record { at = at })
symbols_from alphabet frame count (suc k) at =
    cond (leb (length frame) at) (Err Misframed)
    (cond (leb (size_of alphabet) (get_or frame at 0)) (Err SymbolOut)
    (symbols_from alphabet frame count k (at + 1)))

-- a run of `count` symbols, from a place on
abbrev pub symbol_run : (alphabet : ℕ) (frame : List ℕ) (count at : ℕ) → Field
symbol_run alphabet frame count at = symbols_from alphabet frame count count at
