-- `alphabet::letter::put_letter` meets its contract: a place of the table and the next one are inside it. Assumes nothing.
use native.Mathlib.Omega.{arith}
use Rattle.alphabet.proofs.AlphabetLaws.{place_most}
use Rattle.alphabet.proofs.letter.put_letter.Goals as goal

pub bounds-table-place : goal.bounds-table-place
bounds-table-place c = omega (arith, c.place_of-place.ensures, place_most c.args.symbol)

pub bounds-table-place-2 : goal.bounds-table-place-2
bounds-table-place-2 c = omega (arith, c.place_of-place.ensures, place_most c.args.symbol)
