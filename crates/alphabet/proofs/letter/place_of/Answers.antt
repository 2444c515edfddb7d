-- `alphabet::letter::place_of` meets its contract, `place_min`. Assumes nothing.
use Rattle.alphabet.proofs.AlphabetLaws.{place_min}
use Rattle.alphabet.proofs.letter.place_of.Goals as goal

pub returns : goal.returns
returns c = rw (c.from.ensures, c.min.ensures, place_min)
