-- `alphabet::five::digits_of` meets its contract: the five choices come to the digits of each letter, `five_digits`. Assumes nothing.
use Rattle.alphabet.proofs.AlphabetLaws.{five_digits}
use Rattle.alphabet.proofs.five.digits_of.Goals as goal

pub returns : goal.returns
returns c =
    rw (c.pick-n.ensures.0, c.pick-t.ensures.0, c.pick-g.ensures.0, c.pick-c.ensures.0, c.pick-a.ensures.0) (five_digits c.args.symbol)
