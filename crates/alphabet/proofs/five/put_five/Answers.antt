-- `alphabet::five::put_five` meets its contract: the two bytes of the number are the two digits, `laid_five`. Assumes nothing.
use Rattle.std.proofs.Common.{◌≡◌, ◌/◌, ◌%◌, refl, arith}
use Rattle.alphabet.proofs.AlphabetLaws.{laid_five}
use Rattle.alphabet.proofs.five.put_five.Goals as goal

pub returns : goal.returns
returns c =
    let d = c.digits_of.result in
    let high : d / 256 % 256 ≡ d / 256 = omega arith in
    laid_five _ c.digits_of.ensures refl (rw (c.to_le_bytes.ensures, high))
