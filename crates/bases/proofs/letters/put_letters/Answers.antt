-- `bases::letters::put_letters` meets its contract: one loop for each alphabet. Assumes nothing.
use Rattle.bases.proofs.ReferenceLaws.{window_length, letters_window}
use Rattle.bases.proofs.letters.put_letters.Goals as goal

pub put_fives-requires : goal.put_fives-requires
put_fives-requires c = let within = c.requires.start_le_end in rw (window_length _ within.0 within.1) c.requires.start_in_bounds

pub returns-then-alphabet-eq0 : goal.returns-then-alphabet-eq0
returns-then-alphabet-eq0 c = let within = c.requires.start_le_end in rw c.if-alphabet-eq0.true (rw (letters_window _ within.0 within.1 0) at c.put_fives.ensures)

pub put_sixteens-requires : goal.put_sixteens-requires
put_sixteens-requires c = let within = c.requires.start_le_end in rw (window_length _ within.0 within.1) c.requires.start_in_bounds

pub returns : goal.returns
returns c = let within = c.requires.start_le_end in rw (letters_window _ within.0 within.1 c.args.alphabet) at c.put_sixteens.ensures
