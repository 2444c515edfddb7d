-- `taking::take_narrow` meets its contract: what is taken is narrow, or refused. Assumes nothing.
use mathlib.Core.Path.{refl}
use Rattle.std.proofs.lemmas.Result.{err_from_is_err_and}
use borrow.Author.Tests.{lt-ltb, le-ltb}
use Rattle.taking.specs.Take.{narrow_of}
use Rattle.taking.proofs.take_narrow.Goals as goal

pub returns-in_err-v : goal.returns-in_err-v
unfolding narrow_of
returns-in_err-v c = let p = err_from_is_err_and c.from_residual.result c.from_residual.ensures.1 in rw (p.1, p.2, ← c.take.ensures, c.in_err-v.was) refl

pub returns-then-v-gt-LARGEST16 : goal.returns-then-v-gt-LARGEST16
unfolding narrow_of
returns-then-v-gt-LARGEST16 c = rw (← c.take.ensures, c.in_ok-v.was, lt-ltb _ _ c.if-v-gt-LARGEST16.true) refl

pub returns : goal.returns
unfolding narrow_of
returns c = rw (← c.take.ensures, c.in_ok-v.was, le-ltb _ _ c.if-v-gt-LARGEST16.false) refl
