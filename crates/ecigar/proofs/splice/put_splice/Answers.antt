-- `ecigar::splice::put_splice` meets its contract: the tests on the way pick the sign. Assumes nothing.
use native.Mathlib.Omega.{arith}
use mathlib.Core.Path.{sym}
use lib.ListN.{length-append}
use Rattle.ecigar.proofs.SpliceLaws.{length_splice, splice_forward, splice_reverse, splice_undirected}
use Rattle.writing.proofs.LayLaws.{laid_as}
use Rattle.ecigar.proofs.splice.put_splice.Goals as goal

pub put_count-requires : goal.put_count-requires
put_count-requires c = simp length-append (omega (arith, c.requires, length_splice c.args.rcomp c.args.n))

pub returns-then-rcomp-eq0 : goal.returns-then-rcomp-eq0
returns-then-rcomp-eq0 c = laid_as (sym (splice_forward _ _ c.if-rcomp-eq0.true)) c.put_count.ensures

pub put_count-requires-then-rcomp-eq1 : goal.put_count-requires-then-rcomp-eq1
put_count-requires-then-rcomp-eq1 c = simp length-append (omega (arith, c.requires, length_splice c.args.rcomp c.args.n))

pub returns-then-rcomp-eq1 : goal.returns-then-rcomp-eq1
returns-then-rcomp-eq1 c = laid_as (sym (splice_reverse _ _ c.if-rcomp-eq1.true)) c.put_count-then-rcomp-eq1.ensures

pub put_count-requires-2 : goal.put_count-requires-2
put_count-requires-2 c = simp length-append (omega (arith, c.requires, length_splice c.args.rcomp c.args.n))

pub returns : goal.returns
returns c = laid_as (sym (splice_undirected _ _ c.if-rcomp-eq0.false c.if-rcomp-eq1.false)) c.put_count-2.ensures
