-- `pairing::rows::by_code` meets its contract: each arm is its row, by what the row's function ensures. Assumes nothing.
use mathlib.Core.Path.{refl}
use Rattle.pairing.proofs.With.{done, no_case, decode_differ}
use Rattle.pairing.specs.Table60.{table60}
use Rattle.pairing.proofs.rows.by_code.Goals as goal

pub returns-in-0 : goal.returns-in-0
unfolding table60
returns-in-0 c = rw c.in-0.is c.same_rec.ensures

pub returns-in-1 : goal.returns-in-1
unfolding table60
returns-in-1 c = rw c.in-1.is c.split.ensures

pub returns-in-2 : goal.returns-in-2
unfolding table60
returns-in-2 c = rw c.in-2.is c.split-in-2.ensures

pub returns-in-3 : goal.returns-in-3
unfolding table60
returns-in-3 c = rw c.in-3.is c.diff_ref_seq.ensures

pub returns-in-4 : goal.returns-in-4
unfolding table60
returns-in-4 c = rw c.in-4.is c.diff_ref_seq-in-4.ensures

pub returns-in-5 : goal.returns-in-5
unfolding table60
returns-in-5 c = rw c.in-5.is (done _ _ _ _ _ _ _ _ _ _ _ refl c.new.ensures refl refl)

pub returns-in-6 : goal.returns-in-6
unfolding table60
returns-in-6 c = rw c.in-6.is (done _ _ _ _ _ _ _ _ _ _ _ refl c.new-in-6.ensures refl refl)

pub returns-in_default : goal.returns-in_default
unfolding table60
returns-in_default c = search (no_case, decode_differ) depth 12
