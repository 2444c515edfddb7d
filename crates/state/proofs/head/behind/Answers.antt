-- `state::head::behind` meets its contract: the tests on the way pick the case. Assumes nothing.
use mathlib.Core.Path.{sym, ◌∙◌}
use Rattle.frame.specs.Hex.{unhex}
use Rattle.frame.proofs.HexLaws.{length_unhex}
use Rattle.state.proofs.HeadLaws.{back_short, back_far, back_above, back_fits}
use Rattle.state.proofs.head.behind.Goals as goal

pub returns-then-line-lt-LEAST : goal.returns-then-line-lt-LEAST
returns-then-line-lt-LEAST c = back_short c.args.count c.args.counts.now (unhex c.args.line.now) _ (sym (length_unhex c.args.line.now)) c.if-line-lt-LEAST.true

pub returns-then-count-number : goal.returns-then-count-number
returns-then-count-number c =
    back_far c.args.count c.args.counts.now (unhex c.args.line.now) _ (sym (length_unhex c.args.line.now)) c.if-line-lt-LEAST.false _ c.word_at-number.ensures.0 c.if-count-number.true

pub returns-then-not-within : goal.returns-then-not-within
returns-then-not-within c =
    back_above c.args.count c.args.counts.now (unhex c.args.line.now) _ (sym (length_unhex c.args.line.now)) c.if-line-lt-LEAST.false _ c.word_at-number.ensures.0 c.if-count-number.false _ c.state_at-state.ensures
    (sym c.within.ensures ∙ c.if-not-within.true)

pub returns : goal.returns
returns c =
    back_fits c.args.count c.args.counts.now (unhex c.args.line.now) _ (sym (length_unhex c.args.line.now)) c.if-line-lt-LEAST.false _ c.word_at-number.ensures.0 c.if-count-number.false _ c.state_at-state.ensures
    (sym c.within.ensures ∙ c.if-not-within.false)
