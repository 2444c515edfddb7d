-- `resuming::last::frame_last` meets its contract: the tests on the way pick the case. Assumes nothing.
use mathlib.Core.Path.{ap, ◌∙◌}
use Rattle.frame.specs.Hex.{unhex}
use Rattle.resuming.specs.Last.{said_of}
use Rattle.listing.proofs.LastLaws.{frame_is_listed, frame_05, frame_not_05, frame_06, frame_not_06, frame_other}
use Rattle.resuming.proofs.last.frame_last.Goals as goal

pub returns-then-kind-eq-LISTED : goal.returns-then-kind-eq-LISTED
returns-then-kind-eq-LISTED c =
    let a = c.args in
    let kind = c.from-kind.ensures ∙ c.byte_at.ensures in
    c.listed_last.ensures ∙ ap said_of (frame_is_listed a.count a.counts.now (unhex a.line.now) _ c.requires _ kind c.if-kind-eq-LISTED.true)

pub returns-then-bytes-eq-BYTES_05 : goal.returns-then-bytes-eq-BYTES_05
unfolding said_of
returns-then-bytes-eq-BYTES_05 c =
    let a = c.args in
    let kind = c.from-kind.ensures ∙ c.byte_at.ensures in
    ap said_of (frame_05 a.count a.counts.now (unhex a.line.now) _ c.requires _ kind c.if-kind-eq-LISTED.false c.if-kind-eq-REFUSED.true c.if-bytes-eq-BYTES_05.true)

pub returns-then-kind-eq-REFUSED : goal.returns-then-kind-eq-REFUSED
unfolding said_of
returns-then-kind-eq-REFUSED c =
    let a = c.args in
    let kind = c.from-kind.ensures ∙ c.byte_at.ensures in
    ap said_of (frame_not_05 a.count a.counts.now (unhex a.line.now) _ c.requires _ kind c.if-kind-eq-LISTED.false c.if-kind-eq-REFUSED.true c.if-bytes-eq-BYTES_05.false)

pub returns-then-bytes-eq-BYTES_06 : goal.returns-then-bytes-eq-BYTES_06
unfolding said_of
returns-then-bytes-eq-BYTES_06 c =
    let a = c.args in
    let kind = c.from-kind.ensures ∙ c.byte_at.ensures in
    ap said_of (frame_06 a.count a.counts.now (unhex a.line.now) _ c.requires _ kind c.if-kind-eq-LISTED.false c.if-kind-eq-REFUSED.false c.if-kind-eq-DONE.true c.if-bytes-eq-BYTES_06.true)

pub returns-then-kind-eq-DONE : goal.returns-then-kind-eq-DONE
unfolding said_of
returns-then-kind-eq-DONE c =
    let a = c.args in
    let kind = c.from-kind.ensures ∙ c.byte_at.ensures in
    ap said_of (frame_not_06 a.count a.counts.now (unhex a.line.now) _ c.requires _ kind c.if-kind-eq-LISTED.false c.if-kind-eq-REFUSED.false c.if-kind-eq-DONE.true c.if-bytes-eq-BYTES_06.false)

pub returns : goal.returns
unfolding said_of
returns c =
    let a = c.args in
    let kind = c.from-kind.ensures ∙ c.byte_at.ensures in
    ap said_of (frame_other a.count a.counts.now (unhex a.line.now) _ c.requires _ kind c.if-kind-eq-LISTED.false c.if-kind-eq-REFUSED.false c.if-kind-eq-DONE.false)
