-- Document 01, "Pairing (Table 60)": what the pair symbols of a record say, with refusals 5, 6 and 7. Where it is refused no state is handed back: that of before stands.
-- Read Table60 first.
-- Assumes nothing.
use Rattle.std.specs.Prelude.{ℕ, List, cond, ltb, eqb, Ok, Err}
use Rattle.refusal.specs.Answers.{OrRefused}
use Rattle.unit.specs.declared.Unit.{Unit}
use Rattle.unit.specs.Unit.{class_hm, most_segments}
use Rattle.state.specs.declared.State.{State}
use Rattle.taking.specs.Steps.{Steps, sets, takes, Came, came, stopped, decode}
use Rattle.taking.specs.Reading.{Took, taken_in}
use Rattle.pairing.specs.declared.Mate.TheVariants.{Unpaired}
use Rattle.pairing.specs.declared.Link.{Link}
use Rattle.pairing.specs.Table60.{Decoded, HM_same_rec, table60}

-- the link of what a decoding case leaves
abbrev pub link_of : Decoded → Link
link_of d = record { first = d.read1_first; split = d.split_mate; segments = d.number_of_record_segments; mate = d.mate }

-- what the steps of a decoding case come to: a link and the state after its symbols, or a refusal
abbrev pub paired : Came Decoded → OrRefused (Link × State)
paired (came d next) = Ok (link_of d, next)
paired (stopped n) = Err n

-- the pair's steps of a record: one template segment (a unit has 1 or 2) takes nothing and keeps the page's first two lines, splitMate[0][0] = 0 and read1First = 1; HM takes no code; every other class takes a code from subsequence 0, and its case follows.
-- Where the page differs, document 01 decides: the page lets HM take its value from a template of one segment too (a unit of class HM has two);
-- it steps over a code of 7 or more in silence; and it raises j8,0 after the case, which does not look at it.
unfoldable pub pair_steps : Unit → Steps Decoded
pair_steps unit =
    cond (ltb unit.segments most_segments)
    (sets record { number_of_record_segments = 1; split_mate = 0; read1_first = 1; mate = Unpaired })
    (cond (eqb unit.class class_hm) HM_same_rec
    (takes 0 (λ code. table60 unit.class unit.sequence code)))

-- the pair symbols of the next record of a unit: its link and the state after them, or the first refusal
unfoldable pub pair_of : Unit → List ℕ → List ℕ → State → OrRefused (Link × State)
pair_of unit symbols counts st = paired (decode symbols counts st (pair_steps unit))

-- the pair symbols that it takes, in order
abbrev pub pair_takes : Unit → (symbols : List ℕ) → State → List Took
pair_takes unit symbols st = taken_in symbols st (pair_steps unit)
