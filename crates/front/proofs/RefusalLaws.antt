-- The laws of the refusals of unit, pair and reference lines: each is a number of document 01's table.
-- Assumes nothing.
use mathlib.Core.Path.{◌≡◌, sym, ◌∙◌}
use mathlib.Core.List.{List}
use Prim.Native.Nat.{ℕ, ◌+◌, ◌*◌}
use lib.Dec.{ltb, eqb}
use lib.ListN.{length}
use Rattle.std.specs.Prelude.{Err}
use Rattle.refusal.specs.Answers.{OrRefused}
use Rattle.refusal.specs.Numbers.{number_of, InTable}
use Rattle.refusal.specs.declared.Refusal.{Refusal}
use Rattle.refusal.specs.declared.Refusal.TheVariants.{Malformed, Misframed, UnitOut, CountOut}
use Rattle.refusal.proofs.RefusalLaws.{EarlyRefusal, EarlyAnswer, early, in_table}
use Rattle.frame.specs.Hex.{unhex}
use Rattle.frame.specs.Line.{line_digits}
use Rattle.frame.proofs.Tests.{cond_of, one_of, false_true}
use Rattle.frame.proofs.StepLaws.{by_line, by_field}
use Rattle.unit.specs.Kinds.{kind_unit, kind_pair, kind_reference}
use Rattle.unit.specs.Unit.{most_records, most_reference, class_p, class_u, last_alphabet, most_segments, least_segments}
use Rattle.unit.specs.Pairs.{most_symbols, subsequences, table_length}
use Rattle.unit.specs.declared.Unit.{Unit}
use Rattle.front.specs.UnitLine.{unit_line, unit_class, unit_template, unit_ends}
use Rattle.front.specs.PairLine.{pair_line, pair_count, pair_symbols, symbol_bytes}
use Rattle.front.specs.ReferenceLine.{added_bases, reference_line, most_line_bases}

-- ---- the numbers of refusals

-- of a unit line
abbrev pub UnitLow : OrRefused Unit → Type 0
UnitLow = EarlyAnswer

ends_low : (s : List ℕ) (at class alphabet segments sequence first : ℕ) → UnitLow (unit_ends s at class alphabet segments sequence first)
unfolding unit_ends
ends_low s at class alphabet segments sequence first =
    by_field UnitLow 4 s at Err _ (early Misframed tt)
    (λ start d. by_field UnitLow 4 s d.at Err _ (early Misframed tt)
    (λ end e. one_of UnitLow (ltb end start) _ _ (early UnitOut tt)
    (by_field UnitLow 2 s e.at Err _ (early Misframed tt)
    (λ records f. one_of UnitLow (ltb most_records records) _ _ (early UnitOut tt)
    (one_of UnitLow (ltb f.at (length s)) _ _ (early Misframed tt) tt)))))

template_low : (s : List ℕ) (at class alphabet : ℕ) → UnitLow (unit_template s at class alphabet)
unfolding unit_template
template_low s at class alphabet =
    by_field UnitLow 1 s at Err _ (early Misframed tt)
    (λ segments d. one_of UnitLow (ltb most_segments segments) _ _ (early UnitOut tt)
    (one_of UnitLow (ltb segments (least_segments class)) _ _ (early UnitOut tt)
    (by_field UnitLow 2 s d.at Err _ (early Misframed tt)
    (λ sequence e. by_field UnitLow 4 s e.at Err _ (early Misframed tt)
    (λ first f. ends_low s f.at class alphabet segments sequence first)))))

class_low : (s : List ℕ) (at : ℕ) → UnitLow (unit_class s at)
unfolding unit_class
class_low s at =
    by_field UnitLow 1 s at Err _ (early Misframed tt)
    (λ class d. one_of UnitLow (ltb class class_p) _ _ (early UnitOut tt)
    (one_of UnitLow (ltb class_u class) _ _ (early UnitOut tt)
    (by_field UnitLow 1 s d.at Err _ (early Misframed tt)
    (λ alphabet e. one_of UnitLow (ltb last_alphabet alphabet) _ _ (early UnitOut tt) (template_low s e.at class alphabet)))))

pub unit_low : (line : List ℕ) → UnitLow (unit_line line)
unfolding unit_line
unit_low line =
    by_line UnitLow line_digits line Err _ (early Malformed tt)
    (by_field UnitLow 1 (unhex line) 0 Err _ (early Misframed tt)
    (λ kind c. one_of UnitLow (eqb kind kind_unit) _ _ (class_low (unhex line) c.at) (early Misframed tt)))

-- of a pair line
abbrev pub PairLow : OrRefused ℕ → Type 0
PairLow = EarlyAnswer

symbols_low : (s : List ℕ) (count at : ℕ) → PairLow (pair_symbols s count at)
unfolding pair_symbols
symbols_low s count at =
    one_of PairLow (ltb most_symbols count) _ _ (early CountOut tt)
    (one_of PairLow (eqb (at + symbol_bytes * count) (length s)) _ _ tt (early Misframed tt))

count_low : (line : List ℕ) (number : ℕ) → PairLow (pair_count line number)
unfolding pair_count
count_low line number =
    by_line PairLow line_digits line Err _ (early Malformed tt)
    (by_field PairLow 1 (unhex line) 0 Err _ (early Misframed tt)
    (λ kind c. one_of PairLow (eqb kind kind_pair) _ _
    (by_field PairLow 1 (unhex line) c.at Err _ (early Misframed tt)
    (λ sub d. one_of PairLow (eqb sub number) _ _
    (by_field PairLow 2 (unhex line) d.at Err _ (early Misframed tt) (λ count e. symbols_low (unhex line) count e.at))
    (early Misframed tt)))
    (early Misframed tt)))

pub pair_low : (line : List ℕ) (number places : ℕ) → PairLow (pair_line line number places)
unfolding pair_line
pair_low line number places =
    one_of PairLow (eqb places table_length) _ _
    (one_of PairLow (ltb number subsequences) _ _ (count_low line number) (early Misframed tt))
    (early CountOut tt)

-- of a reference line, where as many places are lent as a reference may have: never 17
abbrev pub ReferenceLow : OrRefused ℕ → Type 0
ReferenceLow = EarlyAnswer

added_low : (n used : ℕ) → ReferenceLow (added_bases n used most_reference)
unfolding added_bases
added_low n used =
    one_of ReferenceLow (ltb n 1) _ _ (early Misframed tt)
    (one_of ReferenceLow (ltb most_line_bases n) _ _ (early Misframed tt)
    (one_of ReferenceLow (ltb most_reference used) _ _ (early Misframed tt)
    (cond_of ReferenceLow (ltb most_reference (used + n)) _ _ (λ t. early Misframed tt)
    (λ t. cond_of ReferenceLow (ltb most_reference (used + n)) _ _ (λ f. false_true (sym t ∙ f)) (λ f. tt)))))

pub reference_low : (line : List ℕ) (used : ℕ) → ReferenceLow (reference_line line used most_reference)
unfolding reference_line
reference_low line used =
    by_line ReferenceLow line_digits line Err _ (early Malformed tt)
    (by_field ReferenceLow 1 (unhex line) 0 Err _ (early Misframed tt)
    (λ kind c. one_of ReferenceLow (eqb kind kind_reference) _ _ (added_low _ used) (early Misframed tt)))

-- ---- what a refused line's number is

pub unit_refusal_lem : (line : List ℕ) (n : Refusal) → unit_line line ≡ Err n → EarlyRefusal n
unit_refusal_lem line n e = rw e at (unit_low line)

pub pair_refusal : (line : List ℕ) (number places : ℕ) (n : Refusal) → pair_line line number places ≡ Err n → EarlyRefusal n
pair_refusal line number places n e = rw e at (pair_low line number places)

pub reference_refusal_lem : (line : List ℕ) (used places : ℕ) (n : Refusal) → reference_line line used places ≡ Err n → InTable (number_of n)
reference_refusal_lem line used places n e = in_table n
