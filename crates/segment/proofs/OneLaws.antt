-- The laws of a read in one piece: what is refused of it, its bases and its text are those of a read without splices.
-- Assumes nothing.
use Prim.Native.Nat.{ℕ, ◌-◌}
use mathlib.Core.Path.{◌≡◌, refl}
use mathlib.Core.List.{List, [], ◌∷◌}
use native.Mathlib.Omega.{arith}
use native.Mathlib.Nat.{sub-zero}
use borrow.Author.Tests.{le-ltb}
use Rattle.refusal.specs.Answers.{no_refusal, checked}
use Rattle.unit.specs.declared.Unit.{Unit}
use Rattle.state.specs.Listed.{words_at}
use Rattle.edits.specs.Edits.{taken_from, block_edits}
use Rattle.edits.specs.Lengths.{mapped_length}
use Rattle.edits.specs.Pieces.{Piece, straight, pieces_from, less_first}
use Rattle.edits.specs.declared.Block.{Block}
use Rattle.splices.specs.declared.Splices.{Splices}
use Rattle.splices.specs.Located.{positions_from, pieces_in}
use Rattle.ecigar.specs.Ecigar.{ecigar_text}
use Rattle.ecigar.specs.Spliced.{read_text}
use Rattle.tables.proofs.SplicedLaws.{read_one}
use Rattle.bases.specs.Bases.{bases_text}
use Rattle.bases.specs.Spliced.{read_bases}
use Rattle.bases.proofs.SplicedLaws.{one_piece}
use Rattle.pieces.specs.Place.{place_refusal}
use Rattle.pieces.specs.Placed.{piece_out, pieces_refusal}
use Rattle.segment.specs.Code.Whole.{under_matches}

-- the only piece
abbrev pub only_piece : (class alphabet : ℕ) (frame : List ℕ) → Block → (position : ℕ) → Piece
only_piece class alphabet frame b position = record { at = straight position; start = 0; until = mapped_length b.length b.clips; edits = block_edits class alphabet frame b }

pub only_piece_lem : (class alphabet : ℕ) (frame symbols : List ℕ) (b : Block) (s : Splices) (position : ℕ) → s.count ≡ 1 → pieces_in class alphabet frame symbols b s position ≡ only_piece class alphabet frame b position ∷ []
unfolding pieces_in words_at less_first positions_from pieces_from
only_piece_lem class alphabet frame symbols b s position h = rw h refl

-- what is refused of it
pub only_refusal : (u : Unit) (reference frame : List ℕ) (b : Block) (position : ℕ)
    → pieces_refusal u reference 0 (only_piece u.class u.alphabet frame b position ∷ [])
    ≡ checked (checked (place_refusal u.start u.end position (taken_from (mapped_length b.length b.clips) 0 (block_edits u.class u.alphabet frame b))) (under_matches u reference frame position b)) no_refusal
unfolding pieces_refusal piece_out
only_refusal u reference frame b position =
    rw (le-ltb position 0 (omega arith), le-ltb (position - 0) 0 (omega arith), sub-zero position) refl

-- its bases
pub only_bases : (class alphabet : ℕ) (frame reference : List ℕ) (first position : ℕ) (b : Block)
    → read_bases alphabet frame reference first b.soft_at b.clips.left_soft b.clips.right_soft (only_piece class alphabet frame b position ∷ []) ≡ bases_text class alphabet frame reference first position b
only_bases class alphabet frame reference first position b = one_piece class alphabet frame reference first position b (straight position) (sub-zero position)

-- its text
pub only_text : (class alphabet : ℕ) (frame : List ℕ) (b : Block) (position : ℕ) → read_text alphabet b.rcomp b.clips (only_piece class alphabet frame b position ∷ []) ≡ ecigar_text class alphabet frame b
only_text class alphabet frame b position = read_one class alphabet b.rcomp frame b (only_piece class alphabet frame b position) refl refl refl
