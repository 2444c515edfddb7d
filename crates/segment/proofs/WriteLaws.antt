-- The laws of writing a segment: the text that is laid is Table 94's, and letters are laid between two places.
-- Assumes nothing.
use mathlib.Core.Path.{◌≡◌, refl, sym, ap, ◌∙◌}
use mathlib.Core.List.{List, [], ◌∷◌, ◌++◌}
use Prim.Native.Nat.{ℕ, ◌+◌, ◌-◌, ◌*◌, ◌/◌, ◌%◌, ◌^◌, ◌<◌, ◌≤◌}
use native.Mathlib.Omega.{arith}
use native.Mathlib.Nat.{sub-zero}
use lib.ListN.{length}
use Rattle.frame.specs.Hex.{be}
use Rattle.writing.specs.Lay.{Laid}
use Rattle.writing.proofs.LayLaws.{length_laid}
use Rattle.unit.specs.declared.Unit.{Unit}
use Rattle.ecigar.specs.Table90.{print_all}
use Rattle.ecigar.specs.Ecigar.{ecigar_text, left_clip, right_clip}
use Rattle.ecigar.specs.Spliced.{read_text}
use Rattle.tables.proofs.SplicedLaws.{read_parts}
use Rattle.bases.specs.Bases.{letters_at, bases_text}
use Rattle.bases.specs.Spliced.{pieces_bases, read_bases}
use Rattle.pieces.specs.Code.Checked.{operations_behind}
use Rattle.edits.specs.Pieces.{SignedPosition, position_of, begins_at}
use Rattle.pieces.proofs.WalkingLaws.{each_first}
use Rattle.pieces.proofs.WriteLaws.{behind_is_pieces}
use Rattle.segment.proofs.PlacedLaws.{begins}
use Rattle.segment.specs.Segment.{pieces_at, bases_listed, table94}
use Rattle.segment.proofs.OneLaws.{only_piece_lem, only_bases, only_text}
use Rattle.segment.proofs.PiecedLaws.{text_is_table94}
use Rattle.segment.specs.Code.Ready.{ReadyAligned}
use Rattle.segment.specs.declared.Placed.{Placed}

pub ready_text : {u : Unit} {symbols frame : List ℕ} {p : Placed} → ReadyAligned u symbols frame p → read_text u.alphabet p.block.rcomp p.block.clips (pieces_at u symbols frame p) ≡ table94 u symbols frame p
ready_text {u} {symbols} {frame} {p} r = text_is_table94 u symbols frame p r.class r.pieced

-- of one piece it is the text of a read without splices
pub ready_one_text : {u : Unit} {symbols frame : List ℕ} {p : Placed} → ReadyAligned u symbols frame p → p.splices.count ≡ 1 → ecigar_text u.class u.alphabet frame p.block ≡ table94 u symbols frame p
ready_one_text {u} {symbols} {frame} {p} r h =
    sym (only_text u.class u.alphabet frame p.block p.position)
    ∙ ap (read_text u.alphabet p.block.rcomp p.block.clips) (sym (only_piece_lem u.class u.alphabet frame symbols p.block p.splices p.position h))
    ∙ ready_text r

-- and its bases are those of a read without splices
pub ready_one_bases : (u : Unit) (reference symbols frame : List ℕ) (p : Placed) → p.splices.count ≡ 1 → bases_text u.class u.alphabet frame reference u.first p.position p.block ≡ bases_listed u reference symbols frame p
ready_one_bases u reference symbols frame p h =
    sym (only_bases u.class u.alphabet frame reference u.first p.position p.block)
    ∙ ap (read_bases u.alphabet frame reference u.first p.block.soft_at p.block.clips.left_soft p.block.clips.right_soft) (sym (only_piece_lem u.class u.alphabet frame symbols p.block p.splices p.position h))

-- behind what is laid there is room for the next piece of the whole
pub room_for_next : {a b : List ℕ} {at p whole : ℕ} {xs : List ℕ} (n : ℕ) → Laid a b at p xs → at + 2 * whole ≤ length a → length xs + n ≤ whole → p + 2 * n ≤ length b
room_for_next n f h k = omega (arith, f.to, length_laid f)

-- position, rcomp and read length, byte by byte
pub head_bytes_lem : (position rcomp bases : ℕ)
    → (position / 16777216 % 256) ∷ (position / 65536 % 256) ∷ (position / 256 % 256) ∷ (position % 256) ∷ (rcomp % 256) ∷ (bases / 256 % 256) ∷ (bases % 256) ∷ []
    ≡ be 4 position ++ be 1 rcomp ++ be 2 bases
unfolding be
head_bytes_lem position rcomp bases =
    let p : position % 256 ≡ position / 1 % 256 = omega arith in
    let r : rcomp % 256 ≡ rcomp / 1 % 256 = omega arith in
    let b : bases % 256 ≡ bases / 1 % 256 = omega arith in
    cc

-- from a place on, so many
pub so_many : (at n : ℕ) → at + n - at ≡ n
so_many at n = omega arith

-- its position fits 32 bits: its first piece stands there
pub ready_position : {u : Unit} {symbols frame : List ℕ} {p : Placed} → ReadyAligned u symbols frame p → p.position < 2 ^ 33
ready_position {u} {symbols} {frame} {p} r =
    let b = begins u.class u.alphabet frame symbols p.block p.splices p.position r.pieced.least in
    let s = each_first (rw b.are at r.standing) in
    let at : begins_at b.piece ≡ p.position = ap (λ (x : SignedPosition). position_of x) b.at_is ∙ sub-zero p.position in
    omega (arith, s.1)

-- ---- a read over introns, part by part

-- its bases: the letters between two places, those of its pieces, and the letters between two places again
pub read_parts_as : (u : Unit) (reference symbols frame : List ℕ) (p : Placed)
    → (letters_at u.alphabet frame p.block.soft_at (p.block.soft_at + p.block.clips.left_soft - p.block.soft_at) ++ pieces_bases u.alphabet reference u.first (pieces_at u symbols frame p))
    ++ letters_at u.alphabet frame (p.block.soft_at + p.block.clips.left_soft) (p.block.soft_at + p.block.clips.left_soft + p.block.clips.right_soft - (p.block.soft_at + p.block.clips.left_soft))
    ≡ bases_listed u reference symbols frame p
unfolding read_bases
read_parts_as u reference symbols frame p =
    rw (so_many p.block.soft_at p.block.clips.left_soft, so_many (p.block.soft_at + p.block.clips.left_soft) p.block.clips.right_soft) refl

-- its text: the left clip, the pieces with their splices, the right clip
pub text_parts_as : (u : Unit) (symbols frame : List ℕ) (p : Placed) → ReadyAligned u symbols frame p
    → (print_all (left_clip p.block.clips) ++ print_all (operations_behind u.alphabet p.block.rcomp 0 (pieces_at u symbols frame p))) ++ print_all (right_clip p.block.clips) ≡ table94 u symbols frame p
text_parts_as u symbols frame p r =
    rw (behind_is_pieces u.alphabet p.block.rcomp (pieces_at u symbols frame p)) (sym (read_parts u.alphabet p.block.rcomp p.block.clips (pieces_at u symbols frame p)))
    ∙ ready_text r
