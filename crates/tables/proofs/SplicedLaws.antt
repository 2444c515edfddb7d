-- The laws of a read over introns: its text piece by piece, what its operations move, and how long it is.
-- Assumes nothing.
use mathlib.Core.Path.{◌≡◌, refl, sym, ap, ◌∙◌}
use mathlib.Core.Logic.{inl}
use mathlib.Core.List.{List, [], ◌∷◌, ◌++◌, append-nil}
use Prim.Native.Nat.{ℕ, ◌+◌, ◌-◌, ◌*◌, ◌^◌, ◌<◌, ◌≤◌}
use native.Mathlib.Omega.{arith}
use lib.Dec.{lit<}
use lib.ListN.{length, length-append}
use Rattle.frame.specs.Hex.{Bytes}
use Rattle.writing.proofs.DecimalLaws.{digits_wide}
use Rattle.edits.specs.Edits.{Sound, block_edits}
use Rattle.edits.specs.Lengths.{most_read, most_edits, most_pieces, most_ecigar, mapped_length}
use Rattle.edits.specs.Pieces.{SignedPosition, Piece, begins_at, end_of, edits_before, edits_behind, pieces_from, pieces_of, less_first, sum_of, last_length, EachPiece, cons, Spans}
use Rattle.edits.specs.declared.edit.Edit.{Edit}
use Rattle.edits.specs.declared.Clips.{Clips}
use Rattle.edits.specs.declared.Block.{Block}
use Rattle.edits.proofs.PieceLaws.{PieceSound, NoneZero, before_behind, pieces_sound, pieces_span}
use Rattle.ecigar.specs.Table90.{star_sign, slash_sign, percent_sign, print, print_all, moves_read, moves_reference, total, Positive, AllPositive}
use Rattle.ecigar.specs.Ecigar.{set_out_at, left_clip, right_clip, clips_length, block_operations, ecigar_text}
use Rattle.ecigar.specs.Spliced.{splice_of, splice_length, piece_operations, splices_from, pieces_operations, read_operations, read_text, ClipsLeave, Apart, last_piece, pieces_edits}
use Rattle.ecigar.proofs.PrintLaws.{printed_append}
use Rattle.ecigar.proofs.LengthLaws.{piece_most, ClipsFit, clips_most}
use Rattle.ecigar.proofs.SpliceLaws.{splice_by, length_splice}
use Rattle.tables.proofs.OperationLaws.{positive_append, positive_from, positive_clip, total_append, clip_read, clip_reference, piece_read, piece_reference}
use Rattle.tables.proofs.BytesLaws.{Prints, bytes_counted, no_prints, one_prints, both_print, operations_print, clip_prints}

-- ---- the text, part by part

pub read_parts : (alphabet rcomp : ℕ) (clips : Clips) (ps : List Piece)
    → read_text alphabet rcomp clips ps ≡ print_all (left_clip clips) ++ print_all (pieces_operations alphabet rcomp ps) ++ print_all (right_clip clips)
unfolding read_text read_operations
read_parts alphabet rcomp clips ps =
    let os = pieces_operations alphabet rcomp ps in rw (printed_append (left_clip clips ++ os) (right_clip clips), printed_append (left_clip clips) os)

pub pieces_none : (alphabet rcomp : ℕ) → print_all (pieces_operations alphabet rcomp []) ≡ []
unfolding pieces_operations print_all
pieces_none alphabet rcomp = refl

pub splices_none : (alphabet rcomp end : ℕ) → print_all (splices_from alphabet rcomp end []) ≡ []
unfolding splices_from print_all
splices_none alphabet rcomp end = refl

pub pieces_parts : (alphabet rcomp : ℕ) (p : Piece) (ps : List Piece)
    → print_all (pieces_operations alphabet rcomp (p ∷ ps)) ≡ print_all (piece_operations alphabet p) ++ print_all (splices_from alphabet rcomp (end_of p) ps)
unfolding pieces_operations
pieces_parts alphabet rcomp p ps = printed_append (piece_operations alphabet p) (splices_from alphabet rcomp (end_of p) ps)

pub splices_parts : (alphabet rcomp end : ℕ) (p : Piece) (ps : List Piece)
    → print_all (splices_from alphabet rcomp end (p ∷ ps))
    ≡ print_all (splice_of rcomp (begins_at p - end) ∷ []) ++ print_all (piece_operations alphabet p) ++ print_all (splices_from alphabet rcomp (end_of p) ps)
unfolding splices_from
splices_parts alphabet rcomp end p ps =
    let splice = splice_of rcomp (begins_at p - end) ∷ [] in
    let os = piece_operations alphabet p in
    printed_append (splice ++ os) (splices_from alphabet rcomp (end_of p) ps) ∙ rw (printed_append splice os)

pub length_read : (alphabet rcomp : ℕ) (clips : Clips) (ps : List Piece) → length (read_text alphabet rcomp clips ps) ≡ length (print_all (pieces_operations alphabet rcomp ps)) + clips_length clips
unfolding clips_length
length_read alphabet rcomp clips ps = rw (read_parts alphabet rcomp clips ps, length-append, length-append) (omega arith)

pub length_pieces : (alphabet rcomp : ℕ) (p : Piece) (ps : List Piece)
    → length (print_all (pieces_operations alphabet rcomp (p ∷ ps))) ≡ length (print_all (piece_operations alphabet p)) + length (print_all (splices_from alphabet rcomp (end_of p) ps))
length_pieces alphabet rcomp p ps = rw (pieces_parts alphabet rcomp p ps, length-append)

pub length_splices : (alphabet rcomp end : ℕ) (p : Piece) (ps : List Piece)
    → length (print_all (splices_from alphabet rcomp end (p ∷ ps)))
    ≡ splice_length (begins_at p - end) + length (print_all (piece_operations alphabet p)) + length (print_all (splices_from alphabet rcomp (end_of p) ps))
length_splices alphabet rcomp end p ps = rw (splices_parts alphabet rcomp end p ps, length-append, length-append, length_splice rcomp (begins_at p - end))

-- ---- a read in one piece has the operations, and so the text, that it has without splices

module _ (class alphabet rcomp : ℕ) (frame : List ℕ) (s : Block) (p : Piece) (first : p.start ≡ 0) (last : p.until ≡ mapped_length s.length s.clips)
    (own : p.edits ≡ block_edits class alphabet frame s) where
  pub operations_one : read_operations alphabet rcomp s.clips (p ∷ []) ≡ block_operations class alphabet frame s
  unfolding read_operations pieces_operations splices_from block_operations
  operations_one = rw (append-nil (piece_operations alphabet p), first, last, own)

  pub read_one : read_text alphabet rcomp s.clips (p ∷ []) ≡ ecigar_text class alphabet frame s
  unfolding read_text ecigar_text
  read_one = ap print_all operations_one

-- ---- the pieces of a read, whose lengths come to its mapped bases and its clips

clipped_some : (leftSoft rightSoft : ℕ) (lengths : List ℕ) → NoneZero lengths → ClipsLeave leftSoft rightSoft lengths → NoneZero (less_first leftSoft lengths)
unfolding NoneZero ClipsLeave less_first
clipped_some leftSoft rightSoft [] z c = absurd c
clipped_some leftSoft rightSoft (n ∷ []) z c = (omega arith, tt)
clipped_some leftSoft rightSoft (n ∷ m ∷ ns) z c = (omega (arith, c.0), z.1)

pub clipped_sum : (mapped leftSoft rightSoft : ℕ) (lengths : List ℕ) → sum_of lengths ≡ leftSoft + mapped + rightSoft → ClipsLeave leftSoft rightSoft lengths
    → sum_of (less_first leftSoft lengths) ≡ mapped + rightSoft
unfolding sum_of ClipsLeave less_first
clipped_sum mapped leftSoft rightSoft [] q c = absurd c
clipped_sum mapped leftSoft rightSoft (n ∷ []) q c = omega arith
clipped_sum mapped leftSoft rightSoft (n ∷ m ∷ ns) q c = omega (arith, c.0)

clipped_last : (leftSoft rightSoft : ℕ) (lengths : List ℕ) → ClipsLeave leftSoft rightSoft lengths → rightSoft < last_length (less_first leftSoft lengths)
unfolding last_length ClipsLeave less_first
clipped_last leftSoft rightSoft [] c = absurd c
clipped_last leftSoft rightSoft (n ∷ []) c = omega arith
clipped_last leftSoft rightSoft (n ∷ m ∷ ns) c = c.1

pub clipped_length : (leftSoft : ℕ) (lengths : List ℕ) → length (less_first leftSoft lengths) ≡ length lengths
unfolding less_first
clipped_length leftSoft [] = refl
clipped_length leftSoft (n ∷ ns) = refl

pub clipped_any : (leftSoft rightSoft : ℕ) (lengths : List ℕ) → ClipsLeave leftSoft rightSoft lengths → 0 < length (less_first leftSoft lengths)
unfolding ClipsLeave less_first
clipped_any leftSoft rightSoft [] c = absurd c
clipped_any leftSoft rightSoft (n ∷ ns) c = omega arith

pub pieces_of_sound : (mapped symbols leftSoft rightSoft : ℕ) (es : List Edit) (lengths : List ℕ) (positions : List SignedPosition) → NoneZero lengths
    → sum_of lengths ≡ leftSoft + mapped + rightSoft → ClipsLeave leftSoft rightSoft lengths → Sound mapped symbols 0 es
    → EachPiece (PieceSound symbols) (pieces_of mapped leftSoft es lengths positions)
pieces_of_sound mapped symbols leftSoft rightSoft es lengths positions some sum clips sound =
    pieces_sound mapped symbols rightSoft 0 es (less_first leftSoft lengths) positions (clipped_some leftSoft rightSoft lengths some clips)
    (omega (arith, clipped_sum mapped leftSoft rightSoft lengths sum clips)) (clipped_last leftSoft rightSoft lengths clips) sound

pub pieces_of_span : (mapped leftSoft rightSoft : ℕ) (es : List Edit) (lengths : List ℕ) (positions : List SignedPosition) → ClipsLeave leftSoft rightSoft lengths
    → length positions ≡ length lengths → Spans 0 (pieces_of mapped leftSoft es lengths positions) mapped
pieces_of_span mapped leftSoft rightSoft es lengths positions clips many =
    pieces_span mapped 0 es (less_first leftSoft lengths) positions (clipped_any leftSoft rightSoft lengths clips) (many ∙ sym (clipped_length leftSoft lengths))

-- ---- no count is 0

splices_positive : (alphabet rcomp end : ℕ) (ps : List Piece) → Apart end ps → AllPositive (splices_from alphabet rcomp end ps)
unfolding splices_from Apart AllPositive
splices_positive alphabet rcomp end [] a = tt
splices_positive alphabet rcomp end (p ∷ ps) a =
    let n = begins_at p - end in
    let some : 1 ≤ n = omega (arith, a.0) in
    positive_append (splice_of rcomp n ∷ [] ++ piece_operations alphabet p) (splices_from alphabet rcomp (end_of p) ps)
    (splice_by Positive rcomp n some some some, positive_from alphabet p.until (set_out_at p.start) p.edits (inl refl))
    (splices_positive alphabet rcomp (end_of p) ps a.1)

pub pieces_positive : (alphabet rcomp : ℕ) (p : Piece) (ps : List Piece) → Apart (end_of p) ps → AllPositive (pieces_operations alphabet rcomp (p ∷ ps))
unfolding pieces_operations
pieces_positive alphabet rcomp p ps a =
    positive_append (piece_operations alphabet p) (splices_from alphabet rcomp (end_of p) ps)
    (positive_from alphabet p.until (set_out_at p.start) p.edits (inl refl))
    (splices_positive alphabet rcomp (end_of p) ps a)

pub read_positive : (alphabet rcomp : ℕ) (clips : Clips) (p : Piece) (ps : List Piece) → Apart (end_of p) ps → AllPositive (read_operations alphabet rcomp clips (p ∷ ps))
unfolding read_operations
read_positive alphabet rcomp clips p ps a =
    let os = pieces_operations alphabet rcomp (p ∷ ps) in
    positive_append (left_clip clips ++ os) (right_clip clips)
    (positive_append (left_clip clips) os (positive_clip clips.left_soft clips.left_hard) (pieces_positive alphabet rcomp p ps a))
    (positive_clip clips.right_soft clips.right_hard)

-- ---- pointer r: the mapped bases, with the soft clips the read

splice_read : (rcomp n : ℕ) → moves_read (splice_of rcomp n) ≡ 0
splice_read rcomp n = splice_by (λ o. moves_read o ≡ 0) rcomp n refl refl refl

splices_read : (alphabet rcomp symbols end from to : ℕ) (ps : List Piece) → Spans from ps to → EachPiece (PieceSound symbols) ps → from + total moves_read (splices_from alphabet rcomp end ps) ≡ to
unfolding splices_from Spans total
splices_read alphabet rcomp symbols end from to [] s a = omega arith
splices_read alphabet rcomp symbols end from to (p ∷ ps) s (cons _ b a) =
    omega (
      arith,
      s.0,
      b.base,
      splice_read rcomp (begins_at p - end),
      piece_read alphabet p.start p.until symbols p.edits b.sound,
      total_append moves_read (piece_operations alphabet p) (splices_from alphabet rcomp (end_of p) ps),
      splices_read alphabet rcomp symbols (end_of p) p.until to ps s.1 a,
    )

pub pieces_read : (alphabet rcomp symbols from to : ℕ) (ps : List Piece) → Spans from ps to → EachPiece (PieceSound symbols) ps → total moves_read (pieces_operations alphabet rcomp ps) ≡ to - from
unfolding pieces_operations Spans total
pieces_read alphabet rcomp symbols from to [] s a = omega arith
pieces_read alphabet rcomp symbols from to (p ∷ ps) s (cons _ b a) =
    omega (
      arith,
      s.0,
      b.base,
      piece_read alphabet p.start p.until symbols p.edits b.sound,
      total_append moves_read (piece_operations alphabet p) (splices_from alphabet rcomp (end_of p) ps),
      splices_read alphabet rcomp symbols (end_of p) p.until to ps s.1 a,
    )

pub read_read : (alphabet rcomp symbols from to : ℕ) (clips : Clips) (ps : List Piece) → Spans from ps to → EachPiece (PieceSound symbols) ps
    → total moves_read (read_operations alphabet rcomp clips ps) ≡ clips.left_soft + clips.right_soft + (to - from)
unfolding read_operations
read_read alphabet rcomp symbols from to clips ps s a =
    let os = pieces_operations alphabet rcomp ps in
    omega (
      arith,
      total_append moves_read (left_clip clips ++ os) (right_clip clips),
      total_append moves_read (left_clip clips) os,
      clip_read clips.left_soft clips.left_hard,
      clip_read clips.right_soft clips.right_hard,
      pieces_read alphabet rcomp symbols from to ps s a,
    )

-- ---- pointer R: from where the first piece begins to where the last ends

splice_reference : (rcomp n : ℕ) → moves_reference (splice_of rcomp n) ≡ n
splice_reference rcomp n = splice_by (λ o. moves_reference o ≡ n) rcomp n refl refl refl

splices_reference : (alphabet rcomp symbols : ℕ) (q : Piece) (ps : List Piece) → Apart (end_of q) ps → EachPiece (PieceSound symbols) ps
    → end_of q + total moves_reference (splices_from alphabet rcomp (end_of q) ps) ≡ end_of (last_piece q ps)
unfolding splices_from Apart last_piece total
splices_reference alphabet rcomp symbols q [] s a = omega arith
splices_reference alphabet rcomp symbols q (p ∷ ps) s (cons _ b a) =
    omega (
      arith,
      s.0,
      splice_reference rcomp (begins_at p - end_of q),
      piece_reference alphabet p.start p.until symbols p.edits b.sound,
      total_append moves_reference (piece_operations alphabet p) (splices_from alphabet rcomp (end_of p) ps),
      splices_reference alphabet rcomp symbols p ps s.1 a,
    )

pub pieces_reference : (alphabet rcomp symbols : ℕ) (p : Piece) (ps : List Piece) → Apart (end_of p) ps → EachPiece (PieceSound symbols) (p ∷ ps)
    → begins_at p + total moves_reference (pieces_operations alphabet rcomp (p ∷ ps)) ≡ end_of (last_piece p ps)
unfolding pieces_operations
pieces_reference alphabet rcomp symbols p ps s (cons _ b a) =
    omega (
      arith,
      piece_reference alphabet p.start p.until symbols p.edits b.sound,
      total_append moves_reference (piece_operations alphabet p) (splices_from alphabet rcomp (end_of p) ps),
      splices_reference alphabet rcomp symbols p ps s a,
    )

pub read_reference_lem : (alphabet rcomp symbols : ℕ) (clips : Clips) (p : Piece) (ps : List Piece) → Apart (end_of p) ps → EachPiece (PieceSound symbols) (p ∷ ps)
    → begins_at p + total moves_reference (read_operations alphabet rcomp clips (p ∷ ps)) ≡ end_of (last_piece p ps)
unfolding read_operations
read_reference_lem alphabet rcomp symbols clips p ps s a =
    let os = pieces_operations alphabet rcomp (p ∷ ps) in
    omega (
      arith,
      total_append moves_reference (left_clip clips ++ os) (right_clip clips),
      total_append moves_reference (left_clip clips) os,
      clip_reference clips.left_soft clips.left_hard,
      clip_reference clips.right_soft clips.right_hard,
      pieces_reference alphabet rcomp symbols p ps s a,
    )

-- ---- its bytes

splice_prints : (rcomp n : ℕ) → Prints (splice_of rcomp n ∷ [])
splice_prints rcomp n =
    one_prints (splice_of rcomp n)
    (splice_by (λ o. Bytes (print o)) rcomp n (bytes_counted n slash_sign (lit< tt)) (bytes_counted n percent_sign (lit< tt)) (bytes_counted n star_sign (lit< tt)))

splices_print : (alphabet rcomp end : ℕ) (ps : List Piece) → Prints (splices_from alphabet rcomp end ps)
unfolding splices_from
splices_print alphabet rcomp end [] = no_prints
splices_print alphabet rcomp end (p ∷ ps) =
    let splice = splice_of rcomp (begins_at p - end) ∷ [] in
    let os = piece_operations alphabet p in
    both_print (splice ++ os) _ (both_print splice os (splice_prints rcomp (begins_at p - end)) (operations_print alphabet p.until (set_out_at p.start) p.edits))
    (splices_print alphabet rcomp (end_of p) ps)

pieces_print : (alphabet rcomp : ℕ) (ps : List Piece) → Prints (pieces_operations alphabet rcomp ps)
unfolding pieces_operations
pieces_print alphabet rcomp [] = no_prints
pieces_print alphabet rcomp (p ∷ ps) =
    both_print (piece_operations alphabet p) _ (operations_print alphabet p.until (set_out_at p.start) p.edits) (splices_print alphabet rcomp (end_of p) ps)

pub bytes_read_text : (alphabet rcomp : ℕ) (clips : Clips) (ps : List Piece) → Bytes (read_text alphabet rcomp clips ps)
unfolding read_text read_operations
bytes_read_text alphabet rcomp clips ps =
    let os = pieces_operations alphabet rcomp ps in
    both_print (left_clip clips ++ os) _ (both_print (left_clip clips) os (clip_prints _ _) (pieces_print alphabet rcomp ps)) (clip_prints _ _)

-- ---- how long the text is: two characters for each mapped base and each edit, and eleven for each splice

-- a position of 32 bits
abbrev pub PositionFits : Piece → Type 0
PositionFits p = begins_at p < 2 ^ 32

splices_most : (alphabet rcomp symbols end from to : ℕ) (ps : List Piece) → Spans from ps to → EachPiece (PieceSound symbols) ps → EachPiece PositionFits ps
    → length (print_all (splices_from alphabet rcomp end ps)) + 2 * from ≤ 2 * to + 2 * pieces_edits ps + 11 * length ps
unfolding Spans pieces_edits splices_from print_all
splices_most alphabet rcomp symbols end from to [] s a f = omega arith
splices_most alphabet rcomp symbols end from to (p ∷ ps) s (cons _ b a) (cons _ g f) =
    omega (
      arith,
      s.0,
      b.base,
      length_splices alphabet rcomp end p ps,
      digits_wide (begins_at p - end) (omega arith),
      piece_most alphabet p.start p.until symbols p.edits (omega (arith, b.base)) b.sound,
      splices_most alphabet rcomp symbols (end_of p) p.until to ps s.1 a f,
    )

pub pieces_most : (alphabet rcomp symbols from to : ℕ) (ps : List Piece) → Spans from ps to → EachPiece (PieceSound symbols) ps → EachPiece PositionFits ps
    → length (print_all (pieces_operations alphabet rcomp ps)) ≤ 2 * (to - from) + 2 * pieces_edits ps + 11 * (length ps - 1)
unfolding Spans pieces_edits pieces_operations print_all
pieces_most alphabet rcomp symbols from to [] s a f = omega arith
pieces_most alphabet rcomp symbols from to (p ∷ ps) s (cons _ b a) (cons _ g f) =
    omega (
      arith,
      s.0,
      b.base,
      length_pieces alphabet rcomp p ps,
      piece_most alphabet p.start p.until symbols p.edits (omega (arith, b.base)) b.sound,
      splices_most alphabet rcomp symbols (end_of p) p.until to ps s.1 a f,
    )

pub read_most : (alphabet rcomp symbols from to : ℕ) (clips : Clips) (ps : List Piece) → Spans from ps to → EachPiece (PieceSound symbols) ps → EachPiece PositionFits ps → ClipsFit clips
    → length (read_text alphabet rcomp clips ps) ≤ 2 * (to - from) + 2 * pieces_edits ps + 11 * (length ps - 1) + 14
read_most alphabet rcomp symbols from to clips ps s a f c =
    omega (arith, length_read alphabet rcomp clips ps, clips_most clips c, pieces_most alphabet rcomp symbols from to ps s a f)

-- no E-CIGAR of at most 16 pieces is longer than 4,179 characters (document 02, Wish 1)
pub read_within : (alphabet rcomp symbols from to : ℕ) (clips : Clips) (ps : List Piece) → Spans from ps to → EachPiece (PieceSound symbols) ps → EachPiece PositionFits ps → ClipsFit clips
    → length ps ≤ most_pieces → to - from ≤ most_read → pieces_edits ps ≤ most_edits → length (read_text alphabet rcomp clips ps) ≤ most_ecigar
read_within alphabet rcomp symbols from to clips ps s a f c few short edits = omega (arith, read_most alphabet rcomp symbols from to clips ps s a f c)

-- the pieces of a read have no more edits than the read
pub pieces_edits_lem : (mapped start : ℕ) (es : List Edit) (lengths : List ℕ) (positions : List SignedPosition) → pieces_edits (pieces_from mapped start es lengths positions) ≤ length es
unfolding pieces_from pieces_edits
pieces_edits_lem mapped start es [] ps = omega arith
pieces_edits_lem mapped start es (n ∷ ns) [] = omega arith
pieces_edits_lem mapped start es (n ∷ []) (p ∷ ps) = omega arith
pieces_edits_lem mapped start es (n ∷ m ∷ ns) (p ∷ ps) =
    omega (
      arith,
      ap length (before_behind (start + n) es),
      length-append (edits_before (start + n) es) (edits_behind (start + n) es),
      pieces_edits_lem mapped (start + n) (edits_behind (start + n) es) (m ∷ ns) ps,
    )
