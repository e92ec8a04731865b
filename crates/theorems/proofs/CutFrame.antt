-- A frame whose read list was cut is read as what was cut; a frame whose read list is put in its own place is that frame.
-- Assumes nothing.
use mathlib.Core.Path.{◌≡◌, sym, ap, ◌∙◌}
use mathlib.Core.Bool.{Bool, true}
use mathlib.Core.List.{List, ◌++◌, append_assoc}
use Prim.Native.Nat.{ℕ, ◌+◌}
use native.Mathlib.Omega.{arith}
use lib.ListN.{length, take, drop, length-append}
use lib.Seq.{take_at, drop_at}
use Rattle.wire.specs.declared.ReadSegment.{ReadSegment}
use Rattle.chunk_lists.specs.Parsed.{done}
use Rattle.header.specs.Content.{Content}
use Rattle.reader.specs.Frame.{read_frame}
use Rattle.header.specs.declared.Kind.{Kind}
use Rattle.header.specs.declared.Kind.TheVariants.{Msg, Nomsg, Error}
use Rattle.header.specs.Bytes.{read_list_bytes, write_list_bytes, reply_bytes, fixed_bytes, parts_bytes, rest_bytes, header_bytes}
use Rattle.header.proofs.Bytes.{fixed_length}
use Rattle.layout.specs.Layout.{kind_fits}
use Rattle.wire.specs.Fits.{AllBytes}
use Rattle.theorems.specs.Cuts.{CutOf, cut_frame}
use Rattle.header.proofs.Allowed.{Allowed, BareIfError}
use Rattle.reader.proofs.ReadBack.{header_back}
use Rattle.reader.proofs.FrameRead.{frame_done}
use Rattle.theorems.proofs.Cutting.{with_reads, itself, aligned_cut}

-- The bytes of a frame whose read list was cut.
cut_frame_bytes : (fixed reads rest cut s : List ℕ) → length fixed ≡ 16 → fixed ++ (reads ++ rest) ≡ s → take 16 s ++ (cut ++ drop (16 + length reads) s) ≡ fixed ++ (cut ++ rest)
cut_frame_bytes fixed reads rest cut s n e =
    let front : take 16 s ≡ fixed = ap (take 16) (sym e) ∙ take_at fixed (reads ++ rest) 16 n in
    let long : length (fixed ++ reads) ≡ 16 + length reads = length-append fixed reads ∙ ap (λ (k : ℕ). k + length reads) n in
    let behind : drop (16 + length reads) s ≡ rest = ap (drop (16 + length reads)) (sym e ∙ sym (append_assoc fixed reads rest)) ∙ drop_at (fixed ++ reads) rest (16 + length reads) long in
    rw (front, behind)

module _ (s : List ℕ) (c : Content) (t : List ℕ) (b : AllBytes s) (read : read_frame s ≡ done c t) (atZero : Bool) (fits : kind_fits c.kind atZero ≡ true) where
  parts : (kind : Kind) → kind_fits kind atZero ≡ true → (reads : List ReadSegment) →
      (fixed_bytes kind c.xid c.credit ++ rest_bytes kind (parts_bytes reads c.writes c.reply)) ++ t
      ≡ fixed_bytes kind c.xid c.credit ++ (read_list_bytes reads ++ ((write_list_bytes c.writes ++ reply_bytes c.reply) ++ t))
  parts Msg f reads = simp append_assoc
  parts Nomsg f reads = simp append_assoc
  parts (Error e) f reads = absurd (let n : ◌≡◌ {A = ℕ} 0 1 = cc in omega arith)

  split : (reads : List ReadSegment) → header_bytes (with_reads c reads) ++ t ≡ fixed_bytes c.kind c.xid c.credit ++ (read_list_bytes reads ++ ((write_list_bytes c.writes ++ reply_bytes c.reply) ++ t))
  unfolding header_bytes
  split reads = parts c.kind fits reads

  -- The bytes of the frame with another read list.
  cut_frame_is : (cut : List ReadSegment) → cut_frame s c.reads cut ≡ header_bytes (with_reads c cut) ++ t
  unfolding cut_frame
  cut_frame_is cut =
      let whole = sym (split c.reads) ∙ (frame_done s c t b read).bytes in
      cut_frame_bytes (fixed_bytes c.kind c.xid c.credit) (read_list_bytes c.reads) ((write_list_bytes c.writes ++ reply_bytes c.reply) ++ t) (read_list_bytes cut) s (fixed_length c.kind c.xid c.credit) whole
      ∙ sym (split cut)

  -- A frame cut into itself is the frame, and its read list is a cut of itself.
  pub uncut : cut_frame s c.reads c.reads ≡ s
  uncut = cut_frame_is c.reads ∙ (frame_done s c t b read).bytes

  pub cut_of_itself : CutOf c.reads c.reads
  cut_of_itself = let a = (frame_done s c t b read).allowed in record { cuts = itself c.reads; few = a.reads_limit; fits = a.reads }

  bare : (kind : Kind) → kind_fits kind atZero ≡ true → (d : Content) → BareIfError kind d
  bare Msg f d = tt
  bare Nomsg f d = tt
  bare (Error e) f d = absurd (let n : ◌≡◌ {A = ℕ} 0 1 = cc in omega arith)

  allowed : (cut : List ReadSegment) → CutOf c.reads cut → Allowed (with_reads c cut)
  allowed cut k =
      let a = (frame_done s c t b read).allowed in
      record {
        kind = a.kind;
        xid = a.xid;
        credit = a.credit;
        reads = k.fits;
        reads_limit = k.few;
        aligned = aligned_cut k.cuts a.aligned;
        writes = a.writes;
        chunks_limit = a.chunks_limit;
        writes_limit = a.writes_limit;
        reply = a.reply;
        bare = bare c.kind fits (with_reads c cut);
      }

  pub cut_read : (cut : List ReadSegment) → CutOf c.reads cut → read_frame (cut_frame s c.reads cut) ≡ done (with_reads c cut) t
  cut_read cut k = ap read_frame (cut_frame_is cut) ∙ header_back (with_reads c cut) t (allowed cut k) (frame_done s c t b read).behind
