-- Several calls on one line or on a desk, one after another.
use Rattle.std.proofs.Common.{◌≡◌, ℕ, ◌+◌, ◌-◌, ◌<◌, ◌≤◌, List, ◌++◌, length, take, drop, Ok, Err, refl, sym, ◌∙◌, ap, subst, arith, length-take, length-drop}
use Rattle.std.proofs.Common.{take-add}
use Rattle.std.specs.Io.KnownBytes.{Consumes, Appends}
use Rattle.std.proofs.KnownBytes.{Consumes-nil, Consumes-trans, Consumes-kept, Appends-nil, Appends-trans}
use borrow.Rule.Slice.PartMut.{put_mid, post_of}
use Rattle.std.proofs.lemmas.List.{take-append-le, take_all}
use Rattle.std.proofs.Math.Seq.{take-append-add, take-append_seam}
use Rattle.std.proofs.lemmas.Grind.{common_steps}
use Rattle.trau_io.specs.declared.line.Side.{Side}
use Rattle.trau_io.specs.declared.line.Failed.{Failed}
use Rattle.trau_io.specs.declared.transfer.Filled.TheVariants as filled
use Rattle.trau_io.specs.Lines.{LineState, Reads, Writes, OthersStay, Rose}
use Rattle.trau_io.specs.Transfer.{ReadsBlock}
use Rattle.trau_io.specs.Desks.{DeskState, DeskWrites}

pub others_more : (a b c : ℕ → Side → LineState) (call : ℕ) (side : Side) → OthersStay a b call side → OthersStay b c call side → OthersStay a c call side
others_more a b c call side first second = λ k s ne. second k s ne ∙ first k s ne

-- what successful reads have done so far
pub record Filled (before now : LineState) (n : ℕ) (block : List ℕ) : Type 0 where
  pub bound : n ≤ length block
  pub consumed : Consumes before.to_come now.to_come (take n block)
  pub written : now.written ≡ before.written
  pub faults : now.faults ≡ before.faults

pub filled_none : (s : LineState) (block : List ℕ) → Filled s s 0 block
filled_none s block = record { bound = omega arith; consumed = Consumes-nil s.to_come; written = refl; faults = refl }

pub length_filled : (n : ℕ) (block piece : List ℕ) → n ≤ length block → length piece ≡ length block - n → length (put_mid n (length block - n) block piece)
    ≡ length block
length_filled n block piece bound fits = grind (arith, common_steps)

-- the front of a block in which a piece was put behind n octets
pub front_filled : (n : ℕ) (block piece : List ℕ) → n ≤ length block → take n (put_mid n (length block - n) block piece) ≡ take n block
front_filled n block piece bound =
    let front : length (take n block) ≡ n = simp length-take (omega arith) in
    let rest = piece ++ post_of n (length block - n) block in
    subst (λ m. take m (take n block ++ rest) ≡ take n block) front (take-append_seam (take n block) rest)

pub take_filled : (n k : ℕ) (block piece : List ℕ) → n ≤ length block → k ≤ length piece → take (n + k) (put_mid n (length block - n) block piece)
    ≡ take n block ++ take k piece
take_filled n k block piece bound part =
    let rest = piece ++ post_of n (length block - n) block in
    let front : length (take n block) ≡ n = simp length-take (omega arith) in
    let count : n + k ≡ length (take n block) + k = omega arith in
    ap (λ m. take m (take n block ++ rest)) count ∙ take-append-add (take n block) rest k
    ∙ ap (λ l. take n block ++ l) (take-append-le k piece (post_of n (length block - n) block) part)

pub filled_more : (before mid now : LineState) (n k : ℕ) (block piece : List ℕ) → Filled before mid n block → Reads mid now (Ok k) piece → length piece
    ≡ length block - n → Filled before now (n + k) (put_mid n (length block - n) block piece)
filled_more before mid now n k block piece so_far reads fits =
    let long : length (put_mid n (length block - n) block piece) ≡ length block = length_filled n block piece so_far.bound fits in
    let part : k ≤ length piece = reads.bound.0 in
    record {
      bound = omega (arith, long, part, fits, so_far.bound);
      consumed = rw (take_filled n k block piece so_far.bound part) (Consumes-trans _ _ _ _ _ so_far.consumed reads.to_come.0);
      written = reads.written ∙ so_far.written;
      faults = reads.cause.ok ∙ so_far.faults;
    }

-- the block is full
pub filled_all : (before now : LineState) (n : ℕ) (block : List ℕ) → Filled before now n block → length block ≤ n → ReadsBlock before now filled.Whole block
filled_all before now n block so_far full = record {
  given = subst (Consumes before.to_come now.to_come) (take_all n block full) so_far.consumed;
  stopped = so_far.faults;
  written = so_far.written;
  later = omega (arith, so_far.faults);
}

module _ (before mid now : LineState) (n : ℕ) (block piece : List ℕ) (so_far : Filled before mid n block) (room : n < length block)
    (fits : length piece ≡ length block - n) where
  long : length (put_mid n (length block - n) block piece) ≡ length block
  long = length_filled n block piece so_far.bound fits

  -- the line ended
  pub filled_ended : (k : ℕ) → Reads mid now (Ok k) piece → k ≡ 0 → ReadsBlock before now (filled.Ended n) (put_mid n (length block - n) block piece)
  filled_ended k reads none =
      let more = filled_more before mid now n k block piece so_far reads fits in
      let same : n + k ≡ n = omega arith in record {
        given = subst (λ m. Consumes before.to_come now.to_come (take m (put_mid n (length block - n) block piece))) same more.consumed;
        stopped = (omega (arith, long), reads.to_come.1 none (omega arith), more.faults);
        written = more.written;
        later = omega (arith, more.faults);
      }

  -- it failed
  pub filled_failed : (e : Failed) → Reads mid now (Err e) piece → ReadsBlock before now (filled.Failed n) (put_mid n (length block - n) block piece)
  filled_failed e reads = record {
    given = rw (front_filled n block piece so_far.bound) (Consumes-kept _ _ _ _ so_far.consumed reads.to_come);
    stopped = (omega (arith, long), subst (λ f. Rose f now.faults) so_far.faults reads.cause.failed);
    written = reads.written ∙ so_far.written;
    later = omega (arith, so_far.faults, reads.cause.later);
  }

-- what successful writes have done so far: the first n octets stand
pub record Sent (before now : LineState) (n : ℕ) (bytes : List ℕ) : Type 0 where
  pub bound : n ≤ length bytes
  pub written : Appends before.written now.written (take n bytes)
  pub to_come : now.to_come ≡ before.to_come
  pub faults : now.faults ≡ before.faults

take_on : (n k : ℕ) (bytes piece : List ℕ) → piece ≡ drop n bytes → take (n + k) bytes ≡ take n bytes ++ take k piece
take_on n k bytes piece is = take-add n k bytes ∙ ap (λ l. take n bytes ++ take k l) (sym is)

pub sent_more : (before mid now : LineState) (n k : ℕ) (bytes piece : List ℕ) → Sent before mid n bytes → Writes mid now (Ok k) piece → piece ≡ drop n bytes →
    Sent before now (n + k) bytes
sent_more before mid now n k bytes piece so_far writes is = record {
  bound = omega (arith, writes.bound, ap length is, length-drop n bytes, so_far.bound);
  written = rw (take_on n k bytes piece is) (Appends-trans _ _ _ _ _ so_far.written writes.written);
  to_come = writes.to_come ∙ so_far.to_come;
  faults = writes.cause.ok ∙ so_far.faults;
}

-- the same on a desk
pub record Told (before now : DeskState) (n : ℕ) (text : List ℕ) : Type 0 where
  pub bound : n ≤ length text
  pub written : Appends before.written now.written (take n text)
  pub faults : now.write_faults ≡ before.write_faults
  pub to_come : now.to_come ≡ before.to_come
  pub read_faults : now.read_faults ≡ before.read_faults

pub told_none : (s : DeskState) (text : List ℕ) → Told s s 0 text
told_none s text = record { bound = omega arith; written = Appends-nil s.written; faults = refl; to_come = refl; read_faults = refl }

pub told_more : (before mid now : DeskState) (n k : ℕ) (text piece : List ℕ) → Told before mid n text → DeskWrites mid now (Ok k) piece → piece ≡ drop n text →
    Told before now (n + k) text
told_more before mid now n k text piece so_far writes is = record {
  bound = omega (arith, writes.bound, ap length is, length-drop n text, so_far.bound);
  written = rw (take_on n k text piece is) (Appends-trans _ _ _ _ _ so_far.written writes.written);
  faults = writes.cause.ok ∙ so_far.faults;
  to_come = writes.to_come ∙ so_far.to_come;
  read_faults = writes.read_faults ∙ so_far.read_faults;
}

-- `&bytes[n..]`
pub rest_of : (n : ℕ) (bytes : List ℕ) → take (length bytes - n) (drop n bytes) ≡ drop n bytes
rest_of n bytes = take_all (length bytes - n) (drop n bytes) (omega (arith, length-drop n bytes))
