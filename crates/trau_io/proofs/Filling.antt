-- Several reads of the desk, one after another.
use Rattle.std.proofs.Common.{◌≡◌, ℕ, ◌+◌, ◌-◌, ◌<◌, ◌≤◌, List, length, take, Ok, Err, refl, ◌∙◌, subst, arith}
use Rattle.std.specs.Io.KnownBytes.{Consumes}
use Rattle.std.proofs.KnownBytes.{Consumes-nil, Consumes-trans, Consumes-kept}
use Rattle.std.proofs.lemmas.List.{take_all}
use borrow.Rule.Slice.PartMut.{put_mid}
use Rattle.trau_io.specs.declared.line.Failed.{Failed}
use Rattle.trau_io.specs.declared.transfer.Filled.TheVariants as filled
use Rattle.trau_io.specs.Lines.{Rose}
use Rattle.trau_io.specs.Desks.{DeskState, DeskReads}
use Rattle.trau_io.proofs.Runs.{length_filled, front_filled, take_filled}
use Rattle.trau_io.specs.Transfer.{FillsBlock}

-- what successful reads have done so far
pub record Filled (before now : DeskState) (n : ℕ) (block : List ℕ) : Type 0 where
  pub bound : n ≤ length block
  pub consumed : Consumes before.to_come now.to_come (take n block)
  pub read_faults : now.read_faults ≡ before.read_faults
  pub written : now.written ≡ before.written
  pub write_faults : now.write_faults ≡ before.write_faults

pub filled_none : (s : DeskState) (block : List ℕ) → Filled s s 0 block
filled_none s block = record { bound = omega arith; consumed = Consumes-nil s.to_come; read_faults = refl; written = refl; write_faults = refl }

pub filled_more : (before mid now : DeskState) (n k : ℕ) (block piece : List ℕ) → Filled before mid n block → DeskReads mid now (Ok k) piece →
    length piece ≡ length block - n → Filled before now (n + k) (put_mid n (length block - n) block piece)
filled_more before mid now n k block piece so_far reads fits =
    let long : length (put_mid n (length block - n) block piece) ≡ length block = length_filled n block piece so_far.bound fits in
    let part : k ≤ length piece = reads.bound.0 in
    record {
      bound = omega (arith, long, part, fits, so_far.bound);
      consumed = rw (take_filled n k block piece so_far.bound part) (Consumes-trans _ _ _ _ _ so_far.consumed reads.to_come.0);
      read_faults = reads.cause.ok ∙ so_far.read_faults;
      written = reads.written ∙ so_far.written;
      write_faults = reads.write_faults ∙ so_far.write_faults;
    }

-- the block is full
pub filled_all : (before now : DeskState) (n : ℕ) (block : List ℕ) → Filled before now n block → length block ≤ n → FillsBlock before now filled.Whole block
filled_all before now n block so_far full = record {
  given = subst (Consumes before.to_come now.to_come) (take_all n block full) so_far.consumed;
  stopped = so_far.read_faults;
  later = omega (arith, so_far.read_faults);
  written = so_far.written;
  write_faults = so_far.write_faults;
}

module _ (before mid now : DeskState) (n : ℕ) (block piece : List ℕ) (so_far : Filled before mid n block) (room : n < length block)
    (fits : length piece ≡ length block - n) where
  long : length (put_mid n (length block - n) block piece) ≡ length block
  long = length_filled n block piece so_far.bound fits

  -- the text ended
  pub filled_ended : (k : ℕ) → DeskReads mid now (Ok k) piece → k ≡ 0 → FillsBlock before now (filled.Ended n) (put_mid n (length block - n) block piece)
  filled_ended k reads none =
      let more = filled_more before mid now n k block piece so_far reads fits in
      let same : n + k ≡ n = omega arith in record {
        given = subst (λ m. Consumes before.to_come now.to_come (take m (put_mid n (length block - n) block piece))) same more.consumed;
        stopped = (omega (arith, long), reads.to_come.1 none (omega arith), more.read_faults);
        later = omega (arith, more.read_faults);
        written = more.written;
        write_faults = more.write_faults;
      }

  -- the desk failed
  pub filled_failed : (e : Failed) → DeskReads mid now (Err e) piece → FillsBlock before now (filled.Failed n) (put_mid n (length block - n) block piece)
  filled_failed e reads = record {
    given = rw (front_filled n block piece so_far.bound) (Consumes-kept _ _ _ _ so_far.consumed reads.to_come);
    stopped = (omega (arith, long), subst (λ f. Rose f now.read_faults) so_far.read_faults reads.cause.failed);
    later = omega (arith, so_far.read_faults, reads.cause.later);
    written = reads.written ∙ so_far.written;
    write_faults = reads.write_faults ∙ so_far.write_faults;
  }
