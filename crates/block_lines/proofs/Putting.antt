-- What goes out for one block, and the block that is read before.
use Rattle.std.proofs.Common.{◌≡◌, inl, inr, ℕ, ◌+◌, ◌<◌, ◌≤◌, List, [], length, take, Ok, Err, refl, sym, ◌∙◌, ap, subst, arith, length-take-le}
use Rattle.std.proofs.KnownBytes.{Appends-nil}
use Rattle.std.specs.Io.KnownBytes.{IsAtEnd}
use Rattle.trau_io.specs.declared.line.Side.{Side}
use Rattle.trau_io.specs.declared.transfer.Filled.TheVariants as filled
use Rattle.trau_io.specs.Lines.{LineState, OthersStay}
use Rattle.trau_io.specs.Desks.{DeskState}
use Rattle.trau_io.specs.Transfer.{Gives, ReadsBlock, Tells}
use Rattle.block_lines.specs.declared.end.RunEnd.{RunEnd}
use Rattle.block_lines.specs.declared.end.RunEnd.TheVariants.{Done, Refused, ReadFailed, WriteFailed, DeskFailed}
use Rattle.block_lines.specs.Machines.{IsLawful, Machine, with_next}
use Rattle.block_lines.specs.Runs.{All_of_it, None_of_it, Output, OthersStay as MachineOthersStay, around, line_stage, out_of}
use Rattle.block_lines.specs.Step.{Adds, BlockEnds, Goes, LineGains, LinesStay, Makes, PutEnds, Puts}

-- nothing goes out
adds_none : (o : Output) (before all : List ℕ) → Adds None_of_it o o before all
adds_none o before all = ([], (Appends-nil o.written, refl), inr refl)

module _ (M : Machine) (before after : List (List ℕ) → Type 0) (next : List ℕ) (lines lines' : ℕ → Side → LineState) (desk : DeskState) (call : ℕ) where
  pub refused : (n : ℕ) → Puts M before after next (around M lines desk call) (around M lines desk call) (Refused n)
  refused n = record {
    stays = record { outs = λ j below. refl; desk = refl; read_faults = refl };
    stands = λ blocks now. tt;
    lines = λ blocks now j below. adds_none _ _ _;
    desk = λ blocks now. adds_none _ _ _;
  }

  module _ (holds : ℕ → List ℕ) (text : List ℕ) (count : ℕ) (makes : Makes M before after next holds text count) where
    pub write_failed : (k : ℕ) → ((j : ℕ) → j < M.shape.lines →
        LineGains (line_stage (WriteFailed k) j) (lines (call + j) M.shape.to) (lines' (call + j) M.shape.to) (take count (holds j))) →
        Puts M before after next (around M lines desk call) (around M lines' desk call) (WriteFailed k)
    write_failed k gained = record {
      stays = record { outs = λ j below. (gained j below).1; desk = refl; read_faults = refl };
      stands = λ blocks now. tt;
      lines = λ blocks now j below. (take count (holds j), (gained j below).0, inl (makes.made blocks now j below));
      desk = λ blocks now. adds_none _ _ _;
    }

    module _ (desk' : DeskState) (gained : (j : ℕ) → j < M.shape.lines →
        LineGains All_of_it (lines (call + j) M.shape.to) (lines' (call + j) M.shape.to) (take count (holds j))) where
      pub done : (n left : ℕ) → Tells desk desk' (Ok tt) text → Puts M before after next (around M lines desk call) (around M lines' desk' call) (Done n left)
      done n left tells = record {
        stays = record { outs = λ j below. (gained j below).1; desk = tells.to_come; read_faults = tells.read_faults };
        stands = makes.stands;
        lines = λ blocks now j below. (take count (holds j), (gained j below).0, inl (makes.made blocks now j below));
        desk = λ blocks now. (text, (tells.ok, tells.cause.ok), inl (makes.printed blocks now));
      }

      pub desk_failed : Tells desk desk' (Err (record {})) text → Puts M before after next (around M lines desk call) (around M lines' desk' call) DeskFailed
      desk_failed tells = record {
        stays = record { outs = λ j below. (gained j below).1; desk = tells.to_come; read_faults = tells.read_faults };
        stands = λ blocks now. tt;
        lines = λ blocks now j below. (take count (holds j), (gained j below).0, inl (makes.made blocks now j below));
        desk = λ blocks now. (text, (tells.err.0, tells.err.1, tells.err.2, tells.cause.later, tells.cause.failed), inl (makes.printed blocks now));
      }

-- why a block ends where it was read to its end or to that of its line
ends_put : (M : Machine) (n : ℕ) (inc inc' : LineState) (next : List ℕ) (end : RunEnd) → PutEnds M n next end → inc'.faults ≡ inc.faults →
    length next ≤ M.shape.octets → (length next < M.shape.octets → IsAtEnd inc'.to_come) → BlockEnds M n inc inc' next end
ends_put M n inc inc' next (Done m left) ends same bound short = (ends, same, bound, short)
ends_put M n inc inc' next (Refused m) ends same bound short = (ends, same, bound, short)
ends_put M n inc inc' next ReadFailed ends same bound short = absurd ends
ends_put M n inc inc' next (WriteFailed k) ends same bound short = (ends, same, bound, short)
ends_put M n inc inc' next DeskFailed ends same bound short = (ends, same, bound, short)

module _ (M : Machine) (law : IsLawful M) (before after : List (List ℕ) → Type 0) (n : ℕ) (lines lines1 : ℕ → Side → LineState) (desk : DeskState) (call : ℕ)
    (block : List ℕ) (long : length block ≡ M.shape.octets) (others : OthersStay lines lines1 call M.shape.from) where
  -- reading leaves the outgoing lines
  outs_stay : (j : ℕ) → lines1 (call + j) M.shape.to ≡ lines (call + j) M.shape.to
  outs_stay j = others (call + j) M.shape.to (λ e f. law.apart (sym f))

  -- what was read of a part of the block
  part_bound : (m : ℕ) → m < length block → length (take m block) ≡ m
  part_bound m less = length-take-le m block (omega (arith, less))

  pub read_failed : (m : ℕ) → ReadsBlock (lines call M.shape.from) (lines1 call M.shape.from) (filled.Failed m) block →
      Goes M before after n (around M lines desk call) (around M lines1 desk call) ReadFailed
  read_failed m reads = record {
    next = take m block;
    gives = record { read = reads.given; written = reads.written; later = reads.later };
    puts = record {
      stays = record { outs = λ j below. ap (λ (l : LineState). l.to_come) (outs_stay j); desk = refl; read_faults = refl };
      stands = λ blocks now. tt;
      lines = λ blocks now j below. subst (λ l. Adds None_of_it (out_of (lines (call + j) M.shape.to)) (out_of l) (M.made j blocks [])
          (with_next M (M.made j) blocks (take m block))) (sym (outs_stay j)) (adds_none _ _ _);
      desk = λ blocks now. adds_none _ _ _;
    };
    ends = (omega (arith, long, reads.stopped.0, part_bound m reads.stopped.0), reads.stopped.1);
  }

  module _ (lines2 : ℕ → Side → LineState) (desk2 : DeskState) (put_others : LinesStay M.shape lines1 lines2 call) (end : RunEnd) where
    -- writing leaves the incoming line
    inc_stays : lines2 call M.shape.from ≡ lines1 call M.shape.from
    inc_stays = put_others call M.shape.from (λ j below e f. law.apart f)

    pub stay : MachineOthersStay M lines lines2 call
    stay = λ c s not_in not_out. put_others c s not_out ∙ others c s not_in

    goes : (next : List ℕ) → Gives (lines call M.shape.from) (lines1 call M.shape.from) next →
        (lines1 call M.shape.from).faults ≡ (lines call M.shape.from).faults → length next ≤ M.shape.octets →
        (length next < M.shape.octets → IsAtEnd (lines1 call M.shape.from).to_come) →
        Puts M before after next (around M lines1 desk call) (around M lines2 desk2 call) end → PutEnds M n next end →
        Goes M before after n (around M lines desk call) (around M lines2 desk2 call) end
    goes next gives same bound short puts ends = record {
      next = next;
      gives = subst (λ l. Gives (lines call M.shape.from) l next) (sym inc_stays) gives;
      puts = record {
        stays = record {
          outs = λ j below. puts.stays.outs j below ∙ ap (λ (l : LineState). l.to_come) (outs_stay j);
          desk = puts.stays.desk;
          read_faults = puts.stays.read_faults;
        };
        stands = puts.stands;
        lines = λ blocks now j below. subst (λ l. Adds (line_stage end j) (out_of l) (out_of (lines2 (call + j) M.shape.to)) (M.made j blocks [])
            (with_next M (M.made j) blocks next)) (outs_stay j) (puts.lines blocks now j below);
        desk = puts.desk;
      };
      ends = ends_put M n (lines call M.shape.from) (lines2 call M.shape.from) next end ends (ap (λ (l : LineState). l.faults) inc_stays ∙ same) bound
          (λ less. subst (λ (l : LineState). IsAtEnd l.to_come) (sym inc_stays) (short less));
    }

    pub whole : ReadsBlock (lines call M.shape.from) (lines1 call M.shape.from) filled.Whole block →
        Puts M before after block (around M lines1 desk call) (around M lines2 desk2 call) end → PutEnds M n block end →
        Goes M before after n (around M lines desk call) (around M lines2 desk2 call) end
    whole reads puts ends = goes block (record { read = reads.given; written = reads.written; later = reads.later }) reads.stopped (omega (arith, long))
        (λ less. absurd (omega (arith, long, less))) puts ends

    pub part : (m : ℕ) → ReadsBlock (lines call M.shape.from) (lines1 call M.shape.from) (filled.Ended m) block →
        Puts M before after (take m block) (around M lines1 desk call) (around M lines2 desk2 call) end → PutEnds M n (take m block) end →
        Goes M before after n (around M lines desk call) (around M lines2 desk2 call) end
    part m reads puts ends = goes (take m block) (record { read = reads.given; written = reads.written; later = reads.later }) reads.stopped.2
        (omega (arith, long, reads.stopped.0, part_bound m reads.stopped.0)) (λ less. reads.stopped.1) puts ends
