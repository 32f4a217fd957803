-- For crates above: a command that a line's fault ended has status 6 (`fault_status`); one that refuses no block never
-- has 8 (`never_refused`). A calm count didn't rise (`not_calm`).
-- Why a command ends as it does, and what it leaves where nothing failed.
use Rattle.std.proofs.Common.{◌≡◌, ◌≢◌, ◌⊎◌, inl, inr, ⊎_elim, ℕ, ◌<◌, List, [], ◌++◌, length, Some, Ok, Err, refl, sym, ◌∙◌, ap, subst, arith, nat_lt, ◌==◌}
use Rattle.std.proofs.KnownBytes.{Appends-trans}
use Rattle.std.proofs.lemmas.Bool.{cases_lt, cond-false, cond-true, eq-eqb, le-ltb}
use Rattle.std.specs.Io.KnownBytes.{Appends}
use Rattle.trau_io.specs.declared.line.Side.{Side}
use Rattle.trau_io.specs.Lines.{LineState, Rose}
use Rattle.trau_io.specs.Desks.{DeskState}
use Rattle.trau_io.specs.Transfer.{Tells}
use Rattle.block_lines.specs.declared.end.RunEnd.{RunEnd}
use Rattle.block_lines.specs.declared.end.RunEnd.TheVariants.{Done, Refused, ReadFailed, WriteFailed, DeskFailed}
use Rattle.block_lines.specs.declared.end.ToolEnd.{ToolEnd}
use Rattle.block_lines.specs.declared.end.ToolEnd.TheVariants as tool
use Rattle.block_lines.specs.Machines.{IsLawful, Machine, RefusesNone}
use Rattle.block_lines.specs.Runs.{All_of_it, Around, None_of_it, Output, Part_of_it, Reaches, Runs, Stage, around, desk_stage, line_stage}
use Rattle.block_lines.specs.Command.{Causes, CommandRuns, HasCauses, IsCalm, IsEndOf, IsFaultOf, IsOf, Leaves, LeavesAll, ReadsRefused, last_text, status_of}
use Rattle.block_lines.proofs.Alone.{appended, at_end, consumed, no_refused, no_refused_next, one_given}
use Rattle.block_lines.proofs.Outputs.{next_less}

-- the status of a command that ended by a line
pub fault_status : (call : ℕ) (side : Side) (result : ToolEnd) → IsFaultOf call side result → status_of result ≡ 6
fault_status call side tool.Done is = absurd is
fault_status call side (tool.LineFault line) is = refl
fault_status call side tool.DeskFault is = absurd is
fault_status call side (tool.Refused n) is = absurd is
fault_status call side tool.Memory is = absurd is

module _ (M : Machine) (a b : Around) where
  -- 4
  causes_desk : (status : ℕ) → status ≡ 4 → Rose a.desk.write_faults b.desk.write_faults → HasCauses M a b status
  causes_desk status is rose = record {
    known = inr (inl is);
    desk_failed = λ _. rose;
    desk_rose = λ _. is;
    line_failed = λ e. absurd (omega (arith, e, is));
    inc_rose = λ _. inl is;
    line_rose = λ j below _. inl is;
    refused = λ e. absurd (omega (arith, e, is));
    read_refused = λ octets known calm reads. inl is;
  }

  -- 6
  causes_line : (status : ℕ) → status ≡ 6 → b.desk.write_faults ≡ a.desk.write_faults →
      Rose a.inc.faults b.inc.faults ⊎ ((j : ℕ) × (j < M.shape.lines) × Rose (a.outs j).faults (b.outs j).faults) →
      ((octets : List ℕ) → a.inc.to_come ≡ Some octets → IsCalm a.inc.faults b.inc.faults → ReadsRefused M a.inc b.inc → ⊥) → HasCauses M a b status
  causes_line status is desk rose never = record {
    known = inr (inr (inl is));
    desk_failed = λ e. absurd (omega (arith, e, is));
    desk_rose = λ more. absurd (omega (arith, more, desk));
    line_failed = λ _. rose;
    inc_rose = λ _. inr is;
    line_rose = λ j below _. inr is;
    refused = λ e. absurd (omega (arith, e, is));
    read_refused = λ octets known calm reads. absurd (never octets known calm reads);
  }

  -- 0 and 8
  causes_calm : (status : ℕ) → (status ≡ 0) ⊎ (status ≡ 8) → b.desk.write_faults ≡ a.desk.write_faults → b.inc.faults ≡ a.inc.faults →
      ((j : ℕ) → j < M.shape.lines → (b.outs j).faults ≡ (a.outs j).faults) → (status ≡ 8 → ReadsRefused M a.inc b.inc) →
      ((octets : List ℕ) → a.inc.to_come ≡ Some octets → ReadsRefused M a.inc b.inc → status ≡ 8) → HasCauses M a b status
  causes_calm status is desk inc outs refused reads_refused = record {
    known = ⊎_elim inl (λ e. inr (inr (inr e))) is;
    desk_failed = λ e. absurd (⊎_elim (λ f. omega (arith, e, f)) (λ f. omega (arith, e, f)) is);
    desk_rose = λ more. absurd (omega (arith, more, desk));
    line_failed = λ e. absurd (⊎_elim (λ f. omega (arith, e, f)) (λ f. omega (arith, e, f)) is);
    inc_rose = λ more. absurd (omega (arith, more, inc));
    line_rose = λ j below more. absurd (omega (arith, more, outs j below));
    refused = refused;
    read_refused = λ octets known calm reads. inr (reads_refused octets known reads);
  }

-- a count that rose behind another time
rose_on : (stage : Stage) (o o' : Output) (k : ℕ) (x y : List ℕ) → Reaches stage o o' x y → Rose o'.faults k → Rose o.faults k
rose_on All_of_it o o' k x y reaches rose = subst (λ n. Rose n k) reaches.1 rose
rose_on Part_of_it o o' k x y reaches rose = let first = reaches.6 in omega (arith, first, rose)
rose_on None_of_it o o' k x y reaches rose = subst (λ n. Rose n k) reaches.1 rose

-- the line that failed
line_rose : (k : ℕ) (o o' : Output) (x y : List ℕ) → Reaches (line_stage (WriteFailed k) k) o o' x y → Rose o.faults o'.faults
line_rose k o o' x y reaches = (subst (λ stage. Reaches stage o o' x y) is reaches).6
  where
    is : line_stage (WriteFailed k) k ≡ Part_of_it
    is = cond-false (nat_lt k k) _ _ (le-ltb k k (omega arith)) ∙ cond-true (k == k) _ _ (eq-eqb k k refl)

-- no count rose where all of them are calm
pub not_calm : (before now : ℕ) → IsCalm before now → Rose before now → ⊥
not_calm before now calm rose = omega (arith, calm.0, calm.1, rose)

module _ (M : Machine) (before now : ℕ → Side → LineState) (desk middle desk' : DeskState) (call : ℕ) (result : ToolEnd) where
  Printed : (end : RunEnd) → Runs M (around M before desk call) (around M now middle call) end → Type 0
  Printed end runs = (IsEndOf M.shape call end result × Tells middle desk' (Ok tt) (last_text M call runs.blocks runs.last end))
      ⊎ ((result ≡ tool.DeskFault) × Tells middle desk' (Err (record {})) (last_text M call runs.blocks runs.last end))

  causes : IsLawful M → (end : RunEnd) (runs : Runs M (around M before desk call) (around M now middle call) end) → Printed end runs →
      HasCauses M (around M before desk call) (around M now desk' call) (status_of result)
  unfolding Printed
  causes law end runs (inr fault) = causes_desk M _ _ _ (ap status_of fault.0) (rose_on (desk_stage end) _ _ _ _ _ runs.desk fault.1.cause.failed)
  causes law (Done n left) runs (inl told) =
      let is : status_of result ≡ 0 = ap status_of told.0 in
      causes_calm M _ _ _ (inl is) (told.1.cause.ok ∙ runs.desk.1) runs.ends.3 (λ j below. (runs.lines j below).1) (λ e. absurd (omega (arith, e, is)))
      (λ octets holds reads. absurd (no_refused M runs.blocks reads.blocks runs.last reads.last _ runs.taken reads.taken runs.ends.2 reads.refused
      (one_given _ _ octets _ _ holds runs.gives.read reads.read)))
  causes law (Refused n) runs (inl told) =
      let is : status_of result ≡ 8 = ap status_of told.0 in
      causes_calm M _ _ _ (inr is) (told.1.cause.ok ∙ runs.desk.1) runs.ends.2 (λ j below. (runs.lines j below).1)
      (λ _. record { blocks = runs.blocks; last = runs.last; read = runs.gives.read; taken = runs.taken; refused = runs.ends.1 }) (λ octets holds reads. is)
  causes law ReadFailed runs (inl told) = causes_line M _ _ _ (fault_status _ _ result told.0) (told.1.cause.ok ∙ runs.desk.1) (inl runs.ends.2)
      (λ octets holds calm reads. not_calm _ _ calm runs.ends.2)
  causes law (WriteFailed k) runs (inl told) = causes_line M _ _ _ (fault_status _ _ result told.0) (told.1.cause.ok ∙ runs.desk.1)
      (inr (k, runs.ends.0, line_rose k _ _ _ _ (runs.lines k runs.ends.0)))
      (λ octets holds calm reads. no_refused_next M law runs.blocks reads.blocks runs.last reads.last _ runs.taken reads.taken runs.ends.1 reads.refused
      (one_given _ _ octets _ _ holds runs.gives.read reads.read))
  causes law DeskFailed runs (inl told) = causes_desk M _ _ _ (ap status_of told.0) (subst (Rose desk.write_faults) (sym told.1.cause.ok) runs.desk.6)

  -- the desk's text
  all_printed : (text earlier last : List ℕ) → desk.written ≡ Some text → Appends desk.written middle.written earlier →
      Appends middle.written desk'.written last → desk'.written ≡ Some (text ++ (earlier ++ last))
  all_printed text earlier last is first second = appended _ _ text (earlier ++ last) is (Appends-trans _ _ _ earlier last first second)

  leaves : (end : RunEnd) (runs : Runs M (around M before desk call) (around M now middle call) end) → Printed end runs →
      LeavesAll M (around M before desk call) (around M now desk' call) (status_of result)
  unfolding Printed
  leaves end runs (inr fault) = λ calm octets held text i_is o_is d_is.
      absurd (not_calm _ _ calm.desk (rose_on (desk_stage end) _ _ _ _ _ runs.desk fault.1.cause.failed))
  leaves (Done n left) runs (inl told) = λ calm octets held text i_is o_is d_is.
      let took = consumed _ _ octets _ i_is runs.gives.read in
      inl (record {
        blocks = runs.blocks;
        last = runs.last;
        rest = took.0;
        cut = record { split = took.2; taken = runs.taken; few = runs.few };
        is_rest = runs.ends.2;
        at_end = ⊎_elim (λ e. inl (at_end _ took.0 took.1 e)) (λ m. inr (sym runs.ends.0 ∙ m.0, m.1)) runs.ends.4;
        inc_holds = took.1;
        lines_hold = λ j below. appended _ _ (held j) _ (o_is j below) (runs.lines j below).0
            ∙ ap (λ l. Some (held j ++ l)) (next_less M runs.last (M.made j) runs.blocks runs.ends.2.less);
        desk_holds = all_printed text _ _ d_is runs.desk.0 told.1.ok
            ∙ ap (λ l. Some (text ++ (l ++ M.done_text runs.blocks runs.last))) (next_less M runs.last M.printed runs.blocks runs.ends.2.less);
        done = ap status_of told.0;
      })
  leaves (Refused n) runs (inl told) = λ calm octets held text i_is o_is d_is.
      let took = consumed _ _ octets _ i_is runs.gives.read in
      let why = runs.ends.1 in
      inr (record {
        blocks = runs.blocks;
        last = runs.last;
        rest = took.0;
        cut = record { split = took.2; taken = runs.taken; few = runs.few };
        is_refused = record { bound = why.bound; short = λ less. at_end _ took.0 took.1 (why.short less); bad = why.bad };
        inc_holds = took.1;
        lines_hold = λ j below. appended _ _ (held j) _ (o_is j below) (runs.lines j below).0;
        desk_holds = all_printed text _ _ d_is runs.desk.0 told.1.ok ∙ ap (λ m. Some (text ++ (M.printed runs.blocks [] ++ M.refused_text m))) runs.ends.0;
        refused = ap status_of told.0;
      })
  leaves ReadFailed runs (inl told) = λ calm octets held text i_is o_is d_is. absurd (not_calm _ _ calm.inc runs.ends.2)
  leaves (WriteFailed k) runs (inl told) = λ calm octets held text i_is o_is d_is.
      absurd (not_calm _ _ (calm.outs k runs.ends.0) (line_rose k _ _ _ _ (runs.lines k runs.ends.0)))
  leaves DeskFailed runs (inl told) = λ calm octets held text i_is o_is d_is.
      absurd (not_calm _ _ calm.desk (subst (Rose desk.write_faults) (sym told.1.cause.ok) runs.desk.6))

-- the same of the whole command
pub causes_of : (M : Machine) → IsLawful M → (before now : ℕ → Side → LineState) (desk desk' : DeskState) (call : ℕ) (result : ToolEnd) →
    CommandRuns M before now desk desk' call result → Causes M before now desk desk' call (status_of result)
unfolding Printed
causes_of M law before now desk desk' call result ran = causes M before now desk ran.middle desk' call result law ran.end ran.runs ran.tells

pub leaves_of : (M : Machine) (before now : ℕ → Side → LineState) (desk desk' : DeskState) (call : ℕ) (result : ToolEnd) →
    CommandRuns M before now desk desk' call result → Leaves M before now desk desk' call (status_of result)
unfolding Printed
leaves_of M before now desk desk' call result ran = leaves M before now desk ran.middle desk' call result ran.end ran.runs ran.tells

-- the end has the numbers of the run's blocks
pub of_run : (M : Machine) (a b : Around) (end : RunEnd) (ran : Runs M a b end) → IsOf ran.blocks ran.last end
of_run M a b (Done n left) ran = (ran.ends.0, ran.ends.1)
of_run M a b (Refused n) ran = tt
of_run M a b ReadFailed ran = tt
of_run M a b (WriteFailed k) ran = tt
of_run M a b DeskFailed ran = tt

-- a machine that refuses nothing: no block that was read is refused
pub never_refused : (M : Machine) (a b : Around) (status : ℕ) → RefusesNone M → HasCauses M a b status → status ≢ 8
never_refused M a b status none causes is =
    let read = causes.refused is in
    read.refused.bad (elim (cases_lt (length read.last) M.shape.octets) [
      | inl less ↦ inr (record { less = less; good = none.left read.last less })
      | inr all ↦ let whole : length read.last ≡ M.shape.octets = omega (arith, all, read.refused.bound) in
          inl (record { whole = whole; good = none.takes read.last whole })
    ])
