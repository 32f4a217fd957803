-- Why `merge` ends as it does, and what it leaves if nothing fails.
use Rattle.std.proofs.Common.{◌≡◌, inl, inr, ◌⊎◌, ℕ, ◌+◌, ◌<◌, List, ◌++◌, length, drop, Some, Ok, sym, ◌∙◌, ap, arith}
use Rattle.std.proofs.Math.Seq.{drop-append_seam}
use Rattle.trau_io.specs.declared.line.Line.{Line}
use Rattle.trau_io.specs.declared.line.Side.{Side}
use Rattle.trau_io.specs.declared.line.Side.TheVariants.{Up, Out}
use Rattle.trau_io.specs.Lines.{LineState, Rose}
use Rattle.trau_io.specs.Desks.{DeskState}
use Rattle.trau_io.specs.Transfer.{Tells}
use Rattle.block_lines.specs.declared.end.ToolEnd.{ToolEnd}
use Rattle.block_lines.specs.declared.end.ToolEnd.TheVariants as tool
use Rattle.block_lines.specs.Command.{IsCalm, status_of}
use Rattle.block_lines.proofs.Alone.{appended, consumed}
use Rattle.trau_submux.specs.declared.join.MergeEnd.{MergeEnd}
use Rattle.trau_submux.specs.declared.join.MergeEnd.TheVariants as merge
use Rattle.trau_submux.specs.Lines.{channel_lines}
use Rattle.trau_submux.specs.Merges.{MergeEndsAs, Merges}
use Rattle.trau_submux.specs.Tools.{AreCalm, CleanMerge, LeavesMerge, MergeCauses, MergeRun, SlotCauses, TellsText, merge_end, merge_text}

-- no line failed, or one did
Quiet : (slot slot' : LineState) (channels channels' : ℕ → LineState) → Type 0
Quiet slot slot' channels channels' = (slot'.faults ≡ slot.faults) × ((j : ℕ) → j < 4 → (channels' j).faults ≡ (channels j).faults)

-- a count of a line rose
Failing : (slot slot' : LineState) (channels channels' : ℕ → LineState) → Type 0
Failing slot slot' channels channels' = Rose slot.faults slot'.faults ⊎ ((j : ℕ) × (j < 4) × Rose (channels j).faults (channels' j).faults)

module _ (s s' : LineState) (cs cs' : ℕ → LineState) (k k' : DeskState) (text : List ℕ) (result : ToolEnd) where
  -- why 0 or 4 comes, and 6
  causes_done : Quiet s s' cs cs' → TellsText text tool.Done k k' result → SlotCauses s s' cs cs' k k' (status_of result)
  unfolding Quiet
  causes_done quiet (inl told) =
      let is : status_of result ≡ 0 = ap status_of told.0 in
      record {
        known = inl is;
        desk_failed = λ e. absurd (omega (arith, e, is));
        desk_rose = λ rose. absurd (omega (arith, rose, told.1.cause.ok));
        line_failed = λ e. absurd (omega (arith, e, is));
        slot_rose = λ rose. absurd (omega (arith, rose, quiet.0));
        channel_rose = λ j below rose. absurd (omega (arith, rose, quiet.1 j below));
      }
  causes_done quiet (inr fault) =
      let is : status_of result ≡ 4 = ap status_of fault.0 in
      record {
        known = inr (inl is);
        desk_failed = λ e. fault.1.cause.failed;
        desk_rose = λ _. is;
        line_failed = λ e. absurd (omega (arith, e, is));
        slot_rose = λ _. inl is;
        channel_rose = λ j below _. inl is;
      }

  causes_failed : (line : Line) → Failing s s' cs cs' → TellsText text (tool.LineFault line) k k' result → SlotCauses s s' cs cs' k k' (status_of result)
  unfolding Failing
  causes_failed line failing (inl told) =
      let is : status_of result ≡ 6 = ap status_of told.0 in
      record {
        known = inr (inr is);
        desk_failed = λ e. absurd (omega (arith, e, is));
        desk_rose = λ rose. absurd (omega (arith, rose, told.1.cause.ok));
        line_failed = λ e. failing;
        slot_rose = λ _. inr is;
        channel_rose = λ j below _. inr is;
      }
  causes_failed line failing (inr fault) =
      let is : status_of result ≡ 4 = ap status_of fault.0 in
      record {
        known = inr (inl is);
        desk_failed = λ e. fault.1.cause.failed;
        desk_rose = λ _. is;
        line_failed = λ e. absurd (omega (arith, e, is));
        slot_rose = λ _. inl is;
        channel_rose = λ j below _. inl is;
      }

  -- where nothing failed no line did
  not_failing : AreCalm s s' cs cs' k k' → Failing s s' cs cs' → ⊥
  unfolding Failing
  not_failing calm (inl rose) = let same = calm.slot_calm in omega (arith, same.0, same.1, rose)
  not_failing calm (inr one) = let same = calm.channels_calm one.0 one.1 in omega (arith, same.0, same.1, one.2)

  -- without a fault of the desk the whole text went out
  spoken : (end : ToolEnd) → IsCalm k.write_faults k'.write_faults → TellsText text end k k' result → (result ≡ end) × Tells k k' (Ok tt) text
  spoken end calm (inl told) = told
  spoken end calm (inr fault) = let rose = fault.1.cause.failed in absurd (omega (arith, calm.0, calm.1, rose))

module _ (before now : ℕ → Side → LineState) (k k' : DeskState) (call : ℕ) (result : ToolEnd) where
  -- a merge that ends by a line has a fault
  merge_failing : (given : ℕ → List ℕ) (line : Line) →
      MergeEndsAs (channel_lines before call Up) (channel_lines now call Up) (before call Out) (now call Out) call given (merge.LineFailed line) →
      Failing (before call Out) (now call Out) (channel_lines before call Up) (channel_lines now call Up)
  unfolding Failing
  merge_failing given line (inl read) = inr (read.failed, read.one, read.rose)
  merge_failing given line (inr write) = inl write.here.rose

  -- the causes of a merge
  pub merge_causes : MergeRun before now k k' call result → MergeCauses before now k k' call (status_of result)
  unfolding Quiet
  merge_causes ran = by ran.end ran.merges ran.tells
    where
      by : (end : MergeEnd) → Merges (channel_lines before call Up) (channel_lines now call Up) (before call Out) (now call Out) call end →
          TellsText (merge_text end) (merge_end end) k k' result → MergeCauses before now k k' call (status_of result)
      by (merge.Done octets left) merges tells = causes_done _ _ _ _ k k' _ result (merges.ends.gained.calm, merges.ends.calm) tells
      by (merge.LineFailed line) merges tells = causes_failed _ _ _ _ k k' _ result line (merge_failing merges.given line merges.ends) tells

  -- what a merge leaves
  pub merge_clean : MergeRun before now k k' call result → CleanMerge before now k k' call (status_of result)
  merge_clean ran = λ calm lists held text u_is o_is k_is. by calm lists held text u_is o_is k_is ran.end ran.merges ran.tells
    where
      by : AreCalm (before call Out) (now call Out) (channel_lines before call Up) (channel_lines now call Up) k k' →
          (lists : ℕ → List ℕ) (held text : List ℕ) → ((j : ℕ) → j < 4 → (before (call + j) Up).to_come ≡ Some (lists j)) →
          (before call Out).written ≡ Some held → k.written ≡ Some text →
          (end : MergeEnd) → Merges (channel_lines before call Up) (channel_lines now call Up) (before call Out) (now call Out) call end →
          TellsText (merge_text end) (merge_end end) k k' result →
          LeavesMerge (channel_lines now call Up) (now call Out) k' lists held text (status_of result)
      by calm lists held text u_is o_is k_is (merge.LineFailed line) merges tells =
          absurd (not_failing _ _ _ _ k k' (merge_text (merge.LineFailed line)) result calm (merge_failing merges.given line merges.ends))
      by calm lists held text u_is o_is k_is (merge.Done n left) merges tells =
          let told = spoken (before call Out) (now call Out) (channel_lines before call Up) (channel_lines now call Up) k k'
          (merge_text (merge.Done n left)) result tool.Done calm.desk_calm tells in
          let ends = merges.ends in
          record {
            given = merges.given;
            rest = λ j. drop (length (merges.given j)) (lists j);
            parts = λ j below. (part j below (lists j) (u_is j below)).0;
            channels_hold = λ j below. (part j below (lists j) (u_is j below)).1;
            used = ends.used;
            read = ends.read;
            sent = ends.sent;
            merged = ends.merged;
            slot_holds = appended _ _ held _ o_is ends.gained.written;
            left = left;
            left_are = ends.left_are;
            desk_holds = appended _ _ text _ k_is told.1.ok ∙ ap (λ m. Some (text ++ merge_text (merge.Done m left))) ends.octets_are;
            done = ap status_of told.0;
          }
        where
          part : (j : ℕ) → j < 4 → (list : List ℕ) → (before (call + j) Up).to_come ≡ Some list →
              (list ≡ merges.given j ++ drop (length (merges.given j)) list) × ((now (call + j) Up).to_come ≡ Some (drop (length (merges.given j)) list))
          part j below list is =
              let given = merges.given j in
              let took = consumed _ _ list given is (merges.gives j below).read in
              let same : drop (length given) list ≡ took.0 = ap (drop (length given)) took.2 ∙ drop-append_seam given took.0 in
              (took.2 ∙ ap (λ l. given ++ l) (sym same), took.1 ∙ ap Some (sym same))
