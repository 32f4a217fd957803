-- Why the command `follow` ends as it does, and what it leaves without faults.
use Rattle.std.proofs.Common.{◌≡◌, inl, inr, ⊎_elim, ℕ, ◌≤◌, ◌++◌, List, length, Some, sym, ◌∙◌, ap, subst, arith}
use Rattle.std.specs.Io.KnownBytes.{Appends}
use Rattle.std.proofs.KnownBytes.{Appends-trans}
use Rattle.trau_io.specs.declared.line.Side.{Side}
use Rattle.trau_io.specs.Lines.{LineState, Rose}
use Rattle.trau_io.specs.Desks.{DeskState}
use Rattle.block_lines.specs.declared.end.ToolEnd.{ToolEnd}
use Rattle.block_lines.specs.Command.{status_of}
use Rattle.block_lines.proofs.Alone.{appended, at_end, consumed}
use Rattle.block_lines.proofs.Ending.{fault_status}
use Rattle.ccu_end.specs.declared.recording.FollowEnd.{FollowEnd}
use Rattle.ccu_end.specs.declared.recording.FollowEnd.TheVariants.{Done, ReadFailed, WriteFailed, DeskFailed}
use Rattle.ccu_end.specs.Heard.{all_of}
use Rattle.ccu_end.specs.Told.{listed}
use Rattle.ccu_end.specs.Follows.{Follows}
use Rattle.ccu_end.specs.Tool.{AreCalm, CleanFollow, FollowCauses, FollowRun, HasCauses, LeavesFollowed, TellsLast, last_text}

-- a count that rose after it stayed or rose
rose_later : (a b c : ℕ) → a ≤ b → Rose b c → Rose a c
rose_later a b c le rose = omega (arith, le, rose)

module _ (call want : ℕ) (u u' d d' : LineState) (k m k' : DeskState) (result : ToolEnd) where
  -- why the status comes, by the end and by what was told of it
  causes : (end : FollowEnd) → Follows u u' d d' k m want end → TellsLast call end m k' result → HasCauses u u' d d' k k' (status_of result)
  causes end follows (inr fault) =
      let is : status_of result ≡ 4 = ap status_of fault.0 in
      record {
        known = inr (inl is);
        desk_failed = λ e. rose_later _ _ _ follows.moves.hears.later fault.1.cause.failed;
        desk_rose = λ _. is;
        line_failed = λ e. absurd (omega (arith, e, is));
        line_rose = λ _. inl is;
      }
  causes (Done frames left) follows (inl told) =
      let is : status_of result ≡ 0 = ap status_of told.0 in
      let ends = follows.ends in
      record {
        known = inl is;
        desk_failed = λ e. absurd (omega (arith, e, is));
        desk_rose = λ rose. absurd (omega (arith, rose, told.1.cause.ok, ends.desk_same));
        line_failed = λ e. absurd (omega (arith, e, is));
        line_rose = ⊎_elim (λ rose. absurd (omega (arith, rose, ends.up_same))) (λ rose. absurd (omega (arith, rose, ends.down_same)));
      }
  causes ReadFailed follows (inl told) =
      let is : status_of result ≡ 6 = fault_status call _ result told.0 in
      record {
        known = inr (inr is);
        desk_failed = λ e. absurd (omega (arith, e, is));
        desk_rose = λ rose. absurd (omega (arith, rose, told.1.cause.ok, follows.ends.desk_same));
        line_failed = λ e. inl follows.ends.rose;
        line_rose = λ _. inr is;
      }
  causes WriteFailed follows (inl told) =
      let is : status_of result ≡ 6 = fault_status call _ result told.0 in
      record {
        known = inr (inr is);
        desk_failed = λ e. absurd (omega (arith, e, is));
        desk_rose = λ rose. absurd (omega (arith, rose, told.1.cause.ok, follows.ends.desk_same));
        line_failed = λ e. inr follows.ends.rose;
        line_rose = λ _. inr is;
      }
  causes DeskFailed follows (inl told) =
      let is : status_of result ≡ 4 = ap status_of told.0 in
      record {
        known = inr (inl is);
        desk_failed = λ e. subst (λ n. Rose k.write_faults n) (sym told.1.cause.ok) follows.ends.rose;
        desk_rose = λ _. is;
        line_failed = λ e. absurd (omega (arith, e, is));
        line_rose = λ _. inl is;
      }

  -- what is left without a fault
  clean : (end : FollowEnd) → Follows u u' d d' k m want end → TellsLast call end m k' result → AreCalm u u' d d' k k' →
      (octets held text : List ℕ) → u.to_come ≡ Some octets → d.written ≡ Some held → k.written ≡ Some text →
      LeavesFollowed call want u' d' k' octets held text (status_of result)
  clean end follows (inr fault) calm octets held text u_is d_is k_is =
      let rose = fault.1.cause.failed in let same = calm.desk_calm in absurd (omega (arith, same.0, same.1, follows.moves.hears.later, rose))
  clean (Done frames left) follows (inl told) calm octets held text u_is d_is k_is =
      let took = consumed _ _ octets _ u_is follows.moves.gives.read in
      let ends = follows.ends in
      let heard = follows.heard in
      let last_line = last_text call (Done frames left) in
      let gained : Appends k.written k'.written (follows.told ++ last_line) = Appends-trans _ _ _ _ _ follows.moves.hears.written told.1.ok in
      record {
        periods = follows.periods;
        heard = heard;
        last = follows.last;
        rest = took.0;
        split = took.2;
        whole = follows.whole;
        few = follows.few;
        are_heard = follows.are_heard;
        less = ends.less;
        at_end = ⊎_elim (λ e. inl (at_end _ took.0 took.1 e)) (λ e. inr e) ends.at_end;
        up_holds = took.1;
        down_holds = appended _ _ held _ d_is follows.moves.gains.written ∙ ap (λ l. Some (held ++ l)) ends.all_sent;
        desk_holds = appended _ _ text _ k_is gained
            ∙ ap (λ l. Some (text ++ (l ++ last_line))) ends.all_told
            ∙ ap (λ n. Some (text ++ (listed heard ++ last_text call (Done n left)))) ends.frames_are
            ∙ ap (λ n. Some (text ++ (listed heard ++ last_text call (Done (length (all_of heard)) n)))) ends.left_is;
        done = ap status_of told.0;
      }
  clean ReadFailed follows (inl told) calm octets held text u_is d_is k_is =
      let rose = follows.ends.rose in let same = calm.up_calm in absurd (omega (arith, same.0, same.1, rose))
  clean WriteFailed follows (inl told) calm octets held text u_is d_is k_is =
      let rose = follows.ends.rose in let same = calm.down_calm in absurd (omega (arith, same.0, same.1, rose))
  clean DeskFailed follows (inl told) calm octets held text u_is d_is k_is =
      let rose = follows.ends.rose in let same = calm.desk_calm in absurd (omega (arith, same.0, same.1, told.1.cause.ok, rose))

module _ (before now : ℕ → Side → LineState) (desk desk' : DeskState) (call want : ℕ) (result : ToolEnd)
    (ran : FollowRun before now desk desk' call want result) where
  -- the same of the whole command
  pub follow_causes : FollowCauses before now desk desk' call (status_of result)
  follow_causes = causes call want _ _ _ _ desk ran.middle desk' result ran.end ran.follows ran.tells

  pub follow_clean : CleanFollow before now desk desk' call want (status_of result)
  follow_clean = λ calm octets held text u_is d_is k_is. clean call want _ _ _ _ desk ran.middle desk' result ran.end ran.follows ran.tells calm octets held
      text u_is d_is k_is
