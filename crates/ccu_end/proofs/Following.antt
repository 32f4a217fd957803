-- A downlink followed over one period after another.
use Rattle.std.proofs.Common.{◌≡◌, inl, inr, ℕ, ◌+◌, ◌-◌, ◌^◌, ◌<◌, List, [], ◌∷◌, ◌++◌, length, take, reverse, refl, sym, ◌∙◌, ap, subst, arith, length-append}
use Rattle.std.specs.List.{concat}
use Rattle.std.proofs.lemmas.List.{append-nil, reverse-append}
use Rattle.std.proofs.lemmas.List.Elements.{All-append, All-cons, All-nil}
use Rattle.trau_io.specs.Lines.{LineState, Rose}
use Rattle.trau_io.specs.Desks.{DeskState}
use Rattle.ccu_end.specs.declared.recording.FollowEnd.TheVariants as follow
use Rattle.ccu_end.specs.declared.recording.PeriodEnd.TheVariants.{Taken, LineEnded, ReadFailed, WriteFailed, DeskFailed}
use Rattle.ccu_end.specs.Found.{FoundFrame}
use Rattle.ccu_end.specs.Asked.{asked}
use Rattle.ccu_end.specs.Heard.{ArePeriods, CcuMemory, Stands, all_of}
use Rattle.ccu_end.specs.Told.{lines_of, listed, octets_saying, sent_up}
use Rattle.ccu_end.specs.Follows.{Follows, Moves}
use Rattle.ccu_end.specs.FollowStep.{FollowsOn, NoFault, Takes}
use Rattle.block_lines.proofs.Blocks.{concat_push, few_with}
use Rattle.ccu_end.proofs.SoFar.{moves_on, all_more, listed_more, sent_more, SoFar}

-- a prefix of what is last, after all before it, is a prefix of all
front_of : (before front last : List ℕ) → front ≡ take (length front) last → before ++ front ≡ take (length (before ++ front)) (before ++ last)
front_of [] front last is = is
front_of (b ∷ before) front last is = ap (λ l. b ∷ l) (front_of before front last is)

module _ (ccu ccu' : CcuMemory) (want : ℕ) (u0 u1 u2 d0 d1 d2 : LineState) (k0 k1 k2 : DeskState) (n frames : ℕ)
    (so_far : SoFar ccu want u0 u1 d0 d1 k0 k1 n frames) where
  -- no fault so far, and none in the period
  calm_on : NoFault u1 u2 d1 d2 k1 k2 → NoFault u0 u2 d0 d2 k0 k2
  calm_on calm = record {
    up_same = calm.up_same ∙ so_far.calm.up_same;
    down_same = calm.down_same ∙ so_far.calm.down_same;
    desk_same = calm.desk_same ∙ so_far.calm.desk_same;
  }

  -- the periods with one more
  count_now : (given : List ℕ) → length (so_far.periods ++ given ∷ []) ≡ n + 1
  count_now given = length-append so_far.periods (given ∷ []) ∙ ap (λ k. k + 1) so_far.count

  -- one period more, in which these frames were found
  module _ (given : List ℕ) (found : List FoundFrame) (takes : Takes ccu ccu' given found) where
    periods_now : List (List ℕ)
    periods_now = so_far.periods ++ given ∷ []

    heard_now : List (List FoundFrame)
    heard_now = found ∷ so_far.heard

    -- the end stands for the period too
    stands_now : Stands (reverse periods_now) heard_now ccu'
    unfolding periods_now heard_now
    stands_now = subst (λ past. Stands past heard_now ccu') (sym (reverse-append so_far.periods (given ∷ [])))
        (takes.history (reverse so_far.periods) so_far.heard so_far.stands)

    whole_now : ArePeriods periods_now
    unfolding periods_now
    whole_now = All-append (λ octets. length octets ≡ 40) so_far.periods (given ∷ []) so_far.whole
        (All-cons (λ octets. length octets ≡ 40) given [] takes.long (All-nil (λ octets. length octets ≡ 40)))

    wanted_now : ccu'.want ≡ want
    wanted_now = takes.want ∙ so_far.wanted

    -- its answer
    sent_now : sent_up want heard_now ≡ sent_up want so_far.heard ++ octets_saying ccu'.answer
    unfolding heard_now
    sent_now = sent_more want found so_far.heard
        ∙ ap (λ words. sent_up want so_far.heard ++ octets_saying words) (sym (stands_now.answer ∙ ap (λ w. asked w (found ∷ so_far.heard)) wanted_now))

    -- its lines, and all octets and texts with it
    listed_now : listed heard_now ≡ listed so_far.heard ++ lines_of found
    unfolding heard_now
    listed_now = listed_more found so_far.heard

    moves_now : (sent told : List ℕ) → Moves u1 u2 d1 d2 k1 k2 given sent told →
        Moves u0 u2 d0 d2 k0 k2 (concat periods_now) (sent_up want so_far.heard ++ sent) (listed so_far.heard ++ told)
    unfolding periods_now
    moves_now sent told moves = subst (λ l. Moves u0 u2 d0 d2 k0 k2 l (sent_up want so_far.heard ++ sent) (listed so_far.heard ++ told))
        (sym (concat_push so_far.periods given)) (moves_on _ _ _ _ _ _ _ _ _ _ _ _ _ _ _ so_far.moves moves)

  -- a period more is taken
  pub taken : (count : ℕ) → FollowsOn ccu ccu' u1 u2 d1 d2 k1 k2 (Taken count) → SoFar ccu' want u0 u2 d0 d2 k0 k2 (n + 1) (frames + count)
  unfolding periods_now heard_now
  taken count one =
      let ends = one.ends in
      let found = ends.found in
      let moved = moves_now one.given found ends.takes one.sent one.told one.moves in
      record {
        periods = so_far.periods ++ one.given ∷ [];
        heard = found ∷ so_far.heard;
        count = count_now one.given;
        counted = ends.takes.counted ∙ ap (λ k. k + 1) so_far.counted;
        wanted = wanted_now one.given found ends.takes;
        stands = stands_now one.given found ends.takes;
        whole = whole_now one.given found ends.takes;
        frames_are = omega (arith, so_far.frames_are, ends.count_is, ap length (all_more found so_far.heard) ∙ length-append (all_of so_far.heard) found);
        at_most = omega (arith, so_far.at_most, ends.count_is, ends.takes.few);
        moves =
            subst (λ l. Moves u0 u2 d0 d2 k0 k2 (concat (so_far.periods ++ one.given ∷ [])) l (listed (found ∷ so_far.heard)))
            (ap (λ l. sent_up want so_far.heard ++ l) ends.sent_is ∙ sym (sent_now one.given found ends.takes))
            (subst (λ l. Moves u0 u2 d0 d2 k0 k2 (concat (so_far.periods ++ one.given ∷ [])) (sent_up want so_far.heard ++ one.sent) l)
            (ap (λ l. listed so_far.heard ++ l) ends.told_is ∙ sym (listed_now one.given found ends.takes)) moved);
        calm = calm_on ends.calm;
      }

  -- the line ended in it, a line failed in it, or the desk
  pub line_ended : n < 2 ^ 32 - 1 → (left : ℕ) → FollowsOn ccu ccu' u1 u2 d1 d2 k1 k2 (LineEnded left) →
      Follows u0 u2 d0 d2 k0 k2 want (follow.Done frames left)
  line_ended room left one =
      let ends = one.ends in
      record {
        periods = so_far.periods;
        heard = so_far.heard;
        last = one.given;
        sent = sent_up want so_far.heard ++ one.sent;
        told = listed so_far.heard ++ one.told;
        whole = so_far.whole;
        few = few_with 40 _ so_far.periods one.given n so_far.whole so_far.count (omega (arith, room, ends.part));
        are_heard = so_far.stands.found;
        moves = moves_on _ _ _ _ _ _ _ _ _ _ _ _ _ _ _ so_far.moves one.moves;
        ends = record {
          at_end = inl ends.at_end;
          frames_are = so_far.frames_are;
          left_is = ends.left_is;
          less = ends.part;
          all_sent = ap (λ l. sent_up want so_far.heard ++ l) ends.nothing_sent ∙ append-nil (sent_up want so_far.heard);
          all_told = ap (λ l. listed so_far.heard ++ l) ends.nothing_told ∙ append-nil (listed so_far.heard);
          up_same = (calm_on ends.calm).up_same;
          down_same = (calm_on ends.calm).down_same;
          desk_same = (calm_on ends.calm).desk_same;
        };
      }

  pub read_failed : n < 2 ^ 32 - 1 → FollowsOn ccu ccu' u1 u2 d1 d2 k1 k2 ReadFailed → Follows u0 u2 d0 d2 k0 k2 want follow.ReadFailed
  read_failed room one =
      let ends = one.ends in
      record {
        periods = so_far.periods;
        heard = so_far.heard;
        last = one.given;
        sent = sent_up want so_far.heard ++ one.sent;
        told = listed so_far.heard ++ one.told;
        whole = so_far.whole;
        few = few_with 40 _ so_far.periods one.given n so_far.whole so_far.count (omega (arith, room, ends.part));
        are_heard = so_far.stands.found;
        moves = moves_on _ _ _ _ _ _ _ _ _ _ _ _ _ _ _ so_far.moves one.moves;
        ends = record {
          room = omega (arith, so_far.count, room);
          part = ends.part;
          all_sent = ap (λ l. sent_up want so_far.heard ++ l) ends.nothing_sent ∙ append-nil (sent_up want so_far.heard);
          all_told = ap (λ l. listed so_far.heard ++ l) ends.nothing_told ∙ append-nil (listed so_far.heard);
          rose = subst (λ before. Rose before u2.faults) so_far.calm.up_same ends.rose;
          down_same = ends.down_same ∙ so_far.calm.down_same;
          desk_same = ends.desk_same ∙ so_far.calm.desk_same;
        };
      }

  pub write_failed : n < 2 ^ 32 - 1 → FollowsOn ccu ccu' u1 u2 d1 d2 k1 k2 WriteFailed → Follows u0 u2 d0 d2 k0 k2 want follow.WriteFailed
  unfolding periods_now heard_now
  write_failed room one =
      let ends = one.ends in
      let before = sent_up want so_far.heard in
      let whole = sent_now one.given ends.found ends.takes in
      let sent = before ++ one.sent in
      record {
        periods = so_far.periods ++ one.given ∷ [];
        heard = ends.found ∷ so_far.heard;
        last = [];
        sent = sent;
        told = listed so_far.heard ++ one.told;
        whole = whole_now one.given ends.found ends.takes;
        few = few_with 40 _ (so_far.periods ++ one.given ∷ []) [] (n + 1) (whole_now one.given ends.found ends.takes) (count_now one.given)
            (omega (arith, room));
        are_heard = (stands_now one.given ends.found ends.takes).found;
        moves = subst (λ l. Moves u0 u2 d0 d2 k0 k2 l sent (listed so_far.heard ++ one.told)) (sym (append-nil (concat (so_far.periods ++ one.given ∷ []))))
            (moves_now one.given ends.found ends.takes one.sent one.told one.moves);
        ends = record {
          nothing_more = refl;
          newest = ends.found;
          earlier = so_far.heard;
          split = refl;
          reached = omega (arith, length-append before one.sent);
          proper = omega (arith, ends.proper, length-append before one.sent, ap length whole ∙ length-append before (octets_saying ccu'.answer));
          front = front_of before one.sent (octets_saying ccu'.answer) ends.front ∙ ap (λ l. take (length sent) l) (sym whole);
          earlier_told = ap (λ l. listed so_far.heard ++ l) ends.nothing_told ∙ append-nil (listed so_far.heard);
          up_same = ends.up_same ∙ so_far.calm.up_same;
          rose = subst (λ before. Rose before d2.faults) so_far.calm.down_same ends.rose;
          desk_same = ends.desk_same ∙ so_far.calm.desk_same;
        };
      }

  pub desk_failed : n < 2 ^ 32 - 1 → FollowsOn ccu ccu' u1 u2 d1 d2 k1 k2 DeskFailed → Follows u0 u2 d0 d2 k0 k2 want follow.DeskFailed
  unfolding periods_now heard_now
  desk_failed room one =
      let ends = one.ends in
      let before = listed so_far.heard in
      let whole = listed_now one.given ends.found ends.takes in
      let told = before ++ one.told in
      record {
        periods = so_far.periods ++ one.given ∷ [];
        heard = ends.found ∷ so_far.heard;
        last = [];
        sent = sent_up want so_far.heard ++ one.sent;
        told = told;
        whole = whole_now one.given ends.found ends.takes;
        few = few_with 40 _ (so_far.periods ++ one.given ∷ []) [] (n + 1) (whole_now one.given ends.found ends.takes) (count_now one.given)
            (omega (arith, room));
        are_heard = (stands_now one.given ends.found ends.takes).found;
        moves = subst (λ l. Moves u0 u2 d0 d2 k0 k2 l (sent_up want so_far.heard ++ one.sent) told)
            (sym (append-nil (concat (so_far.periods ++ one.given ∷ [])))) (moves_now one.given ends.found ends.takes one.sent one.told one.moves);
        ends = record {
          nothing_more = refl;
          newest = ends.found;
          earlier = so_far.heard;
          split = refl;
          all_sent = ap (λ l. sent_up want so_far.heard ++ l) ends.sent_is ∙ sym (sent_now one.given ends.found ends.takes);
          reached = omega (arith, length-append before one.told);
          proper = omega (arith, ends.proper, length-append before one.told, ap length whole ∙ length-append before (lines_of ends.found));
          front = front_of before one.told (lines_of ends.found) ends.front ∙ ap (λ l. take (length told) l) (sym whole);
          up_same = ends.up_same ∙ so_far.calm.up_same;
          down_same = ends.down_same ∙ so_far.calm.down_same;
          rose = subst (λ before. Rose before k2.write_faults) so_far.calm.desk_same ends.rose;
        };
      }

-- so many periods were taken that no more are
pub at_last : (ccu : CcuMemory) (want : ℕ) (u0 u1 d0 d1 : LineState) (k0 k1 : DeskState) (n frames : ℕ) → SoFar ccu want u0 u1 d0 d1 k0 k1 n frames →
    n ≡ 2 ^ 32 - 1 → Follows u0 u1 d0 d1 k0 k1 want (follow.Done frames 0)
at_last ccu want u0 u1 d0 d1 k0 k1 n frames so_far last = record {
  periods = so_far.periods;
  heard = so_far.heard;
  last = [];
  sent = sent_up want so_far.heard;
  told = listed so_far.heard;
  whole = so_far.whole;
  few = few_with 40 _ so_far.periods [] n so_far.whole so_far.count (omega (arith, last));
  are_heard = so_far.stands.found;
  moves = subst (λ l. Moves u0 u1 d0 d1 k0 k1 l (sent_up want so_far.heard) (listed so_far.heard)) (sym (append-nil (concat so_far.periods))) so_far.moves;
  ends = record {
    at_end = inr (so_far.count ∙ last, refl);
    frames_are = so_far.frames_are;
    left_is = refl;
    less = omega arith;
    all_sent = refl;
    all_told = refl;
    up_same = so_far.calm.up_same;
    down_same = so_far.calm.down_same;
    desk_same = so_far.calm.desk_same;
  };
}
