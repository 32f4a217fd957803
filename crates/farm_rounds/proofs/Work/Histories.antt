-- A round that is worked: its calls stand for the periods that it adds, and their octets are those of them.
use Rattle.std.proofs.Common.{◌≡◌, ◌≢◌, refl, sym, ap, ◌∙◌, subst, ℕ, ◌*◌, ◌<◌, ◌≤◌, Bool, true, false, Option, Some, None, List, [], ◌∷◌, length, get_or, arith, inl, inr}
use Rattle.std.specs.Prelude.{◌==◌, ◌&&◌, nat_le, min, if◌then◌else◌, is_some, map}
use Rattle.std.proofs.lemmas.Bool.{cases_Bool, eqb-true, eq-eqb, false≢true}
use Rattle.std.specs.Option.{option_map, option_and_then}
use Rattle.std.specs.List.{All}
use Rattle.std.proofs.lemmas.List.{length-map, get_or-map}
use Rattle.std.proofs.lemmas.List.Elements.{All-map, All-from_get_or, All-get_or}
use Rattle.call_number.specs.CallNumber.{IsCallNumber}
use Rattle.call_leg.specs.Stands.{Stands}
use Rattle.call_pair.specs.Memory.{HalfMemory, IsIo, Job}
use Rattle.call_pair.specs.History.{io_after}
use Rattle.call_pair.specs.Jobs.{half_of, finished_job}
use Rattle.call_pair.specs.Phases.{half_in, begin}
use Rattle.round_lines.specs.Memory.{LinesMemory, whole_in}
use Rattle.round_lines.specs.Portions.{PortionMemory}
use Rattle.round_lines.specs.Rounds.{Rising, EndsWithin, portion_at, call_at}
use Rattle.farm_rounds.specs.declared.open.OpenCall.{OpenCall}
use Rattle.farm_rounds.specs.Calls.{Call, Kept, call_in, partner_in}
use Rattle.farm_rounds.specs.Numbers.{IsRising}
use Rattle.farm_rounds.specs.Opens.{kept_of, portion_of_open, portion_with, goes_on_open, open_finished}
use Rattle.farm_rounds.specs.Opened.{no_open, met_beside, OctetsFit}
use Rattle.farm_rounds.specs.Histories.{CallHistory, whose, CallStands, CallsStand}
use Rattle.farm_rounds.specs.Rounds.{io_of}
use Rattle.farm_rounds.specs.Settling.{goes_on_in}
use Rattle.farm_rounds.specs.RoundHistories.{portion_of, worked_histories, history_with, WorkedCall, AreWorked}
use Rattle.farm_rounds.specs.Working.{RoundMemory, IsInRound, IsRound, IsWorkedCall, IsWorkedRound, StaysBridged, that_stays, goes_on_call}
use Rattle.farm_rounds.specs.Finishing.{half_worked}
use Rattle.farm_rounds.proofs.Places.Found.{number_of, open_in, is_found, found_all, find_at, kept_by, partner_by, partner_found}
use Rattle.farm_rounds.proofs.Work.Phases.{half_open, IsDone, done_keeps, done_periods}
use Rattle.farm_rounds.proofs.Drain.GoingOn.{goes_on_at}
use Rattle.farm_rounds.proofs.Work.Portions.{portion_read_at, portions_rising}
use Rattle.farm_rounds.proofs.Work.Halves.{ends, ends_with, told as told_open, all_told, done, all_done, done_found, in_round, beside, portion_found, kept_found, job_alone, job_both, worked_half}
use Rattle.farm_rounds.proofs.Work.Bridged.{flag_after, le_is, not_le_is}
use Rattle.farm_rounds.proofs.Work.Finished.{Portioned, Finished, alone_finished, beside_finished}

-- what stands for an open call
record Told (c : ℕ) (o : Option CallHistory) (h : HalfMemory) (partner : Option ℕ) : Type 0 where
  history : CallHistory
  told : o ≡ Some history
  leg : Stands (whose c history) history.periods history.now h.leg
  bridged : history.now.bridged ≡ is_some partner

told_of : (c : ℕ) (o : Option CallHistory) (call : OpenCall) (x : Option Call) (p : Option ℕ) → x ≡ Some (kept_of call).call → CallStands c o x p →
    Told c o (half_open call) p
told_of c None call x p e s = absurd (subst (λ (y : Option Call). CallStands c None y p) e s)
told_of c (Some y) call x p e s =
    let k = subst (λ (z : Option Call). CallStands c (Some y) z p) e s in
    record { history = y; told = refl; leg = k.1; bridged = k.2 }

-- of a call that isn't there nothing is told
none_told : (c : ℕ) (o : Option CallHistory) (x : Option Call) (p : Option ℕ) → x ≡ None → CallStands c o x p → (o ≡ None) × (p ≡ None)
none_told c None x p e s = (refl, subst (λ (y : Option Call). CallStands c None y p) e s)
none_told c (Some h) x p e s = absurd (subst (λ (y : Option Call). CallStands c (Some h) y p) e s)

module _ (start ended : ℕ) (live : List ℕ) (os : List OpenCall) (i : IsRound start ended live os) where
  abbrev Numbers : List OpenCall → Type 0
  Numbers xs = All (λ o. o.lines.call ≡ o.job.io.call) xs

  keeps : (o : OpenCall) → IsDone o (done os o)
  keeps o = done_keeps (all_told os) (ends os o) o

  -- ---- what a round keeps

  rising : IsRising (map number_of os)
  rising = subst IsRising i.opened.listed i.opened.rising

  numbers_in : (xs : List OpenCall) → map number_of (map (done os) xs) ≡ map number_of xs
  numbers_in [] = refl
  numbers_in (x ∷ xs) =
      ap (λ (n : ℕ). n ∷ map number_of (map (done os) xs)) (keeps x).call ∙ ap (λ (ns : List ℕ). x.job.io.call ∷ ns) (numbers_in xs)

  place_at : (k : ℕ) → k < length os → (get_or os k no_open).lines.call ≡ (get_or os k no_open).job.io.call
  place_at k l = (All-get_or (IsInRound start ended) os k no_open l i.each).call.lines

  placed : Numbers os
  placed = All-from_get_or (λ o. o.lines.call ≡ o.job.io.call) os no_open place_at

  done_place : (o : OpenCall) → o.lines.call ≡ o.job.io.call → (done os o).lines.call ≡ (done os o).job.io.call
  done_place o e = ap (λ (p : LinesMemory). p.call) (keeps o).lines ∙ e ∙ sym (keeps o).call

  placed_done : Numbers (all_done os)
  placed_done = All-map (λ o. o.lines.call ≡ o.job.io.call) (done os) os
      (All-from_get_or (λ o. (done os o).lines.call ≡ (done os o).job.io.call) os no_open (λ k l. done_place (get_or os k no_open) (place_at k l)))

  rising_done : IsRising (map number_of (all_done os))
  rising_done = subst IsRising (sym (numbers_in os)) rising

  pub portions_done_rising : Rising (map portion_of_open (all_done os))
  portions_done_rising = portions_rising (all_done os) rising_done placed_done

  pub portions_number : length (map portion_of_open (all_done os)) ≡ length (map portion_of_open os)
  portions_number = length-map (all_done os) portion_of_open ∙ length-map os (done os) ∙ sym (length-map os portion_of_open)

  -- the portion at a place, before and after
  portion_before : (k : ℕ) → k < length os → portion_at (map portion_of_open os) k ≡ portion_of_open (get_or os k no_open)
  portion_before k l = portion_read_at os k l

  portion_after : (k : ℕ) → k < length os → portion_at (map portion_of_open (all_done os)) k ≡ portion_of_open (done os (get_or os k no_open))
  portion_after k l =
      portion_read_at (all_done os) k (omega (arith, l, length-map os (done os))) ∙ ap portion_of_open (get_or-map (done os) os k no_open no_open l)

  inside : (k : ℕ) → k < length (map portion_of_open os) → k < length os
  inside k l = omega (arith, l, length-map os portion_of_open)

  pub same_place : (k : ℕ) → k < length (map portion_of_open os) →
      (portion_at (map portion_of_open (all_done os)) k).lines ≡ (portion_at (map portion_of_open os) k).lines
  same_place k l =
      ap (λ (s : PortionMemory). s.lines) (portion_after k (inside k l)) ∙ (keeps (get_or os k no_open)).lines
      ∙ sym (ap (λ (s : PortionMemory). s.lines) (portion_before k (inside k l)))

  -- the round's periods have numbers
  pub ends_within : EndsWithin start (map portion_of_open (all_done os))
  ends_within k l =
      let lk : k < length (map portion_of_open os) = omega (arith, l, portions_number) in
      let r = All-get_or (IsInRound start ended) os k no_open (inside k lk) i.each in
      let e = ap (λ (p : LinesMemory). p.periods) (same_place k lk) in
      let f = ap (λ (s : PortionMemory). s.lines.periods) (portion_before k (inside k lk)) in
      omega (arith, r.periods, i.last, e, f)

  pub same_partner : (c : ℕ) → partner_in (map kept_of (all_done os)) c ≡ partner_in (map kept_of os) c
  same_partner c = by (open_in os c) refl where
    read : (x : Option OpenCall) → option_and_then (λ k. k.partner) (option_map kept_of (option_map (done os) x)) ≡ option_and_then (λ k. k.partner)
        (option_map kept_of x)
    read None = refl
    read (Some o) = (keeps o).partner

    by : (x : Option OpenCall) → open_in os c ≡ x → partner_in (map kept_of (all_done os)) c ≡ partner_in (map kept_of os) c
    by x e =
        partner_by (all_done os) c
        ∙ ap (λ (y : Option OpenCall). option_and_then (λ (k : Kept). k.partner) (option_map kept_of y)) (done_found os c)
        ∙ read (open_in os c)
        ∙ sym (partner_by os c)

  -- ---- a call after it

  -- it goes on if its lines gave all periods
  going : (c : ℕ) (o : OpenCall) → open_in os c ≡ Some o → goes_on_call (map portion_of_open (all_done os)) c ≡ goes_on_open o
  going c o e =
      let after = map portion_of_open (all_done os) in
      let f = is_found os c o e in
      let k = f.index in
      let lk : k < length (map portion_of_open os) = omega (arith, f.inside, length-map os portion_of_open) in
      let la : k < length after = omega (arith, lk, portions_number) in
      let place : (portion_at after k).lines ≡ o.lines = same_place k lk ∙ ap (λ (s : PortionMemory). s.lines) (portion_before k f.inside ∙ ap portion_of_open f.there) in
      let call : call_at after k ≡ c = ap (λ (p : LinesMemory). p.call) place ∙ (in_round start ended live os i c o e).call.lines ∙ f.number in
      subst (λ (n : ℕ). goes_on_call after n ≡ goes_on_in (portion_at after k)) call (goes_on_at after k portions_done_rising la)
      ∙ ap (λ (p : LinesMemory). whole_in p == p.periods) place

  call_after : (c : ℕ) (o : OpenCall) → open_in os c ≡ Some o → call_in (map kept_of (all_done os)) c ≡ Some (kept_of (done os o)).call
  call_after c o e =
      ap (option_map (λ (k : Kept). k.call)) (kept_by (all_done os) c ∙ ap (option_map kept_of) (done_found os c ∙ ap (option_map (done os)) e))

  module _ (r : RoundMemory) (calls : r.farm.calls ≡ map kept_of os) (portions : r.portions ≡ map portion_of_open os) where
    half_is : (c : ℕ) (o : OpenCall) → open_in os c ≡ Some o → half_worked r c ≡ half_in (done os o).job
    half_is c o e = worked_half start ended live os i r calls portions c o e

    pub leg_after : (k : ℕ) → k < length (map portion_of_open os) → let c = call_at (map portion_of_open os) k in
        option_map (λ (x : Call). x.leg) (call_in (map kept_of (all_done os)) c) ≡ Some (half_worked r c).leg
    leg_after k l =
        let lk = inside k l in
        let o = get_or os k no_open in
        let c = o.job.io.call in
        let e = find_at os k rising lk in
        let at : call_at (map portion_of_open os) k ≡ c = ap (λ (s : PortionMemory). s.lines.call) (portion_before k lk) ∙ place_at k lk in
        subst (λ (n : ℕ). option_map (λ (x : Call). x.leg) (call_in (map kept_of (all_done os)) n) ≡ Some (half_worked r n).leg) (sym at)
        (ap (option_map (λ (x : Call). x.leg)) (call_after c o e) ∙ ap (λ (h : HalfMemory). Some h.leg) (sym (half_is c o e)))

    pub portion_left : (k : ℕ) → k < length (map portion_of_open os) → let s = portion_at (map portion_of_open os) k in portion_at (map portion_of_open (all_done os)) k
        ≡ portion_with s.lines (half_worked r s.lines.call).io
    portion_left k l =
        let lk = inside k l in
        let o = get_or os k no_open in
        let e = find_at os k rising lk in
        portion_after k lk
        ∙ ap (λ (p : LinesMemory). portion_with p (done os o).job.io) (keeps o).lines
        ∙ ap (λ (h : HalfMemory). portion_with o.lines h.io) (sym (half_is o.job.io.call o e))
        ∙ ap (λ (n : ℕ). portion_with o.lines (half_worked r n).io) (sym (place_at k lk))
        ∙ ap (λ (s : PortionMemory). portion_with s.lines (half_worked r s.lines.call).io) (sym (portion_before k lk))

    -- ---- for all periods that the calls may have had

    module _ (within : All (λ o. whole_in o.lines ≤ o.lines.periods) os) (h : ℕ → Option CallHistory) (stand : CallsStand h (map kept_of os)) where
      abbrev before : List PortionMemory
      before = map portion_of_open os

      abbrev after : List PortionMemory
      after = map portion_of_open (all_done os)

      abbrev partner : ℕ → Option ℕ
      partner = partner_in (map kept_of os)

      portioned : (c : ℕ) (o : OpenCall) → open_in os c ≡ Some o → Portioned before (goes_on_call after) o.lines.periods c (half_open o)
      portioned c o e =
          let q = in_round start ended live os i c o e in
          let is = portion_found start ended live os i c o e in
          let bound = found_all (λ x. whole_in x.lines ≤ x.lines.periods) os c o e within in
          record {
            octets = ap io_of (sym is);
            sound = subst (λ (s : PortionMemory). IsIo (io_of s)) (sym is)
                (record {
                  number = subst IsCallNumber (sym q.call.lines) q.call.number;
                  room = record {
                    periods = o.lines.periods;
                    enough = bound;
                    up_room = q.fits.up;
                    pcm_room = q.fits.pcm;
                    out_room = q.fits.out;
                    down_room = q.fits.down;
                  };
                  within = omega arith;
                });
            number = ap (λ (s : PortionMemory). s.lines.call) is ∙ q.call.lines ∙ (is_found os c o e).number;
            within = subst (λ (s : PortionMemory). whole_in s.lines ≤ o.lines.periods) (sym is) bound;
            full = going c o e ∙ ap (λ (s : PortionMemory). whole_in s.lines == o.lines.periods) (sym is);
          }

      told : (c : ℕ) (o : OpenCall) → open_in os c ≡ Some o → Told c (h c) (half_open o) (partner c)
      told c o e =
          told_of c (h c) o (call_in (map kept_of os) c) (partner c) (ap (option_map (λ (k : Kept). k.call)) (kept_found start ended live os i c o e)) (stand c)

      abbrev Finishes : ℕ → HalfMemory → Type 0
      Finishes c f = Finished before (goes_on_call after) h partner c f

      finishes : (c : ℕ) (o : OpenCall) → open_in os c ≡ Some o → Finishes c (half_worked r c)
      finishes c o e = by o.partner refl
        where
          t : Told c (h c) (half_open o) (partner c)
          t = told c o e

          by : (q : Option ℕ) → o.partner ≡ q → Finishes c (half_worked r c)
          by None q =
              let alone : partner c ≡ None = partner_found os c o e ∙ q in
              subst (Finishes c) (sym (ap (λ (j : Job). half_of (finished_job j) c) (job_alone start ended live os i r calls portions c o e q)))
              (alone_finished before (goes_on_call after) h partner o.lines.periods c (half_open o) t.history (portioned c o e) t.told alone t.leg
              (t.bridged ∙ ap is_some alone))
          by (Some d) q =
              let b = beside start ended live os i c o d e q in
              let p = b.other in
              let u = told d p b.found in
              let mine : partner c ≡ Some d = partner_found os c o e ∙ q in
              let its : partner d ≡ Some c = partner_found os d p b.found ∙ b.back in
              let same : p.lines.periods ≡ o.lines.periods =
              omega (arith, (in_round start ended live os i c o e).periods, (in_round start ended live os i d p b.found).periods) in
              subst (Finishes c) (sym (ap (λ (j : Job). half_of (finished_job j) c) (job_both start ended live os i r calls portions c o d p e q b.found)))
              (beside_finished before (goes_on_call after) h partner o.lines.periods c d (half_open o) (half_open p) t.history u.history (portioned c o e)
              (subst (λ (n : ℕ). Portioned before (goes_on_call after) n d (half_open p)) same (portioned d p b.found)) t.told u.told mine t.leg u.leg
              (t.bridged ∙ ap is_some mine) (u.bridged ∙ ap is_some its))

      abbrev Works : ℕ → Option CallHistory → Option Call → Option ℕ → Type 0
      Works c x y p = WorkedCall (goes_on_call after) c x y p

      pub worked_call : (c : ℕ) → Works c (worked_histories before partner h c) (call_in (map kept_of (all_done os)) c)
          (partner_in (map kept_of (all_done os)) c)
      worked_call c = by (open_in os c) refl where
        by : (x : Option OpenCall) → open_in os c ≡ x → Works c (worked_histories before partner h c) (call_in (map kept_of (all_done os)) c)
            (partner_in (map kept_of (all_done os)) c)
        by None e =
            let was : call_in (map kept_of os) c ≡ None = ap (option_map (λ (k : Kept). k.call)) (kept_by os c ∙ ap (option_map kept_of) e) in
            let gone : call_in (map kept_of (all_done os)) c ≡ None =
            ap (option_map (λ (k : Kept). k.call)) (kept_by (all_done os) c ∙ ap (option_map kept_of) (done_found os c ∙ ap (option_map (done os)) e)) in
            let none = none_told c (h c) (call_in (map kept_of os) c) (partner c) was (stand c) in
            let history : worked_histories before partner h c ≡ None = ap (option_map (history_with before h c (partner c))) none.0 in
            subst (λ (y : Option Call). Works c (worked_histories before partner h c) y (partner_in (map kept_of (all_done os)) c)) (sym gone)
            (subst (λ (x : Option CallHistory). Works c x None (partner_in (map kept_of (all_done os)) c)) (sym history) (same_partner c ∙ none.1))
        by (Some o) e =
            let f = finishes c o e in
            let half = half_is c o e in
            let number : (done os o).job.io.call ≡ c = (keeps o).call ∙ (is_found os c o e).number in
            let leg = subst (λ (g : HalfMemory). Stands (whose c f.now) f.now.periods f.now.now g.leg) half f.leg in
            subst (λ (p : Option ℕ). Works c (worked_histories before partner h c) (call_in (map kept_of (all_done os)) c) p) (sym (same_partner c))
            (subst (λ (y : Option Call). Works c (worked_histories before partner h c) y (partner c)) (sym (call_after c o e))
            (subst (λ (x : Option CallHistory). Works c x (Some (kept_of (done os o)).call) (partner c)) (sym f.told) (number, leg, f.bridged)))

      pub worked_octets : AreWorked before (worked_histories before partner h) after
      worked_octets k x l e =
          let lk = inside k l in
          let o = get_or os k no_open in
          let c = o.job.io.call in
          let s = portion_at before k in
          let found = find_at os k rising lk in
          let f = finishes c o found in
          let at : call_at before k ≡ c = ap (λ (t : PortionMemory). t.lines.call) (portion_before k lk) ∙ place_at k lk in
          let here : portion_of before c ≡ s = portion_found start ended live os i c o found ∙ sym (portion_before k lk) in
          let same : f.now ≡ x = some_same f.now x (sym f.told ∙ ap (worked_histories before partner h) (sym at) ∙ e) in
          portion_left k l
          ∙ ap (λ (n : ℕ). portion_with s.lines (half_worked r n).io) at
          ∙ ap (portion_with s.lines) f.octets
          ∙ ap (λ (t : PortionMemory). portion_with s.lines (io_after (whose c f.now) (whole_in t.lines) f.now.periods (io_of t))) here
          ∙ ap (λ (y : CallHistory). portion_with s.lines (io_after (whose c y) (whole_in s.lines) y.periods (io_of s))) same
          ∙ ap (λ (n : ℕ). portion_with s.lines (io_after (whose n x) (whole_in s.lines) x.periods (io_of s))) (sym at)
        where
          some_same : (y z : CallHistory) → Some y ≡ Some z → y ≡ z
          some_same y z q = cc

  -- ---- the round that is worked

  -- no more periods came than were planned
  pub came : All OctetsFit (all_done os) → All (λ o. whole_in o.lines ≤ o.lines.periods) os
  came sound = All-from_get_or (λ o. whole_in o.lines ≤ o.lines.periods) os no_open (λ k l.
      let o = get_or os k no_open in
      let s = subst OctetsFit (get_or-map (done os) os k no_open no_open l)
      (All-get_or OctetsFit (all_done os) k no_open (omega (arith, l, length-map os (done os))) sound) in
      subst (λ (p : LinesMemory). whole_in p ≤ p.periods) (keeps o).lines s.1)

  worked_one : (o : OpenCall) → IsInRound start ended o → OctetsFit (done os o) → IsWorkedCall ended (done os o)
  worked_one o q s =
      let d = done os o in
      let place = (keeps o).lines in
      let bound : whole_in o.lines ≤ o.lines.periods = subst (λ (p : LinesMemory). whole_in p ≤ p.periods) place s.1 in
      let periods = ap (λ (p : LinesMemory). p.periods) place in
      let up : length d.job.io.up ≡ 40 * o.lines.periods = ap length (keeps o).up ∙ q.fits.up in
      let room = s.0.room in
      let same : room.periods ≡ o.lines.periods = omega (arith, up, room.up_room) in
      record {
        number = s.0.number;
        lines = done_place o q.call.lines;
        worked = omega (arith, done_periods (all_told os) start ended (ends os o) o q, bound, q.call.worked, q.periods);
        fits = record {
          up = omega (arith, up, periods);
          pcm = omega (arith, room.pcm_room, same, periods);
          down = omega (arith, room.down_room, same, periods);
          out = omega (arith, room.out_room, same, periods);
        };
      }

  -- whether a call is bridged behind both phases
  done_flag : (o : OpenCall) → IsInRound start ended o →
      (done os o).job.down.bridged ≡ (o.job.down.bridged && nat_le (whole_in o.lines) (ends os o))
  done_flag o r = by o.partner where
    by : (p : Option ℕ) → (open_finished (met_beside (all_told os) (told_open os o) p)).job.down.bridged
        ≡ (o.job.down.bridged && nat_le (whole_in o.lines) (ends os o))
    by None = flag_after (begin (whole_in o.lines) (ends os o) o.job) (told_open os o).job.partner r.call.first
    by (Some d) = flag_after (begin (whole_in o.lines) (ends os o) o.job) _ r.call.first

  -- one that goes on is so where its partner goes on too
  still_one : (o : OpenCall) → open_in os o.job.io.call ≡ Some o → All (λ o. whole_in o.lines ≤ o.lines.periods) os →
      StaysBridged (goes_on_call (map portion_of_open (all_done os))) (done os o)
  still_one o e within goes = by o.partner refl where
    r : IsInRound start ended o
    r = in_round start ended live os i o.job.io.call o e

    all : whole_in o.lines ≡ o.lines.periods
    all = eqb-true (whole_in o.lines) o.lines.periods (ap (λ (q : LinesMemory). whole_in q == q.periods) (sym (keeps o).lines) ∙ goes)

    by : (q : Option ℕ) → o.partner ≡ q → (done os o).job.down.bridged
        ≡ is_some (that_stays (goes_on_call (map portion_of_open (all_done os))) (done os o).partner)
    by None q =
        done_flag o r ∙ ap (λ (b : Bool). b && nat_le (whole_in o.lines) (ends os o)) (r.call.down ∙ ap (λ (p : Option ℕ). is_some p) q)
        ∙ sym (ap (λ (p : Option ℕ). is_some (that_stays (goes_on_call (map portion_of_open (all_done os))) p)) ((keeps o).partner ∙ q))
    by (Some d) q =
        let b = beside start ended live os i o.job.io.call o d e q in
        let p = b.other in
        let other = in_round start ended live os i d p b.found in
        let most : whole_in p.lines ≤ p.lines.periods = found_all (λ o. whole_in o.lines ≤ o.lines.periods) os d p b.found within in
        done_flag o r ∙ ap (λ (b : Bool). b && nat_le (whole_in o.lines) (ends os o)) (r.call.down ∙ ap (λ (p : Option ℕ). is_some p) q)
        ∙ ap (λ (m : ℕ). nat_le (whole_in o.lines) m) (ends_with start ended live os i o.job.io.call o d p q b.found)
        ∙ short (whole_in o.lines) (whole_in p.lines) p.lines.periods (omega (arith, all, r.periods, other.periods)) most
        ∙ sym (going d p b.found) ∙ stayed (goes_on_call (map portion_of_open (all_done os)) d)
        ∙ sym (ap (λ (p : Option ℕ). is_some (that_stays (goes_on_call (map portion_of_open (all_done os))) p)) ((keeps o).partner ∙ q))
      where
        short : (a b n : ℕ) → a ≡ n → b ≤ n → nat_le a (min a b) ≡ (b == n)
        short a b n e l = elim (cases_Bool (b == n)) [
          | inl t ↦ le_is a (min a b) (let f = eqb-true b n t in omega (arith, e, f)) ∙ sym t
          | inr f ↦ not_le_is a (min a b) (let apart : b ≢ n = λ g. false≢true (sym f ∙ eq-eqb b n g) in omega (arith, e, l, apart)) ∙ sym f
        ]

        stayed : (b : Bool) → b ≡ is_some (if b then Some d else None)
        stayed true = refl
        stayed false = refl

  still_bridged : All OctetsFit (all_done os) → All (StaysBridged (goes_on_call (map portion_of_open (all_done os)))) (all_done os)
  still_bridged sound =
      All-map (StaysBridged (goes_on_call (map portion_of_open (all_done os)))) (done os) os
      (All-from_get_or (λ o. StaysBridged (goes_on_call (map portion_of_open (all_done os))) (done os o)) os no_open
      (λ k l. still_one (get_or os k no_open) (find_at os k rising l) (came sound)))

  pub worked_round : All OctetsFit (all_done os) → IsWorkedRound ended live (all_done os)
  worked_round sound = record {
    listed = i.opened.listed ∙ sym (numbers_in os);
    rising = i.opened.rising;
    each = All-map (IsWorkedCall ended) (done os) os (All-from_get_or (λ o. IsWorkedCall ended (done os o)) os no_open (λ k l.
        worked_one (get_or os k no_open) (All-get_or (IsInRound start ended) os k no_open l i.each)
        (subst OctetsFit (get_or-map (done os) os k no_open no_open l)
        (All-get_or OctetsFit (all_done os) k no_open (omega (arith, l, length-map os (done os))) sound))));
    both = λ c d e.
        let b = i.opened.both c d (sym (same_partner c) ∙ e) in
        (same_partner d ∙ b.0, b.1);
    bridged = still_bridged sound;
  }
